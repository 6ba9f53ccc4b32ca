use Rattle.bd_wide_cli.proofs.PlainServeLemmas.{served_alike}
use Rattle.bd_wide_cli.proofs.laws.serves_as_bsonfind.Goals as goal

pub returns : goal.returns
returns g c = λ file scans plain output is. served_alike g.C.Input.state g.C.Input.read_gives c.args.old.now c.args.new.now file scans plain output is.0 is.1
