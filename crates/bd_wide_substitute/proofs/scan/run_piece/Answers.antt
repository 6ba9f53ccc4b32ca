use Rattle.std.proofs.Common.{◌-◌, ap, length}
use Rattle.bd_wide_substitute.proofs.PieceLemmas.{double_found, run_found}
use Rattle.bd_wide_substitute.proofs.scan.run_piece.Goals as goal

pub returns-in-Some : goal.returns-in-Some
returns-in-Some c =
    let bytes = c.args.bytes.now in
    double_found bytes c.split_at.result.0.now (length bytes - length c.skip_run.result.now) c.requires (ap (λ t. length bytes - length t) c.skip_run.ensures.rest) c.split_at.ensures.front
    c.in-Some.bits c.in-Some.ensures.some

pub returns-in-None : goal.returns-in-None
returns-in-None c =
    let bytes = c.args.bytes.now in
    run_found bytes c.split_at.result.0.now (length bytes - length c.skip_run.result.now) c.requires (ap (λ t. length bytes - length t) c.skip_run.ensures.rest) c.split_at.ensures.front c.in-None.ensures.none
