use Rattle.bd_cli_scan.proofs.CheckLemmas as checks
use Rattle.bd_cli_scan.proofs.DumpLemmas as dumps
use Rattle.bd_cli.proofs.laws.prints_a_prefix.Goals as goal

pub returns : goal.returns
returns c = record { dump = dumps.prints_prefix; check = checks.prints_prefix }
