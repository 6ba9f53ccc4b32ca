use Rattle.std.proofs.Common.{◌≡◌, length}
use Rattle.std.specs.List.{list_any}
use Rattle.bd_path.specs.PathNames.{names_of}
use Rattle.bd_wide_dump.specs.Fields.{leads, requested}
use Rattle.bd_wide_dump.proofs.requested.leads_to_some.Given as goal

abbrev pub invariant-loop-rest : goal.invariant-loop-rest
invariant-loop-rest l = list_any (leads (names_of l.path)) (requested l.rest) ≡ list_any (leads (names_of l.path)) (requested l.others)

abbrev pub decreases-loop-rest : goal.decreases-loop-rest
decreases-loop-rest l = length l.rest
