use Rattle.std.proofs.Common.{◌≡◌, ◌++◌, length}
use Rattle.bd_wide_dump.specs.Fields.{requested}
use Rattle.bd_wide_dump.specs.inside.Projects.{paths_of}
use Rattle.bd_wide_dump.proofs.fields.all_fields.Given as goal

abbrev pub invariant-loop-rest : goal.invariant-loop-rest
invariant-loop-rest l = paths_of l.fields.items ++ requested l.rest ≡ requested l.paths

abbrev pub decreases-loop-rest : goal.decreases-loop-rest
decreases-loop-rest l = length l.rest
