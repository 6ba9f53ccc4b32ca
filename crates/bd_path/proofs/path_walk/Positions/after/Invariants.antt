use Rattle.std.proofs.Common.{ℕ, suc, ◌<◌}
use Rattle.bd_path.specs.{Path.component_names, inside.PathWalk.IsOpen, PathWalk.Leads, PathWalk.LedTo, declared.path_walk.Visits.TheVariants.From}
use Rattle.bd_path.proofs.path_walk.Positions.after.Given as goal

abbrev pub invariant-loop-k : goal.invariant-loop-k
invariant-loop-k l = record {
  all : (j : ℕ) → j < l.k → Leads l.step (component_names l.path) (From l.self) j → IsOpen l.next (suc j);
  only : (j : ℕ) → IsOpen l.next j → LedTo l.step (component_names l.path) (From l.self) j;
}
