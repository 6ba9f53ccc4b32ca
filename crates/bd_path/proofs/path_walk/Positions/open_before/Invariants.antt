use Rattle.std.proofs.Common.{ℕ, ◌<◌, ◌⊎◌}
use Rattle.bd_path.specs.inside.PathWalk.{IsOpen}
use Rattle.bd_path.proofs.path_walk.Positions.open_before.Given as goal

abbrev pub invariant-loop-k : goal.invariant-loop-k
invariant-loop-k l = record {
  same_source : (j : ℕ) → IsOpen l.initial.self j → IsOpen l.self j;
  all : (j : ℕ) → j < l.k → IsOpen l.others j → IsOpen l.self j;
  only : (j : ℕ) → IsOpen l.self j → IsOpen l.initial.self j ⊎ (j < l.k) × IsOpen l.others j;
}
