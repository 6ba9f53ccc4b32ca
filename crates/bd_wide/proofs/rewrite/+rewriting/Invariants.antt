use Rattle.std.proofs.Common.{◌≡◌, ◌+◌, ◌*◌, ◌++◌, length}
use Rattle.std.specs.Io.{StartsWith}
use Rattle.bd_wide.specs.Rewritten.{IsNested}
use Rattle.bd_wide.proofs.RunLemmas.{before}
use Rattle.bd_wide.proofs.RewriteLemmas.{Comes}
use Rattle.bd_wide.proofs.rewrite.+rewriting.Given as goal

abbrev pub decreases-nested : goal.decreases-nested
decreases-nested g l = 4 * l.depth_left

abbrev pub decreases-element : goal.decreases-element
decreases-element g l = 4 * l.depth_left + 1

abbrev pub decreases-elements : goal.decreases-elements
decreases-elements g l = 4 * l.depth_left + 2

abbrev pub decreases-body : goal.decreases-body
decreases-body g l = 4 * l.depth_left + 3

abbrev pub decreases-scoped : goal.decreases-scoped
decreases-scoped g l = 4 * l.depth_left + 3

abbrev pub decreases-with_scope : goal.decreases-with_scope
decreases-with_scope g l = 4 * l.depth_left + 1

abbrev pub invariant-elements-loop-typed : goal.invariant-elements-loop-typed
invariant-elements-loop-typed g l = record {
  comes : Comes (g.W.NumberWriter.is_written l.writer)
      (IsNested (g.W.NumberWriter.is_written l.writer) l.depth_left) l.bytes l.rest l.fn.out.items (l.out.items ++ before l.run l.rest);
  run_is : l.run ≡ before l.run l.rest ++ l.rest;
  begun : StartsWith l.out.items l.fn.out.items;
}

abbrev pub decreases-elements-loop-typed : goal.decreases-elements-loop-typed
decreases-elements-loop-typed g l = length l.rest
