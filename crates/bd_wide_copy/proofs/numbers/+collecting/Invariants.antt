use Rattle.std.proofs.Common.{◌+◌, ◌-◌, ◌*◌, length}
use Rattle.bd_wide_copy.specs.inside.Collected.{Extends, level_numbers}
use Rattle.bd_wide_copy.proofs.CollectLemmas.{Comes}
use Rattle.bd_wide_copy.proofs.numbers.+collecting.Given as goal

abbrev pub decreases-elements : goal.decreases-elements
decreases-elements l = 2 * l.levels

abbrev pub decreases-value_numbers : goal.decreases-value_numbers
decreases-value_numbers l = 2 * l.levels + 1

abbrev pub invariant-elements-loop-typed : goal.invariant-elements-loop-typed
invariant-elements-loop-typed l = record {
  comes : Comes (level_numbers (l.levels - 1)) l.fn.numbers.items (level_numbers l.levels l.bytes) l.numbers.items l.rest;
  begins : Extends l.fn.numbers.items l.numbers.items;
}

abbrev pub decreases-elements-loop-typed : goal.decreases-elements-loop-typed
decreases-elements-loop-typed l = length l.rest
