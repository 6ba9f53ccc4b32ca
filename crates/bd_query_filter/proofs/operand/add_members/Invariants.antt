use Rattle.std.proofs.Common.{◌≡◌, length}
use Rattle.bd_value.specs.{Tree.values_of, Tree.items_of}
use Rattle.bd_query_filter.specs.FilterOf.{all_kinds}
use Rattle.bd_query_filter.proofs.FilterOfLemmas.{more_kinds}
use Rattle.bd_query_filter.proofs.operand.add_members.Given as goal

-- the kinds so far, and those of the types that remain, are together all
abbrev pub invariant-loop-next : goal.invariant-loop-next
invariant-loop-next g l =
    more_kinds l.kinds.items (all_kinds (items_of (values_of (g.N.Reading.remaining l.remaining))))
    ≡ more_kinds l.fn.kinds.items (all_kinds (items_of (values_of (g.N.Reading.remaining l.fn.members))))

abbrev pub decreases-loop-next : goal.decreases-loop-next
decreases-loop-next g l = length (g.N.Reading.remaining l.remaining)
