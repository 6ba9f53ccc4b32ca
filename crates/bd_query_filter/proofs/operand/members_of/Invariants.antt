use Rattle.std.proofs.Common.{◌≡◌, map, length}
use Rattle.bd_value.specs.{Tree.values_of, Tree.items_of, View.tree_of}
use Rattle.bd_query_filter.specs.FilterOf.{member_values, members_of}
use Rattle.bd_query_filter.proofs.FilterOfLemmas.{joined}
use Rattle.bd_query_filter.proofs.operand.members_of.Given as goal

-- the members so far and those that remain are together all
abbrev pub invariant-loop-next : goal.invariant-loop-next
invariant-loop-next g l =
    joined (map tree_of l.members.items) (member_values (length l.members.items) (items_of (values_of (g.N.Reading.remaining l.remaining))))
    ≡ members_of (g.N.Reading.tree l.fn.operand)

abbrev pub decreases-loop-next : goal.decreases-loop-next
decreases-loop-next g l = length (g.N.Reading.remaining l.remaining)
