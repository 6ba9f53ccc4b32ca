use Rattle.std.proofs.Common.{◌≡◌, ◌+◌, ◌*◌, length, map}
use Rattle.bd_value.specs.{Tree.values_of, Tree.fields_of, Tree.items_of}
use Rattle.bd_query_filter.specs.{FilterOf.filters_of, FilterOf.member_filters, FilterOf.operators_of, Filter.filter_tree, Filter.operator_tree}
use Rattle.bd_query_filter.proofs.FilterOfLemmas.{joined}
use Rattle.bd_query_filter.proofs.filter_of.+parse.Given as goal

-- one level down, `depth_left` is one less
abbrev pub decreases-read_filters : goal.decreases-read_filters
decreases-read_filters g l = 6 * l.depth_left + 5

abbrev pub decreases-read_pair : goal.decreases-read_pair
decreases-read_pair g l = 6 * l.depth_left + 4

abbrev pub decreases-read_operand : goal.decreases-read_operand
decreases-read_operand g l = 6 * l.depth_left + 3

abbrev pub decreases-read_value : goal.decreases-read_value
decreases-read_value g l = 6 * l.depth_left + 3

abbrev pub decreases-read_members : goal.decreases-read_members
decreases-read_members g l = 6 * l.depth_left + 2

abbrev pub decreases-read_member : goal.decreases-read_member
decreases-read_member g l = 6 * l.depth_left + 1

abbrev pub decreases-read_operators : goal.decreases-read_operators
decreases-read_operators g l = 6 * l.depth_left + 2

abbrev pub decreases-read_operator : goal.decreases-read_operator
decreases-read_operator g l = 6 * l.depth_left + 1

abbrev pub decreases-read_not : goal.decreases-read_not
decreases-read_not g l = 6 * l.depth_left

abbrev pub decreases-read_elem_match : goal.decreases-read_elem_match
decreases-read_elem_match g l = 6 * l.depth_left

-- what was read and what remains are together all
abbrev pub invariant-read_filters-loop-next : goal.invariant-read_filters-loop-next
invariant-read_filters-loop-next g l =
    joined (map filter_tree l.filters.items) (filters_of l.depth_left (fields_of (g.N.Reading.remaining l.remaining)))
    ≡ filters_of l.depth_left (fields_of (g.N.Reading.remaining l.fn.pairs))

abbrev pub decreases-read_filters-loop-next : goal.decreases-read_filters-loop-next
decreases-read_filters-loop-next g l = length (g.N.Reading.remaining l.remaining)

abbrev pub invariant-read_members-loop-next : goal.invariant-read_members-loop-next
invariant-read_members-loop-next g l =
    joined (map filter_tree l.filters.items) (member_filters l.depth_left (length l.filters.items) (items_of (values_of (g.N.Reading.remaining l.remaining))))
    ≡ member_filters l.depth_left 0 (items_of (values_of (g.N.Reading.remaining l.fn.members)))

abbrev pub decreases-read_members-loop-next : goal.decreases-read_members-loop-next
decreases-read_members-loop-next g l = length (g.N.Reading.remaining l.remaining)

abbrev pub invariant-read_operators-loop-next : goal.invariant-read_operators-loop-next
invariant-read_operators-loop-next g l =
    joined (map operator_tree l.operators.items) (operators_of l.depth_left (fields_of (g.N.Reading.remaining l.remaining)))
    ≡ operators_of l.depth_left (fields_of (g.N.Reading.remaining l.fn.pairs))

abbrev pub decreases-read_operators-loop-next : goal.decreases-read_operators-loop-next
decreases-read_operators-loop-next g l = length (g.N.Reading.remaining l.remaining)
