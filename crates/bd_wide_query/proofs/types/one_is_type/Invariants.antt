use Rattle.std.proofs.Common.{◌≡◌, length}
use Rattle.std.specs.List.{list_any}
use Rattle.bd_value.specs.Tree.{values_of}
use Rattle.bd_value.specs.View.{node_parts}
use Rattle.bd_wide_query.specs.Types.{is_type}
use Rattle.bd_wide_query.proofs.types.one_is_type.Given as goal

-- none of those before is
abbrev pub invariant-loop-value : goal.invariant-loop-value
invariant-loop-value l = list_any (is_type l.fn.kind) (values_of (node_parts l.rest)) ≡ list_any (is_type l.fn.kind) (values_of (node_parts l.fn.parts))

abbrev pub decreases-loop-value : goal.decreases-loop-value
decreases-loop-value l = length (node_parts l.rest)
