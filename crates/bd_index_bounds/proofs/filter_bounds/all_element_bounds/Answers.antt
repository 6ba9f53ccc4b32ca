use Rattle.std.proofs.Common.{false, refl, ap, ◌∙◌}
use Rattle.bd_query_filter.specs.Filter.{operators_from, operator_tree}
use Rattle.bd_index_bounds.specs.{Bounds.all_element_bounds, Bounds.conjunction, Bounds.element_bounds, inside.BoundsView.parts_bounds}
use Rattle.bd_index_bounds.proofs.FilterBoundsLemmas.{one_narrower}
use Rattle.bd_index_bounds.proofs.filter_bounds.all_element_bounds.Goals as goal

pub loop-operator-preserved : goal.loop-operator-preserved
loop-operator-preserved c =
    one_narrower false (λ os. all_element_bounds (operators_from os)) operator_tree c.args.operators.now c.loop-operator.operator-index
    c.operator-item.result (element_bounds (operator_tree c.operator-item.result)) (parts_bounds c.loop-operator.parts.items)
    (parts_bounds c.narrow.new.parts.items) (λ os. refl) c.loop-operator-test.true c.operator-item.is
    (c.in_ok-narrow.ensures ∙ ap (conjunction false (parts_bounds c.loop-operator.parts.items)) c.in_ok-element_bounds.ensures) c.loop-operator.invariant
