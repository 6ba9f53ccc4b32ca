use Rattle.std.proofs.Common.{ℤ, map, arith, ap, ◌∙◌, w32, to_z, of_z}
use Rattle.std.proofs.lemmas.Int.{to_z-of_z}
use Rattle.bd_query_filter.specs.Filter.{filter_tree, filters_from, operator_tree, operators_from}
use Rattle.bd_wide_query.specs.Nan.{filters_beside_nan, operators_beside_nan}
use Rattle.bd_wide_query.proofs.ExcludeLemmas.{filters_made, operators_made}
use Rattle.bd_wide_query.proofs.nan.+excluding.Goals as goal

pub exclude_in_filters-returns : goal.exclude_in_filters-returns
exclude_in_filters-returns t c =
    filters_made c.args.codes.now (to_z w32 (of_z w32 c.args.nan)) c.loop-i.filters.items c.args.filters.now.items c.loop-i.invariant.unvisited.0 filter_tree
    (λ k d l. c.loop-i.invariant.visited k d (omega arith))
    ∙ ap (λ (z : ℤ). filters_beside_nan c.args.codes.now z (filters_from (map filter_tree c.args.filters.now.items))) (to_z-of_z w32 c.args.nan c.ranges.nan)

pub exclude_in_operators-returns : goal.exclude_in_operators-returns
exclude_in_operators-returns t c =
    operators_made c.args.codes.now (to_z w32 (of_z w32 c.args.nan)) c.loop-i.operators.items c.args.operators.now.items c.loop-i.invariant.unvisited.0 operator_tree
    (λ k d l. c.loop-i.invariant.visited k d (omega arith))
    ∙ ap (λ (z : ℤ). operators_beside_nan c.args.codes.now z (operators_from (map operator_tree c.args.operators.now.items))) (to_z-of_z w32 c.args.nan c.ranges.nan)
