use Rattle.std.proofs.Common.{◌≡◌, map, None, Some, Vec, refl, rules, sym, ap, ◌∙◌}
use Rattle.std.proofs.lemmas.List.{at_drop_all}
use Rattle.std.specs.declared.alloc.Global.{Global}
use Rattle.bd_path.specs.{Path.component_names, PathNames.names_of, declared.path.Path.Path}
use Rattle.bd_query_filter.specs.Filter.{at_path, filters_from, operators_from, filter_tree, operator_tree}
use Rattle.bd_query_filter.specs.{declared.filter.Filter.TheVariants.Field, declared.filter.Operator.Operator}
use Rattle.bd_query_filter.specs.declared.filter.Filter.TheFolds as folds
use Rattle.bd_index_bounds.specs.Bounds.{all_bounds, bounds, bounds_at, conjunction, disjunction, operator_bounds, rest_after, some_bounds}
use Rattle.bd_index_bounds.specs.BoundsView.{bounds_view}
use Rattle.bd_index_bounds.specs.inside.BoundsView.{parts_bounds}
use Rattle.bd_index_bounds.proofs.FilterBoundsLemmas.{keys_within-Or, no_part_remaining, no_rest, one_narrower, one_wider, some_parts}
use Rattle.bd_index_bounds.proofs.filter_bounds.+bounding.Goals as goal

pub all_bounds-loop-filter-preserved : goal.all_bounds-loop-filter-preserved
all_bounds-loop-filter-preserved t c =
    let path = component_names c.args.index.now.path.now in
    let m = c.args.index.now.multikey in
    one_narrower m (λ fs. all_bounds (filters_from fs) path m) filter_tree c.args.filters.now c.loop-filter.filter-index c.filter-item.result
    (bounds (filter_tree c.filter-item.result) path m) (parts_bounds c.loop-filter.parts.items) (parts_bounds c.narrow.new.parts.items)
    (λ fs. refl) c.loop-filter-test.true c.filter-item.is
    (c.in_ok-narrow.ensures ∙ ap (conjunction m (parts_bounds c.loop-filter.parts.items)) c.in_ok-next.ensures) c.loop-filter.invariant

filter_tree-Field : (path : Path) (v : Vec Operator Global) → filter_tree (Field path v) ≡ at_path (names_of path) (operators_from (map operator_tree v.items))
filter_tree-Field path v = search (rules, folds.the_lemmas)

pub filter_bounds-returns-in-None : goal.filter_bounds-returns-in-None
filter_bounds-returns-in-None t c =
    let p = component_names c.args.index.now.path.now in
    let m = c.args.index.now.multikey in
    let os = operators_from (map operator_tree c.in-Field.operators.items) in
    let none : rest_after (names_of c.in-Field.path) p ≡ None = search rules in
    sym (ap (λ f. bounds f p m) (ap filter_tree c.in-Field.is ∙ filter_tree-Field c.in-Field.path c.in-Field.operators) ∙ ap (λ r. operator_bounds os r m) none ∙ no_rest os m)

pub operator_bounds-loop-operator-preserved : goal.operator_bounds-loop-operator-preserved
operator_bounds-loop-operator-preserved t c =
    let path = component_names c.args.index.now.path.now in
    let m = c.args.index.now.multikey in
    one_narrower m (λ os. operator_bounds (operators_from os) (Some path) m) operator_tree c.args.operators.now c.loop-operator.operator-index
    c.operator-item.result (bounds_at (operator_tree c.operator-item.result) (Some path) m) (parts_bounds c.loop-operator.parts.items)
    (parts_bounds c.narrow.new.parts.items) (λ os. refl) c.loop-operator-test.true c.operator-item.is
    (c.in_ok-narrow.ensures ∙ ap (conjunction m (parts_bounds c.loop-operator.parts.items)) c.in_ok-next.ensures) c.loop-operator.invariant

pub some_bounds-loop-filter-preserved : goal.some_bounds-loop-filter-preserved
some_bounds-loop-filter-preserved t c =
    let path = component_names c.args.index.now.path.now in
    let m = c.args.index.now.multikey in
    one_wider (λ fs. some_bounds (filters_from fs) path m) filter_tree c.args.filters.now c.loop-filter.filter-index c.filter-item.result
    c.in-Some.bounds c.loop-filter.parts.items c.push.new.self.items
    (λ fs. ap (λ b. disjunction b (some_bounds (filters_from fs) path m)) (sym c.in_ok-bounds.ensures ∙ ap bounds_view c.in-Some.is))
    c.loop-filter-test.true c.filter-item.is c.in_ok-push-in-Some.ensures.items c.loop-filter.invariant

pub some_bounds-returns : goal.some_bounds-returns
some_bounds-returns t c =
    let path = component_names c.args.index.now.path.now in
    ap Some (keys_within-Or c.loop-filter.parts)
    ∙ sym (no_part_remaining c.loop-filter.parts.items)
    ∙ ap (disjunction (some_parts c.loop-filter.parts.items))
    (sym (at_drop_all (λ fs. some_bounds (filters_from (map filter_tree fs)) path c.args.index.now.multikey) c.args.filters.now c.loop-filter.filter-index c.loop-filter-test.false))
    ∙ c.loop-filter.invariant
