use Rattle.std.proofs.Common.{◌+◌, ◌<◌, Some, drop, length, map, ap, sym, ◌∙◌, subst}
use Rattle.std.specs.{Prelude.option_map, Prelude.unwrap_or, Option.option_or}
use Rattle.bd_bson_dump.specs.Collection.{documents}
use Rattle.bd_query_filter.specs.Filter.{filter_tree}
use Rattle.bd_path.specs.Sort.{sort_paths}
use Rattle.bd_index_bounds.specs.BoundsView.{bounds_view}
use Rattle.bd_index.specs.IndexView.{IsIndexOf}
use Rattle.bd_cursor.specs.Access.{bounded, by_bounds, by_order, find_map, index_key, scanned}
use Rattle.bd_cursor.proofs.AccessLemmas.{bounds_lead, found_next}
use Rattle.bd_cursor.proofs.access.serving_access.Goals as goal

pub returns-in-Some : goal.returns-in-Some
returns-in-Some c dump h =
    let k = c.loop-index.index-index in
    let i = c.index-item.result in
    let is = c.args.indexes.now in
    let r = c.args.request.now in
    let by = by_bounds (documents dump) (filter_tree r.filter) in
    let lt : k < length is = c.loop-index-test.true in
    let of_dump : IsIndexOf dump i = subst (IsIndexOf dump) (sym c.index-item.is) (h k i lt) in
    let found = ap bounds_view (sym c.in-Some.is) ∙ c.in_ok-bounds.ensures dump of_dump in
    let first = found_next by index_key is k i lt c.index-item.is (c.loop-index.invariant dump h)
    ∙ ap (λ b. option_or (option_map (λ keys. bounded (index_key i) (Some keys)) b) (find_map by (map index_key (drop (k + 1) is)))) (sym found) in
    record {
      is = sym (ap (λ b. unwrap_or (option_or b (find_map (by_order (sort_paths r.sort.items)) (map index_key is))) scanned) first);
      leads = bounds_lead dump r i _ of_dump found;
    }

pub loop-index-preserved : goal.loop-index-preserved
loop-index-preserved c dump h =
    let k = c.loop-index.index-index in
    let i = c.index-item.result in
    let is = c.args.indexes.now in
    let by = by_bounds (documents dump) (filter_tree c.args.request.now.filter) in
    let lt : k < length is = c.loop-index-test.true in
    let of_dump : IsIndexOf dump i = subst (IsIndexOf dump) (sym c.index-item.is) (h k i lt) in
    let none = ap bounds_view (sym c.in_default.is) ∙ c.in_ok-bounds.ensures dump of_dump in
    sym (found_next by index_key is k i lt c.index-item.is (c.loop-index.invariant dump h)
    ∙ ap (λ b. option_or (option_map (λ keys. bounded (index_key i) (Some keys)) b) (find_map by (map index_key (drop (k + 1) is)))) (sym none))
