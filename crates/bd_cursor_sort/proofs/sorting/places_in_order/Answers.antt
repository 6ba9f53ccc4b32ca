use Rattle.std.proofs.Common.{rules, ◌∙◌, ap, sym}
use Rattle.bd_cursor_model.specs.Source.{IsSource, passes, places_after}
use Rattle.bd_cursor_model.proofs.SourceLemmas.{below_more, omitted_more, taken_more}
use Rattle.bd_bson_dump.specs.Collection.{documents}
use Rattle.bd_path.specs.Sort.{sort_paths}
use Rattle.bd_query_filter.specs.Filter.{filter_tree}
use Rattle.bd_cursor_sort.specs.{inside.Sorting.pivot_place, Selection.matches_at_of, Selection.order_of_keys, Selection.selection_of}
use Rattle.bd_cursor_sort.proofs.SortingLemmas.{all_taken, few_more, first_taken, wanted_in_order}
use Rattle.bd_cursor_sort.proofs.sorting.places_in_order.Goals.{else-loop-last-test, then-loop-last-test+in_default}
use Rattle.bd_cursor_sort.proofs.sorting.places_in_order.Goals as goal

pub loop-last-preserved-in-Continue-branch-2 : goal.loop-last-preserved-in-Continue-branch-2
loop-last-preserved-in-Continue-branch-2 g c = record {
  fact = rw c.in_ok-push.ensures.items (taken_more _ _ _ _ _ c.in-Some.place c.in-Some.ensures c.loop-last.invariant.fact (sym c.is_wanted.ensures ∙ c.if-is_wanted.true));
  below = below_more _ _ _ _ c.in-Some.ensures c.loop-last.invariant.below;
  few = few_more c.args.most c.loop-last.found.items _ c.in-Some.place c.len.result (search rules) c.in_ok-push.ensures.items (sym c.is_full.ensures ∙ c.loop-last-test.true);
}

pub loop-last-preserved : goal.loop-last-preserved
loop-last-preserved g c = record {
  fact = omitted_more _ _ _ _ _ c.in-Some.place c.in-Some.ensures c.loop-last.invariant.fact (sym c.is_wanted.ensures ∙ c.if-is_wanted.false);
  below = below_more _ _ _ _ c.in-Some.ensures c.loop-last.invariant.below;
  few = c.loop-last.invariant.few;
}

pub returns : goal.returns
returns g c =
    let ds = documents c.args.dump.now in
    let r = c.args.request.now in
    let pass = passes (matches_at_of ds (filter_tree r.filter)) (order_of_keys ds (sort_paths r.sort.items)) (pivot_place c.in_ok-pivot.pivot) in
    let remaining = g.P.PlaceSource.remaining c.args.source in
    let source : IsSource _ (matches_at_of ds (filter_tree r.filter)) remaining = g.met.P.PlaceSource.law c.args.source _ (matches_at_of ds (filter_tree r.filter)) c.requires.serves in
    let fact = c.loop-last.invariant.fact ∙ wanted_in_order ds r remaining (pivot_place c.in_ok-pivot.pivot) source c.requires.order ∙ ap (places_after (selection_of ds r)) c.in_ok-pivot.ensures.place in
    elim c.loop-last-test.branch [
      | else-loop-last-test w ↦ first_taken c.args.most c.loop-last.found.items _ _ c.len.result (search rules) fact (sym c.is_full.ensures ∙ w.loop-last-test.false) c.loop-last.invariant.few
      | then-loop-last-test+in_default w ↦ all_taken pass c.args.most c.loop-last.found.items _ _ fact w.in_default.ensures.0 c.loop-last.invariant.few
    ]
