use Rattle.std.proofs.{lemmas.Result.IfOk-weaker, Common.◌∙◌, Common.sym, lemmas.Bool.and_parts}
use Rattle.bd_cursor_model.specs.{Answer.before, Source.passes}
use Rattle.bd_bson_dump.specs.Collection.{documents}
use Rattle.bd_path.specs.Sort.{sort_paths}
use Rattle.bd_query_filter.specs.Filter.{filter_tree}
use Rattle.bd_cursor_sort.specs.{inside.Sorting.pivot_place, Selection.matches_at_of, Selection.order_of_keys, inside.Sorting.is_before_pivot}
use Rattle.bd_cursor_sort.proofs.SortingLemmas.{IsState, state_limited, state_end, state_omitted, state_none, state_taken}
use Rattle.bd_cursor_sort.proofs.sorting.first_places.Goals.{then-len-capacity+in_ok-end, else-len-capacity}
use Rattle.bd_cursor_sort.proofs.sorting.first_places.Goals as goal

pub loop-place-init : goal.loop-place-init
loop-place-init g c = rw c.new-places.ensures.items (state_none (g.met.P.PlaceSource.law c.args.source _ _ c.requires.serves))

pub loop-place-preserved-in-Continue-branch-2 : goal.loop-place-preserved-in-Continue-branch-2
loop-place-preserved-in-Continue-branch-2 g c =
    let ds = documents c.args.dump.now in
    let r = c.args.request.now in
    let ss = sort_paths r.sort.items in
    let pass = passes (matches_at_of ds (filter_tree r.filter)) (order_of_keys ds ss) (pivot_place c.args.last.now) in
    let p = c.in-Some.place in
    let both = and_parts (pass p) (is_before_pivot (before (order_of_keys ds ss)) (pivot_place c.loop-place.end) p) (sym c.may_be_first.ensures ∙ c.if-may_be_first.true) in
    let here : IsState ds ss c.args.most pass (g.P.PlaceSource.remaining c.loop-place.source) (g.P.PlaceSource.remaining c.args.source) c.if-len-capacity.places.items c.if-len-capacity.end =
    elim c.if-len-capacity.branch [
      | then-len-capacity+in_ok-end w ↦ rw (w.places-is, w.end-is)
          (state_limited c.requires.some (rw w.deref.ensures.value at w.in_ok-end.ensures.first) (rw w.deref.ensures.value at w.in_ok-end.ensures.pivot) w.in_ok-end.ensures.end c.loop-place.invariant)
      | else-len-capacity w ↦ rw (w.places-is, w.end-is) c.loop-place.invariant
    ] in
    rw c.in_ok-push.ensures.items (state_taken c.in-Some.ensures both.0 here)

pub loop-place-preserved : goal.loop-place-preserved
loop-place-preserved g c = state_omitted c.in-Some.ensures (sym c.may_be_first.ensures ∙ c.if-may_be_first.false) c.loop-place.invariant

pub returns : goal.returns
returns g c =
    let r = c.args.request.now in
    IfOk-weaker c.first_in_order.result _ _
    (λ v e. state_end (filter_tree r.filter) r.skip r.limit (pivot_place c.args.last.now) (g.met.P.PlaceSource.law c.args.source _ _ c.requires.serves) c.in_default.ensures.0
    (rw (c.deref-2.ensures.value, c.deref-3.ensures.value) at e) c.loop-place.invariant)
    c.first_in_order.ensures
