use Rattle.std.proofs.{Common.◌≤◌, Common.◌∙◌, Common.ap, Common.arith, Common.length, Common.sym, Common.take, lemmas.Result.IfOk-weaker}
use Rattle.bd_cursor_model.specs.Source.{places_after}
use Rattle.bd_bson_dump.specs.Collection.{documents}
use Rattle.bd_cursor_sort.specs.Selection.{selection_of}
use Rattle.bd_cursor_sort.proofs.SortingLemmas.{places_few}
use Rattle.bd_cursor_sort.proofs.sorting.sorted_places.Goals as goal

pub returns-then-limit-eq0-clause-places : goal.returns-then-limit-eq0-clause-places
returns-then-limit-eq0-clause-places g c =
    let a = selection_of (documents c.args.dump.now) c.args.request.now in
    let few : length (places_after a c.args.last) ≤ c.len.result = omega (arith, c.len.ensures, places_few a c.args.last) in
    c.new.ensures.items ∙ ap (λ k. take k (places_after a c.args.last)) (sym c.if-limit-eq0.true) ∙ c.limit_of-limit.ensures.taken (places_after a c.args.last) few

pub returns-clause-places : goal.returns-clause-places
returns-clause-places g c =
    let a = selection_of (documents c.args.dump.now) c.args.request.now in
    let few : length (places_after a c.args.last) ≤ c.len.result = omega (arith, c.len.ensures, places_few a c.args.last) in
    IfOk-weaker c.first_places.result _ _
    (λ v e. e ∙ ap (λ last. take c.limit_of-limit.result (places_after a last)) c.in_ok-last.ensures.place ∙ c.limit_of-limit.ensures.taken (places_after a c.args.last) few)
    c.first_places.ensures
