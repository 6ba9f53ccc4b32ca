use Rattle.std.proofs.Common.{◌<◌, ◌∙◌, ap, arith, drop, length, sym, None, subst}
use Rattle.std.specs.Option.{option_map}
use Rattle.bd_cursor_model.specs.{Answer.limited, Session.remaining_after, Source.places_after}
use Rattle.bd_cursor_model.proofs.SourceLemmas.{all_places}
use Rattle.bd_bson_dump.specs.Collection.{documents}
use Rattle.bd_cursor_sort.specs.Selection.{selection_of}
use Rattle.bd_cursor.specs.SessionView.{positioned_token}
use Rattle.bd_cursor.proofs.cursor.Remainder.of.Goals as goal

pub returns : goal.returns
returns c =
    let a = selection_of (documents c.args.dump.now) c.args.request.now in
    let few : length c.in_ok-places-2.places.items < 18446744073709551615 = omega (arith, c.in_ok-places-2.places.ok.0) in
    c.new-2.ensures ∙ ap (drop a.skip) c.in_ok-places-2.ensures
    ∙ c.most_needed-most.ensures (places_after a None) (subst (λ ps. length ps < 18446744073709551615) c.in_ok-places-2.ensures few)
    ∙ ap (λ ps. limited a.limit 0 (drop a.skip ps)) (all_places a) ∙ ap (λ t. remaining_after a (option_map positioned_token t)) (sym c.in_default.is)
