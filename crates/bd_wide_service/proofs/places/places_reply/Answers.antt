use Rattle.std.proofs.Common.{◌∙◌, ap, map, true}
use Rattle.bd_value.specs.Tree.{array, items_of}
use Rattle.bd_value.proofs.ViewLemmas.{tree_of-Array}
use Rattle.bd_extjson.proofs.ReadLemmas.{bool_is}
use Rattle.bd_wide_service.specs.Places.{place_value}
use Rattle.bd_wide_service.proofs.PlacesLemmas.{reply_made}
use Rattle.bd_wide_service.proofs.places.places_reply.Goals as goal

pub returns : goal.returns
returns c =
    let are = c.in_ok-places.ensures ∙ ap (λ ps. map place_value ps) c.deref.ensures.value in
    reply_made c.args.batch.now _ _ _ _ _ _ _ _ _ _ _ _ _ c.new-reply.ensures c.in_ok-push.ensures.ok c.in_ok-push-2.ensures.ok c.in_ok-push-3.ensures.ok
    c.in_ok-push-4.ensures.ok c.in_ok-from_str.ensures.ok c.in_ok-from_str-2.ensures.ok c.in_ok-from_str-3.ensures.ok c.in_ok-from_str-4.ensures.ok
    (bool_is true) (tree_of-Array c.in_ok-places.places ∙ ap (λ ts. array (items_of ts)) are) (bool_is c.args.batch.now.end) c.in_ok-token.ensures
