use Rattle.bd_index.proofs.PlacesLemmas.{order_within}
use Rattle.bd_index.proofs.index.Index.places_in.Goals as goal

pub add_places-requires : goal.add_places-requires
add_places-requires c =
    let span = order_within 0 _ c.args.spans.now c.requires c.loop-span.span-index (record { from = 0; to = 0 }) c.loop-span-test.true in
    record { order = span.0; bound = span.1 }
