use Rattle.std.proofs.Common.{refl}
use Rattle.std.proofs.lemmas.List.{length-map}
use Rattle.std.proofs.lemmas.Option.{slice_get-map}
use Rattle.bd_value.proofs.ViewLemmas.{list_of-items_of}
use Rattle.bd_bson_view.proofs.views.RawValueReading.element.Goals as goal

pub nth-requires : goal.nth-requires
nth-requires c = rw (c.in-Array.ensures.0, list_of-items_of, length-map) at c.requires

pub returns-clause-element : goal.returns-clause-element
returns-clause-element c = rw (c.in-Array.ensures.0, list_of-items_of, slice_get-map, c.nth.ensures.pair) refl
