use Rattle.std.proofs.lemmas.List.{length-map}
use Rattle.bd_value.specs.Tree.{pairs_of-fields_of}
use Rattle.bd_value.proofs.ViewLemmas.{list_of-items_of}
use Rattle.bd_bson_view.proofs.views.RawValueReading.len.Goals as goal

pub returns-in-Document : goal.returns-in-Document
returns-in-Document c = rw (c.in-Document.ensures.0, pairs_of-fields_of) c.count.ensures

pub returns-in-Array : goal.returns-in-Array
returns-in-Array c = rw (c.in-Array.ensures.0, list_of-items_of, length-map) c.count-in-Array.ensures
