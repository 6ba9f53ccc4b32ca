use Rattle.bd_value.specs.Tree.{pairs_of-fields_of}
use Rattle.bd_bson_view.proofs.views.RawValueReading.first.Goals as goal

pub returns-in-Document-clause-first : goal.returns-in-Document-clause-first
returns-in-Document-clause-first c = rw (c.in-Document.ensures.0, pairs_of-fields_of) c.find.ensures.first
