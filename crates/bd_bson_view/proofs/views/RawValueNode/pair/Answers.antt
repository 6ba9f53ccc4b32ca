use Rattle.bd_value.specs.Tree.{pairs_of-fields_of}
use Rattle.bd_bson_view.proofs.views.RawValueNode.pair.Goals as goal

pub nth-requires : goal.nth-requires
nth-requires c = rw (c.in-Document.ensures.0, pairs_of-fields_of) at c.requires

pub returns-clause-pair : goal.returns-clause-pair
returns-clause-pair c = rw (c.in-Document.ensures.0, pairs_of-fields_of) c.nth.ensures.pair
