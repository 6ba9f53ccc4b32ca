use Rattle.std.proofs.Common.{sym}
use Rattle.bd_value.specs.Tree.{pairs_of-fields_of}
use Rattle.bd_value.proofs.ViewLemmas.{list_of-items_of}
use Rattle.bd_bson_view.proofs.raw.RawValue.elements.Goals as goal

pub returns-in-Document-clause-some : goal.returns-in-Document-clause-some
returns-in-Document-clause-some c = rw c.in-Document.ensures.0 (sym (pairs_of-fields_of _))

pub returns-in-Array-clause-some : goal.returns-in-Array-clause-some
returns-in-Array-clause-some c = rw c.in-Array.ensures.0 (sym (list_of-items_of _))
