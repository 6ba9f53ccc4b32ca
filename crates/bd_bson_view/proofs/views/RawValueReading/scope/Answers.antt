use Rattle.std.proofs.Common.{Some, ap, ◌∙◌}
use Rattle.bd_bson_view.proofs.SoundLemmas.{pairs_make_document}
use Rattle.bd_bson_view.proofs.views.RawValueReading.scope.Goals as goal

pub returns-in-CodeScope-clause-scope : goal.returns-in-CodeScope-clause-scope
returns-in-CodeScope-clause-scope c = rw c.in-CodeScope.ensures.0 (ap (λ t. Some t) (c.value.ensures.value ∙ pairs_make_document _ c.in-CodeScope.scope.sound))
