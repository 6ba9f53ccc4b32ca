use Rattle.std.proofs.Common.{List, ℕ, subst}
use Rattle.bd_bson_view.specs.Sound.{IsAt, meaning}
use Rattle.bd_bson_tests.proofs.at_tests.again.Goals as goal

pub returns-clause-value : goal.returns-clause-value
returns-clause-value c = c.value_at.ensures.value (meaning c.args.value.sound) (subst (λ (x : List ℕ). IsAt x c.at.result (meaning c.args.value.sound)) c.requires c.at.ensures.meaning)
