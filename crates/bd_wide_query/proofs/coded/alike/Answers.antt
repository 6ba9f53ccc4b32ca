use Rattle.std.proofs.Common.{refl, rules}
use Rattle.bd_value.specs.View.{node_tree}
use Rattle.bd_wide_query.proofs.TagLemmas.{unlike}
use Rattle.bd_wide_query.proofs.coded.alike.Goals as goal

pub returns-then-eq-clause-tags : goal.returns-then-eq-clause-tags
returns-then-eq-clause-tags c = (λ numbers. refl, refl)

pub returns-else-eq-clause-tags : goal.returns-else-eq-clause-tags
returns-else-eq-clause-tags c = unlike (node_tree c.args.whole) (node_tree c.args.text) c.requires (λ e. search rules)
