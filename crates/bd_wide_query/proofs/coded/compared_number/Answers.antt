use Rattle.std.proofs.Common.{◌∙◌, sym}
use Rattle.bd_value.specs.View.{node_tree}
use Rattle.bd_wide_query.proofs.NumberLemmas.{none_at, other_at, some_at}
use Rattle.bd_wide_query.proofs.coded.compared_number.Goals as goal

pub returns-then-is_compared-clause-some : goal.returns-then-is_compared-clause-some
returns-then-is_compared-clause-some c =
    some_at c.args.role (node_tree c.args.whole) c.requires (sym c.is_compared.ensures ∙ c.if-is_compared.true) c.whole_number.result c.whole_number.ensures.some

pub returns-then-is_compared-clause-none : goal.returns-then-is_compared-clause-none
returns-then-is_compared-clause-none c =
    none_at c.args.role (node_tree c.args.whole) c.requires (sym c.is_compared.ensures ∙ c.if-is_compared.true) c.whole_number.result c.whole_number.ensures.none

pub returns-else-is_compared-clause-none : goal.returns-else-is_compared-clause-none
returns-else-is_compared-clause-none c = λ table longs. other_at table longs c.args.role _ c.requires (sym c.is_compared.ensures ∙ c.if-is_compared.false)
