use Rattle.std.proofs.Common.{◌∙◌}
use Rattle.bd_wide_query.proofs.NameLemmas.{field_means, operator_means}
use Rattle.bd_wide_query.proofs.role.meaning_of_name.Goals as goal

pub returns-then-begins_with_dollar : goal.returns-then-begins_with_dollar
returns-then-begins_with_dollar c =
    c.unwrap_or.ensures ∙ operator_means c.args.name.now c.begins_with_dollar.result c.operator.result c.begins_with_dollar.ensures c.if-begins_with_dollar.true c.operator.ensures

pub returns-else-begins_with_dollar : goal.returns-else-begins_with_dollar
returns-else-begins_with_dollar c = field_means c.args.name.now c.begins_with_dollar.result c.begins_with_dollar.ensures c.if-begins_with_dollar.false
