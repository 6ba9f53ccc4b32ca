use Rattle.bd_bson_check.proofs.CheckingLemmas.{regex_gives}
use Rattle.bd_bson_check.proofs.parts.after_value.Goals as goal

pub returns-in_ok-after_name-in-Regex-clause-gives : goal.returns-in_ok-after_name-in-Regex-clause-gives
returns-in_ok-after_name-in-Regex-clause-gives c =
    regex_gives c.args.kind c.args.bytes.now c.in_ok-after_name-in-Regex.field-0.now c.after_name-in-Regex.result c.in-Regex.is c.in_ok-after_name-in-Regex.ensures c.after_name-in-Regex.ensures
