use Rattle.std.proofs.Common.{sym}
use Rattle.bd_bson_check.proofs.CheckingLemmas.{element_gives}
use Rattle.bd_bson_check.proofs.parts.type_and_value.Goals as goal

pub returns-in-Some-clause-gives : goal.returns-in-Some-clause-gives
returns-in-Some-clause-gives c =
    element_gives c.args.bytes.now c.split_at.result.1.now c.in_ok-value.value.now c.in-Some.typed c.requires
    (sym c.split_at.ensures.back) (sym c.in-Some.ensures) c.in_ok-value.ensures
