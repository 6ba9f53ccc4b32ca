use Rattle.std.proofs.Common.{sym, ◌∙◌, ap}
use Rattle.bd_extjson_wrapper.specs.WholeNumber.{begins_digits, unsigned}
use Rattle.bd_extjson_wrapper.proofs.WholeNumberLemmas.{parsed, not_whole}
use Rattle.bd_extjson_wrapper.proofs.whole_number.whole.Goals as goal

pub returns-then-not-begins_as_digits : goal.returns-then-not-begins_as_digits
returns-then-not-begins_as_digits c =
    let digits = c.without_sign.ensures ∙ ap unsigned c.as_bytes.ensures.value in
    sym (not_whole c.args.text.now (ap begins_digits (sym digits) ∙ sym c.if-not-begins_as_digits.ensures))

pub returns : goal.returns
returns c =
    let digits = c.without_sign.ensures ∙ ap unsigned c.as_bytes.ensures.value in
    c.ok.ensures.value ∙ parsed c.args.text.now c.parse.result (ap begins_digits (sym digits) ∙ sym c.if-not-begins_as_digits.ensures) c.parse.ensures.value.0
