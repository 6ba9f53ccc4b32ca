use Rattle.std.proofs.Common.{refl}
use Rattle.std.proofs.lemmas.{Str.is_utf8-from_IsUtf8, Str.IsUtf8-from_is_utf8, Str.IsUtf8-from_ascii, Bool.false_from_ne_true}
use Rattle.bd_bson_check.specs.FirstFault.{text_at}
use Rattle.bd_bson_check.proofs.CheckingLemmas.{reported_fails}
use Rattle.bd_bson_check.proofs.parts.text.Goals as goal

pub returns-in-Ok : goal.returns-in-Ok
returns-in-Ok c = rw (is_utf8-from_IsUtf8 c.args.bytes.now c.in-Ok.ensures.cases.1, c.in-Ok.ensures.cases.0) refl

pub returns-in-Err : goal.returns-in-Err
returns-in-Err c =
    reported_fails c.fault_at.result _ (text_at c.args.at c.args.bytes.now) c.fault_at.ensures
    (rw (false_from_ne_true _ (λ e. c.in-Err.ensures.cases.0 (IsUtf8-from_is_utf8 c.args.bytes.now e)), c.valid_up_to.ensures, c.in-Err.ensures.valid_len) refl)

pub from_utf8_unchecked-requires : goal.from_utf8_unchecked-requires
from_utf8_unchecked-requires c = IsUtf8-from_ascii c.args.bytes.now (c.is_short_ascii.ensures c.if-is_short_ascii.true)

pub returns-then-is_short_ascii : goal.returns-then-is_short_ascii
returns-then-is_short_ascii c = rw (is_utf8-from_IsUtf8 c.args.bytes.now (IsUtf8-from_ascii c.args.bytes.now (c.is_short_ascii.ensures c.if-is_short_ascii.true)), c.from_utf8_unchecked.ensures) refl
