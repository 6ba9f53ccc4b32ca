use Rattle.std.proofs.Common.{sym}
use Rattle.std.proofs.lemmas.{Str.is_utf8-from_IsUtf8, Str.IsUtf8-from_is_utf8, Str.IsUtf8-from_ascii, Bool.false_from_ne_true}
use Rattle.bd_bson_check.proofs.parts.is_text.Goals as goal

pub returns-then-is_short_ascii : goal.returns-then-is_short_ascii
returns-then-is_short_ascii c = sym (is_utf8-from_IsUtf8 c.args.bytes.now (IsUtf8-from_ascii c.args.bytes.now (c.is_short_ascii.ensures c.if-is_short_ascii.true)))

pub returns-in-Ok : goal.returns-in-Ok
returns-in-Ok c = sym (is_utf8-from_IsUtf8 c.args.bytes.now c.in-Ok.ensures.cases.1)

pub returns-in-Err : goal.returns-in-Err
returns-in-Err c = sym (false_from_ne_true _ (λ e. c.in-Err.ensures.cases.0 (IsUtf8-from_is_utf8 c.args.bytes.now e)))
