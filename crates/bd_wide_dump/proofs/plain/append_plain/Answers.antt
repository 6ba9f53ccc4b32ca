use Rattle.std.proofs.Common.{◌≡◌, ℕ, List, drop, subst, ap, sym, ◌∙◌}
use Rattle.bd_bson_view.specs.declared.raw_parts.ElementType.{ElementType}
use Rattle.bd_bson_view.specs.Sizes.{long_of}
use Rattle.bd_bson_view.specs.Spelling.{as_double, as_decimal128}
use Rattle.bd_bson_check.proofs.FirstFaultLemmas.{IsBytes-drop}
use Rattle.bd_wide_text.specs.{Double.IsDoubleText, Decimal128.decimal128_text}
use Rattle.bd_wide_dump.specs.Plain.{IsPlainText}
use Rattle.bd_wide_dump.specs.WideText.{IsDoubleIn}
use Rattle.std.specs.Prelude.{true}
use Rattle.bd_wide_dump.specs.inside.Begins.{HasValue}
use Rattle.bd_wide_dump.proofs.RelaxedLemmas.{weaker}
use Rattle.bd_wide_dump.proofs.ValueLemmas as v
use Rattle.bd_wide_dump.proofs.plain.append_plain.Goals as goal

pub returns-in-Double : goal.returns-in-Double
returns-in-Double c = λ tree h.
    let here = drop c.args.found.start c.args.bytes.now in
    let fits = IsBytes-drop c.args.found.start c.args.bytes.now (λ i. (c.type_inv.bytes i).fits) in
    let value = subst (λ (t : ElementType). HasValue t here tree) c.in-Double.is h.here in
    let bits : c.long.result ≡ long_of here = c.long.ensures ∙ ap long_of c.split_at.ensures.back in
    weaker c.args.out.now.items c.args.end c.append_digits.new.out.items (λ text. IsDoubleIn true c.long.result text) (IsPlainText tree) c.append_digits.result
    (λ text w. v.plain_wide as_double here tree v.double_is_wide fits value text (subst (λ (n : ℕ). IsDoubleText n text) bits (subst (IsDoubleText c.long.result) (sym w.2) w.1)))
    c.append_digits.ensures.text

pub returns-in-Decimal128 : goal.returns-in-Decimal128
returns-in-Decimal128 c = λ tree h.
    let here = drop c.args.found.start c.args.bytes.now in
    let fits = IsBytes-drop c.args.found.start c.args.bytes.now (λ i. (c.type_inv.bytes i).fits) in
    let value = subst (λ (t : ElementType). HasValue t here tree) c.in-Decimal128.is h.here in
    let D : List ℕ → List ℕ = λ x. decimal128_text (long_of x) (long_of (drop 8 x)) in
    weaker c.args.out.now.items c.args.end c.append_decimal.new.out.items (λ text. text ≡ D c.split_at.result.1.now) (IsPlainText tree) c.append_decimal.result
    (λ text w. v.plain_wide as_decimal128 here tree v.decimal128_is_wide fits value text (w ∙ ap D c.split_at.ensures.back)) c.append_decimal.ensures
