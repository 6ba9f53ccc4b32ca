use Rattle.std.proofs.Common.{◌≡◌, ◌≤◌, List, ℕ, length, append-nil, sym, ap, ◌∙◌, subst, true, false, drop, take}
use Rattle.std.specs.Float.{binary64}
use Rattle.std.specs.Float.Ieee.{of_bits}
use Rattle.std.specs.Float.Parse.{parse_float}
use Rattle.fast_float.specs.Text.{scan, nearest}
use Rattle.ryu.specs.Plain.{IsLaidOutNumber}
use Rattle.bd_wide_text.specs.inside.LaidOutAnew.{AreParts}
use Rattle.bd_wide_text.proofs.DoubleLemmas as doubles
use Rattle.bd_wide_text.proofs.double.put_number.Goals as goal

pub float_from_bits-bits : goal.float_from_bits-bits
float_from_bits-bits c = doubles.sized_bits c.args.bits c.requires.number

pub format_finite-requires : goal.format_finite-requires
format_finite-requires c = doubles.sized_finite _ c.requires.number

pub put_size-requires-clause-parts : goal.put_size-requires-clause-parts
put_size-requires-clause-parts c =
    let e : c.as_bytes-text.result.now ≡ c.format_finite.result.now = c.as_bytes-text.ensures.value in
    (doubles.unsigned (of_bits binary64 c.args.bits) c.as_bytes-text.result.now (subst (λ (t : List ℕ). IsLaidOutNumber 16 4 t) (sym e) c.format_finite.ensures.layout)
    (ap (parse_float binary64) e ∙ c.format_finite.ensures.parses) (subst (λ (t : List ℕ). length t ≤ 25) (sym e) c.format_finite.ensures.short)
    (sym c.has_sign.ensures ∙ c.if-not-has_sign.true)).0

pub returns-then-not-has_sign-clause-appended : goal.returns-then-not-has_sign-clause-appended
returns-then-not-has_sign-clause-appended c =
    let x = of_bits binary64 c.args.bits in
    let text = c.as_bytes-text.result.now in
    let e : text ≡ c.format_finite.result.now = c.as_bytes-text.ensures.value in
    let parts = doubles.unsigned x text (subst (λ (t : List ℕ). IsLaidOutNumber 16 4 t) (sym e) c.format_finite.ensures.layout)
    (ap (parse_float binary64) e ∙ c.format_finite.ensures.parses) (subst (λ (t : List ℕ). length t ≤ 25) (sym e) c.format_finite.ensures.short)
    (sym c.has_sign.ensures ∙ c.if-not-has_sign.true) in
    doubles.text_is x false text (take c.args.end c.args.buffer.now) (take c.args.end c.args.buffer.now) (take c.put_size.result c.put_size.new.buffer) parts.1 c.requires.number
    (sym (append-nil (take c.args.end c.args.buffer.now))) c.put_size.ensures.appended

pub put_size-requires-2-clause-parts : goal.put_size-requires-2-clause-parts
put_size-requires-2-clause-parts c =
    let e : c.as_bytes-text.result.now ≡ c.format_finite.result.now = c.as_bytes-text.ensures.value in
    subst (λ (t : List ℕ). AreParts t (scan t)) (sym c.split_at.ensures.back)
    (doubles.signed (of_bits binary64 c.args.bits) c.as_bytes-text.result.now (subst (λ (t : List ℕ). IsLaidOutNumber 16 4 t) (sym e) c.format_finite.ensures.layout)
    (ap (parse_float binary64) e ∙ c.format_finite.ensures.parses) (subst (λ (t : List ℕ). length t ≤ 25) (sym e) c.format_finite.ensures.short)
    (sym c.has_sign.ensures ∙ c.if-not-has_sign.false)).0

pub returns-clause-appended : goal.returns-clause-appended
returns-clause-appended c =
    let x = of_bits binary64 c.args.bits in
    let text = c.as_bytes-text.result.now in
    let e : text ≡ c.format_finite.result.now = c.as_bytes-text.ensures.value in
    let parts = doubles.signed x text (subst (λ (t : List ℕ). IsLaidOutNumber 16 4 t) (sym e) c.format_finite.ensures.layout)
    (ap (parse_float binary64) e ∙ c.format_finite.ensures.parses) (subst (λ (t : List ℕ). length t ≤ 25) (sym e) c.format_finite.ensures.short)
    (sym c.has_sign.ensures ∙ c.if-not-has_sign.false) in
    let size : c.split_at.result.1.now ≡ drop 1 text = c.split_at.ensures.back in
    doubles.text_is x true c.split_at.result.1.now (take c.args.end c.args.buffer.now) (take c.put-at.result c.put-at.new.buffer) (take c.put_size-2.result c.put_size-2.new.buffer)
    (ap (λ t. nearest binary64 true (scan t)) size ∙ parts.1) c.requires.number c.put-at.ensures.appended c.put_size-2.ensures.appended
