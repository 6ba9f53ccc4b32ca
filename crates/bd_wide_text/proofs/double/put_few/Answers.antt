use Rattle.std.proofs.Common.{arith, ◌≡◌, ◌≢◌, ◌<◌, List, ℕ, [], ◌++◌, length, get_or, take, sym, ap, ◌∙◌, subst, true, false, codes}
use Rattle.bd_wide_text.specs.Double.{padded}
use Rattle.bd_wide_text.specs.Layout.{mantissa}
use Rattle.bd_wide_text.specs.inside.LaidOutAnew.{AreZerosAfter, AreZerosBefore, large_text, small_text}
use Rattle.bd_wide_text.proofs.LayoutLemmas as layouts
use Rattle.bd_wide_text.proofs.DoubleLemmas as doubles
use Rattle.bd_wide_text.proofs.double.put_few.Goals as goal

pub returns-then-is_exponent_negative-clause-appended : goal.returns-then-is_exponent_negative-clause-appended
returns-then-is_exponent_negative-clause-appended c =
    let p = c.args.numeral.now in
    let w : c.whole-whole.result.now ≡ p.whole = c.whole-whole.ensures.value in
    let f : c.fraction-fraction.result.now ≡ p.fraction = c.fraction-fraction.ensures.value in
    let x : c.exponent-exponent.result.now ≡ p.exponent = c.exponent-exponent.ensures.value in
    let sign : p.exponent_negative ≡ true = sym (c.is_exponent_negative.ensures) ∙ c.if-is_exponent_negative.true in
    let some : 0 < length p.exponent = subst (λ (y : List ℕ). 0 < length y) x (doubles.some_of c.exponent-exponent.result.now c.is_empty.result c.is_empty.ensures c.if-not-is_empty.true) in
    (_, layouts.far_down c.args.size.now p c.requires.parts c.requires.digits some sign, c.put_scientific.ensures.appended ∙ (λ i. take c.args.end c.args.buffer.now ++ (mantissa (w i ++ f i) ++ (codes "E-" ++ padded (x i)))))

pub returns-then-not-is_empty-clause-appended : goal.returns-then-not-is_empty-clause-appended
returns-then-not-is_empty-clause-appended c =
    let p = c.args.numeral.now in
    let w : c.whole-whole.result.now ≡ p.whole = c.whole-whole.ensures.value in
    let f : c.fraction-fraction.result.now ≡ p.fraction = c.fraction-fraction.ensures.value in
    let x : c.exponent-exponent.result.now ≡ p.exponent = c.exponent-exponent.ensures.value in
    let sign : p.exponent_negative ≡ false = sym (c.is_exponent_negative.ensures) ∙ c.if-is_exponent_negative.false in
    let some : 0 < length p.exponent = subst (λ (y : List ℕ). 0 < length y) x (doubles.some_of c.exponent-exponent.result.now c.is_empty.result c.is_empty.ensures c.if-not-is_empty.true) in
    (_, layouts.far_up c.args.size.now p c.requires.parts c.requires.digits some sign, c.put_scientific-then-not-is_empty.ensures.appended ∙ (λ i. take c.args.end c.args.buffer.now ++ (mantissa (w i ++ f i) ++ (codes "E+" ++ padded (x i)))))

pub returns-then-whole-eq48-clause-appended : goal.returns-then-whole-eq48-clause-appended
returns-then-whole-eq48-clause-appended c =
    let p = c.args.numeral.now in
    let w : c.whole-whole.result.now ≡ p.whole = c.whole-whole.ensures.value in
    let f : c.fraction-fraction.result.now ≡ p.fraction = c.fraction-fraction.ensures.value in
    let x : c.exponent-exponent.result.now ≡ p.exponent = c.exponent-exponent.ensures.value in
    let none : p.exponent ≡ [] = sym x ∙ doubles.none_of c.exponent-exponent.result.now c.is_empty.result c.is_empty.ensures c.if-not-is_empty.false in
    let first : get_or p.whole 0 0 ≡ 48 = ap (λ y. get_or y 0 0) (sym w) ∙ c.if-whole-eq48.true in
    let before : AreZerosBefore p.fraction c.zeros_before.result = subst (λ (y : List ℕ). AreZerosBefore y c.zeros_before.result) f c.zeros_before.ensures in
    (_, layouts.small c.args.size.now p c.zeros_before.result c.requires.parts c.requires.digits none first before, c.put_small.ensures.appended ∙ (λ i. take c.args.end c.args.buffer.now ++ small_text c.args.size.now (f i) c.zeros_before.result))

pub returns-else-whole-eq48-clause-appended : goal.returns-else-whole-eq48-clause-appended
returns-else-whole-eq48-clause-appended c =
    let p = c.args.numeral.now in
    let w : c.whole-whole.result.now ≡ p.whole = c.whole-whole.ensures.value in
    let f : c.fraction-fraction.result.now ≡ p.fraction = c.fraction-fraction.ensures.value in
    let x : c.exponent-exponent.result.now ≡ p.exponent = c.exponent-exponent.ensures.value in
    let none : p.exponent ≡ [] = sym x ∙ doubles.none_of c.exponent-exponent.result.now c.is_empty.result c.is_empty.ensures c.if-not-is_empty.false in
    let first : get_or p.whole 0 0 ≢ 48 = λ e. c.if-whole-eq48.false (ap (λ y. get_or y 0 0) w ∙ e) in
    let after : AreZerosAfter p.whole c.without_zeros.result = subst (λ (y : List ℕ). AreZerosAfter y c.without_zeros.result) w c.without_zeros.ensures in
    (_, layouts.large c.args.size.now p c.without_zeros.result c.requires.parts c.requires.digits none after first, c.put_large.ensures.appended ∙ (λ i. take c.args.end c.args.buffer.now ++ large_text c.args.size.now (w i) (f i) c.without_zeros.result))

pub put_scientific-requires-clause-short : goal.put_scientific-requires-clause-short
put_scientific-requires-clause-short c =
    let p = c.args.numeral.now in
    let w : c.whole-whole.result.now ≡ p.whole = c.whole-whole.ensures.value in
    let f : c.fraction-fraction.result.now ≡ p.fraction = c.fraction-fraction.ensures.value in
    let x : c.exponent-exponent.result.now ≡ p.exponent = c.exponent-exponent.ensures.value in
    omega (arith, layouts.few_all c.args.size.now p c.requires.parts, ap (λ (y : List ℕ). length y) w, ap (λ (y : List ℕ). length y) f, ap (λ (y : List ℕ). length y) x)

pub put_scientific-requires-then-not-is_empty-clause-short : goal.put_scientific-requires-then-not-is_empty-clause-short
put_scientific-requires-then-not-is_empty-clause-short c =
    let p = c.args.numeral.now in
    let w : c.whole-whole.result.now ≡ p.whole = c.whole-whole.ensures.value in
    let f : c.fraction-fraction.result.now ≡ p.fraction = c.fraction-fraction.ensures.value in
    let x : c.exponent-exponent.result.now ≡ p.exponent = c.exponent-exponent.ensures.value in
    omega (arith, layouts.few_all c.args.size.now p c.requires.parts, ap (λ (y : List ℕ). length y) w, ap (λ (y : List ℕ). length y) f, ap (λ (y : List ℕ). length y) x)

pub put_small-requires-clause-short : goal.put_small-requires-clause-short
put_small-requires-clause-short c =
    let p = c.args.numeral.now in
    let f : c.fraction-fraction.result.now ≡ p.fraction = c.fraction-fraction.ensures.value in
    (c.requires.parts.short, omega (arith, layouts.few_parts c.args.size.now p c.requires.parts, ap (λ (y : List ℕ). length y) f))

pub put_large-requires-clause-short : goal.put_large-requires-clause-short
put_large-requires-clause-short c =
    let p = c.args.numeral.now in
    let w : c.whole-whole.result.now ≡ p.whole = c.whole-whole.ensures.value in
    let f : c.fraction-fraction.result.now ≡ p.fraction = c.fraction-fraction.ensures.value in
    (c.requires.parts.short, omega (arith, layouts.few_parts c.args.size.now p c.requires.parts, ap (λ (y : List ℕ). length y) w, ap (λ (y : List ℕ). length y) f))
