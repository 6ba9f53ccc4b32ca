-- The contents of a wrapper mean at most one number, or have one fault.
use Rattle.std.proofs.Common.{◌≡◌, ◌<◌, ℕ, ◌+◌, ◌-◌, ◌*◌, ◌%◌, ◌^◌, List, refl, sym, ap, ◌∙◌, inl, inr, arith, Result, Ok, Err}
use Rattle.std.proofs.lemmas.Bool.{cases_lt}
use Rattle.bd_wide_number.specs.declared.number.Number.TheVariants.{Whole, Double, Decimal128}
use Rattle.bd_wide_read.specs.DecimalText as numerics
use Rattle.bd_wide_read.specs.DecimalText.{IsExact, IsRead, IsWorth, Numeric, Scaled, high_half, numeric_of}
use Rattle.bd_wide_read.specs.declared.fault.TextFault.{TextFault}
use Rattle.bd_wide_read.specs.declared.fault.TextFault.TheVariants.{BadText, OutOfRange}
use Rattle.bd_wide_read.proofs.TenLemmas.{grows, joined, moved}
use Rattle.bd_wide_substitute.specs.declared.wrapped.ValueType.{ValueType}
use Rattle.bd_wide_substitute.specs.declared.wrapped.ValueType.TheVariants as types
use Rattle.bd_wide_substitute.specs.declared.wrapped.WideValue.{WideValue}
use Rattle.bd_wide_substitute.specs.declared.wrapped.WideValue.TheVariants as values
use Rattle.bd_wide_substitute.specs.Substitutes.{IsMeant}

bits_are : (bits others : ℕ × ℕ) (r : Result (ℕ × ℕ) TextFault) → Ok bits ≡ r → Ok others ≡ r → bits ≡ others
bits_are bits others r e f = let both : Ok bits ≡ Ok others = e ∙ sym f in cc

-- if there were two exponents, one between them would be nearer
no_middle : (n : Scaled) (c b other at : ℕ) → IsExact n c b → IsExact n other at → at < b → ⊥
no_middle n c b other at h k less =
    let near = h.nearest other at k.worth in
    let far = k.nearest c b h.worth in
    let same : c * 10 ^ (b + n.below) ≡ other * 10 ^ (at + n.below) = h.worth.value ∙ sym k.worth.value in
    let moved_down : c * 10 ^ (b - at) ≡ other * 10 ^ 0 = moved c other (b + n.below) (at + n.below) (b - at) 0 (omega arith) same in
    let apart_by : b - at ≡ 1 + (b - at - 1) = omega arith in
    let up : c * 10 ^ (b - at) ≡ c * 10 ^ 1 * 10 ^ (b - at - 1) = ap (λ (k : ℕ). c * 10 ^ k) apart_by ∙ joined c 1 (b - at - 1) in
    let few : c * 10 ^ 1 < 10 ^ 34 = omega (arith, up, moved_down, k.worth.digits, grows (c * 10 ^ 1) (b - at - 1)) in
    let down : b + n.below ≡ 1 + (b - 1 + n.below) = omega arith in
    let value : c * 10 ^ 1 * 10 ^ (b - 1 + n.below) ≡ n.digits * 10 ^ n.above = sym (joined c 1 (b - 1 + n.below)) ∙ ap (λ (k : ℕ). c * 10 ^ k) (sym down) ∙ h.worth.value in
    let middle : IsWorth n (c * 10 ^ 1) (b - 1) = record { digits = few; exponent = omega (arith, h.worth.exponent); value = value } in
    omega (arith, near, far, h.nearest (c * 10 ^ 1) (b - 1) middle)

same_exponent : (n : Scaled) (c b other at : ℕ) → IsExact n c b → IsExact n other at → b ≡ at
same_exponent n c b other at h k =
    elim (cases_lt at b) [
      | inl less ↦ absurd (no_middle n c b other at h k less)
      | inr more ↦ elim (cases_lt b at) [ inl less ↦ absurd (no_middle n other at c b k h less) | inr other_more ↦ omega arith ]
    ]

same_coefficient : (n : Scaled) (c b other at : ℕ) → IsExact n c b → IsExact n other at → b ≡ at → c ≡ other
same_coefficient n c b other at h k level =
    let e : c * 10 ^ 0 ≡ other * 10 ^ 0 = moved c other (b + n.below) (at + n.below) 0 0 (omega arith) (h.worth.value ∙ sym k.worth.value) in
    omega arith

-- a text is at most one decimal128
decimal_once : (r : Numeric) (bits others : ℕ × ℕ) → IsRead r (Ok bits) → IsRead r (Ok others) → bits ≡ others
decimal_once (numerics.number negative n) bits others h k =
    let at = same_exponent n h.0 h.1 k.0 k.1 h.2 k.2 in
    let c = same_coefficient n h.0 h.1 k.0 k.1 h.2 k.2 at in
    let low : bits.0 ≡ others.0 = h.3 ∙ ap (λ (c : ℕ). c % 2 ^ 64) c ∙ sym k.3 in
    let high : bits.1 ≡ others.1 = h.4 ∙ (λ i. high_half negative (c i) (at i)) ∙ sym k.4 in
    (λ i. (low i, high i))
decimal_once (numerics.infinity negative) bits others h k = bits_are bits others _ h k
decimal_once numerics.not_a_number bits others h k = bits_are bits others _ h k
decimal_once numerics.none bits others h k = bits_are bits others _ h k

decimal_read_once : (r : Numeric) (one other : Result (ℕ × ℕ) TextFault) → IsRead r one → IsRead r other → one ≡ other
decimal_read_once r (Ok bits) (Ok others) h k = ap (λ (b : ℕ × ℕ). Ok b) (decimal_once r bits others h k)
decimal_read_once (numerics.number negative n) (Ok bits) (Err OutOfRange) h k = absurd (k h.0 h.1 h.2.worth)
decimal_read_once (numerics.number negative n) (Ok bits) (Err BadText) h k = absurd k
decimal_read_once (numerics.number negative n) (Err OutOfRange) (Ok bits) h k = absurd (h k.0 k.1 k.2.worth)
decimal_read_once (numerics.number negative n) (Err BadText) (Ok bits) h k = absurd h
decimal_read_once (numerics.number negative n) (Err OutOfRange) (Err OutOfRange) h k = refl
decimal_read_once (numerics.number negative n) (Err BadText) (Err other) h k = absurd h
decimal_read_once (numerics.number negative n) (Err OutOfRange) (Err BadText) h k = absurd k
decimal_read_once (numerics.infinity negative) one (Err f) h k = h ∙ sym k
decimal_read_once (numerics.infinity negative) (Err f) (Ok others) h k = h ∙ sym k
decimal_read_once numerics.not_a_number one (Err f) h k = h ∙ sym k
decimal_read_once numerics.not_a_number (Err f) (Ok others) h k = h ∙ sym k
decimal_read_once numerics.none one (Err f) h k = h ∙ sym k
decimal_read_once numerics.none (Err f) (Ok others) h k = h ∙ sym k

-- a text is at most one double
pub double_is : (bits others : ℕ) (r : Result ℕ TextFault) → r ≡ Ok bits → r ≡ Ok others → bits ≡ others
double_is bits others r e f = let both : Ok bits ≡ Ok others = sym e ∙ f in cc

-- a result with the number of its bits
abbrev numbered : Result (ℕ × ℕ) TextFault → Result WideValue TextFault
numbered (Ok bits) = Ok (values.Number (Decimal128 bits.0 bits.1))
numbered (Err f) = Err f

decimal_meant : (contents : List ℕ) (one other : Result WideValue TextFault) → IsMeant types.Decimal128 contents one → IsMeant types.Decimal128 contents other → one ≡ other
decimal_meant contents (Ok (values.Number (Decimal128 low high))) (Ok (values.Number (Decimal128 others upper))) h k = ap numbered (decimal_read_once (numeric_of contents) (Ok (low, high)) (Ok (others, upper)) h k)
decimal_meant contents (Ok (values.Number (Decimal128 low high))) (Err f) h k = ap numbered (decimal_read_once (numeric_of contents) (Ok (low, high)) (Err f) h k)
decimal_meant contents (Err f) (Ok (values.Number (Decimal128 low high))) h k = ap numbered (decimal_read_once (numeric_of contents) (Err f) (Ok (low, high)) h k)
decimal_meant contents (Err f) (Err g) h k = ap numbered (decimal_read_once (numeric_of contents) (Err f) (Err g) h k)
decimal_meant contents (Ok (values.Number (Double bits))) other h k = absurd h
decimal_meant contents (Ok (values.Number (Whole z))) other h k = absurd h
decimal_meant contents (Ok (values.Date z)) other h k = absurd h
decimal_meant contents (Ok (values.Uuid bytes)) other h k = absurd h
decimal_meant contents one (Ok (values.Number (Double bits))) h k = absurd k
decimal_meant contents one (Ok (values.Number (Whole z))) h k = absurd k
decimal_meant contents one (Ok (values.Date z)) h k = absurd k
decimal_meant contents one (Ok (values.Uuid bytes)) h k = absurd k

-- contents have one meaning
pub meant_once : (type : ValueType) (contents : List ℕ) (one other : Result WideValue TextFault) → IsMeant type contents one → IsMeant type contents other → one ≡ other
meant_once types.Double contents one other h k = h ∙ sym k
meant_once types.Date contents one other h k = h ∙ sym k
meant_once types.Uuid contents one other h k = h ∙ sym k
meant_once types.Decimal128 contents one other h k = decimal_meant contents one other h k
