-- Codes are in the order of the numbers.
use Rattle.std.proofs.Common.{◌≡◌, ◌⊎◌, ◌↔◌, ℕ, ◌+◌, ◌*◌, ◌%◌, ◌^◌, ◌<◌, ◌≤◌, Bool, true, false, ℤ, pos, neg_ℤ, ◌<ℤ◌, Option, Some, refl, sym, ap, ◌∙◌, subst, arith, inl, inr, ⊎_elim, zero-mul}
use Rattle.std.proofs.Math.Nat.{mul-lt-mul_of_pos_right}
use Rattle.std.proofs.lemmas.Int.{ints}
use Rattle.std.proofs.lemmas.Bool.{cases_lt, cases_order}
use borrow.Author.Tests.{le-leb, lt-leb}
use Rattle.bd_wide_number.specs.Value.{Value, nan, infinite, finite, least_double, magnitude, infinite_bits, has_sign, signed, double_value, IsLess, IsEqual}
use Rattle.bd_wide_number.specs.Code.{double_code, double_part}
use Rattle.bd_wide_number.proofs.CodeLemmas.{double_gives, infinite_is, finite_is, least_pos, nan_is, zero_double}
use Rattle.bd_wide_number.proofs.ValueLemmas.{none_is, rises}

-- ---- sizes and codes without their signs

-- two pairs that are in the same order
record InOneOrder (b n d m : ℕ) : Type 0 where
  up : b < d → n < m
  down : d < b → m < n
  same : b ≡ d → n ≡ m
  up_back : n < m → b < d
  down_back : m < n → d < b
  same_back : n ≡ m → b ≡ d

-- the two pairs are in the same order, and so is each with zero
record AreAlike (b n d m : ℕ) : Type 0 where
  both : InOneOrder b n d m
  first : InOneOrder b n 0 0
  second : InOneOrder d m 0 0

in_one_order : (b n d m : ℕ) → (b < d → n < m) → (d < b → m < n) → (b ≡ d → n ≡ m) → InOneOrder b n d m
in_one_order b n d m up down same = elim (cases_order b d) [
  | inl e ↦ (let f = same e in record { up = up; down = down; same = same; up_back = λ l. absurd (omega arith); down_back = λ l. absurd (omega arith); same_back = λ g. e })
  | inr o ↦ elim o [
    | inl l ↦ (let f = up l in record { up = up; down = down; same = same; up_back = λ g. l; down_back = λ g. absurd (omega arith); same_back = λ g. absurd (omega arith) })
    | inr l ↦ (let f = down l in record { up = up; down = down; same = same; up_back = λ g. absurd (omega arith); down_back = λ g. l; same_back = λ g. absurd (omega arith) })
  ]
]

zero_or : (b n : ℕ) → InOneOrder b n 0 0 → ((b ≡ 0) × (n ≡ 0)) ⊎ ((0 < b) × (0 < n))
zero_or b n h = ⊎_elim (λ (l : 0 < b). inr (l, h.down l)) (λ (l : b ≤ 0). let e : b ≡ 0 = omega arith in inl (e, h.same e)) (cases_lt 0 b)

apart_less : (b n d m : ℕ) → ((b ≡ 0) × (n ≡ 0)) ⊎ ((0 < b) × (0 < n)) → ((d ≡ 0) × (m ≡ 0)) ⊎ ((0 < d) × (0 < m))
    → (signed true b <ℤ signed false d) ↔ (signed true n <ℤ signed false m)
apart_less b n d m (inl p) (inl q) = (λ l. absurd (omega (arith, ints, p, q)), λ l. absurd (omega (arith, ints, p, q)))
apart_less b n d m (inl p) (inr q) = (λ l. omega (arith, ints), λ l. omega (arith, ints))
apart_less b n d m (inr p) (inl q) = (λ l. omega (arith, ints), λ l. omega (arith, ints))
apart_less b n d m (inr p) (inr q) = (λ l. omega (arith, ints), λ l. omega (arith, ints))

signed_less : (s t : Bool) (b n d m : ℕ) → AreAlike b n d m → (signed s b <ℤ signed t d) ↔ (signed s n <ℤ signed t m)
signed_less true true b n d m h = (λ l. omega (arith, ints), λ l. omega (arith, ints))
signed_less true false b n d m h = apart_less b n d m (zero_or b n h.first) (zero_or d m h.second)
signed_less false true b n d m h = (λ l. omega (arith, ints), λ l. omega (arith, ints))
signed_less false false b n d m h = (λ l. omega (arith, ints), λ l. omega (arith, ints))

signed_equal : (s t : Bool) (b n d m : ℕ) → AreAlike b n d m → (signed s b ≡ signed t d) ↔ (signed s n ≡ signed t m)
signed_equal true true b n d m h = (λ l. omega (arith, ints), λ l. omega (arith, ints))
signed_equal true false b n d m h = (λ l. omega (arith, ints), λ l. omega (arith, ints))
signed_equal false true b n d m h = (λ l. omega (arith, ints), λ l. omega (arith, ints))
signed_equal false false b n d m h = (λ l. omega (arith, ints), λ l. omega (arith, ints))

module _ (b n d m : ℕ) (first : magnitude b * least_double ≡ n) (second : magnitude d * least_double ≡ m) where
  more : (x y : ℕ) → x < y → magnitude x * least_double < magnitude y * least_double
  more x y l = mul-lt-mul_of_pos_right (rises x y l) least_pos

  doubles_order : InOneOrder b n d m
  doubles_order = in_one_order b n d m (λ l. omega (arith, more b d l)) (λ l. omega (arith, more d b l))
      (λ e. sym first ∙ ap (λ (z : ℕ). magnitude z * least_double) e ∙ second)

nothing : magnitude 0 * least_double ≡ 0
nothing = ap (λ (z : ℕ). z * least_double) none_is ∙ zero-mul least_double

doubles_alike : (b n d m : ℕ) → magnitude b * least_double ≡ n → magnitude d * least_double ≡ m → AreAlike b n d m
doubles_alike b n d m first second = record {
  both = doubles_order b n d m first second;
  first = doubles_order b n 0 0 first nothing;
  second = doubles_order d m 0 0 second nothing;
}

-- ---- codes in order

-- how two numbers and their codes compare
abbrev InOrder : Value → Value → ℤ → ℤ → Type 0
InOrder a b c d = ((c <ℤ d) ↔ IsLess a b) × ((c ≡ d) ↔ IsEqual a b)

some_same : {A : Type 0} (x y : A) → Some x ≡ Some y → x ≡ y
some_same x y e = cc

between : (negative : Bool) (b : ℕ) (c : ℤ) → b < infinite_bits → c ≡ signed negative b → (neg_ℤ (pos infinite_bits) <ℤ c) × (c <ℤ pos infinite_bits)
between true b c few e = (omega (arith, ints), omega (arith, ints))
between false b c few e = (omega (arith, ints), omega (arith, ints))

part_between : (negative : Bool) (size : ℕ) (c : ℤ) → double_part negative size ≡ Some c → (neg_ℤ (pos infinite_bits) <ℤ c) × (c <ℤ pos infinite_bits)
part_between negative size c h = let g = double_gives negative size c h in between negative g.0 c g.1 g.3

-- by ranks that differ, or are equal
below : (r q : ℕ) (c d : ℤ) → r < q → c <ℤ d → ((c <ℤ d) ↔ (r < q)) × ((c ≡ d) ↔ (r ≡ q))
below r q c d l less = ((λ h. l, λ h. less), (λ h. absurd (omega (arith, ints)), λ h. absurd (omega arith)))

above : (r q : ℕ) (c d : ℤ) → q < r → d <ℤ c → ((c <ℤ d) ↔ (r < q)) × ((c ≡ d) ↔ (r ≡ q))
above r q c d l less = ((λ h. absurd (omega (arith, ints)), λ h. absurd (omega arith)), (λ h. absurd (omega (arith, ints)), λ h. absurd (omega arith)))

level : (r q : ℕ) (c d : ℤ) → r ≡ q → c ≡ d → ((c <ℤ d) ↔ (r < q)) × ((c ≡ d) ↔ (r ≡ q))
level r q c d l same = ((λ h. absurd (omega (arith, ints)), λ h. absurd (omega arith)), (λ h. l, λ h. same))

finite_order : (s t : Bool) (n m : ℕ) (c d : ℤ) → double_part s n ≡ Some c → double_part t m ≡ Some d → InOrder (finite s n) (finite t m) c d
finite_order s t n m c d h g =
    let p = double_gives s n c h in
    let q = double_gives t m d g in
    let h = doubles_alike p.0 n q.0 m p.2 q.2 in
    subst (λ (x : ℤ). InOrder (finite s n) (finite t m) x d) (sym p.3)
    (subst (λ (y : ℤ). InOrder (finite s n) (finite t m) (signed s p.0) y) (sym q.3)
    (signed_less s t p.0 n q.0 m h, signed_equal s t p.0 n q.0 m h))

double_order : (a b : Value) (c d : ℤ) → double_code a ≡ Some c → double_code b ≡ Some d → InOrder a b c d
unfolding double_code
double_order nan nan c d h g = level 0 0 c d refl (sym (some_same _ c h) ∙ some_same _ d g)
double_order nan (infinite true) c d h g = below 0 1 c d (omega arith) (omega (arith, ints, some_same _ c h, some_same _ d g))
double_order nan (infinite false) c d h g = below 0 3 c d (omega arith) (omega (arith, ints, some_same _ c h, some_same _ d g))
double_order nan (finite t m) c d h g = below 0 2 c d (omega arith) (omega (arith, ints, some_same _ c h, part_between t m d g))
double_order (infinite true) nan c d h g = above 1 0 c d (omega arith) (omega (arith, ints, some_same _ c h, some_same _ d g))
double_order (infinite true) (infinite true) c d h g = level 1 1 c d refl (sym (some_same _ c h) ∙ some_same _ d g)
double_order (infinite true) (infinite false) c d h g = below 1 3 c d (omega arith) (omega (arith, ints, some_same _ c h, some_same _ d g))
double_order (infinite true) (finite t m) c d h g = below 1 2 c d (omega arith) (omega (arith, ints, some_same _ c h, part_between t m d g))
double_order (infinite false) nan c d h g = above 3 0 c d (omega arith) (omega (arith, ints, some_same _ c h, some_same _ d g))
double_order (infinite false) (infinite true) c d h g = above 3 1 c d (omega arith) (omega (arith, ints, some_same _ c h, some_same _ d g))
double_order (infinite false) (infinite false) c d h g = level 3 3 c d refl (sym (some_same _ c h) ∙ some_same _ d g)
double_order (infinite false) (finite t m) c d h g = above 3 2 c d (omega arith) (omega (arith, ints, some_same _ c h, part_between t m d g))
double_order (finite s n) nan c d h g = above 2 0 c d (omega arith) (omega (arith, ints, part_between s n c h, some_same _ d g))
double_order (finite s n) (infinite true) c d h g = above 2 1 c d (omega arith) (omega (arith, ints, part_between s n c h, some_same _ d g))
double_order (finite s n) (infinite false) c d h g = below 2 3 c d (omega arith) (omega (arith, ints, part_between s n c h, some_same _ d g))
double_order (finite s n) (finite t m) c d h g = finite_order s t n m c d h g

-- of two numbers with codes, the less has the less code
pub codes_rise_less : (a b : Value) (c d : ℤ) → double_code a ≡ Some c → double_code b ≡ Some d → (c <ℤ d) ↔ IsLess a b
codes_rise_less a b c d h g = (double_order a b c d h g).0

-- two numbers with codes are equal exactly if their codes are
pub codes_rise_equal : (a b : Value) (c d : ℤ) → double_code a ≡ Some c → double_code b ≡ Some d → (c ≡ d) ↔ IsEqual a b
codes_rise_equal a b c d h g = (double_order a b c d h g).1

-- ---- equal numbers

one_part : (f : Bool → ℕ → Option ℤ) → ((s t : Bool) → f s 0 ≡ f t 0) → (s t : Bool) (n m : ℕ) → signed s n ≡ signed t m → f s n ≡ f t m
one_part f zeros true true n m e = ap (f true) (omega (arith, ints))
one_part f zeros false false n m e = ap (f false) (omega (arith, ints))
one_part f zeros true false n m e =
    let first : n ≡ 0 = omega (arith, ints) in
    let second : m ≡ 0 = omega (arith, ints) in
    ap (f true) first ∙ zeros true false ∙ sym (ap (f false) second)
one_part f zeros false true n m e =
    let first : n ≡ 0 = omega (arith, ints) in
    let second : m ≡ 0 = omega (arith, ints) in
    ap (f false) first ∙ zeros false true ∙ sym (ap (f true) second)

double_zeros : (s t : Bool) → double_part s 0 ≡ double_part t 0
double_zeros s t = sym (zero_double s 0 refl) ∙ zero_double t 0 refl

pub one_code : (a b : Value) → IsEqual a b → double_code a ≡ double_code b
unfolding double_code
one_code nan nan e = refl
one_code nan (infinite true) e = absurd (omega arith)
one_code nan (infinite false) e = absurd (omega arith)
one_code nan (finite t m) e = absurd (omega arith)
one_code (infinite true) nan e = absurd (omega arith)
one_code (infinite true) (infinite true) e = refl
one_code (infinite true) (infinite false) e = absurd (omega arith)
one_code (infinite true) (finite t m) e = absurd (omega arith)
one_code (infinite false) nan e = absurd (omega arith)
one_code (infinite false) (infinite true) e = absurd (omega arith)
one_code (infinite false) (infinite false) e = refl
one_code (infinite false) (finite t m) e = absurd (omega arith)
one_code (finite s n) nan e = absurd (omega arith)
one_code (finite s n) (infinite true) e = absurd (omega arith)
one_code (finite s n) (infinite false) e = absurd (omega arith)
one_code (finite s n) (finite t m) e = one_part double_part double_zeros s t n m e

-- ---- doubles

-- the bits with a sign
with_sign : Bool → ℕ → ℕ
with_sign true b = 2 ^ 63 + b
with_sign false b = b

sign_is : (s : Bool) (b : ℕ) → b < 2 ^ 63 → (has_sign (with_sign s b) ≡ s) × (with_sign s b % 2 ^ 63 ≡ b) × (with_sign s b < 2 ^ 64)
unfolding with_sign
sign_is true b few = (le-leb (2 ^ 63) (2 ^ 63 + b) (omega arith), omega arith, omega arith)
sign_is false b few = (lt-leb (2 ^ 63) b few, omega arith, omega arith)

equal_itself : (a : Value) → IsEqual a a
equal_itself nan = refl
equal_itself (infinite s) = refl
equal_itself (finite s n) = refl

-- some double has this value
HasDouble : Value → Type 0
HasDouble a = (bits : ℕ) × (bits < 2 ^ 64) × IsEqual a (double_value bits)

by_value : (a : Value) (bits : ℕ) → bits < 2 ^ 64 → double_value bits ≡ a → HasDouble a
unfolding HasDouble
by_value a bits few e = (bits, few, subst (IsEqual a) (sym e) (equal_itself a))

has_double : (a : Value) (c : ℤ) → double_code a ≡ Some c → HasDouble a
unfolding double_code
has_double nan c h = by_value nan (infinite_bits + 1) (omega arith) (nan_is (infinite_bits + 1) (omega arith))
has_double (infinite s) c h =
    let p = sign_is s infinite_bits (omega arith) in
    by_value (infinite s) (with_sign s infinite_bits) p.2 (infinite_is (with_sign s infinite_bits) p.1 ∙ ap infinite p.0)
has_double (finite s n) c h =
    let g = double_gives s n c h in
    let p = sign_is s g.0 (omega (arith, g.1)) in
    let low : with_sign s g.0 % 2 ^ 63 < infinite_bits = omega (arith, p.1, g.1) in
    by_value (finite s n) (with_sign s g.0) p.2
    (finite_is (with_sign s g.0) low
    ∙ ap (λ (x : Bool). finite x (magnitude (with_sign s g.0 % 2 ^ 63) * least_double)) p.0
    ∙ ap (λ (x : ℕ). finite s (magnitude x * least_double)) p.1
    ∙ ap (finite s) g.2)

pub equal_double : (a : Value) (c : ℤ) → double_code a ≡ Some c → (bits : ℕ) × (bits < 2 ^ 64) × IsEqual a (double_value bits)
unfolding HasDouble
equal_double a c h = has_double a c h
