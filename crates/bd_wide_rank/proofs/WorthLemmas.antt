-- Worths of values are in their order.
use Rattle.std.proofs.Common.{◌≡◌, ℕ, ◌*◌, ◌^◌, ◌<◌, ◌≤◌, Bool, true, false, pos, neg_ℤ, refl, sym, ◌∙◌, subst, arith, pow-add, Less, Greater, ℤ}
use Rattle.std.specs.Prelude.{◌<ℤ◌, ◌↔◌, ◌+◌}
use Rattle.std.specs.Ordering.{int_cmp}
use Rattle.std.proofs.Math.Nat.{mul-le-mul, mul-le-mul_right, mul-lt-mul_of_pos_right, one-le-pow, pow-le-pow_right}
use Rattle.std.proofs.lemmas.Nat.{mul-pow}
use Rattle.std.proofs.lemmas.Int.{ints}
use Rattle.bd_wide_number.specs.Value.{Value, nan, infinite, finite, signed, IsLess, IsEqual}
use Rattle.bd_wide_number.proofs.OddLemmas.{products}
use Rattle.bd_wide_rank.specs.{Worth.beyond, Worth.value_worth, Worth.worth_of, inside.Compare.value_cmp, inside.Compare.IsNear}
use Rattle.bd_wide_rank.specs.declared.compare.Shape.{Shape}
use Rattle.bd_wide_rank.specs.declared.compare.Shape.TheVariants as shapes
use Rattle.bd_wide_rank.specs.inside.Shape.{IsShapeOf}
use Rattle.bd_wide_rank.specs.inside.Size.{IsNumberSize, size_of}
use Rattle.bd_wide_rank.specs.declared.size.Size.{Size}
use Rattle.std.proofs.lemmas.Bool.{cases_lt}
use Rattle.std.proofs.Common.{⊎_elim, ◌/◌, ◌%◌}
use Rattle.std.proofs.Common.{ap, zero-mul}
use Rattle.bd_wide_number.specs.Value.{double_value, infinite_bits, one, value_of, whole_value}
use Rattle.bd_wide_number.specs.declared.number.Number.TheVariants as numbers
use Rattle.bd_wide_number.proofs.CodeLemmas.{nan_is, infinite_is}
use Rattle.bd_wide_rank.proofs.CompareLemmas.{alike, double_high, double_low, greater, less}

beyond_pos : 0 < beyond
unfolding beyond
beyond_pos = one-le-pow 40000 10 (omega arith)

inside : (s : Bool) (n : ℕ) → n < beyond → (neg_ℤ (pos beyond) <ℤ signed s n) × (signed s n <ℤ pos beyond)
inside true n l = (omega (arith, ints), omega (arith, ints))
inside false n l = (omega (arith, ints, beyond_pos), omega (arith, ints))

by_less : (v w : Value) → value_cmp v w ≡ Less → value_worth v <ℤ value_worth w → value_cmp v w ≡ int_cmp (value_worth v) (value_worth w)
by_less v w e l = e ∙ sym (less (value_worth v) (value_worth w) l)

by_greater : (v w : Value) → value_cmp v w ≡ Greater → value_worth w <ℤ value_worth v → value_cmp v w ≡ int_cmp (value_worth v) (value_worth w)
by_greater v w e l = e ∙ sym (greater (value_worth v) (value_worth w) l)

-- values compare as their worths do
pub worths_compare : (v w : Value) → IsNear v → IsNear w → value_cmp v w ≡ int_cmp (value_worth v) (value_worth w)
worths_compare nan nan p q = sym (alike (value_worth nan))
worths_compare nan (infinite true) p q = by_less nan (infinite true) refl (omega (arith, ints))
worths_compare nan (infinite false) p q = by_less nan (infinite false) refl (omega (arith, ints))
worths_compare nan (finite t m) p q = by_less nan (finite t m) refl (omega (arith, ints, inside t m q))
worths_compare (infinite true) nan p q = by_greater (infinite true) nan refl (omega (arith, ints))
worths_compare (infinite true) (infinite true) p q = sym (alike (value_worth (infinite true)))
worths_compare (infinite true) (infinite false) p q = by_less (infinite true) (infinite false) refl (omega (arith, ints, beyond_pos))
worths_compare (infinite true) (finite t m) p q = by_less (infinite true) (finite t m) refl (inside t m q).0
worths_compare (infinite false) nan p q = by_greater (infinite false) nan refl (omega (arith, ints))
worths_compare (infinite false) (infinite true) p q = by_greater (infinite false) (infinite true) refl (omega (arith, ints, beyond_pos))
worths_compare (infinite false) (infinite false) p q = sym (alike (value_worth (infinite false)))
worths_compare (infinite false) (finite t m) p q = by_greater (infinite false) (finite t m) refl (inside t m q).1
worths_compare (finite s n) nan p q = by_greater (finite s n) nan refl (omega (arith, ints, inside s n p))
worths_compare (finite s n) (infinite true) p q = by_greater (finite s n) (infinite true) refl (inside s n p).0
worths_compare (finite s n) (infinite false) p q = by_less (finite s n) (infinite false) refl (inside s n p).1
worths_compare (finite s n) (finite t m) p q = refl

-- ---- numbers are near

below : (n t f k : ℕ) → n < 2 ^ 128 → t ≤ k → f ≤ k → n * 2 ^ t * 5 ^ f < 2 ^ 128 * 10 ^ k
below n t f k few a b =
    let units : 2 ^ t * 5 ^ f ≤ 2 ^ k * 5 ^ k = mul-le-mul (pow-le-pow_right {n = 2} (omega arith) a) (pow-le-pow_right {n = 5} (omega arith) b) in
    let tens : 10 ^ k ≡ 2 ^ k * 5 ^ k = mul-pow 2 5 k in
    let turned : n * 2 ^ t * 5 ^ f ≡ n * (2 ^ t * 5 ^ f) = simp products in
    let first : n * (2 ^ t * 5 ^ f) ≤ n * 10 ^ k = mul-le-mul (let e : n ≤ n = omega arith in e) (rw tens units) in
    let second : n * 10 ^ k < 2 ^ 128 * 10 ^ k = mul-lt-mul_of_pos_right few (one-le-pow k 10 (omega arith)) in
    omega arith

within : (x k m : ℕ) → x < 2 ^ 128 * 10 ^ k → 39 + k ≤ m → x < 10 ^ m
within x k m l h =
    let few : 2 ^ 128 ≤ 10 ^ 39 = omega arith in
    let sum : 10 ^ (39 + k) ≡ 10 ^ 39 * 10 ^ k = pow-add 10 39 k in
    let first : 2 ^ 128 * 10 ^ k ≤ 10 ^ 39 * 10 ^ k = mul-le-mul_right (10 ^ k) few in
    let second : 10 ^ (39 + k) ≤ 10 ^ m = pow-le-pow_right {n = 10} (omega arith) h in
    omega arith

size_near : (s : Size) → IsNumberSize s → size_of s < beyond
unfolding beyond
size_near s h = within (size_of s) 32768 40000 (below s.number s.twos s.fives 32768 h.few (omega (arith, h.few_twos)) (omega (arith, h.few_fives))) (omega arith)

-- what has a shape is NaN, an infinity, or below them
pub shape_near : (v : Value) (s : Shape) → IsShapeOf v s → IsNear v
shape_near nan shapes.NotANumber h = tt
shape_near (infinite s) (shapes.Infinite t) h = tt
shape_near (finite s n) (shapes.Finite t z) h = subst (λ (k : ℕ). k < beyond) (sym h.1) (size_near z h.2)
shape_near _ _ h = absurd h

-- ---- the order of numbers

-- by ranks that differ, or are equal
rank_less : (r q : ℕ) (c d : ℤ) → r < q → c <ℤ d → ((c <ℤ d) ↔ (r < q)) × ((c ≡ d) ↔ (r ≡ q))
rank_less r q c d l less = ((λ h. l, λ h. less), (λ h. absurd (omega (arith, ints)), λ h. absurd (omega arith)))

rank_more : (r q : ℕ) (c d : ℤ) → q < r → d <ℤ c → ((c <ℤ d) ↔ (r < q)) × ((c ≡ d) ↔ (r ≡ q))
rank_more r q c d l less = ((λ h. absurd (omega (arith, ints)), λ h. absurd (omega arith)), (λ h. absurd (omega (arith, ints)), λ h. absurd (omega arith)))

rank_same : (r q : ℕ) (c d : ℤ) → r ≡ q → c ≡ d → ((c <ℤ d) ↔ (r < q)) × ((c ≡ d) ↔ (r ≡ q))
rank_same r q c d l same = ((λ h. absurd (omega (arith, ints)), λ h. absurd (omega arith)), (λ h. l, λ h. same))

abbrev InOrder : Value → Value → Type 0
InOrder v w = ((value_worth v <ℤ value_worth w) ↔ IsLess v w) × ((value_worth v ≡ value_worth w) ↔ IsEqual v w)

-- worths are in the order of values
pub in_order : (v w : Value) → IsNear v → IsNear w → InOrder v w
in_order nan nan p q = rank_same 0 0 _ _ refl refl
in_order nan (infinite true) p q = rank_less 0 1 _ _ (omega arith) (omega (arith, ints))
in_order nan (infinite false) p q = rank_less 0 3 _ _ (omega arith) (omega (arith, ints))
in_order nan (finite t m) p q = rank_less 0 2 _ _ (omega arith) (omega (arith, ints, inside t m q))
in_order (infinite true) nan p q = rank_more 1 0 _ _ (omega arith) (omega (arith, ints))
in_order (infinite true) (infinite true) p q = rank_same 1 1 _ _ refl refl
in_order (infinite true) (infinite false) p q = rank_less 1 3 _ _ (omega arith) (omega (arith, ints, beyond_pos))
in_order (infinite true) (finite t m) p q = rank_less 1 2 _ _ (omega arith) (inside t m q).0
in_order (infinite false) nan p q = rank_more 3 0 _ _ (omega arith) (omega (arith, ints))
in_order (infinite false) (infinite true) p q = rank_more 3 1 _ _ (omega arith) (omega (arith, ints, beyond_pos))
in_order (infinite false) (infinite false) p q = rank_same 3 3 _ _ refl refl
in_order (infinite false) (finite t m) p q = rank_more 3 2 _ _ (omega arith) (inside t m q).1
in_order (finite s n) nan p q = rank_more 2 0 _ _ (omega arith) (omega (arith, ints, inside s n p))
in_order (finite s n) (infinite true) p q = rank_more 2 1 _ _ (omega arith) (inside s n p).0
in_order (finite s n) (infinite false) p q = rank_less 2 3 _ _ (omega arith) (inside s n p).1
in_order (finite s n) (finite t m) p q = ((λ h. h, λ h. h), (λ h. h, λ h. h))

-- ---- zero

pub zero_worth : worth_of (numbers.Whole (pos 0)) ≡ pos 0
unfolding value_of whole_value
zero_worth = ap pos (zero-mul one)

-- ---- doubles

near_at : (v w : Value) → v ≡ w → IsNear w → IsNear v
near_at v w e h = subst IsNear (sym e) h

-- each double is near
pub double_near : (bits : ℕ) → IsNear (double_value bits)
double_near bits = ⊎_elim
    (λ (l : infinite_bits < bits % 2 ^ 63). near_at _ _ (nan_is bits l) tt)
    (λ (h : bits % 2 ^ 63 ≤ infinite_bits). ⊎_elim
    (λ (l : bits % 2 ^ 63 < infinite_bits). finite_near bits l)
    (λ (g : infinite_bits ≤ bits % 2 ^ 63). near_at _ _ (infinite_is bits (omega arith)) tt)
    (cases_lt (bits % 2 ^ 63) infinite_bits))
    (cases_lt infinite_bits (bits % 2 ^ 63))
  where
    finite_near : (bits : ℕ) → bits % 2 ^ 63 < infinite_bits → IsNear (double_value bits)
    finite_near bits l = ⊎_elim
        (λ (p : 0 < bits % 2 ^ 63 / 2 ^ 52). shape_near _ _ (double_high bits l (λ e. absurd (omega arith))))
        (λ (p : bits % 2 ^ 63 / 2 ^ 52 ≤ 0). shape_near _ _ (double_low bits l (omega arith)))
        (cases_lt 0 (bits % 2 ^ 63 / 2 ^ 52))
