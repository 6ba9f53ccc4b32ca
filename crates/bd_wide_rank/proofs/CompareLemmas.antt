-- Shapes of numbers, and the order of their values.
use Rattle.std.proofs.Common.{◌≡◌, ◌≢◌, ℕ, suc, ◌+◌, ◌-◌, ◌*◌, ◌/◌, ◌%◌, ◌^◌, ◌<◌, ◌≤◌, Bool, ℤ, refl, sym, ap, ◌∙◌, subst, arith, pow-add, mul-one, Ordering, Less, Equal, Greater, nat_cmp, Some, true, false}
use Rattle.std.specs.Ordering.{int_cmp, ordering_then}
use Rattle.std.proofs.lemmas.Nat.{mul-pow}
use Rattle.std.proofs.lemmas.Int.{ints, by_lt_z}
use Rattle.std.specs.Prelude.{◌<ℤ◌, ◌≤ℤ◌}
use Rattle.bd_wide_number.specs.Value.{Value, nan, infinite, finite, one, least_double, magnitude, infinite_bits, has_sign, signed, double_value, rank, IsLess, IsEqual}
use Rattle.bd_wide_number.specs.Code.{double_code}
use Rattle.bd_wide_number.proofs.OddLemmas.{products}
use Rattle.bd_wide_number.proofs.CodeLemmas.{finite_is}
use Rattle.bd_wide_number.proofs.ValueLemmas.{by_parts, small_magnitude}
use Rattle.bd_wide_number.proofs.LawLemmas.{codes_rise_less, codes_rise_equal}
use Rattle.bd_wide_rank.specs.inside.Compare.{signed_size, value_cmp}
use Rattle.bd_wide_rank.specs.declared.size.Size.{Size}
use Rattle.bd_wide_rank.specs.declared.compare.Shape.{Shape}
use Rattle.bd_wide_rank.specs.declared.compare.Shape.TheVariants as shapes
use Rattle.bd_wide_rank.specs.inside.Shape.{IsOfNumber, IsShapeOf}
use Rattle.bd_wide_rank.proofs.SizeLemmas.{unit_pos}
use Rattle.std.proofs.Common.{◌⊎◌, inl, inr, mul-pos}
use Rattle.bd_wide_rank.specs.inside.Size.{IsNumberSize}

-- equal values have one shape
pub shape_at : (v w : Value) (s : Shape) → v ≡ w → IsShapeOf w s → IsShapeOf v s
shape_at v w s e h = subst (λ x. IsShapeOf x s) (sym e) h

-- ---- units

pub tens : (x n : ℕ) → x * 10 ^ n ≡ x * 2 ^ n * 5 ^ n
tens x n = let e : 10 ^ n ≡ 2 ^ n * 5 ^ n = mul-pow 2 5 n in ap (λ (z : ℕ). x * z) e ∙ (let f : x * (2 ^ n * 5 ^ n) ≡ x * 2 ^ n * 5 ^ n = simp products in f)

least_is : least_double ≡ 2 ^ 5102 * 5 ^ 6176
unfolding least_double
least_is = refl

one_is : one ≡ 10 ^ 6176
unfolding one
one_is = refl

pub whole_units : (n : ℕ) → n * one ≡ n * 2 ^ 6176 * 5 ^ 6176
whole_units n = ap (λ (z : ℕ). n * z) one_is ∙ tens n 6176

module _ (unit s t : ℕ) (is : unit ≡ 2 ^ s * 5 ^ t) where
  scaled : (m e twos : ℕ) → s + e ≡ twos → (m * 2 ^ e) * unit ≡ m * 2 ^ twos * 5 ^ t
  scaled m e twos sum =
      let turned : (m * 2 ^ e) * (2 ^ s * 5 ^ t) ≡ m * 2 ^ (s + e) * 5 ^ t = simp (pow-add, products) in
      ap (λ (z : ℕ). (m * 2 ^ e) * z) is ∙ turned ∙ ap (λ (z : ℕ). m * 2 ^ z * 5 ^ t) sum

-- ---- doubles

near_size : (s : Size) → s.number < 2 ^ 128 → s.fives ≡ 6176 → 5101 ≤ s.twos → s.twos ≤ 7147 → IsNumberSize s
near_size s few f low high = record { few = few; few_twos = omega arith; few_fives = omega arith; more = omega arith; less = omega arith }

module _ (bits : ℕ) (few : bits % 2 ^ 63 < infinite_bits) where
  -- a double with exponent 0 has the shape of its fraction
  pub double_low : bits % 2 ^ 63 / 2 ^ 52 ≡ 0
      → IsShapeOf (double_value bits) (shapes.Finite (has_sign bits) (record { number = bits % 2 ^ 63 % 2 ^ 52; twos = 5102; fives = 6176 }))
  double_low none =
      let size = bits % 2 ^ 63 in
      let is : magnitude size ≡ size % 2 ^ 52 * 2 ^ 0 =
      small_magnitude size (omega arith) ∙ (let f : size ≡ size % 2 ^ 52 = omega arith in f) ∙ sym (mul-one _) in
      shape_at _ _ _ (finite_is bits few)
      (refl, ap (λ (z : ℕ). z * least_double) is ∙ scaled least_double 5102 6176 least_is (size % 2 ^ 52) 0 5102 (omega arith), near_size _ (omega arith) refl (omega arith) (omega arith))

  -- any other finite double has the shape of its fraction with the leading one
  pub double_high : bits % 2 ^ 63 / 2 ^ 52 ≢ 0
      → IsShapeOf (double_value bits) (shapes.Finite (has_sign bits) (record { number = 2 ^ 52 + bits % 2 ^ 63 % 2 ^ 52; twos = 5101 + bits % 2 ^ 63 / 2 ^ 52; fives = 6176 }))
  double_high some =
      let size = bits % 2 ^ 63 in
      let e = size / 2 ^ 52 - 1 in
      let same : suc e * 2 ^ 52 + size % 2 ^ 52 ≡ size = omega arith in
      let is : magnitude size ≡ (2 ^ 52 + size % 2 ^ 52) * 2 ^ e = sym (ap magnitude same) ∙ by_parts (suc e) (size % 2 ^ 52) (omega arith) in
      shape_at _ _ _ (finite_is bits few)
      (refl, ap (λ (z : ℕ). z * least_double) is ∙ scaled least_double 5102 6176 least_is (2 ^ 52 + size % 2 ^ 52) e (5101 + size / 2 ^ 52) (omega arith), near_size _ (omega arith) refl (omega arith) (omega arith))

-- ---- the order of doubles by their codes

-- a less number compares as less
pub less : (m n : ℤ) → m <ℤ n → int_cmp m n ≡ Less
less m n h = grind (arith, ints)

-- a greater number compares as greater
pub greater : (m n : ℤ) → n <ℤ m → int_cmp m n ≡ Greater
greater m n h = grind (arith, ints)

-- a number compares as equal to itself
pub alike : (n : ℤ) → int_cmp n n ≡ Equal
alike n = grind (arith, ints)

rank_less : (m n : ℕ) (o : Ordering) → m < n → ordering_then (nat_cmp m n) o ≡ Less
rank_less m n o l = grind (arith, ints)

by_rank_less : (v w : Value) → rank v < rank w → value_cmp v w ≡ Less
by_rank_less v w l = rank_less (rank v) (rank w) (int_cmp (signed_size v) (signed_size w)) l

pub value_less : (v w : Value) → IsLess v w → value_cmp v w ≡ Less
value_less (finite s a) (finite t b) l = less _ _ l
value_less nan nan l = absurd (omega arith)
value_less nan (infinite t) l = by_rank_less nan (infinite t) l
value_less nan (finite t b) l = by_rank_less nan (finite t b) l
value_less (infinite s) nan l = by_rank_less (infinite s) nan l
value_less (infinite s) (infinite t) l = by_rank_less (infinite s) (infinite t) l
value_less (infinite s) (finite t b) l = by_rank_less (infinite s) (finite t b) l
value_less (finite s a) nan l = by_rank_less (finite s a) nan l
value_less (finite s a) (infinite t) l = by_rank_less (finite s a) (infinite t) l

rank_greater : (m n : ℕ) (o : Ordering) → n < m → ordering_then (nat_cmp m n) o ≡ Greater
rank_greater m n o l = grind (arith, ints)

by_rank_greater : (v w : Value) → rank w < rank v → value_cmp v w ≡ Greater
by_rank_greater v w l = rank_greater (rank v) (rank w) (int_cmp (signed_size v) (signed_size w)) l

pub value_greater : (v w : Value) → IsLess w v → value_cmp v w ≡ Greater
value_greater (finite s a) (finite t b) l = greater _ _ l
value_greater nan nan l = absurd (omega arith)
value_greater nan (infinite t) l = by_rank_greater nan (infinite t) l
value_greater nan (finite t b) l = by_rank_greater nan (finite t b) l
value_greater (infinite s) nan l = by_rank_greater (infinite s) nan l
value_greater (infinite s) (infinite t) l = by_rank_greater (infinite s) (infinite t) l
value_greater (infinite s) (finite t b) l = by_rank_greater (infinite s) (finite t b) l
value_greater (finite s a) nan l = by_rank_greater (finite s a) nan l
value_greater (finite s a) (infinite t) l = by_rank_greater (finite s a) (infinite t) l

rank_equal : (m n : ℕ) → m ≡ n → ordering_then (nat_cmp m n) Equal ≡ Equal
rank_equal m n e = grind (arith, ints)

int_equal : (m n : ℤ) → m ≡ n → int_cmp m n ≡ Equal
int_equal m n e = ap (λ x. int_cmp x n) e ∙ alike n

pub value_equal : (v w : Value) → IsEqual v w → value_cmp v w ≡ Equal
value_equal (finite s a) (finite t b) e = int_equal _ _ e
value_equal nan nan e = refl
value_equal nan (infinite t) e = rank_equal _ _ e
value_equal nan (finite t b) e = absurd (omega arith)
value_equal (infinite s) nan e = rank_equal _ _ e
value_equal (infinite s) (infinite t) e = rank_equal _ _ e
value_equal (infinite s) (finite t b) e = absurd (by_sign s e)
  where
    by_sign : (s : Bool) → rank (infinite s) ≡ 2 → ⊥
    by_sign true e = omega arith
    by_sign false e = omega arith
value_equal (finite s a) nan e = absurd (omega arith)
value_equal (finite s a) (infinite t) e = absurd (by_sign t e)
  where
    by_sign : (s : Bool) → 2 ≡ rank (infinite s) → ⊥
    by_sign true e = omega arith
    by_sign false e = omega arith

-- two codes of one kind are in the order of their numbers
pub codes_compare : (v w : Value) (c d : ℤ) → double_code v ≡ Some c → double_code w ≡ Some d → int_cmp c d ≡ value_cmp v w
codes_compare v w c d e f = by_lt_z c d
    (λ (l : c <ℤ d). less c d l ∙ sym (value_less v w ((codes_rise_less v w c d e f).0 l)))
    (λ (h : d ≤ℤ c). by_lt_z d c
    (λ (l : d <ℤ c). greater c d l ∙ sym (value_greater v w ((codes_rise_less w v d c f e).0 l)))
    (λ (i : c ≤ℤ d). let same : c ≡ d = omega (arith, ints) in int_equal c d same ∙ sym (value_equal v w ((codes_rise_equal v w c d e f).0 same))))

-- what has the shape of a value has the powers of a number
pub of_number : (v : Value) (s : Shape) → IsShapeOf v s → IsOfNumber s
of_number nan shapes.NotANumber h = tt
of_number (infinite s) (shapes.Infinite t) h = tt
of_number (finite s n) (shapes.Finite t z) h = h.2
of_number _ _ h = absurd h

-- ---- signs

size_pos : (n t f : ℕ) → n ≢ 0 → 0 < n * 2 ^ t * 5 ^ f
size_pos n t f some =
    let turned : n * 2 ^ t * 5 ^ f ≡ n * (2 ^ t * 5 ^ f) = simp products in
    rw turned (mul-pos (let l : 0 < n = omega arith in l) (unit_pos t f))

across : (a b : ℕ) → (0 < a) ⊎ (0 < b) → signed true a <ℤ signed false b
across a b (inl l) = omega (arith, ints)
across a b (inr l) = omega (arith, ints)

pub sizes_across : (m t f n s g : ℕ) → (m ≢ 0) ⊎ (n ≢ 0) → signed true (m * 2 ^ t * 5 ^ f) <ℤ signed false (n * 2 ^ s * 5 ^ g)
sizes_across m t f n s g (inl some) = across _ _ (inl (size_pos m t f some))
sizes_across m t f n s g (inr some) = across _ _ (inr (size_pos n s g some))
