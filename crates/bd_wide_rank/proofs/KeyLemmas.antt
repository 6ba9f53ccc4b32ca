-- Keys of doubles, and numbers between doubles.
use Rattle.std.proofs.Common.{◌≡◌, ℕ, zero, suc, ◌+◌, ◌-◌, ◌%◌, ◌^◌, ◌<◌, ◌≤◌, Bool, true, false, ℤ, pos, neg_ℤ, ◌<ℤ◌, ◌+ℤ◌, ◌≤ℤ◌, None, Some, refl, sym, ap, ◌∙◌, subst, arith, ⊎_elim, Less}
use Rattle.std.specs.Prelude.{◌==◌}
use Rattle.std.specs.Ordering.{int_cmp, is_eq}
use Rattle.std.proofs.lemmas.Int.{ints, by_lt_z}
use Rattle.std.proofs.lemmas.Bool.{cases_lt}
use Rattle.std.proofs.lemmas.Bool.Decides.{nat_tests}
use Rattle.bd_wide_number.specs.Value.{Value, nan, infinite, finite, double_value, has_sign, infinite_bits, signed, value_of, IsEqual}
use Rattle.bd_wide_number.specs.Code.{double_code}
use Rattle.bd_wide_number.proofs.CodeLemmas.{bits_code, nan_code, nan_is, infinite_is}
use Rattle.bd_wide_number.proofs.LawLemmas.{codes_rise_less, codes_rise_equal, equal_double, one_code}
use Rattle.bd_wide_number.specs.declared.number.Number.TheVariants as numbers
use Rattle.bd_wide_rank.specs.declared.compare.Shape.{Shape}
use Rattle.bd_wide_rank.specs.declared.compare.Shape.TheVariants as shapes
use Rattle.bd_wide_rank.specs.declared.size.Size.{Size}
use Rattle.bd_wide_rank.specs.inside.Shape.{IsShapeOf}
use Rattle.bd_wide_rank.specs.Worth.{beyond, value_worth, worth_of}
use Rattle.bd_wide_rank.specs.Key.{key_bits, key_worth}
use Rattle.bd_wide_rank.specs.inside.{Compare.IsNear, Key.IsKey, Key.IsBetween, Key.IsNoDouble}
use Rattle.bd_wide_rank.proofs.CompareLemmas.{less, greater, alike}
use Rattle.bd_wide_rank.proofs.WorthLemmas.{double_near, in_order}

-- ---- the double of a key

bits_nan : key_bits 0 ≡ 2 ^ 63 - 1
bits_nan = refl

bits_below : (key : ℕ) → 0 < key → key < 2 ^ 63 → key_bits key ≡ 2 ^ 64 - key
bits_below key some low = grind (arith, nat_tests)

bits_above : (key : ℕ) → 2 ^ 63 ≤ key → key_bits key ≡ key - 2 ^ 63
bits_above key high = grind (arith, nat_tests)

sign_of : (bits : ℕ) → 2 ^ 63 ≤ bits → has_sign bits ≡ true
sign_of bits l = grind (arith, nat_tests)

no_sign : (bits : ℕ) → bits < 2 ^ 63 → has_sign bits ≡ false
no_sign bits l = grind (arith, nat_tests)

-- the double of a key has a code, which is the key less 2 ^ 63
abbrev Coded : ℕ → Type 0
Coded key = (c : ℤ) × (double_code (double_value (key_bits key)) ≡ Some c) × (pos key ≡ c +ℤ pos (2 ^ 63))

at_bits : (key bits : ℕ) (c : ℤ) → key_bits key ≡ bits → double_code (double_value bits) ≡ Some c → pos key ≡ c +ℤ pos (2 ^ 63) → Coded key
at_bits key bits c e is sum = (c, ap (λ (b : ℕ). double_code (double_value b)) e ∙ is, sum)

at_sign : (bits size : ℕ) (s : Bool) → has_sign bits ≡ s → bits % 2 ^ 63 ≡ size → size ≤ infinite_bits → double_code (double_value bits) ≡ Some (signed s size)
at_sign bits size s e f l =
    bits_code bits (omega arith) ∙ ap (λ (t : Bool). Some (signed t (bits % 2 ^ 63))) e ∙ ap (λ (n : ℕ). Some (signed s n)) f

coded_nan : (key : ℕ) → key ≡ 0 → Coded key
coded_nan key none =
    at_bits key (2 ^ 63 - 1) (neg_ℤ (pos (2 ^ 63))) (ap key_bits none) (nan_code (2 ^ 63 - 1) (omega arith)) (ap pos none ∙ (let e : pos 0 ≡ neg_ℤ (pos (2 ^ 63)) +ℤ pos (2 ^ 63) = omega (arith, ints) in e))

coded_below : (key : ℕ) → IsKey key → 0 < key → key < 2 ^ 63 → Coded key
coded_below key is some low =
    let size = 2 ^ 63 - key in
    let bits = 2 ^ 64 - key in
    let least = is.least some in
    at_bits key bits (signed true size) (bits_below key some low)
    (at_sign bits size true (sign_of bits (omega arith)) (omega arith) (omega arith)) (omega (arith, ints))

coded_above : (key : ℕ) → IsKey key → 2 ^ 63 ≤ key → Coded key
coded_above key is high =
    let size = key - 2 ^ 63 in
    at_bits key size (signed false size) (bits_above key high)
    (at_sign size size false (no_sign size (omega (arith, is.most))) (omega (arith, is.most)) (omega (arith, is.most))) (omega (arith, ints))

coded : (key : ℕ) → IsKey key → Coded key
coded key is = ⊎_elim
    (λ (low : key < 2 ^ 63). ⊎_elim (λ (some : 0 < key). coded_below key is some low) (λ (h : key ≤ 0). coded_nan key (omega arith)) (cases_lt 0 key))
    (λ (high : 2 ^ 63 ≤ key). coded_above key is high)
    (cases_lt key (2 ^ 63))

-- ---- the order of keys

key_near : (key : ℕ) → IsNear (double_value (key_bits key))
key_near key = double_near (key_bits key)

-- a greater key is that of a greater double
pub keys_rise : (k l : ℕ) → IsKey k → IsKey l → k < l → key_worth k <ℤ key_worth l
unfolding key_worth
keys_rise k l p q up =
    let a = coded k p in
    let b = coded l q in
    let order : a.0 <ℤ b.0 = omega (arith, ints, a.2, b.2) in
    (in_order _ _ (key_near k) (key_near l)).0.1 ((codes_rise_less _ _ a.0 b.0 a.1 b.1).0 order)

pub keys_rise_or : (k l : ℕ) → IsKey k → IsKey l → k ≤ l → key_worth k ≤ℤ key_worth l
keys_rise_or k l p q up = ⊎_elim
    (λ (h : k < l). let rises = keys_rise k l p q h in omega (arith, ints, rises))
    (λ (h : l ≤ k). let e : k ≡ l = omega arith in subst (λ (n : ℕ). key_worth k ≤ℤ key_worth n) e (let same : key_worth k ≤ℤ key_worth k = omega (arith, ints) in same))
    (cases_lt k l)

pub keys_compare : (k l : ℕ) → IsKey k → IsKey l → int_cmp (key_worth k) (key_worth l) ≡ int_cmp (pos k) (pos l)
keys_compare k l p q = by_lt_z (pos k) (pos l)
    (λ (h : pos k <ℤ pos l). less _ _ (keys_rise k l p q (omega (arith, ints))) ∙ sym (less _ _ h))
    (λ (g : pos l ≤ℤ pos k). by_lt_z (pos l) (pos k)
    (λ (h : pos l <ℤ pos k). greater _ _ (keys_rise l k q p (omega (arith, ints))) ∙ sym (greater _ _ h))
    (λ (h : pos k ≤ℤ pos l). let e : k ≡ l = omega (arith, ints) in
    subst (λ (n : ℕ). int_cmp (key_worth k) (key_worth n) ≡ int_cmp (pos k) (pos n)) e (alike (key_worth k) ∙ sym (alike (pos k)))))

-- ---- the key of a code

-- a code of a double is a key less 2 ^ 63
key_of_code : (bits key : ℕ) (c : ℤ) → double_code (double_value bits) ≡ Some c → pos key ≡ c +ℤ pos (2 ^ 63) → IsKey key
key_of_code bits key c is sum = ⊎_elim
    (λ (l : infinite_bits < bits % 2 ^ 63).
    let e : Some c ≡ Some (neg_ℤ (pos (2 ^ 63))) = sym is ∙ nan_code bits l in
    let f : c ≡ neg_ℤ (pos (2 ^ 63)) = cc in
    let g : key ≡ 0 = omega (arith, ints) in record { least = λ some. absurd (omega arith); most = omega arith })
    (λ (l : bits % 2 ^ 63 ≤ infinite_bits).
    let e : Some c ≡ Some (signed (has_sign bits) (bits % 2 ^ 63)) = sym is ∙ bits_code bits l in
    let f : c ≡ signed (has_sign bits) (bits % 2 ^ 63) = cc in
    signed_key (has_sign bits) (bits % 2 ^ 63) f l)
    (cases_lt infinite_bits (bits % 2 ^ 63))
  where
    signed_key : (s : Bool) (size : ℕ) → c ≡ signed s size → size ≤ infinite_bits → IsKey key
    signed_key true size f l = record { least = λ some. omega (arith, ints); most = omega (arith, ints) }
    signed_key false size f l = record { least = λ some. omega (arith, ints); most = omega (arith, ints) }

sizes_near : (s t : Bool) (n m : ℕ) → signed s n ≡ signed t m → m < beyond → n < beyond
sizes_near true true n m e l = omega (arith, ints)
sizes_near true false n m e l = omega (arith, ints)
sizes_near false true n m e l = omega (arith, ints)
sizes_near false false n m e l = omega (arith, ints)

equal_near : (v w : Value) → IsEqual v w → IsNear w → IsNear v
equal_near nan w e near = tt
equal_near (infinite s) w e near = tt
equal_near (finite s n) (finite t m) e near = sizes_near s t n m e near
equal_near (finite s n) nan e near = absurd (omega arith)
equal_near (finite s n) (infinite true) e near = absurd (omega arith)
equal_near (finite s n) (infinite false) e near = absurd (omega arith)

-- the key of the double that equals a value
pub key_of_value : (v : Value) (c : ℤ) (key : ℕ) → double_code v ≡ Some c → pos key ≡ c +ℤ pos (2 ^ 63) → IsKey key × (key_worth key ≡ value_worth v)
unfolding key_worth
key_of_value v c key is sum =
    let found = equal_double v c is in
    let near : IsNear v = equal_near v (double_value found.0) found.2 (double_near found.0) in
    let same : double_code (double_value found.0) ≡ Some c = sym (one_code v (double_value found.0) found.2) ∙ is in
    let good : IsKey key = key_of_code found.0 key c same sum in
    let k = coded key good in
    let e : k.0 ≡ c = omega (arith, ints, k.2) in
    (good, (in_order _ _ (key_near key) near).1.1 ((codes_rise_equal _ _ k.0 c k.1 is).0 e))

-- a value that has no code is that of no double
pub no_double : (v : Value) → IsNear v → double_code v ≡ None → IsNoDouble (value_worth v)
unfolding key_worth
no_double v near none = λ key good same.
    let k = coded key good in
    let equal = (in_order _ _ (key_near key) near).1.0 same in
    let no : Some k.0 ≡ None = sym k.1 ∙ one_code _ v equal ∙ none in
    let f : ⊥ = cc in f

-- ---- all finite numbers

least_key : IsKey (2 ^ 63 - infinite_bits)
least_key = record { least = λ some. omega arith; most = omega arith }

most_key : IsKey (2 ^ 63 + infinite_bits)
most_key = record { least = λ some. omega arith; most = omega arith }

least_worth : key_worth (2 ^ 63 - infinite_bits) ≡ value_worth (infinite true)
unfolding key_worth
least_worth =
    let bits = 2 ^ 63 + infinite_bits in
    let e : key_bits (2 ^ 63 - infinite_bits) ≡ bits = refl in
    ap (λ (b : ℕ). value_worth (double_value b)) e ∙ ap value_worth (infinite_is bits refl)

most_worth : key_worth (2 ^ 63 + infinite_bits) ≡ value_worth (infinite false)
unfolding key_worth
most_worth =
    let e : key_bits (2 ^ 63 + infinite_bits) ≡ infinite_bits = refl in
    ap (λ (b : ℕ). value_worth (double_value b)) e ∙ ap value_worth (infinite_is infinite_bits refl)

-- each finite number is between the infinities
all_between : (s : Bool) (n : ℕ) → IsNear (finite s n) → IsBetween (2 ^ 63 - infinite_bits) (2 ^ 63 + infinite_bits) (value_worth (finite s n))
all_between s n near = record {
  some = omega arith;
  low_key = least_key;
  high_key = most_key;
  order = omega arith;
  above = rw least_worth ((in_order (infinite true) (finite s n) tt near).0.1 (omega arith));
  below = rw most_worth ((in_order (finite s n) (infinite false) near tt).0.1 (omega arith));
}

-- a number that no double equals is finite
no_nan : double_code nan ≡ None → ⊥
unfolding double_code
no_nan none = cc

no_infinite : (s : Bool) → double_code (infinite s) ≡ None → ⊥
unfolding double_code
no_infinite s none = cc

-- it is not of another shape
pub no_shape : (v : Value) (s : Shape) → IsShapeOf v s → double_code v ≡ None → ((t : Bool) (z : Size) → s ≡ shapes.Finite t z → ⊥) → ⊥
no_shape nan s is none other = no_nan none
no_shape (infinite t) s is none other = no_infinite t none
no_shape (finite t n) (shapes.Finite u z) is none other = other u z refl
no_shape (finite t n) shapes.NotANumber is none other = is
no_shape (finite t n) (shapes.Infinite u) is none other = is

pub between_all : (v : Value) → IsNear v → double_code v ≡ None → IsBetween (2 ^ 63 - infinite_bits) (2 ^ 63 + infinite_bits) (value_worth v)
between_all nan near none = absurd (no_nan none)
between_all (infinite s) near none = absurd (no_infinite s none)
between_all (finite s n) near none = all_between s n near

-- ---- bounds

-- a key between others
pub inner_key : (low high key : ℕ) (worth : ℤ) → IsBetween low high worth → low < key → key < high → IsKey key
inner_key low high key worth is l h = let least = is.low_key.least is.some in record { least = λ some. omega arith; most = omega (arith, is.high_key.most) }

-- the worth of a double by its bits
pub double_worth : (key bits : ℕ) → bits ≡ key_bits key → worth_of (numbers.Double bits) ≡ key_worth key
unfolding key_worth value_of
double_worth key bits e = ap (λ (b : ℕ). value_worth (double_value b)) e

-- a number that no double equals is below a double that is not less
pub above_or : (worth : ℤ) (key : ℕ) → IsNoDouble worth → IsKey key → (int_cmp (key_worth key) worth ≡ Less → ⊥) → worth <ℤ key_worth key
above_or worth key none good not_less = by_lt_z worth (key_worth key) (λ (l : worth <ℤ key_worth key). l)
    (λ (h : key_worth key ≤ℤ worth). by_lt_z (key_worth key) worth
    (λ (l : key_worth key <ℤ worth). absurd (not_less (less _ _ l)))
    (λ (g : worth ≤ℤ key_worth key). absurd (none key good (omega (arith, ints)))))

-- ---- a number between two doubles that are next to each other

module _ (key : ℕ) (worth : ℤ) (is : IsBetween key (key + 1) worth) (other : ℕ) (good : IsKey other) where
  -- beside a double
  pub below_double : key < other → worth <ℤ key_worth other
  below_double l =
      let up : key_worth (key + 1) ≤ℤ key_worth other = keys_rise_or (key + 1) other is.high_key good (omega arith) in
      let below : worth <ℤ key_worth (key + 1) = is.below in omega (arith, ints)

  -- the number is above each double up to the lower bound
  pub above_double : other ≤ key → key_worth other <ℤ worth
  above_double l =
      let up : key_worth other ≤ℤ key_worth key = keys_rise_or other key good is.low_key l in
      let above : key_worth key <ℤ worth = is.above in omega (arith, ints)

-- two such numbers
pub keys_decide : (k l : ℕ) (v w : ℤ) → IsBetween k (k + 1) v → IsBetween l (l + 1) w → k < l → v <ℤ w
keys_decide k l v w p q h =
    let up : key_worth (k + 1) ≤ℤ key_worth l = keys_rise_or (k + 1) l p.high_key q.low_key (omega arith) in
    let below : v <ℤ key_worth (k + 1) = p.below in
    let above : key_worth l <ℤ w = q.above in omega (arith, ints)

-- ---- NaN

pub nan_key : IsKey 0
nan_key = record { least = λ some. absurd (omega arith); most = omega arith }

pub nan_worth : key_worth 0 ≡ value_worth nan
unfolding key_worth
nan_worth = ap value_worth (nan_is (2 ^ 63 - 1) (omega arith))

pub is_nan_key : (key : ℕ) → IsKey key → (key == 0) ≡ is_eq (int_cmp (key_worth key) (value_worth nan))
is_nan_key zero good = sym (ap is_eq (ap (λ v. int_cmp v (value_worth nan)) nan_worth ∙ alike (value_worth nan)))
is_nan_key (suc k) good = (let e : (suc k == 0) ≡ false = grind (arith, nat_tests) in e) ∙ sym (ap is_eq (greater _ _ (subst (λ v. v <ℤ key_worth (suc k)) nan_worth (keys_rise 0 (suc k) nan_key good (omega arith)))))

pub not_nan : (key : ℕ) (worth : ℤ) → IsBetween key (key + 1) worth → false ≡ is_eq (int_cmp worth (value_worth nan))
not_nan key worth is = sym (ap is_eq (greater _ _ (subst (λ v. v <ℤ worth) nan_worth (above_double key worth is 0 nan_key (omega arith)))))
