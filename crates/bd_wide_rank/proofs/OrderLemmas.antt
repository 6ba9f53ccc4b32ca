-- Codes are in the order of the numbers.
use Rattle.std.proofs.Common.{◌≡◌, ◌<◌, ◌≤◌, ◌⊎◌, ℕ, zero, suc, List, [], ◌∷◌, refl, sym, ap, ◌∙◌, arith, Bool, true, false, ◌||◌, ◌&&◌, Ordering, Less, Equal, Greater, inl, inr, ⊎_elim}
use Rattle.std.specs.Prelude.{ℤ, pos, neg_ℤ, ◌<ℤ◌, ◌≤ℤ◌, ◌==◌, if◌then◌else◌}
use Rattle.std.specs.Ordering.{int_cmp, is_eq}
use Rattle.std.proofs.lemmas.{Int.ints, Int.by_lt_z}
use Rattle.std.proofs.lemmas.Bool.Decides.{nat_tests}
use Rattle.bd_wide_rank.specs.Rank.{code, is_among, rank, weight}
use Rattle.bd_wide_rank.proofs.CompareLemmas.{alike, greater, less}

-- ---- the weight of one member of the table

-- numbers that compare as equal are equal
pub same : (m n : ℤ) → is_eq (int_cmp m n) ≡ true → m ≡ n
same m n e = by_lt_z m n
    (λ (l : m <ℤ n). absurd (let no : false ≡ true = sym (ap is_eq (less m n l)) ∙ e in cc))
    (λ (h : n ≤ℤ m). by_lt_z n m
    (λ (l : n <ℤ m). absurd (let no : false ≡ true = sym (ap is_eq (greater m n l)) ∙ e in cc))
    (λ (i : m ≤ℤ n). omega (arith, ints)))

-- a greater number has no less weight
weight_rises : (t m n : ℤ) → m <ℤ n → weight (int_cmp t m) ≤ weight (int_cmp t n)
weight_rises t m n l = by_lt_z t n
    (λ (a : t <ℤ n). rw (less t n a) (at_most (int_cmp t m)))
    (λ (h : n ≤ℤ t). let g : m <ℤ t = omega (arith, ints) in rw (greater t m g) (omega arith))
  where
    at_most : (o : Ordering) → weight o ≤ 2
    at_most Less = omega arith
    at_most Equal = omega arith
    at_most Greater = omega arith

rank_rises : (ts : List ℤ) (m n : ℤ) → m <ℤ n → rank ts m ≤ rank ts n
rank_rises [] m n l = omega arith
rank_rises (t ∷ ts) m n l = omega (arith, weight_rises t m n l, rank_rises ts m n l)

or_split : (a b : Bool) → (a || b) ≡ true → (a ≡ true) ⊎ (b ≡ true)
or_split true b e = inl refl
or_split false b e = inr e

-- ---- a member of the table beside any number

up_from : (m n : ℤ) → m <ℤ n → weight (int_cmp m m) < weight (int_cmp m n)
up_from m n l = rw (less m n l, alike m) (omega arith)

down_to : (m n : ℤ) → n <ℤ m → weight (int_cmp m n) < weight (int_cmp m m)
down_to m n l = rw (greater m n l, alike m) (omega arith)

at_member : (t m n : ℤ) → t ≡ m → m <ℤ n → weight (int_cmp t m) < weight (int_cmp t n)
at_member t m n e l = rw e (up_from m n l)

to_member : (t m n : ℤ) → t ≡ m → n <ℤ m → weight (int_cmp t n) < weight (int_cmp t m)
to_member t m n e l = rw e (down_to m n l)

above : (ts : List ℤ) (m n : ℤ) → is_among ts m ≡ true → m <ℤ n → rank ts m < rank ts n
above [] m n found l = absurd cc
above (t ∷ ts) m n found l = ⊎_elim
    (λ (e : is_eq (int_cmp t m) ≡ true). omega (arith, at_member t m n (same t m e) l, rank_rises ts m n l))
    (λ (e : is_among ts m ≡ true). omega (arith, weight_rises t m n l, above ts m n e l))
    (or_split _ _ found)

beneath : (ts : List ℤ) (m n : ℤ) → is_among ts m ≡ true → n <ℤ m → rank ts n < rank ts m
beneath [] m n found l = absurd cc
beneath (t ∷ ts) m n found l = ⊎_elim
    (λ (e : is_eq (int_cmp t m) ≡ true). omega (arith, to_member t m n (same t m e) l, rank_rises ts n m l))
    (λ (e : is_among ts m ≡ true). omega (arith, weight_rises t n m l, beneath ts m n e l))
    (or_split _ _ found)

-- a number that is among others has a rank above 0
pub member_rank : (ts : List ℤ) (m : ℤ) → is_among ts m ≡ true → 0 < rank ts m
member_rank [] m found = absurd cc
member_rank (t ∷ ts) m found = ⊎_elim
    (λ (e : is_eq (int_cmp t m) ≡ true). omega (arith, at_itself t m (same t m e)))
    (λ (e : is_among ts m ≡ true). omega (arith, member_rank ts m e))
    (or_split _ _ found)
  where
    at_itself : (t m : ℤ) → t ≡ m → weight (int_cmp t m) ≡ 1
    at_itself t m e = rw e (ap weight (alike m))

-- ---- codes

-- the code of a number by its rank, and whether it is NaN
abbrev code_by : ℕ → Bool → ℤ
code_by r none = if (r == 0) && none then neg_ℤ (pos 1) else pos r

some_rank : (r : ℕ) (none : Bool) → 0 < r → code_by r none ≡ pos r
some_rank r none some = let e : (r == 0) ≡ false = grind (arith, nat_tests) in rw e refl

no_rank : (none : Bool) → code_by 0 none ≤ℤ pos 0
no_rank true = omega (arith, ints)
no_rank false = omega (arith, ints)

rises_up : (r q : ℕ) (a b : Bool) → 0 < r → r < q → code_by r a <ℤ code_by q b
rises_up r q a b some l = rw (some_rank r a some, some_rank q b (omega arith)) (omega (arith, ints))

at_most_rank : (q : ℕ) (b : Bool) → code_by q b ≤ℤ pos q
at_most_rank zero b = no_rank b
at_most_rank (suc q) b = rw (some_rank (suc q) b (omega arith)) (omega (arith, ints))

rises_down : (r q : ℕ) (a b : Bool) → q < r → code_by q b <ℤ code_by r a
rises_down r q a b l =
    let most : code_by q b ≤ℤ pos q = at_most_rank q b in
    let more : pos q <ℤ pos r = omega (arith, ints) in
    rw (some_rank r a (omega arith)) (omega (arith, ints, most, more))

-- a number that is among others has a code beside that of any number
pub codes_rise : (ws : List ℤ) (m n : ℤ) → is_among ws m ≡ true → (m <ℤ n → code ws m <ℤ code ws n) × (n <ℤ m → code ws n <ℤ code ws m)
codes_rise ws m n found = (
  λ l. rises_up (rank ws m) (rank ws n) _ _ (member_rank ws m found) (above ws m n found l),
  λ l. rises_down (rank ws m) (rank ws n) _ _ (beneath ws m n found l),
)
