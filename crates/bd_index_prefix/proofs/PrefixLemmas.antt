-- What the prefixes of two texts say of their order.
use Rattle.std.proofs.Common.{◌≡◌, ◌≢◌, ◌<◌, ◌≤◌, ℕ, List, [], ◌∷◌, ◌++◌, length, min, take, drop, zero, suc, refl, sym, ap, ap₂, ◌∙◌, arith, true}
use Rattle.std.proofs.Common.{nat_lt, ◌&&◌, ◌==◌, Ordering}
use Rattle.std.specs.{Cmp.Lexicographic.slice_cmp, Ordering.is_eq, Ordering.nat_cmp, Ordering.ordering_then, Str.bytes_eq}
use Rattle.std.specs.declared.cmp.Ordering.TheVariants.{Less, Equal, Greater}
use Rattle.std.proofs.{lemmas.Bool.Decides.nat_tests, lemmas.Map.Text.is_eq-slice_cmp}
use Rattle.bd_value.specs.Order.{bytes_cmp}
use Rattle.bd_index_prefix.specs.{Prefix.prefix_of_text, Prefix.padded, Prefix.texts_decide, declared.prefix.TextPrefix.TextPrefix}

-- the order of numbers
nat_same : (n : ℕ) → nat_cmp n n ≡ Equal
nat_same n = grind (arith, nat_tests)

nat_next : (m n : ℕ) → nat_cmp (suc m) (suc n) ≡ nat_cmp m n
nat_next m n = grind (arith, nat_tests)

zero_less : (n : ℕ) → nat_cmp 0 (suc n) ≡ Less
zero_less n = grind (arith, nat_tests)

zero_greater : (n : ℕ) → nat_cmp (suc n) 0 ≡ Greater
zero_greater n = grind (arith, nat_tests)

-- if the padded bytes differ, they decide: first a text against an empty one
none_before : (n : ℕ) (t : List ℕ) → ordering_then (slice_cmp nat_cmp (padded n []) (padded n t)) Less ≡ Less
unfolding padded
none_before zero t = refl
none_before (suc n) [] = none_before n []
none_before (suc n) (zero ∷ t) = none_before n t
none_before (suc n) (suc y ∷ t) = rw (zero_less y) refl

none_after : (n : ℕ) (s : List ℕ) → ordering_then (slice_cmp nat_cmp (padded n s) (padded n [])) Greater ≡ Greater
unfolding padded
none_after zero s = refl
none_after (suc n) [] = none_after n []
none_after (suc n) (zero ∷ s) = none_after n s
none_after (suc n) (suc x ∷ s) = rw (zero_greater x) refl

step : (o p q : Ordering) → ordering_then p q ≡ q → ordering_then (ordering_then o p) (ordering_then o q) ≡ ordering_then o q
step o p q h = grind arith

pub padded_first : (n : ℕ) (s t : List ℕ) → ordering_then (slice_cmp nat_cmp (padded n s) (padded n t)) (bytes_cmp s t) ≡ bytes_cmp s t
unfolding padded
padded_first zero s t = refl
padded_first (suc n) [] [] = padded_first n [] []
padded_first (suc n) [] (y ∷ t) = none_before (suc n) (y ∷ t)
padded_first (suc n) (x ∷ s) [] = none_after (suc n) (x ∷ s)
padded_first (suc n) (x ∷ s) (y ∷ t) = step (nat_cmp x y) (slice_cmp nat_cmp (padded n s) (padded n t)) (bytes_cmp s t) (padded_first n s t)

-- if they are equal, the lengths decide, unless both texts are longer
both_equal : (o p : Ordering) → ordering_then o p ≡ Equal → (o ≡ Equal) × (p ≡ Equal)
both_equal o p e = (grind arith, grind arith)

pub padded_then : (n : ℕ) (s t : List ℕ) → slice_cmp nat_cmp (padded n s) (padded n t) ≡ Equal → min (length s) (length t) ≤ n → bytes_cmp s t ≡ nat_cmp (length s) (length t)
unfolding padded
padded_then n [] [] e few = sym (nat_same 0)
padded_then n [] (y ∷ t) e few = sym (zero_less (length t))
padded_then n (x ∷ s) [] e few = sym (zero_greater (length s))
padded_then zero (x ∷ s) (y ∷ t) e few = absurd (omega arith)
padded_then (suc n) (x ∷ s) (y ∷ t) e few =
    let both = both_equal (nat_cmp x y) (slice_cmp nat_cmp (padded n s) (padded n t)) e in
    rw both.0 (padded_then n s t both.1 (omega arith) ∙ sym (nat_next (length s) (length t)))

-- the first bytes copied over zeros
abbrev pub zeros : ℕ → List ℕ
zeros zero = []
zeros (suc n) = 0 ∷ zeros n

no_bytes : (n : ℕ) → zeros n ≡ padded n []
unfolding padded
no_bytes zero = refl
no_bytes (suc n) = ap (λ ys. 0 ∷ ys) (no_bytes n)

pub copied : (n k : ℕ) (s : List ℕ) → k ≡ min (length s) n → take k s ++ drop k (zeros n) ≡ padded n s
unfolding padded
copied zero zero s e = refl
copied (suc n) zero [] e = ap (λ ys. 0 ∷ ys) (no_bytes n)
copied (suc n) (suc k) (x ∷ s) e = ap (λ ys. x ∷ ys) (copied n k s (omega arith))
copied _ _ _ e = absurd (omega arith)

-- the lengths of two prefixes compare as those of their texts, if one text is no longer than its prefix
capped : (m n : ℕ) → min m n ≤ 15 → nat_cmp (min m 16) (min n 16) ≡ nat_cmp m n
capped m n few = grind (arith, nat_tests)

-- unless both prefixes are equal and of longer texts, one text is short
one_short : (m n : ℕ) → (nat_cmp (min m 16) (min n 16) ≡ Equal → min m 16 < 16) → min m n ≤ 15
one_short m n h = grind (arith, nat_tests)

decided : (o p q r : Ordering) → o ≡ ordering_then p q → ordering_then p r ≡ r → (p ≡ Equal → o ≡ q → q ≡ r) → o ≡ r
decided o p q r is first then_so = grind arith

texts_decided : (o : Ordering) (s t : List ℕ) → o ≡ ordering_then (slice_cmp nat_cmp (padded 15 s) (padded 15 t))
    (nat_cmp (min (length s) 16) (min (length t) 16)) → (o ≡ Equal → min (length s) 16 < 16) → o ≡ bytes_cmp s t
texts_decided o s t is short =
    decided o (slice_cmp nat_cmp (padded 15 s) (padded 15 t)) (nat_cmp (min (length s) 16) (min (length t) 16)) (bytes_cmp s t) is (padded_first 15 s t) (λ e f.
    let few : min (length s) (length t) ≤ 15 = one_short (length s) (length t) (λ g. short (f ∙ g)) in
    capped (length s) (length t) few ∙ sym (padded_then 15 s t e few))

pub prefixes_decide : (a b : TextPrefix) (o : Ordering) → o ≡ ordering_then (slice_cmp nat_cmp a.bytes b.bytes) (nat_cmp a.length b.length)
    → (o ≡ Equal → a.length < 16) → (s t : List ℕ) → a ≡ prefix_of_text s → b ≡ prefix_of_text t → o ≡ bytes_cmp s t
prefixes_decide a b o is short s t e f =
    let long : a.length ≡ min (length s) 16 = ap (λ (g : TextPrefix). g.length) e in
    let order : o ≡ ordering_then (slice_cmp nat_cmp (padded 15 s) (padded 15 t)) (nat_cmp (min (length s) 16) (min (length t) 16)) =
    is ∙ ap₂ (λ (g h : TextPrefix). ordering_then (slice_cmp nat_cmp g.bytes h.bytes) (nat_cmp g.length h.length)) e f in
    texts_decided o s t order (λ g. let l : a.length < 16 = short g in omega arith)

-- when the prefixes of two texts decide their order
both_tied : (o p : Ordering) → is_eq (ordering_then o p) ≡ (is_eq o && is_eq p)
both_tied o p = grind arith

tied_numbers : (m n : ℕ) → is_eq (nat_cmp m n) ≡ (m == n)
tied_numbers m n = grind (arith, nat_tests)

tied_prefixes : (a b : TextPrefix) (o : Ordering) → o ≡ ordering_then (slice_cmp nat_cmp a.bytes b.bytes) (nat_cmp a.length b.length)
    → is_eq o ≡ (bytes_eq a.bytes b.bytes && (a.length == b.length))
tied_prefixes a b o is =
    ap is_eq is ∙ both_tied (slice_cmp nat_cmp a.bytes b.bytes) (nat_cmp a.length b.length)
    ∙ ap₂ ◌&&◌ (is_eq-slice_cmp a.bytes b.bytes) (tied_numbers a.length b.length)

pub tied_decide : (a b : TextPrefix) → Equal ≡ ordering_then (slice_cmp nat_cmp a.bytes b.bytes) (nat_cmp a.length b.length)
    → nat_lt a.length 16 ≡ texts_decide a b
tied_decide a b is = let same = tied_prefixes a b Equal is in grind arith

pub others_decide : (a b : TextPrefix) (o : Ordering) → o ≡ ordering_then (slice_cmp nat_cmp a.bytes b.bytes) (nat_cmp a.length b.length)
    → o ≢ Equal → true ≡ texts_decide a b
others_decide a b o is unequal = let same = tied_prefixes a b o is in grind arith
