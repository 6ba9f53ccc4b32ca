-- Lists ordered by a strict order.
use Rattle.std.proofs.Common.{◌≡◌, ◌+◌, ◌<◌, ◌≤◌, ℕ, Bool, true, false, cond, List, [], ◌∷◌, length, get_or, drop, inl, inr, refl, sym, ap, ◌∙◌, subst, ◌⊎◌, filter, arith, zero, suc}
use Rattle.std.proofs.lemmas.Bool.{cases_lt, cond_both, false_from_ne_true, true_from_ne_false, true≢false}
use Rattle.std.specs.List.{range_with_len}
use Rattle.bd_cursor_model.specs.{Answer.insert, Answer.insert_all, Laws.IsStrictOrder}

-- The number is a member of the list.
abbrev pub In : ℕ → List ℕ → Type 0
In x [] = ⊥
In x (y ∷ ys) = (x ≡ y) ⊎ In x ys

-- each is before all later ones
abbrev pub Rises : (ℕ → ℕ → Bool) → List ℕ → Type 0
Rises lt [] = Unit {0}
Rises lt (x ∷ xs) = ((y : ℕ) → In y xs → lt x y ≡ true) × Rises lt xs

-- No number is in the list twice.
abbrev pub Apart : List ℕ → Type 0
Apart [] = Unit {0}
Apart (x ∷ xs) = (In x xs → ⊥) × Apart xs

-- membership and filters
pub in_filter : (test : ℕ → Bool) (xs : List ℕ) (x : ℕ) → In x xs → test x ≡ true → In x (filter test xs)
in_filter test [] x h e = absurd h
in_filter test (y ∷ ys) x (inl a) e = rw (ap test (sym a) ∙ e) (inl a)
in_filter test (y ∷ ys) x (inr a) e =
    let rest = in_filter test ys x a e in cond_both (test y) (y ∷ filter test ys) (filter test ys) (In x) (λ f. inr rest) (λ f. rest)

-- what passes a filter is in the list, and passes the test
pub filter_in : (test : ℕ → Bool) (xs : List ℕ) (x : ℕ) → In x (filter test xs) → In x xs × (test x ≡ true)
filter_in test [] x h = absurd h
filter_in test (y ∷ ys) x h = cond_both (test y) (y ∷ filter test ys) (filter test ys) (λ zs. In x zs → In x (y ∷ ys) × (test x ≡ true))
    (λ f h. elim h [ inl a ↦ (inl a, ap test a ∙ f) | inr a ↦ (let r = filter_in test ys x a in (inr r.0, r.1)) ])
    (λ f h. let r = filter_in test ys x h in (inr r.0, r.1)) h

-- a list without repeats has none after a filter
pub filter_apart : (test : ℕ → Bool) (xs : List ℕ) → Apart xs → Apart (filter test xs)
filter_apart test [] h = tt
filter_apart test (y ∷ ys) h =
    let rest = filter_apart test ys h.1 in
    cond_both (test y) (y ∷ filter test ys) (filter test ys) Apart (λ f. (λ e. h.0 (filter_in test ys y e).0, rest)) (λ f. rest)

-- an ascending list is ascending after a filter
pub filter_rises : (lt : ℕ → ℕ → Bool) (test : ℕ → Bool) (xs : List ℕ) → Rises lt xs → Rises lt (filter test xs)
filter_rises lt test [] h = tt
filter_rises lt test (y ∷ ys) h =
    let rest = filter_rises lt test ys h.1 in
    cond_both (test y) (y ∷ filter test ys) (filter test ys) (Rises lt) (λ f. (λ z e. h.0 z (filter_in test ys z e).0, rest)) (λ f. rest)

-- a filter that each member passes leaves the whole list
pub filter_all : (test : ℕ → Bool) (xs : List ℕ) → ((x : ℕ) → In x xs → test x ≡ true) → filter test xs ≡ xs
filter_all test [] h = refl
filter_all test (x ∷ xs) h = rw (h x (inl refl)) (ap (λ ys. x ∷ ys) (filter_all test xs (λ y e. h y (inr e))))

-- a second test that implies the first
pub filter_twice : (p q : ℕ → Bool) (xs : List ℕ) → ((x : ℕ) → q x ≡ true → p x ≡ true) → filter q (filter p xs) ≡ filter q xs
filter_twice p q [] h = refl
filter_twice p q (x ∷ xs) h = cond_both (p x) (x ∷ filter p xs) (filter p xs) (λ ys. filter q ys ≡ filter q (x ∷ xs))
    (λ e. ap (λ ys. cond (q x) (x ∷ ys) ys) (filter_twice p q xs h))
    (λ e. let not : q x ≡ false = false_from_ne_true (q x) (λ f. true≢false (sym (h x f) ∙ e)) in rw not (filter_twice p q xs h))

-- ranges
pub in_range : (k n x : ℕ) → k ≤ x → x < k + n → In x (range_with_len k n)
in_range k zero x a b = absurd (omega arith)
in_range k (suc n) x a b = elim (cases_lt k x) [ inl e ↦ inr (in_range (k + 1) n x (omega arith) (omega arith)) | inr e ↦ inl (omega arith) ]

-- the members of a range of n numbers from k on are at least k and below k + n
pub range_in : (k n x : ℕ) → In x (range_with_len k n) → (k ≤ x) × (x < k + n)
range_in k zero x h = absurd h
range_in k (suc n) x (inl e) = (omega arith, omega arith)
range_in k (suc n) x (inr h) = let r = range_in (k + 1) n x h in (omega arith, omega arith)

pub range_apart : (k n : ℕ) → Apart (range_with_len k n)
range_apart k zero = tt
range_apart k (suc n) = (λ h. let r = range_in (k + 1) n k h in absurd (omega arith), range_apart (k + 1) n)

-- inserting
pub in_insert : (lt : ℕ → ℕ → Bool) (p : ℕ) (qs : List ℕ) (x : ℕ) → (x ≡ p) ⊎ In x qs → In x (insert lt p qs)
in_insert lt p [] x h = h
in_insert lt p (q ∷ qs) x h = cond_both (lt p q) (p ∷ q ∷ qs) (q ∷ insert lt p qs) (In x) (λ e. h)
    (λ e. elim h [ inl a ↦ inr (in_insert lt p qs x (inl a)) | inr more ↦ elim more [ inl a ↦ inl a | inr a ↦ inr (in_insert lt p qs x (inr a)) ] ])

pub insert_in : (lt : ℕ → ℕ → Bool) (p : ℕ) (qs : List ℕ) (x : ℕ) → In x (insert lt p qs) → (x ≡ p) ⊎ In x qs
insert_in lt p [] x h = h
insert_in lt p (q ∷ qs) x h = cond_both (lt p q) (p ∷ q ∷ qs) (q ∷ insert lt p qs) (λ zs. In x zs → (x ≡ p) ⊎ In x (q ∷ qs)) (λ e h. h)
    (λ e h. elim h [ inl a ↦ inr (inl a) | inr a ↦ elim (insert_in lt p qs x a) [ inl b ↦ inl b | inr b ↦ inr (inr b) ] ]) h

-- of two different numbers, one is before the other
pub other_way : {lt : ℕ → ℕ → Bool} → IsStrictOrder lt → (p q : ℕ) → (p ≡ q → ⊥) → lt p q ≡ false → lt q p ≡ true
other_way {lt = lt} o p q ne e = true_from_ne_false (lt q p) (λ f. ne (o.connected p q e f))

-- in a strict order no two are before each other
pub not_both : {lt : ℕ → ℕ → Bool} → IsStrictOrder lt → (p q : ℕ) → lt p q ≡ true → lt q p ≡ false
not_both {lt = lt} o p q e = false_from_ne_true (lt q p) (λ f. true≢false (sym (o.transitive p q p e f) ∙ o.irreflexive p))

pub insert_rises : {lt : ℕ → ℕ → Bool} → IsStrictOrder lt → (p : ℕ) (qs : List ℕ) → (In p qs → ⊥) → Rises lt qs → Rises lt (insert lt p qs)
insert_rises {lt = lt} o p [] new up = (λ y h. absurd h, tt)
insert_rises {lt = lt} o p (q ∷ qs) new up = cond_both (lt p q) (p ∷ q ∷ qs) (q ∷ insert lt p qs) (Rises lt)
    (λ e. (λ y h. elim h [ inl a ↦ subst (λ z. lt p z ≡ true) (sym a) e | inr a ↦ o.transitive p q y e (up.0 y a) ], up))
    (λ e. (
      λ y h. elim (insert_in lt p qs y h) [ inl a ↦ subst (λ z. lt q z ≡ true) (sym a) (other_way o p q (λ s. new (inl s)) e) | inr a ↦ up.0 y a ],
      insert_rises o p qs (λ h. new (inr h)) up.1,
    ))

-- what was in the list, or is inserted, is in it afterwards
pub in_insert_all : (lt : ℕ → ℕ → Bool) (kept ps : List ℕ) (x : ℕ) → In x kept ⊎ In x ps → In x (insert_all lt kept ps)
in_insert_all lt kept [] x (inl h) = h
in_insert_all lt kept [] x (inr h) = absurd h
in_insert_all lt kept (p ∷ ps) x (inl h) = in_insert_all lt (insert lt p kept) ps x (inl (in_insert lt p kept x (inr h)))
in_insert_all lt kept (p ∷ ps) x (inr (inl h)) = in_insert_all lt (insert lt p kept) ps x (inl (in_insert lt p kept x (inl h)))
in_insert_all lt kept (p ∷ ps) x (inr (inr h)) = in_insert_all lt (insert lt p kept) ps x (inr h)

-- what is in the list afterwards was in it, or was inserted
pub insert_all_in : (lt : ℕ → ℕ → Bool) (kept ps : List ℕ) (x : ℕ) → In x (insert_all lt kept ps) → In x kept ⊎ In x ps
insert_all_in lt kept [] x h = inl h
insert_all_in lt kept (p ∷ ps) x h = elim (insert_all_in lt (insert lt p kept) ps x h) [ inl a ↦ elim (insert_in lt p kept x a) [ inl b ↦ inr (inl b) | inr b ↦ inl b ] | inr a ↦ inr (inr a) ]

-- numbers inserted into an ascending list one by one leave it ascending
pub insert_all_rises : {lt : ℕ → ℕ → Bool} → IsStrictOrder lt → (kept ps : List ℕ) → Apart ps → ((x : ℕ) → In x kept → In x ps → ⊥) → Rises lt kept → Rises lt (insert_all lt kept ps)
insert_all_rises {lt = lt} o kept [] a new up = up
insert_all_rises {lt = lt} o kept (p ∷ ps) a new up =
    insert_all_rises o (insert lt p kept) ps a.1
    (λ x h g. elim (insert_in lt p kept x h) [ inl e ↦ a.0 (subst (λ z. In z ps) e g) | inr e ↦ new x e (inr g) ])
    (insert_rises o p kept (λ h. new p h (inl refl)) up)

same_heads : {lt : ℕ → ℕ → Bool} → IsStrictOrder lt → (x y : ℕ) (xs ys : List ℕ) → Rises lt (x ∷ xs) → Rises lt (y ∷ ys) → In x (y ∷ ys) → In y (x ∷ xs) → x ≡ y
same_heads o x y xs ys a b (inl e) h = e
same_heads o x y xs ys a b (inr e) (inl h) = sym h
same_heads o x y xs ys a b (inr e) (inr h) = let k : ⊥ = cc (not_both o x y (a.0 y h), b.0 x e) in absurd k

-- a rising list is determined by its members
pub same_rising : {lt : ℕ → ℕ → Bool} → IsStrictOrder lt → (xs ys : List ℕ) → Rises lt xs → Rises lt ys → ((p : ℕ) → In p xs → In p ys) → ((p : ℕ) → In p ys → In p xs) → xs ≡ ys
same_rising o [] [] a b f g = refl
same_rising o [] (y ∷ ys) a b f g = absurd (g y (inl refl))
same_rising o (x ∷ xs) [] a b f g = absurd (f x (inl refl))
same_rising {lt = lt} o (x ∷ xs) (y ∷ ys) a b f g =
    let e = same_heads o x y xs ys a b (f x (inl refl)) (g y (inl refl)) in
    ap (λ z. z ∷ xs) e ∙ ap (λ zs. y ∷ zs) (same_rising o xs ys a.1 b.1
    (λ p h. elim (f p (inr h)) [ inl k ↦ (let w : ⊥ = cc (o.irreflexive p, a.0 p h, e, k) in absurd w) | inr k ↦ k ])
    (λ p h. elim (g p (inr h)) [ inl k ↦ (let w : ⊥ = cc (o.irreflexive p, b.0 p h, e, k) in absurd w) | inr k ↦ k ]))

-- membership by index
pub in_at : (xs : List ℕ) (i d : ℕ) → i < length xs → In (get_or xs i d) xs
in_at [] i d h = absurd (omega arith)
in_at (x ∷ xs) zero d h = inl refl
in_at (x ∷ xs) (suc i) d h = inr (in_at xs i d (omega arith))

-- what comes after a member of a rising list
pub after_member : {lt : ℕ → ℕ → Bool} → IsStrictOrder lt → (xs : List ℕ) → Rises lt xs → (i d : ℕ) → i < length xs → filter (lt (get_or xs i d)) xs ≡ drop (suc i) xs
after_member o [] a i d h = absurd (omega arith)
after_member {lt = lt} o (x ∷ xs) a zero d h = rw (o.irreflexive x) (filter_all (lt x) xs a.0)
after_member {lt = lt} o (x ∷ xs) a (suc i) d h =
    let l : i < length xs = omega arith in
    rw (not_both o x (get_or xs i d) (a.0 (get_or xs i d) (in_at xs i d l))) (after_member o xs a.1 i d l)
