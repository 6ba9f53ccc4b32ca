-- Lists of any type in a stable order, and the first members of such a list.
use Rattle.std.proofs.Common.{◌≡◌, ℕ, Bool, true, false, not, cond, List, [], ◌∷◌, ◌++◌, take, refl, sym, ap, ◌∙◌, zero, suc, arith, take-take, ◌+◌, get_or, inl, inr, subst}
use Rattle.std.proofs.lemmas.Bool.{cond_both, not-false, not-true, true_from_ne_false, true≢false}
use Rattle.std.proofs.lemmas.List.Sorted.{IsPermutation-append_left, IsPermutation-cons, IsPermutation-middle, IsPermutation-refl, IsPermutation-sym, IsPermutation-trans}
use Rattle.std.proofs.lemmas.List.{append-nil, take-take}
use Rattle.std.specs.{Cmp.IsStrictWeakOrder, List.Sorted.IsPermutation, List.Sorted.IsSortedBy}
use Rattle.bd_cursor_model.specs.{Answer.insert, Answer.insert_all, Laws.IsStrictOrder}
use Rattle.bd_cursor_model.proofs.OrderLemmas.{Apart, In, Rises, insert_all_in, insert_all_rises, in_insert_all, not_both, same_rising}
use Rattle.bd_cursor_model.proofs.{AnswerLemmas.rises_ascending, AnswerLemmas.take_rises, SourceLemmas.permuted_apart, SourceLemmas.permuted_in, SourceLemmas.sorted_rises}

-- elements inserted into a list, from the last one on
abbrev pub put_back : {A : Type 0} → (A → A → Bool) → List A → List A → List A
put_back test [] kept = kept
put_back test (x ∷ xs) kept = insert test x (put_back test xs kept)

-- y is not before x
abbrev pub up_to : {A : Type 0} → (A → A → Bool) → A → A → Bool
up_to lt x y = not (lt y x)

-- a list in order, in which equal elements stay in their order
abbrev pub stable : {A : Type 0} → (A → A → Bool) → List A → List A
stable lt xs = insert_all lt [] xs

-- the order
pub below_trans : {A : Type 0} {lt : A → A → Bool} → IsStrictWeakOrder lt → (x y z : A) → lt y z ≡ true → lt z x ≡ true → lt y x ≡ true
below_trans {lt = lt} o x y z a b = true_from_ne_false (lt y x) (λ e. true≢false (sym a ∙ o.chain y x z e (o.one_way z x b)))

below_weak : {A : Type 0} {lt : A → A → Bool} → IsStrictWeakOrder lt → (x y z : A) → lt y x ≡ true → lt z x ≡ false → lt y z ≡ true
below_weak {lt = lt} o x y z a b = true_from_ne_false (lt y z) (λ e. true≢false (sym a ∙ o.chain y z x e b))

-- an earlier element goes before equal ones, and a later one after them: in either sequence
exchange : {A : Type 0} {lt : A → A → Bool} → IsStrictWeakOrder lt → (x y : A) (zs : List A) → insert lt y (insert (up_to lt) x zs) ≡ insert (up_to lt) x (insert lt y zs)
exchange {lt = lt} o x y [] = elim (lt y x) as (λ b. cond b (y ∷ x ∷ []) (x ∷ y ∷ []) ≡ cond (not b) (x ∷ y ∷ []) (y ∷ x ∷ [])) [ true ↦ refl | false ↦ refl ]
exchange {lt = lt} o x y (z ∷ zs) = go (exchange o x y zs) (lt z x) refl (lt y z) refl (lt y x) refl
  where
    go : insert lt y (insert (up_to lt) x zs) ≡ insert (up_to lt) x (insert lt y zs) → (a : Bool) → lt z x ≡ a → (b : Bool) → lt y z ≡ b → (d : Bool)
        → lt y x ≡ d → insert lt y (insert (up_to lt) x (z ∷ zs)) ≡ insert (up_to lt) x (insert lt y (z ∷ zs))
    go rest true ea true eb d ed = let f = below_trans o x y z eb ea in rw (ea, eb, f, ea) refl
    go rest true ea false eb d ed = rw (ea, eb, ea) (ap (λ ys. z ∷ ys) rest)
    go rest false ea b eb true ed = let f = below_weak o x y z ed ea in rw (ea, ed, f, ed, ea) refl
    go rest false ea true eb false ed = rw (ea, ed, eb, ed) refl
    go rest false ea false eb false ed = rw (ea, ed, eb, ea) refl

back_beyond : {A : Type 0} {lt : A → A → Bool} → IsStrictWeakOrder lt → (xs : List A) (y : A) (zs : List A) → insert lt y (put_back (up_to lt) xs zs) ≡ put_back (up_to lt) xs (insert lt y zs)
back_beyond o [] y zs = refl
back_beyond {lt = lt} o (x ∷ xs) y zs = exchange o x y (put_back (up_to lt) xs zs) ∙ ap (insert (up_to lt) x) (back_beyond o xs y zs)

back_all : {A : Type 0} {lt : A → A → Bool} → IsStrictWeakOrder lt → (xs zs ys : List A) → insert_all lt (put_back (up_to lt) xs zs) ys ≡ put_back (up_to lt) xs (insert_all lt zs ys)
back_all o xs zs [] = refl
back_all {lt = lt} o xs zs (y ∷ ys) = ap (λ ws. insert_all lt ws ys) (back_beyond o xs y zs) ∙ back_all o xs (insert lt y zs) ys

stable_back : {A : Type 0} {lt : A → A → Bool} → IsStrictWeakOrder lt → (xs : List A) → stable lt xs ≡ put_back (up_to lt) xs []
stable_back o [] = refl
stable_back {lt = lt} o (x ∷ xs) = back_all o (x ∷ []) [] xs ∙ ap (insert (up_to lt) x) (stable_back o xs)

-- earlier elements can be inserted before the later ones in order
stable_before : {A : Type 0} {lt : A → A → Bool} → IsStrictWeakOrder lt → (xs ys : List A) → insert_all lt (stable lt xs) ys ≡ put_back (up_to lt) xs (stable lt ys)
stable_before {lt = lt} o xs ys = ap (λ ws. insert_all lt ws ys) (stable_back o xs) ∙ back_all o xs [] ys

-- sorted lists
abbrev IsFirst : {A : Type 0} → (A → A → Bool) → A → List A → Type 0
IsFirst lt x [] = Unit {0}
IsFirst lt x (y ∷ ys) = lt y x ≡ false

abbrev Ascends : {A : Type 0} → (A → A → Bool) → List A → Type 0
Ascends lt [] = Unit {0}
Ascends lt (x ∷ xs) = IsFirst lt x xs × Ascends lt xs

put_is_first : {A : Type 0} (lt : A → A → Bool) (z x : A) (ys : List A) → lt x z ≡ false → IsFirst lt z ys → IsFirst lt z (insert (up_to lt) x ys)
put_is_first lt z x [] e h = e
put_is_first lt z x (y ∷ ys) e h = cond_both (up_to lt x y) (x ∷ y ∷ ys) (y ∷ insert (up_to lt) x ys) (IsFirst lt z) (λ f. e) (λ f. h)

put_ascends : {A : Type 0} {lt : A → A → Bool} → IsStrictWeakOrder lt → (x : A) (ys : List A) → Ascends lt ys → Ascends lt (insert (up_to lt) x ys)
put_ascends o x [] h = (tt, tt)
put_ascends {lt = lt} o x (y ∷ ys) h = cond_both (up_to lt x y) (x ∷ y ∷ ys) (y ∷ insert (up_to lt) x ys) (Ascends lt) (λ f. (not-true (lt y x) f, h))
    (λ f. (put_is_first lt y x ys (o.one_way y x (not-false (lt y x) f)) h.0, put_ascends o x ys h.1))

back_ascends : {A : Type 0} {lt : A → A → Bool} → IsStrictWeakOrder lt → (xs : List A) → Ascends lt (put_back (up_to lt) xs [])
back_ascends o [] = tt
back_ascends {lt = lt} o (x ∷ xs) = put_ascends o x (put_back (up_to lt) xs []) (back_ascends o xs)

first_take : {A : Type 0} (lt : A → A → Bool) (k : ℕ) (x : A) (xs : List A) → IsFirst lt x xs → IsFirst lt x (take k xs)
first_take lt zero x xs h = tt
first_take lt (suc k) x [] h = tt
first_take lt (suc k) x (y ∷ ys) h = h

take_ascends : {A : Type 0} (lt : A → A → Bool) (k : ℕ) (xs : List A) → Ascends lt xs → Ascends lt (take k xs)
take_ascends lt zero xs h = tt
take_ascends lt (suc k) [] h = tt
take_ascends lt (suc k) (x ∷ xs) h = (first_take lt k x xs h.0, take_ascends lt k xs h.1)

put_first : {A : Type 0} (lt : A → A → Bool) (x : A) (xs : List A) → IsFirst lt x xs → insert (up_to lt) x xs ≡ x ∷ xs
put_first lt x [] h = refl
put_first lt x (y ∷ ys) h = rw h refl

ascends_back : {A : Type 0} (lt : A → A → Bool) (xs : List A) → Ascends lt xs → put_back (up_to lt) xs [] ≡ xs
ascends_back lt [] h = refl
ascends_back lt (x ∷ xs) h = ap (insert (up_to lt) x) (ascends_back lt xs h.1) ∙ put_first lt x xs h.0

stable_ascends : {A : Type 0} {lt : A → A → Bool} → IsStrictWeakOrder lt → (xs : List A) → Ascends lt (stable lt xs)
stable_ascends {lt = lt} o xs = let e = stable_back o xs in rw e (back_ascends o xs)

-- the first members of a sorted list are sorted
stable_take : {A : Type 0} {lt : A → A → Bool} → IsStrictWeakOrder lt → (k : ℕ) (xs : List A) → stable lt (take k (stable lt xs)) ≡ take k (stable lt xs)
stable_take {lt = lt} o k xs = stable_back o (take k (stable lt xs)) ∙ ascends_back lt (take k (stable lt xs)) (take_ascends lt k (stable lt xs) (stable_ascends o xs))

stable_twice : {A : Type 0} {lt : A → A → Bool} → IsStrictWeakOrder lt → (xs : List A) → stable lt (stable lt xs) ≡ stable lt xs
stable_twice {lt = lt} o xs = stable_back o (stable lt xs) ∙ ascends_back lt (stable lt xs) (stable_ascends o xs)

-- an insertion needs no more of a list than it returns
take_put : {A : Type 0} (test : A → A → Bool) (k : ℕ) (p : A) (xs : List A) → take k (insert test p (take k xs)) ≡ take k (insert test p xs)
take_put test zero p xs = refl
take_put test (suc k) p [] = refl
take_put test (suc k) p (x ∷ xs) =
    elim (test p x) as (λ b. take (suc k) (cond b (p ∷ x ∷ take k xs) (x ∷ insert test p (take k xs))) ≡ take (suc k) (cond b (p ∷ x ∷ xs) (x ∷ insert test p xs))) [
      | true ↦ ap (λ ys. p ∷ ys) (take-take k (suc k) (x ∷ xs) (omega arith))
      | false ↦ ap (λ ys. x ∷ ys) (take_put test k p xs)
    ]

same_put : {A : Type 0} (test : A → A → Bool) (k : ℕ) (p : A) (xs ys : List A) → take k xs ≡ take k ys → take k (insert test p xs) ≡ take k (insert test p ys)
same_put test k p xs ys e = sym (take_put test k p xs) ∙ ap (λ zs. take k (insert test p zs)) e ∙ take_put test k p ys

-- so lists with equal beginnings keep equal beginnings
pub same_firsts : {A : Type 0} (test : A → A → Bool) (k : ℕ) (xs ys ps : List A) → take k xs ≡ take k ys → take k (insert_all test xs ps) ≡ take k (insert_all test ys ps)
same_firsts test k xs ys [] e = e
same_firsts test k xs ys (p ∷ ps) e = same_firsts test k (insert test p xs) (insert test p ys) ps (same_put test k p xs ys e)

same_back : {A : Type 0} (test : A → A → Bool) (k : ℕ) (ps xs ys : List A) → take k xs ≡ take k ys → take k (put_back test ps xs) ≡ take k (put_back test ps ys)
same_back test k [] xs ys e = e
same_back test k (p ∷ ps) xs ys e = same_put test k p (put_back test ps xs) (put_back test ps ys) (same_back test k ps xs ys e)

pub insert_all_append : {A : Type 0} (test : A → A → Bool) (kept xs ys : List A) → insert_all test kept (xs ++ ys) ≡ insert_all test (insert_all test kept xs) ys
insert_all_append test kept [] ys = refl
insert_all_append test kept (x ∷ xs) ys = insert_all_append test (insert test x kept) xs ys

three : {A : Type 0} (lt : A → A → Bool) (xs ys zs : List A) → stable lt (xs ++ (ys ++ zs)) ≡ insert_all lt (insert_all lt (stable lt xs) ys) zs
three lt xs ys zs = insert_all_append lt [] xs (ys ++ zs) ∙ insert_all_append lt (stable lt xs) ys zs

-- a stretch of a list can be sorted before
pub stretch_all : {A : Type 0} {lt : A → A → Bool} → IsStrictWeakOrder lt → (xs ys zs : List A) → stable lt (xs ++ (ys ++ zs)) ≡ stable lt (xs ++ (stable lt ys ++ zs))
stretch_all {lt = lt} o xs ys zs =
    three lt xs ys zs
    ∙ ap (λ ws. insert_all lt ws zs) (stable_before o xs ys ∙ ap (put_back (up_to lt) xs) (sym (stable_twice o ys)) ∙ sym (stable_before o xs (stable lt ys)))
    ∙ sym (three lt xs (stable lt ys) zs)

-- and of the stretch, as many members are enough as of the whole
pub stretch_take : {A : Type 0} {lt : A → A → Bool} → IsStrictWeakOrder lt → (k : ℕ) (xs ys zs : List A)
    → take k (stable lt (xs ++ (ys ++ zs))) ≡ take k (stable lt (xs ++ (take k (stable lt ys) ++ zs)))
stretch_take {lt = lt} o k xs ys zs =
    let first = take k (stable lt ys) in
    let prefix : take k (insert_all lt (stable lt xs) ys) ≡ take k (insert_all lt (stable lt xs) first) =
    ap (take k) (stable_before o xs ys)
    ∙ same_back (up_to lt) k xs (stable lt ys) first (sym (take-take k k (stable lt ys) (omega arith)))
    ∙ ap (λ ws. take k (put_back (up_to lt) xs ws)) (sym (stable_take o k ys))
    ∙ ap (take k) (sym (stable_before o xs first)) in
    ap (take k) (three lt xs ys zs)
    ∙ same_firsts lt k (insert_all lt (stable lt xs) ys) (insert_all lt (stable lt xs) first) zs prefix
    ∙ ap (take k) (sym (three lt xs first zs))

-- a rising list is determined by its members
pub rising_is_inserted : {lt : ℕ → ℕ → Bool} → IsStrictOrder lt → (xs ys : List ℕ) → Apart xs → Rises lt ys → ((x : ℕ) → In x xs → In x ys) → ((x : ℕ) → In x ys → In x xs) → insert_all lt [] xs ≡ ys
rising_is_inserted {lt = lt} o xs ys apart up there back =
    same_rising o (insert_all lt [] xs) ys (insert_all_rises o [] xs apart (λ x h g. h) tt) up
    (λ p h. elim (insert_all_in lt [] xs p h) [ inl b ↦ absurd b | inr b ↦ there p b ])
    (λ p h. in_insert_all lt [] xs p (inr (back p h)))

-- a list that was sorted
sorted_is_inserted : {lt : ℕ → ℕ → Bool} → IsStrictOrder lt → IsStrictWeakOrder lt → (xs ys : List ℕ) → Apart xs → IsPermutation xs ys → IsSortedBy lt ys → insert_all lt [] xs ≡ ys
sorted_is_inserted {lt = lt} o w xs ys apart moved up =
    rising_is_inserted o xs ys apart (sorted_rises lt o w ys up (permuted_apart xs ys moved apart))
    (λ x h. permuted_in xs ys moved x h) (λ x h. permuted_in ys xs (IsPermutation-sym xs ys moved) x h)

-- parts of lists without repeats
in_part : (k : ℕ) (xs ys : List ℕ) (x : ℕ) → In x (take k xs ++ ys) → In x (xs ++ ys)
in_part zero [] ys x h = h
in_part zero (z ∷ xs) ys x h = inr (in_part zero xs ys x h)
in_part (suc k) [] ys x h = h
in_part (suc k) (z ∷ xs) ys x (inl e) = inl e
in_part (suc k) (z ∷ xs) ys x (inr h) = inr (in_part k xs ys x h)

apart_part : (k : ℕ) (xs ys : List ℕ) → Apart (xs ++ ys) → Apart (take k xs ++ ys)
apart_part zero [] ys h = h
apart_part zero (x ∷ xs) ys h = apart_part zero xs ys h.1
apart_part (suc k) [] ys h = h
apart_part (suc k) (x ∷ xs) ys h = (λ i. h.0 (in_part k xs ys x i), apart_part k xs ys h.1)

in_left : (xs ys : List ℕ) (x : ℕ) → In x xs → In x (xs ++ ys)
in_left [] ys x h = absurd h
in_left (z ∷ xs) ys x (inl e) = inl e
in_left (z ∷ xs) ys x (inr h) = inr (in_left xs ys x h)

pub apart_left : (xs ys : List ℕ) → Apart (xs ++ ys) → Apart xs
apart_left [] ys h = tt
apart_left (x ∷ xs) ys h = (λ i. h.0 (in_left xs ys x i), apart_left xs ys h.1)

-- only the first k of the kept members stay
pub apart_on : (k : ℕ) (kept moved rest : List ℕ) → IsPermutation kept moved → Apart (kept ++ rest) → Apart (take k moved ++ rest)
apart_on k kept moved rest p h = apart_part k moved rest (permuted_apart (kept ++ rest) (moved ++ rest) (IsPermutation-append_left rest kept moved p) h)

pub firsts_on : {lt : ℕ → ℕ → Bool} → IsStrictOrder lt → IsStrictWeakOrder lt → (k : ℕ) (kept moved rest : List ℕ) → IsPermutation kept moved → IsSortedBy lt moved → Apart (kept ++ rest)
    → take k (insert_all lt [] (take k moved ++ rest)) ≡ take k (insert_all lt [] (kept ++ rest))
firsts_on {lt = lt} o w k kept moved rest p up h =
    let apart : Apart kept = apart_left kept rest h in
    let rises : Rises lt moved = sorted_rises lt o w moved up (permuted_apart kept moved p apart) in
    let prefix : Apart (take k moved) = apart_left (take k moved) rest (apart_on k kept moved rest p h) in
    let itself : insert_all lt [] (take k moved) ≡ take k moved = rising_is_inserted o (take k moved) (take k moved) prefix (take_rises lt k moved rises) (λ x i. i) (λ x i. i) in
    let whole : insert_all lt [] kept ≡ moved = sorted_is_inserted o w kept moved apart p up in
    ap (take k) (insert_all_append lt [] (take k moved) rest)
    ∙ ap (λ xs. take k (insert_all lt xs rest)) itself
    ∙ same_firsts lt k (take k moved) moved rest (take-take k k moved (omega arith))
    ∙ ap (λ xs. take k (insert_all lt xs rest)) (sym whole)
    ∙ ap (take k) (sym (insert_all_append lt [] kept rest))

-- once nothing more comes
pub firsts_end : {lt : ℕ → ℕ → Bool} → IsStrictOrder lt → IsStrictWeakOrder lt → (k : ℕ) (kept moved : List ℕ) → IsPermutation kept moved
    → IsSortedBy lt moved → Apart (kept ++ []) → take k moved ≡ take k (insert_all lt [] (kept ++ []))
firsts_end {lt = lt} o w k kept moved p up h = ap (take k) (sym (sorted_is_inserted o w kept moved (apart_left kept [] h) p up) ∙ ap (insert_all lt []) (sym (append-nil kept)))

-- insertion only reorders its input
insert_permutes : (lt : ℕ → ℕ → Bool) (p : ℕ) (xs : List ℕ) → IsPermutation (p ∷ xs) (insert lt p xs)
insert_permutes lt p [] = IsPermutation-refl (p ∷ [])
insert_permutes lt p (x ∷ xs) = cond_both (lt p x) (p ∷ x ∷ xs) (x ∷ insert lt p xs) (IsPermutation (p ∷ x ∷ xs)) (λ e. IsPermutation-refl (p ∷ x ∷ xs))
    (λ e. IsPermutation-trans _ _ _ (IsPermutation-sym _ _ (IsPermutation-middle (x ∷ []) p xs)) (IsPermutation-cons x _ _ (insert_permutes lt p xs)))

insert_all_permutes : (lt : ℕ → ℕ → Bool) (kept xs : List ℕ) → IsPermutation (kept ++ xs) (insert_all lt kept xs)
insert_all_permutes lt kept [] = subst (IsPermutation (kept ++ [])) (append-nil kept) (IsPermutation-refl (kept ++ []))
insert_all_permutes lt kept (x ∷ xs) =
    IsPermutation-trans _ _ _ (IsPermutation-middle kept x xs)
    (IsPermutation-trans _ _ _ (IsPermutation-append_left xs (x ∷ kept) (insert lt x kept) (insert_permutes lt x kept)) (insert_all_permutes lt (insert lt x kept) xs))

pub inserted_permutes : (lt : ℕ → ℕ → Bool) (xs : List ℕ) → IsPermutation xs (insert_all lt [] xs)
inserted_permutes lt xs = insert_all_permutes lt [] xs

pub inserted_sorted : {lt : ℕ → ℕ → Bool} → IsStrictOrder lt → (xs : List ℕ) → Apart xs → IsSortedBy lt (insert_all lt [] xs)
inserted_sorted {lt = lt} o xs apart k d a b =
    let ys = insert_all lt [] xs in
    not_both o (get_or ys k d) (get_or ys (k + 1) d) (rises_ascending lt ys (insert_all_rises o [] xs apart (λ x h g. h) tt) k (k + 1) d (omega arith) (omega arith))
