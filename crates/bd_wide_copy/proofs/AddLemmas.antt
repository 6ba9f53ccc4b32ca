-- The numbers of the documents of a dump, collected document by document.
use Rattle.std.proofs.Common.{◌≡◌, ℕ, ℤ, List, [], ◌∷◌, ◌++◌, take, drop, map, Some, None, refl, sym, ap, ◌∙◌, subst, append_assoc, append-nil}
use Rattle.std.proofs.lemmas.{List.map-append}
use Rattle.bd_value.specs.Tree.{Doc, fields_of}
use Rattle.bd_bson_view.specs.Spelling.{valued}
use Rattle.bd_wide_number.specs.declared.number.Number.{Number}
use Rattle.bd_wide_rank.specs.{Rank.HaveSame, Worth.worth, Worth.worth_if, Worth.worth_of}
use Rattle.bd_wide_rank.proofs.RankLemmas.{same_both, same_second, same_sym, same_trans}
use Rattle.bd_wide_copy.specs.Dump.{AreNumbersOfAll}
use Rattle.bd_wide_copy.specs.Numbers.{AreNumbersOf, IsWorthOf, field_numbers, document_numbers}
use Rattle.bd_wide_copy.specs.inside.Added.{AddsWorths}
use Rattle.bd_wide_copy.specs.inside.Starts.{frame_size}
use Rattle.bd_wide_copy.proofs.DumpLemmas.{ended, first_of}

itself : (ws : List ℤ) → HaveSame ws ws
itself ws w = refl

-- numbers in the other order
swapped : (us vs ws : List ℤ) → HaveSame (us ++ (vs ++ ws)) (vs ++ (us ++ ws))
swapped [] vs ws = itself (vs ++ ws)
swapped (u ∷ us) vs ws =
    same_trans (u ∷ (us ++ (vs ++ ws))) (u ∷ (vs ++ (us ++ ws))) (vs ++ u ∷ (us ++ ws))
    (same_both (u ∷ []) (u ∷ []) (us ++ (vs ++ ws)) (vs ++ (us ++ ws)) (itself (u ∷ [])) (swapped us vs ws))
    (same_sym (vs ++ u ∷ (us ++ ws)) (u ∷ (vs ++ (us ++ ws))) (same_second vs (us ++ ws) u))

-- one number more
pub pushed : (old now new : List ℤ) (before : List Number) (number : Number) (after : List Number) → HaveSame now (map worth_of before ++ old)
    → HaveSame new (worth_of number ∷ now) → after ≡ before ++ number ∷ [] → HaveSame new (map worth_of after ++ old)
pushed old now new before number after have one is =
    let ws : List ℤ = map worth_of before in
    let w : ℤ = worth_of number in
    let same : ws ++ w ∷ old ≡ map worth_of after ++ old =
    sym (append_assoc ws (w ∷ []) old) ∙ ap (λ (x : List ℤ). x ++ old) (sym (map-append worth_of before (number ∷ [])))
    ∙ ap (λ (x : List Number). map worth_of x ++ old) (sym is) in
    subst (HaveSame new) same
    (same_trans new (w ∷ now) (ws ++ w ∷ old) one
    (same_trans (w ∷ now) (w ∷ (ws ++ old)) (ws ++ w ∷ old) (same_both (w ∷ []) (w ∷ []) now (ws ++ old) (itself (w ∷ [])) have)
    (same_sym (ws ++ w ∷ old) (w ∷ (ws ++ old)) (same_second ws old w))))

-- the worth of a value is that of its number
pub worth_is : IsWorthOf worth_of worth
worth_is type value number is = ap worth_if is

-- what is collected from the rest on is collected from all
abbrev pub Comes : List ℕ → List ℕ → List ℤ → List ℤ → Type 0
Comes bytes rest old now = (last : List ℤ) → AddsWorths rest now last → AddsWorths bytes old last

pub begins : (bytes : List ℕ) (old : List ℤ) → Comes bytes bytes old old
begins bytes old = λ last h. h

pub all_collected : (bytes rest : List ℕ) (old now : List ℤ) → Comes bytes rest old now → None ≡ frame_size rest → AddsWorths bytes old now
all_collected bytes rest old now comes is =
    comes now (λ ds j. subst (λ (xs : List Doc). HaveSame now (document_numbers xs ++ now)) (sym (ended (valued worth) ds rest j (sym is)).0) (itself now))

pub collected_on : (bytes rest document after : List ℕ) (old now next : List ℤ) (all : List Number) (n : ℕ) → Comes bytes rest old now → Some n ≡ frame_size rest
    → document ≡ take n rest → after ≡ drop n rest → AreNumbersOf document all → HaveSame next (map worth_of all ++ now) → Comes bytes after old next
collected_on bytes rest document after old now next all n comes is p q numbers have = λ last h. comes last (λ ds j.
    let f = first_of (valued worth) ds rest n j (sym is) in
    let xs : List ℤ = field_numbers (fields_of f.0) in
    let ys : List ℤ = document_numbers f.1 in
    let first : map worth_of all ≡ xs = (subst (λ (x : List ℕ). AreNumbersOf x all) p numbers).0 worth_of worth worth_is f.0 f.3 in
    let now_is : HaveSame next (xs ++ now) = subst (λ (x : List ℤ). HaveSame next (x ++ now)) first have in
    let later : HaveSame last (ys ++ next) = subst (λ (x : List ℕ). AddsWorths x next last) q h f.1 f.4 in
    let both : HaveSame last (xs ++ (ys ++ now)) =
    same_trans last (ys ++ next) (xs ++ (ys ++ now)) later
    (same_trans (ys ++ next) (ys ++ (xs ++ now)) (xs ++ (ys ++ now)) (same_both ys ys next (xs ++ now) (itself ys) now_is) (swapped ys xs now)) in
    subst (λ (es : List Doc). HaveSame last (document_numbers es ++ now)) (sym f.2) (subst (HaveSame last) (sym (append_assoc xs ys now)) both))

pub collected_from_none : (bytes here : List ℕ) (none all : List ℤ) → here ≡ bytes → none ≡ [] → AddsWorths here none all → AreNumbersOfAll bytes all
collected_from_none bytes here none all same empty h ds j =
    subst (HaveSame all) (ap (λ (x : List ℤ). document_numbers ds ++ x) empty ∙ append-nil (document_numbers ds))
    (subst (λ (x : List ℕ). AddsWorths x none all) same h ds j)
