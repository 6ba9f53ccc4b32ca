-- A dump has fewer numbers than a table may have.
use Rattle.std.proofs.Common.{◌≡◌, ◌≤◌, ◌<◌, ◌*◌, ◌^◌, arith, ℕ, ℤ, List, [], ◌∷◌, ◌++◌, length, refl, sym, ap, ap₂, ◌∙◌, Bool, true, false, ◌||◌}
use Rattle.std.proofs.lemmas.{List.length-append, List.length-map, Map.Made.length-le_from_is_member}
use Rattle.std.specs.{List.AllByRecursion, List.IsDistinct, Ordering.int_eq, Set.is_member}
use Rattle.std.proofs.lemmas.Cmp.{int_eq_equiv}
use Rattle.bd_value.specs.{Limits.longest_input, Tree.Doc, Tree.fields_of}
use Rattle.bd_bson_view.specs.Spelling.{IsDocumentBy, valued}
use Rattle.bd_wide_rank.specs.{Rank.AreDistinct, Rank.HaveSame, Rank.is_among, Worth.worth, Worth.worth_of}
use Rattle.bd_wide_copy.specs.{Dump.AreJoinedBy, Numbers.document_numbers, Numbers.field_numbers}
use Rattle.bd_wide_copy.specs.inside.Collected.{collected}
use Rattle.bd_wide_copy.proofs.AddLemmas.{worth_is}
use Rattle.bd_wide_copy.proofs.CollectLemmas.{collected_small}
use Rattle.bd_wide_copy.proofs.NumbersLemmas.{document_numbers_are}

-- each number of a document takes six bytes or more
document_few : (d : Doc) (bytes : List ℕ) → IsDocumentBy (valued worth) d bytes → 6 * length (field_numbers (fields_of d)) ≤ length bytes
document_few d bytes is =
    let same : length (field_numbers (fields_of d)) ≡ length (collected bytes) =
    ap (λ (ns : List ℤ). length ns) (sym (document_numbers_are worth_of worth worth_is d bytes is)) ∙ length-map (collected bytes) worth_of in
    omega (arith, collected_small bytes, same)

-- so does each number of the documents of a dump
few : (ds : List Doc) (bytes : List ℕ) → AreJoinedBy (valued worth) ds bytes → 6 * length (document_numbers ds) ≤ length bytes
few [] bytes are = omega arith
few (d ∷ ds) bytes (prefix, rest, is, more, split) =
    let first = document_few d prefix is in
    let later = few ds rest more in
    let whole : length bytes ≡ length (prefix ++ rest) = ap (λ (xs : List ℕ). length xs) split in
    omega (arith, first, later, whole, length-append prefix rest, length-append (field_numbers (fields_of d)) (document_numbers ds))

-- ---- distinct numbers

among_is : (ws : List ℤ) (w : ℤ) → is_member int_eq ws w ≡ is_among ws w
among_is [] w = refl
among_is (v ∷ ws) w = ap₂ (λ (a b : Bool). a || b) (int_eq_equiv.symm w v) (among_is ws w)

apart : (w : ℤ) (ws : List ℤ) → is_among ws w ≡ false → AllByRecursion (λ v. int_eq w v ≡ false) ws
apart w [] none = tt
apart w (v ∷ ws) none = (search_first, apart w ws search_rest)
  where
    or_false : (a b : Bool) → (a || b) ≡ false → (a ≡ false) × (b ≡ false)
    or_false false false e = (refl, refl)
    or_false true b e = absurd cc
    or_false false true e = absurd cc

    both : (int_eq v w ≡ false) × (is_among ws w ≡ false)
    both = or_false (int_eq v w) (is_among ws w) none

    search_first : int_eq w v ≡ false
    search_first = int_eq_equiv.symm w v ∙ both.0

    search_rest : is_among ws w ≡ false
    search_rest = both.1

distinct : (ws : List ℤ) → AreDistinct ws → IsDistinct int_eq ws
unfolding IsDistinct
distinct [] d = tt
distinct (w ∷ ws) d = (apart w ws d.0, distinct ws d.1)

-- distinct numbers that are all in a list are no more than it has
no_more : (vs ws : List ℤ) → AreDistinct vs → HaveSame vs ws → length vs ≤ length ws
no_more vs ws d same = length-le_from_is_member int_eq_equiv vs ws (distinct vs d) (λ q m. among_is ws q ∙ sym (same q) ∙ sym (among_is vs q) ∙ m)

-- the distinct numbers of a dump are fewer than 2 ^ 30
pub few_numbers : (ds : List Doc) (bytes : List ℕ) (table : List ℤ) → AreJoinedBy (valued worth) ds bytes → length bytes ≤ longest_input
    → AreDistinct table → HaveSame table (document_numbers ds) → length table < 2 ^ 30
few_numbers ds bytes table are short d same = omega (arith, few ds bytes are, no_more table (document_numbers ds) d same, short)
