-- The places that remain for a cursor: for one without a sort, which resumes at its position, and for one with a list of places.
use Rattle.std.proofs.Common.{◌≡◌, ◌+◌, ◌-◌, ◌<◌, ◌≤◌, ℕ, Bool, true, false, cond, List, [], ◌∷◌, ◌++◌, length, drop, refl, ap, ◌∙◌, filter, arith, zero, suc, Option, Some, None, sym, take}
use Rattle.std.proofs.Common.{inl, inr, ◌⊎◌, min, eqb}
use Rattle.std.proofs.lemmas.List.{drop-take, take_all, length-drop, length-take, append-nil, drop_all}
use Rattle.std.proofs.{lemmas.Cmp.on_total, lemmas.Bool.cases_lt, lemmas.Bool.ne_eqb}
use Rattle.std.specs.{List.range_with_len, Cmp.IsTotalOrder}
use Rattle.bd_cursor_model.specs.Answer.{at_most, Position, answer, before, limited, ordered, rest, is_empty}
use Rattle.bd_value.specs.Tree.{Doc}
use Rattle.bd_cursor_model.proofs.SourceLemmas.{IsUnsorted, unsorted_after, unsorted_ordered}
use Rattle.bd_path.specs.{Sort.sort_cmp, Sort.sort_paths}
use Rattle.bd_path.proofs.SortLemmas.{sort_total}
use Rattle.bd_query_filter.specs.Filter.{filter_tree}
use Rattle.bd_bson_dump.specs.Collection.{document_at}
use Rattle.bd_cursor_sort.specs.Selection.{selection_of, matches_at_of}
use Rattle.bd_cursor_request.specs.declared.request.Request.{Request}

-- the matches among the documents that were not examined yet
abbrev pub unseen : ℕ → (ℕ → Bool) → ℕ → List ℕ
unseen count matches_at next = filter matches_at (range_with_len next (count - next))

unseen_step : (count next : ℕ) (matches_at : ℕ → Bool) → next < count → unseen count matches_at next ≡ cond (matches_at next) (next ∷ unseen count matches_at (next + 1)) (unseen count matches_at (next + 1))
unseen_step count next matches_at l = let e : count - next ≡ suc (count - (next + 1)) = omega arith in rw e refl

unseen_none : (count next : ℕ) (matches_at : ℕ → Bool) → count ≤ next → unseen count matches_at next ≡ []
unseen_none count next matches_at l = let e : count - next ≡ 0 = omega arith in rw e refl

pub missed : (count next skip : ℕ) (matches_at : ℕ → Bool) → next < count → matches_at next ≡ false → drop skip (unseen count matches_at next) ≡ drop skip (unseen count matches_at (next + 1))
missed count next skip matches_at l e = ap (drop skip) (unseen_step count next matches_at l ∙ rw e refl)

drop_one_more : (skip p : ℕ) (ps : List ℕ) → 0 < skip → drop skip (p ∷ ps) ≡ drop (skip - 1) ps
drop_one_more zero p ps l = absurd (omega arith)
drop_one_more (suc n) p ps l = ap (λ k. drop k ps) (let e : n ≡ suc n - 1 = omega arith in e)

pub passed_over : (count next skip : ℕ) (matches_at : ℕ → Bool) → next < count → matches_at next ≡ true → 0 < skip → drop skip (unseen count matches_at next) ≡ drop (skip - 1) (unseen count matches_at (next + 1))
passed_over count next skip matches_at l e some = ap (drop skip) (unseen_step count next matches_at l ∙ rw e refl) ∙ drop_one_more skip next (unseen count matches_at (next + 1)) some

pub met : (count next skip : ℕ) (matches_at : ℕ → Bool) → next < count → matches_at next ≡ true → skip ≡ 0 → drop skip (unseen count matches_at next) ≡ next ∷ drop skip (unseen count matches_at (next + 1))
met count next skip matches_at l e none = rw none (unseen_step count next matches_at l ∙ rw e refl)

pub all_found : (count next skip : ℕ) (matches_at : ℕ → Bool) → count ≤ next → drop skip (unseen count matches_at next) ≡ []
all_found count next skip matches_at l = ap (drop skip) (unseen_none count next matches_at l) ∙ drop_all skip [] (omega arith)

pub at_most_none : (most : Option ℕ) → at_most most [] ≡ []
at_most_none None = refl
at_most_none (Some zero) = refl
at_most_none (Some (suc n)) = refl

pub drop_beyond : (n : ℕ) (xs ys : List ℕ) → length xs ≤ n → ys ≡ [] → drop n (xs ++ ys) ≡ []
drop_beyond n xs ys l e = ap (λ zs. drop n (xs ++ zs)) e ∙ ap (drop n) (append-nil xs) ∙ drop_all n xs l

-- ---- a cursor without a sort

pub requested_total : (ds : List Doc) (r : Request) → IsTotalOrder (selection_of ds r).by
requested_total ds r = on_total (document_at ds) (sort_total (sort_paths r.sort.items))

unsorted : (ds : List Doc) (r : Request) → r.sort.items ≡ [] → IsUnsorted (selection_of ds r)
unsorted ds r e p q = ap (λ items. sort_cmp (sort_paths items) (document_at ds p) (document_at ds q)) e

module _ (ds : List Doc) (r : Request) (none : r.sort.items ≡ []) where
  all_in_order : unseen (length ds) (matches_at_of ds (filter_tree r.filter)) 0 ≡ ordered (selection_of ds r)
  all_in_order =
      ap (λ n. filter (matches_at_of ds (filter_tree r.filter)) (range_with_len 0 n)) (let e : length ds - 0 ≡ length ds = omega arith in e)
      ∙ sym (unsorted_ordered (selection_of ds r) (requested_total ds r) (unsorted ds r none))

  pub answer_limited : (skip limit : ℕ) → r.skip ≡ skip → r.limit ≡ limit →
      limited limit 0 (drop skip (unseen (length ds) (matches_at_of ds (filter_tree r.filter)) 0)) ≡ answer (selection_of ds r)
  answer_limited skip limit s l =
      ap (λ k. limited limit 0 (drop k (unseen (length ds) (matches_at_of ds (filter_tree r.filter)) 0))) (sym s)
      ∙ ap (λ ps. limited limit 0 (drop r.skip ps)) all_in_order
      ∙ ap (λ n. limited n 0 (drop r.skip (ordered (selection_of ds r)))) (sym l)

  rest_in_order : (last : ℕ) → unseen (length ds) (matches_at_of ds (filter_tree r.filter)) (last + 1)
      ≡ filter (before (selection_of ds r).by last) (ordered (selection_of ds r))
  rest_in_order last = sym (unsorted_after (selection_of ds r) (requested_total ds r) (unsorted ds r none) last)

  pub rest_limited : (limit : ℕ) (m : Position) → r.limit ≡ limit →
      limited limit m.given (unseen (length ds) (matches_at_of ds (filter_tree r.filter)) (m.last + 1)) ≡ rest (selection_of ds r) m
  rest_limited limit m l =
      ap (limited limit m.given) (rest_in_order m.last)
      ∙ ap (λ n. limited n m.given (filter (before (selection_of ds r).by m.last) (ordered (selection_of ds r)))) (sym l)

-- ---- a cursor with a sort

next_eq : (n m : ℕ) → eqb n m ≡ eqb (suc n) (suc m)
next_eq n m = grind arith

pub empty_drop : (n : ℕ) (xs : List ℕ) → n ≤ length xs → eqb n (length xs) ≡ is_empty (drop n xs)
empty_drop zero [] h = refl
empty_drop zero (x ∷ xs) h = ne_eqb 0 (length (x ∷ xs)) (λ e. absurd (omega arith))
empty_drop (suc n) [] h = absurd (omega arith)
empty_drop (suc n) (x ∷ xs) h = sym (next_eq n (length xs)) ∙ empty_drop n xs (omega arith)

-- the first places that an answer needs are enough, if there are fewer than the greatest count
pub enough : (skip limit most greatest : ℕ) (ps : List ℕ) → (limit ≡ 0 → ⊥) → most ≡ min greatest (skip + limit) → length (take most ps) < greatest
    → drop skip (take most ps) ≡ limited limit 0 (drop skip ps)
enough skip limit most greatest ps some m few = rw (ne_eqb limit 0 some) (go (cases_lt (skip + limit) greatest))
  where
    go : (skip + limit < greatest) ⊎ (greatest ≤ skip + limit) → drop skip (take most ps) ≡ take (limit - 0) (drop skip ps)
    go (inl h) =
        let e : most ≡ skip + limit = omega arith in
        let z : limit ≡ limit - 0 = omega arith in
        ap (λ n. drop skip (take n ps)) e ∙ drop-take skip limit ps ∙ ap (λ n. take n (drop skip ps)) z
    go (inr h) =
        let n : length ps < greatest = omega (arith, length-take most ps) in
        ap (drop skip) (take_all most ps (omega arith)) ∙ sym (take_all (limit - 0) (drop skip ps) (omega (arith, length-drop skip ps)))
