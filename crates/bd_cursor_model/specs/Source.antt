-- A source of document numbers.
use Rattle.std.specs.Prelude.{ℕ, ◌<◌, ◌≡◌, ◌≢◌, ◌-◌, ◌&&◌, Bool, true, List, [], ◌∷◌, Option, Some, None, Contains}
use Rattle.std.specs.{List.All, List.AllPairs, List.filter, List.range_with_len, declared.cmp.Ordering.Ordering}
use Rattle.std.proofs.{Common.arith, Common.◌∙◌, Common.zero-add, lemmas.List.FromFn.get_or-range_with_len}
use Rattle.std.proofs.{lemmas.List.FromFn.length-range_with_len}
use Rattle.bd_cursor_model.specs.{Answer.Selection, Answer.before, Answer.ordered, declared.source.Scan.Scan}

-- a list of numbers of n documents in which no match is missing and none comes twice
pub record IsSource (n : ℕ) (matches_at : ℕ → Bool) (ps : List ℕ) : Type 0 where
  pub below : All (λ p. p < n) ps
  pub distinct : AllPairs (λ x y. x ≢ y) ps
  pub complete : (p : ℕ) → p < n → matches_at p ≡ true → Contains ps p

-- The next document number is returned; None means that there is none, now or later.
abbrev pub HandsOut : Option ℕ → List ℕ → List ℕ → Type 0
HandsOut None old new = (old ≡ []) × (new ≡ [])
HandsOut (Some p) old new = old ≡ p ∷ new

-- whether p comes after another document number; true without one
abbrev pub is_after : (ℕ → ℕ → Bool) → Option ℕ → ℕ → Bool
is_after lt None p = true
is_after lt (Some q) p = lt q p

-- whether p matches, and comes after another document number, if any
abbrev pub passes : (ℕ → Bool) → (ℕ → ℕ → Ordering) → Option ℕ → ℕ → Bool
passes matches_at by last p = matches_at p && is_after (before by) last p

-- the numbers of the matches that come after a document, in order; of all matches without one
abbrev pub places_after : Selection → Option ℕ → List ℕ
places_after a last = filter (is_after (before a.by) last) (ordered a)

-- the document numbers that a scan has yet to give, in file order
abbrev pub scan_places : Scan → List ℕ
scan_places scan = range_with_len scan.next (scan.count - scan.next)

-- The scan has yet to give all documents, of which there are n.
abbrev pub ScansAll : Scan → ℕ → Type 0
ScansAll scan n = (scan.next ≡ 0) × (scan.count ≡ n)

-- the numbers of all documents in file order are a source: no match is missing, and none comes twice
pub scan_law : (scan : Scan) (n : ℕ) (matches_at : ℕ → Bool) → ScansAll scan n → IsSource n matches_at (scan_places scan)
scan_law scan n matches_at all = rw (all.0, all.1) (let z : n - 0 ≡ n = omega arith in rw z (record {
  below = λ k d l. let m : k < n = omega (arith, length-range_with_len 0 n) in
      rw (get_or-range_with_len 0 n k d m) (omega arith);
  distinct = λ i j d a b e. let m : j < n = omega (arith, length-range_with_len 0 n) in let x =
      get_or-range_with_len 0 n i d (omega arith) in let y = get_or-range_with_len 0 n j d m in absurd (omega arith);
  complete = λ p l e. (p, omega (arith, length-range_with_len 0 n), get_or-range_with_len 0 n p p l ∙ zero-add p);
}))
