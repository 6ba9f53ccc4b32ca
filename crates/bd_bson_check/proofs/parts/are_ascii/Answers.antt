use Rattle.std.proofs.Common.{◌≡◌, ℕ, ◌+◌, ◌-◌, ◌<◌, ◌≤◌, Bool, false, List, length, get_or, take, drop, refl, sym, ap, ◌∙◌, subst, arith, inl, inr, ◌||◌, not, nat_lt}
use Rattle.std.proofs.Common.{IsAscii, IsTrue}
use Rattle.std.specs.List.{list_any}
use Rattle.std.proofs.lemmas.{Bool.cases_lt, Bool.ltb-false, Bool.false_from_ne_true, List.get_or-take, List.get_or-drop, List.get_or_past, List.Folds.list_any_at}
use Rattle.bd_bson_check.proofs.parts.are_ascii.Goals as goal

abbrev beyond : ℕ → Bool
beyond b = nat_lt 127 b

none_beyond : (xs : List ℕ) → list_any beyond xs ≡ false → IsAscii xs
none_beyond xs e = λ i. elim (cases_lt i (length xs)) [
  | inl lt ↦ let le = ltb-false 127 (get_or xs i 0) (false_from_ne_true (beyond (get_or xs i 0)) (λ t. let f = list_any_at beyond xs i 0 lt t in cc)) in omega (arith, le)
  | inr above ↦ rw (get_or_past xs i 0 above) (omega arith)
]

-- the first n and the last n of at most 2n bytes are all of them
both_ends : (size : ℕ) (xs first last : List ℕ) → size ≤ length xs → length xs ≤ size + size → first ≡ take size xs
    → last ≡ drop (length xs - size) xs → list_any beyond first ≡ false → list_any beyond last ≡ false → IsAscii xs
both_ends size xs first last fits near prefix back one two = λ i. elim (cases_lt i size) [
  | inl lt ↦ subst (λ (b : ℕ). b < 128) (ap (λ (l : List ℕ). get_or l i 0) prefix ∙ get_or-take size xs i 0 lt) (none_beyond first one i)
  | inr high ↦
      let k = length xs - size in
      let there : k + (i - k) ≡ i = omega arith in
      subst (λ (b : ℕ). b < 128) (ap (λ (l : List ℕ). get_or l (i - k) 0) back ∙ get_or-drop k xs (i - k) 0 ∙ ap (λ (j : ℕ). get_or xs j 0) there) (none_beyond last two (i - k))
]

neither : (a b : Bool) → IsTrue (not (a || b)) → (a ≡ false) × (b ≡ false)
neither false false t = (refl, refl)
neither _ _ t = absurd cc

pub returns : goal.returns
returns c = λ t.
    let none = neither c.any_beyond_ascii.result c.any_beyond_ascii-2.result t in
    both_ends c.args.size c.args.bytes.now _ _ (omega arith) (omega arith) c.split_at.ensures.front c.split_at-2.ensures.back
    (sym c.any_beyond_ascii.ensures ∙ none.0) (sym c.any_beyond_ascii-2.ensures ∙ none.1)
