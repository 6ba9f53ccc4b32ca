-- A text that is written piece by piece after the first bytes of a buffer.
use Rattle.std.proofs.Common.{◌≡◌, ℕ, zero, suc, ◌-◌, ◌<◌, ◌≤◌, List, [], ◌∷◌, ◌++◌, length, take, drop, get_or, replicate, Result, Ok, Err, refl, sym, ap, ◌∙◌, append_assoc, arith}
use Rattle.std.proofs.lemmas.List.{append-nil, take_all}
use Rattle.bd_extjson_text.specs.Buffer.{Appends}
use Rattle.bd_extjson_text.proofs.BufferLemmas.{splits, rises, prefix}

-- the rest of a list after its first element
abbrev pub rest_of : {A : Type 0} → List A → List A
rest_of xs = take (length xs - 1) (drop 1 xs)

-- a list that is not empty is its first element and the others
pub first_and_rest : {A : Type 0} (xs : List A) (d : A) → 1 ≤ length xs → xs ≡ get_or xs 0 d ∷ rest_of xs
first_and_rest [] d some = absurd (omega (arith, some))
first_and_rest (x ∷ xs) d some = ap (λ (ys : List _). x ∷ ys) (sym (take_all (length (x ∷ xs) - 1) xs (omega arith)))

pub replicate_step : (n b : ℕ) → 0 < n → replicate n b ≡ b ∷ replicate (n - 1) b
replicate_step zero b some = absurd (omega (arith, some))
replicate_step (suc n) b some = let e : suc n - 1 ≡ n = omega arith in ap (λ (k : ℕ). b ∷ replicate k b) (sym e)

-- With what is to come, what is written is the whole text, and the bytes before it are as they were.
pub record Going (old : List ℕ) (end : ℕ) (whole out : List ℕ) (at : ℕ) (to_come : List ℕ) : Type 0 where
  pub goes : take at out ++ to_come ≡ take end old ++ whole
  pub unchanged : take end out ≡ take end old
  pub inside : at ≤ length out
  pub behind : end ≤ at

module _ (old : List ℕ) (end : ℕ) (whole : List ℕ) where
  pub begun : end ≤ length old → Going old end whole old end whole
  begun inside = record { goes = refl; unchanged = refl; inside = inside; behind = omega arith }

  -- the next piece is written
  pub goes_on : (mid new x rest : List ℕ) (at to : ℕ) → Going old end whole mid at (x ++ rest) → take to new ≡ take at mid ++ x → to ≤ length new → Going old end whole new to rest
  goes_on mid new x rest at to so_far put inside = record {
    goes = ap (λ (y : List ℕ). y ++ rest) put ∙ append_assoc (take at mid) x rest ∙ so_far.goes;
    unchanged = splits end at new mid so_far.behind (prefix at to mid x new so_far.inside put) ∙ so_far.unchanged;
    inside = inside;
    behind = omega (arith, so_far.behind, rises at to mid x new so_far.inside put);
  }

  -- what is written later fails
  pub stopped : (mid new to_come : List ℕ) (at : ℕ) → Going old end whole mid at to_come → take at new ≡ take at mid → take end new ≡ take end old
  stopped mid new to_come at so_far same = splits end at new mid so_far.behind same ∙ so_far.unchanged

  pub finished : (out : List ℕ) (at : ℕ) → Going old end whole out at [] → (take at out ≡ take end old ++ whole) × (at ≤ length out)
  finished out at so_far = (sym (append-nil (take at out)) ∙ so_far.goes, so_far.inside)

  -- the last piece is written
  pub ended : {E : Type 0} (mid new x : List ℕ) (at : ℕ) (r : Result ℕ E) → Going old end whole mid at x → Appends mid at r new x → Appends old end r new whole
  ended mid new x at (Ok to) so_far put = (put.0 ∙ so_far.goes, put.1)
  ended mid new x at (Err e) so_far put = stopped mid new x at so_far put
