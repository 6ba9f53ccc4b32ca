-- Codes that are no longer than the numbers make no document longer.
use Rattle.std.proofs.Common.{◌≡◌, ℕ, ◌≤◌, List, ◌∷◌, ◌++◌, length, ap, arith, length-append}
use Rattle.bd_bson_view.specs.Spelling.{string, framed, scoped}
use Rattle.bd_bson_view.proofs.ValueAtLemmas as values

pub framed_le : (b d v w : List ℕ) → v ≡ framed b → w ≡ framed d → length d ≤ length b → length w ≤ length v
framed_le b d v w is new le = omega (arith, le, ap (λ (x : List ℕ). length x) is, ap (λ (x : List ℕ). length x) new, values.framed_length b, values.framed_length d)

pub scoped_le : (s b d v w : List ℕ) → v ≡ scoped s (framed b) → w ≡ scoped s (framed d) → length d ≤ length b → length w ≤ length v
scoped_le s b d v w is new le = omega (
  arith,
  le,
  ap (λ (x : List ℕ). length x) is,
  ap (λ (x : List ℕ). length x) new,
  values.framed_length b,
  values.framed_length d,
  values.scoped_length s (framed b),
  values.scoped_length s (framed d),
  length-append (string s) (framed b),
  length-append (string s) (framed d),
)

-- an element with as long a name and a value of at most as many bytes, and what follows it
pub parts_le : (a b : ℕ) (name v w rest more bytes new : List ℕ) → bytes ≡ a ∷ (name ++ 0 ∷ (v ++ rest)) → new ≡ (b ∷ (name ++ 0 ∷ w)) ++ more
    → length w ≤ length v → length more ≤ length rest → length new ≤ length bytes
parts_le a b name v w rest more bytes new is now first second =
    omega (
      arith,
      first,
      second,
      ap (λ (x : List ℕ). length x) is,
      ap (λ (x : List ℕ). length x) now,
      length-append name (0 ∷ (v ++ rest)),
      length-append v rest,
      length-append (b ∷ (name ++ 0 ∷ w)) more,
      length-append name (0 ∷ w),
    )
