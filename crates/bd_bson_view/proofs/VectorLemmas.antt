-- The first byte that passes a test, found in a vector by the bit mask of those that pass.
use Rattle.std.proofs.Common.{◌≡◌, ℕ, ◌+◌, ◌*◌, ◌<◌, ◌≤◌, Bool, true, false, not, cond, List, [], ◌∷◌, map, length, get_or, Some, refl, ap, ◌∙◌, arith}
use Rattle.std.specs.List.{position, prefix_len}
use Rattle.std.proofs.lemmas.Bool.Decides.{nat_tests}
use Rattle.std.proofs.lemmas.List.Sums.{prefix_len-le-length, position_or_len_is}
use Rattle.std.proofs.lemmas.Simd.{length-chunk, trailing_mask_l, run_in_chunk_fails, run_in_chunk_stops}
use lib.Count.{count_trailing_zeros}
use lib.Lanes.{chunk, mask_l}

none_fails : (b : Bool) (n l m : ℕ) → n ≤ l → cond (not b) (1 + n) 0 ≡ 1 + l → (n ≡ l → m ≡ 0) → cond b 1 0 + 2 * m ≡ 0
none_fails true n l m le e ih = let no : ⊥ = omega arith in absurd no
none_fails false n l m le e ih = let z = ih (omega arith) in omega arith

zero-add : (r : ℕ) → r ≡ 0 + r
zero-add r = omega arith

module _ (p : ℕ → Bool) where
  empty : (xs : List ℕ) → prefix_len (λ x. not (p x)) xs ≡ length xs → mask_l (map p xs) ≡ 0
  empty [] e = refl
  empty (x ∷ xs) e = none_fails (p x) _ (length xs) _ (prefix_len-le-length (λ y. not (p y)) xs) (omega arith) (empty xs)

  -- the lowest set bit in the mask of sixteen bytes is the index of the first byte that passes
  pub first_in_vector : (xs : List ℕ) (r : ℕ) → 16 ≤ length xs → 0 < mask_l (map p (chunk 0 16 xs)) → r ≡ count_trailing_zeros 64 (mask_l (map p (chunk 0 16 xs))) → position p xs ≡ Some r
  first_in_vector xs r long_enough some counted =
      let c = chunk 0 16 xs in
      let long : length c ≡ 16 = length-chunk 0 16 xs long_enough in
      let run : r ≡ prefix_len (λ x. not (p x)) c = counted ∙ trailing_mask_l p 64 c (omega arith) some in
      let full : prefix_len (λ x. not (p x)) c ≡ length c → mask_l (map p c) ≡ 0 = empty c in
      let few : r < 16 = grind (arith, prefix_len-le-length (λ x. not (p x)) c, full, some, run, long) in
      let quiet = run_in_chunk_fails p xs 0 16 r 0 long_enough run in
      let here : p (get_or xs r 0) ≡ true = ap (λ (i : ℕ). p (get_or xs i 0)) (zero-add r) ∙ run_in_chunk_stops p xs 0 16 r 0 long_enough run few in
      let e = position_or_len_is p xs r 0 (omega arith) (λ k lt. quiet k (omega arith) (omega arith)) (λ _. here) in
      grind (arith, nat_tests, e, few)
