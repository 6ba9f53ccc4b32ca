-- Tables: how many numbers they have, and their codes.
use Rattle.std.proofs.Common.{◌≡◌, ℕ, zero, suc, ◌+◌, ◌<◌, ◌^◌, Bool, true, false, ◌&&◌, ℤ, pos, neg_ℤ, List, [], ◌∷◌, ◌++◌, length, map, vec_len, refl, ap, arith}
use Rattle.std.specs.Prelude.{FitsSigned, ◌==◌, if◌then◌else◌}
use Rattle.std.specs.Int.{w32}
use Rattle.std.specs.Ordering.{int_cmp, is_eq}
use Rattle.std.proofs.lemmas.Int.{fits_signed_from_abs}
use Rattle.std.proofs.lemmas.Bool.Decides.{nat_tests}
use Rattle.std.proofs.lemmas.List.{length-append, length-map}
use Rattle.bd_wide_number.specs.Value.{nan}
use Rattle.bd_wide_rank.specs.{Rank.code, Rank.rank, Table.worths, Worth.value_worth}
use Rattle.bd_wide_rank.specs.declared.between.Between.{Between}
use Rattle.bd_wide_rank.specs.declared.table.Table.{Table}
use Rattle.bd_wide_rank.specs.{Key.key_worth, Key.key_worths, Rows.between_worth, Rows.between_worths}
use Rattle.bd_wide_rank.proofs.RankLemmas.{rank_most}

pub row_length : (keys : List ℕ) (bs : List Between) → length (key_worths keys ++ between_worths bs) ≡ length keys + length bs
row_length keys bs = simp (length-append, length-map)

pub worths_length : (t : Table) → length (worths t) ≡ vec_len t.doubles.keys + vec_len t.others.numbers
unfolding worths
worths_length t =
    let keys = t.doubles.keys in
    let others = t.others.numbers in
    omega (arith, row_length keys.items others.items, keys.ok.0, others.ok.0)

pub few_worths : (t : Table) → length (worths t) < 2 ^ 30
unfolding worths
few_worths t = rw (row_length t.doubles.keys.items t.others.numbers.items) t.fits

-- what is made of each of two rows
map_rows : (f : ℤ → ℤ) (keys : List ℕ) (bs : List Between) → map f (key_worths keys ++ between_worths bs) ≡ map (λ k. f (key_worth k)) keys ++ map (λ b. f (between_worth b)) bs
map_rows f [] [] = refl
map_rows f [] (b ∷ bs) = ap (λ xs. f (between_worth b) ∷ xs) (map_rows f [] bs)
map_rows f (k ∷ ks) bs = ap (λ xs. f (key_worth k) ∷ xs) (map_rows f ks bs)

pub map_worths : (f : ℤ → ℤ) (t : Table) → map f (worths t) ≡ map (λ k. f (key_worth k)) t.doubles.keys.items ++ map (λ b. f (between_worth b)) t.others.numbers.items
unfolding worths
map_worths f t = map_rows f t.doubles.keys.items t.others.numbers.items

-- by its rank, and whether it is NaN
abbrev by_rank : ℕ → Bool → ℤ
by_rank r none = if (r == 0) && none then neg_ℤ (pos 1) else pos r

by_rank_fits : (r : ℕ) (none : Bool) → r < 2 ^ 31 → FitsSigned w32 (by_rank r none)
by_rank_fits zero true l = fits_signed_from_abs w32 (neg_ℤ (pos 1)) (omega arith)
by_rank_fits zero false l = fits_signed_from_abs w32 (pos 0) (omega arith)
by_rank_fits (suc r) none l = ranked r none (let e : (suc r == 0) ≡ false = grind (arith, nat_tests) in e) l
  where
    ranked : (r : ℕ) (none : Bool) → (suc r == 0) ≡ false → suc r < 2 ^ 31 → FitsSigned w32 (by_rank (suc r) none)
    ranked r none e l = rw e (fits_signed_from_abs w32 (pos (suc r)) l)

-- the ranks in both rows
pub ranks_few : (t : Table) (w : ℤ) (a b : ℕ) → a ≡ rank (key_worths t.doubles.keys.items) w → b ≡ rank (between_worths t.others.numbers.items) w → a + b < 2 ^ 31
ranks_few t w a b e f =
    let keys = t.doubles.keys.items in
    let others = t.others.numbers.items in
    let first : length (key_worths keys) ≡ length keys = length-map keys key_worth in
    let second : length (between_worths others) ≡ length others = length-map others between_worth in
    omega (arith, rank_most (key_worths keys) w, rank_most (between_worths others) w, t.fits)

pub code_fits : (ws : List ℤ) (w : ℤ) → length ws < 2 ^ 30 → FitsSigned w32 (code ws w)
code_fits ws w few = by_rank_fits (rank ws w) (is_eq (int_cmp w (value_worth nan))) (omega (arith, rank_most ws w))
