-- NaN is the least number of a table, and no other number has its code.
use Rattle.std.proofs.Common.{◌≡◌, ℕ, suc, ◌+◌, List, [], ◌∷◌, ◌++◌, refl, sym, ap, ap₂, ◌∙◌, subst, arith, Bool, true, false, ◌||◌, ◌&&◌, All}
use Rattle.std.specs.Prelude.{ℤ, pos, neg_ℤ, ◌<ℤ◌, ◌≤ℤ◌, ◌==◌, if◌then◌else◌}
use Rattle.std.specs.List.{AllByRecursion as Each}
use Rattle.std.specs.Ordering.{int_cmp, is_eq}
use Rattle.std.proofs.lemmas.{Int.ints, Int.by_lt_z}
use Rattle.bd_wide_number.specs.Value.{nan}
use Rattle.bd_wide_rank.specs.{Rank.code, Rank.is_among, Rank.rank, Rank.weight, Table.worths, Worth.value_worth}
use Rattle.bd_wide_rank.specs.declared.between.Between.{Between}
use Rattle.bd_wide_rank.specs.declared.table.Table.{Table}
use Rattle.bd_wide_rank.specs.{Key.key_worth, Key.key_worths, Rows.between_worth, Rows.between_worths}
use Rattle.bd_wide_rank.specs.inside.Key.{IsKey}
use Rattle.bd_wide_rank.proofs.CompareLemmas.{alike, greater}
use Rattle.bd_wide_rank.proofs.KeyLemmas.{above_double, keys_rise_or, nan_key, nan_worth}
use Rattle.bd_wide_rank.proofs.OrderLemmas.{codes_rise, same}

-- the worth is not below that of NaN
abbrev IsNotBelow : ℤ → Type 0
IsNotBelow w = value_worth nan ≤ℤ w

-- ---- the numbers of a table

keys_above : (keys : List ℕ) → All IsKey keys → Each IsNotBelow (key_worths keys)
keys_above [] are = tt
keys_above (k ∷ ks) are = (
  subst (λ v. v ≤ℤ key_worth k) nan_worth (keys_rise_or 0 k nan_key (are 0 k (omega arith)) (omega arith)),
  keys_above ks (λ i d l. are (suc i) d (omega arith)),
)

others_above : (bs : List Between) → Each IsNotBelow (between_worths bs)
others_above [] = tt
others_above (b ∷ bs) =
    let up : value_worth nan <ℤ between_worth b = subst (λ v. v <ℤ between_worth b) nan_worth (above_double b.key (between_worth b) b.between 0 nan_key (omega arith)) in (
      omega (arith, ints),
      others_above bs,
    )

each_append : (vs ws : List ℤ) → Each IsNotBelow vs → Each IsNotBelow ws → Each IsNotBelow (vs ++ ws)
each_append [] ws p q = q
each_append (v ∷ vs) ws p q = (p.0, each_append vs ws p.1 q)

none_below : (t : Table) → Each IsNotBelow (worths t)
unfolding worths
none_below t = each_append (key_worths t.doubles.keys.items) (between_worths t.others.numbers.items) (keys_above t.doubles.keys.items t.doubles.are_keys) (others_above t.others.numbers.items)

-- ---- its code

or_false : (a b : Bool) → (a || b) ≡ false → (a ≡ false) × (b ≡ false)
or_false true b e = absurd cc
or_false false b e = (refl, e)

and_true : (a b : Bool) → (a && b) ≡ true → b ≡ true
and_true true b e = e
and_true false b e = absurd cc

above_it : (v : ℤ) → IsNotBelow v → is_eq (int_cmp v (value_worth nan)) ≡ false → value_worth nan <ℤ v
above_it v least other = by_lt_z (value_worth nan) v (λ (l : value_worth nan <ℤ v). l)
    (λ (h : v ≤ℤ value_worth nan).
    let e : v ≡ value_worth nan = omega (arith, ints) in
    let no : true ≡ false = sym (ap is_eq (ap (λ x. int_cmp x (value_worth nan)) e ∙ alike (value_worth nan))) ∙ other in absurd (cc))

-- a NaN that is not among numbers has the rank 0
no_rank : (ws : List ℤ) → Each IsNotBelow ws → is_among ws (value_worth nan) ≡ false → rank ws (value_worth nan) ≡ 0
no_rank [] least none = refl
no_rank (v ∷ vs) least none =
    let n = or_false (is_eq (int_cmp v (value_worth nan))) (is_among vs (value_worth nan)) none in
    ap₂ ◌+◌ (ap weight (greater v (value_worth nan) (above_it v least.0 n.0))) (no_rank vs least.1 n.1)

-- the code of a number by its rank, and whether it is NaN
abbrev code_by : ℕ → Bool → ℤ
code_by r none = if (r == 0) && none then neg_ℤ (pos 1) else pos r

is_nan : (r : ℕ) (none : Bool) → code_by r none ≡ neg_ℤ (pos 1) → none ≡ true
is_nan r none e = by_test ((r == 0) && none) refl e
  where
    by_test : (b : Bool) → ((r == 0) && none) ≡ b → (if b then neg_ℤ (pos 1) else pos r) ≡ neg_ℤ (pos 1) → none ≡ true
    by_test true f e = and_true (r == 0) none f
    by_test false f e = absurd (omega (arith, ints))

alone_among : (ws : List ℤ) → is_among ws (value_worth nan) ≡ true → (w : ℤ) → code ws w ≡ code ws (value_worth nan) → w ≡ value_worth nan
alone_among ws found w e =
    let rises = codes_rise ws (value_worth nan) w found in
    by_lt_z w (value_worth nan)
    (λ (l : w <ℤ value_worth nan). let less : code ws w <ℤ code ws (value_worth nan) = rises.1 l in absurd (omega (arith, ints)))
    (λ (h : value_worth nan ≤ℤ w). by_lt_z (value_worth nan) w
    (λ (l : value_worth nan <ℤ w). let less : code ws (value_worth nan) <ℤ code ws w = rises.0 l in absurd (omega (arith, ints)))
    (λ (g : w ≤ℤ value_worth nan). omega (arith, ints)))

alone_beside : (ws : List ℤ) → Each IsNotBelow ws → is_among ws (value_worth nan) ≡ false → (w : ℤ) → code ws w ≡ code ws (value_worth nan) → w ≡ value_worth nan
alone_beside ws least none w e =
    let alone_code : code ws (value_worth nan) ≡ neg_ℤ (pos 1) = ap₂ code_by (no_rank ws least none) (ap is_eq (alike (value_worth nan))) in
    same w (value_worth nan) (is_nan (rank ws w) (is_eq (int_cmp w (value_worth nan))) (e ∙ alone_code))

-- no other number has the code of NaN
pub nan_is_alone : (t : Table) (w : ℤ) → code (worths t) w ≡ code (worths t) (value_worth nan) → w ≡ value_worth nan
nan_is_alone t w e = by_test (is_among (worths t) (value_worth nan)) refl
  where
    by_test : (b : Bool) → is_among (worths t) (value_worth nan) ≡ b → w ≡ value_worth nan
    by_test true found = alone_among (worths t) found w e
    by_test false none = alone_beside (worths t) (none_below t) none w e
