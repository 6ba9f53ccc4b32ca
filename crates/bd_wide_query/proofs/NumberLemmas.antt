-- The number with a tag, and what becomes of numbers.
use Rattle.std.proofs.Common.{◌≡◌, ℕ, zero, suc, ◌+◌, ◌*◌, ◌/◌, ◌%◌, ◌<◌, ◌^◌, ℤ, pos, negsuc, List, [], ◌∷◌, Bool, true, false, cond, Option, Some, None, IfOk, IfSome, IfNone, MatchOption, Result, Ok, Err, drop, refl, sym, ap, ap₂, subst, ◌∙◌, arith, FitsSigned}
use Rattle.std.specs.{Int.w64, Ordering.int_eq}
use Rattle.std.proofs.lemmas.{Int.ints}
use Rattle.bd_wide_query.specs.Types.{class_instead, has_longs, type_alone}
use Rattle.bd_value.specs.Tree.{Scalar, int32, int64, text, Tree, leaf, doc, array, code_scope, leaf_of, scalar_leaf}
use Rattle.bd_value.specs.Fits.{Fits}
use Rattle.bd_value.specs.View.{kind_of, tree_of}
use Rattle.bd_value.specs.declared.document.Value.{Value}
use Rattle.bd_bson_view.specs.Spelling.{is_holder}
use Rattle.bd_wide_number.specs.declared.number.Number.{Number}
use Rattle.bd_wide_number.specs.declared.number.Number.TheVariants.{Whole, Double, Decimal128}
use Rattle.bd_wide_rank.specs.{Rank.code, Worth.worth_of}
use Rattle.bd_wide_order.specs.Renumber.{renumber, renumber_scalar}
use Rattle.bd_wide_query.specs.Tagged.{count, is_number, tag, tagged, tagged_number, next_number, number_of_parts}
use Rattle.bd_wide_copy.specs.declared.longs.Longs.{Longs}
use Rattle.bd_wide_query.specs.declared.role.{Role.Role}
use Rattle.bd_wide_query.specs.declared.role.Role.TheVariants as roles
use Rattle.bd_wide_query.specs.inside.Coding.{codes_of_tags, GivesValue}
use Rattle.bd_wide_query.specs.inside.Role.{at_role, is_compared, is_types, kept_at}
use Rattle.bd_wide_query.proofs.RoleLemmas.{at_leaf}

pub whole_tagged : (z : ℤ) → FitsSigned w64 z → tagged_number z ≡ Whole z
whole_tagged (negsuc n) fits = refl
whole_tagged (pos n) fits =
    let small : n < 2 ^ 63 = omega (arith, fits) in
    let high : n / 2 ^ 64 ≡ 0 = omega arith in
    let low : n % 2 ^ 64 ≡ n = omega arith in
    ap₂ number_of_parts high low

pub double_tagged : (bits : ℕ) → bits < 2 ^ 64 → tagged_number (tag (Double bits)) ≡ Double bits
double_tagged bits fits =
    let high : (2 ^ 64 + bits) / 2 ^ 64 ≡ 1 = omega arith in
    let low : (2 ^ 64 + bits) % 2 ^ 64 ≡ bits = omega arith in
    ap₂ number_of_parts high low

pub decimal_tagged : (low high : ℕ) → low < 2 ^ 64 → tagged_number (tag (Decimal128 low high)) ≡ Decimal128 low high
decimal_tagged low high fits =
    let above : (2 ^ 64 * (2 + high) + low) / 2 ^ 64 ≡ suc (suc high) = omega arith in
    let below : (2 ^ 64 * (2 + high) + low) % 2 ^ 64 ≡ low = omega arith in
    ap₂ number_of_parts above below

pub not_int64 : (n : ℕ) → FitsSigned w64 (pos (2 ^ 64 + n)) → ⊥
not_int64 n fits = omega (arith, fits)

-- ---- scalars

test_fails : (s : Scalar) (t : Tree) → ((leaf s ≡ leaf (int32 (pos 0))) × (t ≡ leaf (text [])) → ⊥) → is_number s t ≡ false
test_fails (int32 (pos zero)) (leaf (text [])) never = absurd (never (refl, refl))
test_fails (int32 (pos zero)) (leaf (text (b ∷ bs))) never = refl
test_fails (int32 (pos zero)) (leaf _) never = refl
test_fails (int32 (pos zero)) _ never = refl
test_fails (int32 (pos (suc n))) t never = refl
test_fails (int32 (negsuc n)) t never = refl
test_fails _ t never = refl

none_here : (ns : List Number) (w t : Tree) → is_holder (kind_of w) ≡ false → ((w ≡ leaf (int32 (pos 0))) × (t ≡ leaf (text [])) → ⊥)
    → (tagged ns w t ≡ w) × (count w t ≡ 0)
none_here ns (leaf s) t plain never = rw (test_fails s t never) (refl, refl)
none_here ns (doc fs) t plain never = absurd cc
none_here ns (array ts) t plain never = absurd cc
none_here ns (code_scope s fs) t plain never = absurd cc

module _ (table : List ℤ) (longs : Longs) (p : Role) (ns : List Number) (w t : Tree) where
  -- a number: its tag has the value
  pub number_given : (n : Number) (after : List Number) (o : Option Value) → w ≡ leaf (int32 (pos 0)) → t ≡ leaf (text []) → n ≡ next_number ns → after ≡ drop 1 ns
      → MatchOption o (Fits (at_role longs (codes_of_tags table) p (leaf (int64 (tag n)))) → ⊥)
      (λ v. tree_of v ≡ at_role longs (codes_of_tags table) p (leaf (int64 (tag n))))
      → GivesValue table longs p ns w t after o
  number_given n after o e f next rest given =
      let here : at_role longs (codes_of_tags table) p (tagged ns w t) ≡ at_role longs (codes_of_tags table) p (leaf (int64 (tag n))) =
      ap (at_role longs (codes_of_tags table) p) (ap₂ (tagged ns) e f ∙ ap (λ (x : Number). leaf (int64 (tag x))) (sym next)) in
      let one : count w t ≡ 1 = ap₂ count e f in
      chosen o here one given
    where
      chosen : (o : Option Value) → at_role longs (codes_of_tags table) p (tagged ns w t) ≡ at_role longs (codes_of_tags table) p (leaf (int64 (tag n))) → count w t ≡ 1
          → MatchOption o (Fits (at_role longs (codes_of_tags table) p (leaf (int64 (tag n)))) → ⊥)
          (λ v. tree_of v ≡ at_role longs (codes_of_tags table) p (leaf (int64 (tag n))))
          → GivesValue table longs p ns w t after o
      chosen None here one given = λ fits. given (subst Fits here fits)
      chosen (Some v) here one given = (given ∙ sym here, rest ∙ ap (λ (k : ℕ). drop k ns) (sym one))

  pub numbers_given : {E : Type 0} (n : Number) (after : List Number) (r : Result (Option Value) E) → w ≡ leaf (int32 (pos 0)) → t ≡ leaf (text []) → n ≡ next_number ns → after ≡ drop 1 ns
      → IfOk r (λ o. MatchOption o (Fits (at_role longs (codes_of_tags table) p (leaf (int64 (tag n)))) → ⊥)
      (λ v. tree_of v ≡ at_role longs (codes_of_tags table) p (leaf (int64 (tag n)))))
      → IfOk r (GivesValue table longs p ns w t after)
  numbers_given n after (Ok o) e f next rest given = number_given n after o e f next rest given
  numbers_given n after (Err x) e f next rest given = given

  -- any other scalar has no tag
  pub scalar_given : (u v : Tree) → is_holder (kind_of w) ≡ false → ((w ≡ leaf (int32 (pos 0))) × (t ≡ leaf (text [])) → ⊥)
      → at_role longs (codes_of_tags table) p w ≡ u → v ≡ u
      → (v ≡ at_role longs (codes_of_tags table) p (tagged ns w t)) × (ns ≡ drop (count w t) ns)
  scalar_given u v plain never is same =
      let n = none_here ns w t plain never in
      (same ∙ sym is ∙ ap (at_role longs (codes_of_tags table) p) (sym n.0), ap (λ (k : ℕ). drop k ns) (sym n.1))

-- ---- whether a number is compared with

module _ (table : List ℤ) (longs : Longs) (p : Role) where
  pub compared_at : (w : Tree) → is_holder (kind_of w) ≡ false → is_compared p ≡ true → at_role longs (codes_of_tags table) p w ≡ renumber (codes_of_tags table) w
  compared_at (leaf s) plain e =
      at_leaf longs (codes_of_tags table []) p s ∙ ap (λ (b : Bool). cond b (leaf (renumber_scalar (codes_of_tags table []) s)) (kept_at longs p (leaf s))) e
  compared_at (doc fs) plain e = absurd cc
  compared_at (array ts) plain e = absurd cc
  compared_at (code_scope s fs) plain e = absurd cc

  pub other_at : (w : Tree) → is_holder (kind_of w) ≡ false → is_compared p ≡ false → at_role longs (codes_of_tags table) p w ≡ kept_at longs p w
  other_at (leaf s) plain e =
      at_leaf longs (codes_of_tags table []) p s ∙ ap (λ (b : Bool). cond b (leaf (renumber_scalar (codes_of_tags table []) s)) (kept_at longs p (leaf s))) e
  other_at (doc fs) plain e = absurd cc
  other_at (array ts) plain e = absurd cc
  other_at (code_scope s fs) plain e = absurd cc

-- no type of numbers has a number beyond those of BSON
beyond_types : (n : ℕ) → type_alone (leaf (int64 (pos (2 ^ 64 + n)))) ≡ None
beyond_types n =
    let is_no : (m : ℕ) → m < 2 ^ 64 → int_eq (pos (2 ^ 64 + n)) (pos m) ≡ false = λ m small. grind (arith, ints) in
    rw (is_no 1 (omega arith), is_no 16 (omega arith), is_no 18 (omega arith), is_no 19 (omega arith)) refl

kept_beyond : (longs : Longs) (p : Role) (n : ℕ) → kept_at longs p (leaf (int64 (pos (2 ^ 64 + n)))) ≡ leaf (int64 (pos (2 ^ 64 + n)))
kept_beyond longs p n = go (is_types p) (has_longs longs)
  where
    t : Tree
    t = leaf (int64 (pos (2 ^ 64 + n)))

    go : (a b : Bool) → cond a (cond b (class_instead longs t (type_alone t)) t) t ≡ t
    go true true = ap (class_instead longs t) (beyond_types n)
    go true false = refl
    go false b = refl

-- a double or a decimal128 that is not compared with is no value
pub unfit_at : (table : List ℤ) (longs : Longs) (p : Role) (n : Number) → is_compared p ≡ false → ((z : ℤ) → n ≡ Whole z → ⊥)
    → Fits (at_role longs (codes_of_tags table) p (leaf (int64 (tag n)))) → ⊥
unfit_at table longs p (Whole z) other never fits = absurd (never z refl)
unfit_at table longs p (Double bits) other never fits =
    not_int64 bits (subst Fits (other_at table longs p (leaf (int64 (tag (Double bits)))) refl other ∙ kept_beyond longs p bits) fits)
unfit_at table longs p (Decimal128 low high) other never fits =
    let more : 2 ^ 64 * (2 + high) + low ≡ 2 ^ 64 + (2 ^ 64 * (1 + high) + low) = omega arith in
    not_int64 (2 ^ 64 * (1 + high) + low) (subst Fits (other_at table longs p (leaf (int64 (tag (Decimal128 low high)))) refl other
    ∙ ap (λ (m : ℕ). kept_at longs p (leaf (int64 (pos m)))) more ∙ kept_beyond longs p (2 ^ 64 * (1 + high) + low)) fits)

leaf_is : (t : Tree) (s : Scalar) → Some (scalar_leaf s) ≡ leaf_of t → t ≡ leaf s
leaf_is (leaf r) s e = let same : s ≡ r = cc in ap leaf (sym same)
leaf_is (doc fs) s e = absurd cc
leaf_is (array ts) s e = absurd cc
leaf_is (code_scope c fs) s e = absurd cc

pub int32_coded : (t : Tree) (z : ℤ) → Some (scalar_leaf (int32 z)) ≡ leaf_of t → FitsSigned w64 z → (table : List ℤ)
    → renumber (codes_of_tags table) t ≡ leaf (int64 (code table (worth_of (Whole z))))
int32_coded t z e fits table =
    ap (renumber (codes_of_tags table)) (leaf_is t (int32 z) e) ∙ ap (λ (n : Number). leaf (int64 (code table (worth_of n)))) (whole_tagged z fits)

pub int64_coded : (t : Tree) (z : ℤ) → Some (scalar_leaf (int64 z)) ≡ leaf_of t → FitsSigned w64 z → (table : List ℤ)
    → renumber (codes_of_tags table) t ≡ leaf (int64 (code table (worth_of (Whole z))))
int64_coded t z e fits table =
    ap (renumber (codes_of_tags table)) (leaf_is t (int64 z) e) ∙ ap (λ (n : Number). leaf (int64 (code table (worth_of n)))) (whole_tagged z fits)

kept_alone : (longs : Longs) (p : Role) (w : Tree) → is_compared p ≡ true → kept_at longs p w ≡ w
kept_alone longs roles.Value w e = refl
kept_alone longs roles.Compared w e = refl
kept_alone longs _ w e = absurd cc

-- the number of a value, if it is one, where it is compared with
module _ (p : Role) (w : Tree) (plain : is_holder (kind_of w) ≡ false) (compared : is_compared p ≡ true) where
  pub some_at : (o : Option Number) → IfSome o (λ n. (table : List ℤ) → renumber (codes_of_tags table) w ≡ leaf (int64 (code table (worth_of n))))
      → IfSome o (λ n. (table : List ℤ) (longs : Longs) → at_role longs (codes_of_tags table) p w ≡ leaf (int64 (code table (worth_of n))))
  some_at None given = given
  some_at (Some n) given = λ table longs. compared_at table longs p w plain compared ∙ given table

  pub none_at : (o : Option Number) → IfNone o ((table : List ℤ) → renumber (codes_of_tags table) w ≡ w) → IfNone o ((table : List ℤ) (longs : Longs) → at_role longs (codes_of_tags table) p w ≡ kept_at longs p w)
  none_at None given = λ table longs. compared_at table longs p w plain compared ∙ given table ∙ sym (kept_alone longs p w compared)
  none_at (Some n) given = given
