-- A number beside NaN passes a comparison exactly if it is so related to the other number.
use Rattle.std.proofs.Common.{◌≡◌, ◌<◌, ◌≤◌, List, [], ◌∷◌, map, refl, sym, ap, ap₂, ◌∙◌, subst, arith, Bool, true, false, ◌||◌, ◌&&◌, cond}
use Rattle.std.specs.Prelude.{ℤ, ◌<ℤ◌, ◌≤ℤ◌}
use Rattle.std.specs.{Bool.beq, Ordering.int_cmp, Ordering.int_eq, Ordering.is_eq, Ordering.ordering_then}
use Rattle.std.specs.List as lists
use Rattle.std.specs.List.{list_any}
use Rattle.std.specs.declared.cmp.Ordering.{Ordering}
use Rattle.std.specs.declared.cmp.Ordering.TheVariants.{Less, Equal, Greater}
use Rattle.std.proofs.lemmas.Int.{ints, by_lt_z}
use Rattle.bd_value.specs.Order.{cmp, equal}
use Rattle.bd_value.specs.Tree.{Tree, leaf, int64}
use Rattle.bd_query_filter.specs.Filter.{Operator, compares, is_in}
use Rattle.bd_query_filter.specs.FilterMatch.{accepts, is_related, relates}
use Rattle.bd_query_filter.specs.declared.operand.Relation.{Relation}
use Rattle.bd_wide_rank.specs.Rank.{is_among}
use Rattle.bd_wide_rank.proofs.CompareLemmas.{alike, less}
use Rattle.bd_wide_rank.proofs.OrderLemmas.{same}
use Rattle.bd_wide_query.specs.Nan.{is_beside_nan, operator_beside_nan, related_numbers, relates_beside_nan}

-- ---- values that are numbers

then_equal : (o : Ordering) → ordering_then o Equal ≡ o
then_equal Less = refl
then_equal Equal = refl
then_equal Greater = refl

numbers_compare : (m n : ℤ) → cmp (leaf (int64 m)) (leaf (int64 n)) ≡ int_cmp m n
numbers_compare m n = then_equal (int_cmp m n)

related_as : (r : Relation) (m n : ℤ) → is_related r (leaf (int64 n)) (leaf (int64 m)) ≡ relates r (int_cmp m n)
related_as r m n = ap (relates r) (numbers_compare m n)

equals_any : (m : ℤ) (ns : List ℤ) → list_any (equal (leaf (int64 m))) (map (λ n. leaf (int64 n)) ns) ≡ list_any (int_eq m) ns
equals_any m [] = refl
equals_any m (n ∷ ns) = ap₂ ◌||◌ (ap is_eq (numbers_compare m n)) (equals_any m ns)

-- ---- members that pass a test

turned : (m v : ℤ) → int_eq v m ≡ int_eq m v
turned m v = by_test (int_eq v m) (int_eq m v) refl refl
  where
    by_test : (a b : Bool) → int_eq v m ≡ a → int_eq m v ≡ b → a ≡ b
    by_test true true e f = refl
    by_test false false e f = refl
    by_test true false e f = sym (ap is_eq (alike m)) ∙ ap (int_eq m) (sym (same v m e)) ∙ f
    by_test false true e f = sym e ∙ ap (λ x. int_eq v x) (same m v f) ∙ ap is_eq (alike v)

module _ (test : ℤ → Bool) (m : ℤ) where
  passes : (vs : List ℤ) → list_any (int_eq m) (lists.filter test vs) ≡ (is_among vs m && test m)
  passes [] = refl
  passes (v ∷ vs) = by_test (int_eq m v) (test v) refl refl (passes vs)
    where
      and_false : (a : Bool) → (a && false) ≡ false
      and_false true = refl
      and_false false = refl

      by_test : (a b : Bool) → int_eq m v ≡ a → test v ≡ b → list_any (int_eq m) (lists.filter test vs) ≡ (is_among vs m && test m)
          → list_any (int_eq m) (cond (test v) (v ∷ lists.filter test vs) (lists.filter test vs)) ≡ ((int_eq v m || is_among vs m) && test m)
      by_test true true e f rest =
          let here : test m ≡ true = ap test (same m v e) ∙ f in
          ap (λ b. list_any (int_eq m) (cond b (v ∷ lists.filter test vs) (lists.filter test vs))) f ∙ ap (λ b. b || list_any (int_eq m) (lists.filter test vs)) e
          ∙ sym (ap₂ (λ a b. (a || is_among vs m) && b) (turned m v ∙ e) here)
      by_test true false e f rest =
          let here : test m ≡ false = ap test (same m v e) ∙ f in
          ap (λ b. list_any (int_eq m) (cond b (v ∷ lists.filter test vs) (lists.filter test vs))) f ∙ rest
          ∙ ap (λ b. is_among vs m && b) here ∙ and_false (is_among vs m) ∙ sym (and_false (int_eq v m || is_among vs m)) ∙ sym (ap (λ b. (int_eq v m || is_among vs m) && b) here)
      by_test false true e f rest =
          ap (λ b. list_any (int_eq m) (cond b (v ∷ lists.filter test vs) (lists.filter test vs))) f ∙ ap (λ b. b || list_any (int_eq m) (lists.filter test vs)) e
          ∙ rest ∙ sym (ap (λ a. (a || is_among vs m) && test m) (turned m v ∙ e))
      by_test false false e f rest =
          ap (λ b. list_any (int_eq m) (cond b (v ∷ lists.filter test vs) (lists.filter test vs))) f
          ∙ rest ∙ sym (ap (λ a. (a || is_among vs m) && test m) (turned m v ∙ e))

-- ---- beside NaN

and_with : (a b : Bool) → b ≡ true → a ≡ (a && b)
and_with true b e = sym e
and_with false b e = refl

module _ (table : List ℤ) (nan : ℤ) (r : Relation) (m n : ℤ) (found : is_among table m ≡ true) (least : nan ≤ℤ n) where
  by_members : list_any (equal (leaf (int64 m))) (related_numbers table nan r n) ≡ relates_beside_nan nan r m n
  by_members =
      equals_any m (lists.filter (λ k. relates_beside_nan nan r k n) table) ∙ passes (λ k. relates_beside_nan nan r k n) m table
      ∙ ap (λ b. b && relates_beside_nan nan r m n) found

  not_both : (a b c : Bool) → (a || (b && c)) ≡ false → (a ≡ false) × (b ≡ true → c ≡ false)
  not_both true b c e = absurd cc
  not_both false true c e = (refl, λ h. e)
  not_both false false c e = (refl, λ h. absurd cc)

  by_order : is_beside_nan table nan r n ≡ false → relates r (int_cmp m n) ≡ relates_beside_nan nan r m n
  by_order e = by_test (int_eq m nan) refl
    where
      apart : int_eq n nan ≡ false
      apart = (not_both (int_eq n nan) (is_among table nan) (relates r Less) e).0

      above : nan <ℤ n
      above = by_lt_z nan n (λ (l : nan <ℤ n). l)
          (λ (h : n ≤ℤ nan).
          let f : n ≡ nan = omega (arith, ints) in
          absurd (let no : true ≡ false = sym (ap is_eq (alike nan)) ∙ ap (λ x. int_eq x nan) (sym f) ∙ apart in cc))

      by_test : (a : Bool) → int_eq m nan ≡ a → relates r (int_cmp m n) ≡ relates_beside_nan nan r m n
      by_test false f = and_with (relates r (int_cmp m n)) (beq (int_eq m nan) (int_eq n nan)) (ap₂ beq f apart)
      by_test true f =
          let is : m ≡ nan = same m nan f in
          let there : is_among table nan ≡ true = subst (λ x. is_among table x ≡ true) is found in
          let none : relates r Less ≡ false = (not_both (int_eq n nan) (is_among table nan) (relates r Less) e).1 there in
          let not_so : relates r (int_cmp m n) ≡ false = ap (λ x. relates r (int_cmp x n)) is ∙ ap (relates r) (less nan n above) ∙ none in
          not_so ∙ sym (ap (λ b. b && beq (int_eq m nan) (int_eq n nan)) not_so)

  pub number_passes : accepts (operator_beside_nan table nan (compares r (leaf (int64 n)))) (leaf (int64 m)) ≡ relates_beside_nan nan r m n
  number_passes = by_test (is_beside_nan table nan r n) refl
    where
      by_test : (b : Bool) → is_beside_nan table nan r n ≡ b
          → accepts (cond (is_beside_nan table nan r n) (is_in (related_numbers table nan r n)) (compares r (leaf (int64 n)))) (leaf (int64 m)) ≡ relates_beside_nan nan r m n
      by_test true e =
          ap (λ b. accepts (cond b (is_in (related_numbers table nan r n)) (compares r (leaf (int64 n)))) (leaf (int64 m))) e ∙ by_members
      by_test false e =
          ap (λ b. accepts (cond b (is_in (related_numbers table nan r n)) (compares r (leaf (int64 n)))) (leaf (int64 m))) e
          ∙ related_as r m n ∙ by_order e
