-- Filters beside NaN, with codes in place of numbers.
use Rattle.std.proofs.Common.{◌≡◌, ◌<◌, ◌≤◌, ◌⊎◌, ℕ, zero, suc, List, [], ◌∷◌, ◌++◌, map, refl, sym, ap, ap₂, ◌∙◌, subst, arith, Bool, true, false, ◌||◌, ◌&&◌, cond, Option, Some, None, inl, inr, ⊎_elim}
use Rattle.std.specs.Prelude.{ℤ, pos, neg_ℤ, ◌<ℤ◌, ◌≤ℤ◌, ◌==◌, if◌then◌else◌}
use Rattle.std.specs.{Bool.beq, Ordering.int_cmp, Ordering.int_eq, Ordering.is_eq}
use Rattle.std.specs.List as lists
use Rattle.std.specs.List.{AllByRecursion as Each, list_any}
use Rattle.std.specs.declared.cmp.Ordering.TheVariants.{Less}
use Rattle.std.proofs.lemmas.Int.{ints, by_lt_z}
use Rattle.std.proofs.lemmas.Bool.Decides.{nat_tests}
use Rattle.bd_value.specs.Tree.{Tree, leaf, int32, int64, doc, array, code_scope}
use Rattle.bd_query_filter.specs.Filter.{Filter, all_of, some_of, none_of, at_path, Filters, no_filters, filter, Operator}
use Rattle.bd_query_filter.specs.Filter.{equals, differs, compares, is_in, is_not_in, has_all, has_type, has_size, exists, negates, has_element}
use Rattle.bd_query_filter.specs.Filter.{has_document, Operators, no_operators, operator}
use Rattle.bd_query_filter.specs.FilterMatch.{relates}
use Rattle.bd_query_filter.specs.declared.operand.Relation.{Relation}
use Rattle.bd_wide_number.specs.Value.{nan, value_of, infinite_bits}
use Rattle.bd_wide_number.specs.declared.number.Number.TheVariants.{Double}
use Rattle.bd_wide_number.proofs.CodeLemmas.{nan_is}
use Rattle.bd_wide_rank.specs.{Rank.code, Rank.is_among, Worth.value_worth}
use Rattle.bd_wide_rank.proofs.CompareLemmas.{alike, greater, less}
use Rattle.bd_wide_rank.specs.{Rank.rank, Table.worths, Worth.worth_of}
use Rattle.bd_wide_rank.specs.declared.table.Table.{Table}
use Rattle.bd_wide_rank.proofs.NanLemmas.{nan_is_alone}
use Rattle.bd_wide_rank.proofs.OrderLemmas.{codes_rise, member_rank, same}
use Rattle.bd_wide_order.specs.Renumber.{Codes, renumber, renumber_filter, renumber_filters, renumber_operator, renumber_operators}
use Rattle.bd_wide_order.specs.Ranks.{table_codes}
use Rattle.bd_wide_query.specs.Nan.{comparison_beside_nan, filter_beside_nan, filters_beside_nan, is_beside_nan, operator_beside_nan, operators_beside_nan, related_numbers, relates_beside_nan, beside_nan}

module _ (ws : List ℤ) where
  abbrev C : Codes
  C = table_codes ws

  abbrev N : ℤ
  N = value_worth nan

  -- ---- filters with other numbers, if comparisons have the same

  module _ (cs : List ℤ) (decides : (r : Relation) (n : ℤ) → is_beside_nan cs (code ws N) r (code ws n) ≡ is_beside_nan ws N r n)
      (relateds : (r : Relation) (n : ℤ) → is_beside_nan ws N r n ≡ true → related_numbers cs (code ws N) r (code ws n) ≡ map (renumber C) (related_numbers ws N r n)) where
    chosen : (a b : Bool) (xs ys : List Tree) (o : Operator) → a ≡ b → (b ≡ true → xs ≡ map (renumber C) ys)
        → cond a (is_in xs) (renumber_operator C o) ≡ renumber_operator C (cond b (is_in ys) o)
    chosen true true xs ys o e h = ap is_in (h refl)
    chosen false false xs ys o e h = refl
    chosen true false xs ys o e h = absurd cc
    chosen false true xs ys o e h = absurd cc

    comparison_stays : (r : Relation) (v : Tree) → comparison_beside_nan cs (code ws N) (renumber_operator C (compares r v)) ≡ renumber_operator C (comparison_beside_nan ws N (compares r v))
    comparison_stays r (leaf (int32 n)) = chosen _ _ _ _ (compares r (leaf (int32 n))) (decides r n) (relateds r n)
    comparison_stays r (leaf (int64 n)) = chosen _ _ _ _ (compares r (leaf (int64 n))) (decides r n) (relateds r n)
    comparison_stays r (leaf _) = refl
    comparison_stays r (doc fs) = refl
    comparison_stays r (array ts) = refl
    comparison_stays r (code_scope s fs) = refl

    mutual
      pub filter_stays : (f : Filter) → filter_beside_nan cs (code ws N) (renumber_filter C f) ≡ renumber_filter C (filter_beside_nan ws N f)
      filter_stays (all_of fs) = ap all_of (filters_stay fs)
      filter_stays (some_of fs) = ap some_of (filters_stay fs)
      filter_stays (none_of fs) = ap none_of (filters_stay fs)
      filter_stays (at_path path os) = ap (at_path path) (operators_stay os)

      filters_stay : (fs : Filters) → filters_beside_nan cs (code ws N) (renumber_filters C fs) ≡ renumber_filters C (filters_beside_nan ws N fs)
      filters_stay no_filters = refl
      filters_stay (filter f fs) = ap₂ filter (filter_stays f) (filters_stay fs)

      operator_stays : (o : Operator) → operator_beside_nan cs (code ws N) (renumber_operator C o) ≡ renumber_operator C (operator_beside_nan ws N o)
      operator_stays (equals v) = refl
      operator_stays (differs v) = refl
      operator_stays (compares r v) = comparison_stays r v
      operator_stays (is_in vs) = refl
      operator_stays (is_not_in vs) = refl
      operator_stays (has_all vs) = refl
      operator_stays (has_type ks) = refl
      operator_stays (has_size n) = refl
      operator_stays (exists b) = refl
      operator_stays (negates os) = ap negates (operators_stay os)
      operator_stays (has_element os) = ap has_element (operators_stay os)
      operator_stays (has_document fs) = ap has_document (filters_stay fs)

      operators_stay : (os : Operators) → operators_beside_nan cs (code ws N) (renumber_operators C os) ≡ renumber_operators C (operators_beside_nan ws N os)
      operators_stay no_operators = refl
      operators_stay (operator o os) = ap₂ operator (operator_stays o) (operators_stay os)

  -- ---- numbers that are among others

  among_more : (v m : ℤ) (vs : List ℤ) → is_among vs m ≡ true → is_among (v ∷ vs) m ≡ true
  among_more v m vs found = or_right (int_eq v m) found
    where
      or_right : (a : Bool) {b : Bool} → b ≡ true → (a || b) ≡ true
      or_right true e = refl
      or_right false e = e

  -- each of the numbers is among them
  members : (vs : List ℤ) → Each (λ m. is_among vs m ≡ true) vs
  members [] = tt
  members (v ∷ vs) = (ap (λ b. b || is_among vs v) (ap is_eq (alike v)), more v vs vs (members vs))
    where
      more : (v : ℤ) (vs us : List ℤ) → Each (λ m. is_among vs m ≡ true) us → Each (λ m. is_among (v ∷ vs) m ≡ true) us
      more v vs [] e = tt
      more v vs (u ∷ us) e = (among_more v u vs e.0, more v vs us e.1)

  -- ---- codes

  module _ (alone : (w : ℤ) → code ws w ≡ code ws N → w ≡ N) where
    eq_stays : (w : ℤ) → int_eq (code ws w) (code ws N) ≡ int_eq w N
    eq_stays w = by_test (int_eq w N) (int_eq (code ws w) (code ws N)) refl refl
      where
        by_test : (a b : Bool) → int_eq w N ≡ a → int_eq (code ws w) (code ws N) ≡ b → b ≡ a
        by_test true true e f = refl
        by_test false false e f = refl
        by_test true false e f = sym f ∙ ap (λ x. int_eq (code ws x) (code ws N)) (same w N e) ∙ ap is_eq (alike (code ws N))
        by_test false true e f = absurd (let no : true ≡ false = sym (ap is_eq (alike N)) ∙ ap (λ x. int_eq x N) (sym (alone w (same _ _ f))) ∙ e in cc)

    cmp_stays : (m n : ℤ) → is_among ws m ≡ true → int_cmp (code ws m) (code ws n) ≡ int_cmp m n
    cmp_stays m n found =
        let rises = codes_rise ws m n found in
        by_lt_z m n
        (λ (l : m <ℤ n). less _ _ (rises.0 l) ∙ sym (less m n l))
        (λ (h : n ≤ℤ m). by_lt_z n m
        (λ (l : n <ℤ m). greater _ _ (rises.1 l) ∙ sym (greater m n l))
        (λ (g : m ≤ℤ n). let e : m ≡ n = omega (arith, ints) in
        subst (λ x. int_cmp (code ws m) (code ws x) ≡ int_cmp m x) e (alike (code ws m) ∙ sym (alike m))))

    relates_stays : (r : Relation) (m n : ℤ) → is_among ws m ≡ true → relates_beside_nan (code ws N) r (code ws m) (code ws n) ≡ relates_beside_nan N r m n
    relates_stays r m n found = ap₂ ◌&&◌ (ap (relates r) (cmp_stays m n found)) (ap₂ beq (eq_stays m) (eq_stays n))

    related_stay : (r : Relation) (n : ℤ) (vs : List ℤ) → Each (λ m. is_among ws m ≡ true) vs
        → related_numbers (map (code ws) vs) (code ws N) r (code ws n) ≡ map (renumber C) (related_numbers vs N r n)
    related_stay r n [] are = refl
    related_stay r n (v ∷ vs) are = by_test _ _ (relates_stays r v n are.0) (related_stay r n vs are.1)
      where
        by_test : (a b : Bool) → a ≡ b → related_numbers (map (code ws) vs) (code ws N) r (code ws n) ≡ map (renumber C) (related_numbers vs N r n)
            → map (λ m. leaf (int64 m)) (cond a (code ws v ∷ lists.filter (λ m. relates_beside_nan (code ws N) r m (code ws n)) (map (code ws) vs))
            (lists.filter (λ m. relates_beside_nan (code ws N) r m (code ws n)) (map (code ws) vs)))
            ≡ map (renumber C) (map (λ m. leaf (int64 m)) (cond b (v ∷ lists.filter (λ m. relates_beside_nan N r m n) vs) (lists.filter (λ m. relates_beside_nan N r m n) vs)))
        by_test true true e h = ap (λ ts. leaf (int64 (code ws v)) ∷ ts) h
        by_test false false e h = h
        by_test true false e h = absurd cc
        by_test false true e h = absurd cc

    among_stays : (vs : List ℤ) → is_among (map (code ws) vs) (code ws N) ≡ is_among vs N
    among_stays [] = refl
    among_stays (v ∷ vs) = ap₂ ◌||◌ (eq_stays v) (among_stays vs)

    -- a filter with the codes of all numbers
    pub all_coded : (f : Filter) → filter_beside_nan (map (code ws) ws) (code ws N) (renumber_filter C f) ≡ renumber_filter C (filter_beside_nan ws N f)
    all_coded = filter_stays (map (code ws) ws)
        (λ r n. ap₂ ◌||◌ (eq_stays n) (ap (λ b. b && relates r Less) (among_stays ws)))
        (λ r n beside. related_stay r n ws (members ws))

    -- ---- without NaN

    none_related : (r : Relation) (vs : List ℤ) → is_among vs N ≡ false → related_numbers vs N r N ≡ []
    none_related r [] none = refl
    none_related r (v ∷ vs) none = by_test (int_eq v N) (is_among vs N) refl refl none (λ f. none_related r vs f)
      where
        and_false : (a : Bool) → (a && false) ≡ false
        and_false true = refl
        and_false false = refl

        by_test : (a b : Bool) → int_eq v N ≡ a → is_among vs N ≡ b → (a || b) ≡ false → (is_among vs N ≡ false → related_numbers vs N r N ≡ []) → related_numbers (v ∷ vs) N r N ≡ []
        by_test true b e f h rest = absurd cc
        by_test false true e f h rest = absurd cc
        by_test false false e f h rest =
            let not_so : relates_beside_nan N r v N ≡ false = ap (λ b. relates r (int_cmp v N) && b) (ap₂ beq e (ap is_eq (alike N))) ∙ and_false (relates r (int_cmp v N)) in
            ap (λ b. map (λ m. leaf (int64 m)) (cond b (v ∷ lists.filter (λ m. relates_beside_nan N r m N) vs) (lists.filter (λ m. relates_beside_nan N r m N) vs))) not_so
            ∙ rest f

    -- a filter with no codes, if NaN is not among the numbers
    pub none_coded : is_among ws N ≡ false → (f : Filter) → filter_beside_nan [] (code ws N) (renumber_filter C f) ≡ renumber_filter C (filter_beside_nan ws N f)
    none_coded none = filter_stays []
        (λ r n. ap₂ ◌||◌ (eq_stays n) (ap (λ b. b && relates r Less) (sym none)))
        (λ r n beside. sym (ap (map (renumber C)) (none_so r n beside)))
      where
        is_nan : (a b : Bool) → b ≡ false → (r : Bool) → (a || (b && r)) ≡ true → a ≡ true
        is_nan true b e r h = refl
        is_nan false true e r h = absurd cc
        is_nan false false e r h = absurd cc

        none_so : (r : Relation) (n : ℤ) → is_beside_nan ws N r n ≡ true → related_numbers ws N r n ≡ []
        none_so r n beside =
            let e : n ≡ N = same n N (is_nan (int_eq n N) (is_among ws N) none (relates r Less) beside) in
            ap (related_numbers ws N r) e ∙ none_related r ws none

-- ---- in memory

-- the worth of the NaN that is looked up
pub nan_looked_up : worth_of (Double 0x7FF8000000000000) ≡ value_worth nan
unfolding value_of
nan_looked_up = ap value_worth (nan_is 0x7FF8000000000000 (omega arith))

-- the code of a number by its rank, and whether it is NaN
abbrev code_by : ℕ → Bool → ℤ
code_by r none = if (r == 0) && none then neg_ℤ (pos 1) else pos r

some_rank : (r : ℕ) (none : Bool) → 0 < r → code_by r none ≡ pos r
some_rank r none some = let e : (r == 0) ≡ false = grind (arith, nat_tests) in rw e refl

-- a number without a code above 0 is not among the numbers
pub not_found : (ws : List ℤ) (m : ℤ) → code ws m ≤ℤ pos 0 → is_among ws m ≡ false
not_found ws m low = by_test (is_among ws m) refl
  where
    by_test : (b : Bool) → is_among ws m ≡ b → b ≡ false
    by_test false e = refl
    by_test true e =
        let some : 0 < rank ws m = member_rank ws m e in
        let is : code ws m ≡ pos (rank ws m) = some_rank (rank ws m) (is_eq (int_cmp m (value_worth nan))) some in
        absurd (omega (arith, ints))

pub excluded : (t : Table) (codes : List ℤ) (special : ℤ) → special ≡ code (worths t) (value_worth nan)
    → (codes ≡ map (code (worths t)) (worths t)) ⊎ ((codes ≡ []) × (is_among (worths t) (value_worth nan) ≡ false))
    → (f g h : Filter) → h ≡ filter_beside_nan codes special g → g ≡ renumber_filter (table_codes (worths t)) f → h ≡ renumber_filter (table_codes (worths t)) (beside_nan (worths t) f)
excluded t codes special is are f g h made coded =
    made ∙ ap (filter_beside_nan codes special) coded ∙ ap (λ x. filter_beside_nan codes x (renumber_filter (table_codes (worths t)) f)) is ∙ ⊎_elim with_all with_none are
  where
    with_all : codes ≡ map (code (worths t)) (worths t)
        → filter_beside_nan codes (code (worths t) (value_worth nan)) (renumber_filter (table_codes (worths t)) f) ≡ renumber_filter (table_codes (worths t)) (beside_nan (worths t) f)
    with_all e = ap (λ cs. filter_beside_nan cs (code (worths t) (value_worth nan)) (renumber_filter (table_codes (worths t)) f)) e ∙ all_coded (worths t) (nan_is_alone t) f

    with_none : (codes ≡ []) × (is_among (worths t) (value_worth nan) ≡ false)
        → filter_beside_nan codes (code (worths t) (value_worth nan)) (renumber_filter (table_codes (worths t)) f) ≡ renumber_filter (table_codes (worths t)) (beside_nan (worths t) f)
    with_none e = ap (λ cs. filter_beside_nan cs (code (worths t) (value_worth nan)) (renumber_filter (table_codes (worths t)) f)) e.0 ∙ none_coded (worths t) (nan_is_alone t) e.1 f
