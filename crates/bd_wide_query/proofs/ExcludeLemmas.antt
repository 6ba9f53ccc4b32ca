-- Filters and operators in memory, each in place.
use Rattle.std.proofs.Common.{◌≡◌, ◌<◌, ◌≤◌, ◌+◌, ℕ, suc, List, [], ◌∷◌, map, length, get_or, refl, sym, ap, ap₂, ◌∙◌, arith, rules, true, cond, Some}
use Rattle.std.specs.Prelude.{ℤ}
use Rattle.std.specs.List as lists
use Rattle.bd_value.specs.Tree.{Tree, leaf, int64}
use Rattle.bd_value.specs.View.{tree_of}
use Rattle.bd_value.specs.declared.document.Value.{Value}
use Rattle.bd_value.specs.declared.document.Value.TheVariants as values
use Rattle.bd_value.specs.declared.document.Value.TheFolds as folds
use Rattle.bd_query_filter.specs.Filter.{Filter, Operator, filter, is_in, operator, filters_from, operators_from, operator_tree, trees_in, values_in}
use Rattle.bd_query_filter.specs.declared.filter.Members.{Members}
use Rattle.bd_query_filter.specs.declared.filter.Operator.TheVariants.{In}
use Rattle.bd_query_filter.specs.declared.filter.Filter.TheFolds as operator_folds
use Rattle.bd_query_filter.specs.declared.operand.Relation.{Relation}
use Rattle.bd_wide_query.specs.Nan.{compared_number, comparison_beside_nan, is_beside_nan, unless_decided, filter_beside_nan, filters_beside_nan, operator_beside_nan, operators_beside_nan, related_numbers, relates_beside_nan}

-- ---- values that are numbers

number_tree : (n : ℤ) → tree_of (values.Int64 n) ≡ leaf (int64 n)
number_tree n = search (rules, folds.the_lemmas)

pub numbers_in : (ns : List ℤ) → map tree_of (map (λ n. values.Int64 n) ns) ≡ map (λ n. leaf (int64 n)) ns
numbers_in [] = refl
numbers_in (n ∷ ns) = ap₂ (λ t ts. t ∷ ts) (number_tree n) (numbers_in ns)

in_tree : (m : Members) → operator_tree (In m) ≡ is_in (trees_in m)
in_tree m = search (rules, operator_folds.the_lemmas)

-- `$in` of the related numbers
pub made_in : (m : Members) (vs : List Value) (numbers : List ℤ) (nan : ℤ) (o : Operator) (r : Relation) (n : ℤ)
    → compared_number o ≡ Some (r, n) → is_beside_nan numbers nan r n ≡ true → values_in m ≡ vs
    → vs ≡ map (λ k. values.Int64 k) (lists.filter (λ k. relates_beside_nan nan r k n) numbers) → operator_tree (In m) ≡ comparison_beside_nan numbers nan o
made_in m vs numbers nan o r n compared beside are related =
    in_tree m ∙ ap is_in (ap (map tree_of) (are ∙ related) ∙ numbers_in (lists.filter (λ k. relates_beside_nan nan r k n) numbers))
    ∙ sym (ap (unless_decided numbers nan o) compared ∙ ap (λ b. cond b (is_in (related_numbers numbers nan r n)) o) beside)

-- ---- each element of a list

all_made : {A B : Type 0} (view : A → B) (f : B → B) (xs ys : List A) → length xs ≡ length ys
    → ((k : ℕ) (d : A) → k < length xs → view (get_or xs k d) ≡ f (view (get_or ys k d))) → map view xs ≡ map f (map view ys)
all_made view f [] [] e each = refl
all_made view f [] (y ∷ ys) e each = absurd (omega arith)
all_made view f (x ∷ xs) [] e each = absurd (omega arith)
all_made view f (x ∷ xs) (y ∷ ys) e each = ap₂ (λ b bs. b ∷ bs) (each 0 x (omega arith)) (all_made view f xs ys (omega arith) (λ k d l. each (suc k) d (omega arith)))

each_filter : (numbers : List ℤ) (nan : ℤ) (fs : List Filter) → filters_from (map (filter_beside_nan numbers nan) fs) ≡ filters_beside_nan numbers nan (filters_from fs)
each_filter numbers nan [] = refl
each_filter numbers nan (f ∷ fs) = ap (filter (filter_beside_nan numbers nan f)) (each_filter numbers nan fs)

each_operator : (numbers : List ℤ) (nan : ℤ) (os : List Operator) → operators_from (map (operator_beside_nan numbers nan) os) ≡ operators_beside_nan numbers nan (operators_from os)
each_operator numbers nan [] = refl
each_operator numbers nan (o ∷ os) = ap (operator (operator_beside_nan numbers nan o)) (each_operator numbers nan os)

module _ {A : Type 0} (numbers : List ℤ) (nan : ℤ) (xs ys : List A) (same : length xs ≡ length ys) where
  pub filters_made : (view : A → Filter) → ((k : ℕ) (d : A) → k < length xs → view (get_or xs k d) ≡ filter_beside_nan numbers nan (view (get_or ys k d)))
      → filters_from (map view xs) ≡ filters_beside_nan numbers nan (filters_from (map view ys))
  filters_made view each = ap filters_from (all_made view (filter_beside_nan numbers nan) xs ys same each) ∙ each_filter numbers nan (map view ys)

  pub operators_made : (view : A → Operator) → ((k : ℕ) (d : A) → k < length xs → view (get_or xs k d) ≡ operator_beside_nan numbers nan (view (get_or ys k d)))
      → operators_from (map view xs) ≡ operators_beside_nan numbers nan (operators_from (map view ys))
  operators_made view each = ap operators_from (all_made view (operator_beside_nan numbers nan) xs ys same each) ∙ each_operator numbers nan (map view ys)
