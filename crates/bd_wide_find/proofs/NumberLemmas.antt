-- Documents whose numbers are all in a table.
use Rattle.std.proofs.Common.{◌≡◌, List, [], ◌∷◌, ◌++◌, refl, ap, ◌∙◌, Bool, true, false, ◌||◌}
use Rattle.std.specs.Prelude.{ℤ}
use Rattle.std.specs.{List.AllByRecursion as Each}
use Rattle.std.specs.Ordering.{int_cmp, is_eq}
use Rattle.std.proofs.lemmas.{List.Folds.list_any-append, List.Elements.All-from_recursion}
use Rattle.bd_value.specs.Tree.{Tree, leaf, int32, int64, doc, array, code_scope, Items, no_items, item, Fields, no_fields, field, Doc, fields_of}
use Rattle.bd_wide_rank.specs.Rank.{HaveSame, is_among}
use Rattle.bd_wide_rank.proofs.CompareLemmas.{alike}
use Rattle.bd_wide_copy.specs.Numbers.{numbers_of, item_numbers, field_numbers, document_numbers}
use Rattle.bd_wide_order.specs.Renumber.{DocumentsAreOf, IsOf, ItemsAreOf, FieldsAreOf}
use Rattle.bd_wide_order.specs.Ranks.{table_codes}

or_left : (a b : Bool) → a ≡ true → (a || b) ≡ true
or_left true b e = refl
or_left false b e = absurd cc

or_right : (a b : Bool) → b ≡ true → (a || b) ≡ true
or_right true b e = refl
or_right false b e = e

module _ (table : List ℤ) where
  -- all of these numbers are in the table
  abbrev AreIn : List ℤ → Type 0
  AreIn numbers = (n : ℤ) → is_among numbers n ≡ true → is_among table n ≡ true

  first_in : (ms ns : List ℤ) → AreIn (ms ++ ns) → AreIn ms
  first_in ms ns are = λ n e. are n (list_any-append (λ m. is_eq (int_cmp m n)) ms ns ∙ or_left (is_among ms n) (is_among ns n) e)

  rest_in : (ms ns : List ℤ) → AreIn (ms ++ ns) → AreIn ns
  rest_in ms ns are = λ n e. are n (list_any-append (λ m. is_eq (int_cmp m n)) ms ns ∙ or_right (is_among ms n) (is_among ns n) e)

  number_in : (n : ℤ) → AreIn (n ∷ []) → is_among table n ≡ true
  number_in n are = are n (ap (λ o. is_eq o || false) (alike n))

  mutual
    value_is_of : (t : Tree) → AreIn (numbers_of t) → IsOf (table_codes table) t
    value_is_of (leaf (int32 n)) are = number_in n are
    value_is_of (leaf (int64 n)) are = number_in n are
    value_is_of (leaf _) are = tt
    value_is_of (doc fs) are = fields_are_of fs are
    value_is_of (array ts) are = items_are_of ts are
    value_is_of (code_scope s fs) are = fields_are_of fs are

    items_are_of : (ts : Items) → AreIn (item_numbers ts) → ItemsAreOf (table_codes table) ts
    items_are_of no_items are = tt
    items_are_of (item t ts) are =
        (value_is_of t (first_in (numbers_of t) (item_numbers ts) are), items_are_of ts (rest_in (numbers_of t) (item_numbers ts) are))

    fields_are_of : (fs : Fields) → AreIn (field_numbers fs) → FieldsAreOf (table_codes table) fs
    fields_are_of no_fields are = tt
    fields_are_of (field n t fs) are =
        (value_is_of t (first_in (numbers_of t) (field_numbers fs) are), fields_are_of fs (rest_in (numbers_of t) (field_numbers fs) are))

  each_is_of : (ds : List Doc) → AreIn (document_numbers ds) → Each (λ d. IsOf (table_codes table) (doc (fields_of d))) ds
  each_is_of [] are = tt
  each_is_of (d ∷ ds) are = (
    fields_are_of (fields_of d) (first_in (field_numbers (fields_of d)) (document_numbers ds) are),
    each_is_of ds (rest_in (field_numbers (fields_of d)) (document_numbers ds) are),
  )

-- the numbers of documents are in a table of their numbers
pub numbers_are_of : (table : List ℤ) (ds : List Doc) → HaveSame table (document_numbers ds) → DocumentsAreOf (table_codes table) ds
numbers_are_of table ds same = All-from_recursion (λ d. IsOf (table_codes table) (doc (fields_of d))) ds (each_is_of table ds (λ n e. same n ∙ e))
