-- Bounds of filters, computed: which of some keys are inside.
use Rattle.std.proofs.Common.{◌≡◌, ℕ, pos, Bool, true, false, None, List, [], ◌∷◌, map, refl, codes}
use Rattle.bd_value.specs.Tree.{Tree, leaf, doc, array, int32, null, undefined, fields_of, items_of}
use Rattle.bd_path.specs.{Key.keys, Reach.Names}
use Rattle.bd_query_filter.specs.Filter.{Filter, all_of, some_of, at_path, filters_from, operators_from}
use Rattle.bd_query_filter.specs.Filter.{Operator, equals, differs, compares, is_in, has_all, has_size, exists, has_element, has_document}
use Rattle.bd_query_filter.specs.declared.operand.Relation.TheVariants.{Above, AtLeast, Below}
use Rattle.bd_index_bounds.specs.Bounds.{bounds, is_inside}

abbrev number : ℕ → Tree
number n = leaf (int32 (pos n))

abbrev numbers : List ℕ → Tree
numbers ns = array (items_of (map number ns))

abbrev one_field : List ℕ → Tree → Tree
one_field name t = doc (fields_of ((name, t) ∷ []))

abbrev a : Names
a = codes "a" ∷ []

abbrev on : Names → List Operator → Filter
on path os = all_of (filters_from (at_path path (operators_from os) ∷ []))

abbrev inside : Filter → Names → Bool → List Tree → List Bool
inside f path multikey ks = map (is_inside f path multikey) ks

-- ---- {"a":{"$gte":5}}: three entries of two documents

at_least_5 : inside (on a (compares AtLeast (number 5) ∷ [])) a true (number 4 ∷ number 5 ∷ number 7 ∷ leaf null ∷ numbers (7 ∷ []) ∷ []) ≡ false ∷ true ∷ true ∷ false ∷ false ∷ []
at_least_5 = refl

-- ---- {"a":{"$gt":4,"$lt":6}} over {"a":[1,9]}: by the first alone in a multikey index, by both in another, by both for an element

abbrev between : List Operator
between = compares Above (number 4) ∷ compares Below (number 6) ∷ []

between_multikey : inside (on a between) a true (keys (one_field (codes "a") (numbers (1 ∷ 9 ∷ []))) a) ≡ false ∷ true ∷ []
between_multikey = refl

between_one_key : inside (on a between) a false (number 1 ∷ number 5 ∷ number 9 ∷ []) ≡ false ∷ true ∷ false ∷ []
between_one_key = refl

between_element : inside (on a (has_element (operators_from between) ∷ [])) a true (number 1 ∷ number 5 ∷ number 9 ∷ []) ≡ false ∷ true ∷ false ∷ []
between_element = refl

-- ---- {"a":[1,2]}: the array, and its first element

abbrev pair : Filter
pair = on a (equals (numbers (1 ∷ 2 ∷ [])) ∷ [])

equal_to_array : inside pair a true (numbers (1 ∷ 2 ∷ []) ∷ number 1 ∷ number 2 ∷ numbers (1 ∷ []) ∷ []) ≡ true ∷ true ∷ false ∷ false ∷ []
equal_to_array = refl

equal_to_empty : inside (on a (equals (numbers []) ∷ [])) a true (numbers [] ∷ leaf undefined ∷ leaf null ∷ []) ≡ true ∷ true ∷ false ∷ []
equal_to_empty = refl

-- ---- {"p":{"$elemMatch":{"q.r":{"$exists":false}}}} for an index on p.q.r: the one key null

abbrev missing_below : Filter
missing_below = on (codes "p" ∷ []) (has_document (filters_from (on (codes "q" ∷ codes "r" ∷ []) (exists false ∷ []) ∷ [])) ∷ [])

below : inside missing_below (codes "p" ∷ codes "q" ∷ codes "r" ∷ []) true (leaf null ∷ number 5 ∷ []) ≡ true ∷ false ∷ []
below = refl

-- at the path of `$elemMatch` the bounds are the class of documents; for another path there are none
here : inside missing_below (codes "p" ∷ []) true (one_field (codes "q") (number 1) ∷ leaf null ∷ []) ≡ true ∷ false ∷ []
here = refl

other_path : bounds missing_below (codes "q" ∷ codes "r" ∷ []) true ≡ None
other_path = refl

-- ---- {"a":{"$ne":null}} and {"$or":[{"a":1},{"b":1}]} have none

not_null : bounds (on a (differs (leaf null) ∷ [])) a false ≡ None
not_null = refl

either_path : bounds (some_of (filters_from (on a (equals (number 1) ∷ []) ∷ on (codes "b" ∷ []) (equals (number 1) ∷ []) ∷ []))) a false ≡ None
either_path = refl

-- ---- no key, if there are no members

in_nothing : inside (on a (is_in [] ∷ [])) a true (leaf null ∷ leaf undefined ∷ number 1 ∷ []) ≡ false ∷ false ∷ false ∷ []
in_nothing = refl

all_of_nothing : inside (on a (has_all [] ∷ [])) a false (leaf null ∷ leaf undefined ∷ number 1 ∷ []) ≡ false ∷ false ∷ false ∷ []
all_of_nothing = refl

-- ---- {"a":{"$size":0}}

of_size_0 : inside (on a (has_size 0 ∷ [])) a true (leaf undefined ∷ leaf null ∷ []) ≡ true ∷ false ∷ []
of_size_0 = refl

of_size_1 : bounds (on a (has_size 1 ∷ [])) a true ≡ None
of_size_1 = refl
