-- The bounds that a filter gives to an index on a path: a set of keys. Each document that matches has a key in it.
-- `bd_path` says in `Key` which keys a document has. (MongoDB manual, "Multikey Indexes", "Multikey Index Bounds".)
use Rattle.std.specs.Prelude.{◌==◌, Bool, true, false, ◌&&◌, ◌||◌, List, [], ◌∷◌, get_or, map, Option, Some, None}
use Rattle.std.specs.Prelude.{if◌then◌else◌}
use Rattle.std.specs.{List.list_any, List.list_all, Str.bytes_eq}
use Rattle.bd_value.specs.Order.{class_of, class_of_kind, class_rank, equal}
use Rattle.bd_value.specs.{Tree.Tree, Tree.elements_in, Tree.leaf, declared.node.Class.Class, declared.node.Kind.Kind}
use Rattle.bd_value.specs.Tree as trees
use Rattle.bd_value.specs.declared.node.Kind.TheVariants as kinds
use Rattle.bd_value.specs.declared.node.Class.TheVariants as classes
use Rattle.bd_path.specs.Reach.{Names}
use Rattle.bd_query_filter.specs.Filter.{Filter, all_of, some_of, none_of, at_path, Filters, no_filters, filter, Operator}
use Rattle.bd_query_filter.specs.Filter.{equals, differs, compares, is_in, is_not_in, has_all, has_type, has_size, exists, negates, has_element}
use Rattle.bd_query_filter.specs.Filter.{has_document, Operators, no_operators, operator}
use Rattle.bd_query_filter.specs.{FilterMatch.is_array, FilterMatch.is_related, NameKind.is_kind}

-- ---- sets of keys

-- a set of index keys: for each key whether it is inside; equal keys are both inside or both outside
abbrev pub KeySet : Type 0
KeySet = Tree → Bool

-- the bounds of an index: a set of keys; None is unbounded: each key may be that of a match
abbrev pub KeyBounds : Type 0
KeyBounds = Option KeySet

-- the empty set: no key is inside, so no document can match
abbrev pub no_key : KeySet
no_key k = false

-- the keys that compare as equal to a value
abbrev pub keys_equal_to : Tree → KeySet
keys_equal_to v k = equal k v

-- the keys of one class of the comparison order, such as all numbers
abbrev pub is_of_class : Class → KeySet
is_of_class class k = class_rank (class_of k) == class_rank class

-- the keys in at least one of the sets; no key if there are no sets
abbrev pub union : List KeySet → KeySet
union sets k = list_any (λ set. set k) sets

-- the keys in each of the sets; every key if there are no sets
abbrev pub intersection : List KeySet → KeySet
intersection sets k = list_all (λ set. set k) sets

-- `$type`: the keys in the classes of these types
abbrev pub keys_of_types : List Kind → KeySet
keys_of_types types = union (map (λ kind. is_of_class (class_of_kind kind)) types)

-- `$eq`: the keys equal to the value, and for an array also those equal to its first element,
-- or to undefined if it is empty
abbrev pub keys_of_equal : Tree → KeySet
keys_of_equal v k = equal k v || (is_array v && equal k (get_or (elements_in v) 0 (leaf trees.undefined)))

-- `$all`: in a multikey index the keys of its first member,
-- otherwise the keys that all its members have; no key if there are no members
abbrev pub keys_of_each : Bool → List KeySet → KeySet
keys_of_each multikey [] = no_key
keys_of_each true (set ∷ sets) = set
keys_of_each false (set ∷ sets) = intersection (set ∷ sets)

-- the intersection of two bounds; in a multikey index the first bounds alone,
-- since another key of the same document may be within the second
abbrev pub conjunction : Bool → KeyBounds → KeyBounds → KeyBounds
conjunction multikey None second = second
conjunction multikey (Some first) None = Some first
conjunction true (Some first) (Some second) = Some first
conjunction false (Some first) (Some second) = Some (λ k. first k && second k)

-- `$or` of two: the keys inside either; unbounded if one of them is
abbrev pub disjunction : KeyBounds → KeyBounds → KeyBounds
disjunction None second = None
disjunction (Some first) None = None
disjunction (Some first) (Some second) = Some (λ k. first k || second k)

-- the bounds that an operator of `$elemMatch` gives for one element, which is itself the key, in any index
abbrev pub element_bounds : Operator → KeyBounds
element_bounds (equals v) = Some (keys_equal_to v)
element_bounds (compares r v) = Some (is_related r v)
element_bounds (is_in vs) = Some (union (map keys_equal_to vs))
element_bounds (has_all vs) = Some (keys_of_each false (map keys_equal_to vs))
element_bounds (has_type types) = Some (keys_of_types types)
element_bounds _ = None

-- the operators of `$elemMatch`: the intersection of those that bound a key; unbounded if none does
abbrev pub all_element_bounds : Operators → KeyBounds
all_element_bounds no_operators = None
all_element_bounds (operator o os) = conjunction false (element_bounds o) (all_element_bounds os)

-- whether a kind is among the types of `$type`
abbrev pub is_listed : Kind → List Kind → Bool
is_listed kind types = list_any (λ k. is_kind k kind) types

-- The bounds that an operator gives at the path of the index.
-- A comparison with an array, and `$type` that lists arrays, give none: an array is itself no key.
abbrev pub bounds_here : Operator → Bool → KeyBounds
bounds_here (equals v) multikey = Some (keys_of_equal v)
bounds_here (differs v) multikey = None
bounds_here (compares r v) multikey = if is_array v then None else Some (is_related r v)
bounds_here (is_in vs) multikey = Some (union (map keys_of_equal vs))
bounds_here (is_not_in vs) multikey = None
bounds_here (has_all vs) multikey = Some (keys_of_each multikey (map keys_of_equal vs))
bounds_here (has_type types) multikey = if is_listed kinds.Array types then None else Some (keys_of_types types)
bounds_here (has_size n) multikey = if n == 0 then Some (keys_equal_to (leaf trees.undefined)) else None
bounds_here (exists b) multikey = if b then None else Some (keys_equal_to (leaf trees.null))
bounds_here (negates os) multikey = None
bounds_here (has_element os) multikey = all_element_bounds os
bounds_here (has_document fs) multikey = Some (is_of_class classes.Doc)

-- ---- filters

-- the rest of a path after this prefix; None if it is no prefix of the path
abbrev pub rest_after : Names → Names → Option Names
rest_after [] path = Some path
rest_after (name ∷ start) [] = None
rest_after (name ∷ start) (other ∷ path) = if bytes_eq name other then rest_after start path else None

abbrev mutual
  -- The bounds that a filter gives to an index on this path, multikey or not:
  -- each document that matches has a key inside. None is unbounded: the filter does not limit the keys.
  pub bounds : Filter → Names → Bool → KeyBounds
  bounds (all_of fs) path multikey = all_bounds fs path multikey
  bounds (some_of fs) path multikey = some_bounds fs path multikey
  bounds (none_of fs) path multikey = None
  bounds (at_path start os) path multikey = operator_bounds os (rest_after start path) multikey

  -- `$and`, and the pairs of a document: the intersection of the bounded members,
  -- in a multikey index only the first of them; unbounded if none is bounded
  pub all_bounds : Filters → Names → Bool → KeyBounds
  all_bounds no_filters path multikey = None
  all_bounds (filter f fs) path multikey = conjunction multikey (bounds f path multikey) (all_bounds fs path multikey)

  -- `$or`: the union of its members; unbounded if one of them is
  pub some_bounds : Filters → Names → Bool → KeyBounds
  some_bounds no_filters path multikey = Some no_key
  some_bounds (filter f fs) path multikey = disjunction (bounds f path multikey) (some_bounds fs path multikey)

  -- the bounds of all operators of a path; `rest` is the rest of the index's path after it
  pub operator_bounds : Operators → Option Names → Bool → KeyBounds
  operator_bounds no_operators rest multikey = None
  operator_bounds (operator o os) rest multikey =
      conjunction multikey (bounds_at o rest multikey) (operator_bounds os rest multikey)

  -- the bounds of one operator of a path; if the index's path continues,
  -- only a filter in `$elemMatch` gives any
  pub bounds_at : Operator → Option Names → Bool → KeyBounds
  bounds_at o None multikey = None
  bounds_at o (Some []) multikey = bounds_here o multikey
  bounds_at (has_document fs) (Some path) multikey = all_bounds fs path multikey
  bounds_at _ _ _ = None

-- whether a key is inside bounds; every key is if there are none
abbrev pub is_among : KeyBounds → Tree → Bool
is_among None k = true
is_among (Some set) k = set k

-- whether a key is inside the bounds of a filter; every key is if there are none
abbrev pub is_inside : Filter → Names → Bool → Tree → Bool
is_inside f path multikey k = is_among (bounds f path multikey) k
