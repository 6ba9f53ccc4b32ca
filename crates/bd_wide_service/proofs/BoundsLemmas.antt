-- The bounds of a renumbered filter have a renumbered key inside exactly if those of the filter have the key inside.
use Rattle.std.proofs.Common.{◌≡◌, ◌∙◌, ◌||◌, ◌&&◌, ◌∷◌, ◌==◌, Bool, true, false, List, [], Option, Some, None, map, refl, ap, ap₂}
use Rattle.std.specs.Prelude.{get_or, if◌then◌else◌}
use Rattle.std.specs.Ordering.{is_eq}
use Rattle.bd_value.specs.Order.{class_of_kind, equal}
use Rattle.bd_value.specs.Tree.{Tree, array, code_scope, doc, elements_in, int32, item, leaf, no_items, null, undefined}
use Rattle.bd_value.specs.declared.node.{Class.Class, Kind.Kind}
use Rattle.bd_value.specs.declared.node.Class.TheVariants as classes
use Rattle.bd_value.specs.declared.node.Kind.TheVariants as kinds
use Rattle.bd_path.specs.Reach.{Names}
use Rattle.bd_query_filter.specs.Filter.{Filter, all_of, some_of, none_of, at_path, Filters, no_filters, filter, Operator}
use Rattle.bd_query_filter.specs.Filter.{equals, differs, compares, is_in, is_not_in, has_all, has_type, has_size, exists, negates, has_element}
use Rattle.bd_query_filter.specs.Filter.{has_document, Operators, no_operators, operator}
use Rattle.bd_query_filter.specs.{FilterMatch.is_array, FilterMatch.is_related, FilterMatch.relates, declared.operand.Relation.Relation}
use Rattle.bd_index_bounds.specs.Bounds.{KeyBounds, KeySet, all_bounds, all_element_bounds, bounds, bounds_at, bounds_here, conjunction, disjunction, element_bounds}
use Rattle.bd_index_bounds.specs.Bounds.{is_among, is_listed, is_of_class, keys_equal_to, keys_of_each, keys_of_equal, keys_of_types, operator_bounds, rest_after, some_bounds, union, intersection}
use Rattle.bd_wide_order.specs.Renumber.{Code, Codes, KeepOrder, IsOf, renumber, renumber_filter, renumber_filters, renumber_operator, renumber_operators}
use Rattle.bd_wide_order.proofs.OrderLemmas.{classes_stay, equals_stay, of_whole, order_stays}

-- One code for all paths:
module _ (one : Code) where
  abbrev pub everywhere : Codes
  everywhere path = one

  abbrev r : Tree → Tree
  r = renumber everywhere

  -- The set has each renumbered key exactly if the other has the key.
  abbrev SetsAlike : KeySet → KeySet → Type 0
  SetsAlike new old = (k : Tree) → IsOf everywhere k → new (r k) ≡ old k

  -- Both are unbounded, or both have the same keys, renumbered and not.
  abbrev pub BoundsAlike : KeyBounds → KeyBounds → Type 0
  BoundsAlike None None = Unit {0}
  BoundsAlike (Some new) (Some old) = SetsAlike new old
  BoundsAlike _ _ = ⊥

  -- whether a key is inside
  pub among_stays : (new old : KeyBounds) → BoundsAlike new old → (k : Tree) → IsOf everywhere k → is_among new (r k) ≡ is_among old k
  among_stays None None alike k a = refl
  among_stays (Some new) (Some old) alike k a = alike k a
  among_stays None (Some old) alike k a = absurd alike
  among_stays (Some new) None alike k a = absurd alike

  -- ---- values

  array_stays : (v : Tree) → is_array (r v) ≡ is_array v
  array_stays (leaf s) = refl
  array_stays (doc fs) = refl
  array_stays (array ts) = refl
  array_stays (code_scope s fs) = refl

  first_stays : (v : Tree) → get_or (elements_in (r v)) 0 (leaf undefined) ≡ r (get_or (elements_in v) 0 (leaf undefined))
  first_stays (leaf s) = refl
  first_stays (doc fs) = refl
  first_stays (array no_items) = refl
  first_stays (array (item t ts)) = refl
  first_stays (code_scope s fs) = refl

  class_stays : (class : Class) (k : Tree) → is_of_class class (r k) ≡ is_of_class class k
  class_stays class (leaf (int32 n)) = of_whole (λ s. is_of_class class (leaf s) ≡ is_of_class class (leaf (int32 n))) one.narrow (one.becomes n) refl refl
  class_stays class (leaf _) = refl
  class_stays class (doc fs) = refl
  class_stays class (array ts) = refl
  class_stays class (code_scope s fs) = refl

  types_stay : (types : List Kind) → SetsAlike (keys_of_types types) (keys_of_types types)
  types_stay [] k a = refl
  types_stay (kind ∷ types) k a = ap₂ ◌||◌ (class_stays (class_of_kind kind) k) (types_stay types k a)

  -- ---- sets of the keys of some values

  module _ (set : Tree → KeySet) (same : (v : Tree) → SetsAlike (set (r v)) (set v)) where
    union_stays : (vs : List Tree) → SetsAlike (union (map set (map r vs))) (union (map set vs))
    union_stays [] k a = refl
    union_stays (v ∷ vs) k a = ap₂ ◌||◌ (same v k a) (union_stays vs k a)

    intersection_stays : (vs : List Tree) → SetsAlike (intersection (map set (map r vs))) (intersection (map set vs))
    intersection_stays [] k a = refl
    intersection_stays (v ∷ vs) k a = ap₂ ◌&&◌ (same v k a) (intersection_stays vs k a)

    each_stays : (multikey : Bool) (vs : List Tree) → SetsAlike (keys_of_each multikey (map set (map r vs))) (keys_of_each multikey (map set vs))
    each_stays true [] k a = refl
    each_stays false [] k a = refl
    each_stays true (v ∷ vs) k a = same v k a
    each_stays false (v ∷ vs) k a = intersection_stays (v ∷ vs) k a

  -- ---- bounds of two

  conjunction_stays : (multikey : Bool) (new old new2 old2 : KeyBounds) → BoundsAlike new old → BoundsAlike new2 old2
      → BoundsAlike (conjunction multikey new new2) (conjunction multikey old old2)
  conjunction_stays multikey None None new2 old2 p q = q
  conjunction_stays multikey None (Some y) new2 old2 p q = absurd p
  conjunction_stays multikey (Some x) None new2 old2 p q = absurd p
  conjunction_stays multikey (Some x) (Some y) None None p q = p
  conjunction_stays multikey (Some x) (Some y) None (Some y2) p q = absurd q
  conjunction_stays multikey (Some x) (Some y) (Some x2) None p q = absurd q
  conjunction_stays true (Some x) (Some y) (Some x2) (Some y2) p q = p
  conjunction_stays false (Some x) (Some y) (Some x2) (Some y2) p q = λ k a. ap₂ ◌&&◌ (p k a) (q k a)

  disjunction_stays : (new old new2 old2 : KeyBounds) → BoundsAlike new old → BoundsAlike new2 old2 → BoundsAlike (disjunction new new2) (disjunction old old2)
  disjunction_stays None None new2 old2 p q = tt
  disjunction_stays None (Some y) new2 old2 p q = absurd p
  disjunction_stays (Some x) None new2 old2 p q = absurd p
  disjunction_stays (Some x) (Some y) None None p q = tt
  disjunction_stays (Some x) (Some y) None (Some y2) p q = absurd q
  disjunction_stays (Some x) (Some y) (Some x2) None p q = absurd q
  disjunction_stays (Some x) (Some y) (Some x2) (Some y2) p q = λ k a. ap₂ ◌||◌ (p k a) (q k a)

  -- bounds unless something holds
  unless_stays : (b d : Bool) (new old : KeySet) → b ≡ d → SetsAlike new old → BoundsAlike (if b then None else Some new) (if d then None else Some old)
  unless_stays true true new old e alike = tt
  unless_stays false false new old e alike = alike
  unless_stays true false new old e alike = absurd (let no : ⊥ = cc in no)
  unless_stays false true new old e alike = absurd (let no : ⊥ = cc in no)

  when_stays : (b : Bool) (new old : KeySet) → SetsAlike new old → BoundsAlike (if b then Some new else None) (if b then Some old else None)
  when_stays true new old alike = alike
  when_stays false new old alike = tt

  -- ---- operators and filters

  module _ (up : KeepOrder everywhere) where
    equal_stays : (v : Tree) → SetsAlike (keys_equal_to (r v)) (keys_equal_to v)
    equal_stays v k a = equals_stay everywhere up k v a

    equals_stays : (v : Tree) → SetsAlike (keys_of_equal (r v)) (keys_of_equal v)
    equals_stays v k a =
        ap₂ ◌||◌ (equal_stays v k a)
        (ap₂ ◌&&◌ (array_stays v) (ap (equal (r k)) (first_stays v) ∙ equals_stay everywhere up k (get_or (elements_in v) 0 (leaf undefined)) a))

    related_stays : (o : Relation) (v : Tree) → SetsAlike (is_related o (r v)) (is_related o v)
    related_stays o v k a = ap₂ (λ x y. is_eq x && relates o y) (classes_stay everywhere everywhere k v) (order_stays everywhere up k v a)

    element_stays : (o : Operator) → BoundsAlike (element_bounds (renumber_operator everywhere o)) (element_bounds o)
    element_stays (equals v) = equal_stays v
    element_stays (differs v) = tt
    element_stays (compares o v) = related_stays o v
    element_stays (is_in vs) = union_stays keys_equal_to equal_stays vs
    element_stays (is_not_in vs) = tt
    element_stays (has_all vs) = each_stays keys_equal_to equal_stays false vs
    element_stays (has_type types) = types_stay types
    element_stays (has_size n) = tt
    element_stays (exists b) = tt
    element_stays (negates os) = tt
    element_stays (has_element os) = tt
    element_stays (has_document fs) = tt

    elements_stay : (os : Operators) → BoundsAlike (all_element_bounds (renumber_operators everywhere os)) (all_element_bounds os)
    elements_stay no_operators = tt
    elements_stay (operator o os) =
        conjunction_stays false (element_bounds (renumber_operator everywhere o)) (element_bounds o) (all_element_bounds (renumber_operators everywhere os))
        (all_element_bounds os) (element_stays o) (elements_stay os)

    here_stays : (o : Operator) (multikey : Bool) → BoundsAlike (bounds_here (renumber_operator everywhere o) multikey) (bounds_here o multikey)
    here_stays (equals v) multikey = equals_stays v
    here_stays (differs v) multikey = tt
    here_stays (compares o v) multikey = unless_stays (is_array (r v)) (is_array v) (is_related o (r v)) (is_related o v) (array_stays v) (related_stays o v)
    here_stays (is_in vs) multikey = union_stays keys_of_equal equals_stays vs
    here_stays (is_not_in vs) multikey = tt
    here_stays (has_all vs) multikey = each_stays keys_of_equal equals_stays multikey vs
    here_stays (has_type types) multikey =
        unless_stays (is_listed kinds.Array types) (is_listed kinds.Array types) (keys_of_types types) (keys_of_types types) refl (types_stay types)
    here_stays (has_size n) multikey = when_stays (n == 0) (keys_equal_to (leaf undefined)) (keys_equal_to (leaf undefined)) (equal_stays (leaf undefined))
    here_stays (exists b) multikey = unless_stays b b (keys_equal_to (leaf null)) (keys_equal_to (leaf null)) refl (equal_stays (leaf null))
    here_stays (negates os) multikey = tt
    here_stays (has_element os) multikey = elements_stay os
    here_stays (has_document fs) multikey = λ k a. class_stays classes.Doc k

    mutual
      -- the bounds that a renumbered filter gives are alike to those that the filter gives
      pub bounds_stay : (f : Filter) (path : Names) (multikey : Bool) → BoundsAlike (bounds (renumber_filter everywhere f) path multikey) (bounds f path multikey)
      bounds_stay (all_of fs) path multikey = all_stay fs path multikey
      bounds_stay (some_of fs) path multikey = some_stay fs path multikey
      bounds_stay (none_of fs) path multikey = tt
      bounds_stay (at_path start os) path multikey = operators_stay os (rest_after start path) multikey

      all_stay : (fs : Filters) (path : Names) (multikey : Bool) → BoundsAlike (all_bounds (renumber_filters everywhere fs) path multikey) (all_bounds fs path multikey)
      all_stay no_filters path multikey = tt
      all_stay (filter f fs) path multikey =
          conjunction_stays multikey (bounds (renumber_filter everywhere f) path multikey) (bounds f path multikey)
          (all_bounds (renumber_filters everywhere fs) path multikey) (all_bounds fs path multikey) (bounds_stay f path multikey) (all_stay fs path multikey)

      some_stay : (fs : Filters) (path : Names) (multikey : Bool) → BoundsAlike (some_bounds (renumber_filters everywhere fs) path multikey) (some_bounds fs path multikey)
      some_stay no_filters path multikey = λ k a. refl
      some_stay (filter f fs) path multikey =
          disjunction_stays (bounds (renumber_filter everywhere f) path multikey) (bounds f path multikey)
          (some_bounds (renumber_filters everywhere fs) path multikey) (some_bounds fs path multikey) (bounds_stay f path multikey) (some_stay fs path multikey)

      operators_stay : (os : Operators) (rest : Option Names) (multikey : Bool)
          → BoundsAlike (operator_bounds (renumber_operators everywhere os) rest multikey) (operator_bounds os rest multikey)
      operators_stay no_operators rest multikey = tt
      operators_stay (operator o os) rest multikey =
          conjunction_stays multikey (bounds_at (renumber_operator everywhere o) rest multikey) (bounds_at o rest multikey)
          (operator_bounds (renumber_operators everywhere os) rest multikey) (operator_bounds os rest multikey) (at_stays o rest multikey) (operators_stay os rest multikey)

      at_stays : (o : Operator) (rest : Option Names) (multikey : Bool) → BoundsAlike (bounds_at (renumber_operator everywhere o) rest multikey) (bounds_at o rest multikey)
      at_stays o None multikey = tt
      at_stays o (Some []) multikey = here_stays o multikey
      at_stays (has_document fs) (Some (name ∷ path)) multikey = all_stay fs (name ∷ path) multikey
      at_stays (equals v) (Some (name ∷ path)) multikey = tt
      at_stays (differs v) (Some (name ∷ path)) multikey = tt
      at_stays (compares o v) (Some (name ∷ path)) multikey = tt
      at_stays (is_in vs) (Some (name ∷ path)) multikey = tt
      at_stays (is_not_in vs) (Some (name ∷ path)) multikey = tt
      at_stays (has_all vs) (Some (name ∷ path)) multikey = tt
      at_stays (has_type types) (Some (name ∷ path)) multikey = tt
      at_stays (has_size n) (Some (name ∷ path)) multikey = tt
      at_stays (exists b) (Some (name ∷ path)) multikey = tt
      at_stays (negates os) (Some (name ∷ path)) multikey = tt
      at_stays (has_element os) (Some (name ∷ path)) multikey = tt
