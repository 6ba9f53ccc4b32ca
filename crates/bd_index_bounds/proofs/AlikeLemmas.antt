-- Equal keys are both inside, or both outside.
use Rattle.std.proofs.Common.{◌≡◌, ◌==◌, Bool, true, false, cond, ◌&&◌, ◌||◌, List, [], ◌∷◌, get_or, map, Option, Some, None, refl, sym, ap, ap₂, ◌∙◌, Ordering, Equal, nat_cmp, is_eq}
use Rattle.std.specs.Prelude.{is_some}
use Rattle.std.specs.Ordering.{ordering_then}
use Rattle.std.proofs.lemmas.Map.Lookups.{exact_unsigned}
use Rattle.bd_value.specs.{Order.class_cmp, Order.cmp, Order.equal, Order.class_of, Order.class_of_kind, Order.class_rank, Tree.elements_in}
use Rattle.bd_value.specs.{Tree.Tree, Tree.leaf, declared.node.Kind.Kind}
use Rattle.bd_value.specs.Tree as trees
use Rattle.bd_value.specs.declared.node.Kind.TheVariants as kinds
use Rattle.bd_value.proofs.OrderLemmas.{cmp_total}
use Rattle.bd_path.specs.Reach.{Names}
use Rattle.bd_query_filter.specs.Filter.{Filter, all_of, some_of, none_of, at_path, Filters, no_filters, filter, Operator, equals, differs, compares, is_in, is_not_in, has_all, has_type, has_size}
use Rattle.bd_query_filter.specs.Filter.{exists, negates, has_element, has_document, Operators, no_operators, operator}
use Rattle.bd_query_filter.specs.{FilterMatch.is_array, FilterMatch.is_related, FilterMatch.relates, declared.operand.Relation.Relation}
use Rattle.bd_index_bounds.specs.Bounds.{KeyBounds, KeySet, all_bounds, all_element_bounds, bounds, bounds_at, bounds_here, conjunction, disjunction}
use Rattle.bd_index_bounds.specs.Bounds.{element_bounds, is_among, is_listed, is_of_class, keys_equal_to, keys_of_each, keys_of_equal}
use Rattle.bd_index_bounds.specs.Bounds.{keys_of_types, intersection, no_key, union, operator_bounds, rest_after, some_bounds}

-- ---- what holds of each of two bounds holds of their combination, and of the bounds of a filter

-- a relation between the bounds in an index with multikey flag m and those in one with n; combining bounds preserves it
pub record Stays (R : KeyBounds → KeyBounds → Type 0) (m n : Bool) : Type 0 where
  pub none : R None None
  pub nothing : R (Some no_key) (Some no_key)
  pub both : (b c d e : KeyBounds) → R b c → R d e → R (conjunction m b d) (conjunction n c e)
  pub either : (b c d e : KeyBounds) → R b c → R d e → R (disjunction b d) (disjunction c e)
  pub here : (o : Operator) → R (bounds_here o m) (bounds_here o n)

module _ (R : KeyBounds → KeyBounds → Type 0) (m n : Bool) (stays : Stays R m n) where
  mutual
    pub on_bounds : (f : Filter) (p : Names) → R (bounds f p m) (bounds f p n)
    on_bounds (all_of fs) p = on_all fs p
    on_bounds (some_of fs) p = on_some fs p
    on_bounds (none_of fs) p = stays.none
    on_bounds (at_path r os) p = on_operators os (rest_after r p)

    pub on_all : (fs : Filters) (p : Names) → R (all_bounds fs p m) (all_bounds fs p n)
    on_all no_filters p = stays.none
    on_all (filter f fs) p = stays.both (bounds f p m) (bounds f p n) (all_bounds fs p m) (all_bounds fs p n) (on_bounds f p) (on_all fs p)

    on_some : (fs : Filters) (p : Names) → R (some_bounds fs p m) (some_bounds fs p n)
    on_some no_filters p = stays.nothing
    on_some (filter f fs) p = stays.either (bounds f p m) (bounds f p n) (some_bounds fs p m) (some_bounds fs p n) (on_bounds f p) (on_some fs p)

    pub on_operators : (os : Operators) (s : Option Names) → R (operator_bounds os s m) (operator_bounds os s n)
    on_operators no_operators s = stays.none
    on_operators (operator o os) s =
        stays.both (bounds_at o s m) (bounds_at o s n) (operator_bounds os s m) (operator_bounds os s n) (on_operator o s) (on_operators os s)

    on_operator : (o : Operator) (s : Option Names) → R (bounds_at o s m) (bounds_at o s n)
    on_operator o None = stays.none
    on_operator o (Some []) = stays.here o
    on_operator (has_document fs) (Some (name ∷ s)) = on_all fs (name ∷ s)
    on_operator _ (Some (name ∷ s)) = stays.none

-- ---- equal keys

pub equal_is : (o : Ordering) → is_eq o ≡ true → o ≡ Equal
equal_is Equal e = refl
equal_is _ e = absurd cc

-- if two orderings in turn give Equal, the first is Equal
pub first_ties : (o p : Ordering) → ordering_then o p ≡ Equal → o ≡ Equal
first_ties Equal p e = refl
first_ties _ p e = absurd cc

pub one_class : (x y : Tree) → is_eq (class_cmp x y) ≡ true → class_rank (class_of x) ≡ class_rank (class_of y)
one_class x y e = exact_unsigned (class_rank (class_of x)) (class_rank (class_of y)) (equal_is (class_cmp x y) e)

pub equals_class : (x y : Tree) → equal x y ≡ true → is_eq (class_cmp x y) ≡ true
equals_class x y e = ap is_eq (first_ties (class_cmp x y) _ (equal_is (cmp x y) e))

module _ (x y : Tree) (e : equal x y ≡ true) where
  one_order : (v : Tree) → cmp x v ≡ cmp y v
  one_order v = cmp_total.congr x y v (equal_is (cmp x y) e)

  same_class : class_rank (class_of x) ≡ class_rank (class_of y)
  same_class = one_class x y (equals_class x y e)

  pub same_equal : (v : Tree) → equal x v ≡ equal y v
  same_equal v = ap is_eq (one_order v)

  same_related : (r : Relation) (v : Tree) → is_related r v x ≡ is_related r v y
  same_related r v = ap₂ (λ n o. is_eq (nat_cmp n (class_rank (class_of v))) && relates r o) same_class (one_order v)

  same_union : {A : Type 0} (sets : A → KeySet) (xs : List A) → ((a : A) → sets a x ≡ sets a y) → union (map sets xs) x ≡ union (map sets xs) y
  same_union sets [] h = refl
  same_union sets (a ∷ rest) h = ap₂ ◌||◌ (h a) (same_union sets rest h)

  same_intersection : {A : Type 0} (sets : A → KeySet) (xs : List A) → ((a : A) → sets a x ≡ sets a y) → intersection (map sets xs) x ≡ intersection (map sets xs) y
  same_intersection sets [] h = refl
  same_intersection sets (a ∷ rest) h = ap₂ ◌&&◌ (h a) (same_intersection sets rest h)

  same_each : {A : Type 0} (m : Bool) (sets : A → KeySet) (xs : List A) → ((a : A) → sets a x ≡ sets a y) → keys_of_each m (map sets xs) x ≡ keys_of_each m (map sets xs) y
  same_each m sets [] h = refl
  same_each true sets (a ∷ rest) h = h a
  same_each false sets (a ∷ rest) h = same_intersection sets (a ∷ rest) h

  same_types : (ks : List Kind) → keys_of_types ks x ≡ keys_of_types ks y
  same_types ks = same_union (λ kind. is_of_class (class_of_kind kind)) ks (λ kind. ap (λ n. n == class_rank (class_of_kind kind)) same_class)

  pub same_keys_of_equal : (v : Tree) → keys_of_equal v x ≡ keys_of_equal v y
  same_keys_of_equal v = ap₂ (λ a b. a || (is_array v && b)) (same_equal v) (same_equal (get_or (elements_in v) 0 (leaf trees.undefined)))

  abbrev Same : KeyBounds → Type 0
  Same b = is_among b x ≡ is_among b y

  same_conjunction : (m : Bool) (b c : KeyBounds) → Same b → Same c → Same (conjunction m b c)
  same_conjunction m None c f g = g
  same_conjunction m (Some s) None f g = f
  same_conjunction true (Some s) (Some t) f g = f
  same_conjunction false (Some s) (Some t) f g = ap₂ ◌&&◌ f g

  same_disjunction : (b c : KeyBounds) → Same b → Same c → Same (disjunction b c)
  same_disjunction (Some s) (Some t) f g = ap₂ ◌||◌ f g
  same_disjunction _ _ f g = refl

  same_chosen : (t : Bool) (b c : KeyBounds) → Same b → Same c → Same (cond t b c)
  same_chosen true b c f g = f
  same_chosen false b c f g = g

  same_element : (o : Operator) → Same (element_bounds o)
  same_element (equals v) = same_equal v
  same_element (compares r v) = same_related r v
  same_element (is_in vs) = same_union keys_equal_to vs same_equal
  same_element (has_all vs) = same_each false keys_equal_to vs same_equal
  same_element (has_type ks) = same_types ks
  same_element _ = refl

  same_all_elements : (os : Operators) → Same (all_element_bounds os)
  same_all_elements no_operators = refl
  same_all_elements (operator o os) = same_conjunction false (element_bounds o) (all_element_bounds os) (same_element o) (same_all_elements os)

  same_here : (o : Operator) (m : Bool) → Same (bounds_here o m)
  same_here (equals v) m = same_keys_of_equal v
  same_here (differs v) m = refl
  same_here (compares r v) m = same_chosen (is_array v) None (Some (is_related r v)) refl (same_related r v)
  same_here (is_in vs) m = same_union keys_of_equal vs same_keys_of_equal
  same_here (is_not_in vs) m = refl
  same_here (has_all vs) m = same_each m keys_of_equal vs same_keys_of_equal
  same_here (has_type ks) m = same_chosen (is_listed kinds.Array ks) None (Some (keys_of_types ks)) refl (same_types ks)
  same_here (has_size n) m = same_chosen (n == 0) (Some (keys_equal_to (leaf trees.undefined))) None (same_equal (leaf trees.undefined)) refl
  same_here (exists b) m = same_chosen b None (Some (keys_equal_to (leaf trees.null))) refl (same_equal (leaf trees.null))
  same_here (negates os) m = refl
  same_here (has_element os) m = same_all_elements os
  same_here (has_document fs) m = ap (λ n. n == 5) same_class

  -- the bounds for both indexes are the same, and treat the two keys alike
  abbrev SameOne : KeyBounds → KeyBounds → Type 0
  SameOne b c = (b ≡ c) × Same b

  stays_same : (m : Bool) → Stays SameOne m m
  stays_same m = record {
    none = (refl, refl);
    nothing = (refl, refl);
    both = λ b c d e f g. (ap₂ (conjunction m) f.0 g.0, same_conjunction m b d f.1 g.1);
    either = λ b c d e f g. (ap₂ disjunction f.0 g.0, same_disjunction b d f.1 g.1);
    here = λ o. (refl, same_here o m);
  }

  -- the bounds of a filter treat equal keys alike
  pub same_bounds : (f : Filter) (p : Names) (m : Bool) → Same (bounds f p m)
  same_bounds f p m = (on_bounds SameOne m m (stays_same m) f p).1

  pub same_all : (fs : Filters) (p : Names) (m : Bool) → Same (all_bounds fs p m)
  same_all fs p m = (on_all SameOne m m (stays_same m) fs p).1

  pub same_operators : (os : Operators) (s : Option Names) (m : Bool) → Same (operator_bounds os s m)
  same_operators os s m = (on_operators SameOne m m (stays_same m) os s).1

-- ---- the same filters are bounded, multikey or not

abbrev Alike : KeyBounds → KeyBounds → Type 0
Alike b c = is_some b ≡ is_some c

some_conjunction : (m : Bool) (b c : KeyBounds) → is_some (conjunction m b c) ≡ (is_some b || is_some c)
some_conjunction m None c = refl
some_conjunction m (Some s) None = refl
some_conjunction true (Some s) (Some t) = refl
some_conjunction false (Some s) (Some t) = refl

some_disjunction : (b c : KeyBounds) → is_some (disjunction b c) ≡ (is_some b && is_some c)
some_disjunction None c = refl
some_disjunction (Some s) None = refl
some_disjunction (Some s) (Some t) = refl

alike_here : (o : Operator) → Alike (bounds_here o true) (bounds_here o false)
alike_here (has_all vs) = refl
alike_here _ = refl

stays_alike : Stays Alike true false
stays_alike = record {
  none = refl;
  nothing = refl;
  both = λ b c d e f g. some_conjunction true b d ∙ ap₂ ◌||◌ f g ∙ sym (some_conjunction false c e);
  either = λ b c d e f g. some_disjunction b d ∙ ap₂ ◌&&◌ f g ∙ sym (some_disjunction c e);
  here = alike_here;
}

pub alike_bounds : (f : Filter) (p : Names) → Alike (bounds f p true) (bounds f p false)
alike_bounds f p = on_bounds Alike true false stays_alike f p
