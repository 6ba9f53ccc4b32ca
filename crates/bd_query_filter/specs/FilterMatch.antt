-- Which documents match a filter (MongoDB manual, "Query and Projection Operators").
use Rattle.std.specs.Prelude.{ℕ, ◌==◌, Bool, true, false, ◌&&◌, ◌||◌, not, List, [], ◌∷◌, length, map, Some, None}
use Rattle.std.specs.Prelude.{is_some, unwrap_or, if◌then◌else◌}
use Rattle.std.specs.{List.list_any, List.list_all, declared.cmp.Ordering.Ordering}
use Rattle.std.specs.Ordering.{is_eq, is_ge, is_gt, is_le, is_lt}
use Rattle.bd_value.specs.{View.kind_of, Order.class_cmp, Order.cmp, Order.equal, Tree.elements_in, Tree.Tree}
use Rattle.bd_value.specs.{Tree.leaf, Tree.array, declared.node.Kind.Kind}
use Rattle.bd_value.specs.Tree as trees
use Rattle.bd_path.specs.Reach.{End, is_document, reach}
use Rattle.bd_query_filter.specs.Filter.{Filter, all_of, some_of, none_of, at_path, Filters, no_filters, filter, Operator}
use Rattle.bd_query_filter.specs.Filter.{equals, differs, compares, is_in, is_not_in, has_all, has_type, has_size, exists, negates, has_element}
use Rattle.bd_query_filter.specs.Filter.{has_document, Operators, no_operators, operator}
use Rattle.bd_query_filter.specs.{NameKind.is_kind, declared.operand.Relation.Relation}
use Rattle.bd_query_filter.specs.declared.operand.Relation.TheVariants as relation

-- whether a value is an array
abbrev pub is_array : Tree → Bool
is_array (array ts) = true
is_array _ = false

-- the value at an end of a path; null for a missing field
abbrev pub value_or_null : End → Tree
value_or_null end = unwrap_or end (leaf trees.null)

-- the candidates of an end, which an operator tests: the end itself, and if it is an array, each element
abbrev pub candidates : End → List End
candidates None = None ∷ []
candidates (Some t) = Some t ∷ map Some (elements_in t)

-- whether some candidate of some end passes the test
abbrev pub any_candidate : (End → Bool) → List End → Bool
any_candidate test ends = list_any (λ e. list_any test (candidates e)) ends

-- whether there is a value, not a missing field, and it passes the test
abbrev pub is_value : (Tree → Bool) → End → Bool
is_value test None = false
is_value test (Some t) = test t

-- whether a value in this order to the operand satisfies `$gt`, `$gte`, `$lt` or `$lte`
abbrev pub relates : Relation → Ordering → Bool
relates relation.Above o = is_gt o
relates relation.AtLeast o = is_ge o
relates relation.Below o = is_lt o
relates relation.AtMost o = is_le o

-- whether a value is of the operand's class, and in that order to it
abbrev pub is_related : Relation → Tree → Tree → Bool
is_related r operand t = is_eq (class_cmp t operand) && relates r (cmp t operand)

-- `$type`: the value is of one of these kinds
abbrev pub is_of_type : List Kind → Tree → Bool
is_of_type kinds t = list_any (λ k. is_kind k (kind_of t)) kinds

-- `$size`: the value is an array of exactly n elements
abbrev pub is_of_size : ℕ → Tree → Bool
is_of_size n t = is_array t && (length (elements_in t) == n)

-- whether the list has a member: `$all` with an empty list matches nothing
abbrev pub is_nonempty : {A : Type 0} → List A → Bool
is_nonempty [] = false
is_nonempty (t ∷ ts) = true

-- `$eq`: whether some candidate equals the operand; a missing field counts as null
abbrev pub any_equal : List End → Tree → Bool
any_equal ends operand = any_candidate (λ e. equal (value_or_null e) operand) ends

abbrev mutual
  -- whether a document matches a filter
  pub matches : Filter → Tree → Bool
  matches (all_of fs) d = all_match fs d
  matches (some_of fs) d = some_match fs d
  matches (none_of fs) d = not (some_match fs d)
  matches (at_path path os) d = all_hold os (reach d path)

  -- each of the filters matches the document; without filters, every document matches
  pub all_match : Filters → Tree → Bool
  all_match no_filters d = true
  all_match (filter f fs) d = matches f d && all_match fs d

  -- at least one of the filters matches the document; without filters, none matches
  pub some_match : Filters → Tree → Bool
  some_match no_filters d = false
  some_match (filter f fs) d = matches f d || some_match fs d

  -- whether an operator holds of the ends of its path
  pub holds : Operator → List End → Bool
  holds (equals v) ends = any_equal ends v
  holds (differs v) ends = not (any_equal ends v)
  holds (compares r v) ends = any_candidate (λ e. is_related r v (value_or_null e)) ends
  holds (is_in vs) ends = list_any (any_equal ends) vs
  holds (is_not_in vs) ends = not (list_any (any_equal ends) vs)
  holds (has_all vs) ends = is_nonempty vs && list_all (any_equal ends) vs
  holds (has_type kinds) ends = any_candidate (is_value (is_of_type kinds)) ends
  holds (has_size n) ends = list_any (is_value (is_of_size n)) ends
  holds (exists b) ends = if b then list_any is_some ends else not (list_any is_some ends)
  holds (negates os) ends = not (all_hold os ends)
  holds (has_element os) ends = list_any (is_value (λ t. list_any (all_accept os) (elements_in t))) ends
  holds (has_document fs) ends =
      list_any (is_value (λ t. list_any (λ x. is_document x && all_match fs x) (elements_in t))) ends

  -- each of the operators holds of the ends of their path
  pub all_hold : Operators → List End → Bool
  all_hold no_operators ends = true
  all_hold (operator o os) ends = holds o ends && all_hold os ends

  -- whether an operator of `$elemMatch` holds of one element, taken alone
  pub accepts : Operator → Tree → Bool
  accepts (equals v) t = equal t v
  accepts (differs v) t = not (equal t v)
  accepts (compares r v) t = is_related r v t
  accepts (is_in vs) t = list_any (equal t) vs
  accepts (is_not_in vs) t = not (list_any (equal t) vs)
  accepts (has_all vs) t = is_nonempty vs && list_all (equal t) vs
  accepts (has_type kinds) t = is_of_type kinds t
  accepts (has_size n) t = is_of_size n t
  accepts (exists b) t = b
  accepts (negates os) t = not (all_accept os t)
  accepts (has_element os) t = list_any (all_accept os) (elements_in t)
  accepts (has_document fs) t = list_any (λ x. is_document x && all_match fs x) (elements_in t)

  -- each of the operators holds of one and the same element of an array
  pub all_accept : Operators → Tree → Bool
  all_accept no_operators t = true
  all_accept (operator o os) t = accepts o t && all_accept os t
