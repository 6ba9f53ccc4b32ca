-- Which filter a document is (MongoDB manual, "Query and Projection Operators");
-- and if it is none, the first pair or member that is refused.
use Rattle.std.specs.Prelude.{ℕ, zero, ◌+◌, ◌-◌, pos, Bool, true, false, not, ◌||◌, List, [], ◌∷◌, ◌++◌, Option, Some}
use Rattle.std.specs.Prelude.{None, Result, Ok, Err, if◌then◌else◌, decimal}
use Rattle.std.specs.{Option.option_and_then, Option.option_map, Ordering.int_eq}
use Rattle.bd_value.specs.{Limits.most_filter_levels, declared.node.Kind.Kind}
use Rattle.bd_value.specs.Tree as trees
use Rattle.bd_value.specs.Tree.{Scalar, Tree, leaf, doc, array, Items, no_items, item, Fields, no_fields, field, Doc}
use Rattle.bd_value.specs.Tree.{fields_of}
use Rattle.bd_path.specs.{Reach.Names, Path.path_of, declared.path.PathFault.PathFault}
use Rattle.bd_query_filter.specs.Fault.{Refusal, deeper, refuse}
use Rattle.bd_query_filter.specs.declared.filter_of.{LogicalOperator.LogicalOperator, PlainOperator.PlainOperator, NameKind.NameKind}
use Rattle.bd_query_filter.specs.Filter.{Filter, all_of, some_of, none_of, at_path, filters_from, Operator, equals, differs, compares}
use Rattle.bd_query_filter.specs.Filter.{is_in, is_not_in, has_all, has_type, has_size, exists, negates, has_element, has_document}
use Rattle.bd_query_filter.specs.{Filter.operators_from}
use Rattle.bd_query_filter.specs.NameKind.{begins_with_dollar, kinds_named, kinds_numbered, name_kind_of}
use Rattle.bd_query_filter.specs.declared.fault.FilterFaultKind.TheVariants as faults
use Rattle.bd_query_filter.specs.declared.filter_of.LogicalOperator.TheVariants as logical
use Rattle.bd_query_filter.specs.declared.filter_of.PlainOperator.TheVariants as plain
use Rattle.bd_query_filter.specs.declared.filter_of.NameKind.TheVariants as name_kinds

-- a function of a part that is not refused; a refusal stays
abbrev pub read_as : {A B : Type 0} → (A → B) → Result A Refusal → Result B Refusal
read_as f (Ok x) = Ok (f x)
read_as f (Err r) = Err r

-- the part under a name or position and those after it, as a list; or the first refusal among them
abbrev pub read_at : {A : Type 0} → List ℕ → Result A Refusal → Result (List A) Refusal → Result (List A) Refusal
read_at name (Err r) rest = Err (deeper name r)
read_at name (Ok x) (Err r) = Err r
read_at name (Ok x) (Ok xs) = Ok (x ∷ xs)

-- ---- operands

-- whether the operand is a regular expression, which only `$eq` accepts
abbrev pub is_regex : Tree → Bool
is_regex (leaf (trees.regex p o)) = true
is_regex t = false

-- whether the operand is MinKey or MaxKey
abbrev pub is_bound : Tree → Bool
is_bound (leaf trees.min_key) = true
is_bound (leaf trees.max_key) = true
is_bound t = false

-- whether the first name begins with `$`: then a field's value is a
-- document of operators, not a value to equal
abbrev pub first_is_operator : Fields → Bool
first_is_operator no_fields = false
first_is_operator (field n t fs) = begins_with_dollar n

-- whether the value is a document whose first name begins with `$`
abbrev pub has_operators : Tree → Bool
has_operators (doc fs) = first_is_operator fs
has_operators t = false

-- the operand, or the refusal `not in the profile` if it is recognised but not supported
abbrev pub unless_omitted : Bool → Tree → Result Tree Refusal
unless_omitted omitted t = if omitted then refuse faults.NotInProfile else Ok t

-- a member of `$in`, `$nin` or `$all`: any value except a regular expression and a document of operators
abbrev pub member_value : Tree → Result Tree Refusal
member_value t = unless_omitted (is_regex t || has_operators t) t

-- the members of `$in`, `$nin` or `$all` from this position on, or the first refusal among them
abbrev pub member_values : ℕ → Items → Result (List Tree) Refusal
member_values i no_items = Ok []
member_values i (item t ts) = read_at (decimal i) (member_value t) (member_values (i + 1) ts)

-- the members that `$in`, `$nin` and `$all` have: their operand must be an array, which may be empty
abbrev pub members_of : Tree → Result (List Tree) Refusal
members_of (array ts) = member_values 0 ts
members_of t = refuse faults.BadOperand

-- the operand of `$size`: an int32 or int64 of 0 or more
abbrev pub size_value : Tree → Option ℕ
size_value (leaf (trees.int32 (pos n))) = Some n
size_value (leaf (trees.int64 (pos n))) = Some n
size_value t = None

-- the operand of `$exists`: a boolean, or an int32 or int64, of which 0 is false
abbrev pub truth_value : Tree → Option Bool
truth_value (leaf (trees.boolean b)) = Some b
truth_value (leaf (trees.int32 z)) = Some (not (int_eq z (pos 0)))
truth_value (leaf (trees.int64 z)) = Some (not (int_eq z (pos 0)))
truth_value t = None

-- the kinds of one type of `$type`, by its name or its number
abbrev pub type_kinds : Tree → Option (List Kind)
type_kinds (leaf (trees.text s)) = kinds_named s
type_kinds (leaf (trees.int32 z)) = kinds_numbered z
type_kinds (leaf (trees.int64 z)) = kinds_numbered z
type_kinds t = None

-- the kinds of all types in an array; None if a member is not a type
abbrev pub all_kinds : Items → Option (List Kind)
all_kinds no_items = Some []
all_kinds (item t ts) = option_and_then (λ kinds. option_map (λ more. kinds ++ more) (all_kinds ts)) (type_kinds t)

-- the operand of `$type`: the kinds of one type, or of some in an array that is not empty
abbrev pub operand_kinds : Tree → Option (List Kind)
operand_kinds (array (item t ts)) = all_kinds (item t ts)
operand_kinds t = type_kinds t

-- the operand that was read, or the refusal `bad operand`
abbrev pub or_bad_operand : {A : Type 0} → Option A → Result A Refusal
or_bad_operand None = refuse faults.BadOperand
or_bad_operand (Some x) = Ok x

-- the operator of this name and operand, or why it is refused:
-- no regular expression except after `$eq`, and no MinKey or MaxKey after `$gt`, `$gte`, `$lt`, `$lte`
abbrev pub plain_operator : PlainOperator → Tree → Result Operator Refusal
plain_operator plain.Equal t = Ok (equals t)
plain_operator plain.NotEqual t = read_as differs (unless_omitted (is_regex t) t)
plain_operator (plain.Order r) t = read_as (compares r) (unless_omitted (is_regex t || is_bound t) t)
plain_operator plain.In t = read_as is_in (members_of t)
plain_operator plain.NotIn t = read_as is_not_in (members_of t)
plain_operator plain.All t = read_as has_all (members_of t)
plain_operator plain.Size t = read_as has_size (or_bad_operand (size_value t))
plain_operator plain.Exists t = read_as exists (or_bad_operand (truth_value t))
plain_operator plain.Type t = read_as has_type (or_bad_operand (operand_kinds t))

-- ---- filters

-- the filter of `$and`, `$or` or `$nor` with these filters
abbrev pub logical_filter : LogicalOperator → List Filter → Filter
logical_filter logical.And fs = all_of (filters_from fs)
logical_filter logical.Or fs = some_of (filters_from fs)
logical_filter logical.Nor fs = none_of (filters_from fs)

-- a part that is a level further in, or the refusal `too deep` if no level remains
abbrev pub inner_part : {A : Type 0} → ℕ → Result A Refusal → Result A Refusal
inner_part zero part = refuse faults.TooDeep
inner_part depth_left part = part

-- whether `$elemMatch` has operators for an element if its body begins with this name
abbrev pub is_value_form : NameKind → Bool
is_value_form (name_kinds.Logical l) = false
is_value_form name_kinds.Field = false
is_value_form w = true

-- whether the body of `$elemMatch` is operators for an element:
-- its first name begins with `$`, and is not `$and`, `$or` or `$nor`
abbrev pub has_value_form : Fields → Bool
has_value_form no_fields = false
has_value_form (field n t fs) = is_value_form (name_kind_of n)

-- the filter of a pair, by the meaning of its name:
-- `$and`, `$or` and `$nor` with their filters, a field with its path and operators
abbrev pub pair_filter : NameKind → Result Names PathFault → Result (List Filter) Refusal → Result (List Operator) Refusal
    → Result Filter Refusal
pair_filter (name_kinds.Logical l) path filters operators = read_as (logical_filter l) filters
pair_filter name_kinds.Field (Err fault) filters operators = refuse faults.Path
pair_filter name_kinds.Field (Ok path) filters operators = read_as (λ os. at_path path (operators_from os)) operators
pair_filter name_kinds.Omitted path filters operators = refuse faults.NotInProfile
pair_filter w path filters operators = refuse faults.UnknownOperator

-- the operator of a pair among operators, by the meaning of its name
abbrev pub operator_of : NameKind → Tree → Result Operator Refusal → Result Operator Refusal → Result Operator Refusal
operator_of (name_kinds.Plain p) t inverse element = plain_operator p t
operator_of name_kinds.Not t inverse element = inverse
operator_of name_kinds.ElemMatch t inverse element = element
operator_of name_kinds.Omitted t inverse element = refuse faults.NotInProfile
operator_of name_kinds.Field t inverse element = refuse faults.MixedOperators
operator_of w t inverse element = refuse faults.UnknownOperator

abbrev mutual
  -- the filters of the pairs of a document, in order, or the first refusal;
  -- `depth_left` more levels may be inside
  pub filters_of : ℕ → Fields → Result (List Filter) Refusal
  filters_of depth_left no_fields = Ok []
  filters_of depth_left (field n t fs) =
      read_at n (pair_filter (name_kind_of n) (path_of n) (operand_filters depth_left t) (path_operators depth_left t))
      (filters_of depth_left fs)

  -- the filters of `$and`, `$or` or `$nor`: their operand is an array that is not empty
  pub operand_filters : ℕ → Tree → Result (List Filter) Refusal
  operand_filters depth_left (array (item t ts)) = member_filters depth_left 0 (item t ts)
  operand_filters depth_left t = refuse faults.BadOperand

  -- the filters of `$and`, `$or` or `$nor` from this position on, or the first refusal among them
  pub member_filters : ℕ → ℕ → Items → Result (List Filter) Refusal
  member_filters depth_left i no_items = Ok []
  member_filters depth_left i (item t ts) = read_at (decimal i) (member_filter depth_left t) (member_filters depth_left (i + 1) ts)

  -- one member of `$and`, `$or` or `$nor`: a document, which is a level further in
  pub member_filter : ℕ → Tree → Result Filter Refusal
  member_filter depth_left (doc fs) = inner_part depth_left (read_as (λ xs. all_of (filters_from xs)) (filters_of (depth_left - 1) fs))
  member_filter depth_left t = refuse faults.BadOperand

  -- the operators in the value of a path: those of a document of operators, else equality with the value
  pub path_operators : ℕ → Tree → Result (List Operator) Refusal
  path_operators depth_left (doc fs) = if first_is_operator fs then operators_of depth_left fs else Ok (equals (doc fs) ∷ [])
  path_operators depth_left t = read_as (λ v. equals v ∷ []) (unless_omitted (is_regex t) t)

  -- the operators of a path, in order, or the first refusal among them; `depth_left` more levels may be inside
  pub operators_of : ℕ → Fields → Result (List Operator) Refusal
  operators_of depth_left no_fields = Ok []
  operators_of depth_left (field n t fs) =
      read_at n (operator_of (name_kind_of n) t (not_operator depth_left t) (element_operator depth_left t)) (operators_of depth_left fs)

  -- `$not`: a document of operators, a level further in;
  -- the manual has a regular expression there too, which is not supported
  pub not_operator : ℕ → Tree → Result Operator Refusal
  not_operator depth_left (doc fs) =
      if first_is_operator fs
      then inner_part depth_left (read_as (λ xs. negates (operators_from xs)) (operators_of (depth_left - 1) fs))
      else refuse faults.BadOperand
  not_operator depth_left t = if is_regex t then refuse faults.NotInProfile else refuse faults.BadOperand

  -- `$elemMatch`: operators for an element, or a filter for an element that is a document;
  -- its body is a level further in
  pub element_operator : ℕ → Tree → Result Operator Refusal
  element_operator depth_left (doc fs) =
      if has_value_form fs then inner_part depth_left
      (read_as (λ xs. has_element (operators_from xs)) (operators_of (depth_left - 1) fs))
      else inner_part depth_left (read_as (λ xs. has_document (filters_from xs)) (filters_of (depth_left - 1) fs))
  element_operator depth_left t = refuse faults.BadOperand

-- the filter that a document describes, or its first refusal;
-- a filter has 50 levels at most, the top is level 1
abbrev pub filter_of : Doc → Result Filter Refusal
filter_of d = read_as (λ xs. all_of (filters_from xs)) (filters_of (most_filter_levels - 1) (fields_of d))
