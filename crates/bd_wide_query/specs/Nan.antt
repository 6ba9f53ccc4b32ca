-- NaN in comparisons. In the order of numbers it is the least. For `$lt`, `$lte`, `$gt` and `$gte` it is neither below nor above
-- another number, and equals itself alone.
-- A filter has numbers as int32 or int64: their worths, or their codes. Inside a document or an array that is compared as a whole
-- NaN is the least number, as in a sort.
use Rattle.std.specs.Prelude.{ℤ, Bool, ◌&&◌, ◌||◌, List, map, Option, Some, None, if◌then◌else◌}
use Rattle.std.specs.{Bool.beq, Ordering.int_cmp, Ordering.int_eq}
use Rattle.std.specs.List as lists
use Rattle.std.specs.declared.cmp.Ordering.TheVariants.{Less}
use Rattle.bd_value.specs.Tree.{Tree, leaf, int32, int64}
use Rattle.bd_query_filter.specs.Filter.{Filter, all_of, some_of, none_of, at_path, Filters, no_filters, filter, Operator}
use Rattle.bd_query_filter.specs.Filter.{compares, is_in, negates, has_element, has_document, Operators, no_operators, operator}
use Rattle.bd_query_filter.specs.FilterMatch.{relates}
use Rattle.bd_query_filter.specs.declared.operand.Relation.{Relation}
use Rattle.bd_wide_number.specs.Value as values
use Rattle.bd_wide_rank.specs.{Rank.code, Rank.is_among, Worth.value_worth}

-- whether the number m is so related to n: by their order, and if one of them is NaN, both are
abbrev pub relates_beside_nan : ℤ → Relation → ℤ → ℤ → Bool
relates_beside_nan nan r m n = relates r (int_cmp m n) && beq (int_eq m nan) (int_eq n nan)

-- those of the numbers that are so related to n, as values
abbrev pub related_numbers : List ℤ → ℤ → Relation → ℤ → List Tree
related_numbers numbers nan r n = map (λ m. leaf (int64 m)) (lists.filter (λ m. relates_beside_nan nan r m n) numbers)

-- whether order alone does not decide: n is NaN, or NaN is among the numbers and by its order would be related so to n
abbrev pub is_beside_nan : List ℤ → ℤ → Relation → ℤ → Bool
is_beside_nan numbers nan r n = int_eq n nan || (is_among numbers nan && relates r Less)

-- the relation and the number, if the operator compares with a number
abbrev pub compared_number : Operator → Option (Relation × ℤ)
compared_number (compares r (leaf (int32 n))) = Some (r, n)
compared_number (compares r (leaf (int64 n))) = Some (r, n)
compared_number o = None

-- the operator, which compares with this number if with any: in its place `$in` of the related numbers, if order does not decide
abbrev pub unless_decided : List ℤ → ℤ → Operator → Option (Relation × ℤ) → Operator
unless_decided numbers nan o None = o
unless_decided numbers nan o (Some p) = if is_beside_nan numbers nan p.0 p.1 then is_in (related_numbers numbers nan p.0 p.1) else o

-- the operator, but `$in` in place of a comparison with a number where order does not decide
abbrev pub comparison_beside_nan : List ℤ → ℤ → Operator → Operator
comparison_beside_nan numbers nan o = unless_decided numbers nan o (compared_number o)

-- A filter for documents whose numbers are all among some, one of which may be NaN: each comparison with a number, at any depth.
abbrev mutual
  -- a filter with `$in` where order does not decide
  pub filter_beside_nan : List ℤ → ℤ → Filter → Filter
  filter_beside_nan numbers nan (all_of fs) = all_of (filters_beside_nan numbers nan fs)
  filter_beside_nan numbers nan (some_of fs) = some_of (filters_beside_nan numbers nan fs)
  filter_beside_nan numbers nan (none_of fs) = none_of (filters_beside_nan numbers nan fs)
  filter_beside_nan numbers nan (at_path path os) = at_path path (operators_beside_nan numbers nan os)

  -- each of the filters
  pub filters_beside_nan : List ℤ → ℤ → Filters → Filters
  filters_beside_nan numbers nan no_filters = no_filters
  filters_beside_nan numbers nan (filter f fs) = filter (filter_beside_nan numbers nan f) (filters_beside_nan numbers nan fs)

  -- an operator
  pub operator_beside_nan : List ℤ → ℤ → Operator → Operator
  operator_beside_nan numbers nan (negates os) = negates (operators_beside_nan numbers nan os)
  operator_beside_nan numbers nan (has_element os) = has_element (operators_beside_nan numbers nan os)
  operator_beside_nan numbers nan (has_document fs) = has_document (filters_beside_nan numbers nan fs)
  operator_beside_nan numbers nan o = comparison_beside_nan numbers nan o

  -- each of the operators of a path
  pub operators_beside_nan : List ℤ → ℤ → Operators → Operators
  operators_beside_nan numbers nan no_operators = no_operators
  operators_beside_nan numbers nan (operator o os) = operator (operator_beside_nan numbers nan o) (operators_beside_nan numbers nan os)

-- a filter by value, for documents whose numbers have the worths of a table
abbrev pub beside_nan : List ℤ → Filter → Filter
beside_nan table f = filter_beside_nan table (value_worth values.nan) f

-- a filter with codes, for documents with the codes of the worths of a table
abbrev pub coded_beside_nan : List ℤ → Filter → Filter
coded_beside_nan table f = filter_beside_nan (map (code table) table) (code table (value_worth values.nan)) f
