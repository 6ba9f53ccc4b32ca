-- Whether a document matches a filter, part by part.
use Rattle.std.proofs.Common.{◌+◌, ℕ, suc, map}
use Rattle.bd_query_filter.specs.Filter.{Filter, all_of, some_of, none_of, at_path, Filters, no_filters, filter, Operator, equals, differs, compares, is_in, is_not_in, has_all, has_type, has_size}
use Rattle.bd_query_filter.specs.Filter.{exists, negates, has_element, has_document, Operators, no_operators, operator, filters_from, operators_from}
use Rattle.bd_query_filter.specs.Filter.{filter_tree, operator_tree}
use Rattle.bd_query.specs.declared.filter_match.Body.{Body}
use Rattle.bd_query.specs.declared.filter_match.Body.TheVariants as bodies

-- ---- the parts are smaller

abbrev mutual
  pub filter_size : Filter → ℕ
  filter_size (all_of fs) = suc (filters_size fs)
  filter_size (some_of fs) = suc (filters_size fs)
  filter_size (none_of fs) = suc (filters_size fs)
  filter_size (at_path path os) = suc (operators_size os)

  pub filters_size : Filters → ℕ
  filters_size no_filters = 0
  filters_size (filter f fs) = suc (filter_size f) + filters_size fs

  pub operator_size : Operator → ℕ
  operator_size (equals v) = 0
  operator_size (differs v) = 0
  operator_size (compares r v) = 0
  operator_size (is_in vs) = 0
  operator_size (is_not_in vs) = 0
  operator_size (has_all vs) = 0
  operator_size (has_type kinds) = 0
  operator_size (has_size n) = 0
  operator_size (exists b) = 0
  operator_size (negates os) = suc (operators_size os)
  operator_size (has_element os) = suc (operators_size os)
  operator_size (has_document fs) = suc (filters_size fs)

  pub operators_size : Operators → ℕ
  operators_size no_operators = 0
  operators_size (operator o os) = suc (operator_size o) + operators_size os

abbrev pub body_size : Body → ℕ
body_size (bodies.Operators os) = operators_size (operators_from (map operator_tree os.now))
body_size (bodies.Filters fs) = filters_size (filters_from (map filter_tree fs.now))
