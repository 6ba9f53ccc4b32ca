-- Codes among the numbers of a table, in filters and at paths.
use Rattle.std.proofs.Common.{◌≡◌, List, refl}
use Rattle.std.specs.Prelude.{ℤ}
use Rattle.bd_value.specs.Tree.{Tree}
use Rattle.bd_path.specs.{Reach.Names}
use Rattle.bd_query_filter.specs.FilterMatch.{matches}
use Rattle.bd_query_filter.specs.Filter.{Filter, all_of, some_of, none_of, at_path, Filters, no_filters, filter, Operator}
use Rattle.bd_query_filter.specs.Filter.{equals, differs, compares, is_in, is_not_in, has_all, has_type, has_size, exists, negates, has_element}
use Rattle.bd_query_filter.specs.Filter.{has_document, Operators, no_operators, operator}
use Rattle.bd_wide_order.specs.Renumber.{KeepOrder, ReadsAlike, IsOf, FilterNeeds, FiltersNeed, OperatorNeeds, OperatorsNeed, renumber, renumber_filter}
use Rattle.bd_wide_rank.proofs.OrderLemmas.{codes_rise}
use Rattle.bd_wide_order.specs.Ranks.{table_codes}
use Rattle.bd_wide_order.proofs.ReachLemmas.{passing_over}
use Rattle.bd_wide_order.proofs.MatchLemmas.{match_stays}

-- ---- codes

-- ranks in a table keep the order of the numbers
pub ranks_keep_order : (table : List ℤ) → KeepOrder (table_codes table)
ranks_keep_order table = λ path m n found. codes_rise table m n found

-- ---- filters

-- ranks in a table are the same at each path
pub all_read_alike : (table : List ℤ) (path : Names) → ReadsAlike (table_codes table) path
all_read_alike table path = passing_over (table_codes table) (λ before name after e. refl) path

mutual
  pub filter_needs : (table : List ℤ) (f : Filter) → FilterNeeds (table_codes table) f
  filter_needs table (all_of fs) = filters_need table fs
  filter_needs table (some_of fs) = filters_need table fs
  filter_needs table (none_of fs) = filters_need table fs
  filter_needs table (at_path path os) = (all_read_alike table path, operators_need table os)

  filters_need : (table : List ℤ) (fs : Filters) → FiltersNeed (table_codes table) fs
  filters_need table no_filters = tt
  filters_need table (filter f fs) = (filter_needs table f, filters_need table fs)

  operator_needs : (table : List ℤ) (o : Operator) → OperatorNeeds (table_codes table) o
  operator_needs table (equals v) = tt
  operator_needs table (differs v) = tt
  operator_needs table (compares r v) = tt
  operator_needs table (is_in vs) = tt
  operator_needs table (is_not_in vs) = tt
  operator_needs table (has_all vs) = tt
  operator_needs table (has_type ks) = refl
  operator_needs table (has_size n) = tt
  operator_needs table (exists b) = tt
  operator_needs table (negates os) = operators_need table os
  operator_needs table (has_element os) = operators_need table os
  operator_needs table (has_document fs) = filters_need table fs

  operators_need : (table : List ℤ) (os : Operators) → OperatorsNeed (table_codes table) os
  operators_need table no_operators = tt
  operators_need table (operator o os) = (operator_needs table o, operators_need table os)

pub ranks_match : (table : List ℤ) (f : Filter) → (t : Tree) → IsOf (table_codes table) t
    → matches (renumber_filter (table_codes table) f) (renumber (table_codes table) t) ≡ matches f t
ranks_match table f t are = match_stays (table_codes table) (ranks_keep_order table) f (filter_needs table f) t are
