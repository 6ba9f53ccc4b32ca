-- Filters (MongoDB manual, "Query and Projection Operators"), and the filter that a filter in memory means.
use Rattle.std.specs.Prelude.{ℕ, Bool, List, [], ◌∷◌, map}
use Rattle.bd_value.specs.{Tree.Tree, View.tree_of, declared.document.Value.Value, declared.node.Kind.Kind}
use Rattle.bd_path.specs.{Reach.Names, PathNames.names_of}
use Rattle.bd_query_filter.specs.declared.filter.Filter.{Filter as FilterInMemory, TheOpen.Filter-F, TheOpen.Operator-F}
use Rattle.bd_query_filter.specs.declared.filter.Filter.TheFolds.{fold-Filter, fold-Operator}
use Rattle.bd_query_filter.specs.declared.{filter.Members.Members, filter.Operator.Operator as OperatorInMemory}
use Rattle.bd_query_filter.specs.declared.operand.Relation.{Relation}
use Rattle.bd_query_filter.specs.declared.operand.Relation.TheVariants as relation

-- A list inside a filter has to be a type of its own: `Filters` and `Operators` are lists of them.
mutual
  -- a filter: each of some filters (`$and`, the pairs of a document), at least one (`$or`), or none (`$nor`);
  -- or operators of a path, which must all hold
  pub data Filter : Type 0 where
    all_of : Filters → Filter
    some_of : Filters → Filter
    none_of : Filters → Filter
    at_path : Names → Operators → Filter

  -- a list of filters
  pub data Filters : Type 0 where
    no_filters : Filters
    filter : Filter → Filters → Filters

  -- an operator of a path; `$ne` and `$nin` are operators of their own, not `$not` of `$eq` and `$in`,
  -- and `$elemMatch` has operators for an element, or a filter
  pub data Operator : Type 0 where
    equals : Tree → Operator
    differs : Tree → Operator
    compares : Relation → Tree → Operator
    is_in : List Tree → Operator
    is_not_in : List Tree → Operator
    has_all : List Tree → Operator
    has_type : List Kind → Operator
    has_size : ℕ → Operator
    exists : Bool → Operator
    negates : Operators → Operator
    has_element : Operators → Operator
    has_document : Filters → Operator

  -- a list of operators of one path
  pub data Operators : Type 0 where
    no_operators : Operators
    operator : Operator → Operators → Operators

-- a list of filters in the form that a filter contains, in the same order
abbrev pub filters_from : List Filter → Filters
filters_from [] = no_filters
filters_from (f ∷ fs) = filter f (filters_from fs)

-- a list of operators in the form that a filter contains, in the same order
abbrev pub operators_from : List Operator → Operators
operators_from [] = no_operators
operators_from (o ∷ os) = operator o (operators_from os)

-- ---- in memory

-- the members of `$in` and `$nin` in memory, in the order of the query
abbrev pub values_in : Members → List Value
values_in members = members.values.items

-- the values of the members of `$in` and `$nin`, in the order of the query
abbrev pub trees_in : Members → List Tree
trees_in members = map tree_of (values_in members)

-- one level of a filter in memory, whose parts are already read as filters and operators
abbrev pub filter_step : Filter-F Filter Operator → Filter
filter_step (Filter-F.And fs) = all_of (filters_from fs.items)
filter_step (Filter-F.Or fs) = some_of (filters_from fs.items)
filter_step (Filter-F.Nor fs) = none_of (filters_from fs.items)
filter_step (Filter-F.Field path os) = at_path (names_of path) (operators_from os.items)

-- one level of an operator, whose parts are already read
abbrev pub operator_step : Operator-F Filter Operator → Operator
operator_step (Operator-F.Equal v) = equals (tree_of v)
operator_step (Operator-F.NotEqual v) = differs (tree_of v)
operator_step (Operator-F.Greater v) = compares relation.Above (tree_of v)
operator_step (Operator-F.GreaterOrEqual v) = compares relation.AtLeast (tree_of v)
operator_step (Operator-F.Less v) = compares relation.Below (tree_of v)
operator_step (Operator-F.LessOrEqual v) = compares relation.AtMost (tree_of v)
operator_step (Operator-F.In members) = is_in (trees_in members)
operator_step (Operator-F.NotIn members) = is_not_in (trees_in members)
operator_step (Operator-F.All vs) = has_all (map tree_of vs.items)
operator_step (Operator-F.Size n) = has_size n
operator_step (Operator-F.Exists b) = exists b
operator_step (Operator-F.Type kinds) = has_type kinds.items
operator_step (Operator-F.Not os) = negates (operators_from os.items)
operator_step (Operator-F.ElemMatch os) = has_element (operators_from os.items)
operator_step (Operator-F.ElemMatchDocument fs) = has_document (filters_from fs.items)

-- the filter that a `Filter` in memory means
abbrev pub filter_tree : FilterInMemory → Filter
filter_tree = fold-Filter Filter Operator filter_step operator_step

-- the operator that an `Operator` in memory means
abbrev pub operator_tree : OperatorInMemory → Operator
operator_tree = fold-Operator Filter Operator filter_step operator_step
