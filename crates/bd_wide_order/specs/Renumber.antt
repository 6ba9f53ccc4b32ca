-- Values, documents and filters with another number in place of each whole number.
-- What a number becomes depends on its path: the names from the top down to it, without indexes of arrays.
use Rattle.std.specs.Prelude.{◌≡◌, ◌<ℤ◌, ℕ, ℤ, Bool, IsTrue, List, [], ◌∷◌, ◌++◌, map, All, codes, if◌then◌else◌}
use Rattle.bd_value.specs.Tree.{Scalar, int32, int64, Tree, leaf, doc, array, code_scope, Items, no_items, item}
use Rattle.bd_value.specs.Tree.{Fields, no_fields, field, Doc, fields_of}
use Rattle.bd_path.specs.{Reach.Names, Reach.is_index, Sort.SortPath}
use Rattle.bd_query_filter.specs.Filter.{Filter, all_of, some_of, none_of, at_path, Filters, no_filters, filter, Operator}
use Rattle.bd_query_filter.specs.Filter.{equals, differs, compares, is_in, is_not_in, has_all, has_type, has_size, exists, negates, has_element}
use Rattle.bd_query_filter.specs.Filter.{has_document, Operators, no_operators, operator}

-- for one path: what each number becomes, which numbers may occur, and whether an int32 stays an int32 or becomes an int64
pub record Code : Type 0 where
  pub becomes : ℤ → ℤ
  pub occurs : ℤ → Bool
  pub narrow : Bool

-- a code for each path
abbrev pub Codes : Type 0
Codes = Names → Code

-- the codes below a name
abbrev pub under : List ℕ → Codes → Codes
under name c = λ names. c (name ∷ names)

-- the codes below all names of a path
abbrev pub below : Names → Codes → Codes
below path c = λ names. c (path ++ names)

-- A number that occurs in documents compares with any number, also one that occurs in none, as their codes do.
-- Two numbers that occur in no document may have one code.
abbrev pub KeepsOrder : Code → Type 0
KeepsOrder c = (m n : ℤ) → IsTrue (c.occurs m) →
    (m <ℤ n → c.becomes m <ℤ c.becomes n) × (n <ℤ m → c.becomes n <ℤ c.becomes m)

-- At each path the code keeps the order of the numbers that occur there, beside all numbers.
abbrev pub KeepOrder : Codes → Type 0
KeepOrder c = (path : Names) → KeepsOrder (c path)

-- ---- paths of queries and sorts

-- Each reading of the path leads from the codes to these:
-- a name that is an index is the name of a field, or an index, which is no part of a path of values.
abbrev pub LeadTo : Codes → Names → Codes → Type 0
LeadTo c [] end = c ≡ end
LeadTo c (name ∷ rest) end =
    LeadTo (under name c) rest end × (IsTrue (is_index name) → LeadTo c rest end)

-- However the path is read, the numbers there have the codes that its names lead to.
abbrev pub ReadsAlike : Codes → Names → Type 0
ReadsAlike c path = LeadTo c path (below path c)

-- A name that is an index leads to no other codes.
abbrev pub PassOverIndexes : Codes → Type 0
PassOverIndexes c = (before : Names) (name : List ℕ) (after : Names) → IsTrue (is_index name) →
    c (before ++ name ∷ after) ≡ c (before ++ after)

-- Each path of a sort reads alike.
abbrev pub SortsReadAlike : Codes → List SortPath → Type 0
SortsReadAlike c ss = All (λ s. ReadsAlike c s.path) ss

-- ---- values

-- a whole number as an int32, or as an int64
abbrev pub whole : Bool → ℤ → Scalar
whole narrow n = if narrow then int32 n else int64 n

-- an int32 or an int64 as the number that it becomes; an int64 stays one.
-- Any other scalar stays, a date and a timestamp too
abbrev pub renumber_scalar : Code → Scalar → Scalar
renumber_scalar c (int32 n) = whole c.narrow (c.becomes n)
renumber_scalar c (int64 n) = int64 (c.becomes n)
renumber_scalar c s = s

-- the name that the scope of code with scope has in a path
abbrev pub scope_name : List ℕ
scope_name = codes "$scope"

-- a value with each number in it replaced; names stay, and so do dates and timestamps
abbrev mutual
  -- a value with another number in place of each int32 and int64, at any level
  pub renumber : Codes → Tree → Tree
  renumber c (leaf s) = leaf (renumber_scalar (c []) s)
  renumber c (doc fs) = doc (renumber_fields c fs)
  renumber c (array ts) = array (renumber_items c ts)
  renumber c (code_scope s fs) = code_scope s (renumber_fields (under scope_name c) fs)

  -- the elements of an array with other numbers; an index is no part of a path
  pub renumber_items : Codes → Items → Items
  renumber_items c no_items = no_items
  renumber_items c (item t ts) = item (renumber c t) (renumber_items c ts)

  -- the fields of a document with other numbers, each by the codes under its name
  pub renumber_fields : Codes → Fields → Fields
  renumber_fields c no_fields = no_fields
  renumber_fields c (field n t fs) = field n (renumber (under n c) t) (renumber_fields c fs)

-- a document with another number in place of each number, at any level; names stay
abbrev pub renumber_document : Codes → Doc → Doc
renumber_document c d = map (λ p. (p.0, renumber (under p.0 c) p.1)) d

-- the documents of a dump, each with its numbers replaced
abbrev pub renumber_documents : Codes → List Doc → List Doc
renumber_documents c ds = map (renumber_document c) ds

-- If a scalar is an int32 or an int64, it is a number that may occur.
abbrev pub ScalarIsOf : Code → Scalar → Type 0
ScalarIsOf c (int32 n) = IsTrue (c.occurs n)
ScalarIsOf c (int64 n) = IsTrue (c.occurs n)
ScalarIsOf c _ = Unit {0}

abbrev mutual
  -- Each number in a value, at any level, may occur at its path.
  pub IsOf : Codes → Tree → Type 0
  IsOf c (leaf s) = ScalarIsOf (c []) s
  IsOf c (doc fs) = FieldsAreOf c fs
  IsOf c (array ts) = ItemsAreOf c ts
  IsOf c (code_scope s fs) = FieldsAreOf (under scope_name c) fs

  -- Each number in the elements of an array may occur at the array's path: positions are no part of a path.
  pub ItemsAreOf : Codes → Items → Type 0
  ItemsAreOf c no_items = Unit {0}
  ItemsAreOf c (item t ts) = IsOf c t × ItemsAreOf c ts

  -- Each number in the fields of a document may occur at its path.
  pub FieldsAreOf : Codes → Fields → Type 0
  FieldsAreOf c no_fields = Unit {0}
  FieldsAreOf c (field n t fs) = IsOf (under n c) t × FieldsAreOf c fs

-- Each number in the documents of a dump may occur at its path.
abbrev pub DocumentsAreOf : Codes → List Doc → Type 0
DocumentsAreOf c ds = All (λ d. IsOf c (doc (fields_of d))) ds

-- ---- filters

-- A filter, with each value that it compares with: the numbers have the codes of the filter's path, and of their
-- own names below it. A size is a count of elements, and stays.
abbrev mutual
  -- a filter with other numbers in the values that it compares with
  pub renumber_filter : Codes → Filter → Filter
  renumber_filter c (all_of fs) = all_of (renumber_filters c fs)
  renumber_filter c (some_of fs) = some_of (renumber_filters c fs)
  renumber_filter c (none_of fs) = none_of (renumber_filters c fs)
  renumber_filter c (at_path path os) = at_path path (renumber_operators (below path c) os)

  -- each of the filters with other numbers
  pub renumber_filters : Codes → Filters → Filters
  renumber_filters c no_filters = no_filters
  renumber_filters c (filter f fs) = filter (renumber_filter c f) (renumber_filters c fs)

  -- an operator with other numbers; `$size`, `$exists` and `$type` stay
  pub renumber_operator : Codes → Operator → Operator
  renumber_operator c (equals v) = equals (renumber c v)
  renumber_operator c (differs v) = differs (renumber c v)
  renumber_operator c (compares r v) = compares r (renumber c v)
  renumber_operator c (is_in vs) = is_in (map (renumber c) vs)
  renumber_operator c (is_not_in vs) = is_not_in (map (renumber c) vs)
  renumber_operator c (has_all vs) = has_all (map (renumber c) vs)
  renumber_operator c (has_type ks) = has_type ks
  renumber_operator c (has_size n) = has_size n
  renumber_operator c (exists b) = exists b
  renumber_operator c (negates os) = negates (renumber_operators c os)
  renumber_operator c (has_element os) = has_element (renumber_operators c os)
  renumber_operator c (has_document fs) = has_document (renumber_filters c fs)

  -- each of the operators of a path with other numbers
  pub renumber_operators : Codes → Operators → Operators
  renumber_operators c no_operators = no_operators
  renumber_operators c (operator o os) = operator (renumber_operator c o) (renumber_operators c os)

-- Each path of a filter reads alike, and where it requests types, an int32 stays an int32.
abbrev mutual
  -- A filter depends only on what renumbering preserves: paths that read alike, and types only where they stay.
  pub FilterNeeds : Codes → Filter → Type 0
  FilterNeeds c (all_of fs) = FiltersNeed c fs
  FilterNeeds c (some_of fs) = FiltersNeed c fs
  FilterNeeds c (none_of fs) = FiltersNeed c fs
  FilterNeeds c (at_path path os) = ReadsAlike c path × OperatorsNeed (below path c) os

  -- Each of the filters depends only on what renumbering preserves.
  pub FiltersNeed : Codes → Filters → Type 0
  FiltersNeed c no_filters = Unit {0}
  FiltersNeed c (filter f fs) = FilterNeeds c f × FiltersNeed c fs

  -- An operator depends only on what renumbering preserves.
  pub OperatorNeeds : Codes → Operator → Type 0
  OperatorNeeds c (equals v) = Unit {0}
  OperatorNeeds c (differs v) = Unit {0}
  OperatorNeeds c (compares r v) = Unit {0}
  OperatorNeeds c (is_in vs) = Unit {0}
  OperatorNeeds c (is_not_in vs) = Unit {0}
  OperatorNeeds c (has_all vs) = Unit {0}
  OperatorNeeds c (has_type ks) = IsTrue (c []).narrow
  OperatorNeeds c (has_size n) = Unit {0}
  OperatorNeeds c (exists b) = Unit {0}
  OperatorNeeds c (negates os) = OperatorsNeed c os
  OperatorNeeds c (has_element os) = OperatorsNeed c os
  OperatorNeeds c (has_document fs) = FiltersNeed c fs

  -- Each of the operators of a path depends only on what renumbering preserves.
  pub OperatorsNeed : Codes → Operators → Type 0
  OperatorsNeed c no_operators = Unit {0}
  OperatorsNeed c (operator o os) = OperatorNeeds c o × OperatorsNeed c os
