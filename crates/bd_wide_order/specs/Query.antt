-- The document of a query with another number in place of each number that it compares with,
-- depending on the path, and another operand in place of each operand of `$type`.
-- The operands of `$size` and `$exists` stay;
-- inside a value that is compared as a whole these names are ordinary names.
use Rattle.std.specs.Prelude.{ℕ, List, if◌then◌else◌}
use Rattle.bd_value.specs.Tree.{Tree, doc, array, Items, no_items, item, Fields, no_fields, field, Doc, fields_of, pairs_of}
use Rattle.bd_path.specs.Path.{components_of}
use Rattle.bd_query_filter.specs.FilterOf.{first_is_operator, has_value_form}
use Rattle.bd_query_filter.specs.NameKind.{name_kind_of}
use Rattle.bd_query_filter.specs.declared.filter_of.{PlainOperator.PlainOperator, NameKind.NameKind}
use Rattle.bd_query_filter.specs.declared.filter_of.PlainOperator.TheVariants as plain
use Rattle.bd_query_filter.specs.declared.filter_of.NameKind.TheVariants as name_kinds
use Rattle.bd_cursor_request.specs.Request.{Request}
use Rattle.bd_wide_order.specs.Renumber.{FilterNeeds, Codes, SortsReadAlike, below, renumber, renumber_fields}
use Rattle.bd_wide_order.specs.Renumber.{renumber_filter}

-- the value of a pair of a query, by its name: filters for `$and`, `$or` and `$nor`, otherwise the value for a path
abbrev pub pair_value : NameKind → Tree → Tree → Tree
pair_value (name_kinds.Logical l) members value = members
pair_value w members value = value

-- the operand of an operator: `$size` and `$exists` keep theirs, `$type` gets other types, others get the new value
abbrev pub plain_operand : (Tree → Tree) → PlainOperator → Tree → Tree → Tree
plain_operand types plain.Size t value = t
plain_operand types plain.Exists t value = t
plain_operand types plain.Type t value = types t
plain_operand types p t value = value

-- the operand of an operator, by its name
abbrev pub operand : (Tree → Tree) → NameKind → Tree → Tree → Tree → Tree → Tree
operand types (name_kinds.Plain p) t value inverse element = plain_operand types p t value
operand types name_kinds.Not t value inverse element = inverse
operand types name_kinds.ElemMatch t value inverse element = element
operand types w t value inverse element = t

abbrev mutual
  -- the pairs of a document that is a filter, with other numbers
  pub query_fields : (Tree → Tree) → Codes → Fields → Fields
  query_fields types c no_fields = no_fields
  query_fields types c (field n t fs) =
      field n
      (pair_value (name_kind_of n) (query_members types c t) (query_value types (below (components_of n) c) t))
      (query_fields types c fs)

  -- the operand of `$and`, `$or` and `$nor`, with other numbers
  pub query_members : (Tree → Tree) → Codes → Tree → Tree
  query_members types c (array ts) = array (query_items types c ts)
  query_members types c t = t

  -- the members of the array of `$and`, `$or` or `$nor`, with other numbers
  pub query_items : (Tree → Tree) → Codes → Items → Items
  query_items types c no_items = no_items
  query_items types c (item t ts) = item (query_member types c t) (query_items types c ts)

  -- one member of `$and`, `$or` or `$nor`, which is a filter, with other numbers
  pub query_member : (Tree → Tree) → Codes → Tree → Tree
  query_member types c (doc fs) = doc (query_fields types c fs)
  query_member types c t = t

  -- the value of a path, operators or a value to equal, with other numbers
  pub query_value : (Tree → Tree) → Codes → Tree → Tree
  query_value types c (doc fs) =
      if first_is_operator fs then doc (query_operators types c fs) else doc (renumber_fields c fs)
  query_value types c t = renumber c t

  -- the operators of a path, with other numbers in their operands
  pub query_operators : (Tree → Tree) → Codes → Fields → Fields
  query_operators types c no_fields = no_fields
  query_operators types c (field n t fs) =
      field n
      (operand types (name_kind_of n) t (renumber c t) (query_inverse types c t) (query_element types c t))
      (query_operators types c fs)

  -- the operand of `$not`, with other numbers
  pub query_inverse : (Tree → Tree) → Codes → Tree → Tree
  query_inverse types c (doc fs) = doc (query_operators types c fs)
  query_inverse types c t = t

  -- the operand of `$elemMatch`, operators or a filter, with other numbers
  pub query_element : (Tree → Tree) → Codes → Tree → Tree
  query_element types c (doc fs) =
      if has_value_form fs then doc (query_operators types c fs) else doc (query_fields types c fs)
  query_element types c t = t

-- the document of a query, with other types in each `$type`, and another number in place of each number that it compares with
abbrev pub rewrite_query : (Tree → Tree) → Codes → Doc → Doc
rewrite_query types c d = pairs_of (query_fields types c (fields_of d))

-- the types that a `$type` has
abbrev pub same_types : Tree → Tree
same_types t = t

-- the document of a query, with another number in place of each number that it compares with
abbrev pub renumber_query : Codes → Doc → Doc
renumber_query c d = rewrite_query same_types c d

-- ---- requests

-- The filter and the sort of a request use only paths that read alike,
-- and the filter only numbers that may occur there.
abbrev pub RequestNeeds : Codes → Request → Type 0
RequestNeeds c r = FilterNeeds c r.filter × SortsReadAlike c r.sorts

-- the request with a renumbered filter, and with another text for the digest of its tokens
abbrev pub renumber_request : Codes → List ℕ → Request → Request
renumber_request c text r = record r { filter = renumber_filter c r.filter; text = text }
