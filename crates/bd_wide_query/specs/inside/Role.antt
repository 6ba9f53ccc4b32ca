-- What a value of a query is, and what becomes of it: used only in proofs.
use Rattle.std.specs.Prelude.{Bool, true, false, if◌then◌else◌}
use Rattle.bd_value.specs.Tree.{Tree, Items, no_items, item, Fields, no_fields, field}
use Rattle.bd_query_filter.specs.FilterOf.{first_is_operator, has_value_form}
use Rattle.bd_query_filter.specs.NameKind.{name_kind_of}
use Rattle.bd_query_filter.specs.declared.filter_of.{PlainOperator.PlainOperator, NameKind.NameKind}
use Rattle.bd_query_filter.specs.declared.filter_of.PlainOperator.TheVariants as plain
use Rattle.bd_query_filter.specs.declared.filter_of.NameKind.TheVariants as name_kinds
use Rattle.bd_wide_order.specs.Renumber.{Codes, renumber}
use Rattle.bd_wide_order.specs.Query.{query_members, query_member, query_value, query_inverse, query_element}
use Rattle.bd_wide_copy.specs.declared.longs.Longs.{Longs}
use Rattle.bd_wide_query.specs.Types.{type_by_class, types_by_class}
use Rattle.bd_wide_query.specs.declared.role.{Role.Role, Pairs.Pairs, Meaning.Meaning}
use Rattle.bd_wide_query.specs.declared.role.Role.TheVariants as roles
use Rattle.bd_wide_query.specs.declared.role.Pairs.TheVariants as pair_kinds
use Rattle.bd_wide_query.specs.declared.role.Meaning.TheVariants as meanings

-- ---- names

-- what an operator with values means: `$size` and `$exists` do not compare with their operand, and that of `$type` is types
abbrev pub plain_meaning : PlainOperator → Meaning
plain_meaning plain.Size = meanings.Other
plain_meaning plain.Exists = meanings.Other
plain_meaning plain.Type = meanings.Types
plain_meaning p = meanings.Compares

-- what a name means
abbrev pub meaning_of : NameKind → Meaning
meaning_of (name_kinds.Logical l) = meanings.Logical
meaning_of (name_kinds.Plain p) = plain_meaning p
meaning_of name_kinds.Not = meanings.Not
meaning_of name_kinds.ElemMatch = meanings.ElemMatch
meaning_of name_kinds.Omitted = meanings.Other
meaning_of name_kinds.Unknown = meanings.Other
meaning_of name_kinds.Field = meanings.Field

-- ---- roles

-- whether a number here is compared with
abbrev pub is_compared : Role → Bool
is_compared roles.Value = true
is_compared roles.Compared = true
is_compared p = false

-- whether types are here
abbrev pub is_types : Role → Bool
is_types roles.Types = true
is_types p = false

-- the role of the elements of an array
abbrev pub item_role : Role → Role
item_role roles.Filters = roles.Filter
item_role roles.Value = roles.Compared
item_role roles.Compared = roles.Compared
item_role roles.Types = roles.Types
item_role p = roles.Other

-- what the pairs of a document are
abbrev pub pairs_in : Role → Fields → Pairs
pairs_in roles.Filter fs = pair_kinds.Filter
pairs_in roles.Value fs = if first_is_operator fs then pair_kinds.Operators else pair_kinds.Compared
pairs_in roles.Inverse fs = pair_kinds.Operators
pairs_in roles.Element fs = if has_value_form fs then pair_kinds.Operators else pair_kinds.Filter
pairs_in roles.Compared fs = pair_kinds.Compared
pairs_in p fs = pair_kinds.Other

-- what the pairs of the scope of code are
abbrev pub scope_pairs : Role → Pairs
scope_pairs p = if is_compared p then pair_kinds.Compared else pair_kinds.Other

-- the role of the operand of an operator
abbrev pub operand_role : Meaning → Role
operand_role meanings.Compares = roles.Compared
operand_role meanings.Not = roles.Inverse
operand_role meanings.ElemMatch = roles.Element
operand_role meanings.Types = roles.Types
operand_role m = roles.Other

-- the role of the value of a pair of a filter
abbrev pub pair_role : Meaning → Role
pair_role meanings.Logical = roles.Filters
pair_role m = roles.Value

-- the role of the value of a pair
abbrev pub value_role : Pairs → NameKind → Role
value_role pair_kinds.Filter w = pair_role (meaning_of w)
value_role pair_kinds.Operators w = operand_role (meaning_of w)
value_role pair_kinds.Compared w = roles.Compared
value_role pair_kinds.Other w = roles.Other

-- ---- what becomes of a value

-- the value at a role, with other numbers
abbrev pub at_role : Longs → Codes → Role → Tree → Tree
at_role longs c roles.Filters t = query_members (types_by_class longs) c t
at_role longs c roles.Filter t = query_member (types_by_class longs) c t
at_role longs c roles.Value t = query_value (types_by_class longs) c t
at_role longs c roles.Inverse t = query_inverse (types_by_class longs) c t
at_role longs c roles.Element t = query_element (types_by_class longs) c t
at_role longs c roles.Compared t = renumber c t
at_role longs c roles.Types t = types_by_class longs t
at_role longs c roles.Other t = t

-- a scalar at a role where no number is compared with
abbrev pub kept_at : Longs → Role → Tree → Tree
kept_at longs p t = if is_types p then type_by_class longs t else t

-- the pairs of a document, with other numbers
abbrev pub pairs_at : Longs → Codes → Pairs → Fields → Fields
pairs_at longs c p no_fields = no_fields
pairs_at longs c p (field n t fs) = field n (at_role longs c (value_role p (name_kind_of n)) t) (pairs_at longs c p fs)

-- the elements of an array, each at this role, with other numbers
abbrev pub items_at : Longs → Codes → Role → Items → Items
items_at longs c p no_items = no_items
items_at longs c p (item t ts) = item (at_role longs c p t) (items_at longs c p ts)
