-- What becomes of a value at its role is what `renumber_query` says, if all paths have the same codes.
use Rattle.std.proofs.Common.{◌≡◌, ℕ, List, Bool, true, false, cond, refl, ap, ap₂}
use Rattle.bd_value.specs.Tree.{Scalar, Tree, leaf, doc, array, code_scope, Items, no_items, item, Fields, no_fields, field}
use Rattle.bd_query_filter.specs.FilterOf.{first_is_operator, has_value_form}
use Rattle.bd_query_filter.specs.NameKind.{name_kind_of}
use Rattle.bd_query_filter.specs.declared.filter_of.{PlainOperator.PlainOperator, NameKind.NameKind}
use Rattle.bd_query_filter.specs.declared.filter_of.PlainOperator.TheVariants as plain
use Rattle.bd_query_filter.specs.declared.filter_of.NameKind.TheVariants as name_kinds
use Rattle.bd_wide_order.specs.Renumber.{Code, Codes, renumber, renumber_fields, renumber_items, renumber_scalar}
use Rattle.bd_wide_order.specs.Query.{operand, pair_value, query_element, query_fields, query_inverse, query_items, query_member, query_members, query_operators, query_value}
use Rattle.bd_wide_copy.specs.declared.longs.Longs.{Longs}
use Rattle.bd_wide_query.specs.Types.{each_by_class, types_by_class}
use Rattle.bd_wide_query.specs.declared.role.{Role.Role}
use Rattle.bd_wide_query.specs.declared.role.Role.TheVariants as roles
use Rattle.bd_wide_query.specs.declared.role.Pairs.TheVariants as pair_kinds
use Rattle.bd_wide_query.specs.inside.Role.{at_role, is_compared, item_role, kept_at, items_at, pair_role, pairs_at, pairs_in, plain_meaning, scope_pairs, value_role}

module _ (longs : Longs) (k : Code) where
  abbrev c : Codes
  c = λ path. k

  pair_is : (w : NameKind) (t : Tree) → pair_value w (query_members (types_by_class longs) c t) (query_value (types_by_class longs) c t) ≡ at_role longs c (value_role pair_kinds.Filter w) t
  pair_is (name_kinds.Logical l) t = refl
  pair_is (name_kinds.Plain p) t = plain_pair p t
    where
      plain_pair : (p : PlainOperator) (t : Tree) → query_value (types_by_class longs) c t ≡ at_role longs c (pair_role (plain_meaning p)) t
      plain_pair plain.Size t = refl
      plain_pair _ t = refl
  pair_is _ t = refl

  operand_is : (w : NameKind) (t : Tree) → operand (types_by_class longs) w t (renumber c t) (query_inverse (types_by_class longs) c t) (query_element (types_by_class longs) c t) ≡ at_role longs c (value_role pair_kinds.Operators w) t
  operand_is (name_kinds.Plain plain.Size) t = refl
  operand_is (name_kinds.Plain _) t = refl
  operand_is _ t = refl

  pub filter_pairs : (fs : Fields) → query_fields (types_by_class longs) c fs ≡ pairs_at longs c pair_kinds.Filter fs
  filter_pairs no_fields = refl
  filter_pairs (field n t fs) = ap₂ (field n) (pair_is (name_kind_of n) t) (filter_pairs fs)

  operator_pairs : (fs : Fields) → query_operators (types_by_class longs) c fs ≡ pairs_at longs c pair_kinds.Operators fs
  operator_pairs no_fields = refl
  operator_pairs (field n t fs) = ap₂ (field n) (operand_is (name_kind_of n) t) (operator_pairs fs)

  compared_pairs : (fs : Fields) → renumber_fields c fs ≡ pairs_at longs c pair_kinds.Compared fs
  compared_pairs no_fields = refl
  compared_pairs (field n t fs) = ap (field n (renumber c t)) (compared_pairs fs)

  other_pairs : (fs : Fields) → fs ≡ pairs_at longs c pair_kinds.Other fs
  other_pairs no_fields = refl
  other_pairs (field n t fs) = ap (field n t) (other_pairs fs)

  filter_items : (ts : Items) → query_items (types_by_class longs) c ts ≡ items_at longs c roles.Filter ts
  filter_items no_items = refl
  filter_items (item t ts) = ap (item (query_member (types_by_class longs) c t)) (filter_items ts)

  compared_items : (ts : Items) → renumber_items c ts ≡ items_at longs c roles.Compared ts
  compared_items no_items = refl
  compared_items (item t ts) = ap (item (renumber c t)) (compared_items ts)

  other_items : (ts : Items) → ts ≡ items_at longs c roles.Other ts
  other_items no_items = refl
  other_items (item t ts) = ap (item t) (other_items ts)

  value_chosen : (b : Bool) (fs : Fields)
      → cond b (doc (query_operators (types_by_class longs) c fs)) (doc (renumber_fields c fs)) ≡ doc (pairs_at longs c (cond b pair_kinds.Operators pair_kinds.Compared) fs)
  value_chosen true fs = ap doc (operator_pairs fs)
  value_chosen false fs = ap doc (compared_pairs fs)

  element_chosen : (b : Bool) (fs : Fields)
      → cond b (doc (query_operators (types_by_class longs) c fs)) (doc (query_fields (types_by_class longs) c fs)) ≡ doc (pairs_at longs c (cond b pair_kinds.Operators pair_kinds.Filter) fs)
  element_chosen true fs = ap doc (operator_pairs fs)
  element_chosen false fs = ap doc (filter_pairs fs)

  type_items : (ts : Items) → each_by_class longs ts ≡ items_at longs c roles.Types ts
  type_items no_items = refl
  type_items (item t ts) = ap (item (types_by_class longs t)) (type_items ts)

  -- a document
  pub at_document : (p : Role) (fs : Fields) → at_role longs c p (doc fs) ≡ doc (pairs_at longs c (pairs_in p fs) fs)
  at_document roles.Filters fs = ap doc (other_pairs fs)
  at_document roles.Filter fs = ap doc (filter_pairs fs)
  at_document roles.Value fs = value_chosen (first_is_operator fs) fs
  at_document roles.Inverse fs = ap doc (operator_pairs fs)
  at_document roles.Element fs = element_chosen (has_value_form fs) fs
  at_document roles.Compared fs = ap doc (compared_pairs fs)
  at_document roles.Types fs = ap doc (other_pairs fs)
  at_document roles.Other fs = ap doc (other_pairs fs)

  -- an array
  pub at_array : (p : Role) (ts : Items) → at_role longs c p (array ts) ≡ array (items_at longs c (item_role p) ts)
  at_array roles.Filters ts = ap array (filter_items ts)
  at_array roles.Value ts = ap array (compared_items ts)
  at_array roles.Compared ts = ap array (compared_items ts)
  at_array roles.Filter ts = ap array (other_items ts)
  at_array roles.Inverse ts = ap array (other_items ts)
  at_array roles.Element ts = ap array (other_items ts)
  at_array roles.Types ts = ap array (type_items ts)
  at_array roles.Other ts = ap array (other_items ts)

  -- code with scope
  pub at_scope : (p : Role) (s : List ℕ) (fs : Fields) → at_role longs c p (code_scope s fs) ≡ code_scope s (pairs_at longs c (scope_pairs p) fs)
  at_scope roles.Value s fs = ap (code_scope s) (compared_pairs fs)
  at_scope roles.Compared s fs = ap (code_scope s) (compared_pairs fs)
  at_scope roles.Filters s fs = ap (code_scope s) (other_pairs fs)
  at_scope roles.Filter s fs = ap (code_scope s) (other_pairs fs)
  at_scope roles.Inverse s fs = ap (code_scope s) (other_pairs fs)
  at_scope roles.Element s fs = ap (code_scope s) (other_pairs fs)
  at_scope roles.Types s fs = ap (code_scope s) (other_pairs fs)
  at_scope roles.Other s fs = ap (code_scope s) (other_pairs fs)

  -- any other scalar
  pub at_leaf : (p : Role) (s : Scalar) → at_role longs c p (leaf s) ≡ cond (is_compared p) (leaf (renumber_scalar k s)) (kept_at longs p (leaf s))
  at_leaf roles.Value s = refl
  at_leaf roles.Compared s = refl
  at_leaf roles.Filters s = refl
  at_leaf roles.Filter s = refl
  at_leaf roles.Inverse s = refl
  at_leaf roles.Element s = refl
  at_leaf roles.Types s = refl
  at_leaf roles.Other s = refl
