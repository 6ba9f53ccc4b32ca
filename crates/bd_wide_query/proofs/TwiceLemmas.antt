-- A query that is renumbered twice is renumbered once, by both codes in turn.
use Rattle.std.proofs.Common.{◌≡◌, List, [], Bool, true, false, cond, Option, Some, None, MatchOption, Result, Ok, Err, IfOk, IsUtf8, refl, sym, ap, ap₂, subst, ◌∙◌}
use Rattle.std.specs.Prelude.{ℤ, ◌&&◌}
use Rattle.bd_value.specs.Tree.{Scalar, int32, Tree, leaf, doc, array, code_scope, Items, no_items, item, Fields, no_fields, field, Doc}
use Rattle.bd_value.specs.Tree.{fields_of, pairs_of, fields_of-pairs_of, pairs_of-fields_of}
use Rattle.bd_value.specs.{Fits.FieldsFit, Fits.Fits, View.pairs, declared.document.Document.Document}
use Rattle.bd_path.specs.Path.{components_of}
use Rattle.bd_query_filter.specs.FilterOf.{first_is_operator, has_value_form}
use Rattle.bd_query_filter.specs.NameKind.{name_kind_of}
use Rattle.bd_query_filter.specs.declared.filter_of.{NameKind.NameKind}
use Rattle.bd_query_filter.specs.declared.filter_of.PlainOperator.TheVariants as plain
use Rattle.bd_query_filter.specs.declared.filter_of.NameKind.TheVariants as name_kinds
use Rattle.bd_wide_number.specs.declared.number.Number.{Number}
use Rattle.bd_wide_order.specs.Renumber.{Code, Codes, whole, below, under, renumber, renumber_fields, renumber_items, renumber_scalar, scope_name}
use Rattle.bd_wide_order.specs.Query.{operand, pair_value, query_element, query_fields, query_inverse, query_items, query_member, query_members, query_operators, query_value}
use Rattle.bd_wide_order.specs.Query.{renumber_query, rewrite_query, same_types}
use Rattle.bd_wide_query.specs.{Coded.coded_query, Tagged.tagged_fields}
use Rattle.bd_wide_query.specs.inside.Coding.{codes_of_tags, GivesPairs}
use Rattle.bd_wide_copy.specs.declared.longs.Longs.{Longs}
use Rattle.bd_wide_query.specs.Types.{types_by_class}
use Rattle.bd_wide_query.specs.inside.Role.{pairs_at}
use Rattle.bd_wide_query.specs.declared.role.Pairs.TheVariants as pair_kinds
use Rattle.bd_wide_query.proofs.RoleLemmas.{filter_pairs}

-- the code of d, and then that of c
abbrev both : Codes → Codes → Codes
both d c path = record { becomes = λ z. (c path).becomes ((d path).becomes z); occurs = (d path).occurs; narrow = (d path).narrow && (c path).narrow }

abbrev both_code : Code → Code → Code
both_code d c = record { becomes = λ z. c.becomes (d.becomes z); occurs = d.occurs; narrow = d.narrow && c.narrow }

scalar_twice : (d c : Code) (s : Scalar) → renumber_scalar c (renumber_scalar d s) ≡ renumber_scalar (both_code d c) s
scalar_twice d c (int32 z) = number_twice d.narrow
  where
    number_twice : (narrow : Bool) → renumber_scalar c (whole narrow (d.becomes z)) ≡ whole (narrow && c.narrow) (c.becomes (d.becomes z))
    number_twice true = refl
    number_twice false = refl
scalar_twice d c _ = refl

mutual
  value_twice : (d c : Codes) (t : Tree) → renumber c (renumber d t) ≡ renumber (both d c) t
  value_twice d c (leaf s) = ap leaf (scalar_twice (d []) (c []) s)
  value_twice d c (doc fs) = ap doc (fields_twice d c fs)
  value_twice d c (array ts) = ap array (items_twice d c ts)
  value_twice d c (code_scope s fs) = ap (code_scope s) (fields_twice (under scope_name d) (under scope_name c) fs)

  fields_twice : (d c : Codes) (fs : Fields) → renumber_fields c (renumber_fields d fs) ≡ renumber_fields (both d c) fs
  fields_twice d c no_fields = refl
  fields_twice d c (field n t fs) = ap₂ (field n) (value_twice (under n d) (under n c) t) (fields_twice d c fs)

  items_twice : (d c : Codes) (ts : Items) → renumber_items c (renumber_items d ts) ≡ renumber_items (both d c) ts
  items_twice d c no_items = refl
  items_twice d c (item t ts) = ap₂ item (value_twice d c t) (items_twice d c ts)

-- ---- what is chosen stays chosen

pair_chosen : (w : NameKind) (f g : Tree → Tree) (a b x y : Tree) → f a ≡ x → g b ≡ y → pair_value w (f (pair_value w a b)) (g (pair_value w a b)) ≡ pair_value w x y
pair_chosen (name_kinds.Logical l) f g a b x y e h = e
pair_chosen _ f g a b x y e h = h

operand_chosen : (types : Tree → Tree) (w : NameKind) (f g h : Tree → Tree) (t a i l x y z : Tree) → f a ≡ x → g i ≡ y → h l ≡ z
    → operand same_types w (operand types w t a i l) (f (operand types w t a i l)) (g (operand types w t a i l)) (h (operand types w t a i l)) ≡ operand types w t x y z
operand_chosen types (name_kinds.Plain plain.Size) f g h t a i l x y z e m n = refl
operand_chosen types (name_kinds.Plain plain.Exists) f g h t a i l x y z e m n = refl
operand_chosen types (name_kinds.Plain plain.Type) f g h t a i l x y z e m n = refl
operand_chosen types (name_kinds.Plain _) f g h t a i l x y z e m n = e
operand_chosen types name_kinds.Not f g h t a i l x y z e m n = m
operand_chosen types name_kinds.ElemMatch f g h t a i l x y z e m n = n
operand_chosen types _ f g h t a i l x y z e m n = refl

module _ (types : Tree → Tree) (d : Codes) where
  operators_first : (fs : Fields) → first_is_operator (query_operators types d fs) ≡ first_is_operator fs
  operators_first no_fields = refl
  operators_first (field n t fs) = refl

  values_first : (fs : Fields) → first_is_operator (renumber_fields d fs) ≡ first_is_operator fs
  values_first no_fields = refl
  values_first (field n t fs) = refl

  operators_form : (fs : Fields) → has_value_form (query_operators types d fs) ≡ has_value_form fs
  operators_form no_fields = refl
  operators_form (field n t fs) = refl

  pairs_form : (fs : Fields) → has_value_form (query_fields types d fs) ≡ has_value_form fs
  pairs_form no_fields = refl
  pairs_form (field n t fs) = refl

module _ (types : Tree → Tree) (d c e : Codes) (fs : Fields) where
  value_chosen : (b : Bool) → first_is_operator fs ≡ b → query_operators same_types c (query_operators types d fs) ≡ query_operators types e fs
      → renumber_fields c (renumber_fields d fs) ≡ renumber_fields e fs
      → query_value same_types c (cond b (doc (query_operators types d fs)) (doc (renumber_fields d fs))) ≡ cond b (doc (query_operators types e fs)) (doc (renumber_fields e fs))
  value_chosen true is operators values =
      ap (λ x. cond x (doc (query_operators same_types c (query_operators types d fs))) (doc (renumber_fields c (query_operators types d fs)))) (operators_first types d fs ∙ is) ∙ ap doc operators
  value_chosen false is operators values =
      ap (λ x. cond x (doc (query_operators same_types c (renumber_fields d fs))) (doc (renumber_fields c (renumber_fields d fs)))) (values_first types d fs ∙ is) ∙ ap doc values

  element_chosen : (b : Bool) → has_value_form fs ≡ b → query_operators same_types c (query_operators types d fs) ≡ query_operators types e fs
      → query_fields same_types c (query_fields types d fs) ≡ query_fields types e fs
      → query_element same_types c (cond b (doc (query_operators types d fs)) (doc (query_fields types d fs))) ≡ cond b (doc (query_operators types e fs)) (doc (query_fields types e fs))
  element_chosen true is operators pairs =
      ap (λ x. cond x (doc (query_operators same_types c (query_operators types d fs))) (doc (query_fields same_types c (query_operators types d fs)))) (operators_form types d fs ∙ is) ∙ ap doc operators
  element_chosen false is operators pairs =
      ap (λ x. cond x (doc (query_operators same_types c (query_fields types d fs))) (doc (query_fields same_types c (query_fields types d fs)))) (pairs_form types d fs ∙ is) ∙ ap doc pairs

-- ---- the parts of a query

mutual
  pairs_twice : (types : Tree → Tree) (d c : Codes) (fs : Fields) → query_fields same_types c (query_fields types d fs) ≡ query_fields types (both d c) fs
  pairs_twice types d c no_fields = refl
  pairs_twice types d c (field n t fs) =
      let p = components_of n in
      ap₂ (field n)
      (pair_chosen (name_kind_of n) (query_members same_types c) (query_value same_types (below p c)) (query_members types d t) (query_value types (below p d) t)
      (query_members types (both d c) t) (query_value types (below p (both d c)) t) (members_twice types d c t) (path_twice types (below p d) (below p c) t))
      (pairs_twice types d c fs)

  members_twice : (types : Tree → Tree) (d c : Codes) (t : Tree) → query_members same_types c (query_members types d t) ≡ query_members types (both d c) t
  members_twice types d c (leaf s) = refl
  members_twice types d c (doc fs) = refl
  members_twice types d c (array ts) = ap array (filters_twice types d c ts)
  members_twice types d c (code_scope s fs) = refl

  filters_twice : (types : Tree → Tree) (d c : Codes) (ts : Items) → query_items same_types c (query_items types d ts) ≡ query_items types (both d c) ts
  filters_twice types d c no_items = refl
  filters_twice types d c (item t ts) = ap₂ item (member_twice types d c t) (filters_twice types d c ts)

  member_twice : (types : Tree → Tree) (d c : Codes) (t : Tree) → query_member same_types c (query_member types d t) ≡ query_member types (both d c) t
  member_twice types d c (leaf s) = refl
  member_twice types d c (doc fs) = ap doc (pairs_twice types d c fs)
  member_twice types d c (array ts) = refl
  member_twice types d c (code_scope s fs) = refl

  path_twice : (types : Tree → Tree) (d c : Codes) (t : Tree) → query_value same_types c (query_value types d t) ≡ query_value types (both d c) t
  path_twice types d c (leaf s) = value_twice d c (leaf s)
  path_twice types d c (doc fs) = value_chosen types d c (both d c) fs (first_is_operator fs) refl (operators_twice types d c fs) (fields_twice d c fs)
  path_twice types d c (array ts) = value_twice d c (array ts)
  path_twice types d c (code_scope s fs) = value_twice d c (code_scope s fs)

  operators_twice : (types : Tree → Tree) (d c : Codes) (fs : Fields) → query_operators same_types c (query_operators types d fs) ≡ query_operators types (both d c) fs
  operators_twice types d c no_fields = refl
  operators_twice types d c (field n t fs) =
      ap₂ (field n)
      (operand_chosen types (name_kind_of n) (renumber c) (query_inverse same_types c) (query_element same_types c) t (renumber d t) (query_inverse types d t) (query_element types d t)
      (renumber (both d c) t) (query_inverse types (both d c) t) (query_element types (both d c) t) (value_twice d c t) (inverse_twice types d c t) (element_twice types d c t))
      (operators_twice types d c fs)

  inverse_twice : (types : Tree → Tree) (d c : Codes) (t : Tree) → query_inverse same_types c (query_inverse types d t) ≡ query_inverse types (both d c) t
  inverse_twice types d c (leaf s) = refl
  inverse_twice types d c (doc fs) = ap doc (operators_twice types d c fs)
  inverse_twice types d c (array ts) = refl
  inverse_twice types d c (code_scope s fs) = refl

  element_twice : (types : Tree → Tree) (d c : Codes) (t : Tree) → query_element same_types c (query_element types d t) ≡ query_element types (both d c) t
  element_twice types d c (leaf s) = refl
  element_twice types d c (doc fs) = element_chosen types d c (both d c) fs (has_value_form fs) refl (operators_twice types d c fs) (pairs_twice types d c fs)
  element_twice types d c (array ts) = refl
  element_twice types d c (code_scope s fs) = refl

-- ---- a whole query

pub query_twice : (types : Tree → Tree) (d c : Codes) (q : Doc) → renumber_query c (rewrite_query types d q) ≡ rewrite_query types (both d c) q
query_twice types d c q =
    ap (λ (fs : Fields). pairs_of (query_fields same_types c fs)) (fields_of-pairs_of (query_fields types d (fields_of q))) ∙ ap pairs_of (pairs_twice types d c (fields_of q))

-- the query with codes, by the role of each value
pub query_at : (table : List ℤ) (longs : Longs) (numbers : List Number) (wholes texts : Doc)
    → coded_query table longs numbers wholes texts ≡ pairs_of (pairs_at longs (codes_of_tags table) pair_kinds.Filter (tagged_fields numbers (fields_of wholes) (fields_of texts)))
query_at table longs numbers wholes texts =
    let ms = tagged_fields numbers (fields_of wholes) (fields_of texts) in
    query_twice (types_by_class longs) _ _ (pairs_of ms)
    ∙ ap (λ (fs : Fields). pairs_of (query_fields (types_by_class longs) (codes_of_tags table) fs)) (fields_of-pairs_of ms)
    ∙ ap pairs_of (filter_pairs longs (codes_of_tags table []) ms)

-- reading all pairs gives the query with codes
module _ (table : List ℤ) (longs : Longs) (numbers : List Number) (wholes texts ws ts : Doc) (first : ws ≡ pairs_of (fields_of wholes)) (second : ts ≡ pairs_of (fields_of texts)) where
  abbrev coded : Fields
  coded = pairs_at longs (codes_of_tags table) pair_kinds.Filter (tagged_fields numbers (fields_of ws) (fields_of ts))

  all_coded : coded_query table longs numbers wholes texts ≡ pairs_of coded
  all_coded =
      query_at table longs numbers wholes texts
      ∙ ap₂ (λ (x y : Fields). pairs_of (pairs_at longs (codes_of_tags table) pair_kinds.Filter (tagged_fields numbers x y)))
      (sym (ap fields_of first ∙ fields_of-pairs_of (fields_of wholes))) (sym (ap fields_of second ∙ fields_of-pairs_of (fields_of texts)))

  whole_chosen : (after : List Number) (o : Option Document) → GivesPairs table longs pair_kinds.Filter numbers (fields_of ws) (fields_of ts) after o
      → MatchOption o (Fits (doc (fields_of (coded_query table longs numbers wholes texts))) → ⊥) (λ d. pairs d ≡ coded_query table longs numbers wholes texts)
  whole_chosen after None given =
      let P : Fields → Type 0 = FieldsFit IsUtf8 in
      λ fits. given (subst P (ap fields_of all_coded ∙ fields_of-pairs_of coded) fits)
  whole_chosen after (Some d) given = sym (pairs_of-fields_of (pairs d)) ∙ ap pairs_of given.0 ∙ sym all_coded

  pub whole_given : {E : Type 0} (after : List Number) (r : Result (Option Document) E) → IfOk r (GivesPairs table longs pair_kinds.Filter numbers (fields_of ws) (fields_of ts) after)
      → IfOk r (λ o. MatchOption o (Fits (doc (fields_of (coded_query table longs numbers wholes texts))) → ⊥) (λ d. pairs d ≡ coded_query table longs numbers wholes texts))
  whole_given after (Ok o) given = whole_chosen after o given
  whole_given after (Err e) given = given
