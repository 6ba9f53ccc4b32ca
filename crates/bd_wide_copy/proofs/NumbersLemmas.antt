-- The numbers that are collected from the bytes of a document are its numbers.
use Rattle.std.proofs.Common.{◌≡◌, ℕ, ℤ, zero, suc, ◌+◌, ◌≤◌, ◌<◌, append-nil, Result, Ok, Err, OnOk, List, [], ◌∷◌, ◌++◌, length, take, drop, map, Some, refl, sym, ap, ap₂, ◌∙◌, subst, arith, append_assoc, length-append, take_at, drop_at, max, inl, inr}
use Rattle.std.proofs.lemmas.{List.map-append}
use Rattle.std.proofs.Math.Nat.{le-max_left, le-max_right}
use Rattle.bd_value.specs.{Limits.longest_document, View.scalar_kind}
use Rattle.bd_value.specs.Tree as trees
use Rattle.bd_value.specs.Tree.{Scalar, Tree, leaf, doc, array, code_scope, Items, no_items, item, Fields, no_fields, field, Doc, fields_of, depth, fields_depth, items_depth}
use Rattle.bd_bson_view.specs.declared.raw_parts.ElementType.{ElementType}
use Rattle.bd_bson_view.specs.declared.raw_parts.ElementType.TheVariants.{Kept}
use Rattle.bd_wide_number.specs.declared.number.Number.TheVariants as numbers
use Rattle.std.specs.Int.{w32, w64, cast_signed}
use Rattle.bd_bson_view.specs.Sizes.{long_of, number_of}
use Rattle.bd_bson_view.specs.declared.raw_parts.Holder.TheVariants as holders
use Rattle.bd_bson_view.specs.Spelling.{type_at, framed, scoped, IsName, IsText, IsValueBy, AreFieldsBy, AreItemsBy, IsDocumentBy, NumberKind, as_double, as_int32, as_int64, as_decimal128, number_type, IsNumber, valued, IsValuedScalar, written_typed}
use Rattle.bd_bson_view.proofs.ValueAtLemmas as values
use Rattle.bd_wide_number.specs.declared.number.Number.{Number}
use Rattle.bd_wide.specs.Rewritten.{first_element, size_at, part_of, scope_at}
use Rattle.bd_wide_copy.proofs.PlaceLemmas.{Place, Other, number_or_other, number_place, other_place, doc_place, array_place, code_place, number_part, first_there, scope_there, inner_is, scope_is, body_short, code_short, value_short, parts_short}
use Rattle.bd_wide.specs.Numbers.{number_at}
use Rattle.bd_wide_copy.specs.Numbers.{AddsNumbers, AreNumbersOf, IsWorthOf, numbers_of, field_numbers, item_numbers}
use Rattle.bd_wide_copy.proofs.CollectLemmas.{collected_small}
use Rattle.bd_wide_copy.specs.inside.Collected.{listed, body_of, inside, scope_body, part_numbers, next_numbers, element_numbers, level_numbers, collected}

-- ---- the first element, and the others

no_elements : (nested : List ℕ → List Number) (n : ℕ) → element_numbers nested n [] ≡ []
unfolding element_numbers first_element
no_elements nested zero = refl
no_elements nested (suc n) = refl

split_numbers : (nested : List ℕ → List Number) (b : ℕ) (type : ElementType) (name v rest bytes : List ℕ) (n : ℕ) → IsName name → type_at b ≡ Some type
    → size_at type (v ++ rest) ≡ Some (length v) → bytes ≡ b ∷ (name ++ 0 ∷ (v ++ rest))
    → element_numbers nested (suc n) bytes ≡ part_numbers nested (part_of type) type v ++ element_numbers nested n rest
unfolding element_numbers
split_numbers nested b type name v rest bytes n named typed sized is =
    let tail : List ℕ = name ++ 0 ∷ (v ++ rest) in
    let k : ℕ = length name + 2 in
    let head : List ℕ = b ∷ (name ++ 0 ∷ []) in
    let splits : b ∷ tail ≡ head ++ (v ++ rest) = ap (λ (x : List ℕ). b ∷ x) (sym (append_assoc name (0 ∷ []) (v ++ rest))) in
    let after : drop k (b ∷ tail) ≡ v ++ rest = ap (drop k) splits ∙ drop_at head (v ++ rest) k (omega (arith, length-append name (0 ∷ []))) in
    let bare : take (length v) (drop k (b ∷ tail)) ≡ v = ap (take (length v)) after ∙ take_at v rest (length v) refl in
    let remaining : drop (length v) (drop k (b ∷ tail)) ≡ rest = ap (drop (length v)) after ∙ drop_at v rest (length v) refl in
    ap (λ (x : List ℕ). next_numbers nested (element_numbers nested n) x (first_element x)) is
    ∙ ap (next_numbers nested (element_numbers nested n) (b ∷ tail)) (first_there b type name v rest named typed sized)
    ∙ ap₂ (λ (x y : List ℕ). part_numbers nested (part_of type) type x ++ element_numbers nested n y) bare remaining

-- ---- by value

-- the bytes of a number have one
has_number : (k : NumberKind) (value : List ℕ) → (number : Number) × (number_at (number_type k) value ≡ Some number)
unfolding number_at
has_number as_double value = (numbers.Double (long_of value), refl)
has_number as_int32 value = (numbers.Whole (cast_signed w32 (number_of value)), refl)
has_number as_int64 value = (numbers.Whole (cast_signed w64 (long_of value)), refl)
has_number as_decimal128 value = (numbers.Decimal128 (long_of value) (long_of (drop 8 value)), refl)

module _ (worth_of : Number → ℤ) (worth : ElementType → List ℕ → ℤ) (by : IsWorthOf worth_of worth) where
  -- elements that nest at most this deep have these numbers
  abbrev Have : List ℤ → ℕ → List ℕ → Type 0
  Have zs deep bytes = (levels steps : ℕ) → deep ≤ levels → length bytes ≤ steps → map worth_of (element_numbers (level_numbers levels) steps bytes) ≡ zs

  -- a value of this type has the numbers of the tree
  abbrev Gives : Tree → ElementType → List ℕ → Type 0
  Gives t type bare = (levels : ℕ) → depth t ≤ levels → map worth_of (part_numbers (level_numbers levels) (part_of type) type bare) ≡ numbers_of t

  abbrev Step : Tree → List ℕ → Type 0
  Step t value = (p : Place t value) × Gives t p.type p.bare

  level_gives : (zs : List ℤ) (deep levels : ℕ) (bytes : List ℕ) → suc deep ≤ levels → Have zs deep bytes → map worth_of (level_numbers levels bytes) ≡ zs
  unfolding level_numbers
  level_gives zs deep zero bytes d have = absurd (omega (arith, d))
  level_gives zs deep (suc levels) bytes d have = have levels (length bytes) (omega (arith, d)) (omega arith)

  number_step : (z : ℤ) (value : List ℕ) → IsNumber worth z value → Step (leaf (trees.int64 z)) value
  number_step z value n = (
    number_place worth z value n,
    (λ levels d.
        let h = has_number n.kind n.value in
        ap (λ p. map worth_of (part_numbers (level_numbers levels) p (number_type n.kind) n.value)) (number_part n.kind) ∙ ap (λ o. map worth_of (listed o)) h.1
        ∙ ap (λ (x : ℤ). x ∷ []) (sym (by (number_type n.kind) n.value h.0 h.1) ∙ n.is_worth)),
  )

  other_step : (a : Scalar) (value : List ℕ) → Other a value → Step (leaf a) value
  other_step a value o = (
    other_place a value o,
    (λ levels d. ap (λ p. map worth_of (part_numbers (level_numbers levels) p (Kept (scalar_kind a)) value)) o.not_examined ∙ sym o.has_none),
  )

  leaf_step : (a : Scalar) (value : List ℕ) → IsValuedScalar worth a value → Step (leaf a) value
  leaf_step a value h = elim (number_or_other worth a value h) [
    | inl n ↦ subst (λ (s : Scalar). Step (leaf s) value) (sym n.1) (number_step n.0 value n.2)
    | inr o ↦ other_step a value o
  ]

  doc_step : (fs : Fields) (value body : List ℕ) → value ≡ framed body → length value ≤ longest_document
      → Have (field_numbers fs) (fields_depth fs) body → Step (doc fs) value
  unfolding part_of inside
  doc_step fs value body is short have = (
    doc_place fs body value is short,
    (λ levels d. ap (λ (x : List ℕ). map worth_of (level_numbers levels (body_of x))) is ∙ ap (λ (x : List ℕ). map worth_of (level_numbers levels x)) (inner_is body)
        ∙ level_gives (field_numbers fs) (fields_depth fs) levels body d have),
  )

  array_step : (ts : Items) (value body : List ℕ) → value ≡ framed body → length value ≤ longest_document
      → Have (item_numbers ts) (items_depth ts) body → Step (array ts) value
  unfolding part_of inside
  array_step ts value body is short have = (
    array_place ts body value is short,
    (λ levels d. ap (λ (x : List ℕ). map worth_of (level_numbers levels (body_of x))) is ∙ ap (λ (x : List ℕ). map worth_of (level_numbers levels x)) (inner_is body)
        ∙ level_gives (item_numbers ts) (items_depth ts) levels body d have),
  )

  code_step : (code : List ℕ) (fs : Fields) (value body : List ℕ) → value ≡ scoped code (framed body) → IsText code → length value ≤ longest_document
      → Have (field_numbers fs) (fields_depth fs) body → Step (code_scope code fs) value
  unfolding part_of inside
  code_step code fs value body is text short have = (
    code_place code fs body value is short,
    (λ levels d.
        let at : scope_at value ≡ Some (8 + (length code + 1)) = ap scope_at is ∙ scope_there code body text (subst (λ (x : List ℕ). length x ≤ longest_document) is short) in
        let scope : drop (8 + (length code + 1)) value ≡ framed body = ap (drop (8 + (length code + 1))) is ∙ scope_is code body in
        ap (λ o. map worth_of (level_numbers levels (scope_body value o))) at
        ∙ ap (λ (x : List ℕ). map worth_of (level_numbers levels (body_of x))) scope ∙ ap (λ (x : List ℕ). map worth_of (level_numbers levels x)) (inner_is body)
        ∙ level_gives (field_numbers fs) (fields_depth fs) levels body (omega (arith, d)) have),
  )

  -- one more element
  more_have : (t : Tree) (zs : List ℤ) (deep : ℕ) (name value rest bytes : List ℕ) → IsName name → bytes ≡ written_typed t name value ++ rest
      → Step t value → Have zs deep rest → Have (numbers_of t ++ zs) (max (depth t) deep) bytes
  more_have t zs deep name value rest bytes named is step more = λ levels steps d enough.
      let p = step.0 in
      let splits = is ∙ p.written name rest in
      let size : length bytes ≡ suc (length name + suc (length p.bare + length rest)) =
      ap (λ (x : List ℕ). length x) splits ∙ omega (arith, length-append name (0 ∷ (p.bare ++ rest)), length-append p.bare rest) in
      let here : (n : ℕ) → length rest ≤ n → map worth_of (element_numbers (level_numbers levels) (suc n) bytes) ≡ numbers_of t ++ zs = λ n le.
      ap (map worth_of) (split_numbers (level_numbers levels) p.byte p.type name p.bare rest bytes n named p.typed (p.sized rest) splits)
      ∙ map-append worth_of (part_numbers (level_numbers levels) (part_of p.type) p.type p.bare) (element_numbers (level_numbers levels) n rest)
      ∙ ap₂ (λ (x y : List ℤ). x ++ y) (step.1 levels (omega (arith, d, le-max_left (depth t) deep))) (more levels n (omega (arith, d, le-max_right (depth t) deep)) le) in
      elim steps as (λ (s : ℕ). length bytes ≤ s → map worth_of (element_numbers (level_numbers levels) s bytes) ≡ numbers_of t ++ zs) [
        | zero ↦ λ e. absurd (omega (arith, e, size))
        | suc n ↦ λ e. here n (omega (arith, e, size))
      ] enough

  none_have : (bytes : List ℕ) → bytes ≡ [] → Have [] 0 bytes
  none_have bytes is = λ levels steps d enough. ap (λ (x : List ℕ). map worth_of (element_numbers (level_numbers levels) steps x)) is ∙ ap (map worth_of) (no_elements (level_numbers levels) steps)

  mutual
    value_step : (t : Tree) (name value : List ℕ) → IsValueBy (valued worth) t value → length (written_typed t name value) ≤ longest_document → Step t value
    value_step (leaf a) name value v short = leaf_step a value v
    value_step (doc fs) name value v short = let s = value_short 3 name value short in
        doc_step fs value v.0 v.2 s (fields_have fs v.0 v.1 (body_short v.0 value v.2 s))
    value_step (array ts) name value v short = let s = value_short 4 name value short in
        array_step ts value v.0 v.2 s (items_have ts v.0 v.1 (body_short v.0 value v.2 s))
    value_step (code_scope code fs) name value v short = let s = value_short 15 name value short in
        code_step code fs value v.0 v.2 v.3 s (fields_have fs v.0 v.1 (code_short code v.0 value v.2 s))

    fields_have : (fs : Fields) (bytes : List ℕ) → AreFieldsBy (valued worth) fs bytes → length bytes ≤ longest_document
        → Have (field_numbers fs) (fields_depth fs) bytes
    fields_have no_fields bytes f short = none_have bytes f
    fields_have (field name t fs) bytes f short =
        let s = parts_short (written_typed t name f.0) f.1 bytes f.5 short in
        more_have t (field_numbers fs) (fields_depth fs) name f.0 f.1 bytes f.2 f.5 (value_step t name f.0 f.3 s.0) (fields_have fs f.1 f.4 s.1)

    items_have : (ts : Items) (bytes : List ℕ) → AreItemsBy (valued worth) ts bytes → length bytes ≤ longest_document
        → Have (item_numbers ts) (items_depth ts) bytes
    items_have no_items bytes f short = none_have bytes f
    items_have (item t ts) bytes f short =
        let s = parts_short (written_typed t f.0 f.1) f.2 bytes f.6 short in
        more_have t (item_numbers ts) (items_depth ts) f.0 f.1 f.2 bytes f.3 f.6 (value_step t f.0 f.1 f.4 s.0) (items_have ts f.2 f.5 s.1)

  pub document_numbers_are : (d : Doc) (bytes : List ℕ) → IsDocumentBy (valued worth) d bytes → map worth_of (collected bytes) ≡ field_numbers (fields_of d)
  unfolding collected inside
  document_numbers_are d bytes is =
      let v = is.spells in
      let deep : suc (fields_depth (fields_of d)) ≤ 200 = is.shallow in
      ap (λ (x : List ℕ). map worth_of (level_numbers 200 (body_of x))) v.2 ∙ ap (λ (x : List ℕ). map worth_of (level_numbers 200 x)) (inner_is v.0)
      ∙ level_gives (field_numbers (fields_of d)) (fields_depth (fields_of d)) 200 v.0 deep (fields_have (fields_of d) v.0 v.1 (body_short v.0 bytes v.2 is.short))

-- fewer than five bytes are no document
pub adds_none : (bytes : List ℕ) (old : List Number) → length bytes < 5 → AddsNumbers (AreNumbersOf bytes) old old
adds_none bytes old few = (
  [],
  (
    (λ worth_of worth by d is. absurd (let v = is.spells in omega (arith, few, ap (λ (x : List ℕ). length x) v.2, values.framed_length v.0))),
    omega arith,
  ),
  sym (append-nil old),
)

pub adds_collected : {E : Type 0} (r : Result (Unit {0}) E) (bytes here : List ℕ) (old new : List Number) → here ≡ inside holders.Document bytes
    → OnOk r (new ≡ old ++ level_numbers 200 here) → OnOk r (AddsNumbers (AreNumbersOf bytes) old new)
unfolding collected
adds_collected (Ok u) bytes here old new is h = (
  level_numbers 200 (inside holders.Document bytes),
  ((λ worth_of worth by d document. document_numbers_are worth_of worth by d bytes document), collected_small bytes),
  h ∙ ap (λ (x : List ℕ). old ++ level_numbers 200 x) is,
)
adds_collected (Err e) bytes here old new is h = h
