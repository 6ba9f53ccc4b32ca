-- A first fault that is not a double and not a decimal128 is the first fault under every profile.
use Rattle.std.proofs.Common.{◌≡◌, ◌≢◌, ℕ, zero, suc, ◌+◌, ◌-◌, List, [], ◌∷◌, length, Option, Some, None, Result, Ok, Err, refl, ap, ◌∙◌, Bool, true, false, if◌then◌else◌, codes, option_map}
use Rattle.std.specs.{Option.ok_or, Result.result_err}
use Rattle.bd_value.specs.Limits.{most_levels}
use Rattle.bd_value.specs.declared.node.Kind.{Kind}
use Rattle.bd_value.specs.declared.node.Kind.TheVariants as kinds
use Rattle.bd_bson_view.specs.declared.raw_parts.ElementType.{ElementType}
use Rattle.bd_bson_view.specs.declared.raw_parts.ElementType.TheVariants as types
use Rattle.bd_bson_view.specs.declared.raw_parts.Holder.{Holder}
use Rattle.bd_bson_view.specs.declared.raw_parts.Holder.TheVariants as holders
use Rattle.bd_bson_view.specs.Spelling.{type_at}
use Rattle.bd_bson_check.specs.Fault.{Fault}
use Rattle.bd_bson_check.specs.declared.profile.Profile.TheVariants.{Named, All}
use Rattle.bd_bson_check.specs.declared.fault.FaultKind.TheVariants.{Double, Decimal128, UnknownType, NameUnended}
use Rattle.bd_bson_check.specs.FirstFault.{◌>>=◌, Nested, label, within, skip_body, skip_code_frame, skip_code_scope, skip_document, skip_element, skip_elements, skip_frame, skip_name}
use Rattle.bd_bson_check.specs.FirstFault.{skip_nested, skip_string, skip_typed, skip_value, first_fault, fault_under, ReportsNoNumber}

abbrev Other : {A : Type 0} → Result A Fault → Type 0
Other (Ok x) = Unit {0}
Other (Err f) = (f.kind ≢ Double) × (f.kind ≢ Decimal128)

-- two checks in turn, of which the second is the same if its fault is another
other_bind : {A B : Type 0} (a : Result A Fault) (f g : A → Result B Fault) → Other (a >>= f) → ((x : A) → Other (f x) → g x ≡ f x) → (a >>= g) ≡ (a >>= f)
other_bind (Ok x) f g o h = h x o
other_bind (Err d) f g o h = refl

other_two : {A B : Type 0} (a b : Result A Fault) (f g : A → Result B Fault) → (Other a → b ≡ a) → Other (a >>= f) → ((x : A) → Other (f x) → g x ≡ f x) → (b >>= g) ≡ (a >>= f)
other_two (Ok x) b f g same o h = ap (λ y. y >>= g) (same tt) ∙ h x o
other_two (Err d) b f g same o h = ap (λ y. y >>= g) (same o)

other_within : {A : Type 0} (name : List ℕ) (a : Result A Fault) → Other (within name a) → Other a
other_within name (Ok x) o = tt
other_within name (Err f) o = o

abbrev SameOthers : Nested → Nested → Type 0
SameOthers f g = (h : Holder) (q e : ℕ) (bytes : List ℕ) → Other (g h q e bytes) → f h q e bytes ≡ g h q e bytes

module _ (f g : Nested) (below : SameOthers f g) where
  value_other : (kind : Kind) (q e : ℕ) (bytes : List ℕ) → Other (skip_value g kind q e bytes) → skip_value f kind q e bytes ≡ skip_value g kind q e bytes
  value_other kinds.Doc q e bytes o = below holders.Document q e bytes o
  value_other kinds.Array q e bytes o = below holders.Array q e bytes o
  value_other kinds.CodeScope q e bytes o = below holders.CodeScope q e bytes o
  value_other kind q e bytes o = refl

  typed_other : (type : ElementType) (q e : ℕ) (bytes : List ℕ) → Other (skip_typed Named g type q e bytes) → skip_typed All f type q e bytes ≡ skip_typed Named g type q e bytes
  typed_other types.Double q e bytes o = absurd (o.0 refl)
  typed_other types.Decimal128 q e bytes o = absurd (o.1 refl)
  typed_other (types.Kept kind) q e bytes o = value_other kind q e bytes o

  element_other : (index : Option ℕ) (e : ℕ) (bytes : List ℕ) → Other (skip_element Named g index e bytes) → skip_element All f index e bytes ≡ skip_element Named g index e bytes
  unfolding skip_element
  element_other index e [] o = refl
  element_other index e (b ∷ bytes) o =
      other_bind (ok_or (type_at b) (record { kind = UnknownType; offset = e - suc (length bytes); path = [] })) _ _ o
      (λ type o. other_bind (skip_name NameUnended e bytes) _ _ o
      (λ name o. ap (within (label index name.0)) (typed_other type (e - suc (length bytes)) e name.1 (other_within (label index name.0) (skip_typed Named g type (e - suc (length bytes)) e name.1) o))))

  elements_other : (index : Option ℕ) (n e : ℕ) (bytes : List ℕ) → Other (skip_elements Named g index n e bytes) → skip_elements All f index n e bytes ≡ skip_elements Named g index n e bytes
  unfolding skip_elements
  elements_other index zero e bytes o = refl
  elements_other index (suc n) e [] o = refl
  elements_other index (suc n) e (b ∷ bytes) o =
      other_two (skip_element Named g index e (b ∷ bytes)) (skip_element All f index e (b ∷ bytes)) _ _ (element_other index e (b ∷ bytes)) o
      (λ rest o. elements_other (option_map suc index) n e rest o)

  body_other : (in_array : Bool) (e : ℕ) (bytes : List ℕ) → Other (skip_body Named g in_array e bytes) → skip_body All f in_array e bytes ≡ skip_body Named g in_array e bytes
  body_other in_array e bytes o =
      let index : Option ℕ = if in_array then Some 0 else None in
      other_bind (skip_frame false e bytes) _ _ o
      (λ fr o. other_two (skip_elements Named g index (length fr.0) fr.1 fr.0) (skip_elements All f index (length fr.0) fr.1 fr.0) _ _ (elements_other index (length fr.0) fr.1 fr.0) o
      (λ u o. refl))

  scope_other : (q e : ℕ) (bytes : List ℕ) → Other (skip_code_scope g q e bytes) → skip_code_scope f q e bytes ≡ skip_code_scope g q e bytes
  scope_other q e bytes o =
      other_bind (skip_code_frame e bytes) _ _ o
      (λ fr o. other_bind (skip_string fr.1 fr.0) _ _ o
      (λ scope o. other_two (within (codes "$scope") (g holders.Document q fr.1 scope)) (within (codes "$scope") (f holders.Document q fr.1 scope)) _ _
      (λ o. ap (within (codes "$scope")) (below holders.Document q fr.1 scope (other_within (codes "$scope") (g holders.Document q fr.1 scope) o))) o
      (λ after o. refl)))

nested_other : (depth_left : ℕ) → SameOthers (skip_nested All depth_left) (skip_nested Named depth_left)
unfolding skip_nested
nested_other zero h q e bytes o = refl
nested_other (suc depth_left) holders.Document q e bytes o = body_other (skip_nested All depth_left) (skip_nested Named depth_left) (nested_other depth_left) false e bytes o
nested_other (suc depth_left) holders.Array q e bytes o = body_other (skip_nested All depth_left) (skip_nested Named depth_left) (nested_other depth_left) true e bytes o
nested_other (suc zero) holders.CodeScope q e bytes o = refl
nested_other (suc (suc depth_left)) holders.CodeScope q e bytes o = scope_other (skip_nested All (suc depth_left)) (skip_nested Named (suc depth_left)) (nested_other (suc depth_left)) q e bytes o

document_other : (e : ℕ) (bytes : List ℕ) → Other (skip_document Named e bytes) → skip_document All e bytes ≡ skip_document Named e bytes
unfolding skip_document
document_other e bytes o =
    let levels = most_levels - 1 in
    other_bind (skip_frame true e bytes) _ _ o
    (λ fr o. elements_other (skip_nested All levels) (skip_nested Named levels) (nested_other levels) None (length fr.0) fr.1 fr.0 o)

-- a first fault of nineteen types that is no double and no decimal128 is the first fault of all 21 types too
pub others_are_first : (base : ℕ) (bytes : List ℕ) → ReportsNoNumber (first_fault base bytes) → fault_under All base bytes ≡ first_fault base bytes
others_are_first base bytes reports = ap result_err (document_other (base + length bytes) bytes (other (skip_document Named (base + length bytes) bytes) reports))
  where
    other : (a : Result (Unit {0}) Fault) → ReportsNoNumber (result_err a) → Other a
    other (Ok x) h = tt
    other (Err f) h = h
