-- What remains of documents and arrays of which only some fields are requested.
use Rattle.std.proofs.Common.{◌≡◌, ℕ, ◌+◌, ◌-◌, ◌≤◌, List, [], ◌∷◌, ◌++◌, length, take, drop, Bool, true, false, Option, Some, None, if◌then◌else◌, Result, Ok, Err, refl, sym, ap, ap₂, subst, ◌∙◌, append_assoc, arith}
use Rattle.std.specs.Prelude.{OnOk, IfOk}
use Rattle.std.proofs.lemmas.List.{drop_at, take_at, length-append, length-drop, append-nil}
use Rattle.bd_value.specs.declared.node.Kind.TheVariants as kinds
use Rattle.bd_value.specs.Tree.{Tree, doc, array, Items, item, Fields, no_fields, field, Doc, fields_of}
use Rattle.bd_bson_view.specs.declared.raw_parts.ElementType.{ElementType}
use Rattle.bd_bson_view.specs.declared.raw_parts.ElementType.TheVariants.{Kept}
use Rattle.bd_bson_view.specs.Spelling.{number, framed, IsName, IsValueBy, AreFieldsBy, AreItemsBy, IsDocumentBy, written_typed, valued}
use Rattle.bd_bson_view.specs.Unique.{number_after, number_length}
use Rattle.bd_path.specs.Reach.{Names}
use Rattle.bd_wide_dump.specs.declared.format.JsonFormat.{JsonFormat}
use Rattle.bd_wide_dump.specs.{WideText.IsTextOf}
use Rattle.bd_wide_dump.specs.declared.fields.Field.{Field}
use Rattle.bd_wide_dump.specs.inside.Projects.{paths_of}
use Rattle.bd_wide_dump.specs.Raw.{raw, byte_of}
use Rattle.bd_wide_dump.specs.Values.{values_in}
use Rattle.bd_wide_dump.specs.Projected.{rest_below, before, below, ends, kept, add_field, add_item, projected, projected_value, projected_items, IsProjectedText}
use Rattle.bd_wide_dump.specs.inside.Begins.{HasElements, HasValue, IsElement, IsTyped, a_number, a_scalar, a_document, an_array, a_code, AppendsText}
use Rattle.bd_wide_dump.specs.inside.Projects.{array_type, remaining, all_remaining, AddsElement, AddsFramed}
use Rattle.bd_wide_dump.proofs.{ElementLemmas.byte_there, ValueLemmas.document_here, ValueLemmas.array_here, LineLemmas.whole_elements}

-- ---- what remains, as the definition says it

-- of a document
pub remaining_fields : (paths : List Names) (fs : Fields) → all_remaining false paths fs ≡ projected paths fs
remaining_fields paths no_fields = refl
remaining_fields paths (field n t fs) = ap (λ (o : Fields). add_field n (kept (below n paths) t (projected_value (below n paths) t)) o) (remaining_fields paths fs)

added_value : (n : List ℕ) (o : Option Tree) (fs : Fields) (ts : Items) → values_in fs ≡ ts → values_in (add_field n o fs) ≡ add_item o ts
added_value n None fs ts is = is
added_value n (Some t) fs ts is = ap (item t) is

-- of an array
pub remaining_items : (paths : List Names) (fs : Fields) → values_in (all_remaining true paths fs) ≡ projected_items paths (values_in fs)
remaining_items paths no_fields = refl
remaining_items paths (field n t fs) = added_value n (projected_value paths t) (all_remaining true paths fs) (projected_items paths (values_in fs)) (remaining_items paths fs)

-- elements under any names are those of an array
items_spelled : (fs : Fields) (b : List ℕ) → AreFieldsBy (valued raw) fs b → AreItemsBy (valued raw) (values_in fs) b
items_spelled no_fields b h = h
items_spelled (field n t fs) b h = (n, h.0, h.1, h.2, h.3, items_spelled fs h.1 h.4, h.5)

-- ---- an element

-- nothing was appended
pub nothing_added : (name old : List ℕ) → AddsElement name None old old
nothing_added name old = ([], sym (append-nil old), λ fs more h. h)

-- an element was appended
pub element_added : (name : List ℕ) (tree : Tree) (value old new : List ℕ) → IsName name → IsValueBy (valued raw) tree value → new ≡ old ++ written_typed tree name value
    → AddsElement name (Some tree) old new
element_added name tree value old new named spelled is = (written_typed tree name value, is, λ fs more h. (value, more, named, spelled, h, refl))

module _ (bytes : List ℕ) (at : ℕ) (fs : Fields) (type : ElementType) (name : List ℕ) (start next : ℕ) (x : IsElement bytes at fs type name start next) where
  -- the bytes of the element
  pub whole_bytes : take (next - at) (drop at bytes) ≡ written_typed x.tree name x.value
  whole_bytes =
      let w = written_typed x.tree name x.value in
      let there = byte_there bytes next x.rest in
      let size : length w ≡ next - at = omega (arith, x.before, x.behind, there, ap (λ (y : List ℕ). length y) x.whole, length-append w (drop next bytes), length-drop at bytes, length-drop next bytes) in
      ap (take (next - at)) x.whole ∙ take_at w (drop next bytes) (next - at) size

  head_parts : byte_of type ∷ (name ++ 0 ∷ drop start bytes) ≡ (byte_of type ∷ (name ++ 0 ∷ [])) ++ drop start bytes
  head_parts = simp append_assoc

  -- those before its value
  pub head_bytes : take (start - at) (drop at bytes) ≡ byte_of type ∷ (name ++ 0 ∷ [])
  head_bytes =
      let w : List ℕ = byte_of type ∷ (name ++ 0 ∷ []) in
      let is = x.headed ∙ head_parts in
      let size : length w ≡ start - at = omega (arith, x.before, x.inside, ap (λ (y : List ℕ). length y) is, length-append w (drop start bytes), length-drop at bytes, length-drop start bytes) in
      ap (take (start - at)) is ∙ take_at w (drop start bytes) (start - at) size

  -- the element was appended as it is
  pub whole_added : (old new : List ℕ) → new ≡ old ++ take (next - at) (drop at bytes) → AddsElement name (Some x.tree) old new
  whole_added old new is = element_added name x.tree x.value old new x.named x.spelled (is ∙ ap (λ (y : List ℕ). old ++ y) whole_bytes)

framed_parts : (old : List ℕ) (b : ℕ) (name value : List ℕ) → (old ++ (b ∷ (name ++ 0 ∷ []))) ++ value ≡ old ++ (b ∷ (name ++ 0 ∷ value))
framed_parts old b name value = simp append_assoc

-- what remains of a document was appended under its name
pub document_added : (paths : List Names) (name : List ℕ) (fs : Fields) (tree : Tree) (old mid new head : List ℕ) → IsName name → tree ≡ doc fs → head ≡ 3 ∷ (name ++ 0 ∷ []) → mid ≡ old ++ head
    → AddsFramed false paths fs mid new → AddsElement name (projected_value paths tree) old new
document_added paths name fs tree old mid new head named is headed put added =
    let P : Tree → Type 0 = λ t. AddsElement name (projected_value paths t) old new in
    let inner = projected paths fs in
    let spelled : IsValueBy (valued raw) (doc inner) (framed added.0) = (added.0, subst (λ (f : Fields). AreFieldsBy (valued raw) f added.0) (remaining_fields paths fs) added.1, refl) in
    subst P (sym is) (element_added name (doc inner) (framed added.0) old new named spelled
    (added.2 ∙ ap (λ (y : List ℕ). y ++ framed added.0) (put ∙ ap (λ (y : List ℕ). old ++ y) headed) ∙ framed_parts old 3 name (framed added.0)))

-- the same for an array
pub array_added : (paths : List Names) (name : List ℕ) (fs : Fields) (tree : Tree) (old mid new head : List ℕ) → IsName name → tree ≡ array (values_in fs) → head ≡ 4 ∷ (name ++ 0 ∷ []) → mid ≡ old ++ head
    → AddsFramed true paths fs mid new → AddsElement name (projected_value paths tree) old new
array_added paths name fs tree old mid new head named is headed put added =
    let P : Tree → Type 0 = λ t. AddsElement name (projected_value paths t) old new in
    let inner = projected_items paths (values_in fs) in
    let items = items_spelled (all_remaining true paths fs) added.0 added.1 in
    let spelled : IsValueBy (valued raw) (array inner) (framed added.0) = (added.0, subst (λ (ts : Items). AreItemsBy (valued raw) ts added.0) (remaining_items paths fs) items, refl) in
    subst P (sym is) (element_added name (array inner) (framed added.0) old new named spelled
    (added.2 ∙ ap (λ (y : List ℕ). y ++ framed added.0) (put ∙ ap (λ (y : List ℕ). old ++ y) headed) ∙ framed_parts old 4 name (framed added.0)))

pub document_type : (type : ElementType) → array_type type ≡ Some false → type ≡ Kept kinds.Doc
document_type (Kept kinds.Doc) h = refl
document_type _ h = absurd cc

pub array_type_is : (type : ElementType) → array_type type ≡ Some true → type ≡ Kept kinds.Array
array_type_is (Kept kinds.Array) h = refl
array_type_is _ h = absurd cc

-- nothing remains of any other value
no_part : (paths : List Names) (type : ElementType) (content : List ℕ) (tree : Tree) → array_type type ≡ None → IsTyped type content tree → projected_value paths tree ≡ None
no_part paths type content tree none (a_number n) = ap (projected_value paths) n.is
no_part paths type content tree none (a_scalar s) = ap (projected_value paths) s.is
no_part paths type content tree none (a_document d) = let e : Some false ≡ None = sym (ap array_type d.typed) ∙ none in absurd cc
no_part paths type content tree none (an_array d) = let e : Some true ≡ None = sym (ap array_type d.typed) ∙ none in absurd cc
no_part paths type content tree none (a_code d) = ap (projected_value paths) d.is

module _ (bytes : List ℕ) (at : ℕ) (fs : Fields) (type : ElementType) (name : List ℕ) (start next : ℕ) (x : IsElement bytes at fs type name start next) (paths : List Names) where
  pub nothing_inside : (old : List ℕ) → None ≡ array_type type → AddsElement name (projected_value paths x.tree) old old
  nothing_inside old none =
      subst (λ (o : Option Tree). AddsElement name o old old) (sym (no_part paths type x.here.content x.tree (sym none) x.here.spells)) (nothing_added name old)

  document_inside : array_type type ≡ Some false → (e : HasElements (drop (start + 4) bytes)) × (x.tree ≡ doc e.fields)
  document_inside is = document_here bytes start x.tree (subst (λ (t : ElementType). HasValue t (drop start bytes) x.tree) (document_type type is) x.here)

  array_inside : array_type type ≡ Some true → (e : HasElements (drop (start + 4) bytes)) × (x.tree ≡ array (values_in e.fields))
  array_inside is = array_here bytes start x.tree (subst (λ (t : ElementType). HasValue t (drop start bytes) x.tree) (array_type_is type is) x.here)

  -- the elements of a document or an array
  pub elements_inside : (is_array : Bool) → Some is_array ≡ array_type type → HasElements (drop (start + 4) bytes)
  elements_inside false is = (document_inside (sym is)).0
  elements_inside true is = (array_inside (sym is)).0

  -- what remains of them was appended under the name
  pub inside_added : {A B : Type 0} (r : Result A B) (is_array : Bool) (old mid new : List ℕ) → Some is_array ≡ array_type type → mid ≡ old ++ take (start - at) (drop at bytes)
      → ((e : HasElements (drop (start + 4) bytes)) → OnOk r (AddsFramed is_array paths e.fields mid new)) → OnOk r (AddsElement name (projected_value paths x.tree) old new)
  inside_added (Err f) is_array old mid new is put added = _
  inside_added (Ok y) false old mid new is put added =
      let d = document_inside (sym is) in
      let head = head_bytes bytes at fs type name start next x ∙ ap (λ (t : ElementType). byte_of t ∷ (name ++ 0 ∷ [])) (document_type type (sym is)) in
      document_added paths name d.0.fields x.tree old mid new (take (start - at) (drop at bytes)) x.named d.1 head put (added d.0)
  inside_added (Ok y) true old mid new is put added =
      let d = array_inside (sym is) in
      let head = head_bytes bytes at fs type name start next x ∙ ap (λ (t : ElementType). byte_of t ∷ (name ++ 0 ∷ [])) (array_type_is type (sym is)) in
      array_added paths name d.0.fields x.tree old mid new (take (start - at) (drop at bytes)) x.named d.1 head put (added d.0)

-- ---- what remains of a value, by what is requested in it

-- what remains if this is requested
abbrev kept_by : Tree → List Names → Option Tree
kept_by tree inner = kept inner tree (projected_value inner tree)

whole_kept : (tree : Tree) (inner : List Names) → ends inner ≡ true → kept_by tree inner ≡ Some tree
whole_kept tree [] h = absurd cc
whole_kept tree (p ∷ ps) h = ap (λ (b : Bool). if b then Some tree else projected_value (p ∷ ps) tree) h

part_kept : (tree : Tree) (inner : List Names) → (inner ≡ [] → ⊥) → ends inner ≡ false → kept_by tree inner ≡ projected_value inner tree
part_kept tree [] some h = absurd (some refl)
part_kept tree (p ∷ ps) some h = ap (λ (b : Bool). if b then Some tree else projected_value (p ∷ ps) tree) h

module _ (is_array : Bool) (paths inner : List Names) (name : List ℕ) (tree : Tree) (old new : List ℕ) where
  -- of an element of an array
  pub array_remains : {A B : Type 0} (r : Result A B) → is_array ≡ true → OnOk r (AddsElement name (projected_value paths tree) old new) → OnOk r (AddsElement name (remaining is_array paths name tree) old new)
  array_remains r is h = subst (λ (b : Bool). OnOk r (AddsElement name (remaining b paths name tree) old new)) (sym is) h

  module _ (is : is_array ≡ false) (of : inner ≡ below name paths) where
    kept_is : remaining is_array paths name tree ≡ kept_by tree inner
    kept_is = ap (λ (b : Bool). remaining b paths name tree) is ∙ ap (kept_by tree) (sym of)

    -- nothing is requested
    pub none_remains : inner ≡ [] → new ≡ old → AddsElement name (remaining is_array paths name tree) old new
    none_remains none same =
        let nothing : remaining is_array paths name tree ≡ None = kept_is ∙ ap (kept_by tree) none in
        subst (λ (x : List ℕ). AddsElement name (remaining is_array paths name tree) old x) (sym same)
        (subst (λ (o : Option Tree). AddsElement name o old old) (sym nothing) (nothing_added name old))

    -- all of it is requested
    pub whole_remains : ends inner ≡ true → AddsElement name (Some tree) old new → AddsElement name (remaining is_array paths name tree) old new
    whole_remains all h = subst (λ (o : Option Tree). AddsElement name o old new) (sym (kept_is ∙ whole_kept tree inner all)) h

    -- a part of it is requested
    pub part_remains : {A B : Type 0} (r : Result A B) → (inner ≡ [] → ⊥) → ends inner ≡ false → OnOk r (AddsElement name (projected_value inner tree) old new)
        → OnOk r (AddsElement name (remaining is_array paths name tree) old new)
    part_remains r some part h = subst (λ (o : Option Tree). OnOk r (AddsElement name o old new)) (sym (kept_is ∙ part_kept tree inner some part)) h

-- ---- the loop

-- With what remains of the elements from `next` on, what was appended is what remains of all from the start.
abbrev pub Goes : Bool → List Names → List ℕ → ℕ → ℕ → List ℕ → List ℕ → Type 0
Goes is_array paths bytes start next old out = (e : HasElements (drop start bytes)) → (f : HasElements (drop next bytes)) × (done : List ℕ) × (out ≡ (old ++ number 0) ++ done)
    × ((more : List ℕ) → AreFieldsBy (valued raw) (all_remaining is_array paths f.fields) more → AreFieldsBy (valued raw) (all_remaining is_array paths e.fields) (done ++ more))

module _ (is_array : Bool) (paths : List Names) (bytes : List ℕ) (start : ℕ) (old : List ℕ) where
  pub begins : (out : List ℕ) → out ≡ old ++ number 0 → Goes is_array paths bytes start start old out
  begins out is = λ e. (e, [], is ∙ sym (append-nil (old ++ number 0)), λ more h. h)

  pub goes_on : (at begin next : ℕ) (type : ElementType) (name out new : List ℕ) → Goes is_array paths bytes start at old out
      → ((f : HasElements (drop at bytes)) → IsElement bytes at f.fields type name begin next)
      → ((fs : Fields) (x : IsElement bytes at fs type name begin next) → AddsElement name (remaining is_array paths name x.tree) out new)
      → Goes is_array paths bytes start next old new
  goes_on at begin next type name out new so_far found added = λ e.
      let g = so_far e in
      let x = found g.0 in
      let a = added g.0.fields x in
      let one : List ℕ = a.0 in
      let F : Fields → Type 0 = λ fs. (more : List ℕ) → AreFieldsBy (valued raw) (all_remaining is_array paths fs) more → AreFieldsBy (valued raw) (all_remaining is_array paths e.fields) (g.1 ++ more) in
      let step : F (field name x.tree x.others) = subst F x.is g.3 in
      let others : (more : List ℕ) → AreFieldsBy (valued raw) (all_remaining is_array paths x.rest.fields) more → AreFieldsBy (valued raw) (all_remaining is_array paths x.others) more =
      λ more h. subst (λ (fs : Fields). AreFieldsBy (valued raw) (all_remaining is_array paths fs) more) x.rest_is h in (
        x.rest,
        g.1 ++ one,
        a.1 ∙ ap (λ (y : List ℕ). y ++ one) g.2 ∙ append_assoc (old ++ number 0) g.1 one,
        λ more h. subst (λ (y : List ℕ). AreFieldsBy (valued raw) (all_remaining is_array paths e.fields) y) (sym (append_assoc g.1 one more))
            (step (one ++ more) (a.2 (all_remaining is_array paths x.others) more (others more h))),
      )

  ended_ok : (at begun : ℕ) (out new : List ℕ) → Goes is_array paths bytes start at old out → ((f : HasElements (drop at bytes)) → f.fields ≡ no_fields)
      → begun ≡ length old → new ≡ take begun out ++ framed (drop (begun + 4) out) → (e : HasElements (drop start bytes)) → AddsFramed is_array paths e.fields old new
  ended_ok at begun out new so_far none here is e =
      let g = so_far e in
      let whole = g.3 [] (subst (λ (fs : Fields). AreFieldsBy (valued raw) (all_remaining is_array paths fs) []) (sym (none g.0)) refl) in
      let prefix : take begun out ≡ old = ap (take begun) (g.2 ∙ append_assoc old (number 0) g.1) ∙ take_at old (number 0 ++ g.1) begun (sym here) in
      let size : length (old ++ number 0) ≡ begun + 4 = omega (arith, here, length-append old (number 0), number_length 0) in
      let back : drop (begun + 4) out ≡ g.1 = ap (drop (begun + 4)) g.2 ∙ drop_at (old ++ number 0) g.1 (begun + 4) size in (
        g.1,
        subst (λ (y : List ℕ). AreFieldsBy (valued raw) (all_remaining is_array paths e.fields) y) (append-nil g.1) whole,
        is ∙ ap₂ (λ (x y : List ℕ). x ++ framed y) prefix back,
      )

  pub ended : {A B : Type 0} (r : Result A B) (at begun : ℕ) (out new : List ℕ) → Goes is_array paths bytes start at old out → ((f : HasElements (drop at bytes)) → f.fields ≡ no_fields)
      → begun ≡ length old → OnOk r (new ≡ take begun out ++ framed (drop (begun + 4) out)) → (e : HasElements (drop start bytes)) → OnOk r (AddsFramed is_array paths e.fields old new)
  ended (Ok y) at begun out new so_far none here is e = ended_ok at begun out new so_far none here is e
  ended (Err f) at begun out new so_far none here is e = _

  -- four bytes for the length are there
  pub opened : (at begun : ℕ) (out : List ℕ) → Goes is_array paths bytes start at old out → HasElements (drop start bytes) → begun ≡ length old → begun + 4 ≤ length out
  opened at begun out so_far e here =
      let g = so_far e in
      omega (arith, here, ap (λ (y : List ℕ). length y) g.2, length-append (old ++ number 0) g.1, length-append old (number 0), number_length 0)

-- ---- a whole document

-- what remains of a document, as elements after its length
pub projected_elements : (paths : List Names) (fs : Fields) (out : List ℕ) → AddsFramed false paths fs [] out → (e : HasElements (drop 4 out)) × (e.fields ≡ projected paths fs)
projected_elements paths fs out added =
    let body : List ℕ = added.0 in
    (record { fields = all_remaining false paths fs; body = body; after = []; spell = added.1; splits = ap (drop 4) added.2 ∙ number_after (length body + 5) (body ++ 0 ∷ []) }, remaining_fields paths fs)

-- the same of what was appended to an empty buffer for the fields of these paths
pub projected_there : (paths named : List Names) (bytes cleared out : List ℕ) (d : Doc) → IsDocumentBy (valued raw) d bytes → named ≡ paths → cleared ≡ []
    → ((e : HasElements (drop 4 bytes)) → AddsFramed false named e.fields cleared out) → (e : HasElements (drop 4 out)) × (e.fields ≡ projected paths (fields_of d))
projected_there paths named bytes cleared out d is same empty added =
    let w = whole_elements d bytes is in
    let a : AddsFramed false paths w.0.fields cleared out = subst (λ (ps : List Names). AddsFramed false ps w.0.fields cleared out) same (added w.0) in
    let b : AddsFramed false paths w.0.fields [] out = subst (λ (x : List ℕ). AddsFramed false paths w.0.fields x out) empty a in
    projected_elements paths (fields_of d) out (subst (λ (fs : Fields). AddsFramed false paths fs [] out) w.1 b)

-- the same of equal bytes
pub same_elements : (fields : Fields) (a b : List ℕ) → (e : HasElements (drop 4 a)) × (e.fields ≡ fields) → b ≡ a → (e : HasElements (drop 4 b)) × (e.fields ≡ fields)
same_elements fields a b has is = subst (λ (x : List ℕ). (e : HasElements (drop 4 x)) × (e.fields ≡ fields)) (sym is) has

-- the text of these elements is that of what remains of the document
pub projected_text : {E : Type 0} (format : JsonFormat) (r : Result ℕ E) (paths : List Names) (bytes old new : List ℕ) (end : ℕ) (d : Doc) → IsDocumentBy (valued raw) d bytes
    → (fs : Fields) → fs ≡ projected paths (fields_of d) → IfOk r (λ to. AppendsText format (doc fs) old end to new)
    → IfOk r (λ to. (text : List ℕ) × IsProjectedText format paths bytes text × (take to new ≡ take end old ++ text))
projected_text format (Ok to) paths bytes old new end d is fs same w =
    (w.text, (d, is, subst (λ (f : Fields). IsTextOf format (doc f) w.text) same w.is), w.written)
projected_text format (Err e) paths bytes old new end d is fs same w = tt

-- ---- paths

pub are_no_fields : (fields : List Field) → paths_of fields ≡ [] → fields ≡ []
are_no_fields [] none = refl
are_no_fields (x ∷ xs) none = absurd cc

-- these paths, and one more if it is one
abbrev pub appended : List Names → Option Names → List Names
appended done None = done
appended done (Some path) = done ++ path ∷ []

-- one more path, if it is one, is put after those before it
pub one_more : (name : List ℕ) (done : List Names) (path : Names) (paths all : List Names) (rest : Option Names) → rest ≡ rest_below name path → done ++ below name (path ∷ paths) ≡ all
    → appended done rest ++ below name paths ≡ all
one_more name done path paths all None is so_far = ap (λ (o : Option Names). done ++ before o (below name paths)) is ∙ so_far
one_more name done path paths all (Some r) is so_far = append_assoc done (r ∷ []) (below name paths) ∙ ap (λ (o : Option Names). done ++ before o (below name paths)) is ∙ so_far
