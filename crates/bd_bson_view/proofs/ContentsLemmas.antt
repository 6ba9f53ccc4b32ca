-- The contents of a value that is viewed in its bytes.
use Rattle.std.proofs.Common.{◌≡◌, ℕ, ◌+◌, ◌≤◌, false, List, ◌∷◌, ◌++◌, length, drop, refl, sym, ap, ap₂, ◌∙◌, subst, append_assoc, arith}
use Rattle.std.proofs.lemmas.List.{drop_at, length-append, length-drop, drop-drop}
use Rattle.bd_value.specs.Limits.{longest_document}
use Rattle.bd_value.specs.Tree.{Tree, leaf, doc, array, code_scope, Items, no_items, item, Fields, no_fields, field, Doc, pairs_of, pairs_in, fields_of, items_of}
use Rattle.bd_value.specs.Tree.{list_of, fields_of-pairs_of, items_of-list_of, values_of}
use Rattle.bd_value.specs.View.{kind_of}
use Rattle.bd_value.specs.declared.node.Kind.{Kind}
use Rattle.bd_value.specs.declared.node.Kind.TheVariants as kinds
use Rattle.bd_bson_view.specs.Spelling.{is_holder, number, string, scoped, IsText, IsValue, AreFields, AreItems, framed}
use Rattle.bd_bson_view.specs.Unique.{number_after, string_number, string_text, string_length, scalar_back, framed_after, no_holder}
use Rattle.bd_bson_view.specs.Sizes.{number_of, text_of, scalar_at, TextAt}
use Rattle.bd_bson_view.specs.Sound.{Sound, Remaining, meaning, elements_remaining, meaning_is, remaining_is}
use Rattle.bd_bson_view.proofs.ValueAtLemmas.{kind_is, reads_at, text_reads, framed_length, scoped_length}

-- dropping a start and then four bytes drops both at once
pub after_four : (bytes : List ℕ) (start : ℕ) (here tail : List ℕ) → here ≡ drop start bytes → tail ≡ drop 4 here → tail ≡ drop (start + 4) bytes
after_four bytes start here tail a b = b ∙ ap (drop 4) a ∙ drop-drop 4 start bytes

-- ---- what the kind says of the tree

record IsFramed (t : Tree) (v : List ℕ) (made : Doc → Tree) : Type 0 where
  pub fields : Fields
  pub body : List ℕ
  pub spell : AreFields fields body
  pub frame : v ≡ framed body
  pub is : t ≡ made (pairs_of fields)

abbrev as_document : Doc → Tree
as_document ps = doc (fields_of ps)

abbrev as_array : Doc → Tree
as_array ps = array (items_of (values_of ps))

is_document : (t : Tree) (v : List ℕ) → IsValue t v → kind_of t ≡ kinds.Doc → IsFramed t v as_document
is_document (leaf a) v h k = absurd (no_holder a kinds.Doc k refl)
is_document (doc fs) v h k = record { fields = fs; body = h.0; spell = h.1; frame = h.2; is = ap doc (sym (fields_of-pairs_of fs)) }
is_document _ v h k = absurd cc

items_fields : (ts : Items) (b : List ℕ) → AreItems ts b → (fs : Fields) × AreFields fs b × (values_of (pairs_of fs) ≡ list_of ts)
items_fields no_items b h = (no_fields, h, refl)
items_fields (item t ts) b h =
    let others = items_fields ts h.2 h.5 in
    (field h.0 t others.0, (h.1, h.2, h.3, h.4, others.1, h.6), ap (λ (x : List Tree). t ∷ x) others.2)

is_array : (t : Tree) (v : List ℕ) → IsValue t v → kind_of t ≡ kinds.Array → IsFramed t v as_array
is_array (leaf a) v h k = absurd (no_holder a kinds.Array k refl)
is_array (array ts) v h k =
    let f = items_fields ts h.0 h.1 in
    record { fields = f.0; body = h.0; spell = f.1; frame = h.2; is = ap array (sym (ap items_of f.2 ∙ items_of-list_of ts)) }
is_array _ v h k = absurd cc

record IsCode (t : Tree) (v : List ℕ) : Type 0 where
  pub code : List ℕ
  pub fields : Fields
  pub body : List ℕ
  pub text_fits : IsText code
  pub spell : AreFields fields body
  pub whole : v ≡ scoped code (framed body)
  pub is : t ≡ code_scope code fields

is_code : (t : Tree) (v : List ℕ) → IsValue t v → kind_of t ≡ kinds.CodeScope → IsCode t v
is_code (leaf a) v h k = absurd (no_holder a kinds.CodeScope k refl)
is_code (code_scope s fs) v h k = record { code = s; fields = fs; body = h.0; text_fits = h.3; spell = h.1; whole = h.2; is = refl }
is_code _ v h k = absurd cc

is_leaf : (t : Tree) (v r : List ℕ) → IsValue t v → is_holder (kind_of t) ≡ false → t ≡ leaf (scalar_at (kind_of t) (v ++ r))
is_leaf (leaf a) v r h k = ap leaf (sym (scalar_back a v r h))
is_leaf _ v r h k = absurd cc

-- ---- scalars

pub no_holder_remaining : (k : Kind) → (k ≡ kinds.Doc → ⊥) → (k ≡ kinds.Array → ⊥) → (k ≡ kinds.CodeScope → ⊥) → is_holder k ≡ false
no_holder_remaining kinds.Doc d a c = absurd (d refl)
no_holder_remaining kinds.Array d a c = absurd (a refl)
no_holder_remaining kinds.CodeScope d a c = absurd (c refl)
no_holder_remaining _ d a c = refl

pub leaf_is : (kind : Kind) (bytes : List ℕ) (s : Sound kind bytes) → is_holder kind ≡ false → meaning s ≡ leaf (scalar_at kind bytes)
leaf_is kind bytes s none =
    let k = kind_is kind bytes s in
    meaning_is s s ∙ is_leaf s.tree s.begins.value s.begins.after s.begins.spells (ap is_holder k ∙ none) ∙ ap leaf (ap₂ scalar_at k (sym s.begins.splits))

-- ---- the elements of a document and of an array

module _ (bytes : List ℕ) (start : ℕ) (kind : Kind) (s : Sound kind (drop start bytes)) where
  -- there are elements four bytes after the start, and they make the value
  abbrev pub HasElements : (Doc → Tree) → Type 0
  HasElements made = Remaining (drop (start + 4) bytes) × ((g : Remaining (drop (start + 4) bytes)) → meaning s ≡ made (elements_remaining g))

  framed_has_elements : (made : Doc → Tree) → IsFramed s.tree s.begins.value made → HasElements made
  framed_has_elements made f =
      let whole : drop start bytes ≡ number (length f.body + 5) ++ (f.body ++ 0 ∷ s.begins.after) =
      s.begins.splits ∙ ap (λ (x : List ℕ). x ++ s.begins.after) f.frame
      ∙ framed_after f.body s.begins.after in
      let splits = sym (drop-drop 4 start bytes) ∙ ap (drop 4) whole ∙ number_after (length f.body + 5) (f.body ++ 0 ∷ s.begins.after) in
      let short : length f.body ≤ longest_document = omega (arith, s.begins.short, ap length f.frame, framed_length f.body) in
      let remaining : Remaining (drop (start + 4) bytes) = record { fields = f.fields; body = f.body; after = s.begins.after; spell = f.spell; splits = splits; short = short } in
      (remaining, λ g. meaning_is s s ∙ f.is ∙ ap made (sym (remaining_is g remaining)))

  -- bytes that begin with a document have its elements four bytes after the start, and these make the document
  pub document_has_elements : kind ≡ kinds.Doc → HasElements as_document
  document_has_elements k = framed_has_elements as_document (is_document s.tree s.begins.value s.begins.spells (kind_is kind _ s ∙ k))

  pub array_has_elements : kind ≡ kinds.Array → HasElements as_array
  array_has_elements k = framed_has_elements as_array (is_array s.tree s.begins.value s.begins.spells (kind_is kind _ s ∙ k))

-- ---- code with scope

module _ (bytes : List ℕ) (start : ℕ) (kind : Kind) (s : Sound kind (drop start bytes)) (c : IsCode s.tree s.begins.value) where
  code_after : drop (start + 4) bytes ≡ string c.code ++ (framed c.body ++ s.begins.after)
  code_after =
      let whole : drop start bytes ≡ number (length (string c.code ++ framed c.body) + 4) ++ ((string c.code ++ framed c.body) ++ s.begins.after) =
      s.begins.splits ∙ ap (λ (x : List ℕ). x ++ s.begins.after) c.whole ∙ append_assoc (number (length (string c.code ++ framed c.body) + 4)) (string c.code ++ framed c.body) s.begins.after in
      sym (drop-drop 4 start bytes) ∙ ap (drop 4) whole ∙ number_after (length (string c.code ++ framed c.body) + 4)
      ((string c.code ++ framed c.body) ++ s.begins.after) ∙ append_assoc (string c.code) (framed c.body) s.begins.after

  code_size : number_of (drop (start + 4) bytes) ≡ length c.code + 1
  code_size = ap number_of code_after ∙ string_number c.code (framed c.body ++ s.begins.after) c.text_fits.1

  code_text : text_of (drop (start + 4) bytes) ≡ c.code
  code_text = ap text_of code_after ∙ string_text c.code (framed c.body ++ s.begins.after) c.text_fits.1

  scope_splits : (n : ℕ) → n ≡ number_of (drop (start + 4) bytes) → drop (start + 8 + n) bytes ≡ framed c.body ++ s.begins.after
  scope_splits n is =
      let e : start + 8 + n ≡ (start + 4) + (4 + n) = omega arith in
      let len : length (string c.code) ≡ 4 + n = omega (arith, string_length c.code, is, code_size) in
      ap (λ (m : ℕ). drop m bytes) e ∙ sym (drop-drop (4 + n) (start + 4) bytes) ∙ ap (drop (4 + n)) code_after ∙ drop_at (string c.code) (framed c.body ++ s.begins.after) (4 + n) len

  abbrev scope_here : (n : ℕ) → n ≡ number_of (drop (start + 4) bytes) → Sound kinds.Doc (drop (start + 8 + n) bytes)
  scope_here n is =
      let short : length (framed c.body) ≤ longest_document = omega (arith, s.begins.short, ap length c.whole, scoped_length c.code (framed c.body), length-append (string c.code) (framed c.body)) in
      record { tree = doc c.fields; begins = record { value = framed c.body; after = s.begins.after; spells = (c.body, c.spell, refl); typed = refl; splits = scope_splits n is; short = short } }

module _ (bytes : List ℕ) (start : ℕ) (kind : Kind) (s : Sound kind (drop start bytes)) (k : kind ≡ kinds.CodeScope) where
  code_of : IsCode s.tree s.begins.value
  code_of = is_code s.tree s.begins.value s.begins.spells (kind_is kind _ s ∙ k)

  pub code_long : 4 ≤ length (drop start bytes)
  code_long = rw k at (reads_at kind (drop start bytes) s)

  pub code_reads : TextAt (drop (start + 4) bytes)
  code_reads = subst TextAt (sym (code_after bytes start kind s code_of)) (text_reads code_of.code (framed code_of.body ++ s.begins.after) code_of.text_fits)

  pub scope_inside : (n : ℕ) → n ≡ number_of (drop (start + 4) bytes) → start + 8 + n ≤ length bytes
  scope_inside n is =
      let e = ap (λ (x : List ℕ). length x) (scope_splits bytes start kind s code_of n is) in
      omega (arith, e, length-append (framed code_of.body) s.begins.after, framed_length code_of.body, length-drop (start + 8 + n) bytes)

  pub scope_sound : (n : ℕ) → n ≡ number_of (drop (start + 4) bytes) → Sound kinds.Doc (drop (start + 8 + n) bytes)
  scope_sound n is = scope_here bytes start kind s code_of n is

  pub code_is : (n : ℕ) (code : List ℕ) (g : Sound kinds.Doc (drop (start + 8 + n) bytes)) → n ≡ number_of (drop (start + 4) bytes)
      → code ≡ text_of (drop (start + 4) bytes) → meaning s ≡ code_scope code (fields_of (pairs_in (meaning g)))
  code_is n code g is text =
      let scope : pairs_in (meaning g) ≡ pairs_of code_of.fields = ap pairs_in (meaning_is g (scope_here bytes start kind s code_of n is)) in
      meaning_is s s ∙ code_of.is ∙ ap₂ code_scope (sym (text ∙ code_text bytes start kind s code_of)) (sym (ap fields_of scope ∙ fields_of-pairs_of code_of.fields))
