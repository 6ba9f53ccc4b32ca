-- Documents by value and class are documents by value, in which each number has a tag for its class.
use Rattle.std.proofs.Common.{◌≡◌, ℕ, ℤ, zero, suc, pos, negsuc, ◌≤◌, List, [], ◌∷◌, ◌++◌, length, drop, refl, sym, ap, ap₂, ◌∙◌, subst, arith, Bool, true, false, if◌then◌else◌, FitsSigned}
use Rattle.std.specs.Int.{w32, w64, cast_unsigned}
use Rattle.std.proofs.lemmas.{Int.ints}
use Rattle.bd_value.specs.{Limits.most_levels, View.scalar_kind}
use Rattle.bd_value.specs.Tree as trees
use Rattle.bd_value.specs.Tree.{Scalar, int32, int64, Tree, leaf, doc, array, code_scope, Items, no_items, item, Fields, no_fields, field, Doc, fields_of, depth}
use Rattle.bd_bson_view.specs.declared.raw_parts.ElementType.{ElementType}
use Rattle.bd_bson_view.specs.Unique.{number_length}
use Rattle.bd_bson_view.specs.Spelling.{CanSpell, Grammar, IsDocument, IsDocumentBy, IsNumber, IsValueBy, AreFieldsBy, AreItemsBy, NumberKind, as_double, as_int32, as_int64, as_decimal128, number_type, number_size, scalar_bytes, type_byte, valued, written_typed, long}
use Rattle.bd_wide.specs.Rewritten.{IsRewritten, Writes}
use Rattle.bd_wide_copy.specs.Classes.{IsClassedScalar, classed, in_class, is_long, written_classed}
use Rattle.bd_wide_copy.specs.Copy.{IsCodeIn, IsCodeOf, IsCopy, IsNoLonger, coded, coded_document, coded_fields, coded_items, number_as, number_coded}
use Rattle.bd_wide_copy.specs.Dump.{AreDocuments, AreJoinedBy, coded_documents}
use Rattle.bd_wide_copy.specs.Numbers.{document_numbers, field_numbers, item_numbers, numbers_of, scalar_numbers}
use Rattle.bd_wide_copy.specs.declared.longs.Longs.{Longs}
use Rattle.bd_wide_copy.proofs.CopyLemmas.{copy_short, copy_spelled, same_depth, same_fields}

-- ---- from one grammar to another

module _ (g h : Grammar) (f : Scalar → Scalar)
    (leaves : (a : Scalar) (value : List ℕ) → g.Spells a value
    → h.Spells (f a) value × ((name : List ℕ) → g.written (leaf a) name value ≡ h.written (leaf (f a)) name value))
    (docs : (fs gs : Fields) (name value : List ℕ) → g.written (doc fs) name value ≡ h.written (doc gs) name value)
    (arrays : (ts us : Items) (name value : List ℕ) → g.written (array ts) name value ≡ h.written (array us) name value)
    (scopes : (s : List ℕ) (fs gs : Fields) (name value : List ℕ) → g.written (code_scope s fs) name value ≡ h.written (code_scope s gs) name value) where
  -- the bytes spell the value with other scalars, in the same element
  abbrev By : Tree → List ℕ → Type 0
  By t value = IsValueBy h (coded f t) value × ((name : List ℕ) → g.written t name value ≡ h.written (coded f t) name value)

  mutual
    value_by : (t : Tree) (value : List ℕ) → IsValueBy g t value → By t value
    value_by (leaf a) value s = leaves a value s
    value_by (doc fs) value s = ((s.0, fields_by fs s.0 s.1, s.2), (λ name. docs fs (coded_fields f fs) name value))
    value_by (array ts) value s = ((s.0, items_by ts s.0 s.1, s.2), (λ name. arrays ts (coded_items f ts) name value))
    value_by (code_scope c fs) value s = ((s.0, fields_by fs s.0 s.1, s.2, s.3), (λ name. scopes c fs (coded_fields f fs) name value))

    fields_by : (fs : Fields) (bytes : List ℕ) → AreFieldsBy g fs bytes → AreFieldsBy h (coded_fields f fs) bytes
    fields_by no_fields bytes s = s
    fields_by (field name t fs) bytes s = let v = value_by t s.0 s.3 in
        (s.0, s.1, s.2, v.0, fields_by fs s.1 s.4, s.5 ∙ ap (λ (x : List ℕ). x ++ s.1) (v.1 name))

    items_by : (ts : Items) (bytes : List ℕ) → AreItemsBy g ts bytes → AreItemsBy h (coded_items f ts) bytes
    items_by no_items bytes s = s
    items_by (item t ts) bytes s = let v = value_by t s.1 s.4 in
        (s.0, s.1, s.2, s.3, v.0, items_by ts s.2 s.5, s.6 ∙ ap (λ (x : List ℕ). x ++ s.2) (v.1 s.0))

  document_by : (d : Doc) (bytes : List ℕ) → IsDocumentBy g d bytes → IsDocumentBy h (coded_document f d) bytes
  document_by d bytes is = record {
    spells = subst (λ (fs : Fields). IsValueBy h (doc fs) bytes) (same_fields f d) (is.spells.0, fields_by (fields_of d) is.spells.0 is.spells.1, is.spells.2);
    short = is.short;
    shallow = subst (λ (n : ℕ). n ≤ most_levels) (sym (same_depth f (doc (fields_of d))) ∙ ap (λ (fs : Fields). depth (doc fs)) (same_fields f d)) is.shallow;
  }

  joined_by : (ds : List Doc) (bytes : List ℕ) → AreJoinedBy g ds bytes → AreJoinedBy h (coded_documents f ds) bytes
  joined_by [] bytes j = j
  joined_by (d ∷ ds) bytes j = (j.0, j.1, document_by d j.0 j.2, joined_by ds j.1 j.3, j.4)

-- ---- scalars in turn

module _ (f g h : Scalar → Scalar) (same : (s : Scalar) → g (f s) ≡ h s) where
  mutual
    coded_twice : (t : Tree) → coded g (coded f t) ≡ coded h t
    coded_twice (leaf s) = ap leaf (same s)
    coded_twice (doc fs) = ap doc (fields_twice fs)
    coded_twice (array ts) = ap array (items_twice ts)
    coded_twice (code_scope s fs) = ap (code_scope s) (fields_twice fs)

    fields_twice : (fs : Fields) → coded_fields g (coded_fields f fs) ≡ coded_fields h fs
    fields_twice no_fields = refl
    fields_twice (field n t fs) = ap₂ (field n) (coded_twice t) (fields_twice fs)

    items_twice : (ts : Items) → coded_items g (coded_items f ts) ≡ coded_items h ts
    items_twice no_items = refl
    items_twice (item t ts) = ap₂ item (coded_twice t) (items_twice ts)

  document_twice : (d : Doc) → coded_document g (coded_document f d) ≡ coded_document h d
  document_twice [] = refl
  document_twice (p ∷ ps) = ap₂ (λ (t : Tree) (qs : Doc). (p.0, t) ∷ qs) (coded_twice p.1) (document_twice ps)

-- ---- tags

abbrev pub twice : ℕ → ℕ
twice zero = zero
twice (suc n) = suc (suc (twice n))

abbrev pub half : ℕ → ℕ
half zero = zero
half (suc zero) = zero
half (suc (suc n)) = suc (half n)

abbrev pub odd : ℕ → Bool
odd zero = false
odd (suc zero) = true
odd (suc (suc n)) = odd n

abbrev pub bit : Bool → ℕ → ℕ
bit true n = suc n
bit false n = n

half_twice : (b : Bool) (n : ℕ) → half (bit b (twice n)) ≡ n
half_twice true zero = refl
half_twice false zero = refl
half_twice true (suc n) = ap suc (half_twice true n)
half_twice false (suc n) = ap suc (half_twice false n)

odd_twice : (b : Bool) (n : ℕ) → odd (bit b (twice n)) ≡ b
odd_twice true zero = refl
odd_twice false zero = refl
odd_twice true (suc n) = odd_twice true n
odd_twice false (suc n) = odd_twice false n

-- a number with a tag
abbrev pub tag : Bool → ℤ → ℤ
tag b (pos n) = pos (bit b (twice n))
tag b (negsuc n) = negsuc (bit b (twice n))

abbrev pub unmarked : ℤ → ℤ
unmarked (pos n) = pos (half n)
unmarked (negsuc n) = negsuc (half n)

abbrev pub is_marked : ℤ → Bool
is_marked (pos n) = odd n
is_marked (negsuc n) = odd n

number_kept : (b : Bool) (z : ℤ) → unmarked (tag b z) ≡ z
number_kept b (pos n) = ap pos (half_twice b n)
number_kept b (negsuc n) = ap negsuc (half_twice b n)

tag_kept : (b : Bool) (z : ℤ) → is_marked (tag b z) ≡ b
tag_kept b (pos n) = odd_twice b n
tag_kept b (negsuc n) = odd_twice b n

abbrev pub whole : Bool → ℤ → Scalar
whole b z = if b then int64 z else int32 z

-- a marked number in its class, with another number in place of it
abbrev pub in_tag : (ℤ → ℤ) → ℤ → Scalar
in_tag code z = whole (is_marked z) (code (unmarked z))

in_tag_is : (code : ℤ → ℤ) (b : Bool) (z : ℤ) → in_tag code (tag b z) ≡ whole b (code z)
in_tag_is code b z = ap₂ (λ (c : Bool) (x : ℤ). whole c (code x)) (tag_kept b z) (number_kept b z)

abbrev pub to_tag : Scalar → Scalar
to_tag (int32 z) = int64 (tag false z)
to_tag (int64 z) = int64 (tag true z)
to_tag s = s

module _ (longs : Longs) (worth : ElementType → List ℕ → ℤ) where
  -- the worth of a number, with a tag for its class
  abbrev pub marked : ElementType → List ℕ → ℤ
  marked type value = tag (is_long longs type) (worth type value)

  written_number : (w : ElementType → List ℕ → ℤ) (x y z : ℤ) (value name : List ℕ) → IsNumber w x value
      → written_typed (leaf (int64 y)) name value ≡ written_typed (leaf (int64 z)) name value
  written_number w x y z value name n = ap (written_typed (leaf (int64 y)) name) n.typed ∙ sym (ap (written_typed (leaf (int64 z)) name) n.typed)

  with_tag : (b : Bool) (z : ℤ) (value : List ℕ) (n : IsNumber worth z value) → is_long longs (number_type n.kind) ≡ b → IsNumber marked (tag b z) value
  with_tag b z value n is = record { kind = n.kind; value = n.value; typed = n.typed; sized = n.sized; is_worth = ap₂ tag is n.is_worth }

  leaf_marked : (a : Scalar) (value : List ℕ) → IsClassedScalar longs worth a value
      → (valued marked).Spells (to_tag a) value × ((name : List ℕ) → written_classed (leaf a) name value ≡ written_typed (leaf (to_tag a)) name value)
  leaf_marked (int32 z) value h = (with_tag false z value h.0 h.1, (λ name. written_number worth z z (tag false z) value name h.0))
  leaf_marked (int64 z) value h = (with_tag true z value h.0 h.1, (λ name. written_number worth z z (tag true z) value name h.0))
  leaf_marked _ value h = (h, (λ name. refl))

  pub document_marked : (d : Doc) (bytes : List ℕ) → IsDocumentBy (classed longs worth) d bytes → IsDocumentBy (valued marked) (coded_document to_tag d) bytes
  document_marked = document_by (classed longs worth) (valued marked) to_tag leaf_marked (λ fs gs name value. refl) (λ ts us name value. refl) (λ s fs gs name value. refl)

  -- a number by its tag
  abbrev Unmarks : ℤ → List ℕ → Scalar → Type 0
  Unmarks z value s = IsClassedScalar longs worth s value × ((name : List ℕ) → written_typed (leaf (int64 z)) name value ≡ written_classed (leaf s) name value)

  number_unmarked : (z : ℤ) (value : List ℕ) (n : IsNumber marked z value) (b : Bool) → is_long longs (number_type n.kind) ≡ b
      → Unmarks z value (whole b (worth (number_type n.kind) n.value))
  number_unmarked z value n true is = (
    (record { kind = n.kind; value = n.value; typed = n.typed; sized = n.sized; is_worth = refl }, is),
    (λ name. written_number marked z z (worth (number_type n.kind) n.value) value name n),
  )
  number_unmarked z value n false is = (
    (record { kind = n.kind; value = n.value; typed = n.typed; sized = n.sized; is_worth = refl }, is),
    (λ name. written_number marked z z (worth (number_type n.kind) n.value) value name n),
  )

  leaf_unmarked : (a : Scalar) (value : List ℕ) → (valued marked).Spells a value
      → IsClassedScalar longs worth (number_as (in_tag (λ z. z)) a) value
      × ((name : List ℕ) → written_typed (leaf a) name value ≡ written_classed (leaf (number_as (in_tag (λ z. z)) a)) name value)
  leaf_unmarked (int32 z) value h = absurd h
  leaf_unmarked (int64 z) value n =
      let b : Bool = is_long longs (number_type n.kind) in
      let y : ℤ = worth (number_type n.kind) n.value in
      subst (Unmarks z value) (sym (in_tag_is (λ z. z) b y) ∙ ap (in_tag (λ z. z)) n.is_worth) (number_unmarked z value n b refl)
  leaf_unmarked _ value h = (h, (λ name. refl))

  joined_unmarked : (ds : List Doc) (bytes : List ℕ) → AreJoinedBy (valued marked) ds bytes → AreJoinedBy (classed longs worth) (coded_documents (number_as (in_tag (λ z. z))) ds) bytes
  joined_unmarked = joined_by (valued marked) (classed longs worth) (number_as (in_tag (λ z. z))) leaf_unmarked (λ fs gs name value. refl) (λ ts us name value. refl) (λ s fs gs name value. refl)

  -- documents are some documents by value and class
  pub are_classed : (bytes : List ℕ) → AreDocuments bytes → (ds : List Doc) × AreJoinedBy (classed longs worth) ds bytes
  are_classed bytes are = let m = are marked in (coded_documents (number_as (in_tag (λ z. z))) m.0, joined_unmarked m.0 bytes m.1)

  -- ---- without classes

  leaf_widened : (a : Scalar) (value : List ℕ) → IsClassedScalar longs worth a value
      → (valued worth).Spells (number_as int64 a) value × ((name : List ℕ) → written_classed (leaf a) name value ≡ written_typed (leaf (number_as int64 a)) name value)
  leaf_widened (int32 z) value h = (h.0, (λ name. refl))
  leaf_widened (int64 z) value h = (h.0, (λ name. refl))
  leaf_widened _ value h = (h, (λ name. refl))

  -- with an int64 for each number they are documents by value
  pub joined_widened : (ds : List Doc) (bytes : List ℕ) → AreJoinedBy (classed longs worth) ds bytes → AreJoinedBy (valued worth) (coded_documents (number_as int64) ds) bytes
  joined_widened = joined_by (classed longs worth) (valued worth) (number_as int64) leaf_widened (λ fs gs name value. refl) (λ ts us name value. refl) (λ s fs gs name value. refl)

-- ---- numbers of documents

mutual
  numbers_widened : (t : Tree) → numbers_of (coded (number_as int64) t) ≡ numbers_of t
  numbers_widened (leaf (int32 z)) = refl
  numbers_widened (leaf (int64 z)) = refl
  numbers_widened (leaf _) = refl
  numbers_widened (doc fs) = field_numbers_widened fs
  numbers_widened (array ts) = item_numbers_widened ts
  numbers_widened (code_scope s fs) = field_numbers_widened fs

  field_numbers_widened : (fs : Fields) → field_numbers (coded_fields (number_as int64) fs) ≡ field_numbers fs
  field_numbers_widened no_fields = refl
  field_numbers_widened (field n t fs) = ap₂ (λ (x y : List ℤ). x ++ y) (numbers_widened t) (field_numbers_widened fs)

  item_numbers_widened : (ts : Items) → item_numbers (coded_items (number_as int64) ts) ≡ item_numbers ts
  item_numbers_widened no_items = refl
  item_numbers_widened (item t ts) = ap₂ (λ (x y : List ℤ). x ++ y) (numbers_widened t) (item_numbers_widened ts)

-- they have the same numbers
pub document_numbers_widened : (ds : List Doc) → document_numbers (coded_documents (number_as int64) ds) ≡ document_numbers ds
document_numbers_widened [] = refl
document_numbers_widened (d ∷ ds) =
    ap₂ (λ (x y : List ℤ). x ++ y) (ap field_numbers (sym (same_fields (number_as int64) d)) ∙ field_numbers_widened (fields_of d)) (document_numbers_widened ds)

-- ---- copies

module _ (longs : Longs) (worth : ElementType → List ℕ → ℤ) (code : ℤ → ℤ) (fits : (z : ℤ) → FitsSigned w32 (code z)) where
  -- what is written for a number by its class is written by its tag
  same_written : (type : ElementType) (value : List ℕ) → in_class longs type (code (worth type value)) ≡ in_tag code (marked longs worth type value)
  same_written type value = sym (in_tag_is code (is_long longs type) (worth type value))

  rewritten : (bytes new : List ℕ) → IsRewritten (IsCodeIn longs worth code) bytes new → IsRewritten (IsCodeOf (marked longs worth) (in_tag code)) bytes new
  rewritten bytes new = subst (λ (W : Writes). IsRewritten W bytes new)
      (λ i. λ type head value out. out ≡ type_byte (scalar_kind (same_written type value i)) ∷ (drop 1 head ++ scalar_bytes (same_written type value i)))

  can_spell : (b : Bool) (z : ℤ) → FitsSigned w32 z → CanSpell (whole b z)
  can_spell true z fit = omega (arith, ints, fit)
  can_spell false z fit = fit

  four : (b : Bool) (z : ℤ) (n : ℕ) → 4 ≤ n → (b ≡ true → 8 ≤ n) → length (scalar_bytes (whole b z)) ≤ n
  unfolding long
  four true z n least wide = wide refl
  four false z n least wide = omega (arith, least, number_length (cast_unsigned w32 z))

  class_size : (k : NumberKind) → is_long longs (number_type k) ≡ true → 8 ≤ number_size k
  class_size as_double e = omega arith
  class_size as_int32 e = absurd cc
  class_size as_int64 e = omega arith
  class_size as_decimal128 e = omega arith

  least_size : (k : NumberKind) → 4 ≤ number_size k
  least_size as_double = omega arith
  least_size as_int32 = omega arith
  least_size as_int64 = omega arith
  least_size as_decimal128 = omega arith

  no_longer : IsNoLonger (marked longs worth) (in_tag code)
  no_longer k value sized =
      subst (λ (s : Scalar). length (scalar_bytes s) ≤ length value) (same_written (number_type k) value)
      (four (is_long longs (number_type k)) (code (worth (number_type k) value)) (length value)
      (omega (arith, sized, least_size k)) (λ e. omega (arith, sized, class_size k e)))

  class_coded : (s : Scalar) → number_as (in_tag code) (to_tag s) ≡ number_coded code s
  class_coded (int32 z) = in_tag_is code false z
  class_coded (int64 z) = in_tag_is code true z
  class_coded _ = refl

  -- the copy that the rewritten bytes are
  pub copied : (bytes new : List ℕ) → IsRewritten (IsCodeIn longs worth code) bytes new → IsCopy longs worth code bytes new
  copied bytes new h d is =
      let spell : (z : ℤ) → CanSpell (in_tag code z) = λ z. can_spell (is_marked z) (code (unmarked z)) (fits (unmarked z)) in
      let m = document_marked longs worth d bytes is in
      let w = rewritten bytes new h in
      let short = copy_short (marked longs worth) (in_tag code) spell no_longer (coded_document to_tag d) bytes new m w in
      let spelled = copy_spelled (marked longs worth) (in_tag code) spell (coded_document to_tag d) bytes new m w (omega (arith, short, is.short)) in
      (subst (λ (x : Doc). IsDocument x new) (document_twice to_tag (number_as (in_tag code)) (number_coded code) class_coded d) spelled, short)
