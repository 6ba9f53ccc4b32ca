-- What is written for a document by value is spelled by the document with codes.
use Rattle.std.proofs.Common.{◌≡◌, ℕ, ℤ, zero, suc, ◌+◌, ◌-◌, ◌≤◌, List, [], ◌∷◌, ◌++◌, length, take, drop, Option, Some, refl, sym, ap, ap₂, ◌∙◌, subst, arith, append_assoc, length-append, take_at, drop_at, Bool, false, nat_lt, max, FitsSigned, Result, Ok, Err, OnOk, inl, inr}
use Rattle.std.specs.Int.{w32, cast_unsigned}
use Rattle.std.proofs.lemmas.{Bool.Decides.nat_tests}
use Rattle.std.proofs.Math.Nat.{le-max_left, le-max_right}
use Rattle.bd_value.specs.declared.node.Kind.TheVariants as kinds
use Rattle.bd_value.specs.{Limits.longest_document, Limits.most_levels, View.scalar_kind, View.kind_of}
use Rattle.bd_value.specs.Tree as trees
use Rattle.bd_value.specs.Tree.{Scalar, Tree, leaf, doc, array, code_scope, Items, no_items, item, Fields, no_fields, field, Doc, fields_of, depth, fields_depth, items_depth}
use Rattle.bd_bson_view.specs.declared.raw_parts.ElementType.{ElementType}
use Rattle.bd_bson_view.specs.declared.raw_parts.ElementType.TheVariants.{Kept}
use Rattle.bd_bson_view.specs.declared.raw_parts.Holder.TheVariants as holders
use Rattle.bd_bson_view.specs.Spelling.{type_byte, type_at, number, string, framed, scoped, scalar_bytes, CanSpell, element, IsName, IsText, IsValue, AreFields, AreItems, IsDocument, IsValueBy, AreFieldsBy, AreItemsBy, IsDocumentBy, number_type, number_byte, IsNumber, IsValuedScalar, written_typed, valued}
use Rattle.bd_bson_view.specs.Unique.{number_length, number_after, string_length}
use Rattle.bd_bson_view.proofs.ValueAtLemmas as values
use Rattle.bd_wide.specs.Rewritten.{Adds, Writes, Nested, size_at, part_of, IsPart, IsElement, AreElements, IsBody, IsScoped, IsNested, IsRewritten}
use Rattle.bd_wide.proofs.RewriteLemmas.{Turn, to_turn, none_only, ScopeTurn, to_scope}
use Rattle.bd_wide.proofs.LengthLemmas.{to_whole, WholeTurn}
use Rattle.bd_wide_copy.proofs.SizeLemmas.{framed_le, scoped_le, parts_le}
use Rattle.bd_wide_copy.proofs.PlaceLemmas.{Place, Other, number_or_other, number_place, other_place, doc_place, array_place, code_place, number_part, first_there, scope_there, inner_is, scope_is, body_short, code_short, value_short, parts_short}
use Rattle.bd_wide_copy.specs.Copy.{coded, coded_fields, coded_items, coded_document, number_as, IsCodeOf, IsNoLonger}

-- ---- what is written

module _ (Is : Writes) where
  -- what is written for these bytes, if they nest at most this deep, is so
  abbrev Become : (List ℕ → Type 0) → ℕ → List ℕ → Type 0
  Become So deep bytes = (depth_left n : ℕ) (new : List ℕ) → deep ≤ depth_left → length bytes ≤ n
      → AreElements Is (IsNested Is depth_left) n bytes new → So new

  -- what is written for the first element, and for the rest
  abbrev First : ℕ → ElementType → List ℕ → List ℕ → List ℕ → ℕ → List ℕ → Type 0
  First b type name v rest depth_left new = (m : ℕ) × (one : List ℕ) × (two : List ℕ) × (length rest ≤ m)
      × IsElement Is (IsNested Is depth_left) type (b ∷ (name ++ 0 ∷ [])) v one
      × AreElements Is (IsNested Is depth_left) m rest two × (new ≡ one ++ two)

  split_first : (b : ℕ) (type : ElementType) (name v rest bytes : List ℕ) → IsName name → type_at b ≡ Some type
      → size_at type (v ++ rest) ≡ Some (length v) → bytes ≡ b ∷ (name ++ 0 ∷ (v ++ rest))
      → (depth_left n : ℕ) (new : List ℕ) → length bytes ≤ n
      → AreElements Is (IsNested Is depth_left) n bytes new → First b type name v rest depth_left new
  split_first b type name v rest bytes named typed sized is depth_left zero new fits h =
      absurd (omega (arith, fits, ap (λ (x : List ℕ). length x) is))
  split_first b type name v rest bytes named typed sized is depth_left (suc n) new fits h =
      let nested : Nested = IsNested Is depth_left in
      let tail : List ℕ = name ++ 0 ∷ (v ++ rest) in
      let head : List ℕ = b ∷ (name ++ 0 ∷ []) in
      let k : ℕ = length name + 2 in
      let splits : b ∷ tail ≡ head ++ (v ++ rest) = ap (λ (x : List ℕ). b ∷ x) (sym (append_assoc name (0 ∷ []) (v ++ rest))) in
      let long : length head ≡ k = omega (arith, length-append name (0 ∷ [])) in
      let begun = to_turn Is nested n b tail new (subst (λ (x : List ℕ). AreElements Is nested (suc n) x new) is h) in
      let turn = subst (λ o. Turn Is nested n (b ∷ tail) o new) (first_there b type name v rest named typed sized) begun in
      let headed : take k (b ∷ tail) ≡ head = ap (take k) splits ∙ take_at head (v ++ rest) k long in
      let after : drop k (b ∷ tail) ≡ v ++ rest = ap (drop k) splits ∙ drop_at head (v ++ rest) k long in
      let valued_is : take (length v) (drop k (b ∷ tail)) ≡ v = ap (take (length v)) after ∙ take_at v rest (length v) refl in
      let remaining : drop (length v) (drop k (b ∷ tail)) ≡ rest = ap (drop (length v)) after ∙ drop_at v rest (length v) refl in
      let one = subst (λ (x : List ℕ). IsElement Is nested type x v turn.0) headed
      (subst (λ (x : List ℕ). IsElement Is nested type (take k (b ∷ tail)) x turn.0) valued_is turn.2) in
      let two = subst (λ (x : List ℕ). AreElements Is nested n x turn.1) remaining turn.3 in
      let size : length bytes ≡ suc (length name + suc (length v + length rest)) =
      ap (λ (x : List ℕ). length x) is ∙ omega (arith, length-append name (0 ∷ (v ++ rest)), length-append v rest) in
      (n, turn.0, turn.1, omega (arith, fits, size), one, two, turn.4)

  none_become : (So : List ℕ → Type 0) (deep : ℕ) (bytes : List ℕ) → So [] → bytes ≡ [] → Become So deep bytes
  none_become So deep bytes so nil = λ depth_left n new d fits h.
      subst So (sym (none_only Is (IsNested Is depth_left) n new
      (subst (λ (x : List ℕ). AreElements Is (IsNested Is depth_left) n x new) nil h))) so

  -- ---- documents, arrays and code with scope

  -- a document or an array around such elements
  abbrev Around : (List ℕ → Type 0) → List ℕ → Type 0
  Around So new = (body : List ℕ) × So body × (new ≡ framed body)

  body_becomes : (So : List ℕ → Type 0) (depth_left : ℕ) (body new : List ℕ) (deep : ℕ) → deep ≤ depth_left
      → Become So deep body → IsBody Is (IsNested Is depth_left) (framed body) new → Around So new
  unfolding IsBody
  body_becomes So depth_left body new deep d become h =
      let value : List ℕ = framed body in
      let size : length value ≡ length body + 5 = values.framed_length body in
      let inner : take (length value - 5) (drop 4 value) ≡ body = inner_is body in
      let count : ℕ = length (take (length value - 5) (drop 4 value)) in
      let so : So h.0 = become depth_left count h.0 d (omega (arith, ap (λ (x : List ℕ). length x) inner))
      (subst (λ (x : List ℕ). AreElements Is (IsNested Is depth_left) count x h.0) inner h.1) in
      let last : drop (length value - 1) value ≡ 0 ∷ [] =
      ap (drop (length value - 1)) (sym (append_assoc (number (length body + 5)) body (0 ∷ [])))
      ∙ drop_at (number (length body + 5) ++ body) (0 ∷ []) (length value - 1) (omega (arith, size, length-append (number (length body + 5)) body, number_length (length body + 5))) in
      (h.0, so, h.2 ∙ ap (λ (y : List ℕ). number (length h.0 + 5) ++ (h.0 ++ y)) last)

  document_becomes : (So : List ℕ → Type 0) (depth_left : ℕ) (body value new : List ℕ) (deep : ℕ) → suc deep ≤ depth_left
      → Become So deep body → value ≡ framed body → IsNested Is depth_left holders.Document value new → Around So new
  unfolding IsNested
  document_becomes So zero body value new deep d become is h = absurd (omega (arith, d))
  document_becomes So (suc depth_left) body value new deep d become is h =
      body_becomes So depth_left body new deep (omega (arith, d)) become
      (subst (λ (x : List ℕ). IsBody Is (IsNested Is depth_left) x new) is h)

  array_becomes : (So : List ℕ → Type 0) (depth_left : ℕ) (body value new : List ℕ) (deep : ℕ) → suc deep ≤ depth_left
      → Become So deep body → value ≡ framed body → IsNested Is depth_left holders.Array value new → Around So new
  unfolding IsNested
  array_becomes So zero body value new deep d become is h = absurd (omega (arith, d))
  array_becomes So (suc depth_left) body value new deep d become is h =
      body_becomes So depth_left body new deep (omega (arith, d)) become
      (subst (λ (x : List ℕ). IsBody Is (IsNested Is depth_left) x new) is h)

  -- code with scope around such a scope
  abbrev Scoped : List ℕ → (List ℕ → Type 0) → List ℕ → Type 0
  Scoped code So new = (body : List ℕ) × So body × (new ≡ scoped code (framed body)) × IsText code

  scoped_becomes : (So : List ℕ → Type 0) (depth_left : ℕ) (code body new : List ℕ) (deep : ℕ) → suc deep ≤ depth_left
      → Become So deep body → IsText code → length (scoped code (framed body)) ≤ longest_document
      → IsScoped (IsNested Is depth_left holders.Document) (scoped code (framed body)) new → Scoped code So new
  scoped_becomes So depth_left code body new deep d become text short h =
      let document : List ℕ → List ℕ → Type 0 = IsNested Is depth_left holders.Document in
      let scope : List ℕ = framed body in
      let value : List ℕ = scoped code scope in
      let k : ℕ = 8 + (length code + 1) in
      let rest : drop 4 value ≡ string code ++ scope = number_after (length (string code ++ scope) + 4) (string code ++ scope) in
      let t : ScopeTurn document value new (Some k) = subst (λ (o : Option ℕ). ScopeTurn document value new o) (scope_there code body text short) (to_scope document value new h) in
      let splits : drop k value ≡ scope = scope_is code body in
      let around = document_becomes So depth_left body scope t.0 deep d become refl (subst (λ (x : List ℕ). document x t.0) splits t.1) in
      let prefix : take (k - 4) (drop 4 value) ≡ string code = ap (take (k - 4)) rest ∙ take_at (string code) scope (k - 4) (omega (arith, string_length code)) in
      let size : k + length t.0 ≡ length (string code ++ t.0) + 4 = omega (arith, length-append (string code) t.0, string_length code) in
      let whole : new ≡ scoped code t.0 = t.2 ∙ ap₂ (λ (n : ℕ) (x : List ℕ). number n ++ (x ++ t.0)) size prefix in
      (around.0, around.1, whole ∙ ap (scoped code) around.2, text)

  code_becomes : (So : List ℕ → Type 0) (depth_left : ℕ) (code body value new : List ℕ) (deep : ℕ) → suc (suc deep) ≤ depth_left
      → Become So deep body → IsText code → value ≡ scoped code (framed body) → length value ≤ longest_document
      → IsNested Is depth_left holders.CodeScope value new → Scoped code So new
  unfolding IsNested
  code_becomes So zero code body value new deep d become text is short h = absurd (omega (arith, d))
  code_becomes So (suc depth_left) code body value new deep d become text is short h =
      scoped_becomes So depth_left code body new deep (omega (arith, d)) become text
      (subst (λ (x : List ℕ). length x ≤ longest_document) is short)
      (subst (λ (x : List ℕ). IsScoped (IsNested Is depth_left holders.Document) x new) is h)

-- ---- depth

module _ (c : Scalar → Scalar) where
  mutual
    pub same_depth : (t : Tree) → depth (coded c t) ≡ depth t
    same_depth (leaf a) = refl
    same_depth (doc fs) = ap suc (same_fields_depth fs)
    same_depth (array ts) = ap suc (same_items_depth ts)
    same_depth (code_scope s fs) = ap (λ (n : ℕ). suc (suc n)) (same_fields_depth fs)

    same_fields_depth : (fs : Fields) → fields_depth (coded_fields c fs) ≡ fields_depth fs
    same_fields_depth no_fields = refl
    same_fields_depth (field n t fs) = ap₂ max (same_depth t) (same_fields_depth fs)

    same_items_depth : (ts : Items) → items_depth (coded_items c ts) ≡ items_depth ts
    same_items_depth no_items = refl
    same_items_depth (item t ts) = ap₂ max (same_depth t) (same_items_depth ts)

  -- the fields of a document with codes are its fields with codes
  pub same_fields : (d : Doc) → coded_fields c (fields_of d) ≡ fields_of (coded_document c d)
  same_fields [] = refl
  same_fields (p ∷ ps) = ap (field p.0 (coded c p.1)) (same_fields ps)

-- ---- values

module _ (worth : ElementType → List ℕ → ℤ) (c : ℤ → Scalar) (fits : (z : ℤ) → CanSpell (c z)) where
  abbrev Is : Writes
  Is = IsCodeOf worth c

  -- If each code has no more bytes than the number, the new bytes are not more than the old.
  abbrev Shorter : List ℕ → List ℕ → Type 0
  Shorter old new = IsNoLonger worth c → length new ≤ length old

  -- the elements with codes, for these bytes
  abbrev Fielded : Fields → List ℕ → List ℕ → Type 0
  Fielded fs old new = AreFields (coded_fields (number_as c) fs) new × Shorter old new

  abbrev Listed : Items → List ℕ → List ℕ → Type 0
  Listed ts old new = AreItems (coded_items (number_as c) ts) new × Shorter old new

  -- what is written for an element is an element with codes
  abbrev Becomes : Tree → ElementType → ℕ → List ℕ → Type 0
  Becomes t type b bare = (depth_left : ℕ) (name one : List ℕ) → depth t ≤ depth_left
      → IsElement Is (IsNested Is depth_left) type (b ∷ (name ++ 0 ∷ [])) bare one
      → (w : List ℕ) × IsValue (coded (number_as c) t) w × (one ≡ element (coded (number_as c) t) name w) × Shorter bare w

  abbrev Step : Tree → List ℕ → Type 0
  Step t value = (p : Place t value) × Becomes t p.type p.byte p.bare

  joined : (b : ℕ) (name v : List ℕ) → (b ∷ (name ++ 0 ∷ [])) ++ v ≡ b ∷ (name ++ 0 ∷ v)
  joined b name v = ap (λ (x : List ℕ). b ∷ x) (append_assoc name (0 ∷ []) v)

  number_step : (z : ℤ) (value : List ℕ) → IsNumber worth z value → Step (leaf (trees.int64 z)) value
  unfolding IsElement
  number_step z value n = (
    number_place worth z value n,
    (λ depth_left name one d h.
        let head : List ℕ = number_byte n.kind ∷ (name ++ 0 ∷ []) in
        let written : one ≡ type_byte (scalar_kind (c (worth (number_type n.kind) n.value))) ∷ (drop 1 head ++ scalar_bytes (c (worth (number_type n.kind) n.value))) =
        subst (λ p. IsPart Is (IsNested Is depth_left) p (number_type n.kind) head n.value one) (number_part n.kind) h in (
          scalar_bytes (c z),
          (fits z, refl),
          written ∙ ap (λ (m : ℤ). type_byte (scalar_kind (c m)) ∷ ((name ++ 0 ∷ []) ++ scalar_bytes (c m))) n.is_worth
              ∙ joined (type_byte (scalar_kind (c z))) name (scalar_bytes (c z)),
          (λ four. omega (arith, four n.kind n.value n.sized, ap (λ (m : ℤ). length (scalar_bytes (c m))) n.is_worth)),
        )),
  )

  other_step : (a : Scalar) (value : List ℕ) → Other a value → Step (leaf a) value
  unfolding IsElement
  other_step a value o = (
    other_place a value o,
    (λ depth_left name one d h.
        let head : List ℕ = type_byte (scalar_kind a) ∷ (name ++ 0 ∷ []) in
        let stays : one ≡ head ++ value =
        subst (λ p. IsPart Is (IsNested Is depth_left) p (Kept (scalar_kind a)) head value one) o.not_examined h in
        subst (λ (s : Scalar). (w : List ℕ) × IsValue (leaf s) w × (one ≡ element (leaf s) name w) × Shorter value w) (sym (o.stays c))
        (value, o.spells, stays ∙ joined (type_byte (scalar_kind a)) name value, (λ four. omega arith))),
  )

  leaf_step : (a : Scalar) (value : List ℕ) → IsValuedScalar worth a value → Step (leaf a) value
  leaf_step a value h = elim (number_or_other worth a value h) [
    | inl n ↦ subst (λ (s : Scalar). Step (leaf s) value) (sym n.1) (number_step n.0 value n.2)
    | inr o ↦ other_step a value o
  ]

  doc_step : (fs : Fields) (value body : List ℕ) → value ≡ framed body → length value ≤ longest_document
      → Become Is (Fielded fs body) (fields_depth fs) body → Step (doc fs) value
  unfolding IsElement part_of
  doc_step fs value body is short become = (
    doc_place fs body value is short,
    (λ depth_left name one d h.
        let w = document_becomes Is (Fielded fs body) depth_left body value h.0 (fields_depth fs) d become is h.1 in (
          h.0,
          (w.0, w.1.0, w.2),
          h.2 ∙ joined (type_byte kinds.Doc) name h.0,
          (λ four. framed_le body w.0 value h.0 is w.2 (w.1.1 four)),
        )),
  )

  array_step : (ts : Items) (value body : List ℕ) → value ≡ framed body → length value ≤ longest_document
      → Become Is (Listed ts body) (items_depth ts) body → Step (array ts) value
  unfolding IsElement part_of
  array_step ts value body is short become = (
    array_place ts body value is short,
    (λ depth_left name one d h.
        let w = array_becomes Is (Listed ts body) depth_left body value h.0 (items_depth ts) d become is h.1 in (
          h.0,
          (w.0, w.1.0, w.2),
          h.2 ∙ joined (type_byte kinds.Array) name h.0,
          (λ four. framed_le body w.0 value h.0 is w.2 (w.1.1 four)),
        )),
  )

  code_step : (code : List ℕ) (fs : Fields) (value body : List ℕ) → value ≡ scoped code (framed body) → IsText code → length value ≤ longest_document
      → Become Is (Fielded fs body) (fields_depth fs) body → Step (code_scope code fs) value
  unfolding IsElement part_of
  code_step code fs value body is text short become = (
    code_place code fs body value is short,
    (λ depth_left name one d h.
        let w = code_becomes Is (Fielded fs body) depth_left code body value h.0 (fields_depth fs) d become text is short h.1 in (
          h.0,
          (w.0, w.1.0, w.2, w.3),
          h.2 ∙ joined (type_byte kinds.CodeScope) name h.0,
          (λ four. scoped_le code body w.0 value h.0 is w.2 (w.1.1 four)),
        )),
  )

  field_become : (t : Tree) (fs : Fields) (name value rest bytes : List ℕ) → IsName name → bytes ≡ written_typed t name value ++ rest
      → Step t value → Become Is (Fielded fs rest) (fields_depth fs) rest
      → Become Is (Fielded (field name t fs) bytes) (max (depth t) (fields_depth fs)) bytes
  field_become t fs name value rest bytes named is step more = λ depth_left n new d enough h.
      let p = step.0 in
      let splits = is ∙ p.written name rest in
      let g = split_first Is p.byte p.type name p.bare rest bytes named p.typed (p.sized rest) splits depth_left n new enough h in
      let one = step.1 depth_left name g.1 (omega (arith, d, le-max_left (depth t) (fields_depth fs))) g.4 in
      let two = more depth_left g.0 g.2 (omega (arith, d, le-max_right (depth t) (fields_depth fs))) g.3 g.5 in
      let whole = g.6 ∙ ap (λ (x : List ℕ). x ++ g.2) one.2 in (
        (one.0, g.2, named, one.1, two.0, whole),
        (λ four. parts_le p.byte (type_byte (kind_of (coded (number_as c) t))) name p.bare one.0 rest g.2 bytes new splits whole (one.3 four) (two.1 four)),
      )

  item_become : (t : Tree) (ts : Items) (name value rest bytes : List ℕ) → IsName name → bytes ≡ written_typed t name value ++ rest
      → Step t value → Become Is (Listed ts rest) (items_depth ts) rest
      → Become Is (Listed (item t ts) bytes) (max (depth t) (items_depth ts)) bytes
  item_become t ts name value rest bytes named is step more = λ depth_left n new d enough h.
      let p = step.0 in
      let splits = is ∙ p.written name rest in
      let g = split_first Is p.byte p.type name p.bare rest bytes named p.typed (p.sized rest) splits depth_left n new enough h in
      let one = step.1 depth_left name g.1 (omega (arith, d, le-max_left (depth t) (items_depth ts))) g.4 in
      let two = more depth_left g.0 g.2 (omega (arith, d, le-max_right (depth t) (items_depth ts))) g.3 g.5 in
      let whole = g.6 ∙ ap (λ (x : List ℕ). x ++ g.2) one.2 in (
        (name, one.0, g.2, named, one.1, two.0, whole),
        (λ four. parts_le p.byte (type_byte (kind_of (coded (number_as c) t))) name p.bare one.0 rest g.2 bytes new splits whole (one.3 four) (two.1 four)),
      )

  mutual
    value_step : (t : Tree) (name value : List ℕ) → IsValueBy (valued worth) t value → length (written_typed t name value) ≤ longest_document → Step t value
    value_step (leaf a) name value v short = leaf_step a value v
    value_step (doc fs) name value v short = let s = value_short 3 name value short in
        doc_step fs value v.0 v.2 s (fields_become fs v.0 v.1 (body_short v.0 value v.2 s))
    value_step (array ts) name value v short = let s = value_short 4 name value short in
        array_step ts value v.0 v.2 s (items_become ts v.0 v.1 (body_short v.0 value v.2 s))
    value_step (code_scope code fs) name value v short = let s = value_short 15 name value short in
        code_step code fs value v.0 v.2 v.3 s (fields_become fs v.0 v.1 (code_short code v.0 value v.2 s))

    fields_become : (fs : Fields) (bytes : List ℕ) → AreFieldsBy (valued worth) fs bytes → length bytes ≤ longest_document
        → Become Is (Fielded fs bytes) (fields_depth fs) bytes
    fields_become no_fields bytes f short = none_become Is (Fielded no_fields bytes) 0 bytes (refl, (λ four. omega arith)) f
    fields_become (field name t fs) bytes f short =
        let s = parts_short (written_typed t name f.0) f.1 bytes f.5 short in
        field_become t fs name f.0 f.1 bytes f.2 f.5 (value_step t name f.0 f.3 s.0) (fields_become fs f.1 f.4 s.1)

    items_become : (ts : Items) (bytes : List ℕ) → AreItemsBy (valued worth) ts bytes → length bytes ≤ longest_document
        → Become Is (Listed ts bytes) (items_depth ts) bytes
    items_become no_items bytes f short = none_become Is (Listed no_items bytes) 0 bytes (refl, (λ four. omega arith)) f
    items_become (item t ts) bytes f short =
        let s = parts_short (written_typed t f.0 f.1) f.2 bytes f.6 short in
        item_become t ts f.0 f.1 f.2 bytes f.3 f.6 (value_step t f.0 f.1 f.4 s.0) (items_become ts f.2 f.5 s.1)

  -- what is written for the elements of a document, and around it
  around : (d : Doc) (bytes new : List ℕ) (is : IsDocumentBy (valued worth) d bytes) → IsRewritten Is bytes new
      → Around Is (Fielded (fields_of d) is.spells.0) new
  around d bytes new is h =
      let v = is.spells in
      let deep : suc (fields_depth (fields_of d)) ≤ 200 = is.shallow in
      let size : length bytes ≡ length v.0 + 5 = ap (λ (x : List ℕ). length x) v.2 ∙ values.framed_length v.0 in
      let whole : nat_lt (length bytes) 5 ≡ false = grind (arith, nat_tests, size) in
      let turn : IsNested Is 200 holders.Document bytes new = subst (λ (b : Bool). WholeTurn Is bytes new b) whole (to_whole Is bytes new h) in
      document_becomes Is (Fielded (fields_of d) v.0) 200 v.0 bytes new (fields_depth (fields_of d)) deep
      (fields_become (fields_of d) v.0 v.1 (body_short v.0 bytes v.2 is.short)) v.2 turn

  -- what is written is the document with codes
  pub copy_spelled : (d : Doc) (bytes new : List ℕ) → IsDocumentBy (valued worth) d bytes → IsRewritten Is bytes new
      → length new ≤ longest_document → IsDocument (coded_document (number_as c) d) new
  copy_spelled d bytes new is h short = let w = around d bytes new is h in
      record {
        spells = subst (λ (fs : Fields). IsValue (doc fs) new) (same_fields (number_as c) d) (w.0, w.1.0, w.2);
        short = short;
        shallow = subst (λ (n : ℕ). n ≤ most_levels) (sym (same_depth (number_as c) (doc (fields_of d))) ∙ ap (λ (fs : Fields). depth (doc fs)) (same_fields (number_as c) d)) is.shallow;
      }

  -- codes that are no longer than the numbers make no document longer
  pub copy_short : IsNoLonger worth c → (d : Doc) (bytes new : List ℕ) → IsDocumentBy (valued worth) d bytes
      → IsRewritten Is bytes new → length new ≤ length bytes
  copy_short four d bytes new is h = let w = around d bytes new is h in
      framed_le is.spells.0 w.0 bytes new is.spells.2 w.2 (w.1.1 four)

pub ok_copied : {E : Type 0} (r : Result (Unit {0}) E) (Is So : List ℕ → Type 0) (old out : List ℕ) → ((new : List ℕ) → Is new → So new)
    → OnOk r (Adds Is old out) → OnOk r (Adds So old out)
ok_copied (Ok u) Is So old out f h = (h.0, f h.0 h.1, h.2)
ok_copied (Err e) Is So old out f h = h
