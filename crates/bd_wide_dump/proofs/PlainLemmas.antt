-- The text of a document of the nineteen kinds, by value or not, is one text.
use Rattle.std.proofs.Common.{◌≡◌, ℕ, ℤ, zero, suc, List, [], ◌∷◌, ◌++◌, length, take, Some, true, false, refl, sym, ap, ap₂, subst, ◌∙◌, append-nil, arith}
use Rattle.std.specs.Int.{w32, w64, cast_signed, cast_unsigned}
use Rattle.std.proofs.lemmas.List.{take_at}
use Rattle.bd_value.specs.View.{scalar_kind, kind_of}
use Rattle.bd_value.specs.declared.node.Kind.{Kind}
use Rattle.bd_value.specs.declared.node.Kind.TheVariants as kinds
use Rattle.bd_value.specs.Tree as trees
use Rattle.bd_value.specs.Tree.{Scalar, Tree, leaf, doc, array, code_scope, Items, no_items, item, Fields, no_fields, field, Doc, fields_of}
use Rattle.bd_bson_view.specs.declared.raw_parts.ElementType.{ElementType}
use Rattle.bd_bson_view.specs.declared.raw_parts.ElementType.TheVariants.{Kept}
use Rattle.bd_bson_view.specs.Spelling.{type_at, type_byte, number, long, framed, scoped, element, IsName, IsScalar, IsValue, AreFields, AreItems, IsDocument, AreFieldsBy, written_typed, valued}
use Rattle.bd_bson_view.specs.Spelling.{NumberKind, as_double, as_int32, as_int64, as_decimal128, number_type, number_size}
use Rattle.bd_bson_view.specs.Sizes.{number_of, long_of, scalar_at, size_of}
use Rattle.bd_bson_view.specs.Unique.{type_is, byte_is_not_zero, scalar_back, scalar_size, scalars, no_holder, cancel, names, bodies, same_code, element_after}
use Rattle.bd_extjson_text.specs.Text.{scalar_text, text, fields_text, items_text, object, listed, member, quoted}
use Rattle.std.specs.Prelude.{codes}
use Rattle.bd_wide_dump.specs.Raw.{raw, byte_of}
use Rattle.bd_wide_dump.specs.declared.format.JsonFormat.TheVariants.{Canonical}
use Rattle.bd_wide_dump.specs.WideText.{AreBytes, IsNumberText, IsRawText, IsScalarText, IsTextOf, AreTexts, AreMembers, IsLineOf}
use Rattle.bd_wide_dump.specs.Values.{values_in}
use Rattle.bd_wide_dump.specs.inside.Begins.{is_whole, IsTyped, a_number, a_scalar, a_document, an_array, a_code}
use Rattle.bd_wide_dump.proofs.ElementLemmas.{byte_type, some_byte, Written, written_by, regroup}
use Rattle.bd_wide_dump.proofs.ValueLemmas.{number_no_holder}
use Rattle.bd_wide_dump.proofs.RawLemmas.{raw_same}

-- ---- numbers

number_bytes : (n : ℕ) → AreBytes (number n)
unfolding number
number_bytes n zero = omega arith
number_bytes n (suc zero) = omega arith
number_bytes n (suc (suc zero)) = omega arith
number_bytes n (suc (suc (suc zero))) = omega arith
number_bytes n (suc (suc (suc (suc i)))) = omega arith

long_bytes : (n : ℕ) → AreBytes (long n)
unfolding long
long_bytes n zero = omega arith
long_bytes n (suc zero) = omega arith
long_bytes n (suc (suc zero)) = omega arith
long_bytes n (suc (suc (suc zero))) = omega arith
long_bytes n (suc (suc (suc (suc zero)))) = omega arith
long_bytes n (suc (suc (suc (suc (suc zero))))) = omega arith
long_bytes n (suc (suc (suc (suc (suc (suc zero)))))) = omega arith
long_bytes n (suc (suc (suc (suc (suc (suc (suc zero))))))) = omega arith
long_bytes n (suc (suc (suc (suc (suc (suc (suc (suc i)))))))) = omega arith

-- a number's text is by its content type and bytes
raw_text_is : (k : NumberKind) (content x : List ℕ) (z : ℤ) → AreBytes content → length content ≡ number_size k → raw (number_type k) content ≡ z → IsRawText Canonical z x → IsNumberText Canonical k content x
raw_text_is k content x z fits sized is r =
    let s = raw_same k r.kind content r.value fits r.fits sized r.sized (is ∙ sym r.is) in
    let P : List ℕ → Type 0 = λ v. IsNumberText Canonical k v x in
    let Q : NumberKind → Type 0 = λ j. IsNumberText Canonical j r.value x in
    subst P (sym s.1) (subst Q (sym s.0) r.written)

-- what is the text of the one value is that of the other
abbrev Agree : Tree → Tree → Type 0
Agree t u = (x : List ℕ) → IsTextOf Canonical u x → x ≡ text t

-- equal bytes begin with equal bytes if these are as many
pub same_length : (v content r s : List ℕ) → v ++ r ≡ content ++ s → length v ≡ length content → v ≡ content
same_length v content r s is long = sym (take_at v r (length v) refl) ∙ ap (take (length v)) is ∙ take_at content s (length v) (sym long)

read_back : (a : Scalar) (v : List ℕ) → IsScalar a v → scalar_at (scalar_kind a) v ≡ a
read_back a v h = ap (scalar_at (scalar_kind a)) (sym (append-nil v)) ∙ scalar_back a v [] h

size_back : (a : Scalar) (v : List ℕ) → IsScalar a v → size_of (scalar_kind a) v ≡ length v
size_back a v h = ap (size_of (scalar_kind a)) (sym (append-nil v)) ∙ scalar_size a v [] h

content_fits : (a : Scalar) (v : List ℕ) → is_whole (scalar_kind a) ≡ true → IsScalar a v → AreBytes v
content_fits (trees.int32 z) v whole h = subst AreBytes (sym h.1) (number_bytes (cast_unsigned w32 z))
content_fits (trees.int64 z) v whole h = subst AreBytes (sym h.1) (long_bytes (cast_unsigned w64 z))
content_fits _ v whole h = absurd cc

number_agrees : (a : Scalar) (u : Tree) (v content r s : List ℕ) (k : NumberKind) (z : ℤ) → IsScalar a v → u ≡ leaf (trees.int64 z) → Kept (scalar_kind a) ≡ number_type k
    → length content ≡ number_size k → raw (number_type k) content ≡ z → v ++ r ≡ content ++ s → (v ≡ content) × Agree (leaf a) u
number_agrees a u v content r s as_double z h is typed sized worth splits = absurd cc
number_agrees a u v content r s as_decimal128 z h is typed sized worth splits = absurd cc
number_agrees a u v content r s as_int32 z h is typed sized worth splits =
    let kinded : scalar_kind a ≡ kinds.Int32 = cc in
    let size : length v ≡ 4 = sym (size_back a v h) ∙ ap (λ (k : Kind). size_of k v) kinded in
    let same = same_length v content r s splits (size ∙ sym sized) in
    let back : trees.int32 (cast_signed w32 (number_of v)) ≡ a = ap (λ (k : Kind). scalar_at k v) (sym kinded) ∙ read_back a v h in
    let fits = subst AreBytes same (content_fits a v (ap is_whole kinded) h) in
    (same, λ x t. raw_text_is as_int32 content x z fits sized worth (subst (λ (w : Tree). IsTextOf Canonical w x) is t) ∙ ap (λ (y : List ℕ). scalar_text (trees.int32 (cast_signed w32 (number_of y)))) (sym same) ∙ ap scalar_text back)
number_agrees a u v content r s as_int64 z h is typed sized worth splits =
    let kinded : scalar_kind a ≡ kinds.Int64 = cc in
    let size : length v ≡ 8 = sym (size_back a v h) ∙ ap (λ (k : Kind). size_of k v) kinded in
    let same = same_length v content r s splits (size ∙ sym sized) in
    let back : trees.int64 (cast_signed w64 (long_of v)) ≡ a = ap (λ (k : Kind). scalar_at k v) (sym kinded) ∙ read_back a v h in
    let fits = subst AreBytes same (content_fits a v (ap is_whole kinded) h) in
    (same, λ x t. raw_text_is as_int64 content x z fits sized worth (subst (λ (w : Tree). IsTextOf Canonical w x) is t) ∙ ap (λ (y : List ℕ). scalar_text (trees.int64 (cast_signed w64 (long_of y)))) (sym same) ∙ ap scalar_text back)

-- a scalar that is no number has one text
one_text : (a : Scalar) → is_whole (scalar_kind a) ≡ false → (x : List ℕ) → IsScalarText Canonical a x → x ≡ scalar_text a
one_text (trees.int64 z) other x h = absurd cc
one_text _ other x h = h

leaf_agrees : (a : Scalar) (u : Tree) (v content r s : List ℕ) → IsScalar a v → IsTyped (Kept (scalar_kind a)) content u → v ++ r ≡ content ++ s → (v ≡ content) × Agree (leaf a) u
leaf_agrees a u v content r s h (a_number n) is = number_agrees a u v content r s n.kind n.z h n.is n.typed n.sized n.worth is
leaf_agrees a u v content r s h (a_scalar o) is =
    let e = scalars a o.scalar v content r s h o.spells (cc (o.typed)) is in
    (e.1, λ x t. one_text o.scalar o.other x (subst (λ (w : Tree). IsTextOf Canonical w x) o.is t) ∙ ap scalar_text (sym e.0))
leaf_agrees a u v content r s h (a_document d) is = absurd (no_holder a kinds.Doc (cc (d.typed)) refl)
leaf_agrees a u v content r s h (an_array d) is = absurd (no_holder a kinds.Array (cc (d.typed)) refl)
leaf_agrees a u v content r s h (a_code d) is = absurd (no_holder a kinds.CodeScope (cc (d.typed)) refl)

-- ---- elements

type_same : (type : ElementType) (k : Kind) → type_byte k ≡ byte_of type → type ≡ Kept k
type_same type k h = let e : Some type ≡ Some (Kept k) = sym (byte_type type) ∙ ap type_at (sym h) ∙ type_is k in cc

module _ (t u : Tree) (n m v value x y r s b c : List ℕ) (p : Written u m value) (e : b ≡ element t n v ++ x) (f : c ≡ written_typed u m value ++ y) where
  abbrev wide_after : (z : List ℕ) → c ++ z ≡ byte_of p.type ∷ (m ++ 0 ∷ (p.content ++ (y ++ z)))
  wide_after z = ap (λ (l : List ℕ). l ++ z) (f ∙ ap (λ (l : List ℕ). l ++ y) p.whole) ∙ regroup (byte_of p.type) m p.content y z

  -- the same bytes begin with the same element
  element_agrees : IsName n → IsName m → b ++ 0 ∷ r ≡ c ++ 0 ∷ s → (p.type ≡ Kept (kind_of t)) × (n ≡ m) × (v ++ (x ++ 0 ∷ r) ≡ p.content ++ (y ++ 0 ∷ s))
  element_agrees name other h =
      let whole : type_byte (kind_of t) ∷ (n ++ 0 ∷ (v ++ (x ++ 0 ∷ r))) ≡ byte_of p.type ∷ (m ++ 0 ∷ (p.content ++ (y ++ 0 ∷ s))) =
      sym (element_after t n v x (0 ∷ r) b e) ∙ h ∙ wide_after (0 ∷ s) in
      let named = names n m (v ++ (x ++ 0 ∷ r)) (p.content ++ (y ++ 0 ∷ s)) name.1 other.1 cc in
      (type_same p.type (kind_of t) cc, named.0, named.1)

  whole_agrees : p.type ≡ Kept (kind_of t) → n ≡ m → v ≡ p.content → x ≡ y → b ≡ c
  whole_agrees type name content more =
      e ∙ ap₂ (λ (l z : List ℕ). l ++ z) (ap₂ (λ (k : ℕ) (l : List ℕ). k ∷ l) (ap byte_of (sym type)) (ap₂ (λ (a z : List ℕ). a ++ 0 ∷ z) name content)) more
      ∙ ap (λ (l : List ℕ). l ++ y) (sym p.whole) ∙ sym f

-- one list of elements ends where the other does not
no_more : (t : Tree) (n v x r s b c : List ℕ) → c ≡ [] → b ≡ element t n v ++ x → b ++ 0 ∷ r ≡ c ++ 0 ∷ s → ⊥
no_more t n v x r s b c none e h =
    let k : 0 ∷ s ≡ type_byte (kind_of t) ∷ _ = ap (λ (l : List ℕ). l ++ 0 ∷ s) (sym none) ∙ sym h ∙ element_after t n v x (0 ∷ r) b e in
    absurd (byte_is_not_zero (kind_of t) cc)

none_first : (u : Tree) (m value y r s b c : List ℕ) (p : Written u m value) → b ≡ [] → c ≡ written_typed u m value ++ y → b ++ 0 ∷ r ≡ c ++ 0 ∷ s → ⊥
none_first u m value y r s b c p none f h =
    let k : 0 ∷ r ≡ byte_of p.type ∷ (m ++ 0 ∷ (p.content ++ (y ++ 0 ∷ s))) =
    ap (λ (l : List ℕ). l ++ 0 ∷ r) (sym none) ∙ h ∙ ap (λ (l : List ℕ). l ++ 0 ∷ s) (f ∙ ap (λ (l : List ℕ). l ++ y) p.whole) ∙ regroup (byte_of p.type) m p.content y (0 ∷ s) in
    absurd (some_byte p.type cc)

-- ---- values

mutual
  value_agrees : (t u : Tree) (v content r s : List ℕ) → IsValue t v → IsTyped (Kept (kind_of t)) content u → v ++ r ≡ content ++ s → (v ≡ content) × Agree t u
  value_agrees (leaf a) u v content r s h o is = leaf_agrees a u v content r s h o is
  value_agrees (doc fs) u v content r s h (a_document d) is =
      let e = fields_agree fs d.fields h.0 d.body r s h.1 d.spell (bodies h.0 d.body v content r s h.2 d.frame is) in
      (h.2 ∙ ap framed e.0 ∙ sym d.frame, λ x t. let w = subst (λ (w : Tree). IsTextOf Canonical w x) d.is t in w.2 ∙ ap object (e.1 w.0 w.1))
  value_agrees (doc fs) u v content r s h (a_number n) is = absurd (number_no_holder n.kind kinds.Doc refl n.typed)
  value_agrees (doc fs) u v content r s h (a_scalar o) is = absurd (no_holder o.scalar kinds.Doc (cc (o.typed)) refl)
  value_agrees (doc fs) u v content r s h (an_array d) is = absurd (cc (d.typed))
  value_agrees (doc fs) u v content r s h (a_code d) is = absurd (cc (d.typed))
  value_agrees (array ts) u v content r s h (an_array d) is =
      let e = items_agree ts d.fields h.0 d.body r s h.1 d.spell (bodies h.0 d.body v content r s h.2 d.frame is) in
      (h.2 ∙ ap framed e.0 ∙ sym d.frame, λ x t. let w = subst (λ (w : Tree). IsTextOf Canonical w x) d.is t in w.2 ∙ ap listed (e.1 w.0 w.1))
  value_agrees (array ts) u v content r s h (a_number n) is = absurd (number_no_holder n.kind kinds.Array refl n.typed)
  value_agrees (array ts) u v content r s h (a_scalar o) is = absurd (no_holder o.scalar kinds.Array (cc (o.typed)) refl)
  value_agrees (array ts) u v content r s h (a_document d) is = absurd (cc (d.typed))
  value_agrees (array ts) u v content r s h (a_code d) is = absurd (cc (d.typed))
  value_agrees (code_scope z fs) u v content r s h (a_code d) is =
      let c = same_code z d.code (framed h.0) (framed d.body) r s v content h.3 d.text_fits h.2 d.frame is in
      let e = fields_agree fs d.fields h.0 d.body r s h.1 d.spell (bodies h.0 d.body (framed h.0) (framed d.body) r s refl refl c.1) in (
        h.2 ∙ ap₂ (λ (x b : List ℕ). scoped x (framed b)) c.0 e.0 ∙ sym d.frame,
        λ x t. let w = subst (λ (w : Tree). IsTextOf Canonical w x) d.is t in w.2
            ∙ ap₂ (λ (k : List ℕ) (ms : List (List ℕ)). object (member (codes "$code") (quoted k) ∷ member (codes "$scope") (object ms) ∷ [])) (sym c.0) (e.1 w.0 w.1),
      )
  value_agrees (code_scope z fs) u v content r s h (a_number n) is = absurd (number_no_holder n.kind kinds.CodeScope refl n.typed)
  value_agrees (code_scope z fs) u v content r s h (a_scalar o) is = absurd (no_holder o.scalar kinds.CodeScope (cc (o.typed)) refl)
  value_agrees (code_scope z fs) u v content r s h (a_document d) is = absurd (cc (d.typed))
  value_agrees (code_scope z fs) u v content r s h (an_array d) is = absurd (cc (d.typed))

  fields_agree : (fs gs : Fields) (b c r s : List ℕ) → AreFields fs b → AreFieldsBy (valued raw) gs c → b ++ 0 ∷ r ≡ c ++ 0 ∷ s
      → (b ≡ c) × ((ms : List (List ℕ)) → AreMembers Canonical gs ms → ms ≡ fields_text fs)
  fields_agree no_fields no_fields b c r s p q h = (p ∙ sym q, λ ms are. are)
  fields_agree no_fields (field m u gs) b c r s p q h = absurd (none_first u m q.0 q.1 r s b c (written_by m q.0 u q.3) p q.5 h)
  fields_agree (field n t fs) no_fields b c r s p q h = absurd (no_more t n p.0 p.1 r s b c q p.5 h)
  fields_agree (field n t fs) (field m u gs) b c r s p q h =
      let w = written_by m q.0 u q.3 in
      let one = element_agrees t u n m p.0 q.0 p.1 q.1 r s b c w p.5 q.5 p.2 q.2 h in
      let value = value_agrees t u p.0 w.content (p.1 ++ 0 ∷ r) (q.1 ++ 0 ∷ s) p.3 (subst (λ (type : ElementType). IsTyped type w.content u) one.0 w.spells) one.2 in
      let more = fields_agree fs gs p.1 q.1 r s p.4 q.4 (cancel p.0 w.content (p.1 ++ 0 ∷ r) (q.1 ++ 0 ∷ s) value.0 one.2) in (
        whole_agrees t u n m p.0 q.0 p.1 q.1 r s b c w p.5 q.5 one.0 one.1 value.0 more.0,
        λ ms are. are.4 ∙ ap₂ (λ (y : List ℕ) (ys : List (List ℕ)). y ∷ ys) (ap₂ member (sym one.1) (value.1 are.0 are.2)) (more.1 are.1 are.3),
      )

  items_agree : (ts : Items) (gs : Fields) (b c r s : List ℕ) → AreItems ts b → AreFieldsBy (valued raw) gs c → b ++ 0 ∷ r ≡ c ++ 0 ∷ s
      → (b ≡ c) × ((ms : List (List ℕ)) → AreTexts Canonical (values_in gs) ms → ms ≡ items_text ts)
  items_agree no_items no_fields b c r s p q h = (p ∙ sym q, λ ms are. are)
  items_agree no_items (field m u gs) b c r s p q h = absurd (none_first u m q.0 q.1 r s b c (written_by m q.0 u q.3) p q.5 h)
  items_agree (item t ts) no_fields b c r s p q h = absurd (no_more t p.0 p.1 p.2 r s b c q p.6 h)
  items_agree (item t ts) (field m u gs) b c r s p q h =
      let w = written_by m q.0 u q.3 in
      let one = element_agrees t u p.0 m p.1 q.0 p.2 q.1 r s b c w p.6 q.5 p.3 q.2 h in
      let value = value_agrees t u p.1 w.content (p.2 ++ 0 ∷ r) (q.1 ++ 0 ∷ s) p.4 (subst (λ (type : ElementType). IsTyped type w.content u) one.0 w.spells) one.2 in
      let more = items_agree ts gs p.2 q.1 r s p.5 q.4 (cancel p.1 w.content (p.2 ++ 0 ∷ r) (q.1 ++ 0 ∷ s) value.0 one.2) in (
        whole_agrees t u p.0 m p.1 q.0 p.2 q.1 r s b c w p.6 q.5 one.0 one.1 value.0 more.0,
        λ ms are. are.4 ∙ ap₂ (λ (y : List ℕ) (ys : List (List ℕ)). y ∷ ys) (value.1 are.0 are.2) (more.1 are.1 are.3),
      )

-- the line of a document of the nineteen kinds
pub plain_line : (d : Doc) (bytes line : List ℕ) → IsDocument d bytes → IsLineOf Canonical bytes line → line ≡ text (doc (fields_of d)) ++ 10 ∷ []
plain_line d bytes line is l =
    let t = l.1 in
    let w = t.1.spells in
    let content : IsTyped (Kept kinds.Doc) bytes (doc (fields_of t.0)) = a_document (record { fields = fields_of t.0; body = w.0; is = refl; typed = refl; spell = w.1; frame = w.2 }) in
    let e = value_agrees (doc (fields_of d)) (doc (fields_of t.0)) bytes bytes [] [] is.spells content refl in
    l.2 ∙ ap (λ (x : List ℕ). x ++ 10 ∷ []) (e.1 l.0 t.2)
