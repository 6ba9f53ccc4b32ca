-- Bytes are at most one document of all types.
use Rattle.std.proofs.Common.{◌≡◌, ℕ, ℤ, List, [], ◌∷◌, ◌++◌, Some, true, false, refl, sym, ap, ap₂, subst, ◌∙◌}
use Rattle.bd_value.specs.View.{scalar_kind}
use Rattle.bd_value.specs.declared.node.Kind.{Kind}
use Rattle.bd_value.specs.declared.node.Kind.TheVariants as kinds
use Rattle.bd_value.specs.Tree as trees
use Rattle.bd_value.specs.Tree.{Scalar, Tree, leaf, doc, array, code_scope, Items, no_items, item, Fields, no_fields, field, Doc, fields_of, pairs_in, pairs_of-fields_of}
use Rattle.bd_bson_view.specs.declared.raw_parts.ElementType.{ElementType}
use Rattle.bd_bson_view.specs.declared.raw_parts.ElementType.TheVariants.{Kept}
use Rattle.bd_bson_view.specs.Spelling.{type_at, framed, scoped, IsName, IsValueBy, AreFieldsBy, AreItemsBy, IsDocumentBy, written_typed, valued}
use Rattle.bd_bson_view.specs.Spelling.{NumberKind, as_double, as_int32, as_int64, as_decimal128, number_type, number_size}
use Rattle.bd_bson_view.specs.Unique.{scalars, no_holder, cancel, names, bodies, same_code}
use Rattle.bd_wide_dump.specs.Raw.{raw, byte_of}
use Rattle.bd_wide_dump.specs.Values.{values_in}
use Rattle.bd_wide_dump.specs.inside.Begins.{is_whole, IsTyped, a_number, a_scalar, a_document, an_array, a_code}
use Rattle.bd_wide_dump.proofs.ElementLemmas.{byte_type, some_byte, Written, written_by, regroup}
use Rattle.bd_wide_dump.proofs.ValueLemmas.{same_number, number_no_holder}
use Rattle.bd_wide_dump.proofs.PlainLemmas.{same_length}

-- ---- scalars

whole_type : (k : NumberKind) (kind : Kind) → number_type k ≡ Kept kind → is_whole kind ≡ true
whole_type as_double kind h = cc
whole_type as_decimal128 kind h = cc
whole_type as_int32 kind h = let same : kind ≡ kinds.Int32 = cc in ap is_whole same
whole_type as_int64 kind h = let same : kind ≡ kinds.Int64 = cc in ap is_whole same

module _ (type : ElementType) (c d : List ℕ) (a : Scalar) (u : Tree) (r s : List ℕ) (is : c ++ r ≡ d ++ s) where
  typed_one : IsTyped type c (leaf a) → IsTyped type d u → (c ≡ d) × (leaf a ≡ u)
  typed_one (a_number n) (a_number m) =
      let k = same_number n.kind m.kind (sym n.typed ∙ m.typed) in
      let same = same_length c d r s is (n.sized ∙ ap number_size k ∙ sym m.sized) in
      let z : n.z ≡ m.z = sym n.worth ∙ ap₂ (λ (j : NumberKind) (x : List ℕ). raw (number_type j) x) k same ∙ m.worth in
      (same, n.is ∙ ap (λ (x : ℤ). leaf (trees.int64 x)) z ∙ sym m.is)
  typed_one (a_number n) (a_scalar o) =
      let f : true ≡ false = sym (whole_type n.kind (scalar_kind o.scalar) (sym n.typed ∙ o.typed)) ∙ o.other in absurd cc
  typed_one (a_number n) (a_document x) = absurd (number_no_holder n.kind kinds.Doc refl (sym x.typed ∙ n.typed))
  typed_one (a_number n) (an_array x) = absurd (number_no_holder n.kind kinds.Array refl (sym x.typed ∙ n.typed))
  typed_one (a_number n) (a_code x) = absurd (number_no_holder n.kind kinds.CodeScope refl (sym x.typed ∙ n.typed))
  typed_one (a_scalar o) (a_number n) =
      let f : true ≡ false = sym (whole_type n.kind (scalar_kind o.scalar) (sym n.typed ∙ o.typed)) ∙ o.other in absurd cc
  typed_one (a_scalar o) (a_scalar x) =
      let k : scalar_kind o.scalar ≡ scalar_kind x.scalar = cc (sym o.typed ∙ x.typed) in
      let e = scalars o.scalar x.scalar c d r s o.spells x.spells k is in
      (e.1, o.is ∙ ap leaf e.0 ∙ sym x.is)
  typed_one (a_scalar o) (a_document x) = absurd (no_holder o.scalar kinds.Doc (cc (sym o.typed ∙ x.typed)) refl)
  typed_one (a_scalar o) (an_array x) = absurd (no_holder o.scalar kinds.Array (cc (sym o.typed ∙ x.typed)) refl)
  typed_one (a_scalar o) (a_code x) = absurd (no_holder o.scalar kinds.CodeScope (cc (sym o.typed ∙ x.typed)) refl)
  typed_one (a_document x) o = absurd (cc (x.is))
  typed_one (an_array x) o = absurd (cc (x.is))
  typed_one (a_code x) o = absurd (cc (x.is))

-- ---- elements

type_one : (a b : ElementType) → byte_of a ≡ byte_of b → a ≡ b
type_one a b h = let e : Some a ≡ Some b = sym (byte_type a) ∙ ap type_at h ∙ byte_type b in cc

after : (t : Tree) (n v x b z : List ℕ) (p : Written t n v) → b ≡ written_typed t n v ++ x → b ++ z ≡ byte_of p.type ∷ (n ++ 0 ∷ (p.content ++ (x ++ z)))
after t n v x b z p e = ap (λ (l : List ℕ). l ++ z) (e ∙ ap (λ (l : List ℕ). l ++ x) p.whole) ∙ regroup (byte_of p.type) n p.content x z

module _ (t u : Tree) (n m v value x y r s b c : List ℕ) (p : Written t n v) (w : Written u m value) (e : b ≡ written_typed t n v ++ x) (f : c ≡ written_typed u m value ++ y) where
  element_one : IsName n → IsName m → b ++ 0 ∷ r ≡ c ++ 0 ∷ s → (w.type ≡ p.type) × (n ≡ m) × (p.content ++ (x ++ 0 ∷ r) ≡ w.content ++ (y ++ 0 ∷ s))
  element_one name other h =
      let whole : byte_of p.type ∷ (n ++ 0 ∷ (p.content ++ (x ++ 0 ∷ r))) ≡ byte_of w.type ∷ (m ++ 0 ∷ (w.content ++ (y ++ 0 ∷ s))) =
      sym (after t n v x b (0 ∷ r) p e) ∙ h ∙ after u m value y c (0 ∷ s) w f in
      let named = names n m (p.content ++ (x ++ 0 ∷ r)) (w.content ++ (y ++ 0 ∷ s)) name.1 other.1 cc in
      (type_one w.type p.type cc, named.0, named.1)

  whole_one : w.type ≡ p.type → n ≡ m → p.content ≡ w.content → x ≡ y → b ≡ c
  whole_one type name same more =
      e ∙ ap (λ (l : List ℕ). l ++ x) p.whole
      ∙ ap₂ (λ (l z : List ℕ). l ++ z) (ap₂ (λ (k : ℕ) (l : List ℕ). k ∷ l) (ap byte_of (sym type)) (ap₂ (λ (a z : List ℕ). a ++ 0 ∷ z) name same)) more
      ∙ ap (λ (l : List ℕ). l ++ y) (sym w.whole) ∙ sym f

none_one : (t : Tree) (n v x r s b c : List ℕ) (p : Written t n v) → c ≡ [] → b ≡ written_typed t n v ++ x → b ++ 0 ∷ r ≡ c ++ 0 ∷ s → ⊥
none_one t n v x r s b c p none e h =
    let k : 0 ∷ s ≡ byte_of p.type ∷ (n ++ 0 ∷ (p.content ++ (x ++ 0 ∷ r))) = ap (λ (l : List ℕ). l ++ 0 ∷ s) (sym none) ∙ sym h ∙ after t n v x b (0 ∷ r) p e in
    absurd (some_byte p.type cc)

-- ---- values

mutual
  unfolding written_by

  value_one : (t u : Tree) (name v d r s : List ℕ) (h : IsValueBy (valued raw) t v) → IsTyped (written_by name v t h).type d u → (written_by name v t h).content ++ r ≡ d ++ s
      → ((written_by name v t h).content ≡ d) × (t ≡ u)
  value_one (leaf a) u name v d r s h o is = let p = written_by name v (leaf a) h in typed_one p.type p.content d a u r s is p.spells o
  value_one (doc fs) u name v d r s h (a_document x) is =
      let e = fields_one fs x.fields h.0 x.body r s h.1 x.spell (bodies h.0 x.body v d r s h.2 x.frame is) in
      (h.2 ∙ ap framed e.0 ∙ sym x.frame, ap doc e.1 ∙ sym x.is)
  value_one (doc fs) u name v d r s h (a_number n) is = absurd (number_no_holder n.kind kinds.Doc refl n.typed)
  value_one (doc fs) u name v d r s h (a_scalar o) is = absurd (no_holder o.scalar kinds.Doc (cc (o.typed)) refl)
  value_one (doc fs) u name v d r s h (an_array x) is = absurd (cc (x.typed))
  value_one (doc fs) u name v d r s h (a_code x) is = absurd (cc (x.typed))
  value_one (array ts) u name v d r s h (an_array x) is =
      let e = items_one ts x.fields h.0 x.body r s h.1 x.spell (bodies h.0 x.body v d r s h.2 x.frame is) in
      (h.2 ∙ ap framed e.0 ∙ sym x.frame, ap array e.1 ∙ sym x.is)
  value_one (array ts) u name v d r s h (a_number n) is = absurd (number_no_holder n.kind kinds.Array refl n.typed)
  value_one (array ts) u name v d r s h (a_scalar o) is = absurd (no_holder o.scalar kinds.Array (cc (o.typed)) refl)
  value_one (array ts) u name v d r s h (a_document x) is = absurd (cc (x.typed))
  value_one (array ts) u name v d r s h (a_code x) is = absurd (cc (x.typed))
  value_one (code_scope z fs) u name v d r s h (a_code x) is =
      let c = same_code z x.code (framed h.0) (framed x.body) r s v d h.3 x.text_fits h.2 x.frame is in
      let e = fields_one fs x.fields h.0 x.body r s h.1 x.spell (bodies h.0 x.body (framed h.0) (framed x.body) r s refl refl c.1) in
      (h.2 ∙ ap₂ (λ (k b : List ℕ). scoped k (framed b)) c.0 e.0 ∙ sym x.frame, ap₂ code_scope c.0 e.1 ∙ sym x.is)
  value_one (code_scope z fs) u name v d r s h (a_number n) is = absurd (number_no_holder n.kind kinds.CodeScope refl n.typed)
  value_one (code_scope z fs) u name v d r s h (a_scalar o) is = absurd (no_holder o.scalar kinds.CodeScope (cc (o.typed)) refl)
  value_one (code_scope z fs) u name v d r s h (a_document x) is = absurd (cc (x.typed))
  value_one (code_scope z fs) u name v d r s h (an_array x) is = absurd (cc (x.typed))

  fields_one : (fs gs : Fields) (b c r s : List ℕ) → AreFieldsBy (valued raw) fs b → AreFieldsBy (valued raw) gs c → b ++ 0 ∷ r ≡ c ++ 0 ∷ s → (b ≡ c) × (fs ≡ gs)
  fields_one no_fields no_fields b c r s p q h = (p ∙ sym q, refl)
  fields_one no_fields (field m u gs) b c r s p q h = absurd (none_one u m q.0 q.1 s r c b (written_by m q.0 u q.3) p q.5 (sym h))
  fields_one (field n t fs) no_fields b c r s p q h = absurd (none_one t n p.0 p.1 r s b c (written_by n p.0 t p.3) q p.5 h)
  fields_one (field n t fs) (field m u gs) b c r s p q h =
      let a = written_by n p.0 t p.3 in
      let w = written_by m q.0 u q.3 in
      let one = element_one t u n m p.0 q.0 p.1 q.1 r s b c a w p.5 q.5 p.2 q.2 h in
      let value = value_one t u n p.0 w.content (p.1 ++ 0 ∷ r) (q.1 ++ 0 ∷ s) p.3 (subst (λ (type : ElementType). IsTyped type w.content u) one.0 w.spells) one.2 in
      let more = fields_one fs gs p.1 q.1 r s p.4 q.4 (cancel a.content w.content (p.1 ++ 0 ∷ r) (q.1 ++ 0 ∷ s) value.0 one.2) in
      (whole_one t u n m p.0 q.0 p.1 q.1 r s b c a w p.5 q.5 one.0 one.1 value.0 more.0, cc (one.1, value.1, more.1))

  items_one : (ts : Items) (gs : Fields) (b c r s : List ℕ) → AreItemsBy (valued raw) ts b → AreFieldsBy (valued raw) gs c → b ++ 0 ∷ r ≡ c ++ 0 ∷ s → (b ≡ c) × (ts ≡ values_in gs)
  items_one no_items no_fields b c r s p q h = (p ∙ sym q, refl)
  items_one no_items (field m u gs) b c r s p q h = absurd (none_one u m q.0 q.1 s r c b (written_by m q.0 u q.3) p q.5 (sym h))
  items_one (item t ts) no_fields b c r s p q h = absurd (none_one t p.0 p.1 p.2 r s b c (written_by p.0 p.1 t p.4) q p.6 h)
  items_one (item t ts) (field m u gs) b c r s p q h =
      let a = written_by p.0 p.1 t p.4 in
      let w = written_by m q.0 u q.3 in
      let one = element_one t u p.0 m p.1 q.0 p.2 q.1 r s b c a w p.6 q.5 p.3 q.2 h in
      let value = value_one t u p.0 p.1 w.content (p.2 ++ 0 ∷ r) (q.1 ++ 0 ∷ s) p.4 (subst (λ (type : ElementType). IsTyped type w.content u) one.0 w.spells) one.2 in
      let more = items_one ts gs p.2 q.1 r s p.5 q.4 (cancel a.content w.content (p.2 ++ 0 ∷ r) (q.1 ++ 0 ∷ s) value.0 one.2) in
      (whole_one t u p.0 m p.1 q.0 p.2 q.1 r s b c a w p.6 q.5 one.0 one.1 value.0 more.0, ap₂ item value.1 more.1)

-- the bytes are one document at most
pub one_document : (d e : Doc) (bytes : List ℕ) → IsDocumentBy (valued raw) d bytes → IsDocumentBy (valued raw) e bytes → d ≡ e
one_document d e bytes p q =
    let one = p.spells in
    let two = q.spells in
    let same = fields_one (fields_of d) (fields_of e) one.0 two.0 [] [] one.1 two.1 (bodies one.0 two.0 bytes bytes [] [] one.2 two.2 refl) in
    sym (pairs_of-fields_of d) ∙ ap (λ (fs : Fields). pairs_in (doc fs)) same.1 ∙ pairs_of-fields_of e
