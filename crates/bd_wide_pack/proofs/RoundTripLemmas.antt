-- What `dump` prints of a document in its one form is packed as its bytes.
use Rattle.std.proofs.Common.{◌≡◌, ◌<◌, ◌^◌, Result, Ok, ℕ, suc, List, [], ◌++◌, ◌∷◌, length, refl, sym, ap, ap₂, ◌∙◌, subst, decimal}
use Rattle.bd_value.specs.Limits.{most_levels}
use Rattle.bd_value.specs.Tree as trees
use Rattle.bd_value.specs.Tree.{Doc, Fields, Items, Scalar, Tree, code_scope, doc, field, fields_of, item, leaf, no_fields, no_items}
use Rattle.bd_bson_view.specs.Spelling.{IsValuedScalar, NumberKind, framed, number_byte, number_size, number_type, scoped, written_typed}
use Rattle.bd_wide_dump.specs.declared.format.JsonFormat.TheVariants.{Canonical}
use Rattle.bd_wide_dump.specs.Raw.{raw}
use Rattle.bd_wide_dump.specs.WideText.{AreBytes, IsTextOf}
use Rattle.bd_wide_number.specs.declared.number.Number.{Number}
use Rattle.bd_wide_substitute.specs.Both.{IsRead}
use Rattle.bd_wide_pack.specs.Filled.{AreFilled}
use Rattle.bd_wide_pack.specs.RoundTrip.{IsGivenBack}
use Rattle.bd_wide_pack.specs.WideLine.{IsPacked}
use Rattle.bd_wide_pack.specs.Written.{AreFieldsWritten, AreItemsWritten, IsWritten}
use Rattle.bd_wide_pack.specs.inside.Printed.{IsPrinted}
use Rattle.bd_wide_pack.proofs.FilledLemmas.{one_fields}
use Rattle.bd_wide_pack.proofs.NumberByteLemmas.{body_bytes, element_bytes, scope_bytes}
use Rattle.bd_wide_pack.proofs.SameValuesLemmas.{document_printed, fields_back, printed_packed, same_fields}
use Rattle.std.specs.Float.{NotNan, binary64}
use Rattle.std.specs.Float.Ieee.{nan, of_bits}
use Rattle.bd_wide_read.specs.DecimalText as decimals
use Rattle.bd_wide_read.specs.DecimalText.{IsCanonical, numeric_of}
use Rattle.bd_wide_read.specs.DoubleText.{double_bits}
use Rattle.bd_wide_read.specs.declared.fault.TextFault.{TextFault}
use Rattle.bd_wide_text.specs.Decimal128.{decimal128_text}
use Rattle.bd_wide_text.specs.Double.{IsDoubleText}

-- What is printed of numbers is read so.
module _ (same_read : (bits : ℕ) (text : List ℕ) → bits < 2 ^ 64 → NotNan (of_bits binary64 bits) → IsDoubleText bits text → double_bits text ≡ Ok bits)
    (nan_read : (bits : ℕ) (text : List ℕ) → of_bits binary64 bits ≡ nan → IsDoubleText bits text → double_bits text ≡ Ok 0x7FF8_0000_0000_0000)
    (decimal_is_read : (low high : ℕ) → low < 2 ^ 64 → high < 2 ^ 64 → IsCanonical low high → decimals.IsRead (numeric_of (decimal128_text low high)) (Ok (low, high)))
    (decimal_read : (low high : ℕ) (r : Result (ℕ × ℕ) TextFault) → low < 2 ^ 64 → high < 2 ^ 64 → IsCanonical low high → decimals.IsRead (numeric_of (decimal128_text low high)) r → r ≡ Ok (low, high)) where
  pub given_back : (d : Doc) (bytes text : List ℕ) → IsGivenBack d bytes → IsTextOf Canonical (doc (fields_of d)) text → IsPacked text bytes
  given_back d bytes text g h =
      let r = fields_back same_read nan_read decimal_is_read decimal_read Canonical d bytes text g.document g.fits g.plain h in
      let same : fields_of d ≡ r.fields = same_fields (fields_of d) r.fields r.same g.numbers in
      let printed : IsPrinted most_levels (doc (fields_of d)) text = subst (λ (fs : Fields). IsPrinted most_levels (doc fs) text) (sym same) (document_printed same_read nan_read decimal_is_read decimal_read Canonical d bytes text g.document g.fits g.plain h) in
      printed_packed (fields_of d) bytes text printed g.indexed g.document.short

-- ---- and as nothing else

-- Numbers of different types or bits differ, and a text is read once.
module _ (differ : (k j : NumberKind) (v w : List ℕ) → AreBytes v → AreBytes w → length v ≡ number_size k → length w ≡ number_size j → raw (number_type k) v ≡ raw (number_type j) w → (k ≡ j) × (v ≡ w))
    (read : (source : List ℕ) (wholes texts ones others : Doc) (ns more : List Number) → IsRead source wholes texts ns → IsRead source ones others more → (wholes ≡ ones) × (texts ≡ others) × (ns ≡ more)) where
  scalar_once : (s : Scalar) (a b : List ℕ) → AreBytes a → AreBytes b → IsValuedScalar raw s a → IsValuedScalar raw s b → a ≡ b
  scalar_once (trees.int32 z) a b f g h k = absurd h
  scalar_once (trees.int64 z) a b f g h k =
      let one : AreBytes h.value = λ i. subst AreBytes h.typed f (suc i) in
      let other : AreBytes k.value = λ i. subst AreBytes k.typed g (suc i) in
      let same = differ h.kind k.kind h.value k.value one other h.sized k.sized (h.is_worth ∙ sym k.is_worth) in
      h.typed ∙ ap₂ (λ (j : NumberKind) (v : List ℕ). number_byte j ∷ v) same.0 same.1 ∙ sym k.typed
  scalar_once s a b f g h k = h.1 ∙ sym k.1

  mutual
    written_once : (t : Tree) (a b : List ℕ) → AreBytes a → AreBytes b → IsWritten t a → IsWritten t b → a ≡ b
    written_once (leaf s) a b f g h k = scalar_once s a b f g h k
    written_once (doc fs) a b f g h k = h.2 ∙ ap framed (fields_once fs h.0 k.0 (body_bytes h.0 a f h.2) (body_bytes k.0 b g k.2) h.1 k.1) ∙ sym k.2
    written_once (trees.array ts) a b f g h k = h.2 ∙ ap framed (items_once 0 ts h.0 k.0 (body_bytes h.0 a f h.2) (body_bytes k.0 b g k.2) h.1 k.1) ∙ sym k.2
    written_once (code_scope s fs) a b f g h k =
        h.2 ∙ ap (λ (x : List ℕ). scoped s (framed x)) (fields_once fs h.0 k.0 (body_bytes h.0 (framed h.0) (scope_bytes s (framed h.0) a f h.2) refl)
        (body_bytes k.0 (framed k.0) (scope_bytes s (framed k.0) b g k.2) refl) h.1 k.1) ∙ sym k.2

    fields_once : (fs : Fields) (a b : List ℕ) → AreBytes a → AreBytes b → AreFieldsWritten fs a → AreFieldsWritten fs b → a ≡ b
    fields_once no_fields a b f g h k = h ∙ sym k
    fields_once (field name t fs) a b f g h k =
        let one = element_bytes t name h.0 h.1 a f h.5 in
        let other = element_bytes t name k.0 k.1 b g k.5 in
        h.5 ∙ ap₂ (λ (v r : List ℕ). written_typed t name v ++ r) (written_once t h.0 k.0 one.0 other.0 h.3 k.3) (fields_once fs h.1 k.1 one.1 other.1 h.4 k.4) ∙ sym k.5

    items_once : (index : ℕ) (ts : Items) (a b : List ℕ) → AreBytes a → AreBytes b → AreItemsWritten index ts a → AreItemsWritten index ts b → a ≡ b
    items_once index no_items a b f g h k = h ∙ sym k
    items_once index (item t ts) a b f g h k =
        let one = element_bytes t (decimal index) h.0 h.1 a f h.4 in
        let other = element_bytes t (decimal index) k.0 k.1 b g k.4 in
        h.4 ∙ ap₂ (λ (v r : List ℕ). written_typed t (decimal index) v ++ r) (written_once t h.0 k.0 one.0 other.0 h.2 k.2) (items_once (suc index) ts h.1 k.1 one.1 other.1 h.3 k.3) ∙ sym k.4

  -- a line is packed as one row of bytes
  pub packed_once : (line a b : List ℕ) → AreBytes a → AreBytes b → IsPacked line a → IsPacked line b → a ≡ b
  packed_once line a b f g p q =
      let same = read line p.wholes p.texts q.wholes q.texts p.numbers q.numbers p.read q.read in
      let h = p.mixed in
      let P : Doc → Doc → List Number → Type 0 = λ w t ns. AreFilled q.mixed.fields (fields_of w) (fields_of t) ns [] in
      let there : P p.wholes p.texts p.numbers = subst (λ (w : Doc). P w p.texts p.numbers) (sym same.0) (subst (λ (t : Doc). P q.wholes t p.numbers) (sym same.1) (subst (λ (ns : List Number). P q.wholes q.texts ns) (sym same.2) q.mixed.filled)) in
      let fields : h.fields ≡ q.mixed.fields = (one_fields h.fields q.mixed.fields (fields_of p.wholes) (fields_of p.texts) p.numbers [] [] h.filled there).0 in
      written_once (doc h.fields) a b f g h.written (subst (λ (fs : Fields). IsWritten (doc fs) b) (sym fields) q.mixed.written)
