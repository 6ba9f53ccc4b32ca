-- What `dump` prints of a document is packed as the bytes of a document with the same values.
use Rattle.std.proofs.Common.{◌≡◌, ◌≢◌, ◌<◌, ◌≤◌, ◌==◌, ◌^◌, ℕ, zero, suc, ◌-◌, ℤ, Bool, true, false, cond, List, [], ◌∷◌, ◌++◌, length, take, drop, refl, sym, ap, ap₂, ◌∙◌, subst, inl, inr, arith, codes, append-nil, take-append-drop, ne_eqb, decimal, Result, Ok, Err}
use Rattle.std.specs.Prelude.{IsUtf8}
use Rattle.std.specs.Fmt.{digits}
use Rattle.std.specs.List.{AllByRecursion}
use Rattle.std.specs.Float.{NotNan, binary64, float_is_finite}
use Rattle.std.specs.Float.Ieee.{Float, fin, inf, nan, of_bits}
use Rattle.std.specs.Int.{w32, w64, cast_signed, cast_unsigned, from_le_bytes}
use Rattle.std.specs.Int.RustNames.{FitsSigned}
use Rattle.std.proofs.lemmas.List.{take_all}
use Rattle.bd_value.specs.Fits.{ScalarFits, has_zero, zero_in_scalar}
use Rattle.bd_value.specs.{Limits.longest_document, Limits.most_levels}
use Rattle.bd_value.specs.declared.node.Kind.TheVariants as kinds
use Rattle.bd_value.specs.Tree as trees
use Rattle.bd_value.specs.Tree.{Doc, Fields, Items, Scalar, Tree, code_scope, depth, doc, field, fields_depth, fields_of, fields_of-pairs_of, item, items_depth, leaf, no_fields, no_items, pairs_of}
use Rattle.bd_bson_view.specs.declared.raw_parts.ElementType.TheVariants as elements
use Rattle.bd_bson_view.specs.Sizes.{long_of, number_of}
use Rattle.bd_bson_view.specs.Unique.{number_length}
use Rattle.bd_bson_view.specs.Spelling.{AreFieldsBy, AreItemsBy, IsDocumentBy, IsText, IsValueBy, IsValuedScalar, NumberKind, as_decimal128, as_double, as_int32, as_int64, data_of, framed, long, number, number_byte, number_size, number_type, scalar_bytes, scoped, string, valued, written_typed}
use Rattle.bd_extjson.specs.Laws.{ArePlainFields, ArePlainItems, IsPlain, IsPlainFirst}
use Rattle.bd_extjson_wrapper.specs.WholeNumber.{fits_bits}
use Rattle.bd_extjson_text.specs.Text.{listed, member, object, quoted, scalar_text}
use Rattle.bd_extjson_text.proofs.JsonStringLemmas.{wider}
use Rattle.bd_wide_dump.specs.declared.format.JsonFormat.{JsonFormat}
use Rattle.bd_wide_dump.specs.declared.format.JsonFormat.TheVariants.{Canonical, Relaxed}
use Rattle.bd_wide_dump.specs.Raw.{raw}
use Rattle.bd_wide_dump.specs.WideText.{AreBytes, AreMembers, AreTexts, IsKindText, IsNumberText, IsScalarText, IsTextOf, double_text, is_bare}
use Rattle.bd_wide_number.specs.declared.number.Number.{Number}
use Rattle.bd_wide_number.specs.declared.number.Number.TheVariants as numbers
use Rattle.bd_wide_number.specs.Value.{decimal128_value, double_value}
use Rattle.bd_wide_number.proofs.CodeLemmas.{nan_is}
use Rattle.bd_wide_rank.specs.Worth.{worth}
use Rattle.bd_wide_read.specs.DecimalText as decimals
use Rattle.bd_wide_read.specs.DecimalText.{IsCanonical, numeric_of}
use Rattle.bd_wide_read.specs.DoubleText.{double_bits}
use Rattle.bd_wide_read.specs.declared.fault.TextFault.{TextFault}
use Rattle.bd_wide_read.proofs.DecimalTextLemmas.{decimal_text_unquoted}
use Rattle.bd_wide_text.specs.Decimal128.{decimal128_text}
use Rattle.bd_wide_text.specs.Double.{IsDoubleText}
use Rattle.bd_wide_substitute.specs.Both.{IsRead}
use Rattle.bd_wide_pack.specs.Filled.{AreFilled, kept}
use Rattle.bd_wide_pack.specs.RoundTrip.{FieldsHaveOneForm, HasOneForm, HaveOneForm, ItemsHaveOneForm}
use Rattle.bd_wide_pack.specs.SameValues.{HasSameValues, HaveSameValues, IsPackedAlike, IsSameScalar, ItemsHaveSameValues, MayBecome}
use Rattle.bd_wide_pack.specs.WideLine.{IsMixed, IsPacked, IsTooLong}
use Rattle.bd_wide_pack.specs.Written.{AreFieldsWritten, AreItemsWritten, IsWritten}
use Rattle.bd_wide_pack.specs.inside.Printed.{AreFieldsPrinted, AreItemsPrinted, IsPrinted, IsScalarPrinted, IsTextOfNumber}
use Rattle.bd_wide_pack.proofs.ChunkLemmas.{chunk_numbers}
use Rattle.bd_wide_pack.proofs.JsonLemmas.{chunks}
use Rattle.bd_wide_pack.proofs.DateTextLemmas.{date_printed}
use Rattle.bd_wide_pack.proofs.NumberTextLemmas.{bare_printed, decimal_printed, double_printed}
use Rattle.bd_wide_pack.proofs.OneFormLemmas.{decimal_form, nan_value}
use Rattle.bd_wide_pack.proofs.PrintedLemmas.{read_from, tree_read}
use Rattle.bd_wide_pack.proofs.LengthLemmas.{shorter}
use Rattle.bd_wide_pack.proofs.NumberByteLemmas.{bare_large, bare_small, below_64, body_bytes, both_bytes, byte_and, bytes_after, bytes_before, code_bytes, decimal_worth, double_worth, element_bytes, first_again, fits_small, framed_bytes, halves, index_bytes, int32_again, int32_back, int64_back, long_again, long_back, long_bytes, name_bytes, number_bytes, one_long, scope_bytes, scoped_bytes, second_again, small_fits, two_longs, typed_fits, whole_worth}

-- ---- a scalar and what it becomes

record ScalarBack (format : JsonFormat) (s : Scalar) (text : List ℕ) : Type 0 where
  scalar : Scalar
  bytes : List ℕ
  printed : IsScalarPrinted scalar text
  written : IsValuedScalar raw scalar bytes
  fits : AreBytes bytes
  same : IsSameScalar format s scalar

kind_byte : (kind : NumberKind) → number_byte kind < 256
kind_byte as_double = omega arith
kind_byte as_int32 = omega arith
kind_byte as_int64 = omega arith
kind_byte as_decimal128 = omega arith

same_type : (format : JsonFormat) (kind : NumberKind) → MayBecome format kind kind
same_type Canonical kind = refl
same_type Relaxed as_double = refl
same_type Relaxed as_int32 = refl
same_type Relaxed as_int64 = refl
same_type Relaxed as_decimal128 = refl

module _ (format : JsonFormat) (z : ℤ) (text : List ℕ) (kind : NumberKind) (value : List ℕ) (fits : AreBytes value) (size : length value ≡ number_size kind) (is : raw (number_type kind) value ≡ z) where
  becomes : (other : NumberKind) (given : List ℕ) → AreBytes given → length given ≡ number_size other → worth (number_type kind) value ≡ worth (number_type other) given → MayBecome format kind other
      → (HasOneForm kind value → kind ≡ other → value ≡ given) → IsScalarPrinted (trees.int64 (raw (number_type other) given)) text → ScalarBack format (trees.int64 z) text
  becomes other given all sized equal typed kept printed = record {
    scalar = trees.int64 (raw (number_type other) given);
    bytes = number_byte other ∷ given;
    printed = printed;
    written = record { kind = other; value = given; typed = refl; sized = sized; is_worth = refl };
    fits = byte_and (number_byte other) given (kind_byte other) all;
    same = record {
      kind = kind;
      value = value;
      other = other;
      given = given;
      before = record { fits = fits; sized = size; is = ap (λ (k : ℤ). trees.int64 k) (sym is) };
      after = record { fits = all; sized = sized; is = refl };
      equal = equal;
      typed = typed;
      kept = kept;
    };
  }

  stays : IsScalarPrinted (trees.int64 (raw (number_type kind) value)) text → ScalarBack format (trees.int64 z) text
  stays printed = becomes kind value fits size refl (same_type format kind) (λ one e. refl) printed

int32_printed : (format : JsonFormat) (z : ℤ) (s : Scalar) (text : List ℕ) → FitsSigned w32 z → s ≡ kept (trees.int32 z) → IsKindText format (trees.int32 z) text → IsScalarPrinted s text
int32_printed Canonical z s text fits is h = inl (record { scalar = trees.int32 z; is = is; fits = fits; no_zero = refl; written = h })
int32_printed Relaxed z s text fits is h =
    inr (inr (inl (record { number = z; is = is ∙ ap kept (sym (bare_small z (small_fits z fits))); fits = wider z fits; written = h })))

int32_given : (format : JsonFormat) (z : ℤ) (text value : List ℕ) → AreBytes value → length value ≡ 4 → raw (elements.Kept kinds.Int32) value ≡ z → IsNumberText format as_int32 value text → ScalarBack format (trees.int64 z) text
int32_given format z text value fits size is h =
    let back = int32_back value fits size in
    let same : trees.int64 (raw (elements.Kept kinds.Int32) value) ≡ kept (trees.int32 (cast_signed w32 (number_of value))) = ap (λ (x : List ℕ). trees.int64 (raw (elements.Kept kinds.Int32) x)) (sym back.1) in
    stays format z text as_int32 value fits size is (int32_printed format (cast_signed w32 (number_of value)) _ text back.0 same h)

int64_given : (format : JsonFormat) (z : ℤ) (text value : List ℕ) → AreBytes value → length value ≡ 8 → raw (elements.Kept kinds.Int64) value ≡ z → IsNumberText format as_int64 value text → ScalarBack format (trees.int64 z) text
int64_given Canonical z text value fits size is h =
    let back = int64_back value fits size in
    let same : trees.int64 (raw (elements.Kept kinds.Int64) value) ≡ kept (trees.int64 (cast_signed w64 (long_of value))) = ap (λ (x : List ℕ). trees.int64 (raw (elements.Kept kinds.Int64) x)) (sym back.1) in
    stays Canonical z text as_int64 value fits size is (inl (record { scalar = trees.int64 (cast_signed w64 (long_of value)); is = same; fits = back.0; no_zero = refl; written = h }))
int64_given Relaxed z text value fits size is h =
    let back = int64_back value fits size in
    let n = cast_signed w64 (long_of value) in
    let same : trees.int64 (raw (elements.Kept kinds.Int64) value) ≡ kept (trees.int64 n) = ap (λ (x : List ℕ). trees.int64 (raw (elements.Kept kinds.Int64) x)) (sym back.1) in
    elim (fits_bits 31 n) as (λ b. fits_bits 31 n ≡ b → ScalarBack Relaxed (trees.int64 z) text) [
      | true ↦ λ e.
          let small = fits_small n e in
          let given = scalar_bytes (trees.int32 n) in
          becomes Relaxed z text as_int64 value fits size is as_int32 given (number_bytes (cast_unsigned w32 n)) (number_length (cast_unsigned w32 n)) (whole_worth value given (sym (int32_again n small))) tt (λ one never. cc)
          (inr (inr (inl (record { number = n; is = ap kept (sym (bare_small n e)); fits = back.0; written = h }))))
      | false ↦ λ e. stays Relaxed z text as_int64 value fits size is (inr (inr (inl (record { number = n; is = same ∙ ap kept (sym (bare_large n e)); fits = back.0; written = h }))))
    ] refl

-- ---- doubles

bare_finite : (format : JsonFormat) (x : Float) → is_bare format x ≡ true → float_is_finite x ≡ true
bare_finite Relaxed x h = h
bare_finite Canonical x h = absurd cc

nan_finite : (x : Float) → x ≡ nan → float_is_finite x ≡ true → ⊥
unfolding float_is_finite
nan_finite x e h = let f : false ≡ true = ap float_is_finite (sym e) ∙ h in cc

double_begins : (plain : Bool) (bits : ℕ) (digits text : List ℕ) → double_bits digits ≡ Ok bits → text ≡ double_text plain digits → (plain ≡ true → IsTextOfNumber digits (numbers.Double bits)) → IsTextOfNumber text (numbers.Double bits)
double_begins true bits digits text read is when = subst (λ (x : List ℕ). IsTextOfNumber x (numbers.Double bits)) (sym is) (when refl)
double_begins false bits digits text read is when = subst (λ (x : List ℕ). IsTextOfNumber x (numbers.Double bits)) (sym is) (double_printed bits digits read)

-- ---- decimal128

abbrev lower_in : Result (ℕ × ℕ) TextFault → ℕ
lower_in (Ok p) = p.0
lower_in (Err f) = 0

abbrev upper_in : Result (ℕ × ℕ) TextFault → ℕ
upper_in (Ok p) = p.1
upper_in (Err f) = 0

-- ---- scalars

name_no_zero : (n : List ℕ) → AllByRecursion (λ b. b ≢ 0) n → has_zero n ≡ false
name_no_zero [] h = refl
name_no_zero (b ∷ bs) h = rw (ne_eqb b 0 h.0) (name_no_zero bs h.1)

payload_bytes : (k : ℕ) (payload bytes : List ℕ) → AreBytes bytes → bytes ≡ scalar_bytes (trees.binary k payload) → AreBytes payload
payload_bytes k payload bytes h is =
    let all : AreBytes (k ∷ data_of k payload) = bytes_after (number (length (data_of k payload))) (k ∷ data_of k payload) (subst AreBytes is h) in
    let content : AreBytes (data_of k payload) = λ i. all (suc i) in
    elim (k == 2) as (λ b. AreBytes (cond b (number (length payload) ++ payload) payload) → AreBytes payload) [
      | true ↦ λ d. bytes_after (number (length payload)) payload d
      | false ↦ λ d. d
    ] content

-- the scalars whose text is the same in both formats
abbrev IsOther : Scalar → Type 0
IsOther (trees.int32 z) = ⊥
IsOther (trees.int64 z) = ⊥
IsOther (trees.date z) = ⊥
IsOther s = Unit {0}

canonical_text : (format : JsonFormat) (s : Scalar) (text : List ℕ) → IsOther s → IsKindText format s text → text ≡ scalar_text s
canonical_text Canonical s text other h = h
canonical_text Relaxed (trees.int32 z) text other h = absurd other
canonical_text Relaxed (trees.int64 z) text other h = absurd other
canonical_text Relaxed (trees.date z) text other h = absurd other
canonical_text Relaxed s text other h = h

kind_stays : (format : JsonFormat) (s : Scalar) (bytes text : List ℕ) → AreBytes bytes → s ≡ kept s → ScalarFits IsUtf8 s → zero_in_scalar s ≡ false → text ≡ scalar_text s → IsValuedScalar raw s bytes → IsSameScalar format s s → ScalarBack format s text
kind_stays format s bytes text all is fits none written spelled same =
    record { scalar = s; bytes = bytes; printed = inl (record { scalar = s; is = is; fits = fits; no_zero = none; written = written }); written = spelled; fits = all; same = same }

date_stays : (format : JsonFormat) (z : ℤ) (text : List ℕ) → FitsSigned w64 z → IsKindText format (trees.date z) text → IsScalarPrinted (trees.date z) text
date_stays Canonical z text fits h = inl (record { scalar = trees.date z; is = refl; fits = fits; no_zero = refl; written = h })
date_stays Relaxed z text fits h = date_printed z text fits h

-- ---- values and what they become

record ValueBack (n : ℕ) (format : JsonFormat) (t : Tree) (text : List ℕ) : Type 0 where
  tree : Tree
  bytes : List ℕ
  printed : IsPrinted n tree text
  written : IsWritten tree bytes
  fits : AreBytes bytes
  same : HasSameValues format t tree

pub record FieldsBack (n : ℕ) (format : JsonFormat) (fs : Fields) (members : List (List ℕ)) : Type 0 where
  pub fields : Fields
  pub bytes : List ℕ
  pub printed : AreFieldsPrinted n fields members
  pub written : AreFieldsWritten fields bytes
  pub fits : AreBytes bytes
  pub same : HaveSameValues format fs fields
  pub first : IsPlainFirst fs → IsPlainFirst fields

record ItemsBack (n : ℕ) (format : JsonFormat) (index : ℕ) (ts : Items) (values : List (List ℕ)) : Type 0 where
  items : Items
  bytes : List ℕ
  printed : AreItemsPrinted n items values
  written : AreItemsWritten index items bytes
  fits : AreBytes bytes
  same : ItemsHaveSameValues format ts items

doc_given : (n : ℕ) (format : JsonFormat) (fs : Fields) (members : List (List ℕ)) (text : List ℕ) → IsPlainFirst fs → FieldsBack n format fs members → text ≡ object members → ValueBack (suc n) format (doc fs) text
doc_given n format fs members text first r is = record {
  tree = doc r.fields;
  bytes = framed r.bytes;
  printed = (r.first first, members, r.printed, is);
  written = (r.bytes, r.written, refl);
  fits = framed_bytes r.bytes r.fits;
  same = r.same;
}

array_given : (n : ℕ) (format : JsonFormat) (ts : Items) (values : List (List ℕ)) (text : List ℕ) → ItemsBack n format 0 ts values → text ≡ listed values → ValueBack (suc n) format (trees.array ts) text
array_given n format ts values text r is = record {
  tree = trees.array r.items;
  bytes = framed r.bytes;
  printed = (values, r.printed, is);
  written = (r.bytes, r.written, refl);
  fits = framed_bytes r.bytes r.fits;
  same = r.same;
}

scope_given : (n : ℕ) (format : JsonFormat) (s : List ℕ) (fs : Fields) (members : List (List ℕ)) (text : List ℕ) → IsText s → AreBytes (string s) → IsPlainFirst fs → FieldsBack n format fs members
    → text ≡ object (member (codes "$code") (quoted s) ∷ member (codes "$scope") (object members) ∷ []) → ValueBack (suc (suc n)) format (code_scope s fs) text
scope_given n format s fs members text code all first r is = record {
  tree = code_scope s r.fields;
  bytes = scoped s (framed r.bytes);
  printed = (code.0, r.first first, members, r.printed, is);
  written = (r.bytes, r.written, refl, code);
  fits = scoped_bytes s (framed r.bytes) all (framed_bytes r.bytes r.fits);
  same = (refl, r.same);
}

-- ---- a line

mixed_as : (fs w u : Fields) (ns : List Number) (bytes : List ℕ) → AreFilled fs w u ns [] → IsWritten (doc fs) bytes → IsMixed (pairs_of w) (pairs_of u) ns bytes
mixed_as fs w u ns bytes filled written =
    let one : AreFilled fs (fields_of (pairs_of w)) u ns [] = subst (λ (x : Fields). AreFilled fs x u ns []) (sym (fields_of-pairs_of w)) filled in
    record {
      fields = fs;
      filled = subst (λ (x : Fields). AreFilled fs (fields_of (pairs_of w)) x ns []) (sym (fields_of-pairs_of u)) one;
      written = written;
    }

-- What a text of a document is read as, and the bytes of the document.
record IsReadAndMixed (text bytes : List ℕ) : Type 0 where
  wholes : Doc
  texts : Doc
  numbers : List Number
  read : IsRead text wholes texts numbers
  mixed : IsMixed wholes texts numbers bytes

printed_mixed : (fs : Fields) (bytes text : List ℕ) → IsPrinted most_levels (doc fs) text → IsWritten (doc fs) bytes → IsReadAndMixed text bytes
printed_mixed fs bytes text h written =
    let r = tree_read most_levels (doc fs) text h in
    let filled = r.filled [] in
    let ns : List Number = chunk_numbers (chunks r.json) in
    let all : AreFilled fs filled.0 filled.1 ns [] = subst (λ (x : List Number). AreFilled fs filled.0 filled.1 x []) (append-nil ns) filled.4 in
    record {
      wholes = pairs_of filled.0;
      texts = pairs_of filled.1;
      numbers = ns;
      read = read_from text (doc fs) r filled.0 filled.1 filled.2 filled.3;
      mixed = mixed_as fs filled.0 filled.1 ns bytes all written;
    }

-- a text of a document, whatever the texts of its numbers are, is packed as what is written of the document
pub printed_packed : (fs : Fields) (bytes text : List ℕ) → IsPrinted most_levels (doc fs) text → IsWritten (doc fs) bytes → length bytes ≤ longest_document → IsPacked text bytes
printed_packed fs bytes text h written short =
    let r = printed_mixed fs bytes text h written in
    record { wholes = r.wholes; texts = r.texts; numbers = r.numbers; read = r.read; mixed = r.mixed; short = short }

-- or it is too long
printed_refused : (fs : Fields) (bytes text : List ℕ) → IsPrinted most_levels (doc fs) text → IsWritten (doc fs) bytes → longest_document < length bytes → IsTooLong text
printed_refused fs bytes text h written long =
    let r = printed_mixed fs bytes text h written in
    record { wholes = r.wholes; texts = r.texts; numbers = r.numbers; read = r.read; long = inr (inr (bytes, r.mixed, long)) }

-- ---- where all numbers are in their one form

same_scalar : (s r : Scalar) → IsSameScalar Canonical s r → HaveOneForm (leaf s) → s ≡ r
same_scalar (trees.int64 z) r h one =
    let e : trees.int64 z ≡ trees.int64 (raw (number_type h.kind) h.value) = h.before.is in
    let is : raw (number_type h.kind) h.value ≡ z = cc in
    let bytes : h.value ≡ h.given = h.kept (one h.kind h.value h.before.fits h.before.sized is) h.typed in
    e ∙ (λ i. trees.int64 (raw (number_type (h.typed i)) (bytes i))) ∙ sym h.after.is
same_scalar s r h one = h

mutual
  same_tree : (t u : Tree) → HasSameValues Canonical t u → HaveOneForm t → t ≡ u
  same_tree (leaf s) (leaf r) h one = ap leaf (same_scalar s r h one)
  same_tree (doc fs) (doc gs) h one = ap doc (same_fields fs gs h one)
  same_tree (trees.array ts) (trees.array us) h one = ap trees.array (same_items ts us h one)
  same_tree (code_scope s fs) (code_scope r gs) h one = ap₂ code_scope h.0 (same_fields fs gs h.1 one)
  same_tree t u h one = absurd h

  pub same_fields : (fs gs : Fields) → HaveSameValues Canonical fs gs → FieldsHaveOneForm fs → fs ≡ gs
  same_fields no_fields no_fields h one = refl
  same_fields (field n t fs) (field m u gs) h one =
      let value = same_tree t u h.1 one.0 in
      let rest = same_fields fs gs h.2 one.1 in
      λ i. field (h.0 i) (value i) (rest i)
  same_fields fs gs h one = absurd h

  same_items : (ts us : Items) → ItemsHaveSameValues Canonical ts us → ItemsHaveOneForm ts → ts ≡ us
  same_items no_items no_items h one = refl
  same_items (item t ts) (item u us) h one = let value = same_tree t u h.0 one.0 in let rest = same_items ts us h.1 one.1 in λ i. item (value i) (rest i)
  same_items ts us h one = absurd h

-- ---- whole documents

-- What is printed of numbers is read so.
module _ (same_read : (bits : ℕ) (text : List ℕ) → bits < 2 ^ 64 → NotNan (of_bits binary64 bits) → IsDoubleText bits text → double_bits text ≡ Ok bits)
    (nan_read : (bits : ℕ) (text : List ℕ) → of_bits binary64 bits ≡ nan → IsDoubleText bits text → double_bits text ≡ Ok 0x7FF8_0000_0000_0000)
    (decimal_is_read : (low high : ℕ) → low < 2 ^ 64 → high < 2 ^ 64 → IsCanonical low high → decimals.IsRead (numeric_of (decimal128_text low high)) (Ok (low, high)))
    (decimal_read : (low high : ℕ) (r : Result (ℕ × ℕ) TextFault) → low < 2 ^ 64 → high < 2 ^ 64 → IsCanonical low high → decimals.IsRead (numeric_of (decimal128_text low high)) r → r ≡ Ok (low, high)) where
  module _ (format : JsonFormat) (z : ℤ) (text value : List ℕ) (fits : AreBytes value) (size : length value ≡ 8) (is : raw elements.Double value ≡ z) (h : IsNumberText format as_double value text) where
    double_back : long (long_of value) ≡ value
    double_back = ap (λ (x : List ℕ). long (from_le_bytes w64 x)) (take_all 8 value (omega (arith, size))) ∙ long_back value fits size

    double_stays : NotNan (of_bits binary64 (long_of value)) → ScalarBack format (trees.int64 z) text
    double_stays some =
        let all : take 8 value ≡ value = take_all 8 value (omega (arith, size)) in
        let below : long_of value < 2 ^ 64 = below_64 (take 8 value) (subst AreBytes (sym all) fits) in
        let read : double_bits h.0 ≡ Ok (long_of value) = same_read (long_of value) h.0 below some h.1 in
        let plain = is_bare format (of_bits binary64 (long_of value)) in
        stays format z text as_double value fits size is (inr (inl (record {
          number = numbers.Double (long_of value);
          is = ap (λ (x : List ℕ). trees.int64 (raw elements.Double x)) (sym double_back);
          begins = double_begins plain (long_of value) h.0 text read h.2 (λ b. bare_printed (long_of value) h.0 (bare_finite format _ b) h.1 read);
        })))

    double_nan : of_bits binary64 (long_of value) ≡ nan → ScalarBack format (trees.int64 z) text
    double_nan e =
        let bits : ℕ = 0x7FF8_0000_0000_0000 in
        let read : double_bits h.0 ≡ Ok bits = nan_read (long_of value) h.0 e h.1 in
        let plain = is_bare format (of_bits binary64 (long_of value)) in
        let equal : double_value (long_of value) ≡ double_value (long_of (long bits)) = nan_value (long_of value) e ∙ sym (ap double_value (long_again bits (omega arith)) ∙ nan_is bits (omega arith)) in
        becomes format z text as_double value fits size is as_double (long bits) (long_bytes bits) (one_long bits) (double_worth value (long bits) equal) (same_type format as_double)
        (λ one same. sym double_back ∙ ap long (one e)) (inr (inl (record {
          number = numbers.Double bits;
          is = refl;
          begins = double_begins plain bits h.0 text read h.2 (λ b. absurd (nan_finite _ e (bare_finite format _ b)));
        })))

    double_given : ScalarBack format (trees.int64 z) text
    unfolding lib.Ieee.is_nan
    double_given = go (of_bits binary64 (long_of value)) refl
      where
        go : (x : Float) → of_bits binary64 (long_of value) ≡ x → ScalarBack format (trees.int64 z) text
        go nan e = double_nan e
        go (inf s) e = double_stays (subst NotNan (sym e) tt)
        go (fin s m k) e = double_stays (subst NotNan (sym e) tt)

  decimal_given : (format : JsonFormat) (z : ℤ) (text value : List ℕ) → AreBytes value → length value ≡ 16 → raw elements.Decimal128 value ≡ z → IsNumberText format as_decimal128 value text → ScalarBack format (trees.int64 z) text
  decimal_given format z text value fits size is h =
      let parts = halves value size in
      let whole : AreBytes (take 8 value ++ drop 8 value) = subst AreBytes (sym (take-append-drop 8 value)) fits in
      let first : AreBytes (take 8 value) = bytes_before (take 8 value) (drop 8 value) whole in
      let second : AreBytes (drop 8 value) = bytes_after (take 8 value) (drop 8 value) whole in
      let low = long_of value in
      let high = long_of (drop 8 value) in
      let low_is : long low ≡ take 8 value = long_back (take 8 value) first parts.0 in
      let high_is : long high ≡ drop 8 value = ap (λ (x : List ℕ). long (from_le_bytes w64 x)) parts.2 ∙ long_back (drop 8 value) second parts.1 in
      let back : long low ++ long high ≡ value = ap₂ (λ (a b : List ℕ). a ++ b) low_is high_is ∙ take-append-drop 8 value in
      let below_low : low < 2 ^ 64 = below_64 (take 8 value) first in
      let below_high : high < 2 ^ 64 = below_64 (take 8 (drop 8 value)) (subst AreBytes (sym parts.2) second) in
      let f = decimal_form low high in
      let contents = decimal128_text low high in
      let given = long f.lower ++ long f.upper in
      let read : decimals.IsRead (numeric_of contents) (Ok (f.lower, f.upper)) =
      subst (λ (t : List ℕ). decimals.IsRead (numeric_of t) (Ok (f.lower, f.upper))) (sym f.text) (decimal_is_read f.lower f.upper f.low_fits f.high_fits f.canonical) in
      let equal : decimal128_value low high ≡ decimal128_value (long_of given) (long_of (drop 8 given)) =
      f.value ∙ sym (λ i. decimal128_value (first_again f.lower f.upper f.low_fits i) (second_again f.lower f.upper f.high_fits i)) in
      becomes format z text as_decimal128 value fits size is as_decimal128 given (both_bytes (long f.lower) (long f.upper) (long_bytes f.lower) (long_bytes f.upper)) (two_longs f.lower f.upper)
      (decimal_worth value given equal) (same_type format as_decimal128)
      (λ one e.
      let same : Ok (f.lower, f.upper) ≡ Ok (low, high) = decimal_read low high (Ok (f.lower, f.upper)) below_low below_high one read in
      sym back ∙ sym (ap₂ (λ (a b : ℕ). long a ++ long b) (ap lower_in same) (ap upper_in same)))
      (inr (inl (record {
        number = numbers.Decimal128 f.lower f.upper;
        is = refl;
        begins = subst (λ (x : List ℕ). IsTextOfNumber x (numbers.Decimal128 f.lower f.upper)) (sym h) (decimal_printed f.lower f.upper contents (decimal_text_unquoted low high) read);
      })))

  number_given : (format : JsonFormat) (kind : NumberKind) (value : List ℕ) (z : ℤ) (text : List ℕ) → AreBytes value → length value ≡ number_size kind → raw (number_type kind) value ≡ z
      → IsNumberText format kind value text → ScalarBack format (trees.int64 z) text
  number_given format as_int32 value z text fits size is h = int32_given format z text value fits size is h
  number_given format as_int64 value z text fits size is h = int64_given format z text value fits size is h
  number_given format as_double value z text fits size is h = double_given format z text value fits size is h
  number_given format as_decimal128 value z text fits size is h = decimal_given format z text value fits size is h

  scalar_given : (format : JsonFormat) (s : Scalar) (bytes text : List ℕ) → AreBytes bytes → IsValuedScalar raw s bytes → IsScalarText format s text → ScalarBack format s text
  scalar_given format (trees.int32 z) bytes text fits is h = absurd is
  scalar_given format (trees.int64 z) bytes text fits is h = number_given format h.kind h.value z text h.fits h.sized h.is h.written
  scalar_given format (trees.date z) bytes text fits is h = record { scalar = trees.date z; bytes = bytes; printed = date_stays format z text is.0 h; written = is; fits = fits; same = refl }
  scalar_given format trees.min_key bytes text fits is h = kind_stays format trees.min_key bytes text fits refl tt refl (canonical_text format trees.min_key text tt h) is refl
  scalar_given format trees.undefined bytes text fits is h = kind_stays format trees.undefined bytes text fits refl tt refl (canonical_text format trees.undefined text tt h) is refl
  scalar_given format trees.null bytes text fits is h = kind_stays format trees.null bytes text fits refl tt refl (canonical_text format trees.null text tt h) is refl
  scalar_given format (trees.text s) bytes text fits is h = kind_stays format (trees.text s) bytes text fits refl is.0.0 refl (canonical_text format (trees.text s) text tt h) is refl
  scalar_given format (trees.symbol s) bytes text fits is h = kind_stays format (trees.symbol s) bytes text fits refl is.0.0 refl (canonical_text format (trees.symbol s) text tt h) is refl
  scalar_given format (trees.binary k s) bytes text fits is h =
      kind_stays format (trees.binary k s) bytes text fits refl (is.0.0, payload_bytes k s bytes fits is.1) refl (canonical_text format (trees.binary k s) text tt h) is refl
  scalar_given format (trees.object_id id) bytes text fits is h =
      kind_stays format (trees.object_id id) bytes text fits refl (is.0, subst AreBytes is.1 fits) refl (canonical_text format (trees.object_id id) text tt h) is refl
  scalar_given format (trees.boolean b) bytes text fits is h = kind_stays format (trees.boolean b) bytes text fits refl tt refl (canonical_text format (trees.boolean b) text tt h) is refl
  scalar_given format (trees.timestamp s i) bytes text fits is h = kind_stays format (trees.timestamp s i) bytes text fits refl is.0 refl (canonical_text format (trees.timestamp s i) text tt h) is refl
  scalar_given format (trees.regex p o) bytes text fits is h =
      kind_stays format (trees.regex p o) bytes text fits refl (is.0.0.0, is.0.1.0) (rw (name_no_zero p is.0.0.1, name_no_zero o is.0.1.1) refl) (canonical_text format (trees.regex p o) text tt h) is refl
  scalar_given format (trees.db_pointer s id) bytes text fits is h =
      kind_stays format (trees.db_pointer s id) bytes text fits refl (is.0.0.0, (is.0.1, bytes_after (string s) id (subst AreBytes is.1 fits))) refl (canonical_text format (trees.db_pointer s id) text tt h) is refl
  scalar_given format (trees.code s) bytes text fits is h = kind_stays format (trees.code s) bytes text fits refl is.0.0 refl (canonical_text format (trees.code s) text tt h) is refl
  scalar_given format trees.max_key bytes text fits is h = kind_stays format trees.max_key bytes text fits refl tt refl (canonical_text format trees.max_key text tt h) is refl

  mutual
    value_given : (n : ℕ) (format : JsonFormat) (t : Tree) (bytes text : List ℕ) → depth t ≤ n → AreBytes bytes → IsValueBy (valued raw) t bytes → IsPlain t → IsTextOf format t text → ValueBack n format t text
    value_given n format (leaf s) bytes text deep fits is plain h =
        let r = scalar_given format s bytes text fits is h in
        record { tree = leaf r.scalar; bytes = r.bytes; printed = r.printed; written = r.written; fits = r.fits; same = r.same }
    value_given zero format (doc fs) bytes text deep fits is plain h = absurd (omega (arith, deep))
    value_given (suc n) format (doc fs) bytes text deep fits is plain h =
        doc_given n format fs h.0 text plain.0 (fields_given n format fs is.0 h.0 (omega (arith, deep)) (body_bytes is.0 bytes fits is.2) is.1 plain.1 h.1) h.2
    value_given zero format (trees.array ts) bytes text deep fits is plain h = absurd (omega (arith, deep))
    value_given (suc n) format (trees.array ts) bytes text deep fits is plain h =
        array_given n format ts h.0 text (items_given n format 0 ts is.0 h.0 (omega (arith, deep)) (body_bytes is.0 bytes fits is.2) is.1 plain h.1) h.2
    value_given zero format (code_scope s fs) bytes text deep fits is plain h = absurd (omega (arith, deep))
    value_given (suc zero) format (code_scope s fs) bytes text deep fits is plain h = absurd (omega (arith, deep))
    value_given (suc (suc n)) format (code_scope s fs) bytes text deep fits is plain h =
        scope_given n format s fs h.0 text is.3 (code_bytes s (framed is.0) bytes fits is.2) plain.0
        (fields_given n format fs is.0 h.0 (omega (arith, deep)) (body_bytes is.0 (framed is.0) (scope_bytes s (framed is.0) bytes fits is.2) (refl {a = framed is.0})) is.1 plain.1 h.1) h.2

    fields_given : (n : ℕ) (format : JsonFormat) (fs : Fields) (bytes : List ℕ) (members : List (List ℕ)) → fields_depth fs ≤ n → AreBytes bytes → AreFieldsBy (valued raw) fs bytes → ArePlainFields fs
        → AreMembers format fs members → FieldsBack n format fs members
    fields_given n format no_fields bytes members deep fits is plain h = record { fields = no_fields; bytes = []; printed = h; written = refl; fits = λ i. omega arith; same = tt; first = λ p. p }
    fields_given n format (field name t fs) bytes members deep fits is plain h =
        let parts = element_bytes t name is.0 is.1 bytes fits is.5 in
        let v = value_given n format t is.0 h.0 (omega (arith, deep)) parts.0 is.3 plain.0 h.2 in
        let r = fields_given n format fs is.1 h.1 (omega (arith, deep)) parts.1 is.4 plain.1 h.3 in
        record {
          fields = field name v.tree r.fields;
          bytes = written_typed v.tree name v.bytes ++ r.bytes;
          printed = (h.0, h.1, is.2.0, name_no_zero name is.2.1, v.printed, r.printed, h.4);
          written = (v.bytes, r.bytes, is.2, v.written, r.written, refl {a = written_typed v.tree name v.bytes ++ r.bytes});
          fits = both_bytes (written_typed v.tree name v.bytes) r.bytes (typed_fits v.tree name v.bytes (name_bytes t name is.0 is.1 bytes fits is.5) v.fits) r.fits;
          same = (refl, v.same, r.same);
          first = λ p. p;
        }

    items_given : (n : ℕ) (format : JsonFormat) (index : ℕ) (ts : Items) (bytes : List ℕ) (values : List (List ℕ)) → items_depth ts ≤ n → AreBytes bytes → AreItemsBy (valued raw) ts bytes → ArePlainItems ts
        → AreTexts format ts values → ItemsBack n format index ts values
    items_given n format index no_items bytes values deep fits is plain h = record { items = no_items; bytes = []; printed = h; written = refl; fits = λ i. omega arith; same = tt }
    items_given n format index (item t ts) bytes values deep fits is plain h =
        let parts = element_bytes t is.0 is.1 is.2 bytes fits is.6 in
        let v = value_given n format t is.1 h.0 (omega (arith, deep)) parts.0 is.4 plain.0 h.2 in
        let r = items_given n format (suc index) ts is.2 h.1 (omega (arith, deep)) parts.1 is.5 plain.1 h.3 in
        record {
          items = item v.tree r.items;
          bytes = written_typed v.tree (decimal index) v.bytes ++ r.bytes;
          printed = (h.0, h.1, v.printed, r.printed, h.4);
          written = (v.bytes, r.bytes, v.written, r.written, refl {a = written_typed v.tree (decimal index) v.bytes ++ r.bytes});
          fits = both_bytes (written_typed v.tree (decimal index) v.bytes) r.bytes (typed_fits v.tree (decimal index) v.bytes (index_bytes index) v.fits) r.fits;
          same = (v.same, r.same);
        }

  module _ (format : JsonFormat) (d : Doc) (bytes text : List ℕ) (is : IsDocumentBy (valued raw) d bytes) (fits : AreBytes bytes) (plain : IsPlain (doc (fields_of d))) (h : IsTextOf format (doc (fields_of d)) text) where
    pub fields_back : FieldsBack (most_levels - 1) format (fields_of d) h.0
    fields_back = fields_given (most_levels - 1) format (fields_of d) is.spells.0 h.0 (omega (arith, is.shallow)) (body_bytes is.spells.0 bytes fits is.spells.2) is.spells.1 plain.1 h.1

    pub document_printed : IsPrinted most_levels (doc fields_back.fields) text
    document_printed = let r = fields_back in (r.first plain.0, h.0, r.printed, h.2)

    -- the text is packed as a document with the same values
    pub packed_alike : IsPackedAlike format (fields_of d) text
    packed_alike =
        let r = fields_back in
        let written : IsWritten (doc r.fields) (framed r.bytes) = (r.bytes, r.written, refl) in
        record {
          fields = r.fields;
          bytes = framed r.bytes;
          same = r.same;
          written = written;
          fits = framed_bytes r.bytes r.fits;
          few = λ others other. shorter format (doc (fields_of d)) (doc r.fields) others (framed r.bytes) r.same other written;
          packed = printed_packed r.fields (framed r.bytes) text document_printed written;
          refused = printed_refused r.fields (framed r.bytes) text document_printed written;
        }
