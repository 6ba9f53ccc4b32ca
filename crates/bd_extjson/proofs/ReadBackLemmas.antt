-- The canonical text of a plain document is read back as that document.
use Rattle.std.proofs.Common.{◌≡◌, ℕ, zero, suc, ◌^◌, ◌<◌, ℤ, pos, negsuc, neg_ℤ, Bool, true, false, cond, ◌==◌, ◌&&◌, List, [], ◌∷◌, length, get_or, Some, decimal, refl}
use Rattle.std.proofs.Common.{sym, ap, ◌∙◌, arith, ◌+◌, ◌*◌, ◌-◌, ◌/◌, ◌%◌, ◌≤◌, Option, option_map, option_and_then, ap₂}
use Rattle.std.specs.Fmt.{signed_decimal}
use Rattle.std.specs.Int.{w32, w64}
use Rattle.std.specs.Int.RustNames.{FitsSigned}
use Rattle.std.specs.Char.{is_ascii_digit}
use Rattle.std.specs.Str.{all_ascii_digits}
use Rattle.std.specs.Str.Parse.{digits_value}
use Rattle.std.proofs.lemmas.Bool.{and_parts, lt-ltb, ltb-true, or_parts}
use Rattle.std.proofs.lemmas.Fmt.{digits_decimal, digits_value-decimal, first_decimal, decimal_digit}
use Rattle.std.proofs.lemmas.Int.{ints}
use Rattle.bd_extjson_text.proofs.JsonStringLemmas.{wider}
use Rattle.bd_extjson_wrapper.specs.WholeNumber.{are_digits, fits_bits, whole, whole_64, whole_32}
use Rattle.bd_extjson_wrapper.proofs.WholeNumberLemmas.{digits_model, all_of}
use Rattle.std.specs.{Prelude.◌||◌, Option.option_zip, Result.result_ok}
use Rattle.std.proofs.lemmas.Str.{is_utf8-from_IsUtf8}
use Rattle.base64.specs.Engines.{standard}
use Rattle.base64.proofs.EngineFacts.{decode_of-encode_of}
use Rattle.hex.specs.Hex.{IsBytes, encode_with}
use Rattle.hex.proofs.HexLemmas.{IsDigits-lower_digits, decode_sized-encode_lower}
use Rattle.json.specs.Json as kit
use Rattle.json.specs.Json.{if_last}
use Rattle.bd_value.specs.Tree.{depth, fields_depth, items_depth, Scalar, int32, int64, binary, object_id, date, timestamp, regex, db_pointer, Tree, leaf, doc, array}
use Rattle.bd_value.specs.Tree.{code_scope, Items, no_items, item, Fields, no_fields, field, Doc, fields_of, pairs_of, pairs_of-fields_of}
use Rattle.bd_value.specs.Fits.{IsId, ScalarFits, Fits, FitsTypes, ItemsFit, FieldsFit, IsAny, has_zero, zero_in_scalar, zero_in, zero_in_items, zero_in_fields}
use Rattle.bd_value.specs.Limits.{most_brackets, most_levels}
use Rattle.bd_value.proofs.FitsLemmas.{fits_types}
use Rattle.bd_extjson_text.specs.Text.{base64_text, hex_text, text}
use Rattle.bd_extjson_wrapper.specs.Wrapper.{wrapper_of, only, pair, id_of, data_in, subtype_in, word_in, if_word, name_in}
use Rattle.bd_extjson.specs.Read.{add_item, add_field, with_scope, wrap, wrap_items, wrap_object, wrap_fields, json as json_in, document, ReadsAs}
use Rattle.bd_extjson.specs.Laws.{IsPlainFirst, IsPlain, ArePlainItems, ArePlainFields}
use Rattle.bd_extjson.proofs.TextLemmas.{utf8-text}
use Rattle.bd_extjson.proofs.TreeJsonLemmas.{scalar_json, json, elements_json, members_json, well, value-text}
use Rattle.bd_extjson.proofs.ReadLemmas.{json_is}

first_nonzero : (ds : List ℕ) → 48 < get_or ds 0 0 → all_ascii_digits ds ≡ true → are_digits ds ≡ true
first_nonzero [] first all = absurd (omega arith)
first_nonzero (c ∷ cs) first all = one (c == 48) refl
  where
    one : (b : Bool) → (c == 48) ≡ b → (cond b (length cs == 0) (is_ascii_digit c) && all_ascii_digits (c ∷ cs)) ≡ true
    one true e = let same : c ≡ 48 = grind arith in absurd (omega arith)
    one false e = let digits = and_parts (is_ascii_digit c) (all_ascii_digits cs) all in rw (digits.0, digits.1) refl

are_digits-decimal : (n : ℕ) → n < 2 ^ 64 → are_digits (decimal n) ≡ true
are_digits-decimal zero small = ap are_digits (decimal_digit 0 (omega arith))
are_digits-decimal (suc n) small = first_nonzero (decimal (suc n)) (first_decimal (suc n) (omega arith) small) (digits_decimal digits_model (suc n) small)

no_sign : (c : ℕ) (cs : List ℕ) → c ≡ 45 → all_ascii_digits (c ∷ cs) ≡ true → ⊥
no_sign c cs e all = let minus : all_ascii_digits (45 ∷ cs) ≡ true = ap (λ x. all_ascii_digits (x ∷ cs)) (sym e) ∙ all in let no : false ≡ true = minus in absurd cc

whole-digits : (ds : List ℕ) (n : ℕ) → are_digits ds ≡ true → digits_value 10 ds ≡ n → whole ds ≡ Some (pos n)
unfolding whole
whole-digits [] n are is = absurd cc
whole-digits (c ∷ cs) n are is = one (c == 45) refl
  where
    one : (b : Bool) → (c == 45) ≡ b → whole (c ∷ cs) ≡ Some (pos n)
    one true e = let same : c ≡ 45 = grind arith in absurd (no_sign c cs same (all_of (c ∷ cs) are).0)
    one false e = rw (e, are) (ap (λ k. Some (pos k)) is)

whole-minus : (ds : List ℕ) (n : ℕ) → are_digits ds ≡ true → digits_value 10 ds ≡ n → whole (45 ∷ ds) ≡ Some (neg_ℤ (pos n))
unfolding whole
whole-minus ds n are is = rw are (ap (λ k. Some (neg_ℤ (pos k))) is)

whole-signed : (z : ℤ) → fits_bits 63 z ≡ true → whole (signed_decimal z) ≡ Some z
whole-signed (pos n) fits =
    let small : n < 2 ^ 63 = ltb-true n (2 ^ 63) fits in
    whole-digits (decimal n) n (are_digits-decimal n (omega arith)) (digits_value-decimal digits_model n (omega arith))
whole-signed (negsuc n) fits =
    let small : n < 2 ^ 63 = ltb-true n (2 ^ 63) fits in
    whole-minus (decimal (suc n)) (suc n) (are_digits-decimal (suc n) (omega arith)) (digits_value-decimal digits_model (suc n) (omega arith))

bits_63 : (z : ℤ) → FitsSigned w64 z → fits_bits 63 z ≡ true
bits_63 (pos n) fits = lt-ltb n (2 ^ 63) (omega (arith, ints))
bits_63 (negsuc n) fits = lt-ltb n (2 ^ 63) (omega (arith, ints))

bits_31 : (z : ℤ) → FitsSigned w32 z → fits_bits 31 z ≡ true
bits_31 (pos n) fits = lt-ltb n (2 ^ 31) (omega (arith, ints))
bits_31 (negsuc n) fits = lt-ltb n (2 ^ 31) (omega (arith, ints))

pub whole_64-signed : (z : ℤ) → FitsSigned w64 z → whole_64 (signed_decimal z) ≡ Some z
whole_64-signed z fits = rw (whole-signed z (bits_63 z fits), bits_63 z fits) refl

pub whole_32-signed : (z : ℤ) → FitsSigned w32 z → whole_32 (signed_decimal z) ≡ Some z
whole_32-signed z fits = rw (whole-signed z (bits_63 z (wider z fits)), bits_31 z fits) refl

pub whole_64-decimal : (n : ℕ) → n < 2 ^ 32 → whole_64 (decimal n) ≡ Some (pos n)
whole_64-decimal n small =
    let fits : fits_bits 63 (pos n) ≡ true = lt-ltb n (2 ^ 63) (omega arith) in
    rw (whole-signed (pos n) fits, fits) refl

-- ---- the parts of a scalar

id_back : (id : List ℕ) → IsId id → id_of (kit.string (hex_text id)) ≡ Some id
unfolding hex_text
id_back id is = ap result_ok (decode_sized-encode_lower id 12 is.0 is.1)

data_back : (bytes : List ℕ) → IsBytes bytes → data_in (kit.string (base64_text bytes)) ≡ Some bytes
unfolding base64_text
data_back bytes are = ap result_ok (decode_of-encode_of standard bytes refl are)

subtype_back : (k : ℕ) → k < 256 → subtype_in (kit.string (hex_text (k ∷ []))) ≡ Some k
unfolding hex_text encode_with
subtype_back k small =
    let high = IsDigits-lower_digits (k / 16) (omega arith) in
    let low = IsDigits-lower_digits (k % 16) (omega arith) in
    let sum : k / 16 * 16 + k % 16 ≡ k = omega arith in
    ap₂ (λ a b. option_map (λ p. p.0 * 16 + p.1) (option_zip a b)) high low ∙ ap Some sum

word_back : (n : ℕ) → n < 2 ^ 32 → word_in (kit.number (decimal n)) ≡ Some n
word_back n small =
    let less = lt-ltb n 4294967296 small in
    ap (option_and_then if_word) (whole_64-decimal n small) ∙ rw less refl

name_back : (s : List ℕ) → has_zero s ≡ false → name_in (kit.string s) ≡ Some s
name_back s none = rw none refl

pub scalar_back : (s : Scalar) (depth_left : ℕ) → ScalarFits IsAny s → zero_in_scalar s ≡ false → wrap depth_left (scalar_json s) ≡ Some (leaf s)
unfolding wrapper_of only pair whole
scalar_back (int32 z) depth_left fits none = ap (λ o. option_map (λ s. leaf s) (option_map (λ y. int32 y) o)) (whole_32-signed z fits)
scalar_back (int64 z) depth_left fits none = ap (λ o. option_map (λ s. leaf s) (option_map (λ y. int64 y) o)) (whole_64-signed z fits)
scalar_back (binary k s) depth_left fits none =
    ap₂ (λ a b. option_map (λ s. leaf s) (option_map (λ p. binary p.1 p.0) (option_zip a b))) (data_back s fits.1) (subtype_back k fits.0)
scalar_back (object_id id) depth_left fits none = ap (λ o. option_map (λ s. leaf s) (option_map (λ b. object_id b) o)) (id_back id fits)
scalar_back (date z) depth_left fits none = ap (λ o. option_map (λ s. leaf s) (option_map (λ y. date y) o)) (whole_64-signed z fits)
scalar_back (timestamp s i) depth_left fits none =
    ap₂ (λ a b. option_map (λ s. leaf s) (option_map (λ p. timestamp p.0 p.1) (option_zip a b))) (word_back s fits.0) (word_back i fits.1)
scalar_back (regex p o) depth_left fits none =
    let parts = or_parts (has_zero p) (has_zero o) none in
    ap₂ (λ a b. option_map (λ s. leaf s) (option_map (λ p. regex p.0 p.1) (option_zip a b))) (name_back p parts.0) (name_back o parts.1)
scalar_back (db_pointer s id) depth_left fits none =
    ap (λ o. option_map (λ s. leaf s) (option_map (λ p. db_pointer p.0 p.1) (option_zip (Some s) o))) (id_back id fits.1)
scalar_back _ depth_left fits none = refl

-- ---- a tree

add_field-some : (n : List ℕ) (t : Tree) (fs : Fields) → has_zero n ≡ false → add_field n (Some t) (Some fs) ≡ Some (field n t fs)
add_field-some n t fs none = rw none refl

field_back : (n : List ℕ) (t : Tree) (fs : Fields) {o : Option Tree} {p : Option Fields} → has_zero n ≡ false → o ≡ Some t → p ≡ Some fs → add_field n o p ≡ Some (field n t fs)
field_back n t fs none first rest = ap₂ (add_field n) first rest ∙ add_field-some n t fs none

no_zeros : (n : List ℕ) (t : Tree) (fs : Fields) → zero_in_fields (field n t fs) ≡ false → (has_zero n ≡ false) × (zero_in t ≡ false) × (zero_in_fields fs ≡ false)
no_zeros n t fs none =
    let name = or_parts (has_zero n) (zero_in t || zero_in_fields fs) none in
    let parts = or_parts (zero_in t) (zero_in_fields fs) name.1 in
    (name.0, parts.0, parts.1)

scope_back : (s : List ℕ) (fs : Fields) (depth_left : ℕ) → wrap_object (suc depth_left - 1) (members_json fs) ≡ Some (doc fs)
    → wrap (suc depth_left) (json (code_scope s fs)) ≡ Some (code_scope s fs)
unfolding wrapper_of
scope_back s fs depth_left same = ap (with_scope (Some s)) same

mutual
  pub tree_back : (t : Tree) (depth_left : ℕ) → depth t ≤ depth_left → FitsTypes t → IsPlain t → zero_in t ≡ false → wrap depth_left (json t) ≡ Some t
  tree_back (leaf s) depth_left deep fits plain none = scalar_back s depth_left fits none
  tree_back (doc fs) depth_left deep fits plain none = object_back fs depth_left deep fits plain none
  tree_back (array ts) zero deep fits plain none = absurd (omega arith)
  tree_back (array ts) (suc depth_left) deep fits plain none = ap (option_map array) (items_back ts (suc depth_left - 1) (omega arith) fits plain none)
  tree_back (code_scope s fs) zero deep fits plain none = absurd (omega arith)
  tree_back (code_scope s fs) (suc depth_left) deep fits plain none = scope_back s fs depth_left (object_back fs (suc depth_left - 1) (omega arith) fits.1 plain none)

  object_back : (fs : Fields) (depth_left : ℕ) → suc (fields_depth fs) ≤ depth_left → FieldsFit IsAny fs → IsPlainFirst fs × ArePlainFields fs
      → zero_in_fields fs ≡ false → wrap_object depth_left (members_json fs) ≡ Some (doc fs)
  object_back fs zero deep fits plain none = absurd (omega arith)
  object_back no_fields (suc depth_left) deep fits plain none = refl
  object_back (field n t fs) (suc depth_left) deep fits plain none =
      let parts = no_zeros n t fs none in
      rw plain.0
      (ap (option_map doc) (field_back n t fs parts.0 (tree_back t (suc depth_left - 1) (omega arith) fits.1.0 plain.1.0 parts.1) (fields_back fs (suc depth_left - 1) (omega arith) fits.1.1 plain.1.1 parts.2)))

  items_back : (ts : Items) (depth_left : ℕ) → items_depth ts ≤ depth_left → ItemsFit IsAny ts → ArePlainItems ts → zero_in_items ts ≡ false → wrap_items depth_left (elements_json ts) ≡ Some ts
  items_back no_items depth_left deep fits plain none = refl
  items_back (item t ts) depth_left deep fits plain none =
      let parts = or_parts (zero_in t) (zero_in_items ts) none in
      ap₂ add_item (tree_back t depth_left (omega arith) fits.0 plain.0 parts.0) (items_back ts depth_left (omega arith) fits.1 plain.1 parts.1)

  fields_back : (fs : Fields) (depth_left : ℕ) → fields_depth fs ≤ depth_left → FieldsFit IsAny fs → ArePlainFields fs → zero_in_fields fs ≡ false → wrap_fields depth_left (members_json fs) ≡ Some fs
  fields_back no_fields depth_left deep fits plain none = refl
  fields_back (field n t fs) depth_left deep fits plain none =
      let parts = no_zeros n t fs none in
      field_back n t fs parts.0 (tree_back t depth_left (omega arith) fits.1.0 plain.0 parts.1) (fields_back fs depth_left (omega arith) fits.1.1 plain.1 parts.2)

-- ---- a document

json_back : (t : Tree) → Fits t → depth t ≤ most_levels → json_in (text t) ≡ Some (json t)
json_back t fits deep =
    let types = fits_types t fits in
    json_is (text t) (is_utf8-from_IsUtf8 (text t) (utf8-text t fits))
    ∙ ap (option_and_then (λ p. if_last p.0 p.1)) (value-text t most_brackets types (omega (arith, (well t types).0)))

-- the text of a plain document within the limits is read as this document
pub document_back : (d : Doc) → Fits (doc (fields_of d)) → IsPlain (doc (fields_of d))
    → zero_in (doc (fields_of d)) ≡ false → depth (doc (fields_of d)) ≤ most_levels
    → ReadsAs (text (doc (fields_of d))) d
document_back d fits plain none deep =
    let t : Tree = doc (fields_of d) in
    ap (λ o. option_map pairs_of (option_and_then document (option_and_then (wrap most_levels) o))) (json_back t fits deep)
    ∙ ap (λ o. option_map pairs_of (option_and_then document o)) (tree_back t most_levels deep (fits_types t fits) plain none)
    ∙ ap Some (pairs_of-fields_of d)
