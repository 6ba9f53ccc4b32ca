-- The text of a document of all types is read as the document with other values for its numbers.
use Rattle.std.proofs.Common.{◌≡◌, ◌≤◌, ◌<◌, ◌^◌, ne_eqb, ℕ, zero, suc, ◌+◌, ◌-◌, ℤ, pos, Bool, true, false, cond, ◌||◌, nat_eq, negsuc, List, [], ◌∷◌, ◌++◌, length, take, drop, refl, sym, ap, ap₂, ◌∙◌, subst, inl, inr, arith, codes, append_assoc, append-nil, take-append-drop, Option, Some, None, option_map, option_and_then, decimal, ◌⊎◌}
use Rattle.std.specs.Prelude.{IsUtf8, Ok, nat_lt}
use Rattle.std.specs.Char.{is_ascii_digit}
use Rattle.std.specs.Str.Parse.{AllDigits}
use Rattle.std.proofs.lemmas.Str.Parse.{digit_from_value}
use borrow.Author.Tests.{le-leb}
use Rattle.std.specs.{Cmp.Lexicographic.pointwise, Cmp.Lexicographic.bytes_decides, Option.option_map_or, Str.bytes_eq, Fmt.signed_decimal, Str.IsAscii, Int.Signed.mag}
use Rattle.std.proofs.lemmas.Bool.{and_parts, or_parts, ltb-true}
use Rattle.std.proofs.lemmas.Fmt.{IsAscii-decimal, IsAscii-signed, decimal_is_IsNumeral}
use Rattle.std.proofs.lemmas.Str.{IsUtf8-from_ascii, is_utf8-from_IsUtf8}
use Rattle.std.proofs.lemmas.Str.Ascii.{IsAscii-nil, IsAscii-cons}
use Rattle.base64.specs.Engines.{standard}
use Rattle.base64.specs.GeneralPurpose.{encode_of}
use Rattle.base64.proofs.EngineFacts.{IsAscii-encode_of}
use Rattle.hex.specs.Hex.{lower_digits, encode_with}
use Rattle.hex.proofs.HexLemmas.{IsAscii-encode_with}
use Rattle.json.specs.Json as kit
use Rattle.json.specs.Json.{if_last}
use Rattle.json.specs.Print as kit_print
use Rattle.json.specs.Print.{ArePrintable, IsNumber, token_text}
use Rattle.json.specs.Text.{content, plain}
use Rattle.json.specs.Token.{Token}
use Rattle.json.specs.Tree as kit_tree
use Rattle.json.specs.Tree.{HasNumbers, ItemsHaveNumbers, MembersHaveNumbers, json_tokens}
use Rattle.json.specs.Word.{after_number}
use Rattle.json.proofs.Printed.Decimals.{IsNumber-decimal, IsNumber-signed_decimal}
use Rattle.json.proofs.Printed.Strings.{content-escape}
use Rattle.json.proofs.Printed.Trees.{value-json_tokens, ArePrintable-json_tokens}
use Rattle.json.proofs.Printed.Utf8.{IsUtf8-are_ascii, IsUtf8-boolean, IsUtf8-key, IsUtf8-quoted, are_ascii}
use Rattle.bd_value.specs.Fits.{ScalarFits, has_zero}
use Rattle.bd_value.specs.Limits.{most_brackets, most_levels}
use Rattle.bd_value.proofs.FitsLemmas.{fits_types}
use Rattle.bd_value.specs.Tree as trees
use Rattle.bd_value.specs.Tree.{Scalar, Tree, leaf, doc, code_scope, Items, no_items, item, Fields, no_fields, field, Doc, fields_of, pairs_of}
use Rattle.bd_extjson_text.specs.Text as texts
use Rattle.bd_extjson_text.specs.Text.{base64_text, hex_text, scalar_text}
use Rattle.bd_extjson_text.proofs.JsonStringLemmas.{fits_32, fits_64}
use Rattle.std.specs.Option.{ok_or}
use Rattle.bd_extjson_fault.specs.TextFault.{text_fault}
use Rattle.bd_extjson_wrapper.specs.WholeNumber as numerals
use Rattle.bd_extjson_wrapper.specs.Wrapper.{wrapper_of}
use Rattle.bd_extjson.specs.Laws.{IsPlainFirst}
use Rattle.bd_extjson.specs.Read.{add_field, add_item, bare_number, document, json, with_scope, wrap, wrap_fields, wrap_items}
use Rattle.bd_extjson.proofs.ReadBackLemmas.{scalar_back, whole_64-signed}
use Rattle.bd_extjson.proofs.ReadLemmas.{json_is}
use Rattle.bd_extjson.proofs.TreeJsonLemmas.{scalar_json}
use Rattle.bd_wide_number.specs.declared.number.Number.{Number}
use Rattle.bd_wide_substitute.specs.declared.wrapped.WideValue.{WideValue}
use Rattle.bd_wide_substitute.specs.declared.wrapped.WideValue.TheVariants as values
use Rattle.bd_wide_substitute.specs.Both.{IsRead, both, document_of}
use Rattle.bd_wide_substitute.specs.Substitutes.{ArePieces, BeginsValue, Filler, Wrapper, after, last_string, named, strip, text, whole, wrapper_at, wrapper_inside}
use Rattle.bd_wide_pack.specs.Filled.{AreFilled, AreItemsFilled, IsFilled}
use Rattle.bd_wide_pack.specs.inside.Printed.{AreFieldsPrinted, AreItemsPrinted, IsDatePrinted, IsKindPrinted, IsNumberPrinted, IsPrinted, IsTextOfNumber, IsTextOfValue, IsWholePrinted, bare}
use Rattle.bd_wide_pack.proofs.JsonLemmas.{Chunk, Elements, HaveUtf8, Members, Wide, a_zero, array, boolean, chunk_text, chunks, date-utf8, dated, element, element_chunks, element_texts, fill, fill_elements, fill_members, filled-tokens, filled_text, instant, member, member_chunks, member_texts, no_elements, no_members, null, number, object, printed, printed-utf8, string, text_of, token, tokens-filled, value, valued, whole-text}
use Rattle.bd_wide_pack.proofs.ChunkLemmas.{AreSafe, InPieces, IsWhole, chunk_numbers, in_pieces, nothing, of_date, of_decimal128, of_double, of_uuid, some_none}

-- ---- the names of the wrappers of values

-- whether a name is that of the wrapper of a double, a decimal128, a date or a UUID
abbrev is_named : List ℕ → Bool
is_named n = bytes_eq n (codes "$numberDouble") || (bytes_eq n (codes "$numberDecimal") || (bytes_eq n (codes "$date") || bytes_eq n (codes "$uuid")))

not_this : (n w : List ℕ) → (bytes_eq w w ≡ true) → (wrapper_of w ≡ None → ⊥) → wrapper_of n ≡ None → bytes_eq n w ≡ false
not_this n w itself some none =
    elim (bytes_eq n w) as (λ b. bytes_eq n w ≡ b → b ≡ false) [
      | true ↦ λ e. absurd (some (ap wrapper_of (sym ((bytes_decides n w).0 e)) ∙ none))
      | false ↦ λ e. refl
    ] refl

not_named : (n : List ℕ) → wrapper_of n ≡ None → is_named n ≡ false
unfolding wrapper_of
not_named n none =
    rw (not_this n (codes "$numberDouble") refl (λ e. some_none e) none, not_this n (codes "$numberDecimal") refl (λ e. some_none e) none, not_this n (codes "$date") refl (λ e. some_none e) none, not_this n (codes "$uuid") refl (λ e. some_none e) none) refl

some_same : {A : Type 0} (a b : A) → Some a ≡ Some b → a ≡ b
some_same a b e = cc

-- a quoted name is no other
not_stripped : (n w r : List ℕ) → kit_print.escape w ≡ w → bytes_eq n w ≡ false → bytes_eq w w ≡ true → strip (34 ∷ (w ++ 34 ∷ [])) (34 ∷ (kit_print.escape n ++ 34 ∷ r)) ≡ None
not_stripped n w r plain_word other itself =
    let word : List ℕ = 34 ∷ (w ++ 34 ∷ []) in
    let bytes : List ℕ = 34 ∷ (kit_print.escape n ++ 34 ∷ r) in
    elim (pointwise nat_eq (take (length word) bytes) word) as (λ b. pointwise nat_eq (take (length word) bytes) word ≡ b → cond b (Some (drop (length word) bytes)) None ≡ None) [
      | true ↦ λ e.
          let d = drop (length word) bytes in
          let all : bytes ≡ word ++ d = sym (take-append-drop (length word) bytes) ∙ ap (λ (t : List ℕ). t ++ d) ((bytes_decides (take (length word) bytes) word).0 e) in
          let tails : kit_print.escape n ++ 34 ∷ r ≡ (w ++ 34 ∷ []) ++ d = ap (drop 1) all in
          let both : kit_print.escape n ++ 34 ∷ r ≡ kit_print.escape w ++ 34 ∷ d = tails ∙ append_assoc w (34 ∷ []) d ∙ ap (λ (t : List ℕ). t ++ 34 ∷ d) (sym plain_word) in
          let same : n ≡ w = some_same n w (sym (content-escape n r) ∙ ap (content plain) both ∙ content-escape w d) in
          let f : true ≡ false = sym itself ∙ ap (λ (x : List ℕ). bytes_eq x w) (sym same) ∙ other in
          absurd cc
      | false ↦ λ e. refl
    ] refl

no_wrapper : (n r : List ℕ) → is_named n ≡ false → wrapper_inside (34 ∷ (kit_print.escape n ++ 34 ∷ r)) ≡ None
unfolding kit_print.escape_byte
no_wrapper n r other =
    let a = or_parts (bytes_eq n (codes "$numberDouble")) _ other in
    let b = or_parts (bytes_eq n (codes "$numberDecimal")) _ a.1 in
    let c = or_parts (bytes_eq n (codes "$date")) _ b.1 in
    let inside : List ℕ = 34 ∷ (kit_print.escape n ++ 34 ∷ r) in
    let one : strip (codes "\"$numberDouble\"") inside ≡ None = not_stripped n (codes "$numberDouble") r refl a.0 refl in
    let two : strip (codes "\"$numberDecimal\"") inside ≡ None = not_stripped n (codes "$numberDecimal") r refl b.0 refl in
    let three : strip (codes "\"$date\"") inside ≡ None = not_stripped n (codes "$date") r refl c.0 refl in
    let four : strip (codes "\"$uuid\"") inside ≡ None = not_stripped n (codes "$uuid") r refl c.1 refl in
    let last : Option Wrapper = named of_uuid.0 (codes "\"$uuid\"") inside None in
    let third : Option Wrapper = named of_date.0 (codes "\"$date\"") inside last in
    let second : Option Wrapper = named of_decimal128.0 (codes "\"$numberDecimal\"") inside third in
    ap (λ (o : Option (List ℕ)). option_map_or (λ end. Some (of_double.0, last_string end)) o second) one
    ∙ ap (λ (o : Option (List ℕ)). option_map_or (λ end. Some (of_decimal128.0, last_string end)) o third) two
    ∙ ap (λ (o : Option (List ℕ)). option_map_or (λ end. Some (of_date.0, last_string end)) o last) three
    ∙ ap (λ (o : Option (List ℕ)). option_map_or (λ end. Some (of_uuid.0, last_string end)) o None) four

-- The first member of an object does not begin the wrapper of a value.
abbrev OpensNoValue : Members → Type 0
OpensNoValue no_members = Unit {0}
OpensNoValue (member n x ms) = (is_named n ≡ false) ⊎ ((n ≡ codes "$date") × ((inner : Members) × (x ≡ object inner)))

no_string : (v : Wrapper) (o : List ℕ × List ℕ) (w : Option Wrapper) → w ≡ Some (of_date.0, None) → w ≡ Some (v.0, Some o) → ⊥
no_string v o w e f =
    let same : Some (of_date.0, None) ≡ Some (v.0, Some o) = sym e ∙ f in
    let inner : None ≡ Some o = ap (λ (x : Wrapper). x.1) (some_same {A = Wrapper} (of_date.0, None) (v.0, Some o) same) in
    nothing inner

-- an object whose first name is that of a date, with an object in it
opens_date : (inner ms : Members) (rest : List Chunk)
    → wrapper_at (123 ∷ printed chunk_text false (member_chunks (member (codes "$date") (object inner) ms) ++ rest)) ≡ Some (of_date.0, None)
unfolding printed kit_print.escape_byte
opens_date inner ms rest = refl

opens : (ms : Members) (rest : List Chunk) → OpensNoValue ms → (v : WideValue) (more : List ℕ) → BeginsValue (123 ∷ printed chunk_text false (member_chunks ms ++ rest)) v more → ⊥
unfolding printed
opens no_members rest h v more b = nothing b.2
opens (member n x ms) rest (inl other) v more b =
    let r = printed chunk_text false ((chunks x ++ member_chunks ms) ++ rest) in
    let shape : ((kit_print.escape n ++ 34 ∷ []) ++ 58 ∷ []) ++ r ≡ kit_print.escape n ++ 34 ∷ 58 ∷ r =
    append_assoc (kit_print.escape n ++ 34 ∷ []) (58 ∷ []) r ∙ append_assoc (kit_print.escape n) (34 ∷ []) (58 ∷ r) in
    let none : wrapper_inside (34 ∷ (((kit_print.escape n ++ 34 ∷ []) ++ 58 ∷ []) ++ r)) ≡ None = ap (λ (l : List ℕ). wrapper_inside (34 ∷ l)) shape ∙ no_wrapper n (58 ∷ r) other in
    nothing (sym none ∙ b.2)
opens (member n x ms) rest (inr h) v more b =
    let at : List ℕ → Wide → Option Wrapper = λ m y. wrapper_at (123 ∷ printed chunk_text false (member_chunks (member m y ms) ++ rest)) in
    no_string (b.0, None) (b.1, more) (at n x) (ap₂ at h.0 h.1.1 ∙ opens_date h.1.0 ms rest) b.2

-- ---- what JSON needs

abbrev mutual
  -- Its texts are UTF-8, its numbers are numbers of JSON, and the texts of its values are read as these.
  pub IsGood : Wide → Type 0
  IsGood null = Unit {0}
  IsGood (boolean b) = Unit {0}
  IsGood (number ds) = IsWhole ds × IsNumber ds × IsUtf8 ds
  IsGood (string s) = IsUtf8 s
  IsGood (array xs) = AreGoodElements xs
  IsGood (object ms) = OpensNoValue ms × AreGoodMembers ms
  IsGood (value t n) = IsTextOfNumber t n
  IsGood (dated t z) = IsTextOfValue t (values.Date z) × IsUtf8 (scalar_text (trees.date z))

  AreGoodElements : Elements → Type 0
  AreGoodElements no_elements = Unit {0}
  AreGoodElements (element x xs) = IsGood x × AreGoodElements xs

  AreGoodMembers : Members → Type 0
  AreGoodMembers no_members = Unit {0}
  AreGoodMembers (member n x ms) = IsUtf8 n × IsGood x × AreGoodMembers ms

abbrev AreGood : List Chunk → Type 0
AreGood ks = AreSafe ks × HaveUtf8 ks

mutual
  good_chunks : (x : Wide) (rest : List Chunk) → IsGood x → AreGood rest → AreGood (chunks x ++ rest)
  good_chunks null rest g r = ((tt, r.0), (IsUtf8-are_ascii (token_text Token.null) refl, r.1))
  good_chunks (boolean b) rest g r = ((tt, r.0), (IsUtf8-boolean b, r.1))
  good_chunks (number ds) rest g r = ((g.0, r.0), (g.2, r.1))
  good_chunks (string s) rest g r = ((tt, r.0), (IsUtf8-quoted s g, r.1))
  good_chunks (array xs) rest g r = let more = good_elements xs rest g r in ((tt, more.0), (IsUtf8-are_ascii (91 ∷ []) refl, more.1))
  good_chunks (object ms) rest g r = let more = good_members ms rest g.1 r in ((opens ms rest g.0, more.0), (IsUtf8-are_ascii (123 ∷ []) refl, more.1))
  good_chunks (value t n) rest g r = ((g, r.0), (tt, r.1))
  good_chunks (dated t z) rest g r = ((g.0, r.0), (g.1, r.1))

  good_elements : (xs : Elements) (rest : List Chunk) → AreGoodElements xs → AreGood rest → AreGood (element_chunks xs ++ rest)
  good_elements no_elements rest g r = ((tt, r.0), (IsUtf8-are_ascii (93 ∷ []) refl, r.1))
  good_elements (element x xs) rest g r =
      subst AreGood (sym (append_assoc (chunks x) (element_chunks xs) rest)) (good_chunks x (element_chunks xs ++ rest) g.0 (good_elements xs rest g.1 r))

  good_members : (ms : Members) (rest : List Chunk) → AreGoodMembers ms → AreGood rest → AreGood (member_chunks ms ++ rest)
  good_members no_members rest g r = ((tt, r.0), (IsUtf8-are_ascii (125 ∷ []) refl, r.1))
  good_members (member n x ms) rest g r =
      let more : AreGood ((chunks x ++ member_chunks ms) ++ rest) =
      subst AreGood (sym (append_assoc (chunks x) (member_chunks ms) rest)) (good_chunks x (member_chunks ms ++ rest) g.1 (good_members ms rest g.2 r)) in
      ((tt, more.0), (IsUtf8-key n g.0, more.1))

mutual
  has_numbers : (s : Filler) (x : Wide) → IsGood x → HasNumbers (fill s x)
  has_numbers s null g = tt
  has_numbers s (boolean b) g = tt
  has_numbers s (number ds) g = g.1
  has_numbers s (string t) g = tt
  has_numbers s (array xs) g = have_elements s xs g
  has_numbers s (object ms) g = have_members s ms g.1
  has_numbers whole (value t n) g = a_zero
  has_numbers text (value t n) g = tt
  has_numbers s (dated t z) g = ((tt, tt), tt)

  have_elements : (s : Filler) (xs : Elements) → AreGoodElements xs → ItemsHaveNumbers (fill_elements s xs)
  have_elements s no_elements g = tt
  have_elements s (element x xs) g = (has_numbers s x g.0, have_elements s xs g.1)

  have_members : (s : Filler) (ms : Members) → AreGoodMembers ms → MembersHaveNumbers (fill_members s ms)
  have_members s no_members g = tt
  have_members s (member n x ms) g = (has_numbers s x g.1, have_members s ms g.2)

-- ---- the scalars of nineteen kinds

abbrev one : List ℕ → Wide → Wide
one name x = object (member name x no_members)

abbrev two : List ℕ → Wide → List ℕ → Wide → Wide
two a x b y = object (member a x (member b y no_members))

abbrev long_wide : ℤ → Wide
long_wide z = one (codes "$numberLong") (string (signed_decimal z))

abbrev id_wide : List ℕ → Wide
id_wide id = one (codes "$oid") (string (hex_text id))

-- the JSON of the canonical text of a scalar
abbrev scalar_wide : Scalar → Wide
scalar_wide trees.min_key = one (codes "$minKey") (number (codes "1"))
scalar_wide trees.undefined = one (codes "$undefined") (boolean true)
scalar_wide trees.null = null
scalar_wide (trees.int32 z) = one (codes "$numberInt") (string (signed_decimal z))
scalar_wide (trees.int64 z) = long_wide z
scalar_wide (trees.text s) = string s
scalar_wide (trees.symbol s) = one (codes "$symbol") (string s)
scalar_wide (trees.binary k s) =
    one (codes "$binary") (two (codes "base64") (string (base64_text s)) (codes "subType") (string (hex_text (k ∷ []))))
scalar_wide (trees.object_id id) = id_wide id
scalar_wide (trees.boolean b) = boolean b
scalar_wide (trees.date z) = one (codes "$date") (long_wide z)
scalar_wide (trees.timestamp s i) = one (codes "$timestamp") (two (codes "t") (number (decimal s)) (codes "i") (number (decimal i)))
scalar_wide (trees.regex p o) = one (codes "$regularExpression") (two (codes "pattern") (string p) (codes "options") (string o))
scalar_wide (trees.db_pointer s id) = one (codes "$dbPointer") (two (codes "$ref") (string s) (codes "$id") (id_wide id))
scalar_wide (trees.code s) = one (codes "$code") (string s)
scalar_wide trees.max_key = one (codes "$maxKey") (number (codes "1"))

scalar-text : (s : Scalar) → text_of (scalar_wide s) ≡ scalar_text s
unfolding scalar_text
scalar-text trees.min_key = refl
scalar-text _ = refl

scalar-fill : (f : Filler) (s : Scalar) → fill f (scalar_wide s) ≡ scalar_json s
scalar-fill f trees.min_key = refl
scalar-fill f _ = refl

scalar-numbers : (s : Scalar) → chunk_numbers (chunks (scalar_wide s)) ≡ []
scalar-numbers trees.min_key = refl
scalar-numbers _ = refl

scalar-shallow : (s : Scalar) → kit_tree.depth (scalar_json s) ≤ 3
scalar-shallow trees.min_key = omega arith
scalar-shallow _ = omega arith

table_ascii : (t : List ℕ) → are_ascii t ≡ true → IsAscii t
table_ascii [] e = IsAscii-nil
table_ascii (b ∷ t) e = let p = and_parts (nat_lt b 128) (are_ascii t) e in IsAscii-cons b t (ltb-true b 128 p.0) (table_ascii t p.1)

utf8-hex_text : (bs : List ℕ) → IsUtf8 (hex_text bs)
unfolding hex_text
utf8-hex_text bs = IsUtf8-from_ascii (encode_with lower_digits bs) (IsAscii-encode_with lower_digits bs (table_ascii lower_digits refl))

utf8-base64_text : (bs : List ℕ) → IsUtf8 (base64_text bs)
unfolding base64_text
utf8-base64_text bs = IsUtf8-from_ascii (encode_of standard bs) (IsAscii-encode_of standard bs)

utf8-signed : (z : ℤ) → mag z < 2 ^ 63 → IsUtf8 (signed_decimal z)
utf8-signed z small = IsUtf8-from_ascii (signed_decimal z) (IsAscii-signed z small)

digit_of_number : (c : ℕ) → 48 ≤ c → c ≤ 57 → is_ascii_digit c ≡ true
digit_of_number c low high = rw (le-leb 48 c low, le-leb c 57 high) refl

digits_whole : (ds : List ℕ) → AllDigits 10 ds → IsWhole ds
digits_whole [] all = (refl, refl)
digits_whole (d ∷ ds) all =
    let r = digit_from_value d all.0 in
    let more = digits_whole ds all.1 in
    (rw (digit_of_number d r.0 r.1) more.0, rw (ne_eqb d 46 (λ e. omega arith), ne_eqb d 69 (λ e. omega arith), ne_eqb d 101 (λ e. omega arith)) more.1)

good_word : (n : ℕ) → n < 2 ^ 32 → IsGood (number (decimal n))
good_word n small =
    (digits_whole (decimal n) (decimal_is_IsNumeral n (omega arith)).0.1, IsNumber-decimal n (omega arith), IsUtf8-from_ascii (decimal n) (IsAscii-decimal n (omega arith)))

good_one : IsGood (number (codes "1"))
unfolding after_number
good_one = ((refl, refl), refl, IsUtf8-are_ascii (codes "1") refl)

wrapper_good : (n : List ℕ) (x : Wide) → are_ascii n ≡ true → is_named n ≡ false → IsGood x → IsGood (one n x)
wrapper_good n x ascii other g = (inl other, (IsUtf8-are_ascii n ascii, g, tt))

two_good : (a b : List ℕ) (x y : Wide) → are_ascii a ≡ true → are_ascii b ≡ true → is_named a ≡ false → IsGood x → IsGood y → IsGood (two a x b y)
two_good a b x y first second other g h = (inl other, (IsUtf8-are_ascii a first, g, (IsUtf8-are_ascii b second, h, tt)))

good_id : (id : List ℕ) → IsGood (id_wide id)
good_id id = wrapper_good (codes "$oid") (string (hex_text id)) refl refl (utf8-hex_text id)

good_long : (z : ℤ) → mag z < 2 ^ 63 → IsGood (long_wide z)
good_long z small = wrapper_good (codes "$numberLong") (string (signed_decimal z)) refl refl (utf8-signed z small)

scalar-good : (s : Scalar) → ScalarFits IsUtf8 s → IsGood (scalar_wide s)
scalar-good trees.min_key fits = wrapper_good (codes "$minKey") (number (codes "1")) refl refl good_one
scalar-good trees.undefined fits = wrapper_good (codes "$undefined") (boolean true) refl refl tt
scalar-good trees.null fits = tt
scalar-good (trees.int32 z) fits = wrapper_good (codes "$numberInt") (string (signed_decimal z)) refl refl (utf8-signed z (fits_32 z fits))
scalar-good (trees.int64 z) fits = good_long z (fits_64 z fits)
scalar-good (trees.text s) fits = fits
scalar-good (trees.symbol s) fits = wrapper_good (codes "$symbol") (string s) refl refl fits
scalar-good (trees.binary k s) fits =
    wrapper_good (codes "$binary") (two (codes "base64") (string (base64_text s)) (codes "subType") (string (hex_text (k ∷ [])))) refl refl
    (two_good (codes "base64") (codes "subType") (string (base64_text s)) (string (hex_text (k ∷ []))) refl refl refl (utf8-base64_text s) (utf8-hex_text (k ∷ [])))
scalar-good (trees.object_id id) fits = good_id id
scalar-good (trees.boolean b) fits = tt
scalar-good (trees.date z) fits =
    (inr (refl, (member (codes "$numberLong") (string (signed_decimal z)) no_members, refl)), (IsUtf8-are_ascii (codes "$date") refl, good_long z (fits_64 z fits), tt))
scalar-good (trees.timestamp s i) fits =
    wrapper_good (codes "$timestamp") (two (codes "t") (number (decimal s)) (codes "i") (number (decimal i))) refl refl
    (two_good (codes "t") (codes "i") (number (decimal s)) (number (decimal i)) refl refl refl (good_word s fits.0) (good_word i fits.1))
scalar-good (trees.regex p o) fits =
    wrapper_good (codes "$regularExpression") (two (codes "pattern") (string p) (codes "options") (string o)) refl refl
    (two_good (codes "pattern") (codes "options") (string p) (string o) refl refl refl fits.0 fits.1)
scalar-good (trees.db_pointer s id) fits =
    wrapper_good (codes "$dbPointer") (two (codes "$ref") (string s) (codes "$id") (id_wide id)) refl refl
    (two_good (codes "$ref") (codes "$id") (string s) (id_wide id) refl refl refl fits.0 (good_id id))
scalar-good (trees.code s) fits = wrapper_good (codes "$code") (string s) refl refl fits
scalar-good trees.max_key fits = wrapper_good (codes "$maxKey") (number (codes "1")) refl refl good_one

-- ---- a value

-- The text is JSON that is read, with other values for its numbers, as two values; the value with the numbers is this one.
pub record IsReadAs (n : ℕ) (t : Tree) (source : List ℕ) : Type 0 where
  pub json : Wide
  pub text_is : text_of json ≡ source
  pub good : IsGood json
  pub others : Filler → Tree
  pub back : (s : Filler) → wrap n (fill s json) ≡ Some (others s)
  pub shallow : (s : Filler) → kit_tree.depth (fill s json) ≤ n + 3
  pub filled : (after : List Number) → IsFilled t (others whole) (others text) (chunk_numbers (chunks json) ++ after) after

kind_read : (n : ℕ) (s : Scalar) (source : List ℕ) → IsKindPrinted s source → IsReadAs n (leaf s) source
kind_read n s source k = record {
  json = scalar_wide k.scalar;
  text_is = scalar-text k.scalar ∙ sym k.written;
  good = scalar-good k.scalar k.fits;
  others = λ f. leaf k.scalar;
  back = λ f. ap (wrap n) (scalar-fill f k.scalar) ∙ scalar_back k.scalar n (fits_types (leaf k.scalar) k.fits) k.no_zero;
  shallow = λ f. omega (arith, ap kit_tree.depth (scalar-fill f k.scalar), scalar-shallow k.scalar);
  filled = λ after. inl (record { scalar = k.scalar; is = k.is; in_whole = refl; in_text = refl; none = ap (λ (l : List Number). l ++ after) (scalar-numbers k.scalar) });
}

-- the value that a number becomes
abbrev filler_tree : Filler → Tree
filler_tree whole = leaf (trees.int32 (pos 0))
filler_tree text = leaf (trees.text [])

filler_back : (n : ℕ) (f : Filler) (t : List ℕ) (x : Number) → wrap n (fill f (value t x)) ≡ Some (filler_tree f)
unfolding numerals.whole
filler_back n whole t x = refl
filler_back n text t x = refl

filler_shallow : (n : ℕ) (f : Filler) (t : List ℕ) (x : Number) → kit_tree.depth (fill f (value t x)) ≤ n + 3
filler_shallow n whole t x = omega arith
filler_shallow n text t x = omega arith

number_read : (n : ℕ) (s : Scalar) (source : List ℕ) → IsNumberPrinted s source → IsReadAs n (leaf s) source
number_read n s source k = record {
  json = value source k.number;
  text_is = refl;
  good = k.begins;
  others = filler_tree;
  back = λ f. filler_back n f source k.number;
  shallow = λ f. filler_shallow n f source k.number;
  filled = λ after. inr (record { number = k.number; is = k.is; in_whole = refl; in_text = refl; taken = refl });
}

-- whole numbers without a wrapper

signed_whole : (z : ℤ) → mag z < 2 ^ 63 → IsWhole (signed_decimal z)
signed_whole (pos n) small = digits_whole (decimal n) (decimal_is_IsNumeral n (omega arith)).0.1
signed_whole (negsuc n) small = digits_whole (decimal (suc n)) (decimal_is_IsNumeral (suc n) (omega arith)).0.1

whole_read : (n : ℕ) (s : Scalar) (source : List ℕ) → IsWholePrinted s source → IsReadAs n (leaf s) source
whole_read n s source k =
    let small = fits_64 k.number k.fits in
    record {
      json = number (signed_decimal k.number);
      text_is = sym k.written;
      good = (signed_whole k.number small, IsNumber-signed_decimal k.number small, utf8-signed k.number small);
      others = λ f. leaf (bare k.number);
      back = λ f. ap bare_number (whole_64-signed k.number k.fits);
      shallow = λ f. omega arith;
      filled = λ after. inl (record { scalar = bare k.number; is = k.is; in_whole = refl; in_text = refl; none = refl });
    }

-- dates

date_read : (n : ℕ) (s : Scalar) (source : List ℕ) → IsDatePrinted s source → IsReadAs n (leaf s) source
date_read n s source k = record {
  json = dated source k.time;
  text_is = refl;
  good = (k.begins, date-utf8 k.time (utf8-signed k.time (fits_64 k.time k.fits)));
  others = λ f. leaf (trees.date k.time);
  back = λ f. scalar_back (trees.date k.time) n (fits_types (leaf (trees.date k.time)) k.fits) refl;
  shallow = λ f. omega (arith, scalar-shallow (trees.date k.time));
  filled = λ after. inl (record { scalar = trees.date k.time; is = k.is; in_whole = refl; in_text = refl; none = refl });
}

-- ---- values that contain values

-- The first name is not a wrapper's.
abbrev FirstIsPlain : Members → Type 0
FirstIsPlain no_members = Unit {0}
FirstIsPlain (member n x ms) = wrapper_of n ≡ None

opens_none : (ms : Members) → FirstIsPlain ms → OpensNoValue ms
opens_none no_members h = tt
opens_none (member n x ms) h = inl (not_named n h)

-- The same for the members of fields.
record AreRead (n : ℕ) (fs : Fields) (sources : List (List ℕ)) : Type 0 where
  members : Members
  texts_are : member_texts members ≡ sources
  good : AreGoodMembers members
  first : IsPlainFirst fs → FirstIsPlain members
  others : Filler → Fields
  back : (s : Filler) → wrap_fields n (fill_members s members) ≡ Some (others s)
  shallow : (s : Filler) → kit_tree.members_depth (fill_members s members) ≤ n + 3
  filled : (after : List Number) → AreFilled fs (others whole) (others text) (chunk_numbers (member_chunks members) ++ after) after

-- The same for the elements of an array.
record ItemsAreRead (n : ℕ) (ts : Items) (sources : List (List ℕ)) : Type 0 where
  elements : Elements
  texts_are : element_texts elements ≡ sources
  good : AreGoodElements elements
  others : Filler → Items
  back : (s : Filler) → wrap_items n (fill_elements s elements) ≡ Some (others s)
  shallow : (s : Filler) → kit_tree.items_depth (fill_elements s elements) ≤ n + 3
  filled : (after : List Number) → AreItemsFilled ts (others whole) (others text) (chunk_numbers (element_chunks elements) ++ after) after

numbers-append : (ks ls : List Chunk) → chunk_numbers (ks ++ ls) ≡ chunk_numbers ks ++ chunk_numbers ls
numbers-append [] ls = refl
numbers-append (token t ∷ ks) ls = numbers-append ks ls
numbers-append (valued t n ∷ ks) ls = ap (λ (l : List Number). n ∷ l) (numbers-append ks ls)
numbers-append (instant t z ∷ ks) ls = numbers-append ks ls

numbers_between : (ks ls : List Chunk) (after : List Number) → chunk_numbers (ks ++ ls) ++ after ≡ chunk_numbers ks ++ (chunk_numbers ls ++ after)
numbers_between ks ls after = ap (λ (l : List Number). l ++ after) (numbers-append ks ls) ∙ append_assoc (chunk_numbers ks) (chunk_numbers ls) after

object_back : (n : ℕ) (s : Filler) (ms : Members) (fs : Fields) → FirstIsPlain ms → wrap_fields n (fill_members s ms) ≡ Some fs → wrap (suc n) (fill s (object ms)) ≡ Some (doc fs)
object_back n s no_members fs first h = ap (option_map doc) h
object_back n s (member k x ms) fs first h =
    let less : suc n - 1 ≡ n = omega arith in
    rw first (ap (option_map doc) (ap (λ (m : ℕ). wrap_fields m (fill_members s (member k x ms))) less ∙ h))

array_back : (n : ℕ) (s : Filler) (xs : Elements) (ts : Items) → wrap_items n (fill_elements s xs) ≡ Some ts → wrap (suc n) (fill s (array xs)) ≡ Some (trees.array ts)
array_back n s xs ts h =
    let less : suc n - 1 ≡ n = omega arith in
    ap (option_map trees.array) (ap (λ (m : ℕ). wrap_items m (fill_elements s xs)) less ∙ h)

scope_back : (n : ℕ) (f : Filler) (s : List ℕ) (ms : Members) (fs : Fields) → FirstIsPlain ms → wrap_fields n (fill_members f ms) ≡ Some fs
    → wrap (suc (suc n)) (fill f (two (codes "$code") (string s) (codes "$scope") (object ms))) ≡ Some (code_scope s fs)
unfolding wrapper_of
scope_back n f s ms fs first h =
    let less : suc (suc n) - 1 ≡ suc n = omega arith in
    ap (with_scope (Some s)) (ap (λ (m : ℕ). wrap m (fill f (object ms))) less ∙ object_back n f ms fs first h)

doc_read : (n : ℕ) (fs : Fields) (members : List (List ℕ)) (source : List ℕ) → IsPlainFirst fs → AreRead n fs members → source ≡ texts.object members → IsReadAs (suc n) (doc fs) source
doc_read n fs members source first r is = record {
  json = object r.members;
  text_is = ap texts.object r.texts_are ∙ sym is;
  good = (opens_none r.members (r.first first), r.good);
  others = λ s. doc (r.others s);
  back = λ s. object_back n s r.members (r.others s) (r.first first) (r.back s);
  shallow = λ s. omega (arith, r.shallow s);
  filled = λ after. (r.others whole, r.others text, refl, refl, r.filled after);
}

array_read : (n : ℕ) (ts : Items) (values : List (List ℕ)) (source : List ℕ) → ItemsAreRead n ts values → source ≡ texts.listed values → IsReadAs (suc n) (trees.array ts) source
array_read n ts values source r is = record {
  json = array r.elements;
  text_is = ap texts.listed r.texts_are ∙ sym is;
  good = r.good;
  others = λ s. trees.array (r.others s);
  back = λ s. array_back n s r.elements (r.others s) (r.back s);
  shallow = λ s. omega (arith, r.shallow s);
  filled = λ after. (r.others whole, r.others text, refl, refl, r.filled after);
}

scope_read : (n : ℕ) (s : List ℕ) (fs : Fields) (members : List (List ℕ)) (source : List ℕ) → IsUtf8 s → IsPlainFirst fs → AreRead n fs members
    → source ≡ texts.object (texts.member (codes "$code") (texts.quoted s) ∷ texts.member (codes "$scope") (texts.object members) ∷ []) → IsReadAs (suc (suc n)) (code_scope s fs) source
scope_read n s fs members source utf8 first r is =
    let inner : Wide = object r.members in
    let numbers : (after : List Number) → chunk_numbers (member_chunks r.members ++ token Token.end_object ∷ []) ++ after ≡ chunk_numbers (member_chunks r.members) ++ after =
    λ after. numbers_between (member_chunks r.members) (token Token.end_object ∷ []) after in
    record {
      json = two (codes "$code") (string s) (codes "$scope") inner;
      text_is =
          ap (λ (l : List (List ℕ)). texts.object (texts.member (codes "$code") (texts.quoted s) ∷ texts.member (codes "$scope") (texts.object l) ∷ [])) r.texts_are ∙ sym is;
      good = two_good (codes "$code") (codes "$scope") (string s) inner refl refl refl utf8 (opens_none r.members (r.first first), r.good);
      others = λ f. code_scope s (r.others f);
      back = λ f. scope_back n f s r.members (r.others f) (r.first first) (r.back f);
      shallow = λ f. omega (arith, r.shallow f);
      filled = λ after. (
        r.others whole,
        r.others text,
        refl,
        refl,
        subst (λ (before : List Number). AreFilled fs (r.others whole) (r.others text) before after) (sym (numbers after)) (r.filled after),
      );
    }

field_read : (n : ℕ) (name : List ℕ) (t : Tree) (fs : Fields) (source : List ℕ) (others sources : List (List ℕ)) → IsUtf8 name → has_zero name ≡ false → IsReadAs n t source → AreRead n fs others
    → sources ≡ texts.member name source ∷ others → AreRead n (field name t fs) sources
field_read n name t fs source others sources utf8 none x r is =
    let between : List Number → List Number = λ after. chunk_numbers (member_chunks r.members) ++ after in
    record {
      members = member name x.json r.members;
      texts_are = ap₂ (λ (a : List ℕ) (l : List (List ℕ)). texts.member name a ∷ l) x.text_is r.texts_are ∙ sym is;
      good = (utf8, x.good, r.good);
      first = λ plain. plain;
      others = λ s. field name (x.others s) (r.others s);
      back = λ s. ap₂ (add_field name) (x.back s) (r.back s) ∙ rw none refl;
      shallow = λ s. omega (arith, x.shallow s, r.shallow s);
      filled = λ after. (
        x.others whole,
        x.others text,
        r.others whole,
        r.others text,
        between after,
        refl,
        refl,
        subst (λ (before : List Number). IsFilled t (x.others whole) (x.others text) before (between after)) (sym (numbers_between (chunks x.json) (member_chunks r.members) after)) (x.filled (between after)),
        r.filled after,
      );
    }

item_read : (n : ℕ) (t : Tree) (ts : Items) (source : List ℕ) (others sources : List (List ℕ)) → IsReadAs n t source → ItemsAreRead n ts others → sources ≡ source ∷ others
    → ItemsAreRead n (item t ts) sources
item_read n t ts source others sources x r is =
    let between : List Number → List Number = λ after. chunk_numbers (element_chunks r.elements) ++ after in
    record {
      elements = element x.json r.elements;
      texts_are = ap₂ (λ (a : List ℕ) (l : List (List ℕ)). a ∷ l) x.text_is r.texts_are ∙ sym is;
      good = (x.good, r.good);
      others = λ s. item (x.others s) (r.others s);
      back = λ s. ap₂ add_item (x.back s) (r.back s);
      shallow = λ s. omega (arith, x.shallow s, r.shallow s);
      filled = λ after. (
        x.others whole,
        x.others text,
        r.others whole,
        r.others text,
        between after,
        refl,
        refl,
        subst (λ (before : List Number). IsFilled t (x.others whole) (x.others text) before (between after)) (sym (numbers_between (chunks x.json) (element_chunks r.elements) after)) (x.filled (between after)),
        r.filled after,
      );
    }

mutual
  pub tree_read : (n : ℕ) (t : Tree) (source : List ℕ) → IsPrinted n t source → IsReadAs n t source
  tree_read n (leaf s) source (inl k) = kind_read n s source k
  tree_read n (leaf s) source (inr (inl k)) = number_read n s source k
  tree_read n (leaf s) source (inr (inr (inl k))) = whole_read n s source k
  tree_read n (leaf s) source (inr (inr (inr k))) = date_read n s source k
  tree_read zero (doc fs) source h = absurd h
  tree_read (suc n) (doc fs) source h = doc_read n fs h.1 source h.0 (fields_read n fs h.1 h.2) h.3
  tree_read zero (trees.array ts) source h = absurd h
  tree_read (suc n) (trees.array ts) source h = array_read n ts h.0 source (items_read n ts h.0 h.1) h.2
  tree_read zero (code_scope s fs) source h = absurd h
  tree_read (suc zero) (code_scope s fs) source h = absurd h
  tree_read (suc (suc n)) (code_scope s fs) source h = scope_read n s fs h.2 source h.0 h.1 (fields_read n fs h.2 h.3) h.4

  fields_read : (n : ℕ) (fs : Fields) (sources : List (List ℕ)) → AreFieldsPrinted n fs sources → AreRead n fs sources
  fields_read n no_fields sources h = record {
    members = no_members;
    texts_are = sym h;
    good = tt;
    first = λ plain. tt;
    others = λ s. no_fields;
    back = λ s. refl;
    shallow = λ s. omega arith;
    filled = λ after. (refl, refl, refl);
  }
  fields_read n (field name t fs) sources h = field_read n name t fs h.0 h.1 sources h.2 h.3 (tree_read n t h.0 h.4) (fields_read n fs h.1 h.5) h.6

  items_read : (n : ℕ) (ts : Items) (sources : List (List ℕ)) → AreItemsPrinted n ts sources → ItemsAreRead n ts sources
  items_read n no_items sources h = record {
    elements = no_elements;
    texts_are = sym h;
    good = tt;
    others = λ s. no_items;
    back = λ s. refl;
    shallow = λ s. omega arith;
    filled = λ after. (refl, refl, refl);
  }
  items_read n (item t ts) sources h = item_read n t ts h.0 h.1 sources (tree_read n t h.0 h.2) (items_read n ts h.1 h.3) h.4

-- ---- a document

module _ (source : List ℕ) (t : Tree) (r : IsReadAs most_levels t source) where
  all_good : AreGood (chunks r.json)
  all_good = subst AreGood (append-nil (chunks r.json)) (good_chunks r.json [] r.good (tt, tt))

  divided : InPieces (printed chunk_text false (chunks r.json)) (λ s. printed (filled_text s) false (chunks r.json)) (chunk_numbers (chunks r.json))
  divided = in_pieces false (chunks r.json) all_good.0

  json_there : (s : Filler) → json (printed (filled_text s) false (chunks r.json)) ≡ Some (fill s r.json)
  json_there s =
      let j = fill s r.json in
      let printable = subst ArePrintable (sym (filled-tokens s r.json)) (ArePrintable-json_tokens j (has_numbers s r.json r.good)) in
      let tokens_are = tokens-filled s (chunks r.json) printable ∙ filled-tokens s r.json ∙ sym (append-nil (json_tokens j)) in
      json_is (printed (filled_text s) false (chunks r.json)) (is_utf8-from_IsUtf8 (printed (filled_text s) false (chunks r.json)) (printed-utf8 s false (chunks r.json) all_good.1))
      ∙ ap (option_and_then (λ p. if_last p.0 p.1)) (ap (kit.value most_brackets) tokens_are ∙ value-json_tokens j most_brackets [] (omega (arith, r.shallow s)))

  reads_back : (s : Filler) (fs : Fields) → r.others s ≡ doc fs → document_of (printed (filled_text s) false (chunks r.json)) ≡ Ok (pairs_of fs)
  reads_back s fs is =
      ap (λ (o : Option Doc). ok_or o (text_fault (printed (filled_text s) false (chunks r.json))))
      (ap (λ o. option_map pairs_of (option_and_then document (option_and_then (wrap most_levels) o))) (json_there s)
      ∙ ap (λ o. option_map pairs_of (option_and_then document o)) (r.back s ∙ ap Some is))

  pub read_from : (w u : Fields) → r.others whole ≡ doc w → r.others text ≡ doc u → IsRead source (pairs_of w) (pairs_of u) (chunk_numbers (chunks r.json))
  read_from w u e f = record {
    pieces = divided.pieces;
    are = subst (λ (x : List ℕ). ArePieces x divided.pieces) (whole-text r.json ∙ r.text_is) divided.are;
    documents = ap₂ both (ap document_of (divided.become whole) ∙ reads_back whole w e) (ap document_of (divided.become text) ∙ reads_back text u f);
    all = sym divided.all;
  }
