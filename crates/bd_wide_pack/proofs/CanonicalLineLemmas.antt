-- Canonical text of documents of all types, read from its start and packed.
use Rattle.std.proofs.Common.{◌≡◌, ◌<◌, ◌≤◌, ◌+◌, ◌-◌, ℕ, zero, suc, List, [], ◌∷◌, ◌++◌, length, length-append, append_assoc, append-nil, refl, sym, ap, ap₂, ◌∙◌, ◌==◌, arith, decimal, inl, inr, subst}
use Rattle.std.proofs.Common.{true, false, true≢false, ◌≢◌, None, Some}
use Rattle.std.proofs.lemmas.Str.{IsUtf8-from_ascii}
use Rattle.std.specs.Prelude.{codes, IsUtf8}
use Rattle.std.specs.List.{AllByRecursion, list_any}
use Rattle.std.proofs.{lemmas.Bool.or_from, lemmas.Bool.or_parts, lemmas.Bool.Decides.nat_tests}
use Rattle.bd_value.specs.{Limits.longest_document, Limits.most_levels, View.kind_of}
use Rattle.bd_value.specs.Fits.{ScalarFits, has_zero, zero_in_scalar}
use Rattle.bd_value.specs.Tree as trees
use Rattle.bd_value.specs.Tree.{Scalar, Tree, Doc, Items, Fields, no_items, item, no_fields, field, leaf, doc, array, code_scope, fields_of, items_of}
use Rattle.bd_bson_view.specs.Unique.{number_length}
use Rattle.bd_bson_view.specs.Spelling.{IsScalar, as_double, as_decimal128, element, framed, long, number, scalar_bytes, string, type_byte, written_typed}
use Rattle.bd_bson_write.specs.TreeBytes.{bytes_of}
use Rattle.bd_bson_write.proofs.WritingLemmas.{element_size, plainly_spells}
use Rattle.bd_extjson.specs.Laws.{IsPlainFirst}
use Rattle.bd_extjson_text.specs.Text.{escaped, member, needs_escape, object, quoted, scalar_text, text}
use Rattle.bd_extjson_wrapper.specs.Wrapper.{wrapper_of}
use Rattle.bd_extjson_pack.specs.Canonical.{IsCanonical}
use Rattle.bd_extjson_pack.specs.Packable.{plain}
use Rattle.bd_wide_number.specs.declared.number.Number.{Number}
use Rattle.bd_wide_number.specs.declared.number.Number.TheVariants.{Whole, Double, Decimal128}
use Rattle.bd_wide_substitute.specs.declared.wrapped.WideValue.TheVariants as values
use Rattle.bd_wide_substitute.specs.Substitutes as substitutes
use Rattle.bd_wide_substitute.specs.Substitutes.{IsBefore}
use Rattle.bd_wide_pack.specs.Filled.{kept, numeric}
use Rattle.bd_wide_pack.specs.WideLine.{IsPacked}
use Rattle.bd_wide_pack.specs.Written.{AreFieldsWritten, AreItemsWritten, IsWritten}
use Rattle.bd_wide_pack.specs.inside.CanonicalLine.{AreFieldLines, AreItemLines, IsLine, number_bytes}
use Rattle.bd_wide_pack.specs.inside.Printed.{AreFieldsPrinted, AreItemsPrinted, IsPrinted, IsTextOfNumber}
use Rattle.bd_wide_pack.proofs.MixLemmas.{kept_value}
use Rattle.bd_wide_pack.proofs.SameValuesLemmas.{printed_packed}

-- ---- one more

-- A name of a field that is read.
abbrev IsFieldName : List ℕ → Type 0
IsFieldName name = IsUtf8 name × (has_zero name ≡ false) × (wrapper_of name ≡ None)

-- an element: its type byte, its name ended by a zero, its value
abbrev pub typed : ℕ → List ℕ → List ℕ → List ℕ
typed type name bytes = type ∷ (name ++ 0 ∷ bytes)

pub one_more_field : (n : ℕ) (ps : Doc) (name : List ℕ) (t : Tree) (members : List (List ℕ)) (body text : List ℕ) (type : ℕ) (bytes : List ℕ) → AreFieldLines n (fields_of ps) members body
    → IsFieldName name → IsLine n t text type bytes → AreFieldLines n (fields_of (ps ++ (name, t) ∷ [])) (members ++ member name text ∷ []) (body ++ typed type name bytes)
one_more_field n [] name t members body text type bytes are named line =
    (text, type, bytes, [], [], named, line, (refl, refl), ap (λ (m : List (List ℕ)). m ++ member name text ∷ []) are.0, ap (λ (b : List ℕ). b ++ typed type name bytes) are.1 ∙ sym (append-nil (typed type name bytes)))
one_more_field n (p ∷ ps) name t members body text type bytes are named line =
    let more = one_more_field n ps name t are.3 are.4 text type bytes are.7 named line in
    let put = typed type name bytes in (
      are.0,
      are.1,
      are.2,
      are.3 ++ member name text ∷ [],
      are.4 ++ put,
      are.5,
      are.6,
      more,
      ap (λ (m : List (List ℕ)). m ++ member name text ∷ []) are.8,
      ap (λ (b : List ℕ). b ++ put) are.9 ∙ append_assoc (typed are.1 p.0 are.2) are.4 put,
    )

more_items : (n index : ℕ) (ts : List Tree) (t : Tree) (values : List (List ℕ)) (body text : List ℕ) (type : ℕ) (bytes : List ℕ) → AreItemLines n index (items_of ts) values body
    → IsLine n t text type bytes → AreItemLines n index (items_of (ts ++ t ∷ [])) (values ++ text ∷ []) (body ++ typed type (decimal (index + length ts)) bytes)
more_items n index [] t values body text type bytes are line =
    let here : index + 0 ≡ index = omega arith in
    let put = typed type (decimal index) bytes in
    (text, type, bytes, [], [], line, (refl, refl), ap (λ (v : List (List ℕ)). v ++ text ∷ []) are.0, ap₂ (λ (b : List ℕ) (k : ℕ). b ++ typed type (decimal k) bytes) are.1 here ∙ sym (append-nil put))
more_items n index (s ∷ ts) t values body text type bytes are line =
    let next : suc index + length ts ≡ index + suc (length ts) = omega arith in
    let put = typed type (decimal (index + suc (length ts))) bytes in
    let more = more_items n (suc index) ts t are.3 are.4 text type bytes are.6 line in (
      are.0,
      are.1,
      are.2,
      are.3 ++ text ∷ [],
      are.4 ++ put,
      are.5,
      rw (← next) more,
      ap (λ (v : List (List ℕ)). v ++ text ∷ []) are.7,
      ap (λ (b : List ℕ). b ++ put) are.8 ∙ append_assoc (typed are.1 (decimal index) are.2) are.4 put,
    )

pub one_more_item : (n : ℕ) (ts : List Tree) (t : Tree) (values : List (List ℕ)) (body text : List ℕ) (type : ℕ) (bytes : List ℕ) → AreItemLines n 0 (items_of ts) values body
    → IsLine n t text type bytes → AreItemLines n 0 (items_of (ts ++ t ∷ [])) (values ++ text ∷ []) (body ++ typed type (decimal (length ts)) bytes)
one_more_item n ts t values body text type bytes are line =
    let here : 0 + length ts ≡ length ts = omega arith in
    rw (← here) (more_items n 0 ts t values body text type bytes are line)

pub member_of : (at value name text rest : List ℕ) → at ≡ quoted name ++ (58 ∷ value) → value ≡ text ++ rest → at ≡ member name text ++ rest
member_of at value name text rest a b = rw (a, b) (simp append_assoc)

-- ---- elements

-- an element whose type was put before its name, once its value was appended
pub element_put : (old begun valued ended : List ℕ) (at type first : ℕ) (name bytes : List ℕ) → at ≡ length old → begun ≡ old ++ (first ∷ (name ++ 0 ∷ []))
    → valued ≡ begun ++ bytes
    → ((before : List ℕ) (byte : ℕ) (after : List ℕ) → valued ≡ before ++ (byte ∷ after) → at ≡ length before → ended ≡ before ++ (type ∷ after))
    → ended ≡ old ++ typed type name bytes
element_put old begun valued ended at type first name bytes here begins value puts =
    let all : valued ≡ old ++ (first ∷ (name ++ (0 ∷ bytes))) = value ∙ rw begins (simp append_assoc) in
    puts old first (name ++ (0 ∷ bytes)) all here

-- the byte for the type of such an element is among the bytes
pub element_inside : (old begun valued : List ℕ) (at first : ℕ) (name bytes : List ℕ) → at ≡ length old → begun ≡ old ++ (first ∷ (name ++ 0 ∷ []))
    → valued ≡ begun ++ bytes → at < length valued
element_inside old begun valued at first name bytes here begins value =
    omega (arith, here, ap (λ (x : List ℕ). length x) begins, ap (λ (x : List ℕ). length x) value, length-append old (first ∷ (name ++ 0 ∷ [])), length-append begun bytes)

-- ---- values

-- a value that contains none, on any level
pub more_depth_left : (n : ℕ) (t : Tree) (text : List ℕ) (type : ℕ) (bytes : List ℕ) → IsLine 0 t text type bytes → IsLine n t text type bytes
more_depth_left n (leaf s) text type bytes line = line
more_depth_left n (doc fs) text type bytes line = absurd line
more_depth_left n (array ts) text type bytes line = absurd line
more_depth_left n (code_scope s fs) text type bytes line = absurd line

-- a value of the nineteen kinds that contains none
pub kind_line : (t : Tree) (type : ℕ) → IsCanonical 0 t → type ≡ type_byte (kind_of t) → (u : Tree) × IsLine 0 u (text t) type (bytes_of t)
kind_line (leaf s) type c e =
    (leaf (kept s), inl (record { printed = record { scalar = s; is = refl; fits = c.fits; no_zero = c.no_zero; written = refl }; typed = e; spelled = refl }))
kind_line (doc fs) type c e = absurd (omega (arith, c.shallow))
kind_line (array ts) type c e = absurd (omega (arith, c.shallow))
kind_line (code_scope s fs) type c e = absurd (omega (arith, c.shallow))

-- a text
pub text_line : (s : List ℕ) (type : ℕ) → IsUtf8 s → type ≡ 2 → IsLine 0 (leaf (trees.text s)) (quoted s) type (string s)
unfolding scalar_text
text_line s type utf8 e =
    inl (record { printed = record { scalar = trees.text s; is = refl; fits = utf8; no_zero = refl; written = refl }; typed = e; spelled = refl })

-- a number
pub number_line : (x : Number) (value : List ℕ) (type : ℕ) (bytes : List ℕ) → IsTextOfNumber value x → number_bytes x ≡ type ∷ bytes → IsLine 0 (leaf (numeric x)) value type bytes
number_line x value type bytes begins spelled = inr (record { printed = record { number = x; is = refl; begins = begins }; spelled = spelled })

apart : (word contents rest : List ℕ) → word ++ (34 ∷ ((contents ++ 34 ∷ []) ++ (125 ∷ rest))) ≡ ((word ++ 34 ∷ []) ++ (contents ++ (34 ∷ 125 ∷ []))) ++ rest
apart word contents rest = simp append_assoc

-- a wrapper of a string without escapes
pub wrapper_read : (word name whole inside contents after rest : List ℕ) → name ≡ word ++ 34 ∷ [] → whole ≡ word ++ inside → inside ≡ quoted contents ++ after
    → escaped contents ≡ contents → after ≡ 125 ∷ rest → whole ≡ (name ++ (contents ++ codes "\"}")) ++ rest
unfolding quoted
wrapper_read word name whole inside contents after rest is a b none c = rw (is, a, b, c, none) (apart word contents rest)

-- contents without escapes have no quotation mark
pub unquoted : (xs : List ℕ) → list_any needs_escape xs ≡ false → list_any (λ c. c == 34) xs ≡ false
unquoted [] e = refl
unquoted (x ∷ xs) e =
    let both = or_parts (needs_escape x) (list_any needs_escape xs) e in
    let other : (x == 34) ≡ false = grind (arith, nat_tests, both.0) in
    rw other (unquoted xs both.1)

-- ---- a text is not empty

kind_some : (s : trees.Scalar) → 0 < length (scalar_text s)
unfolding scalar_text quoted
kind_some (trees.boolean true) = omega arith
kind_some (trees.boolean false) = omega arith
kind_some _ = omega arith

number_some : (x : Number) (written : List ℕ) → IsTextOfNumber written x → 0 < length written
number_some x [] begins = go (begins [] refl)
  where
    go : IsBefore (substitutes.value [] (values.Number x)) [] → 0 < 0
    go (inl b) = let e : None ≡ Some (b.0, Some (b.1, [])) = b.2 in absurd cc
    go (inr b) = let e : false ≡ true = b.0.2.0 in absurd cc
number_some x (c ∷ written) begins = omega arith

some_text : (n : ℕ) (t : Tree) (text : List ℕ) (type : ℕ) (bytes : List ℕ) → IsLine n t text type bytes → 0 < length text
some_text n (leaf s) text type bytes (inl k) = rw k.printed.written (kind_some k.printed.scalar)
some_text n (leaf s) text type bytes (inr d) = number_some d.printed.number text d.printed.begins
some_text (suc n) (doc fs) text type bytes line = rw line.3 (omega arith)
some_text (suc n) (array ts) text type bytes line = rw line.3 (omega arith)
some_text zero (doc fs) text type bytes line = absurd line
some_text zero (array ts) text type bytes line = absurd line
some_text zero (code_scope s fs) text type bytes line = absurd line
some_text (suc n) (code_scope s fs) text type bytes line = absurd line

pub shorter : (n : ℕ) (t : Tree) (text : List ℕ) (type : ℕ) (bytes whole rest : List ℕ) → IsLine n t text type bytes → whole ≡ text ++ rest → length rest < length whole
shorter n t text type bytes whole rest line is = omega (arith, some_text n t text type bytes line, ap (λ (x : List ℕ). length x) is, length-append text rest)

-- ---- the texts

first_plain : (n : ℕ) (fs : Fields) (members : List (List ℕ)) (body : List ℕ) → AreFieldLines n fs members body → IsPlainFirst fs
first_plain n no_fields members body line = tt
first_plain n (field name t fs) members body line = line.5.2

mutual
  line_printed : (n : ℕ) (t : Tree) (text : List ℕ) (type : ℕ) (bytes : List ℕ) → IsLine n t text type bytes → IsPrinted n t text
  line_printed n (leaf s) text type bytes (inl k) = inl k.printed
  line_printed n (leaf s) text type bytes (inr d) = inr (inl d.printed)
  line_printed (suc n) (doc fs) text type bytes line = (first_plain n fs line.0 line.1 line.2, line.0, fields_printed n fs line.0 line.1 line.2, line.3)
  line_printed (suc n) (array ts) text type bytes line = (line.0, items_printed n 0 ts line.0 line.1 line.2, line.3)
  line_printed zero (doc fs) text type bytes line = absurd line
  line_printed zero (array ts) text type bytes line = absurd line
  line_printed zero (code_scope s fs) text type bytes line = absurd line
  line_printed (suc n) (code_scope s fs) text type bytes line = absurd line

  fields_printed : (n : ℕ) (fs : Fields) (members : List (List ℕ)) (body : List ℕ) → AreFieldLines n fs members body → AreFieldsPrinted n fs members
  fields_printed n no_fields members body line = line.0
  fields_printed n (field name t fs) members body line =
      (line.0, line.3, line.5.0, line.5.1, line_printed n t line.0 line.1 line.2 line.6, fields_printed n fs line.3 line.4 line.7, line.8)

  items_printed : (n index : ℕ) (ts : Items) (values : List (List ℕ)) (body : List ℕ) → AreItemLines n index ts values body → AreItemsPrinted n ts values
  items_printed n index no_items values body line = line.0
  items_printed n index (item t ts) values body line =
      (line.0, line.3, line_printed n t line.0 line.1 line.2 line.5, items_printed n (suc index) ts line.3 line.4 line.6, line.7)

-- ---- the bytes

framed_length : (body : List ℕ) → length (framed body) ≡ length body + 5
framed_length body = omega (arith, length-append (number (length body + 5)) (body ++ 0 ∷ []), number_length (length body + 5), length-append body (0 ∷ []))

-- a scalar that fits is spelled by its bytes, if these are few
scalar_spelled : (s : Scalar) → ScalarFits IsUtf8 s → zero_in_scalar s ≡ false → length (scalar_bytes s) + 7 ≤ longest_document → IsScalar s (scalar_bytes s)
scalar_spelled s fits none short =
    let d : Doc = ([], leaf s) ∷ [] in
    let size : length (plain d) ≡ length (scalar_bytes s) + 7 =
    omega (arith, framed_length (element (leaf s) [] (scalar_bytes s) ++ []), element_size (leaf s) [] (scalar_bytes s), length-append (element (leaf s) [] (scalar_bytes s)) []) in
    let all = plainly_spells d (plain d) (IsUtf8-from_ascii [] (λ i. omega arith), (fits, tt)) (record {
      spelled = refl;
      no_zero = or_from (zero_in_scalar s) false none refl;
      short = omega (arith, size, short);
      shallow = omega arith;
    }) in
    let value = all.spells.1.3 in
    (value.0, refl)

no_zeros : (bytes : List ℕ) → has_zero bytes ≡ false → AllByRecursion (λ b. b ≢ 0) bytes
no_zeros [] is = tt
no_zeros (b ∷ bytes) is =
    let n = or_parts (b == 0) (has_zero bytes) is in
    ((λ e. true≢false (sym (ap (λ x. x == 0) e) ∙ n.0)), no_zeros bytes n.1)

-- What is written for a value is these bytes after its type byte and its name.
abbrev IsWrittenAs : Tree → ℕ → List ℕ → Type 0
IsWrittenAs t type bytes = (v : List ℕ) × IsWritten t v × ((name : List ℕ) → written_typed t name v ≡ typed type name bytes)

kind_written : (s k : Scalar) (type : ℕ) (bytes : List ℕ) → s ≡ kept k → IsScalar k (scalar_bytes k) → type ≡ type_byte (kind_of (leaf k)) → bytes ≡ scalar_bytes k → IsWrittenAs (leaf s) type bytes
kind_written s k type bytes is spells e put =
    let v = kept_value k (scalar_bytes k) spells in
    let one : IsWrittenAs (leaf (kept k)) type bytes = (v.value, v.spells, λ name. v.whole name ∙ ap₂ (λ (b : ℕ) (xs : List ℕ). typed b name xs) (sym e) (sym put)) in
    subst (λ (x : Scalar). IsWrittenAs (leaf x) type bytes) (sym is) one

number_written : (x : Number) (type : ℕ) (bytes : List ℕ) → number_bytes x ≡ type ∷ bytes → IsWrittenAs (leaf (numeric x)) type bytes
unfolding long
number_written (Double bits) type bytes is =
    (1 ∷ long bits, record { kind = as_double; value = long bits; typed = refl; sized = refl; is_worth = refl }, λ name. ap (λ (e : List ℕ). written_typed (leaf (numeric (Double bits))) name e) is)
number_written (Decimal128 low high) type bytes is =
    (19 ∷ (long low ++ long high), record { kind = as_decimal128; value = long low ++ long high; typed = refl; sized = refl; is_worth = refl }, λ name. ap (λ (e : List ℕ). written_typed (leaf (numeric (Decimal128 low high))) name e) is)
number_written (Whole z) type bytes is = absurd cc

mutual
  line_written : (n : ℕ) (t : Tree) (text : List ℕ) (type : ℕ) (bytes : List ℕ) → IsLine n t text type bytes → length bytes + 7 ≤ longest_document → IsWrittenAs t type bytes
  line_written n (leaf s) text type bytes (inl k) short =
      let p = k.printed in
      kind_written s p.scalar type bytes p.is (scalar_spelled p.scalar p.fits p.no_zero (omega (arith, short, ap (λ (x : List ℕ). length x) k.spelled))) k.typed k.spelled
  line_written n (leaf s) text type bytes (inr d) short =
      subst (λ (x : Scalar). IsWrittenAs (leaf x) type bytes) (sym d.printed.is) (number_written d.printed.number type bytes d.spelled)
  line_written (suc n) (doc fs) text type bytes line short =
      let size : length line.1 + 5 ≤ longest_document = omega (arith, short, ap (λ (x : List ℕ). length x) line.5, framed_length line.1) in
      (framed line.1, (line.1, fields_written n fs line.0 line.1 line.2 size, refl), λ name. ap₂ (λ (b : ℕ) (xs : List ℕ). typed b name xs) (sym line.4) (sym line.5))
  line_written (suc n) (array ts) text type bytes line short =
      let size : length line.1 + 5 ≤ longest_document = omega (arith, short, ap (λ (x : List ℕ). length x) line.5, framed_length line.1) in
      (framed line.1, (line.1, items_written n 0 ts line.0 line.1 line.2 size, refl), λ name. ap₂ (λ (b : ℕ) (xs : List ℕ). typed b name xs) (sym line.4) (sym line.5))
  line_written zero (doc fs) text type bytes line short = absurd line
  line_written zero (array ts) text type bytes line short = absurd line
  line_written zero (code_scope s fs) text type bytes line short = absurd line
  line_written (suc n) (code_scope s fs) text type bytes line short = absurd line

  fields_written : (n : ℕ) (fs : Fields) (members : List (List ℕ)) (body : List ℕ) → AreFieldLines n fs members body → length body + 5 ≤ longest_document → AreFieldsWritten fs body
  fields_written n no_fields members body line short = line.1
  fields_written n (field name t fs) members body line short =
      let size : length body ≡ (2 + (length name + length line.2)) + length line.4 =
      omega (arith, ap (λ (x : List ℕ). length x) line.9, length-append (typed line.1 name line.2) line.4, length-append name (0 ∷ line.2)) in
      let v = line_written n t line.0 line.1 line.2 line.6 (omega (arith, size, short)) in
      (v.0, line.4, (line.5.0, no_zeros name line.5.1), v.1, fields_written n fs line.3 line.4 line.7 (omega (arith, size, short)), line.9 ∙ ap (λ (e : List ℕ). e ++ line.4) (sym (v.2 name)))

  items_written : (n index : ℕ) (ts : Items) (values : List (List ℕ)) (body : List ℕ) → AreItemLines n index ts values body → length body + 5 ≤ longest_document → AreItemsWritten index ts body
  items_written n index no_items values body line short = line.1
  items_written n index (item t ts) values body line short =
      let size : length body ≡ (2 + (length (decimal index) + length line.2)) + length line.4 =
      omega (arith, ap (λ (x : List ℕ). length x) line.8, length-append (typed line.1 (decimal index) line.2) line.4, length-append (decimal index) (0 ∷ line.2)) in
      let v = line_written n t line.0 line.1 line.2 line.5 (omega (arith, size, short)) in
      (v.0, line.4, v.1, items_written n (suc index) ts line.3 line.4 line.6 (omega (arith, size, short)), line.8 ∙ ap (λ (e : List ℕ). e ++ line.4) (sym (v.2 (decimal index))))

-- ---- a whole line

pub packs : (line rest old new : List ℕ) (body : List ℕ) (d : Doc) (members : List (List ℕ)) → line ≡ object members ++ rest → length rest ≡ 0
    → AreFieldLines (most_levels - 1) (fields_of d) members body → length old ≡ 0 → new ≡ old ++ framed body → length new ≤ longest_document → IsPacked line new
packs line [] [] new body d members is none are empty put short =
    let fs = fields_of d in
    let whole : line ≡ object members = is ∙ append-nil (object members) in
    let size : length body + 5 ≤ longest_document = omega (arith, short, ap (λ (x : List ℕ). length x) put, framed_length body) in
    let printed : IsPrinted most_levels (doc fs) line = (first_plain (most_levels - 1) fs members body are, members, fields_printed (most_levels - 1) fs members body are, whole) in
    printed_packed fs new line printed (body, fields_written (most_levels - 1) fs members body are size, put) short
packs line rest (x ∷ old) new body d members is none are empty put short = absurd (omega (arith, empty))
packs line (x ∷ rest) old new body d members is none are empty put short = absurd (omega (arith, none))
