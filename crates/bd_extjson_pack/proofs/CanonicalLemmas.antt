-- Canonical text, read from its start.
use Rattle.std.proofs.Common.{◌-◌, ◌≡◌, ◌<◌, ◌≤◌, ℕ, suc, ℤ, List, [], ◌∷◌, ◌++◌, eqb, get_or, Bor, length, take, drop, Bool, true, false, cond, Option, Some, None, refl}
use Rattle.std.proofs.Common.{sym, ap, ap₂, ◌∙◌, arith, append_assoc, append-nil, length-append, take-append-drop, Result, Ok, Err, zero, ◌^◌, pos, neg_ℤ, decimal}
use Rattle.std.proofs.Common.{inl, inr, ◌+◌, ◌*◌, add-one}
use Rattle.std.specs.Prelude.{codes, ◌||◌, ◌&&◌, ◌==◌, ◌/◌, ◌%◌, nat_lt, slice_index, slice_range, IfSome, IfOk, IsUtf8, OnOk}
use Rattle.std.specs.{List.list_any, List.join_with_byte, List.prefix_len, Char.digit_char, Char.is_ascii_digit, Str.bytes_eq}
use Rattle.std.specs.{Fmt.signed_decimal, Result.result_ok, Result.is_err, Str.Parse.digits_value, Str.Parse.AllDigits}
use Rattle.core.proofs.dec2flt.Rows.{AllDigits-digits_len, short_fits}
use Rattle.base64.specs.{Engines.standard, GeneralPurpose.encode_of}
use Rattle.bd_value.specs.{Limits.longest_document, Limits.most_levels, Tree.fields_depth, Tree.items_depth}
use Rattle.bd_value.specs.Fits.{has_zero, zero_in_scalar, zero_in, zero_in_fields, zero_in_items}
use Rattle.bd_value.specs.Fits.{ScalarFits, FieldsFit, ItemsFit, IsId}
use Rattle.bd_value.specs.Tree as trees
use Rattle.bd_value.specs.View.{kind_of}
use Rattle.bd_value.specs.declared.node.Kind.{Kind}
use Rattle.bd_value.specs.Tree.{Scalar, Tree, leaf, doc, array, code_scope, Items, Fields, item, field, Doc, fields_of, items_of}
use Rattle.bd_bson_write.specs.TreeBytes.{bytes_of}
use Rattle.std.specs.Result.{result_ok}
use Rattle.bd_extjson_wrapper.specs.Wrapper.{wrapper_of}
use Rattle.bd_extjson.specs.{Laws.IsPlainFirst, Laws.ArePlainFields, Laws.ArePlainItems, Read.ReadsAs}
use Rattle.bd_extjson_text.specs.Text.{needs_escape, escape_byte, escaped, quoted, hex_text, base64_text, scalar_text, member, text, items_text, fields_text}
use Rattle.std.proofs.lemmas.Option.{MatchOption-at_some}
use Rattle.std.proofs.{lemmas.Bool.or_parts, lemmas.Bool.or_from, lemmas.Bool.cases_lt}
use Rattle.std.proofs.lemmas.List.{take_at, take-take, take_all, length-drop}
use Rattle.std.proofs.Math.Seq.{take-add, take-append-add, take-suc}
use Rattle.std.proofs.lemmas.List.Folds.{list_any-append}
use Rattle.std.proofs.lemmas.Str.{IsUtf8-append, IsUtf8-from_ascii}
use Rattle.std.proofs.{lemmas.Bool.Decides.nat_tests, lemmas.Grind.flat_map-append}
use Rattle.std.proofs.{lemmas.List.length-take-le, lemmas.List.get_or-take}
use Rattle.std.proofs.{lemmas.Fmt.decimal-digits_value, lemmas.Fmt.decimal_is_IsNumeral, lemmas.Slice.Eq.bytes_eq-Decides}
use Rattle.bd_extjson_text.proofs.JsonStringLemmas.{escaped-plain, escaped-digits, IsQuiet}
use Rattle.bd_extjson.proofs.ReadBackLemmas.{document_back}
use Rattle.bd_extjson_pack.specs.Packable.{plain, IsPackable}
use Rattle.bd_extjson_pack.specs.declared.canonical_line.TheConstants.{MEANT}
use Rattle.bd_extjson_pack.specs.Canonical.{IsCanonical}
use Rattle.bd_extjson_pack.specs.inside.Packable.{AreCanonical, AreCanonicalFields}
use Rattle.hex.specs.{Hex.encode_lower, Hex.decode_sized, declared.FromHexError.FromHexError}
use Rattle.hex.proofs.HexLemmas.{decode_of-ok, decode_sized-ok, decode_sized-twice}
use Rattle.bd_extjson_wrapper.proofs.WholeNumberLemmas.{digits_model}

-- ---- strings

no_zero : (s : List ℕ) → list_any needs_escape s ≡ false → has_zero s ≡ false
no_zero [] e = refl
no_zero (b ∷ s) e =
    let both = or_parts (needs_escape b) (list_any needs_escape s) e in
    let other : (b == 0) ≡ false = grind (arith, nat_tests, both.0) in
    rw other (no_zero s both.1)

-- a string is read: the first quotation mark, bytes without escapes, the last quotation mark
pub string_read : (whole after inside last rest : List ℕ) (n : ℕ) → whole ≡ 34 ∷ after → inside ≡ take n after → last ≡ drop n after → last ≡ 34 ∷ rest → list_any needs_escape (take n after) ≡ false
    → (whole ≡ quoted inside ++ rest) × (has_zero inside ≡ false) × (escaped inside ≡ inside) × (list_any needs_escape inside ≡ false)
unfolding quoted
string_read whole after inside last rest n begins is remaining ends none =
    let plain : list_any needs_escape inside ≡ false = rw is none in
    let all : after ≡ inside ++ (34 ∷ rest) = sym (take-append-drop n after) ∙ rw (← is, ← remaining, ends) refl in
    (rw (begins, all, escaped-plain inside plain, append_assoc inside (34 ∷ []) rest) refl, no_zero inside plain, escaped-plain inside plain, plain)

-- the name of a field with its quotation marks, and the text that begins with it
pub name_read : (whole name rest value label : List ℕ) → whole ≡ quoted name ++ rest → escaped name ≡ name → rest ≡ 58 ∷ value → label ≡ take (length name + 2) whole
    → (label ≡ 34 ∷ (name ++ 34 ∷ [])) × (whole ≡ quoted name ++ (58 ∷ value))
unfolding quoted
name_read whole name rest value label is plain colon prefix =
    let size : length (34 ∷ (name ++ 34 ∷ [])) ≡ length name + 2 = omega (arith, length-append name (34 ∷ [])) in
    let all : whole ≡ (34 ∷ (name ++ 34 ∷ [])) ++ rest = rw plain at is in
    (prefix ∙ ap (take (length name + 2)) all ∙ take_at (34 ∷ (name ++ 34 ∷ [])) rest (length name + 2) size, is ∙ ap (λ x. quoted name ++ x) colon)

-- ---- lists of texts

abbrev pub led : List (List ℕ) → List ℕ
led [] = []
led (x ∷ xs) = x ++ (44 ∷ led xs)

pub led_one_more : (xs : List (List ℕ)) (x : List ℕ) → led (xs ++ x ∷ []) ≡ led xs ++ (x ++ 44 ∷ [])
led_one_more [] x = refl
led_one_more (y ∷ xs) x = ap (λ l. y ++ (44 ∷ l)) (led_one_more xs x) ∙ sym (append_assoc y (44 ∷ led xs) (x ++ 44 ∷ []))

pub joined_end : (xs : List (List ℕ)) (x : List ℕ) → join_with_byte 44 (xs ++ x ∷ []) ≡ led xs ++ x
joined_end [] x = refl
joined_end (y ∷ []) x = sym (append_assoc y (44 ∷ []) x)
joined_end (y ∷ z ∷ xs) x = ap (λ l. y ++ (44 ∷ l)) (joined_end (z ∷ xs) x) ∙ sym (append_assoc y (44 ∷ led (z ∷ xs)) x)

-- ---- trees

pub more_depth_left : (few depth_left : ℕ) (t : Tree) → few ≤ depth_left → IsCanonical few t → IsCanonical depth_left t
more_depth_left few depth_left t le c = record { fits = c.fits; determined = c.determined; no_zero = c.no_zero; shallow = omega (arith, le, c.shallow) }

-- the four facts, for lists of elements and of pairs
abbrev AreItems : ℕ → Items → Type 0
AreItems depth_left ts = ItemsFit IsUtf8 ts × ArePlainItems ts × (zero_in_items ts ≡ false) × (items_depth ts ≤ depth_left)

abbrev AreFields : ℕ → Fields → Type 0
AreFields depth_left fs = FieldsFit IsUtf8 fs × ArePlainFields fs × (zero_in_fields fs ≡ false) × (fields_depth fs ≤ depth_left)

items_known : (depth_left : ℕ) (ts : List Tree) → AreCanonical depth_left ts → AreItems depth_left (items_of ts)
items_known depth_left [] a = (tt, tt, refl, omega arith)
items_known depth_left (t ∷ ts) a =
    let c = a.0 in
    let r = items_known depth_left ts a.1 in
    ((c.fits, r.0), (c.determined, r.1), or_from (zero_in t) (zero_in_items (items_of ts)) c.no_zero r.2, omega (arith, c.shallow, r.3))

pub array_known : (depth_left : ℕ) (ts : List Tree) → AreCanonical depth_left ts → IsCanonical (suc depth_left) (array (items_of ts))
array_known depth_left ts a =
    let r = items_known depth_left ts a in
    record { fits = r.0; determined = r.1; no_zero = r.2; shallow = omega (arith, r.3) }

fields_known : (depth_left : ℕ) (d : Doc) → AreCanonicalFields depth_left d → AreFields depth_left (fields_of d)
fields_known depth_left [] a = (tt, tt, refl, omega arith)
fields_known depth_left (p ∷ ps) a =
    let c = a.1 in
    let r = fields_known depth_left ps a.2 in
    let others = or_from (zero_in p.1) (zero_in_fields (fields_of ps)) c.no_zero r.2 in
    let zero = or_from (has_zero p.0) (zero_in p.1 || zero_in_fields (fields_of ps)) a.0.1 others in
    ((a.0.0, (c.fits, r.0)), (c.determined, r.1), zero, omega (arith, c.shallow, r.3))

first_plain : (depth_left : ℕ) (d : Doc) → AreCanonicalFields depth_left d → IsPlainFirst (fields_of d)
first_plain depth_left [] a = tt
first_plain depth_left (p ∷ ps) a = a.0.2

pub doc_known : (depth_left : ℕ) (d : Doc) → AreCanonicalFields depth_left d → IsCanonical (suc depth_left) (doc (fields_of d))
doc_known depth_left d a =
    let r = fields_known depth_left d a in
    record { fits = r.0; determined = (first_plain depth_left d a, r.1); no_zero = r.2; shallow = omega (arith, r.3) }

pub reads_canonical : (line rest : List ℕ) (d : Doc) → line ≡ text (doc (fields_of d)) ++ rest → length rest ≡ 0 → AreCanonicalFields (most_levels - 1) d → ReadsAs line d
reads_canonical line [] d is none a =
    let c = doc_known (most_levels - 1) d a in
    let whole : line ≡ text (doc (fields_of d)) = is ∙ append-nil (text (doc (fields_of d))) in
    rw whole (document_back d c.fits c.determined c.no_zero c.shallow)
reads_canonical line (x ∷ rest) d is none a = absurd cc

-- ---- one more

pub one_more_canonical : (depth_left : ℕ) (ts : List Tree) (t : Tree) → AreCanonical depth_left ts → IsCanonical depth_left t → AreCanonical depth_left (ts ++ t ∷ [])
one_more_canonical depth_left [] t a c = (c, tt)
one_more_canonical depth_left (s ∷ ts) t a c = (a.0, one_more_canonical depth_left ts t a.1 c)

abbrev pub IsName : List ℕ → Type 0
IsName name = IsUtf8 name × (has_zero name ≡ false) × (wrapper_of name ≡ None)

pub one_more_canonical_field : (depth_left : ℕ) (ps : Doc) (name : List ℕ) (t : Tree) → AreCanonicalFields depth_left ps → IsName name → IsCanonical depth_left t → AreCanonicalFields depth_left (ps ++ (name, t) ∷ [])
one_more_canonical_field depth_left [] name t a n c = (n, c, tt)
one_more_canonical_field depth_left (p ∷ ps) name t a n c = (a.0, a.1, one_more_canonical_field depth_left ps name t a.2 n c)

pub texts_end : (ts : List Tree) (t : Tree) → items_text (items_of (ts ++ t ∷ [])) ≡ items_text (items_of ts) ++ text t ∷ []
texts_end [] t = refl
texts_end (s ∷ ts) t = ap (λ l. text s ∷ l) (texts_end ts t)

pub members_end : (ps : Doc) (name : List ℕ) (t : Tree) → fields_text (fields_of (ps ++ (name, t) ∷ [])) ≡ fields_text (fields_of ps) ++ member name (text t) ∷ []
members_end [] name t = refl
members_end (p ∷ ps) name t = ap (λ l. member p.0 (text p.1) ∷ l) (members_end ps name t)

-- The text that was read, up to where the next piece begins, or to where the last one ends.
abbrev pub IsReadTo : ℕ → List ℕ → List (List ℕ) → List ℕ → Option (Bor (List ℕ)) → Type 0
IsReadTo bracket whole pieces rest None = whole ≡ bracket ∷ (join_with_byte 44 pieces ++ rest)
IsReadTo bracket whole pieces rest (Some at) = whole ≡ bracket ∷ (led pieces ++ at.now)

-- one more piece, and the comma after it, if there is one
pub goes_on : (bracket : ℕ) (whole : List ℕ) (pieces : List (List ℕ)) (piece at rest : List ℕ) (next : Option (Bor (List ℕ)))
    → whole ≡ bracket ∷ (led pieces ++ at) → at ≡ piece ++ rest → IfSome next (λ n. rest ≡ 44 ∷ n.now)
    → IsReadTo bracket whole (pieces ++ piece ∷ []) rest next
goes_on bracket whole pieces piece at rest None is read none = rw (is, read, joined_end pieces piece) (simp append_assoc)
goes_on bracket whole pieces piece at rest (Some n) is read comma = rw (is, read, comma, led_one_more pieces piece) (simp append_assoc)

-- the bracket after the last piece
pub ended_at : (bracket last : ℕ) (whole : List ℕ) (pieces : List (List ℕ)) (old rest : List ℕ) → whole ≡ bracket ∷ (join_with_byte 44 pieces ++ old) → old ≡ last ∷ rest
    → whole ≡ bracket ∷ ((join_with_byte 44 pieces ++ last ∷ []) ++ rest)
ended_at bracket last whole pieces old rest read e = rw (read, e) (simp append_assoc)

-- what follows a comma is shorter
pub within_rest : (rest : List ℕ) (next : Option (Bor (List ℕ))) → IfSome next (λ n. rest ≡ 44 ∷ n.now) → IfSome next (λ n. length n.now ≤ length rest)
within_rest rest None comma = tt
within_rest rest (Some n) comma = omega (arith, ap (λ x. length x) comma)

pub member_read : (at value name : List ℕ) (t : Tree) (rest : List ℕ) → at ≡ quoted name ++ (58 ∷ value) → value ≡ text t ++ rest → at ≡ member name (text t) ++ rest
member_read at value name t rest a b = rw (a, b) (simp append_assoc)

-- ---- names

-- the name of each wrapper begins with a dollar sign
pub no_wrapper : (name : List ℕ) → eqb (get_or name 0 0) 36 ≡ false → wrapper_of name ≡ None
unfolding wrapper_of
no_wrapper [] p = refl
no_wrapper (c ∷ cs) p = rw p refl

-- ---- scalars

-- a wrapper in three pieces
pub wrapped : (prefix value back whole text inside after rest : List ℕ) → text ≡ prefix ++ inside → inside ≡ value ++ after → after ≡ back ++ rest
    → whole ≡ prefix ++ (value ++ back) → text ≡ whole ++ rest
wrapped prefix value back whole text inside after rest a b c spelled = rw (a, b, c, spelled) (simp append_assoc)

-- a wrapper of a number is the canonical text of that number, whatever follows
pub number_read : (make : ℤ → Scalar) (prefix back text inside after rest : List ℕ) (z y : ℤ) → text ≡ prefix ++ inside → inside ≡ quoted (signed_decimal z) ++ after → after ≡ back ++ rest → z ≡ y
    → scalar_text (make z) ≡ prefix ++ (quoted (signed_decimal z) ++ back) → text ≡ scalar_text (make y) ++ rest
number_read make prefix back text inside after rest z y a b c same spelled = rw (← same) (wrapped prefix (quoted (signed_decimal z)) back (scalar_text (make z)) text inside after rest a b c spelled)

nested : (a b c d e : List ℕ) → ((a ++ (b ++ c)) ++ d) ++ e ≡ a ++ (b ++ (c ++ (d ++ e)))
nested a b c d e = simp append_assoc

pub binary_text : (payload : List ℕ) (subtype : ℕ)
    → scalar_text (trees.binary subtype payload) ≡ codes "{\"$binary\":{\"base64\":" ++ (quoted (encode_of standard payload)
    ++ (codes ",\"subType\":" ++ (quoted (hex_text (subtype ∷ [])) ++ codes "}}")))
unfolding scalar_text base64_text quoted escape_byte
binary_text payload subtype =
    ap (λ x. codes "{\"$binary\":{\"base64\":" ++ x)
    (nested (quoted (encode_of standard payload)) (codes ",\"subType\":") (quoted (hex_text (subtype ∷ []))) (125 ∷ []) (125 ∷ []))

-- a scalar that fits is read back from its canonical text
pub leaf_canonical : (s : Scalar) → ScalarFits IsUtf8 s → zero_in_scalar s ≡ false → IsCanonical 0 (leaf s)
leaf_canonical s fits none = record { fits = fits; determined = tt; no_zero = none; shallow = omega arith }

-- ---- a text is not empty

some_text : (s : Scalar) → 0 < length (scalar_text s)
unfolding scalar_text quoted
some_text (trees.boolean true) = omega arith
some_text (trees.boolean false) = omega arith
some_text _ = omega arith

some_tree_text : (t : Tree) → 0 < length (text t)
some_tree_text (leaf s) = some_text s
some_tree_text (doc fs) = omega arith
some_tree_text (array ts) = omega arith
some_tree_text (code_scope s fs) = omega arith

pub shorter : (t : Tree) (whole rest : List ℕ) → whole ≡ text t ++ rest → length rest < length whole
shorter t whole rest is = omega (arith, some_tree_text t, ap (λ x. length x) is, length-append (text t) rest)

-- ---- a value that was read

-- the scalar that was read, and the one that was written
pub scalar_value : (whole rest old new : List ℕ) (kind : Kind) (s given : Scalar) → given ≡ s → whole ≡ text (leaf s) ++ rest → ScalarFits IsUtf8 s → zero_in_scalar s ≡ false
    → kind ≡ kind_of (leaf s) → new ≡ old ++ bytes_of (leaf given) → (t : Tree) × (whole ≡ text t ++ rest) × IsCanonical 0 t × (kind ≡ kind_of t) × (new ≡ old ++ bytes_of t)
scalar_value whole rest old new kind s given same is fits none of put = (leaf s, is, leaf_canonical s fits none, of, rw (← same) put)

-- a JSON string is the text of a text
pub text_read : (whole rest s : List ℕ) → whole ≡ quoted s ++ rest → whole ≡ text (leaf (trees.text s)) ++ rest
unfolding scalar_text
text_read whole rest s is = is

pub packs_canonical : (line rest new old : List ℕ) (d : Doc) → line ≡ text (doc (fields_of d)) ++ rest → AreCanonicalFields (most_levels - 1) d
    → length new ≤ longest_document → new ≡ old ++ plain d → length rest ≡ 0 → (d : Doc) × IsPackable line d × (new ≡ old ++ plain d)
packs_canonical line rest new old d is known short put none =
    (d, (reads_canonical line rest d is none known, omega (arith, short, ap (λ x. length x) put, length-append old (plain d))), put)

-- ---- what is read, or refused

-- What holds of a value that was read holds of the result with that value.
pub when_read : {X E : Type 0} (o : Option X) (r : Result X E) {P Q : X → Type 0} → o ≡ result_ok r → IfSome o P → ((x : X) → P x → Q x) → IfOk r Q
when_read o (Ok x) {P} e p f = f x (MatchOption-at_some _ P x e p)
when_read o (Err d) e p f = tt

-- ---- bytes before the first that needs an escape

none_any : (p : ℕ → Bool) (xs : List ℕ) → ((k : ℕ) → k < length xs → p (get_or xs k 0) ≡ false) → list_any p xs ≡ false
none_any p [] quiet = refl
none_any p (x ∷ xs) quiet = rw (quiet 0 (omega arith)) (none_any p xs (λ k lt. quiet (suc k) (omega arith)))

-- among bytes that each need no escape, none needs one
pub quiet_prefix : (text bytes : List ℕ) (n : ℕ) → bytes ≡ text → n ≤ length bytes → IsQuiet bytes n → list_any needs_escape (take n text) ≡ false
quiet_prefix text bytes n same le quiet =
    let long = length-take-le n bytes le in
    rw (← same) (none_any needs_escape (take n bytes) (λ k lt. ap needs_escape (get_or-take n bytes k 0 (omega (arith, long))) ∙ quiet k (omega (arith, long))))

-- ---- strings with escapes

-- a run that needs no escape, and the byte after it, with which the rest begins
pub run_read : (text rest run : List ℕ) (n : ℕ) → n < length text → list_any needs_escape (take n text) ≡ false → run ≡ take n text → rest ≡ drop n text
    → (last : ℕ) × (text ≡ escaped run ++ rest) × (take (n + 1) text ≡ run ++ last ∷ [])
run_read text rest run n inside plain prefix remaining = (
  get_or text n 0,
  rw (prefix, remaining, escaped-plain (take n text) plain) (sym (take-append-drop n text)),
  ap (λ k. take k text) (add-one n) ∙ take-suc text n 0 inside ∙ ap (λ x. x ++ get_or text n 0 ∷ []) (sym prefix),
)

-- the next bytes of the rest
module _ (bytes old out : List ℕ) (p : ℕ) (within : p ≤ length bytes) (copied : out ≡ old ++ take p bytes) where
  rest_is : take (length bytes - p) (drop p bytes) ≡ drop p bytes
  rest_is = take_all (length bytes - p) (drop p bytes) (omega (arith, length-drop p bytes))

  module _ (part : List ℕ) (size n : ℕ) (is : part ≡ take size (take (length bytes - p) (drop p bytes))) (enough : size ≤ length (take (length bytes - p) (drop p bytes))) (few : n ≤ size) where
    pub part_long : length part ≡ size
    part_long = ap (λ (l : List ℕ). length l) is ∙ length-take-le size (take (length bytes - p) (drop p bytes)) enough

    prefix_of_part : take n part ≡ take n (drop p bytes)
    prefix_of_part = ap (take n) is ∙ take-take n size (take (length bytes - p) (drop p bytes)) few ∙ ap (take n) rest_is

    pub part_within : p + size ≤ length bytes
    part_within = omega (arith, within, enough, ap (λ (l : List ℕ). length l) rest_is, length-drop p bytes)

    -- more bytes that need no escape
    pub more_plain : list_any needs_escape (take p bytes) ≡ false → ((k : ℕ) → k < n → needs_escape (get_or part k 0) ≡ false) → list_any needs_escape (take (p + n) bytes) ≡ false
    more_plain before quiet =
        rw (take-add p n bytes, list_any-append needs_escape (take p bytes) (take n (drop p bytes)), before, ← prefix_of_part) (quiet_prefix part part n refl (omega (arith, few, part_long)) quiet)

    -- and copied bytes
    pub more_copied : (new : List ℕ) → new ≡ out ++ take n part → new ≡ old ++ take (p + n) bytes
    more_copied new put = rw (put, copied, prefix_of_part, take-add p n bytes) (append_assoc old (take p bytes) (take n (drop p bytes)))

    -- a part is copied whole, and its end dropped again
    pub copied_back : (new : List ℕ) → new ≡ take (length old + (p + n)) (out ++ part) → new ≡ old ++ take (p + n) bytes
    copied_back new put =
        let long : length out ≡ length old + p = omega (arith, ap (λ (l : List ℕ). length l) copied, length-append old (take p bytes), length-take-le p bytes within) in
        let at : length old + (p + n) ≡ length out + n = omega arith in
        more_copied new (put ∙ ap (λ k. take k (out ++ part)) at ∙ take-append-add out part n)

-- Each byte of a table is 0, or has the escape of its letter. The first is of this letter.
has_escapes : ℕ → List ℕ → Bool
has_escapes letter [] = true
has_escapes letter (byte ∷ bytes) = (byte == 0 || (bytes_eq (escape_byte byte) (92 ∷ letter ∷ []) && nat_lt byte 128)) && has_escapes (suc letter) bytes

entry : (letter byte : ℕ) (more : Bool) → ((byte == 0 || (bytes_eq (escape_byte byte) (92 ∷ letter ∷ []) && nat_lt byte 128)) && more) ≡ true → (byte ≡ 0 → ⊥)
    → (escape_byte byte ≡ 92 ∷ letter ∷ []) × (byte < 128) × (more ≡ true)
entry letter byte more all some = go (byte == 0) (bytes_eq (escape_byte byte) (92 ∷ letter ∷ [])) (nat_lt byte 128) more refl refl refl all
  where
    go : (z e l m : Bool) → (byte == 0) ≡ z → bytes_eq (escape_byte byte) (92 ∷ letter ∷ []) ≡ e → nat_lt byte 128 ≡ l → ((z || (e && l)) && m) ≡ true
        → (escape_byte byte ≡ 92 ∷ letter ∷ []) × (byte < 128) × (m ≡ true)
    go true e l m is same low all = absurd (some (grind (arith, nat_tests, is)))
    go false true true m is same low all = ((bytes_eq-Decides (escape_byte byte) (92 ∷ letter ∷ [])).0 same, grind (arith, nat_tests, low), all)
    go false false l m is same low all = absurd cc
    go false true false m is same low all = absurd cc

entry_all : (here more : Bool) → (here && more) ≡ true → more ≡ true
entry_all true more all = all
entry_all false more all = absurd cc

table_fits : has_escapes 0 MEANT ≡ true
unfolding has_escapes escape_byte
table_fits = refl

entry_of : (table : List ℕ) (from letter : ℕ) → has_escapes from table ≡ true → letter < length table → (get_or table letter 0 ≡ 0 → ⊥)
    → (escape_byte (get_or table letter 0) ≡ 92 ∷ (from + letter) ∷ []) × (get_or table letter 0 < 128)
unfolding has_escapes
entry_of [] from letter all inside some = absurd (omega arith)
entry_of (b ∷ bs) from zero all inside some =
    let known = entry from b (has_escapes (suc from) bs) all some in
    (known.0 ∙ ap (λ k. 92 ∷ k ∷ []) (omega arith), known.1)
entry_of (b ∷ bs) from (suc letter) all inside some =
    let here = entry_all (b == 0 || (bytes_eq (escape_byte b) (92 ∷ from ∷ []) && nat_lt b 128)) (has_escapes (suc from) bs) all in
    let known = entry_of bs (suc from) letter here (omega arith) some in
    (known.0 ∙ ap (λ k. 92 ∷ k ∷ []) (omega arith), known.1)

-- the byte of an escape, and what follows it
pub meant : (text inside rest : List ℕ) (letter : ℕ) → letter < length MEANT → (get_or MEANT letter 0 ≡ 0 → ⊥) → text ≡ 92 ∷ inside → letter ≡ get_or inside 0 0 → 0 < length inside → rest ≡ drop 1 inside
    → (text ≡ escape_byte (get_or MEANT letter 0) ++ rest) × (get_or MEANT letter 0 < 128)
meant text [] rest letter known some begins first more remaining = absurd (omega arith)
meant text (x ∷ inside) rest letter known some begins first more remaining =
    let entry = entry_of MEANT 0 letter table_fits known some in
    (begins ∙ rw (entry.0, remaining, ← first) (ap (λ k. 92 ∷ k ∷ inside) (omega arith)), entry.1)

-- an escape and the run after it are the text of one more byte and the run
pub run_goes_on : (text decoded old after run rest : List ℕ) (byte : ℕ) → text ≡ escaped decoded ++ old → old ≡ escape_byte byte ++ after
    → after ≡ escaped run ++ rest → text ≡ escaped (decoded ++ (byte ∷ run)) ++ rest
run_goes_on text decoded old after run rest byte a b c = rw (a, b, c, flat_map-append escape_byte decoded (byte ∷ run)) (simp append_assoc)

escape_some : (byte : ℕ) → 0 < length (escape_byte byte)
unfolding escape_byte
escape_some byte = go (byte == 34 || byte == 92) (byte == 8) (byte == 12) (byte == 10) (byte == 13) (byte == 9) (nat_lt byte 32)
  where
    go : (a b c d e f g : Bool)
        → 0 < length (cond a (92 ∷ byte ∷ []) (cond b (codes "\\b") (cond c (codes "\\f")
        (cond d (codes "\\n") (cond e (codes "\\r") (cond f (codes "\\t")
        (cond g (codes "\\u00" ++ (digit_char (byte / 16) ∷ digit_char (byte % 16) ∷ [])) (byte ∷ []))))))))
    go false false false false false false false = omega arith
    go _ _ _ _ _ _ _ = omega arith

pub run_shorter : (old after run rest : List ℕ) (byte : ℕ) → old ≡ escape_byte byte ++ after → after ≡ escaped run ++ rest → length rest < length old
run_shorter old after run rest byte a b = omega (arith, ap (λ x. length x) a, ap (λ x. length x) b, length-append (escape_byte byte) after, length-append (escaped run) rest, escape_some byte)

-- a string between its quotation marks
pub string_read_whole : (whole inside rest s : List ℕ) → whole ≡ 34 ∷ inside → inside ≡ escaped s ++ (34 ∷ rest) → whole ≡ quoted s ++ rest
unfolding quoted
string_read_whole whole inside rest s a b = rw (a, b) (simp append_assoc)

pub utf8_goes_on : (decoded run : List ℕ) (byte : ℕ) → IsUtf8 decoded → byte < 128 → IsUtf8 run → IsUtf8 (decoded ++ (byte ∷ run))
utf8_goes_on decoded run byte before low after =
    IsUtf8-append decoded (byte ∷ run) before (IsUtf8-append (byte ∷ []) run (IsUtf8-from_ascii (byte ∷ []) ascii) after)
  where
    ascii : (i : ℕ) → slice_index (byte ∷ []) i < 128
    ascii zero = low
    ascii (suc i) = omega arith

-- ---- digits of bytes

pub hex_is : {A E : Type 0} (r : Result A E) (digits written bytes : List ℕ) → is_err r ≡ false → OnOk r (written ≡ encode_lower bytes) → bytes_eq digits written ≡ true → digits ≡ hex_text bytes
unfolding hex_text
hex_is (Ok _) digits written bytes well hex same = (bytes_eq-Decides digits written).0 same ∙ hex
hex_is (Err _) digits written bytes well hex same = absurd cc

was_ok : (r : Result (List ℕ) FromHexError) (x : List ℕ) → Some x ≡ result_ok r → r ≡ Ok x
was_ok (Ok y) x e = cc
was_ok (Err f) x e = absurd cc

pub id_fits : (s bytes : List ℕ) → Some bytes ≡ result_ok (decode_sized s 12) → IsId bytes
id_fits s bytes e =
    let whole = was_ok (decode_sized s 12) bytes e in
    let size = decode_sized-ok s 12 bytes whole in
    let all = decode_of-ok s bytes (sym (decode_sized-twice s 12 size) ∙ whole) in
    (omega (arith, size, all.2), all.3)

-- ---- digits

pub digits_read : (text rest bytes : List ℕ) (n count : ℕ) → bytes ≡ text → count ≤ length bytes → count ≡ 0 + prefix_len is_ascii_digit (drop 0 bytes) → count ≤ 19
    → n ≡ (0 * 10 ^ (count - 0) + digits_value 10 (slice_range bytes 0 count)) % 2 ^ 64
    → 0 < count → (1 < count → get_or bytes 0 0 ≡ 48 → ⊥) → rest ≡ drop count text → (text ≡ decimal n ++ rest) × (n < 2 ^ 64)
digits_read text rest bytes n count same within run few is some lead remaining =
    let d = take count bytes in
    let long : length d ≡ count = length-take-le count bytes within in
    let all : AllDigits 10 d = AllDigits-digits_len bytes count (omega (arith, run)) in
    let small : digits_value 10 d < 2 ^ 64 = short_fits d all (omega (arith, long)) in
    let until : count - 0 ≡ count = omega arith in
    let run_is : slice_range bytes 0 count ≡ d = ap (λ k. take k bytes) until in
    let value : digits_value 10 d ≡ n = omega (arith, small, is, ap (digits_value 10) run_is) in
    let first : get_or d 0 0 ≡ get_or bytes 0 0 = get_or-take count bytes 0 0 (omega arith) in
    let alone : get_or d 0 0 ≡ 48 → length d ≡ 1 = λ e. elim (cases_lt 1 count) [
      | inl more ↦ absurd (lead more (sym first ∙ e))
      | inr single ↦ omega (arith, long)
    ] in
    let back = decimal-digits_value digits_model d (digits_model.from d all) (omega (arith, long)) alone small in
    (sym (take-append-drop count text) ∙ ap₂ (λ (x y : List ℕ). x ++ y) (ap (take count) (sym same) ∙ sym back ∙ ap decimal value) (sym remaining), omega (arith, value, small))

escaped-decimal : (n : ℕ) → n < 2 ^ 64 → escaped (decimal n) ≡ decimal n
escaped-decimal n small = escaped-digits (decimal n) (decimal_is_IsNumeral n small).0.1

pub positive_read : (text inside rest after : List ℕ) (n : ℕ) (z : ℤ) → text ≡ 34 ∷ inside → inside ≡ decimal n ++ rest → n < 2 ^ 64
    → rest ≡ 34 ∷ after → pos n ≡ z → text ≡ quoted (signed_decimal z) ++ after
unfolding quoted
positive_read text inside rest after n z a b small c same = rw (a, b, c, ← same, escaped-decimal n small, append_assoc (decimal n) (34 ∷ []) after) refl

pub negative_read : (text inside digits rest after : List ℕ) (n : ℕ) (z : ℤ) → text ≡ 34 ∷ inside → inside ≡ 45 ∷ digits → digits ≡ decimal n ++ rest
    → n < 2 ^ 64 → rest ≡ 34 ∷ after → 0 < n → neg_ℤ (pos n) ≡ z
    → text ≡ quoted (signed_decimal z) ++ after
unfolding quoted escape_byte
negative_read text inside digits rest after zero z a m b small c some same = absurd (omega arith)
negative_read text inside digits rest after (suc n) z a m b small c some same = rw (a, m, b, c, ← same, escaped-decimal (suc n) small, append_assoc (decimal (suc n)) (34 ∷ []) after) refl
