-- The text of a tree is UTF-8, since its texts and names are, and it is one line: no byte of it is a newline. Both
-- properties are unchanged by appending, and hold for the parts.
use Rattle.std.proofs.Common.{◌≡◌, ◌==◌, ℕ, zero, suc, ◌<◌, ◌^◌, ℤ, Bool, true, false, List, [], ◌∷◌, ◌++◌, refl, ◌∙◌, subst, arith, decimal, inl, inr}
use Rattle.std.specs.Prelude.{codes, IsUtf8, nat_lt, ◌||◌}
use Rattle.std.specs.Fmt.{signed_decimal}
use Rattle.std.specs.Int.Signed.{mag}
use Rattle.std.specs.List.{All, list_any, join_with_byte}
use Rattle.std.specs.Str.{IsAscii}
use Rattle.std.proofs.lemmas.Bool.{and_parts, or_parts, ltb-true, cases_lt, cases_eq}
use Rattle.std.proofs.lemmas.Fmt.{IsAscii-decimal, IsAscii-signed, decimal_is_IsNumeral}
use Rattle.std.proofs.lemmas.Grind.{common_steps}
use Rattle.std.proofs.lemmas.List.Elements.{All-cons, All-nil}
use Rattle.std.proofs.lemmas.List.Folds.{list_any-append}
use Rattle.std.proofs.lemmas.Str.{IsUtf8-append, IsUtf8-from_ascii}
use Rattle.std.proofs.lemmas.Str.Ascii.{IsAscii-nil, IsAscii-cons}
use Rattle.base64.specs.Engines.{standard}
use Rattle.base64.specs.GeneralPurpose.{encode_of}
use Rattle.base64.proofs.EngineFacts.{IsAscii-encode_of}
use Rattle.hex.specs.Hex.{lower_digits, encode_with}
use Rattle.hex.proofs.HexLemmas.{IsAscii-encode_with}
use Rattle.json.proofs.Printed.Utf8.{IsUtf8-quoted, IsUtf8-are_ascii, are_ascii}
use Rattle.bd_value.specs.Fits.{ScalarFits, Fits, FitsTypes, ItemsFit, FieldsFit, IsAny, TreeFits}
use Rattle.bd_value.specs.Tree.{Scalar, min_key, undefined, null, int32, int64, text as plain_text, symbol, binary, object_id, boolean, date, timestamp, regex, db_pointer, code, max_key}
use Rattle.bd_value.specs.Tree.{Tree, leaf, doc, array, code_scope, Items, no_items, item, Fields, no_fields, field}
use Rattle.bd_value.proofs.FitsLemmas.{fits_with}
use Rattle.bd_extjson_text.specs.Text.{escape_byte, escaped, quoted, object, member, wrapper_text, base64_text, hex_text, scalar_text, text, items_text, fields_text, needs_escape}
use Rattle.bd_extjson_text.proofs.JsonStringLemmas.{fits_32, fits_64, escaped-digits, escape_byte-plain}
use Rattle.bd_extjson.proofs.TreeJsonLemmas.{quoted-kit}

-- ---- the symbols of numbers and of bytes are ASCII

table_ascii : (t : List ℕ) → are_ascii t ≡ true → IsAscii t
table_ascii [] e = IsAscii-nil
table_ascii (b ∷ t) e = let p = and_parts (nat_lt b 128) (are_ascii t) e in IsAscii-cons b t (ltb-true b 128 p.0) (table_ascii t p.1)

utf8-hex_text : (bs : List ℕ) → IsUtf8 (hex_text bs)
unfolding hex_text
utf8-hex_text bs = IsUtf8-from_ascii (encode_with lower_digits bs) (IsAscii-encode_with lower_digits bs (table_ascii lower_digits refl))

utf8-base64_text : (bs : List ℕ) → IsUtf8 (base64_text bs)
unfolding base64_text
utf8-base64_text bs = IsUtf8-from_ascii (encode_of standard bs) (IsAscii-encode_of standard bs)

-- ---- a property that holds for the parts of a text holds for it; if U is false, its texts and names need not be UTF-8

abbrev IsLine : List ℕ → Type 0
IsLine xs = list_any (λ b. b == 10) xs ≡ false

module _ (P : List ℕ → Type 0) (U : Type 0) (join : (xs ys : List ℕ) → P xs → P ys → P (xs ++ ys))
    (plain : (xs : List ℕ) → are_ascii xs ≡ true → IsLine xs → P xs) (string : (s : List ℕ) → (U → IsUtf8 s) → P (quoted s))
    (number : (n : ℕ) → n < 2 ^ 32 → P (decimal n)) where
  abbrev Each : List (List ℕ) → Type 0
  Each [] = Unit {0}
  Each (x ∷ xs) = P x × Each xs

  joined : (x : List ℕ) (xs : List (List ℕ)) → P x → Each xs → P (join_with_byte 44 (x ∷ xs))
  joined x [] p each = p
  joined x (y ∷ ys) p each =
      join x (44 ∷ join_with_byte 44 (y ∷ ys)) p (join (44 ∷ []) (join_with_byte 44 (y ∷ ys)) (plain (44 ∷ []) refl refl) (joined y ys each.0 each.1))

  all_joined : (xs : List (List ℕ)) → Each xs → P (join_with_byte 44 xs)
  all_joined [] each = plain [] refl refl
  all_joined (x ∷ xs) each = joined x xs each.0 each.1

  in_brackets : (a b : ℕ) (xs : List (List ℕ)) → P (a ∷ []) → P (b ∷ []) → Each xs → P (a ∷ (join_with_byte 44 xs ++ b ∷ []))
  in_brackets a b xs p q each = join (a ∷ []) (join_with_byte 44 xs ++ b ∷ []) p (join (join_with_byte 44 xs) (b ∷ []) (all_joined xs each) q)

  object_holds : (xs : List (List ℕ)) → Each xs → P (object xs)
  object_holds xs = in_brackets 123 125 xs (plain (123 ∷ []) refl refl) (plain (125 ∷ []) refl refl)

  member_holds : (n v : List ℕ) → P (quoted n) → P v → P (member n v)
  member_holds n v p q = join (quoted n) (58 ∷ v) p (join (58 ∷ []) v (plain (58 ∷ []) refl refl) q)

  known : (n v : List ℕ) → are_ascii n ≡ true → P v → P (member n v)
  known n v ascii = member_holds n v (string n (λ u. IsUtf8-are_ascii n ascii))

  wrapped : (n v : List ℕ) → are_ascii n ≡ true → P v → P (wrapper_text n v)
  wrapped n v ascii p = object_holds (member n v ∷ []) (known n v ascii p, tt)

  two : (m n v w : List ℕ) → are_ascii m ≡ true → are_ascii n ≡ true → P v → P w → P (object (member m v ∷ member n w ∷ []))
  two m n v w ma na p q = object_holds (member m v ∷ member n w ∷ []) (known m v ma p, (known n w na q, tt))

  signed : (z : ℤ) → mag z < 2 ^ 63 → P (quoted (signed_decimal z))
  signed z small = string (signed_decimal z) (λ u. IsUtf8-from_ascii (signed_decimal z) (IsAscii-signed z small))

  hex : (bs : List ℕ) → P (quoted (hex_text bs))
  hex bs = string (hex_text bs) (λ u. utf8-hex_text bs)

  scalar : (s : Scalar) → ScalarFits (λ s. U → IsUtf8 s) s → P (scalar_text s)
  unfolding scalar_text
  scalar min_key fits = wrapped (codes "$minKey") _ refl (plain (codes "1") refl refl)
  scalar undefined fits = wrapped (codes "$undefined") _ refl (plain (codes "true") refl refl)
  scalar null fits = plain (codes "null") refl refl
  scalar (int32 z) fits = wrapped (codes "$numberInt") _ refl (signed z (fits_32 z fits))
  scalar (int64 z) fits = wrapped (codes "$numberLong") _ refl (signed z (fits_64 z fits))
  scalar (plain_text s) fits = string s fits
  scalar (symbol s) fits = wrapped (codes "$symbol") _ refl (string s fits)
  scalar (binary k s) fits =
      wrapped (codes "$binary") _ refl
      (two (codes "base64") (codes "subType") _ _ refl refl (string (base64_text s) (λ u. utf8-base64_text s)) (hex (k ∷ [])))
  scalar (object_id id) fits = wrapped (codes "$oid") _ refl (hex id)
  scalar (boolean true) fits = plain (codes "true") refl refl
  scalar (boolean false) fits = plain (codes "false") refl refl
  scalar (date z) fits = wrapped (codes "$date") _ refl (wrapped (codes "$numberLong") _ refl (signed z (fits_64 z fits)))
  scalar (timestamp s i) fits =
      wrapped (codes "$timestamp") _ refl (two (codes "t") (codes "i") _ _ refl refl (number s fits.0) (number i fits.1))
  scalar (regex p o) fits =
      wrapped (codes "$regularExpression") _ refl
      (two (codes "pattern") (codes "options") _ _ refl refl (string p fits.0) (string o fits.1))
  scalar (db_pointer s id) fits =
      wrapped (codes "$dbPointer") _ refl
      (two (codes "$ref") (codes "$id") _ _ refl refl (string s fits.0) (wrapped (codes "$oid") _ refl (hex id)))
  scalar (code s) fits = wrapped (codes "$code") _ refl (string s fits)
  scalar max_key fits = wrapped (codes "$maxKey") _ refl (plain (codes "1") refl refl)

  mutual
    tree : (t : Tree) → TreeFits (λ s. U → IsUtf8 s) t → P (text t)
    tree (leaf s) fits = scalar s fits
    tree (doc fs) fits = object_holds (fields_text fs) (fields fs fits)
    tree (array ts) fits = in_brackets 91 93 (items_text ts) (plain (91 ∷ []) refl refl) (plain (93 ∷ []) refl refl) (items ts fits)
    tree (code_scope s fs) fits =
        two (codes "$code") (codes "$scope") _ _ refl refl (string s fits.0) (object_holds (fields_text fs) (fields fs fits.1))

    items : (ts : Items) → ItemsFit (λ s. U → IsUtf8 s) ts → Each (items_text ts)
    items no_items fits = tt
    items (item t ts) fits = (tree t fits.0, items ts fits.1)

    fields : (fs : Fields) → FieldsFit (λ s. U → IsUtf8 s) fs → Each (fields_text fs)
    fields no_fields fits = tt
    fields (field n t fs) fits =
        (member_holds n (text t) (string n fits.0) (tree t fits.1.0), fields fs fits.1.1)

-- ---- UTF-8

pub utf8-text : (t : Tree) → Fits t → IsUtf8 (text t)
utf8-text t fits =
    tree IsUtf8 (Unit {0}) IsUtf8-append (λ xs ascii line. IsUtf8-are_ascii xs ascii) (λ s utf8. subst IsUtf8 (quoted-kit s) (IsUtf8-quoted s (utf8 tt)))
    (λ n small. IsUtf8-from_ascii (decimal n) (IsAscii-decimal n (omega arith))) t (fits_with IsUtf8 (λ s. Unit {0} → IsUtf8 s) (λ s utf8 u. utf8) t fits)

-- ---- one line

line-append : (xs ys : List ℕ) → IsLine xs → IsLine ys → IsLine (xs ++ ys)
line-append xs ys p q = list_any-append (λ b. b == 10) xs ys ∙ rw (p, q) refl

-- the bytes that have escapes are checked one by one
abbrev break_below : ℕ → Bool
break_below zero = false
break_below (suc n) = list_any (λ c. c == 10) (escape_byte n) || break_below n

none_below : break_below 93 ≡ false
unfolding escape_byte
none_below = refl

line-below : (n : ℕ) → break_below n ≡ false → (b : ℕ) → b < n → IsLine (escape_byte b)
line-below zero e b small = absurd (omega arith)
line-below (suc n) e b small =
    let p = or_parts (list_any (λ c. c == 10) (escape_byte n)) (break_below n) e in
    elim (cases_eq b n) [ inl same ↦ rw same p.0 | inr other ↦ line-below n p.1 b (omega arith) ]

line-escape_byte : (b : ℕ) → IsLine (escape_byte b)
line-escape_byte b = elim (cases_lt b 93) [
  | inl small ↦ line-below 93 none_below b small
  | inr large ↦
      let itself : needs_escape b ≡ false = grind (arith, common_steps) in
      let other : (b == 10) ≡ false = grind (arith, common_steps) in
      rw (escape_byte-plain b itself, other) refl
]

line-escaped : (s : List ℕ) → IsLine (escaped s)
line-escaped [] = refl
line-escaped (b ∷ s) = line-append (escape_byte b) (escaped s) (line-escape_byte b) (line-escaped s)

line-quoted : (s : List ℕ) → IsLine (quoted s)
unfolding quoted
line-quoted s = line-append (escaped s) (34 ∷ []) (line-escaped s) refl

line-decimal : (n : ℕ) → n < 2 ^ 32 → IsLine (decimal n)
line-decimal n small = subst IsLine (escaped-digits (decimal n) (decimal_is_IsNumeral n (omega arith)).0.1) (line-escaped (decimal n))

all_of : (bytes : List ℕ) → IsLine bytes → All (λ b. (b == 10) ≡ false) bytes
all_of [] e = All-nil (λ b. (b == 10) ≡ false)
all_of (b ∷ bytes) e =
    let p = or_parts (b == 10) (list_any (λ c. c == 10) bytes) e in
    All-cons (λ b. (b == 10) ≡ false) b bytes p.0 (all_of bytes p.1)

-- a canonical text has no newline
pub text_line : (t : Tree) → FitsTypes t → All (λ b. (b == 10) ≡ false) (text t)
text_line t fits = all_of (text t) (tree IsLine ⊥ line-append (λ xs ascii line. line) (λ s utf8. line-quoted s) line-decimal t
    (fits_with IsAny (λ s. ⊥ → IsUtf8 s) (λ s any u. absurd u) t fits))
