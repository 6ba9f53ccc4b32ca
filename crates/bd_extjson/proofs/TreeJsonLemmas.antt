-- The JSON value that a tree's text prints, and the tokens of that text.
use Rattle.std.proofs.Common.{◌≡◌, ℕ, ◌+◌, ◌≤◌, ℤ, Bool, true, false, cond, ◌&&◌, List, [], ◌∷◌, ◌++◌, Some, refl, sym, ap, ap₂, ◌∙◌, subst, arith, append_assoc, append-nil, rules}
use Rattle.std.specs.Prelude.{◌==◌, codes, decimal, if◌then◌else◌}
use Rattle.std.specs.Fmt.{signed_decimal}
use Rattle.std.specs.List.{join_with_byte}
use Rattle.json.specs.Json as kit
use Rattle.json.specs.Json.{Json, value}
use Rattle.json.specs.Lex.{tokens}
use Rattle.json.specs.Print as kit_print
use Rattle.json.specs.Print.{print_from, IsNumber}
use Rattle.json.specs.Token.{Token}
use Rattle.json.specs.Tree as kit_tree
use Rattle.json.specs.Tree.{json_tokens, items_tokens, members_tokens, HasNumbers, ItemsHaveNumbers, MembersHaveNumbers}
use Rattle.json.specs.Word.{after_number}
use Rattle.json.proofs.Printed.Decimals.{IsNumber-decimal}
use Rattle.json.proofs.Printed.Tokens.{tokens-print}
use Rattle.json.proofs.Printed.Trees.{value-json_tokens, ArePrintable-json_tokens}
use Rattle.bd_value.specs.Tree.{depth, fields_depth, items_depth, Scalar, min_key, undefined, null, int32, int64, text as plain_text, symbol, binary, object_id, boolean}
use Rattle.bd_value.specs.Tree.{date, timestamp, regex, db_pointer, code, max_key, Tree, leaf, doc, array, code_scope, Items, no_items, item, Fields, no_fields, field}
use Rattle.bd_value.specs.Fits.{ScalarFits, FitsTypes, ItemsFit, FieldsFit, IsAny}
use Rattle.bd_extjson_text.specs.Text.{escape_byte, escaped, object, member, listed, quoted, base64_text, hex_text, scalar_text, text, items_text, fields_text}
use Rattle.bd_extjson_text.proofs.TextLemmas.{before, to_come, to_come-all}

abbrev pub wrapped : List ℕ → Json → Json
wrapped name x = kit.object (kit.member name x kit.no_members)

abbrev pub two : List ℕ → Json → List ℕ → Json → Json
two m x n y = kit.object (kit.member m x (kit.member n y kit.no_members))

abbrev long_json : ℤ → Json
long_json z = wrapped (codes "$numberLong") (kit.string (signed_decimal z))

abbrev id_json : List ℕ → Json
id_json id = wrapped (codes "$oid") (kit.string (hex_text id))

-- the JSON value that the canonical text of a scalar is
abbrev pub scalar_json : Scalar → Json
scalar_json min_key = wrapped (codes "$minKey") (kit.number (codes "1"))
scalar_json undefined = wrapped (codes "$undefined") (kit.boolean true)
scalar_json null = kit.null
scalar_json (int32 z) = wrapped (codes "$numberInt") (kit.string (signed_decimal z))
scalar_json (int64 z) = long_json z
scalar_json (plain_text s) = kit.string s
scalar_json (symbol s) = wrapped (codes "$symbol") (kit.string s)
scalar_json (binary k s) =
    wrapped (codes "$binary") (two (codes "base64") (kit.string (base64_text s)) (codes "subType") (kit.string (hex_text (k ∷ []))))
scalar_json (object_id id) = id_json id
scalar_json (boolean b) = kit.boolean b
scalar_json (date z) = wrapped (codes "$date") (long_json z)
scalar_json (timestamp s i) = wrapped (codes "$timestamp") (two (codes "t") (kit.number (decimal s)) (codes "i") (kit.number (decimal i)))
scalar_json (regex p o) = wrapped (codes "$regularExpression") (two (codes "pattern") (kit.string p) (codes "options") (kit.string o))
scalar_json (db_pointer s id) = wrapped (codes "$dbPointer") (two (codes "$ref") (kit.string s) (codes "$id") (id_json id))
scalar_json (code s) = wrapped (codes "$code") (kit.string s)
scalar_json max_key = wrapped (codes "$maxKey") (kit.number (codes "1"))

abbrev mutual
  -- the JSON value that the canonical text of a value is
  pub json : Tree → Json
  json (leaf s) = scalar_json s
  json (doc fs) = kit.object (members_json fs)
  json (array ts) = kit.array (elements_json ts)
  json (code_scope s fs) = two (codes "$code") (kit.string s) (codes "$scope") (kit.object (members_json fs))

  -- the JSON values of the elements of an array
  pub elements_json : Items → kit.Items
  elements_json no_items = kit.no_items
  elements_json (item t ts) = kit.item (json t) (elements_json ts)

  -- the JSON members of a document's fields
  pub members_json : Fields → kit.Members
  members_json no_fields = kit.no_members
  members_json (field n t fs) = kit.member n (json t) (members_json fs)

-- ---- its text by the definitions of the specification

abbrev mutual
  json_text : Json → List ℕ
  json_text kit.null = codes "null"
  json_text (kit.boolean b) = if b then codes "true" else codes "false"
  json_text (kit.number ds) = ds
  json_text (kit.string s) = quoted s
  json_text (kit.array xs) = listed (element_texts xs)
  json_text (kit.object ms) = object (member_texts ms)

  element_texts : kit.Items → List (List ℕ)
  element_texts kit.no_items = []
  element_texts (kit.item x xs) = json_text x ∷ element_texts xs

  member_texts : kit.Members → List (List ℕ)
  member_texts kit.no_members = []
  member_texts (kit.member n x ms) = member n (json_text x) ∷ member_texts ms

scalar_text-json : (s : Scalar) → json_text (scalar_json s) ≡ scalar_text s
unfolding scalar_text
scalar_text-json min_key = refl
scalar_text-json _ = refl

mutual
  text-json : (t : Tree) → json_text (json t) ≡ text t
  text-json (leaf s) = scalar_text-json s
  text-json (doc fs) = ap object (texts-members fs)
  text-json (array ts) = ap listed (texts-elements ts)
  text-json (code_scope s fs) =
      ap (λ (l : List (List ℕ)). object (member (codes "$code") (quoted s) ∷ member (codes "$scope") (object l) ∷ [])) (texts-members fs)

  texts-elements : (ts : Items) → element_texts (elements_json ts) ≡ items_text ts
  texts-elements no_items = refl
  texts-elements (item t ts) = ap₂ (λ (a : List ℕ) (l : List (List ℕ)). a ∷ l) (text-json t) (texts-elements ts)

  texts-members : (fs : Fields) → member_texts (members_json fs) ≡ fields_text fs
  texts-members no_fields = refl
  texts-members (field n t fs) = ap₂ (λ (a : List ℕ) (l : List (List ℕ)). member n a ∷ l) (text-json t) (texts-members fs)

-- ---- it is what the crate json prints of its tokens

unless : (n b : ℕ) (P : ℕ → Type 0) → P n → ((b == n) ≡ false → P b) → P b
unless n b P here other = one (b == n) refl
  where
    one : (v : Bool) → (b == n) ≡ v → P b
    one true e = let same : n ≡ b = grind arith in subst P same here
    one false e = other e

escape_byte-kit : (b : ℕ) → kit_print.escape_byte b ≡ escape_byte b
unfolding escape_byte kit_print.escape_byte
escape_byte-kit b =
    let P : ℕ → Type 0 = λ n. kit_print.escape_byte n ≡ escape_byte n in
    unless 34 b P refl (λ b34. unless 92 b P refl (λ b92. unless 8 b P refl (λ b8. unless 12 b P refl (λ b12. unless 10 b P refl (λ b10.
    unless 13 b P refl (λ b13. unless 9 b P refl (λ b9. rw (b34, b92, b8, b12, b10, b13, b9) refl)))))))

escaped-kit : (s : List ℕ) → kit_print.escape s ≡ escaped s
escaped-kit [] = refl
escaped-kit (b ∷ s) = ap₂ (λ (x y : List ℕ). x ++ y) (escape_byte-kit b) (escaped-kit s)

pub quoted-kit : (s : List ℕ) → kit_print.quoted s ≡ quoted s
unfolding quoted
quoted-kit s = ap (λ (l : List ℕ). 34 ∷ (l ++ 34 ∷ [])) (escaped-kit s)

comma : (later : Bool) → cond (later && true) (44 ∷ []) [] ≡ before later 44
comma true = refl
comma false = refl

no_comma : (later : Bool) → cond {A = List ℕ} (later && false) (44 ∷ []) [] ≡ []
no_comma true = refl
no_comma false = refl

-- the pieces of a list, and the bracket at its end
ended : (pieces : List (List ℕ)) (c : ℕ) (rest : List ℕ) → to_come false 44 pieces ++ c ∷ rest ≡ (join_with_byte 44 pieces ++ c ∷ []) ++ rest
ended pieces c rest = ap (λ (l : List ℕ). l ++ c ∷ rest) (to_come-all 44 pieces) ∙ sym (append_assoc (join_with_byte 44 pieces) (c ∷ []) rest)

mutual
  unfolding print_from

  printed : (x : Json) (later : Bool) (rest : List Token) → print_from later (json_tokens x ++ rest) ≡ before later 44 ++ (json_text x ++ print_from true rest)
  printed kit.null later rest = rw (← comma later) refl
  printed (kit.boolean true) later rest = rw (← comma later) refl
  printed (kit.boolean false) later rest = rw (← comma later) refl
  printed (kit.number ds) later rest = rw (← comma later) refl
  printed (kit.string s) later rest = ap₂ (λ (a b : List ℕ). a ++ (b ++ print_from true rest)) (comma later) (quoted-kit s)
  printed (kit.array xs) later rest =
      ap₂ (λ (a b : List ℕ). a ++ 91 ∷ b) (comma later) (printed-elements xs false rest ∙ ended (element_texts xs) 93 (print_from true rest))
  printed (kit.object ms) later rest =
      ap₂ (λ (a b : List ℕ). a ++ 123 ∷ b) (comma later) (printed-members ms false rest ∙ ended (member_texts ms) 125 (print_from true rest))

  printed-elements : (xs : kit.Items) (later : Bool) (rest : List Token)
      → print_from later (items_tokens xs ++ rest) ≡ to_come later 44 (element_texts xs) ++ 93 ∷ print_from true rest
  printed-elements kit.no_items later rest = ap (λ (l : List ℕ). l ++ 93 ∷ print_from true rest) (no_comma later)
  printed-elements (kit.item x xs) later rest =
      ap (print_from later) (append_assoc (json_tokens x) (items_tokens xs) rest) ∙ printed x later (items_tokens xs ++ rest)
      ∙ ap (λ (l : List ℕ). before later 44 ++ (json_text x ++ l)) (printed-elements xs true rest) ∙ simp append_assoc

  printed-members : (ms : kit.Members) (later : Bool) (rest : List Token)
      → print_from later (members_tokens ms ++ rest) ≡ to_come later 44 (member_texts ms) ++ 125 ∷ print_from true rest
  printed-members kit.no_members later rest = ap (λ (l : List ℕ). l ++ 125 ∷ print_from true rest) (no_comma later)
  printed-members (kit.member n x ms) later rest =
      ap (λ (l : List Token). print_from later (Token.key n ∷ l)) (append_assoc (json_tokens x) (members_tokens ms) rest)
      ∙ ap₂ (λ (a b : List ℕ). a ++ ((kit_print.quoted n ++ 58 ∷ []) ++ b)) (comma later) (printed x false (members_tokens ms ++ rest)
      ∙ ap (λ (l : List ℕ). json_text x ++ l) (printed-members ms true rest))
      ∙ ap (λ (q : List ℕ). before later 44 ++ ((q ++ 58 ∷ []) ++ (json_text x ++ (to_come true 44 (member_texts ms) ++ 125 ∷ print_from true rest)))) (quoted-kit n)
      ∙ simp append_assoc

print-json : (x : Json) → kit_print.print (json_tokens x) ≡ json_text x
unfolding print_from
print-json x = ap kit_print.print (sym (append-nil (json_tokens x))) ∙ printed x false [] ∙ append-nil (json_text x)

-- ---- its numbers are numbers, and at most three brackets are inside the innermost value

shallow-scalar : (s : Scalar) → kit_tree.depth (scalar_json s) ≤ 3
shallow-scalar min_key = omega arith
shallow-scalar _ = omega arith

one_number : IsNumber (codes "1")
unfolding after_number
one_number = refl

numbers-scalar : (s : Scalar) → ScalarFits IsAny s → HasNumbers (scalar_json s)
numbers-scalar min_key fits = (one_number, tt)
numbers-scalar max_key fits = (one_number, tt)
numbers-scalar (timestamp s i) fits = ((IsNumber-decimal s (omega arith), (IsNumber-decimal i (omega arith), tt)), tt)
numbers-scalar _ fits = search rules

mutual
  pub well : (t : Tree) → FitsTypes t → (kit_tree.depth (json t) ≤ depth t + 3) × HasNumbers (json t)
  well (leaf s) fits = (omega (arith, shallow-scalar s), numbers-scalar s fits)
  well (doc fs) fits = let p = well-fields fs fits in (omega (arith, p.0), p.1)
  well (array ts) fits = let p = well-items ts fits in (omega (arith, p.0), p.1)
  well (code_scope s fs) fits = let p = well-fields fs fits.1 in (omega (arith, p.0), (tt, (p.1, tt)))

  well-items : (ts : Items) → ItemsFit IsAny ts → (kit_tree.items_depth (elements_json ts) ≤ items_depth ts + 3) × ItemsHaveNumbers (elements_json ts)
  well-items no_items fits = (omega arith, tt)
  well-items (item t ts) fits =
      let p = well t fits.0 in
      let q = well-items ts fits.1 in
      (omega (arith, p.0, q.0), (p.1, q.1))

  well-fields : (fs : Fields) → FieldsFit IsAny fs → (kit_tree.members_depth (members_json fs) ≤ fields_depth fs + 3) × MembersHaveNumbers (members_json fs)
  well-fields no_fields fits = (omega arith, tt)
  well-fields (field n t fs) fits =
      let p = well t fits.1.0 in
      let q = well-fields fs fits.1.1 in
      (omega (arith, p.0, q.0), (p.1, q.1))

-- ---- so the grammar reads the text as that value

-- the tokens of a value's canonical text are its JSON value, with none remaining
pub value-text : (t : Tree) (n : ℕ) → FitsTypes t → kit_tree.depth (json t) ≤ n → value n (tokens (text t)) ≡ Some (json t, [])
value-text t n fits deep =
    let j = json t in
    ap (λ (l : List ℕ). value n (tokens l)) (sym (print-json j ∙ text-json t))
    ∙ ap (value n) (tokens-print (json_tokens j) (ArePrintable-json_tokens j (well t fits).1) ∙ sym (append-nil (json_tokens j)))
    ∙ value-json_tokens j n [] deep
