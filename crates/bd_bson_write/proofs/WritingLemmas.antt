-- Values written as bytes.
use Rattle.std.proofs.Common.{◌≡◌, ◌≢◌, ◌<◌, ◌≤◌, ◌+◌, ◌-◌, ℕ, zero, suc, List, [], ◌∷◌, ◌++◌, length, take, drop, take_at, drop_at, Bool, true, false, ◌||◌, Result, Ok}
use Rattle.std.proofs.Common.{Err, Some, refl, sym, ap, ap₂, ◌∙◌, arith, true≢false, append_assoc, append-nil, length-append, ◌==◌, ◌^◌, IsUtf8, OnOk, IfErr, decimal}
use Rattle.std.proofs.lemmas.{Bool.Decides.nat_tests, Bool.or_parts, Fmt.decimal_is_IsNumeral, Fmt.IsAscii-decimal, Str.IsUtf8-from_ascii}
use Rattle.bd_bson_view.proofs.ValueAtLemmas.{framed_length, scoped_length}
use Rattle.std.specs.{Char.digit_value, Str.Parse.AllDigits, List.AllByRecursion}
use Rattle.bd_value.specs.Tree.{Tree, doc, code_scope, Fields, Doc, fields_of, items_of, Scalar, leaf, array, Items, no_items, item, no_fields, field}
use Rattle.bd_value.specs.Fits.{has_zero, zero_in, zero_in_fields, zero_in_items, zero_in_parts, zero_in_scalar}
use Rattle.bd_value.specs.Fits.{ScalarFits, Fits, ItemsFit, FieldsFit}
use Rattle.bd_value.specs.{Tree.scope_of, Tree.values_of, Tree.Leaf, Tree.leaf_of, Tree.code_leaf, Limits.longest_document}
use Rattle.bd_bson_view.specs.Unique.{number_length, string_length}
use Rattle.bd_bson_view.specs.Spelling.{number, scalar_bytes, string, framed, scoped, IsName, data_of, element, IsText, CanSpell, IsValue, AreFields, AreItems, IsDocument}
use Rattle.bd_bson_write.specs.TreeBytes.{OverrunsLimit, bytes_of, fields_bytes, items_bytes, SpellsPlainly}
use Rattle.bd_bson_write.specs.declared.writing.WriteFault.{WriteFault}
use Rattle.bd_bson_write.specs.declared.writing.WriteFault.TheVariants as faults
use Rattle.bd_value.specs.Tree as trees

no_zeros : (bytes : List ℕ) → has_zero bytes ≡ false → AllByRecursion (λ b. b ≢ 0) bytes
no_zeros [] is = _
no_zeros (b ∷ bytes) is = let n = or_parts (b == 0) (has_zero bytes) is in ((λ e. true≢false (sym (ap (λ x. x == 0) e) ∙ n.0)), no_zeros bytes n.1)

pub is_name : (bytes : List ℕ) → IsUtf8 bytes → has_zero bytes ≡ false → IsName bytes
is_name bytes text is = (text, no_zeros bytes is)

pub are_names : (a b : List ℕ) → IsUtf8 a → IsUtf8 b → (has_zero a || has_zero b) ≡ false → IsName a × IsName b
are_names a b p q is = let n = or_parts (has_zero a) (has_zero b) is in (is_name a p n.0, is_name b q n.1)

-- ---- results

pub ok_on : {A B : Type 0} (r : Result A B) (P Q : Type 0) → OnOk r P → (P → Q) → OnOk r Q
ok_on (Ok x) P Q p q = q p
ok_on (Err e) P Q p q = _

pub overruns_more : (n m : ℕ) (f : WriteFault) → n ≤ m → OverrunsLimit n f → OverrunsLimit m f
overruns_more n m faults.TooDeep le o = absurd o
overruns_more n m faults.NulInName le o = absurd o
overruns_more n m faults.TooLong le o = omega arith
overruns_more n m faults.NoMemory le o = _

pub err_more : {A : Type 0} (r : Result A WriteFault) (n m : ℕ) → IfErr r (OverrunsLimit n) → n ≤ m → IfErr r (OverrunsLimit m)
err_more (Ok x) n m o le = _
err_more (Err f) n m o le = overruns_more n m f le o

-- ---- the count of a frame's bytes

pub sealed : (old rest out : List ℕ) (at : ℕ) → out ≡ (old ++ number 0) ++ rest → at ≡ length old
    → take at out ++ (number (length out - at) ++ drop (at + 4) out) ≡ old ++ (number (length rest + 4) ++ rest)
sealed old rest out at is here =
    let whole : out ≡ old ++ (number 0 ++ rest) = is ∙ append_assoc old (number 0) rest in
    let size : length (old ++ number 0) ≡ at + 4 = omega (arith, here, length-append old (number 0), number_length 0) in
    let total : length out - at ≡ length rest + 4 = omega (arith, here, ap (λ xs. length xs) is, length-append (old ++ number 0) rest, size) in
    let prefix : take at out ≡ old = ap (take at) whole ∙ take_at old (number 0 ++ rest) at (sym here) in
    let back : drop (at + 4) out ≡ rest = ap (drop (at + 4)) is ∙ drop_at (old ++ number 0) rest (at + 4) size in
    ap₂ (λ (x y : List ℕ). x ++ y) prefix (ap₂ (λ (n : ℕ) (x : List ℕ). number n ++ x) total back)

pub sealed_size : (old rest out : List ℕ) → out ≡ (old ++ number 0) ++ rest → length out ≡ length old + (4 + length rest)
sealed_size old rest out is = omega (arith, ap (λ xs. length xs) is, length-append (old ++ number 0) rest, length-append old (number 0), number_length 0)

pub framed_is : (body : List ℕ) → number (length (body ++ 0 ∷ []) + 4) ++ (body ++ 0 ∷ []) ≡ framed body
framed_is body = ap (λ n. number n ++ (body ++ 0 ∷ [])) (omega (arith, length-append body (0 ∷ [])))

-- what a loop wrote, with nothing remaining, and the zero after it
pub ended : (old body last none out : List ℕ) → last ++ none ≡ (old ++ number 0) ++ body → none ≡ [] → out ≡ last ++ 0 ∷ [] → out ≡ (old ++ number 0) ++ (body ++ 0 ∷ [])
ended old body last none out whole is more =
    let all : last ≡ (old ++ number 0) ++ body = sym (append-nil last) ∙ ap (λ x. last ++ x) (sym is) ∙ whole in
    rw (more, all) (simp append_assoc)

pub frame_ok : (old body out : List ℕ) (at : ℕ) → out ≡ (old ++ number 0) ++ (body ++ 0 ∷ []) → at ≡ length old → take at out ++ (number (length out - at) ++ drop (at + 4) out) ≡ old ++ framed body
frame_ok old body out at is here = sealed old (body ++ 0 ∷ []) out at is here ∙ ap (λ x. old ++ x) (framed_is body)

pub frame_total : (old body out : List ℕ) → out ≡ (old ++ number 0) ++ (body ++ 0 ∷ []) → length out ≡ length old + length (framed body)
frame_total old body out is = omega (arith, sealed_size old (body ++ 0 ∷ []) out is, length-append body (0 ∷ []), framed_length body)

-- an element that is still to be written is within the frame
pub element_within : (old body out piece rest : List ℕ) → out ++ (piece ++ rest) ≡ (old ++ number 0) ++ body → length out + length piece ≤ length old + length (framed body)
element_within old body out piece rest whole =
    omega (
      arith,
      ap (λ xs. length xs) whole,
      length-append out (piece ++ rest),
      length-append piece rest,
      length-append (old ++ number 0) body,
      length-append old (number 0),
      number_length 0,
      framed_length body,
    )

-- ---- code with scope

-- a value that has a scope is code with that scope
pub code_parts : (t u : Tree) (o : Leaf) → leaf_of t ≡ Some o → scope_of t ≡ Some u → (s : List ℕ) × (fs : Fields) × (t ≡ code_scope s fs) × (o ≡ code_leaf s) × (u ≡ doc fs)
code_parts (code_scope s fs) u o scalar_leaf scope = (s, fs, refl, cc, cc)
code_parts _ u o scalar_leaf scope = absurd cc

pub scoped_ok : (old code scope out : List ℕ) (at : ℕ) → out ≡ (old ++ number 0) ++ (string code ++ scope) → at ≡ length old
    → take at out ++ (number (length out - at) ++ drop (at + 4) out) ≡ old ++ scoped code scope
scoped_ok old code scope out at is here = sealed old (string code ++ scope) out at is here

pub scoped_size : (code scope : List ℕ) → length (scoped code scope) ≡ 4 + (length (string code) + length scope)
scoped_size code scope = omega (arith, scoped_length code scope, length-append (string code) scope)

pub code_out : (old one two out code scope : List ℕ) → one ≡ old ++ number 0 → two ≡ one ++ string code → out ≡ two ++ scope → out ≡ (old ++ number 0) ++ (string code ++ scope)
code_out old one two out code scope p q r = rw (r, q, p) (simp append_assoc)

-- how many bytes are before the scope
pub opened : (old one two code : List ℕ) → one ≡ old ++ number 0 → two ≡ one ++ code → length two ≡ length old + 4 + length code
opened old one two code p q = omega (arith, ap (λ xs. length xs) q, ap (λ xs. length xs) p, length-append one code, length-append old (number 0), number_length 0)

-- ---- the digits of an index

digit : (c : ℕ) → digit_value c < 10 → (c == 0) ≡ false
digit zero lt = absurd (omega arith)
digit (suc c) lt = grind (arith, nat_tests)

digits : (cs : List ℕ) → AllDigits 10 cs → has_zero cs ≡ false
digits [] all = refl
digits (c ∷ cs) all = ap₂ (λ (x y : Bool). x || y) (digit c all.0) (digits cs all.1)

pub decimal_no_zero : (n : ℕ) → n < 2 ^ 64 → has_zero (decimal n) ≡ false
decimal_no_zero n fits = digits (decimal n) (decimal_is_IsNumeral n fits).0.1

-- ---- zeros in pairs and in elements

pub zero_in_pairs : (ps : Doc) → zero_in_parts true ps ≡ zero_in_fields (fields_of ps)
zero_in_pairs [] = refl
zero_in_pairs (p ∷ ps) = ap (λ z. has_zero p.0 || (zero_in p.1 || z)) (zero_in_pairs ps)

pub zero_in_elements : (ps : Doc) → zero_in_parts false ps ≡ zero_in_items (items_of (values_of ps))
zero_in_elements [] = refl
zero_in_elements (p ∷ ps) = ap (λ z. zero_in p.1 || z) (zero_in_elements ps)

is_text : (s : List ℕ) → IsUtf8 s → length (string s) ≤ longest_document → IsText s
is_text s utf8 short = (utf8, omega (arith, string_length s, short))

-- how many bytes an element has
pub element_size : (t : Tree) (name value : List ℕ) → length (element t name value) ≡ length name + (length value + 2)
element_size t name value = omega (arith, length-append name (0 ∷ value))

index_name : (n : ℕ) → n < 2 ^ 64 → IsName (decimal n)
index_name n small = is_name (decimal n) (IsUtf8-from_ascii (decimal n) (IsAscii-decimal n small)) (decimal_no_zero n small)

can_spell : (s : Scalar) → ScalarFits IsUtf8 s → zero_in_scalar s ≡ false → length (scalar_bytes s) ≤ longest_document → CanSpell s
can_spell (trees.int32 z) fits none short = fits
can_spell (trees.int64 z) fits none short = fits
can_spell (trees.date z) fits none short = fits
can_spell (trees.timestamp s i) fits none short = fits
can_spell (trees.object_id id) fits none short = fits.0
can_spell (trees.text s) fits none short = is_text s fits short
can_spell (trees.symbol s) fits none short = is_text s fits short
can_spell (trees.code s) fits none short = is_text s fits short
can_spell (trees.db_pointer s id) fits none short = (is_text s fits.0 (omega (arith, short, length-append (string s) id)), fits.1.0)
can_spell (trees.regex p o) fits none short = are_names p o fits.0 fits.1 none
can_spell (trees.binary k bs) fits none short =
    let content = data_of k bs in
    (fits.0, omega (arith, short, length-append (number (length content)) (k ∷ content), number_length (length content)))
can_spell _ fits none short = tt

mutual
  spelled : (t : Tree) → Fits t → zero_in t ≡ false → length (bytes_of t) ≤ longest_document → IsValue t (bytes_of t)
  spelled (leaf s) fits none short = (can_spell s fits none short, refl)
  spelled (doc fs) fits none short = (fields_bytes fs, fields_spelled fs fits none (omega (arith, short, framed_length (fields_bytes fs))), refl)
  spelled (array ts) fits none short = (items_bytes 0 ts, items_spelled 0 ts fits none (omega (arith, short, framed_length (items_bytes 0 ts))), refl)
  spelled (code_scope s fs) fits none short =
      let scope = framed (fields_bytes fs) in
      let size = scoped_size s scope in
      (fields_bytes fs, fields_spelled fs fits.1 none (omega (arith, short, size, framed_length (fields_bytes fs))), refl, is_text s fits.0 (omega (arith, short, size)))

  fields_spelled : (fs : Fields) → FieldsFit IsUtf8 fs → zero_in_fields fs ≡ false → length (fields_bytes fs) ≤ longest_document → AreFields fs (fields_bytes fs)
  fields_spelled no_fields fits none short = refl
  fields_spelled (field name t fs) fits none short =
      let a = or_parts (has_zero name) (zero_in t || zero_in_fields fs) none in
      let b = or_parts (zero_in t) (zero_in_fields fs) a.1 in
      let size = length-append (element t name (bytes_of t)) (fields_bytes fs) in
      let one = element_size t name (bytes_of t) in
      let first = spelled t fits.1.0 b.0 (omega (arith, short, size, one)) in
      let others = fields_spelled fs fits.1.1 b.1 (omega (arith, short, size, one)) in
      (bytes_of t, fields_bytes fs, is_name name fits.0 a.0, first, others, refl)

  items_spelled : (index : ℕ) (ts : Items) → ItemsFit IsUtf8 ts → zero_in_items ts ≡ false
      → index + length (items_bytes index ts) ≤ longest_document → AreItems ts (items_bytes index ts)
  items_spelled index no_items fits none short = refl
  items_spelled index (item t ts) fits none short =
      let b = or_parts (zero_in t) (zero_in_items ts) none in
      let size = length-append (element t (decimal index) (bytes_of t)) (items_bytes (suc index) ts) in
      let one = element_size t (decimal index) (bytes_of t) in
      let first = spelled t fits.0 b.0 (omega (arith, short, size, one)) in
      let others = items_spelled (suc index) ts fits.1 b.1 (omega (arith, short, size, one)) in
      (decimal index, bytes_of t, items_bytes (suc index) ts, index_name index (omega (arith, short)), first, others, refl)

-- the bytes that are written for a document are that document, if it fits its types
pub plainly_spells : (d : Doc) (bytes : List ℕ) → Fits (doc (fields_of d)) → SpellsPlainly d bytes → IsDocument d bytes
plainly_spells d bytes fits plain =
    let t : Tree = doc (fields_of d) in
    let short : length (bytes_of t) ≤ longest_document = omega (arith, plain.short, ap (λ x. length x) plain.spelled) in
    record { spells = rw plain.spelled (spelled t fits plain.no_zero short); short = plain.short; shallow = plain.shallow }
