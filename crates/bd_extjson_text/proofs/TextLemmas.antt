-- The texts of values in the pieces in which they are written, after what was there, and from their parts.
use Rattle.std.proofs.Common.{to_z, of_z, ◌≡◌, ℕ, ◌+◌, ◌<◌, ◌≤◌, ◌^◌, suc, ℤ, List, [], ◌∷◌, ◌++◌, Some, refl, ap, ◌∙◌, arith, rules, append_assoc, Bool, true, false, drop, get_or, length}
use Rattle.std.proofs.Common.{map, sym, ap₂, subst, append-nil}
use Rattle.std.specs.Prelude.{codes, decimal, if◌then◌else◌}
use Rattle.std.specs.Fmt.{signed_decimal}
use Rattle.std.specs.Int.{w32, w64}
use Rattle.std.specs.Int.RustNames.{FitsSigned}
use Rattle.std.specs.Int.Signed.{mag}
use Rattle.std.proofs.lemmas.Int.{to_z-of_z}
use Rattle.bd_value.specs.View.{kind_of}
use Rattle.bd_value.specs.Tree.{leaf_of, code_leaf, scalar_leaf, Scalar, Tree, leaf, array, Doc, fields_of, items_of, fields_of-pairs_of, items_of-list_of, tree_size, fields_size}
use Rattle.bd_value.specs.Tree.{items_size, Fields, doc, code_scope, int32, int64, symbol, binary, object_id, date, timestamp, regex, db_pointer, code}
use Rattle.bd_value.specs.Tree.{values_of, scope_of, AreParts}
use Rattle.bd_value.specs.declared.node.Kind.TheVariants as kinds
use Rattle.bd_value.specs.Tree as trees
use Rattle.bd_extjson_text.specs.Text.{quoted, object, member, wrapper_text, base64_text, hex_text, scalar_text, text, escape_byte, escaped}
use Rattle.bd_extjson_text.specs.inside.Text.{HasShortText}
use Rattle.bd_extjson_text.specs.Text.{items_text, fields_text}
use Rattle.bd_extjson_text.proofs.JsonStringLemmas.{fits_32, fits_64, wider, escaped-signed_decimal, escaped-base64_text, escaped-hex_text}
use Rattle.hex.specs.Hex.{IsBytes}
use Rattle.std.specs.List.{join_with_byte}
use Rattle.std.proofs.lemmas.Option.{slice_get-map, slice_get-get_or}
use Rattle.bd_value.proofs.ViewLemmas.{next_at}
use Rattle.std.proofs.lemmas.Grind.{flat_map-append}

-- ---- the scalars; the strings here need no escape

pub written-int64 : (old : List ℕ) (z : ℤ) → mag z < 2 ^ 63
    → ((old ++ codes "{\"$numberLong\":\"") ++ signed_decimal z) ++ codes "\"}" ≡ old ++ scalar_text (int64 z)
unfolding scalar_text quoted escape_byte
written-int64 old z small = simp (append_assoc, escaped-signed_decimal z small)

-- the text of binary data was written
pub written-binary : (old bytes : List ℕ) (k : ℕ) → IsBytes bytes → IsBytes (k ∷ [])
    → ((((old ++ codes "{\"$binary\":{\"base64\":\"") ++ base64_text bytes) ++ codes "\",\"subType\":\"") ++ hex_text (k ∷ [])) ++ codes "\"}}" ≡ old ++ scalar_text (binary k bytes)
unfolding scalar_text quoted escape_byte
written-binary old bytes k fits byte = simp (append_assoc, escaped-base64_text bytes fits, escaped-hex_text (k ∷ []) byte)

pub written-regex : (p o : List ℕ)
    → ((codes "{\"$regularExpression\":{\"pattern\":" ++ quoted p) ++ (codes ",\"options\":" ++ quoted o)) ++ codes "}}" ≡ scalar_text (regex p o)
unfolding scalar_text quoted escape_byte
written-regex p o = simp append_assoc

pub written-db_pointer : (old s id : List ℕ) → IsBytes id
    → (((old ++ (codes "{\"$dbPointer\":{\"$ref\":" ++ quoted s)) ++ codes ",\"$id\":{\"$oid\":\"") ++ hex_text id) ++ codes "\"}}}" ≡ old ++ scalar_text (db_pointer s id)
unfolding scalar_text quoted escape_byte
written-db_pointer old s id fits = simp (append_assoc, escaped-hex_text id fits)

-- these are the steps of the functions that name them, and so begin with the whole text

pub object_id_pieces : (old id : List ℕ) → IsBytes id → old ++ scalar_text (object_id id) ≡ ((old ++ codes "{\"$oid\":\"") ++ hex_text id) ++ codes "\"}"
unfolding scalar_text quoted escape_byte
object_id_pieces old id fits = simp (append_assoc, escaped-hex_text id fits)

two_members : (old n a x b y : List ℕ) → old ++ wrapper_text n (object (member a x ∷ member b y ∷ []))
    ≡ old ++ 123 ∷ (quoted n ++ 58 ∷ 123 ∷ (quoted a ++ 58 ∷ (x ++ 44 ∷ (quoted b ++ 58 ∷ (y ++ 125 ∷ 125 ∷ [])))))
two_members old n a x b y =
    let end : List ℕ = 125 ∷ [] in
    let last = append_assoc (quoted b) (58 ∷ (y ++ end)) end ∙ ap (λ (l : List ℕ). quoted b ++ 58 ∷ l) (append_assoc y end end) in
    simp append_assoc (ap (λ (l : List ℕ). old ++ 123 ∷ (quoted n ++ 58 ∷ 123 ∷ (quoted a ++ 58 ∷ l)))
    (append_assoc x (44 ∷ (quoted b ++ 58 ∷ (y ++ end))) end ∙ ap (λ (l : List ℕ). x ++ 44 ∷ l) last))

pub timestamp_pieces : (old : List ℕ) (s i : ℕ)
    → old ++ scalar_text (timestamp s i) ≡ ((((old ++ codes "{\"$timestamp\":{\"t\":") ++ decimal s) ++ codes ",\"i\":") ++ decimal i) ++ codes "}}"
unfolding scalar_text quoted escape_byte
timestamp_pieces old s i = two_members old (codes "$timestamp") (codes "t") (decimal s) (codes "i") (decimal i) ∙ simp append_assoc

pub int32_pieces : (old : List ℕ) (z : ℤ) → FitsSigned w32 z
    → old ++ scalar_text (int32 z) ≡ ((old ++ codes "{\"$numberInt\":\"") ++ signed_decimal z) ++ codes "\"}"
unfolding scalar_text quoted escape_byte
int32_pieces old z fits = simp (append_assoc, escaped-signed_decimal z (fits_32 z fits))

pub date_pieces : (old : List ℕ) (z : ℤ) → FitsSigned w64 z
    → old ++ scalar_text (date z) ≡ ((old ++ codes "{\"$date\":{\"$numberLong\":\"") ++ signed_decimal z) ++ codes "\"}}"
unfolding scalar_text quoted escape_byte
date_pieces old z fits = simp (append_assoc, escaped-signed_decimal z (fits_64 z fits))

pub widened : (z : ℤ) → FitsSigned w32 z → to_z w64 (of_z w64 z) ≡ z
widened z fits = to_z-of_z w64 z (wider z fits)

-- the number that `put_signed` is given, and the text around it
pub ruleset int32_steps = (int32_pieces, to_z-of_z, widened)

pub ruleset date_steps = (date_pieces, to_z-of_z)

written-code_scope : (s : List ℕ) (fs : Fields)
    → (((codes "{\"$code\":" ++ quoted s) ++ codes ",\"$scope\":") ++ text (doc fs)) ++ 125 ∷ [] ≡ text (code_scope s fs)
unfolding quoted escape_byte
written-code_scope s fs = simp append_assoc

-- ---- the text and the size of a value from its parts

pub text_of-doc : (t : Tree) (ps : Doc) → kind_of t ≡ kinds.Doc → AreParts t ps → text (doc (fields_of ps)) ≡ text t
text_of-doc (doc fs) ps is are = ap (λ (x : Doc). text (doc (fields_of x))) are ∙ ap (λ x. text (doc x)) (fields_of-pairs_of fs)
text_of-doc _ ps is are = absurd (search rules)

pub text_of-array : (t : Tree) (ps : Doc) → kind_of t ≡ kinds.Array → AreParts t ps → text (array (items_of (values_of ps))) ≡ text t
text_of-array (array ts) ps is are = ap (λ (x : List Tree). text (array (items_of x))) are ∙ ap (λ x. text (array x)) (items_of-list_of ts)
text_of-array _ ps is are = absurd (search rules)

values_size : (ps : Doc) → fields_size (fields_of ps) ≡ items_size (items_of (values_of ps))
values_size [] = refl
values_size (p ∷ ps) = ap (λ n. suc (tree_size p.1) + n) (values_size ps)

pub parts_smaller : (t : Tree) (ps : Doc) → AreParts t ps → fields_size (fields_of ps) ≤ tree_size t
parts_smaller (doc fs) ps are =
    let e = ap (λ (x : Doc). fields_size (fields_of x)) are ∙ ap fields_size (fields_of-pairs_of fs) in
    omega (arith, e)
parts_smaller (array ts) ps are =
    let e = values_size ps ∙ ap (λ (x : List Tree). items_size (items_of x)) are ∙ ap items_size (items_of-list_of ts) in
    omega (arith, e)
parts_smaller _ ps are = absurd are

pub rest_smaller : (ps rest : Doc) (n : List ℕ) (t : Tree) → ps ≡ (n, t) ∷ rest → fields_size (fields_of rest) ≤ fields_size (fields_of ps)
rest_smaller ps rest n t is = let e = ap (λ (x : Doc). fields_size (fields_of x)) is in omega (arith, e)

pub scope_smaller : (t u : Tree) → Some u ≡ scope_of t → tree_size u < tree_size t
scope_smaller (code_scope c fs) u scope = let same : u ≡ doc fs = cc in rw same (omega arith)
scope_smaller _ u scope = absurd cc

pub text_of-scope : (c : List ℕ) (t u : Tree) → Some (code_leaf c) ≡ leaf_of t → Some u ≡ scope_of t
    → (((codes "{\"$code\":" ++ quoted c) ++ codes ",\"$scope\":") ++ text u) ++ 125 ∷ [] ≡ text t
text_of-scope c (code_scope s fs) u scalar_of scope =
    let same : c ≡ s = cc in
    let inside : u ≡ doc fs = cc in
    rw (same, inside) (written-code_scope s fs)
text_of-scope c _ u scalar_of scope = absurd cc

-- a value that is not code with scope is its scalar
pub text_of_scalar : (t : Tree) (s : Scalar) → Some (scalar_leaf s) ≡ leaf_of t → text t ≡ scalar_text s
text_of_scalar (leaf u) s is = let same : s ≡ u = cc in ap scalar_text (sym same)
text_of_scalar _ s is = absurd cc

-- ---- which values are scalars, and which of them have a short text

pub some_scalar : (t : Tree) → (kind_of t ≡ kinds.Doc → ⊥) → (kind_of t ≡ kinds.Array → ⊥) → (kind_of t ≡ kinds.CodeScope → ⊥) → (s : Scalar) × (t ≡ leaf s)
some_scalar (leaf s) a b c = (s, refl)
some_scalar (doc fs) a b c = absurd (a refl)
some_scalar (array ts) a b c = absurd (b refl)
some_scalar (code_scope s fs) a b c = absurd (c refl)

pub short_text : (t : Tree) (s : Scalar) → t ≡ leaf s → (kind_of t ≡ kinds.Text → ⊥) → (kind_of t ≡ kinds.Symbol → ⊥) → (kind_of t ≡ kinds.Code → ⊥) → (kind_of t ≡ kinds.Binary → ⊥)
    → (kind_of t ≡ kinds.Regex → ⊥) → (kind_of t ≡ kinds.DbPointer → ⊥) → HasShortText t
short_text (leaf (trees.text s)) u is a b c d e f = absurd (a refl)
short_text (leaf (symbol s)) u is a b c d e f = absurd (b refl)
short_text (leaf (code s)) u is a b c d e f = absurd (c refl)
short_text (leaf (binary k s)) u is a b c d e f = absurd (d refl)
short_text (leaf (regex p o)) u is a b c d e f = absurd (e refl)
short_text (leaf (db_pointer s i)) u is a b c d e f = absurd (f refl)
short_text (leaf _) u is a b c d e f = tt
short_text _ u is a b c d e f = absurd cc

-- ---- pieces one after the other, with a separator between each two

-- the separator before a piece, unless it is the first
abbrev pub before : Bool → ℕ → List ℕ
before later separator = if later then separator ∷ [] else []

-- what remains: these pieces, and a separator before each but the first of all
abbrev pub to_come : Bool → ℕ → List (List ℕ) → List ℕ
to_come later separator [] = []
to_come later separator (x ∷ xs) = before later separator ++ (x ++ to_come true separator xs)

after : (c : ℕ) (x : List ℕ) (xs : List (List ℕ)) → x ++ to_come true c xs ≡ join_with_byte c (x ∷ xs)
after c x [] = append-nil x
after c x (y ∷ ys) = ap (λ (l : List ℕ). x ++ c ∷ l) (after c y ys)

-- at the start all pieces remain, joined by the separator
pub to_come-all : (c : ℕ) (xs : List (List ℕ)) → to_come false c xs ≡ join_with_byte c xs
to_come-all c [] = refl
to_come-all c (x ∷ xs) = after c x xs

-- a separator and a piece are written
pub piece_step : (later : Bool) (c : ℕ) (x : List ℕ) (pieces xs : List (List ℕ)) (out end total : List ℕ) → pieces ≡ x ∷ xs → out ++ (to_come later c pieces ++ end) ≡ total
    → ((out ++ before later c) ++ x) ++ (to_come true c xs ++ end) ≡ total
piece_step later c x pieces xs out end total is so_far =
    let whole : out ++ ((before later c ++ (x ++ to_come true c xs)) ++ end) ≡ total = subst (λ (p : List (List ℕ)). out ++ (to_come later c p ++ end) ≡ total) is so_far in
    simp append_assoc (simp append_assoc at whole)

escaped-before : (later : Bool) → escaped (before later 46) ≡ before later 46
unfolding escape_byte
escaped-before true = refl
escaped-before false = refl

-- the same for names inside one string
name_step : (later : Bool) (x : List ℕ) (pieces xs : List (List ℕ)) (out total : List ℕ) → pieces ≡ x ∷ xs → out ++ escaped (to_come later 46 pieces) ≡ total
    → ((out ++ before later 46) ++ escaped x) ++ escaped (to_come true 46 xs) ≡ total
name_step later x pieces xs out total is so_far =
    let whole : out ++ escaped (before later 46 ++ (x ++ to_come true 46 xs)) ≡ total = subst (λ (p : List (List ℕ)). out ++ escaped (to_come later 46 p) ≡ total) is so_far in
    let splits : escaped (before later 46 ++ (x ++ to_come true 46 xs)) ≡ before later 46 ++ (escaped x ++ escaped (to_come true 46 xs)) =
    flat_map-append escape_byte (before later 46) (x ++ to_come true 46 xs)
    ∙ ap₂ (λ (a b : List ℕ). a ++ b) (escaped-before later) (flat_map-append escape_byte x (to_come true 46 xs)) in
    simp append_assoc (ap (λ (l : List ℕ). out ++ l) (sym splits) ∙ whole)

-- the same for what was written
pub name_written : (later : Bool) (given x : List ℕ) (pieces xs : List (List ℕ)) (old separated out total : List ℕ)
    → separated ≡ old ++ before later 46 → out ≡ separated ++ escaped given → given ≡ x → pieces ≡ x ∷ xs
    → old ++ escaped (to_come later 46 pieces) ≡ total → out ++ escaped (to_come true 46 xs) ≡ total
name_written later given x pieces xs old separated out total dot put same is so_far = rw (put, dot, same) (name_step later x pieces xs old total is so_far)

-- the elements of a mapped list at an index and after it
pub drop-map : {A B : Type 0} (f : A → B) (xs : List A) (i : ℕ) (x : A) → i < length xs → x ≡ get_or xs i x → drop i (map f xs) ≡ f x ∷ drop (i + 1) (map f xs)
drop-map f xs i x inside is = next_at (map f xs) i (f x) (slice_get-map f xs i ∙ rw (slice_get-get_or xs i x inside, ← is) refl)

-- ---- a pair of a document is written

regroup : (a b n t : List ℕ) → (a ++ (b ++ (n ++ 58 ∷ []))) ++ t ≡ (a ++ b) ++ (n ++ 58 ∷ t)
regroup a b n t = simp append_assoc

pub field_step : (later : Bool) (n : List ℕ) (t : Tree) (ps rest : Doc) (old named out end total : List ℕ)
    → named ≡ old ++ (before later 44 ++ (quoted n ++ 58 ∷ [])) → out ≡ named ++ text t
    → ps ≡ (n, t) ∷ rest → old ++ (to_come later 44 (fields_text (fields_of ps)) ++ end) ≡ total
    → out ++ (to_come true 44 (fields_text (fields_of rest)) ++ end) ≡ total
field_step later n t ps rest old named out end total m o is so_far =
    let pieces = ap (λ (x : Doc). fields_text (fields_of x)) is in
    let written : out ≡ (old ++ before later 44) ++ member n (text t) = o ∙ rw m (regroup old (before later 44) (quoted n) (text t)) in
    rw written (piece_step later 44 (member n (text t)) (fields_text (fields_of ps)) (fields_text (fields_of rest)) old end total pieces so_far)

pub item_step : (later : Bool) (t : Tree) (ps rest : Doc) (old separated out end total : List ℕ) → separated ≡ old ++ before later 44 → out ≡ separated ++ text t
    → values_of ps ≡ t ∷ values_of rest → old ++ (to_come later 44 (items_text (items_of (values_of ps))) ++ end) ≡ total
    → out ++ (to_come true 44 (items_text (items_of (values_of rest))) ++ end) ≡ total
item_step later t ps rest old separated out end total s o is so_far =
    let pieces = ap (λ (x : List Tree). items_text (items_of x)) is in
    let written : out ≡ (old ++ before later 44) ++ text t = o ∙ ap (λ (l : List ℕ). l ++ text t) s in
    rw written (piece_step later 44 (text t) (items_text (items_of (values_of ps))) (items_text (items_of (values_of rest))) old end total pieces so_far)
