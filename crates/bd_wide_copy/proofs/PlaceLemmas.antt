-- Where the values of a document by value are: the type byte and the size of each, and the parts of those that contain values.
use Rattle.std.proofs.Common.{◌≡◌, ℕ, ℤ, ◌+◌, ◌-◌, ◌≤◌, List, [], ◌∷◌, ◌++◌, length, take, drop, Option, Some, None, refl, sym, ap, ◌∙◌, subst, arith, append_assoc, length-append, take_at, drop_at, Bool, false, nat_lt, ◌==◌, ◌||◌, not, if◌then◌else◌, inl, inr, ◌⊎◌}
use Rattle.std.proofs.lemmas.{Bool.Decides.nat_tests}
use Rattle.bd_value.specs.declared.node.Kind.TheVariants as kinds
use Rattle.bd_value.specs.{Limits.longest_document, View.scalar_kind}
use Rattle.bd_value.specs.Tree as trees
use Rattle.bd_value.specs.Tree.{Scalar, Tree, leaf, doc, array, code_scope, Items, Fields}
use Rattle.bd_bson_view.specs.declared.raw_parts.ElementType.{ElementType}
use Rattle.bd_bson_view.specs.declared.raw_parts.ElementType.TheVariants.{Kept}
use Rattle.bd_bson_view.specs.Spelling.{type_byte, type_at, number, string, framed, scoped, element, IsName, IsText, IsScalar, NumberKind, as_double, as_int32, as_int64, as_decimal128, number_type, number_byte, number_size, IsNumber, IsValuedScalar, written_typed}
use Rattle.bd_bson_view.specs.Sizes.{number_of}
use Rattle.bd_bson_view.specs.Unique.{type_is, number_length, number_after, number_prefix, string_number, string_length, framed_after}
use Rattle.bd_bson_view.proofs.ValueAtLemmas as values
use Rattle.bd_wide.specs.declared.element.Part.TheVariants as parts
use Rattle.bd_wide.specs.Rewritten.{◌>>=◌, counted, first_zero, size_at, first_element, part_of, scope_at}
use Rattle.bd_wide.proofs.SpelledLemmas.{zero_there, fixed_there, counted_there, scalar_there}
use Rattle.bd_wide_copy.specs.Copy.{number_as}
use Rattle.bd_wide_copy.specs.Numbers.{scalar_numbers}

-- ---- how many bytes a holder has

pub framed_number : (body r : List ℕ) → length (framed body) ≤ longest_document → number_of (framed body ++ r) ≡ length (framed body)
framed_number body r short =
    let size = values.framed_length body in
    ap number_of (framed_after body r) ∙ number_prefix (length body + 5) (body ++ 0 ∷ r) (omega (arith, size, short)) ∙ sym size

pub framed_there : (body v r : List ℕ) → v ≡ framed body → length v ≤ longest_document → counted 5 0 (v ++ r) ≡ Some (length v)
framed_there body v r is short =
    let size : length v ≡ length body + 5 = ap (λ (x : List ℕ). length x) is ∙ values.framed_length body in
    let same : number_of (v ++ r) ≡ length v = ap (λ (x : List ℕ). number_of (x ++ r)) is
    ∙ framed_number body r (subst (λ (x : List ℕ). length x ≤ longest_document) is short) ∙ ap (λ (x : List ℕ). length x) (sym is) in
    counted_there 5 0 v r (omega (arith, size)) (omega (arith, size, same)) (omega (arith, same))

pub scoped_there : (code body v r : List ℕ) → v ≡ scoped code (framed body) → length v ≤ longest_document → counted 14 0 (v ++ r) ≡ Some (length v)
scoped_there code body v r is short =
    let size : length v ≡ length (string code ++ framed body) + 4 = ap (λ (x : List ℕ). length x) is ∙ values.scoped_length code (framed body) in
    let least : 14 ≤ length v = omega (arith, size, length-append (string code) (framed body), string_length code, values.framed_length body) in
    let same : number_of (v ++ r) ≡ length v = ap (λ (x : List ℕ). number_of (x ++ r)) is ∙ ap number_of (append_assoc (number (length (string code ++ framed body) + 4)) (string code ++ framed body) r)
    ∙ number_prefix (length (string code ++ framed body) + 4) ((string code ++ framed body) ++ r) (omega (arith, size, short)) ∙ sym size in
    counted_there 14 0 v r (omega (arith, least)) (omega (arith, least, same)) (omega (arith, same))

-- the first element: its type byte, its name, a value of a known size
pub first_there : (b : ℕ) (type : ElementType) (name v r : List ℕ) → IsName name → type_at b ≡ Some type → size_at type (v ++ r) ≡ Some (length v)
    → first_element (b ∷ (name ++ 0 ∷ (v ++ r))) ≡ Some (type, length name + 2, length v)
unfolding first_element
first_there b type name v r named typed sized =
    let tail : List ℕ = name ++ 0 ∷ (v ++ r) in
    let after : drop (length name + 1) tail ≡ v ++ r =
    ap (drop (length name + 1)) (sym (append_assoc name (0 ∷ []) (v ++ r))) ∙ drop_at (name ++ 0 ∷ []) (v ++ r) (length name + 1) (length-append name (0 ∷ [])) in
    ap (λ (o : Option ElementType). o >>= λ type. first_zero tail >>= λ k. size_at type (drop (k + 1) tail) >>= λ n. Some (type, k + 2, n)) typed
    ∙ ap (λ (o : Option ℕ). o >>= λ k. size_at type (drop (k + 1) tail) >>= λ n. Some (type, k + 2, n)) (zero_there name (v ++ r) named)
    ∙ ap (λ (o : Option ℕ). o >>= λ n. Some (type, length name + 2, n)) (ap (size_at type) after ∙ sized)

-- ---- the parts of framed bytes

-- the elements between the length and the last zero
pub inner_is : (body : List ℕ) → take (length (framed body) - 5) (drop 4 (framed body)) ≡ body
inner_is body =
    ap (take (length (framed body) - 5)) (number_after (length body + 5) (body ++ 0 ∷ [])) ∙ take_at body (0 ∷ []) (length (framed body) - 5) (omega (arith, values.framed_length body))

-- the scope of code with scope
pub scope_is : (code body : List ℕ) → drop (8 + (length code + 1)) (scoped code (framed body)) ≡ framed body
scope_is code body =
    let scope : List ℕ = framed body in
    let head : List ℕ = number (length (string code ++ scope) + 4) in
    ap (drop (8 + (length code + 1))) (sym (append_assoc head (string code) scope))
    ∙ drop_at (head ++ string code) scope (8 + (length code + 1)) (omega (arith, length-append head (string code), number_length (length (string code ++ scope) + 4), string_length code))

-- where the scope of code with scope begins
scope_tests : (count size n : ℕ) → 1 ≤ count → 8 + count + 5 ≤ size → n ≡ size - (8 + count)
    → (count == 0 || nat_lt size (8 + count + 5) || not (n == size - (8 + count))) ≡ false
scope_tests count size n some fits same = grind (arith, nat_tests)

pub scope_there : (code body : List ℕ) → IsText code → length (scoped code (framed body)) ≤ longest_document
    → scope_at (scoped code (framed body)) ≡ Some (8 + (length code + 1))
unfolding scope_at
scope_there code body text short =
    let scope : List ℕ = framed body in
    let value : List ℕ = scoped code scope in
    let rest : drop 4 value ≡ string code ++ scope = number_after (length (string code ++ scope) + 4) (string code ++ scope) in
    let count : number_of (drop 4 value) ≡ length code + 1 = ap number_of rest ∙ string_number code scope text.1 in
    let size : length value ≡ 8 + (length code + 1) + length scope =
    omega (arith, values.scoped_length code scope, length-append (string code) scope, string_length code) in
    let splits : drop (8 + (length code + 1)) value ≡ scope = scope_is code body in
    let framed_size = values.framed_length body in
    let nil : scope ++ [] ≡ scope = simp append_assoc in
    let there : number_of (drop (8 + (length code + 1)) value) ≡ length value - (8 + (length code + 1)) =
    ap number_of splits ∙ ap number_of (sym nil) ∙ framed_number body [] (omega (arith, size, short)) ∙ omega (arith, size) in
    ap (λ k. if (k == 0 || nat_lt (length value) (8 + k + 5) || not (number_of (drop (8 + k) value) == length value - (8 + k))) then None else Some (8 + k)) count
    ∙ ap (λ (b : Bool). if b then None else Some (8 + (length code + 1)))
    (scope_tests (length code + 1) (length value) (number_of (drop (8 + (length code + 1)) value)) (omega arith) (omega (arith, size, framed_size)) there)

-- ---- numbers

pub number_typed : (k : NumberKind) → type_at (number_byte k) ≡ Some (number_type k)
number_typed as_double = refl
number_typed as_int32 = refl
number_typed as_int64 = refl
number_typed as_decimal128 = refl

pub number_there : (k : NumberKind) (v r : List ℕ) → length v ≡ number_size k → size_at (number_type k) (v ++ r) ≡ Some (length v)
unfolding size_at
number_there as_double v r size = fixed_there 8 v r (sym size)
number_there as_int32 v r size = fixed_there 4 v r (sym size)
number_there as_int64 v r size = fixed_there 8 v r (sym size)
number_there as_decimal128 v r size = fixed_there 16 v r (sym size)

pub number_part : (k : NumberKind) → part_of (number_type k) ≡ Some parts.Number
unfolding part_of
number_part as_double = refl
number_part as_int32 = refl
number_part as_int64 = refl
number_part as_decimal128 = refl

-- ---- the element of a value

pub placed : (b : ℕ) (name v r : List ℕ) → (b ∷ (name ++ 0 ∷ v)) ++ r ≡ b ∷ (name ++ 0 ∷ (v ++ r))
placed b name v r = ap (λ (x : List ℕ). b ∷ x) (append_assoc name (0 ∷ v) r)

pub doc_sized : (body value r : List ℕ) → value ≡ framed body → length value ≤ longest_document → size_at (Kept kinds.Doc) (value ++ r) ≡ Some (length value)
unfolding size_at
doc_sized body value r is short = framed_there body value r is short

pub array_sized : (body value r : List ℕ) → value ≡ framed body → length value ≤ longest_document → size_at (Kept kinds.Array) (value ++ r) ≡ Some (length value)
unfolding size_at
array_sized body value r is short = framed_there body value r is short

pub code_sized : (code body value r : List ℕ) → value ≡ scoped code (framed body) → length value ≤ longest_document
    → size_at (Kept kinds.CodeScope) (value ++ r) ≡ Some (length value)
unfolding size_at
code_sized code body value r is short = scoped_there code body value r is short

-- In the element of a value, whose spelling this is: its type byte and type, and its bare bytes, of a known size.
pub record Place (t : Tree) (value : List ℕ) : Type 0 where
  pub byte : ℕ
  pub type : ElementType
  pub bare : List ℕ
  pub written : (name r : List ℕ) → written_typed t name value ++ r ≡ byte ∷ (name ++ 0 ∷ (bare ++ r))
  pub typed : type_at byte ≡ Some type
  pub sized : (r : List ℕ) → size_at type (bare ++ r) ≡ Some (length bare)

abbrev pub number_place : (worth : ElementType → List ℕ → ℤ) (z : ℤ) (value : List ℕ) → IsNumber worth z value → Place (leaf (trees.int64 z)) value
number_place worth z value n = record {
  byte = number_byte n.kind;
  type = number_type n.kind;
  bare = n.value;
  written = λ name r. ap (λ (x : List ℕ). written_typed (leaf (trees.int64 z)) name x ++ r) n.typed ∙ placed (number_byte n.kind) name n.value r;
  typed = number_typed n.kind;
  sized = λ r. number_there n.kind n.value r n.sized;
}

-- A scalar that is not a number: its bytes are those of the nineteen kinds, nothing in it is examined, and it stays.
pub record Other (a : Scalar) (value : List ℕ) : Type 0 where
  pub spells : IsScalar a value
  pub written : (name : List ℕ) → written_typed (leaf a) name value ≡ element (leaf a) name value
  pub not_examined : part_of (Kept (scalar_kind a)) ≡ None
  pub stays : (c : ℤ → Scalar) → number_as c a ≡ a
  pub has_none : scalar_numbers a ≡ []

abbrev pub other_place : (a : Scalar) (value : List ℕ) → Other a value → Place (leaf a) value
other_place a value o = record {
  byte = type_byte (scalar_kind a);
  type = Kept (scalar_kind a);
  bare = value;
  written = λ name r. ap (λ (x : List ℕ). x ++ r) (o.written name) ∙ placed (type_byte (scalar_kind a)) name value r;
  typed = type_is (scalar_kind a);
  sized = λ r. scalar_there a value r o.spells;
}

abbrev pub doc_place : (fs : Fields) (body value : List ℕ) → value ≡ framed body → length value ≤ longest_document → Place (doc fs) value
doc_place fs body value is short = record {
  byte = type_byte kinds.Doc;
  type = Kept kinds.Doc;
  bare = value;
  written = λ name r. placed (type_byte kinds.Doc) name value r;
  typed = refl;
  sized = λ r. doc_sized body value r is short;
}

abbrev pub array_place : (ts : Items) (body value : List ℕ) → value ≡ framed body → length value ≤ longest_document → Place (array ts) value
array_place ts body value is short = record {
  byte = type_byte kinds.Array;
  type = Kept kinds.Array;
  bare = value;
  written = λ name r. placed (type_byte kinds.Array) name value r;
  typed = refl;
  sized = λ r. array_sized body value r is short;
}

abbrev pub code_place : (code : List ℕ) (fs : Fields) (body value : List ℕ) → value ≡ scoped code (framed body) → length value ≤ longest_document → Place (code_scope code fs) value
code_place code fs body value is short = record {
  byte = type_byte kinds.CodeScope;
  type = Kept kinds.CodeScope;
  bare = value;
  written = λ name r. placed (type_byte kinds.CodeScope) name value r;
  typed = refl;
  sized = λ r. code_sized code body value r is short;
}

-- a scalar by value is a number or any other scalar
module _ (worth : ElementType → List ℕ → ℤ) where
  other : (a : Scalar) (value : List ℕ) → IsScalar a value → ((name : List ℕ) → written_typed (leaf a) name value ≡ element (leaf a) name value)
      → part_of (Kept (scalar_kind a)) ≡ None → ((c : ℤ → Scalar) → number_as c a ≡ a) → scalar_numbers a ≡ []
      → ((z : ℤ) × (a ≡ trees.int64 z) × IsNumber worth z value) ⊎ Other a value
  other a value spells written not_examined stays has_none = inr (record { spells = spells; written = written; not_examined = not_examined; stays = stays; has_none = has_none })

  pub number_or_other : (a : Scalar) (value : List ℕ) → IsValuedScalar worth a value → ((z : ℤ) × (a ≡ trees.int64 z) × IsNumber worth z value) ⊎ Other a value
  unfolding part_of
  number_or_other (trees.int32 z) value h = absurd h
  number_or_other (trees.int64 z) value h = inl (z, refl, h)
  number_or_other trees.min_key value h = other trees.min_key value h (λ name. refl) refl (λ c. refl) refl
  number_or_other trees.undefined value h = other trees.undefined value h (λ name. refl) refl (λ c. refl) refl
  number_or_other trees.null value h = other trees.null value h (λ name. refl) refl (λ c. refl) refl
  number_or_other (trees.text s) value h = other (trees.text s) value h (λ name. refl) refl (λ c. refl) refl
  number_or_other (trees.symbol s) value h = other (trees.symbol s) value h (λ name. refl) refl (λ c. refl) refl
  number_or_other (trees.binary k s) value h = other (trees.binary k s) value h (λ name. refl) refl (λ c. refl) refl
  number_or_other (trees.object_id s) value h = other (trees.object_id s) value h (λ name. refl) refl (λ c. refl) refl
  number_or_other (trees.boolean b) value h = other (trees.boolean b) value h (λ name. refl) refl (λ c. refl) refl
  number_or_other (trees.date z) value h = other (trees.date z) value h (λ name. refl) refl (λ c. refl) refl
  number_or_other (trees.timestamp s i) value h = other (trees.timestamp s i) value h (λ name. refl) refl (λ c. refl) refl
  number_or_other (trees.regex p o) value h = other (trees.regex p o) value h (λ name. refl) refl (λ c. refl) refl
  number_or_other (trees.db_pointer s i) value h = other (trees.db_pointer s i) value h (λ name. refl) refl (λ c. refl) refl
  number_or_other (trees.code s) value h = other (trees.code s) value h (λ name. refl) refl (λ c. refl) refl
  number_or_other trees.max_key value h = other trees.max_key value h (λ name. refl) refl (λ c. refl) refl

-- ---- lengths

-- the elements of a short value are short
pub body_short : (body value : List ℕ) → value ≡ framed body → length value ≤ longest_document → length body ≤ longest_document
body_short body value is short = omega (arith, short, ap (λ (x : List ℕ). length x) is, values.framed_length body)

pub code_short : (code body value : List ℕ) → value ≡ scoped code (framed body) → length value ≤ longest_document → length body ≤ longest_document
code_short code body value is short =
    omega (arith, short, ap (λ (x : List ℕ). length x) is, values.scoped_length code (framed body), length-append (string code) (framed body), values.framed_length body)

-- an element is longer than the value of a document, an array or code with scope
pub value_short : (b : ℕ) (name value : List ℕ) → length (b ∷ (name ++ 0 ∷ value)) ≤ longest_document → length value ≤ longest_document
value_short b name value short = omega (arith, short, length-append name (0 ∷ value))

pub parts_short : (one rest bytes : List ℕ) → bytes ≡ one ++ rest → length bytes ≤ longest_document → (length one ≤ longest_document) × (length rest ≤ longest_document)
parts_short one rest bytes is short =
    let size : length bytes ≡ length one + length rest = ap (λ (x : List ℕ). length x) is ∙ length-append one rest in
    (omega (arith, size, short), omega (arith, size, short))
