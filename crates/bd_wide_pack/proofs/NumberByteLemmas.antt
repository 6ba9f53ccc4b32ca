-- The bytes of documents and of their numbers, and the worths of these.
use Rattle.std.proofs.Common.{◌≡◌, ◌<◌, ◌==◌, ◌^◌, ℕ, zero, suc, ◌+◌, ℤ, pos, negsuc, true, false, cond, List, [], ◌∷◌, ◌++◌, length, take, drop, refl, ap, ◌∙◌, subst, arith, length-take, length-drop, ◌/◌, ◌%◌, decimal}
use Rattle.std.specs.Fmt.{digit_glyph, digits, digits_onto}
use Rattle.std.specs.Int.{w32, w64, cast_signed, cast_unsigned, from_le_bytes}
use Rattle.std.specs.Int.RustNames.{FitsSigned}
use Rattle.std.proofs.lemmas.Bool.{lt-ltb, ltb-true}
use Rattle.std.proofs.lemmas.Int.{ints, of_z-to_z, to_z-of_z}
use Rattle.std.proofs.lemmas.List.{take_all}
use Rattle.std.proofs.lemmas.Nat.{from_le_bytes-to_le_bytes_8, le_bytes_4, le_bytes_8}
use Rattle.bd_value.specs.declared.node.Kind.TheVariants as kinds
use Rattle.bd_value.specs.View.{kind_of}
use Rattle.bd_value.specs.Tree as trees
use Rattle.bd_value.specs.Tree.{Doc, Fields, Items, Scalar, Tree, code_scope, depth, doc, field, fields_depth, fields_of, fields_of-pairs_of, item, items_depth, leaf, no_fields, no_items, pairs_of}
use Rattle.bd_bson_view.specs.declared.raw_parts.ElementType.TheVariants as elements
use Rattle.bd_bson_view.specs.Sizes.{long_of, number_of}
use Rattle.bd_bson_view.specs.Unique.{number_length, number_value}
use Rattle.bd_bson_view.specs.Spelling.{framed, long, number, scalar_bytes, scoped, string, type_byte, written_typed}
use Rattle.bd_extjson_wrapper.specs.WholeNumber.{fits_bits}
use Rattle.bd_wide.specs.Numbers.{number_at}
use Rattle.bd_wide_dump.specs.WideText.{AreBytes}
use Rattle.bd_wide_number.specs.Value.{decimal128_value, double_value, value_of, whole_value}
use Rattle.bd_wide_rank.specs.Worth.{value_worth, worth}
use Rattle.bd_wide_pack.specs.inside.Printed.{bare}

-- ---- bytes

pub bytes_after : (xs ys : List ℕ) → AreBytes (xs ++ ys) → AreBytes ys
bytes_after [] ys h = h
bytes_after (x ∷ xs) ys h = bytes_after xs ys (λ i. h (suc i))

pub bytes_before : (xs ys : List ℕ) → AreBytes (xs ++ ys) → AreBytes xs
bytes_before [] ys h i = omega arith
bytes_before (x ∷ xs) ys h zero = h 0
bytes_before (x ∷ xs) ys h (suc i) = bytes_before xs ys (λ k. h (suc k)) i

-- the elements of a document
pub body_bytes : (body bytes : List ℕ) → AreBytes bytes → bytes ≡ framed body → AreBytes body
body_bytes body bytes h is = bytes_before body (0 ∷ []) (bytes_after (number (length body + 5)) (body ++ 0 ∷ []) (subst AreBytes is h))

-- the scope of code
pub scope_bytes : (code scope bytes : List ℕ) → AreBytes bytes → bytes ≡ scoped code scope → AreBytes scope
scope_bytes code scope bytes h is =
    bytes_after (string code) scope (bytes_after (number (length (string code ++ scope) + 4)) (string code ++ scope) (subst AreBytes is h))

-- the value of an element
named_bytes : (type : ℕ) (name value : List ℕ) → AreBytes (type ∷ (name ++ 0 ∷ value)) → AreBytes value
named_bytes type name value h i = bytes_after name (0 ∷ value) (λ k. h (suc k)) (suc i)

pub byte_and : (c : ℕ) (xs : List ℕ) → c < 256 → AreBytes xs → AreBytes (c ∷ xs)
byte_and c xs h k zero = h
byte_and c xs h k (suc i) = k i

typed_bytes : (t : Tree) (name value : List ℕ) → AreBytes (written_typed t name value) → AreBytes value
typed_bytes (leaf (trees.int64 z)) name [] h = named_bytes 18 name [] h
typed_bytes (leaf (trees.int64 z)) name (type ∷ value) h = byte_and type value (h 0) (named_bytes type name value h)
typed_bytes t name value h = named_bytes (type_byte (kind_of t)) name value h

-- the value of an element, and what follows the element
pub element_bytes : (t : Tree) (name value rest bytes : List ℕ) → AreBytes bytes → bytes ≡ written_typed t name value ++ rest → AreBytes value × AreBytes rest
element_bytes t name value rest bytes h is =
    let all : AreBytes (written_typed t name value ++ rest) = subst AreBytes is h in
    (typed_bytes t name value (bytes_before (written_typed t name value) rest all), bytes_after (written_typed t name value) rest all)

-- and the code
pub code_bytes : (code scope bytes : List ℕ) → AreBytes bytes → bytes ≡ scoped code scope → AreBytes (string code)
code_bytes code scope bytes h is =
    bytes_before (string code) scope (bytes_after (number (length (string code ++ scope) + 4)) (string code ++ scope) (subst AreBytes is h))

-- its name
typed_name : (t : Tree) (name value : List ℕ) → AreBytes (written_typed t name value) → AreBytes name
typed_name (leaf (trees.int64 z)) name [] h = bytes_before name (0 ∷ []) (λ k. h (suc k))
typed_name (leaf (trees.int64 z)) name (type ∷ value) h = bytes_before name (0 ∷ value) (λ k. h (suc k))
typed_name t name value h = bytes_before name (0 ∷ value) (λ k. h (suc k))

pub name_bytes : (t : Tree) (name value rest bytes : List ℕ) → AreBytes bytes → bytes ≡ written_typed t name value ++ rest → AreBytes name
name_bytes t name value rest bytes h is = typed_name t name value (bytes_before (written_typed t name value) rest (subst AreBytes is h))

-- ---- numbers

pub long_back : (xs : List ℕ) → AreBytes xs → length xs ≡ 8 → long (from_le_bytes w64 xs) ≡ xs
unfolding long
long_back xs fits size = le_bytes_8 xs _ size fits refl

pub below_64 : (xs : List ℕ) → AreBytes xs → from_le_bytes w64 xs < 2 ^ 64
below_64 xs b = omega (arith, b 0, b 1, b 2, b 3, b 4, b 5, b 6, b 7)

-- the two halves of a decimal128
pub halves : (value : List ℕ) → length value ≡ 16 → (length (take 8 value) ≡ 8) × (length (drop 8 value) ≡ 8) × (take 8 (drop 8 value) ≡ drop 8 value)
halves value size =
    let second : length (drop 8 value) ≡ 8 = omega (arith, length-drop 8 value, size) in
    (omega (arith, length-take 8 value, size), second, take_all 8 (drop 8 value) (omega (arith, second)))

pub int32_back : (value : List ℕ) → AreBytes value → length value ≡ 4 → (FitsSigned w32 (cast_signed w32 (number_of value))) × (scalar_bytes (trees.int32 (cast_signed w32 (number_of value))) ≡ value)
unfolding number
int32_back value b size =
    let same : take 4 value ≡ value = take_all 4 value (omega (arith, size)) in
    let n = from_le_bytes w32 value in
    let below : from_le_bytes w32 value < 2 ^ 32 = omega (arith, b 0, b 1, b 2, b 3) in
    let back : number (cast_unsigned w32 (cast_signed w32 n)) ≡ value = ap number (of_z-to_z w32 n below) ∙ le_bytes_4 value _ size b refl in
    rw same (search (arith, ints), back)

pub int64_back : (value : List ℕ) → AreBytes value → length value ≡ 8 → (FitsSigned w64 (cast_signed w64 (long_of value))) × (scalar_bytes (trees.int64 (cast_signed w64 (long_of value))) ≡ value)
unfolding long
int64_back value b size =
    let same : take 8 value ≡ value = take_all 8 value (omega (arith, size)) in
    let n = from_le_bytes w64 value in
    let below : from_le_bytes w64 value < 2 ^ 64 = below_64 value b in
    let back : long (cast_unsigned w64 (cast_signed w64 n)) ≡ value = ap long (of_z-to_z w64 n below) ∙ le_bytes_8 value _ size b refl in
    rw same (search (arith, ints), back)

-- the bytes of numbers are bytes

pub number_bytes : (n : ℕ) → AreBytes (number n)
unfolding number
number_bytes n zero = omega arith
number_bytes n (suc zero) = omega arith
number_bytes n (suc (suc zero)) = omega arith
number_bytes n (suc (suc (suc zero))) = omega arith
number_bytes n (suc (suc (suc (suc i)))) = omega arith

pub long_bytes : (n : ℕ) → AreBytes (long n)
unfolding long
long_bytes n zero = omega arith
long_bytes n (suc zero) = omega arith
long_bytes n (suc (suc zero)) = omega arith
long_bytes n (suc (suc (suc zero))) = omega arith
long_bytes n (suc (suc (suc (suc zero)))) = omega arith
long_bytes n (suc (suc (suc (suc (suc zero))))) = omega arith
long_bytes n (suc (suc (suc (suc (suc (suc zero)))))) = omega arith
long_bytes n (suc (suc (suc (suc (suc (suc (suc zero))))))) = omega arith
long_bytes n (suc (suc (suc (suc (suc (suc (suc (suc i)))))))) = omega arith

pub both_bytes : (xs ys : List ℕ) → AreBytes xs → AreBytes ys → AreBytes (xs ++ ys)
both_bytes [] ys f g i = g i
both_bytes (x ∷ xs) ys f g zero = f 0
both_bytes (x ∷ xs) ys f g (suc i) = both_bytes xs ys (λ k. f (suc k)) g i

-- ---- the bytes that are written are bytes

pub framed_bytes : (body : List ℕ) → AreBytes body → AreBytes (framed body)
framed_bytes body h = both_bytes (number (length body + 5)) (body ++ 0 ∷ []) (number_bytes (length body + 5)) (both_bytes body (0 ∷ []) h (byte_and 0 [] (omega arith) (λ i. omega arith)))

pub scoped_bytes : (code scope : List ℕ) → AreBytes (string code) → AreBytes scope → AreBytes (scoped code scope)
scoped_bytes code scope f h =
    both_bytes (number (length (string code ++ scope) + 4)) (string code ++ scope) (number_bytes (length (string code ++ scope) + 4)) (both_bytes (string code) scope f h)

element_fits : (type : ℕ) (name value : List ℕ) → type < 256 → AreBytes name → AreBytes value → AreBytes (type ∷ (name ++ 0 ∷ value))
element_fits type name value small f h = byte_and type (name ++ 0 ∷ value) small (both_bytes name (0 ∷ value) f (byte_and 0 value (omega arith) h))

pub typed_fits : (t : Tree) (name value : List ℕ) → AreBytes name → AreBytes value → AreBytes (written_typed t name value)
typed_fits (leaf (trees.int64 z)) name [] f h = element_fits 18 name [] (omega arith) f h
typed_fits (leaf (trees.int64 z)) name (type ∷ value) f h = element_fits type name value (h 0) f (λ i. h (suc i))
typed_fits t name value f h = element_fits (type_byte (kind_of t)) name value (omega arith) f h

onto_bytes : (k n : ℕ) (rest : List ℕ) → AreBytes rest → AreBytes (digits_onto k 10 false n rest)
onto_bytes zero n rest h = h
onto_bytes (suc k) n rest h =
    let low : n % 10 < 10 = omega arith in
    let small : digit_glyph false (n % 10) < 256 = rw (lt-ltb (n % 10) 10 low) (omega arith) in
    let more = digit_glyph false (n % 10) ∷ rest in
    let all : AreBytes more = byte_and (digit_glyph false (n % 10)) rest small h in
    elim (n / 10 == 0) as (λ t. AreBytes (cond t more (digits_onto k 10 false (n / 10) more))) [ true ↦ all | false ↦ onto_bytes k (n / 10) more all ]

pub index_bytes : (n : ℕ) → AreBytes (decimal n)
unfolding digits
index_bytes n = onto_bytes 64 n [] (λ i. omega arith)

-- ---- numbers again

pub long_again : (n : ℕ) → n < 2 ^ 64 → long_of (long n) ≡ n
unfolding long
long_again n small = from_le_bytes-to_le_bytes_8 n small

pub first_again : (n m : ℕ) → n < 2 ^ 64 → long_of (long n ++ long m) ≡ n
unfolding long
first_again n m small = from_le_bytes-to_le_bytes_8 n small

pub second_again : (n m : ℕ) → m < 2 ^ 64 → long_of (drop 8 (long n ++ long m)) ≡ m
unfolding long
second_again n m small = from_le_bytes-to_le_bytes_8 m small

pub two_longs : (n m : ℕ) → length (long n ++ long m) ≡ 16
unfolding long
two_longs n m = refl

pub one_long : (n : ℕ) → length (long n) ≡ 8
unfolding long
one_long n = refl

pub int32_again : (z : ℤ) → FitsSigned w32 z → cast_signed w32 (number_of (scalar_bytes (trees.int32 z))) ≡ z
int32_again z fits =
    let m = cast_unsigned w32 z in
    let small : m < 2 ^ 32 = search (arith, ints) in
    let all : take 4 (number m) ≡ number m = take_all 4 (number m) (omega (arith, number_length m)) in
    ap (λ (x : List ℕ). cast_signed w32 (from_le_bytes w32 x)) all ∙ ap (λ (n : ℕ). cast_signed w32 n) (number_value m small) ∙ to_z-of_z w32 z fits

-- ---- which whole numbers fit

pub small_fits : (z : ℤ) → FitsSigned w32 z → fits_bits 31 z ≡ true
small_fits (pos n) fits = lt-ltb n (2 ^ 31) (omega (arith, ints))
small_fits (negsuc n) fits = lt-ltb n (2 ^ 31) (omega (arith, ints))

pub fits_small : (z : ℤ) → fits_bits 31 z ≡ true → FitsSigned w32 z
fits_small (pos n) h = let small : n < 2 ^ 31 = ltb-true n (2 ^ 31) h in record { sfits = omega (arith, ints) }
fits_small (negsuc n) h = let small : n < 2 ^ 31 = ltb-true n (2 ^ 31) h in record { sfits = omega (arith, ints) }

pub bare_small : (z : ℤ) → fits_bits 31 z ≡ true → bare z ≡ trees.int32 z
bare_small z h = rw h refl

pub bare_large : (z : ℤ) → fits_bits 31 z ≡ false → bare z ≡ trees.int64 z
bare_large z h = rw h refl

-- ---- worths

pub whole_worth : (v w : List ℕ) → cast_signed w64 (long_of v) ≡ cast_signed w32 (number_of w) → worth (elements.Kept kinds.Int64) v ≡ worth (elements.Kept kinds.Int32) w
unfolding number_at value_of
whole_worth v w e = ap (λ (z : ℤ). value_worth (whole_value z)) e

pub double_worth : (v w : List ℕ) → double_value (long_of v) ≡ double_value (long_of w) → worth elements.Double v ≡ worth elements.Double w
unfolding number_at value_of
double_worth v w e = ap value_worth e

pub decimal_worth : (v w : List ℕ) → decimal128_value (long_of v) (long_of (drop 8 v)) ≡ decimal128_value (long_of w) (long_of (drop 8 w)) → worth elements.Decimal128 v ≡ worth elements.Decimal128 w
unfolding number_at value_of
decimal_worth v w e = ap value_worth e
