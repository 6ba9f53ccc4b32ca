-- What the first element of bytes, a scope and a whole document have at least.
use Rattle.std.proofs.Common.{◌≡◌, ℕ, ◌+◌, ◌-◌, ◌≤◌, List, [], ◌∷◌, length, drop, Option, Some, None, refl, sym, ap, arith, length-drop, Bool, true, false, if◌then◌else◌, nat_lt, ◌==◌, ◌||◌, not, subst}
use Rattle.std.proofs.lemmas.{Bool.Decides.nat_tests, List.Quantifiers.position-Some}
use Rattle.bd_value.specs.declared.node.Kind.TheVariants as kinds
use Rattle.bd_bson_view.specs.declared.raw_parts.ElementType.{ElementType}
use Rattle.bd_bson_view.specs.declared.raw_parts.ElementType.TheVariants.{Kept, Double, Decimal128}
use Rattle.bd_bson_view.specs.declared.raw_parts.Holder.TheVariants as holders
use Rattle.bd_bson_view.specs.{Spelling.type_at, Sizes.number_of}
use Rattle.bd_wide.specs.Rewritten.{◌>>=◌, Writes, fixed, counted, first_zero, two_texts, size_at, first_element, least, scope_at, IsNested, IsRewritten}

-- ---- sizes

fixed_cases : (b : Bool) (m l n : ℕ) → nat_lt l m ≡ b → (if b then None else Some m) ≡ Some n → (m ≡ n) × (n ≤ l)
fixed_cases true m l n at is = absurd cc
fixed_cases false m l n at is = let e : m ≡ n = cc in let le : m ≤ l = grind (arith, nat_tests, at) in (e, omega arith)

pub fixed_fits : (m : ℕ) (bytes : List ℕ) (n : ℕ) → fixed m bytes ≡ Some n → (m ≡ n) × (n ≤ length bytes)
fixed_fits m bytes n is = fixed_cases (nat_lt (length bytes) m) m (length bytes) n refl is

enough_there : (l n m : ℕ) → (nat_lt l 4 || nat_lt n m) ≡ false → m ≤ n
enough_there l n m at = grind (arith, nat_tests)

counted_cases : (b : Bool) (low others : ℕ) (bytes : List ℕ) (n : ℕ) → (nat_lt (length bytes) 4 || nat_lt (number_of bytes) low) ≡ b
    → (if b then None else fixed (number_of bytes + others) bytes) ≡ Some n → (low + others ≤ n) × (n ≤ length bytes)
counted_cases true low others bytes n at is = absurd cc
counted_cases false low others bytes n at is =
    let f = fixed_fits (number_of bytes + others) bytes n is in
    let most = enough_there (length bytes) (number_of bytes) low at in
    (omega (arith, f.0, most), f.1)

pub counted_fits : (low others : ℕ) (bytes : List ℕ) (n : ℕ) → counted low others bytes ≡ Some n → (low + others ≤ n) × (n ≤ length bytes)
counted_fits low others bytes n is = counted_cases (nat_lt (length bytes) 4 || nat_lt (number_of bytes) low) low others bytes n refl is

two_zeros : (bytes : List ℕ) (p q : Option ℕ) (n : ℕ) → first_zero bytes ≡ p → ((k : ℕ) → p ≡ Some k → first_zero (drop (k + 1) bytes) ≡ q)
    → (p >>= λ pattern. q >>= λ options. Some (pattern + 1 + (options + 1))) ≡ Some n → n ≤ length bytes
two_zeros bytes None q n one two is = absurd cc
two_zeros bytes (Some k) None n one two is = absurd cc
two_zeros bytes (Some k) (Some m) n one two is =
    let e : k + 1 + (m + 1) ≡ n = cc in
    let a = position-Some (λ b. b == 0) bytes k 0 one in
    let b = position-Some (λ b. b == 0) (drop (k + 1) bytes) m 0 (two k refl) in
    omega (arith, a.0, b.0, length-drop (k + 1) bytes)

regex_fits : (bytes : List ℕ) (n : ℕ) → two_texts bytes ≡ Some n → n ≤ length bytes
unfolding two_texts
regex_fits bytes n is = elim (first_zero bytes) as (λ p. first_zero bytes ≡ p → (p >>= λ pattern. first_zero (drop (pattern + 1) bytes) >>= λ options. Some (pattern + 1 + (options + 1))) ≡ Some n → n ≤ length bytes) [
  | None ↦ λ one h. absurd cc
  | Some k ↦ λ one h. two_zeros bytes (Some k) (first_zero (drop (k + 1) bytes)) n one (λ m same. let e : k ≡ m = cc in ap (λ j. first_zero (drop (j + 1) bytes)) (sym e)) h
] refl is

pub size_fits : (t : ElementType) (bytes : List ℕ) (n : ℕ) → size_at t bytes ≡ Some n → (least t ≤ n) × (n ≤ length bytes)
unfolding size_at least
size_fits Double bytes n is = let f = fixed_fits 8 bytes n is in (omega (arith, f.0), f.1)
size_fits Decimal128 bytes n is = let f = fixed_fits 16 bytes n is in (omega (arith, f.0), f.1)
size_fits (Kept kinds.Bool) bytes n is = let f = fixed_fits 1 bytes n is in (omega arith, f.1)
size_fits (Kept kinds.Int32) bytes n is = let f = fixed_fits 4 bytes n is in (omega (arith, f.0), f.1)
size_fits (Kept kinds.Int64) bytes n is = let f = fixed_fits 8 bytes n is in (omega (arith, f.0), f.1)
size_fits (Kept kinds.Date) bytes n is = let f = fixed_fits 8 bytes n is in (omega arith, f.1)
size_fits (Kept kinds.Timestamp) bytes n is = let f = fixed_fits 8 bytes n is in (omega arith, f.1)
size_fits (Kept kinds.ObjectId) bytes n is = let f = fixed_fits 12 bytes n is in (omega arith, f.1)
size_fits (Kept kinds.Text) bytes n is = let f = counted_fits 1 4 bytes n is in (omega arith, f.1)
size_fits (Kept kinds.Symbol) bytes n is = let f = counted_fits 1 4 bytes n is in (omega arith, f.1)
size_fits (Kept kinds.Code) bytes n is = let f = counted_fits 1 4 bytes n is in (omega arith, f.1)
size_fits (Kept kinds.DbPointer) bytes n is = let f = counted_fits 1 16 bytes n is in (omega arith, f.1)
size_fits (Kept kinds.Binary) bytes n is = let f = counted_fits 0 5 bytes n is in (omega arith, f.1)
size_fits (Kept kinds.Regex) bytes n is = (omega arith, regex_fits bytes n is)
size_fits (Kept kinds.Doc) bytes n is = let f = counted_fits 5 0 bytes n is in (omega (arith, f.0), f.1)
size_fits (Kept kinds.Array) bytes n is = let f = counted_fits 5 0 bytes n is in (omega (arith, f.0), f.1)
size_fits (Kept kinds.CodeScope) bytes n is = let f = counted_fits 14 0 bytes n is in (omega (arith, f.0), f.1)
size_fits (Kept _) bytes n is = let e : 0 ≡ n = cc in (omega arith, omega arith)

-- ---- the first element

abbrev pub FirstElementFits : ℕ → ElementType × ℕ × ℕ → Type 0
FirstElementFits all x = (2 ≤ x.1) × (least x.0 ≤ x.2) × (x.1 + x.2 ≤ all)

sized : (all : ℕ) (t : ElementType) (k : ℕ) (r : Option ℕ) (x : ElementType × ℕ × ℕ) → ((n : ℕ) → r ≡ Some n → (least t ≤ n) × (k + 2 + n ≤ all))
    → (r >>= λ n. Some (t, k + 2, n)) ≡ Some x → FirstElementFits all x
sized all t k None x h is = absurd cc
sized all t k (Some n) x h is =
    let same : (t, k + 2, n) ≡ x = cc in
    let f = h n refl in
    let two : 2 ≤ k + 2 = omega arith in
    subst (FirstElementFits all) same (two, f.0, f.1)

named : (all : ℕ) (t : Option ElementType) (r : Option ℕ) (size : ElementType → ℕ → Option ℕ) (x : ElementType × ℕ × ℕ)
    → ((t : ElementType) (k n : ℕ) → r ≡ Some k → size t k ≡ Some n → (least t ≤ n) × (k + 2 + n ≤ all))
    → (t >>= λ type. r >>= λ k. size type k >>= λ n. Some (type, k + 2, n)) ≡ Some x → FirstElementFits all x
named all None r size x h is = absurd cc
named all (Some t) None size x h is = absurd cc
named all (Some t) (Some k) size x h is = sized all t k (size t k) x (λ n e. h t k n refl e) is

-- the first element fits into the bytes, and its value has at least the length that its type requires
pub first_element_fits : (bytes : List ℕ) (x : ElementType × ℕ × ℕ) → first_element bytes ≡ Some x → FirstElementFits (length bytes) x
unfolding first_element
first_element_fits [] x is = absurd cc
first_element_fits (b ∷ bytes) x is = named (length (b ∷ bytes)) (type_at b) (first_zero bytes) (λ type k. size_at type (drop (k + 1) bytes)) x
    (λ t k n at size.
    let a = position-Some (λ c. c == 0) bytes k 0 at in
    let f = size_fits t (drop (k + 1) bytes) n size in
    (f.0, omega (arith, a.0, f.1, length-drop (k + 1) bytes)))
    is

-- ---- code with scope, and a whole document

scope_cases : (count size n at : ℕ) (b : Bool) → (count == 0 || nat_lt size (8 + count + 5) || not (n == size - (8 + count))) ≡ b → (if b then None else Some (8 + count)) ≡ Some at → (8 ≤ at) × (at + 5 ≤ size)
scope_cases count size n at true is h = absurd cc
scope_cases count size n at false is h =
    let e : 8 + count ≡ at = cc in
    let f : 8 + count + 5 ≤ size = grind (arith, nat_tests, is) in (omega arith, omega arith)

-- the scope of code with scope begins at byte 8 or later, and at least five bytes before the end
pub scope_inside : (value : List ℕ) (at : ℕ) → scope_at value ≡ Some at → (8 ≤ at) × (at + 5 ≤ length value)
unfolding scope_at
scope_inside value at h =
    let count : ℕ = number_of (drop 4 value) in
    scope_cases count (length value) (number_of (drop (8 + count) value)) at (count == 0 || nat_lt (length value) (8 + count + 5) || not (number_of (drop (8 + count) value) == length value - (8 + count))) refl h

pub long_enough : (bytes : List ℕ) → nat_lt (length bytes) 5 ≡ false → 5 ≤ length bytes
long_enough bytes at = grind (arith, nat_tests)

-- what may be written for a document's bytes, by whether there are fewer than five
abbrev pub WholeTurn : Writes → List ℕ → List ℕ → Bool → Type 0
WholeTurn Is bytes new true = new ≡ bytes
WholeTurn Is bytes new false = IsNested Is 200 holders.Document bytes new

-- what may be written for bytes is what may be written for a document, if there are five or more
pub to_whole : (Is : Writes) (bytes new : List ℕ) → IsRewritten Is bytes new → WholeTurn Is bytes new (nat_lt (length bytes) 5)
unfolding IsRewritten
to_whole Is bytes new = elim (nat_lt (length bytes) 5) as (λ b. (elim b [ true ↦ new ≡ bytes | false ↦ IsNested Is 200 holders.Document bytes new ]) → WholeTurn Is bytes new b) [ true ↦ λ h. h | false ↦ λ h. h ]
