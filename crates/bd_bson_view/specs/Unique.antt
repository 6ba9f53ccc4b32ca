-- Bytes spell at most one value.
use Rattle.std.specs.Prelude.{◌≡◌, ◌≢◌, ℕ, suc, ◌+◌, ◌-◌, ◌<◌, ◌^◌, Bool, true, false, Some, None, List, []}
use Rattle.std.specs.Prelude.{◌∷◌, ◌++◌, length, take, drop, ◌==◌, slice_index_or, if◌then◌else◌}
use Rattle.std.specs.{List.AllByRecursion, Coded.Coded-set, Coded.coded_ℕ, Coded.coded_list}
use Rattle.std.specs.Int.{w32, w64, from_le_bytes, cast_unsigned}
use Rattle.std.proofs.Common.{refl, sym, ap, ap₂, ◌∙◌, append_assoc, arith, eqb}
use Rattle.std.proofs.{Props.props, lemmas.Bool.Decides.nat_tests, lemmas.Int.ints, lemmas.Int.to_z-of_z}
use Rattle.std.proofs.lemmas.{List.take_at, List.drop_at, List.length-append}
use Rattle.std.proofs.lemmas.Nat.{from_le_bytes-to_le_bytes_4, from_le_bytes-to_le_bytes_8}
use mathlib.Core.{Path.PathP, HLevel.is_prop→PathP}
use Rattle.bd_value.specs.Tree as trees
use Rattle.bd_value.specs.Tree.{Scalar, Tree, leaf, doc, array, code_scope, Fields, no_fields, field, Items, no_items}
use Rattle.bd_value.specs.Tree.{item}
use Rattle.bd_value.specs.{View.scalar_kind, View.kind_of, declared.node.Kind.Kind}
use Rattle.bd_value.specs.declared.node.Kind.TheVariants as kinds
use Rattle.bd_bson_view.specs.{declared.raw_parts.ElementType.TheVariants.Kept, Sizes.size_of, Sizes.scalar_at}
use Rattle.bd_bson_view.specs.Spelling.{type_byte, type_at, is_holder, number, long, string, data_of, framed, scoped, element}
use Rattle.bd_bson_view.specs.Spelling.{IsName, IsText, IsScalar, IsValue, AreFields, AreItems}
use Rattle.bd_bson_view.specs.Sizes.{number_of, long_of, zero_at, name_of, after_name, text_of}

-- ---- the kind of a type byte

-- the type byte of a kind reads back as that kind
pub type_is : (k : Kind) → type_at (type_byte k) ≡ Some (Kept k)
type_is kinds.MinKey = refl
type_is _ = refl

-- no two kinds have the same type byte
pub same_kind : (k l : Kind) → type_byte k ≡ type_byte l → k ≡ l
same_kind k l e = let both : Some (Kept k) ≡ Some (Kept l) = sym (type_is k) ∙ ap type_at e ∙ type_is l in cc

-- no type byte is 0: a zero there ends the document
pub byte_is_not_zero : (k : Kind) → type_byte k ≢ 0
byte_is_not_zero k h = let e : Some (Kept k) ≡ None = sym (type_is k) ∙ ap type_at h in cc

-- ---- numbers

-- an `int32` takes four bytes
pub number_length : (n : ℕ) → length (number n) ≡ 4
unfolding number
number_length n = refl

-- the four bytes of a number below 2^32 read back as that number
pub number_value : (n : ℕ) → n < 2 ^ 32 → from_le_bytes w32 (number n) ≡ n
unfolding number
number_value n lt = from_le_bytes-to_le_bytes_4 n lt

-- the four bytes of a number below 2^32 read back as that number, whatever bytes follow them
pub number_prefix : (n : ℕ) (x : List ℕ) → n < 2 ^ 32 → number_of (number n ++ x) ≡ n
number_prefix n x lt = ap (from_le_bytes w32) (take_at (number n) x 4 (number_length n)) ∙ number_value n lt

-- after the four bytes of a number come the bytes that follow it
pub number_after : (n : ℕ) (x : List ℕ) → drop 4 (number n ++ x) ≡ x
number_after n x = drop_at (number n) x 4 (number_length n)

-- an `int64` takes eight bytes
long_length : (n : ℕ) → length (long n) ≡ 8
unfolding long
long_length n = refl

-- the eight bytes of a number below 2^64 read back as that number, whatever bytes follow them
long_prefix : (n : ℕ) (x : List ℕ) → n < 2 ^ 64 → long_of (long n ++ x) ≡ n
unfolding long
long_prefix n x lt = from_le_bytes-to_le_bytes_8 n lt

-- ---- texts

-- a byte that is not zero does not pass the test for zero
not_zero : (b : ℕ) → b ≢ 0 → eqb b 0 ≡ false
not_zero b h = grind (arith, nat_tests, h)

-- the first zero after a name without zeros is at the offset of the name's length
pub zero_offset : (name rest : List ℕ) → AllByRecursion (λ b. b ≢ 0) name → zero_at (name ++ 0 ∷ rest) ≡ length name
zero_offset [] rest h = refl
zero_offset (b ∷ name) rest h = let e : 1 + length name ≡ suc (length name) = omega arith in
    rw (not_zero b h.0) (ap (λ (k : ℕ). 1 + k) (zero_offset name rest h.1) ∙ e)

-- a `cstring` reads back as its name, whatever follows it
pub name_prefix : (name rest : List ℕ) → IsName name → name_of (name ++ 0 ∷ rest) ≡ name
name_prefix name rest h = rw (zero_offset name rest h.1) (take_at name (0 ∷ rest) (length name) refl)

-- after a `cstring` come the bytes that follow its zero
pub name_after : (name rest : List ℕ) → IsName name → after_name (name ++ 0 ∷ rest) ≡ rest
name_after name rest h = rw (zero_offset name rest h.1, ← append_assoc name (0 ∷ []) rest)
    (drop_at (name ++ 0 ∷ []) rest (length name + 1) (length-append name (0 ∷ [])))

-- a `string` and what follows it: the length, the text, a zero, the rest
pub string_after : (y r : List ℕ) → string y ++ r ≡ number (length y + 1) ++ (y ++ 0 ∷ r)
string_after y r = simp append_assoc

-- a `string` takes five bytes more than its text
pub string_length : (s : List ℕ) → length (string s) ≡ 4 + (length s + 1)
string_length s =
    rw (
      length-append (number (length s + 1)) (s ++ 0 ∷ []),
      number_length
          (length s + 1),
      length-append s (0 ∷ []),
    ) refl

-- the length at the start of a `string` counts its text and one zero
pub string_number : (s r : List ℕ) → length s + 1 < 2 ^ 32 → number_of (string s ++ r) ≡ length s + 1
string_number s r lt = ap number_of (string_after s r) ∙ number_prefix (length s + 1) (s ++ 0 ∷ r) lt

-- a `string` reads back as its text, whatever follows it
pub string_text : (s r : List ℕ) → length s + 1 < 2 ^ 32 → text_of (string s ++ r) ≡ s
string_text s r lt = rw (string_number s r lt, string_after s r, number_after (length s + 1) (s ++ 0 ∷ r))
    (take_at s (0 ∷ r) (length s + 1 - 1) (omega arith))

-- after a `string` come the bytes that follow it
string_rest : (s r : List ℕ) → length s + 1 < 2 ^ 32 → drop (4 + number_of (string s ++ r)) (string s ++ r) ≡ r
string_rest s r lt = rw (string_number s r lt) (drop_at (string s) r (4 + (length s + 1)) (string_length s))

-- a regular expression and what follows it: pattern, zero, options, zero, the rest
pub regex_whole : (p o r : List ℕ) → (p ++ 0 ∷ (o ++ 0 ∷ [])) ++ r ≡ p ++ 0 ∷ (o ++ 0 ∷ r)
regex_whole p o r = simp append_assoc

-- ---- binary data

-- binary data and what follows it: the count, the subtype, the data, the rest
pub binary_whole : (k : ℕ) (d r : List ℕ) → (number (length d) ++ k ∷ d) ++ r ≡ number (length d) ++ k ∷ (d ++ r)
binary_whole k d r = append_assoc (number (length d)) (k ∷ d) r

-- after the count and the subtype of binary comes its data
pub after_five : (n k : ℕ) (x : List ℕ) → drop 5 (number n ++ k ∷ x) ≡ x
unfolding number
after_five n k x = refl

-- the fifth byte of binary is its subtype
fifth : (n k : ℕ) (x : List ℕ) → slice_index_or (number n ++ k ∷ x) 4 0 ≡ k
unfolding number
fifth n k x = refl

-- the count at the start of binary reads back as the length of its data
pub binary_count : (k : ℕ) (d r : List ℕ) → length d < 2 ^ 31 → number_of ((number (length d) ++ k ∷ d) ++ r) ≡ length d
binary_count k d r lt = ap number_of (binary_whole k d r) ∙ number_prefix (length d) (k ∷ (d ++ r)) (omega arith)

-- the fifth byte of binary is its subtype
pub binary_subtype : (k : ℕ) (d r : List ℕ) → slice_index_or ((number (length d) ++ k ∷ d) ++ r) 4 0 ≡ k
binary_subtype k d r = ap (λ (x : List ℕ). slice_index_or x 4 0) (binary_whole k d r) ∙ fifth (length d) k (d ++ r)

-- the data of binary reads back, by its count, whatever follows it
binary_data : (k : ℕ) (d r : List ℕ) → length d < 2 ^ 31
    → take (number_of ((number (length d) ++ k ∷ d) ++ r)) (drop 5 ((number (length d) ++ k ∷ d) ++ r)) ≡ d
binary_data k d r lt =
    rw (binary_count k d r lt, binary_whole k d r, after_five (length d) k (d ++ r)) (take_at d r (length d) refl)

-- the data of binary without the inner count, if it has one, is the payload
inner : (b : Bool) (s : List ℕ) → let d : List ℕ = if b then number (length s) ++ s else s in
    (if b then drop 4 d else d) ≡ s
inner true s = number_after (length s) s
inner false s = refl

-- ---- scalars: their bytes determine the scalar, and how many bytes it takes

-- the bytes of a scalar read back as that scalar, whatever follows them
pub scalar_back : (a : Scalar) (v r : List ℕ) → IsScalar a v → scalar_at (scalar_kind a) (v ++ r) ≡ a
scalar_back (trees.int32 z) v r h =
    rw (h.1, number_prefix (cast_unsigned w32 z) r (omega (arith, ints, h.0))) (ap trees.int32 (to_z-of_z w32 z h.0))
scalar_back (trees.int64 z) v r h =
    rw (h.1, long_prefix (cast_unsigned w64 z) r (omega (arith, ints, h.0))) (ap trees.int64 (to_z-of_z w64 z h.0))
scalar_back (trees.date z) v r h =
    rw (h.1, long_prefix (cast_unsigned w64 z) r (omega (arith, ints, h.0))) (ap trees.date (to_z-of_z w64 z h.0))
scalar_back (trees.timestamp s i) v r h =
    rw (h.1, append_assoc (number i) (number s) r, number_prefix i (number s ++ r) h.0.1, number_after i (number s ++ r))
    (ap (λ n. trees.timestamp n i) (number_prefix s r h.0.0))
scalar_back (trees.boolean true) v r h = rw h.1 refl
scalar_back (trees.boolean false) v r h = rw h.1 refl
scalar_back (trees.object_id id) v r h = rw (h.1, take_at id r 12 h.0) refl
scalar_back (trees.text s) v r h = rw h.1 (ap trees.text (string_text s r h.0.1))
scalar_back (trees.symbol s) v r h = rw h.1 (ap trees.symbol (string_text s r h.0.1))
scalar_back (trees.code s) v r h = rw h.1 (ap trees.code (string_text s r h.0.1))
scalar_back (trees.db_pointer s id) v r h = rw (h.1, append_assoc (string s) id r)
    (ap₂ trees.db_pointer (string_text s (id ++ r) h.0.0.1)
    (ap (take 12) (string_rest s (id ++ r) h.0.0.1) ∙ take_at id r 12 h.0.1))
scalar_back (trees.binary k s) v r h =
    rw (h.1, binary_subtype k (data_of k s) r, binary_data k (data_of k s) r h.0.1)
    (ap (trees.binary k) (inner (k == 2) s))
scalar_back (trees.regex p o) v r h = rw (h.1, regex_whole p o r)
    (ap₂ trees.regex (name_prefix p (o ++ 0 ∷ r) h.0.0) (ap name_of (name_after p (o ++ 0 ∷ r) h.0.0) ∙ name_prefix o r h.0.1))
scalar_back _ v r h = refl

-- the size that the bytes of a scalar give is the number of those bytes, whatever follows them
pub scalar_size : (a : Scalar) (v r : List ℕ) → IsScalar a v → size_of (scalar_kind a) (v ++ r) ≡ length v
scalar_size (trees.int32 z) v r h = rw h.1 (sym (number_length (cast_unsigned w32 z)))
scalar_size (trees.int64 z) v r h = rw h.1 (sym (long_length (cast_unsigned w64 z)))
scalar_size (trees.date z) v r h = rw h.1 (sym (long_length (cast_unsigned w64 z)))
scalar_size (trees.timestamp s i) v r h =
    rw h.1 (omega (arith, length-append (number i) (number s), number_length i, number_length s))
scalar_size (trees.object_id id) v r h = rw h.1 (sym h.0)
scalar_size (trees.text s) v r h = rw h.1 (rw (string_number s r h.0.1) (sym (string_length s)))
scalar_size (trees.symbol s) v r h = rw h.1 (rw (string_number s r h.0.1) (sym (string_length s)))
scalar_size (trees.code s) v r h = rw h.1 (rw (string_number s r h.0.1) (sym (string_length s)))
scalar_size (trees.db_pointer s id) v r h = rw (h.1, append_assoc (string s) id r)
    (omega (arith, string_number s (id ++ r) h.0.0.1, length-append (string s) id, string_length s, h.0.1))
scalar_size (trees.binary k s) v r h = let d = data_of k s in
    rw h.1 (omega (arith, binary_count k d r h.0.1, length-append (number (length d)) (k ∷ d), number_length (length d)))
scalar_size (trees.regex p o) v r h = let rest = o ++ 0 ∷ r in
    let first = zero_offset p rest h.0.0.1 in
    let second = ap zero_at (name_after p rest h.0.0) ∙ zero_offset o r h.0.1.1 in
    rw (h.1, regex_whole p o r)
    (omega (arith, first, second, length-append p (0 ∷ (o ++ 0 ∷ [])), length-append o (0 ∷ [])))
scalar_size _ v r h = rw h.1 refl

-- if the same bytes begin with two scalars of one kind, these are one scalar, and it takes the same bytes
pub scalars : (a b : Scalar) (v w r s : List ℕ) → IsScalar a v → IsScalar b w
    → scalar_kind a ≡ scalar_kind b → v ++ r ≡ w ++ s → (a ≡ b) × (v ≡ w)
scalars a b v w r s p q k h = let same : a ≡ b = sym (scalar_back a v r p) ∙ ap₂ scalar_at k h ∙ scalar_back b w s q in
    let len : length v ≡ length w = sym (scalar_size a v r p) ∙ ap₂ size_of k h ∙ scalar_size b w s q in
    (same, sym (take_at v r (length v) refl) ∙ ap (take (length v)) h ∙ take_at w s (length v) (sym len))

-- a value of a scalar's kind contains no other values
scalar_is_no_holder : (a : Scalar) → is_holder (scalar_kind a) ≡ false
scalar_is_no_holder trees.min_key = refl
scalar_is_no_holder _ = refl

-- a scalar is not a document, an array or code with scope
pub no_holder : (a : Scalar) (k : Kind) → scalar_kind a ≡ k → is_holder k ≡ true → ⊥
no_holder a k e h = let f : false ≡ true = sym (scalar_is_no_holder a) ∙ ap is_holder e ∙ h in cc

-- ---- parts

-- what follows equal beginnings of equal bytes is equal
pub cancel : (v w r s : List ℕ) → v ≡ w → v ++ r ≡ w ++ s → r ≡ s
cancel v w r s e h = sym (drop_at v r (length v) refl) ∙ ap (drop (length v)) h
    ∙ drop_at w s (length v) (sym (ap (λ (x : List ℕ). length x) e))

-- what follows two `int32`s in the same bytes is the same
after_numbers : (a b : ℕ) (r s : List ℕ) → number a ++ r ≡ number b ++ s → r ≡ s
after_numbers a b r s h = sym (number_after a r) ∙ ap (drop 4) h ∙ number_after b s

-- two names before a zero in the same bytes are equal, and so is what follows
pub names : (n m r s : List ℕ) → AllByRecursion (λ b. b ≢ 0) n → AllByRecursion (λ b. b ≢ 0) m
    → n ++ 0 ∷ r ≡ m ++ 0 ∷ s → (n ≡ m) × (r ≡ s)
names [] [] r s p q h = (refl, cc)
names [] (b ∷ m) r s p q h = absurd (q.0 (cc))
names (a ∷ n) [] r s p q h = absurd (p.0 (cc))
names (a ∷ n) (b ∷ m) r s p q h = let e = names n m r s p.1 q.1 (cc) in (cc (e.0), e.1)

-- a document and what follows it: the length, the elements, a zero, the rest
pub framed_after : (b r : List ℕ) → framed b ++ r ≡ number (length b + 5) ++ (b ++ 0 ∷ r)
framed_after b r = simp append_assoc

-- if the same bytes begin with two documents, so do the bytes after their lengths
pub bodies : (b c v w r s : List ℕ) → v ≡ framed b → w ≡ framed c → v ++ r ≡ w ++ s → b ++ 0 ∷ r ≡ c ++ 0 ∷ s
bodies b c v w r s e f h = after_numbers (length b + 5) (length c + 5) (b ++ 0 ∷ r) (c ++ 0 ∷ s)
    (sym (framed_after b r) ∙ ap (λ (x : List ℕ). x ++ r) (sym e) ∙ h
    ∙ ap (λ (x : List ℕ). x ++ s) f ∙ framed_after c s)

-- code with scope and what follows it: its length, the code, the scope, the rest
codes_after : (s d r : List ℕ) → scoped s d ++ r ≡ number (length (string s ++ d) + 4) ++ (string s ++ (d ++ r))
codes_after s d r = simp append_assoc

-- two codes with scope in the same bytes have the same code, and the same bytes after it
pub same_code : (s z d e x y v w : List ℕ) → IsText s → IsText z → v ≡ scoped s d → w ≡ scoped z e
    → v ++ x ≡ w ++ y → (s ≡ z) × (d ++ x ≡ e ++ y)
same_code s z d e x y v w p q a b h = let inside : string s ++ (d ++ x) ≡ string z ++ (e ++ y) =
    after_numbers (length (string s ++ d) + 4) (length (string z ++ e) + 4)
    (string s ++ (d ++ x)) (string z ++ (e ++ y))
    (sym (codes_after s d x) ∙ ap (λ (l : List ℕ). l ++ x) (sym a) ∙ h
    ∙ ap (λ (l : List ℕ). l ++ y) b ∙ codes_after z e y) in
    let same : s ≡ z = sym (string_text s (d ++ x) p.1) ∙ ap text_of inside ∙ string_text z (e ++ y) q.1 in
    (same, cancel (string s) (string z) (d ++ x) (e ++ y) (ap string same) inside)

-- ---- elements

-- an element and what follows it: the type byte, the name, a zero, the value, the rest
pub element_after : (t : Tree) (n v r x b : List ℕ) → b ≡ element t n v ++ r
    → b ++ x ≡ type_byte (kind_of t) ∷ (n ++ 0 ∷ (v ++ (r ++ x)))
element_after t n v r x b e = rw e (simp append_assoc)

-- if one list of elements ends, the other ends there too
no_element : (t : Tree) (n v x r s b c : List ℕ) → b ≡ [] → c ≡ element t n v ++ x → b ++ 0 ∷ r ≡ c ++ 0 ∷ s → ⊥
no_element t n v x r s b c none e h = let k : 0 ∷ r ≡ type_byte (kind_of t) ∷ _ =
    ap (λ (y : List ℕ). y ++ 0 ∷ r) (sym none) ∙ h ∙ element_after t n v x (0 ∷ s) c e in
    absurd (byte_is_not_zero (kind_of t) cc)

-- two first elements in the same bytes, if their bytes determine their values, and what is after them
same_element : (t u : Tree) (n m v w x y r s b c : List ℕ) → IsName n → IsName m
    → ((i j : List ℕ) → kind_of t ≡ kind_of u → v ++ i ≡ w ++ j → (t ≡ u) × (v ≡ w))
    → b ≡ element t n v ++ x → c ≡ element u m w ++ y → b ++ 0 ∷ r ≡ c ++ 0 ∷ s
    → (t ≡ u) × (n ≡ m) × (v ≡ w) × (x ++ 0 ∷ r ≡ y ++ 0 ∷ s)
same_element t u n m v w x y r s b c p q value d e h =
    let whole : type_byte (kind_of t) ∷ (n ++ 0 ∷ (v ++ (x ++ 0 ∷ r))) ≡ type_byte (kind_of u)
    ∷ (m ++ 0 ∷ (w ++ (y ++ 0 ∷ s))) =
    sym (element_after t n v x (0 ∷ r) b d) ∙ h ∙ element_after u m w y (0 ∷ s) c e in
    let named = names n m (v ++ (x ++ 0 ∷ r)) (w ++ (y ++ 0 ∷ s)) p.1 q.1 (cc) in
    let first = value (x ++ 0 ∷ r) (y ++ 0 ∷ s) (same_kind (kind_of t) (kind_of u) (cc)) named.1 in
    (first.0, named.0, first.1, cancel v w (x ++ 0 ∷ r) (y ++ 0 ∷ s) first.1 named.1)

-- ---- values

mutual
  -- if the same bytes begin with two values of one kind, these are one value, and it takes the same bytes
  pub values : (t u : Tree) (v w r s : List ℕ) → IsValue t v → IsValue u w → kind_of t ≡ kind_of u
      → v ++ r ≡ w ++ s → (t ≡ u) × (v ≡ w)
  values (leaf a) (leaf b) v w r s p q k h = let e = scalars a b v w r s p q k h in (ap leaf e.0, e.1)
  values (leaf a) _ v w r s p q k h = absurd (no_holder a _ k refl)
  values _ (leaf b) v w r s p q k h = absurd (no_holder b _ (sym k) refl)
  values (doc fs) (doc gs) v w r s p q k h =
      let e = fields fs gs p.0 q.0 r s p.1 q.1 (bodies p.0 q.0 v w r s p.2 q.2 h) in
      (ap doc e.0, p.2 ∙ ap framed e.1 ∙ sym q.2)
  values (array ts) (array us) v w r s p q k h =
      let e = items ts us p.0 q.0 r s p.1 q.1 (bodies p.0 q.0 v w r s p.2 q.2 h) in
      (ap array e.0, p.2 ∙ ap framed e.1 ∙ sym q.2)
  values (code_scope y fs) (code_scope z gs) v w r s p q k h =
      let c = same_code y z (framed p.0) (framed q.0) r s v w p.3 q.3 p.2 q.2 h in
      let e = fields fs gs p.0 q.0 r s p.1 q.1 (bodies p.0 q.0 (framed p.0) (framed q.0) r s refl refl c.1) in
      (ap₂ code_scope c.0 e.0, p.2 ∙ ap₂ (λ (x b : List ℕ). scoped x (framed b)) c.0 e.1 ∙ sym q.2)
  values _ _ v w r s p q k h = absurd cc

  -- if the same bytes begin with the elements of two documents, each with a zero after them,
  -- the elements are the same
  pub fields : (fs gs : Fields) (b c r s : List ℕ) → AreFields fs b → AreFields gs c
      → b ++ 0 ∷ r ≡ c ++ 0 ∷ s → (fs ≡ gs) × (b ≡ c)
  fields no_fields no_fields b c r s p q h = (refl, p ∙ sym q)
  fields no_fields (field m u gs) b c r s p q h = absurd (no_element u m q.0 q.1 r s b c p q.5 h)
  fields (field n t fs) no_fields b c r s p q h = absurd (no_element t n p.0 p.1 s r c b q p.5 (sym h))
  fields (field n t fs) (field m u gs) b c r s p q h =
      let one = same_element t u n m p.0 q.0 p.1 q.1 r s b c p.2 q.2
      (λ i j. values t u p.0 q.0 i j p.3 q.3) p.5 q.5 h in
      let more = fields fs gs p.1 q.1 r s p.4 q.4 one.3 in
      (cc (one.0, one.1, more.0), cc (p.5, q.5, one.0, one.1, one.2, more.1))

  -- if the same bytes begin with the elements of two arrays, each with a zero after them,
  -- the elements are the same
  pub items : (ts us : Items) (b c r s : List ℕ) → AreItems ts b → AreItems us c
      → b ++ 0 ∷ r ≡ c ++ 0 ∷ s → (ts ≡ us) × (b ≡ c)
  items no_items no_items b c r s p q h = (refl, p ∙ sym q)
  items no_items (item u us) b c r s p q h = absurd (no_element u q.0 q.1 q.2 r s b c p q.6 h)
  items (item t ts) no_items b c r s p q h = absurd (no_element t p.0 p.1 p.2 s r c b q p.6 (sym h))
  items (item t ts) (item u us) b c r s p q h =
      let one = same_element t u p.0 q.0 p.1 q.1 p.2 q.2 r s b c p.3 q.3
      (λ i j. values t u p.1 q.1 i j p.4 q.4) p.6 q.6 h in
      let more = items ts us p.2 q.2 r s p.5 q.5 one.3 in
      (cc (one.0, more.0), cc (p.6, q.6, one.0, one.1, one.2, more.1))

-- ---- and with one proof at most

-- that two lists of bytes are equal has one proof at most
pub same_bytes : (v w : List ℕ) → IsProp (v ≡ w)
same_bytes v w = Coded-set (coded_list coded_ℕ) v w

-- a fact that has at most one proof, along a path
pub over_path : {A : Type 0} (B : A → Type 0) → ((x : A) → IsProp (B x)) → {x y : A} (e : x ≡ y) (p : B x) (q : B y)
    → PathP (λ i. B (e i)) p q
over_path B one e p q = is_prop→PathP (λ i. B (e i)) (λ i. one (e i)) p q

-- that bytes are a `cstring` has one proof at most
name_prop : (n : List ℕ) → IsProp (IsName n)
name_prop n = Prim.hlevel props

-- that bytes are a text of a `string` has one proof at most
text_prop : (s : List ℕ) → IsProp (IsText s)
text_prop s = Prim.hlevel props

-- that bytes spell a scalar has one proof at most
scalar_prop : (s : Scalar) (v : List ℕ) → IsProp (IsScalar s v)
scalar_prop trees.min_key v = Prim.hlevel (props, same_bytes)
scalar_prop _ v = Prim.hlevel (props, same_bytes)

-- that bytes are a document around some elements has one proof at most, if the elements determine their bytes
body_prop : (P : List ℕ → Type 0) → ((b : List ℕ) → IsProp (P b))
    → ((b c : List ℕ) → P b → P c → b ++ 0 ∷ [] ≡ c ++ 0 ∷ [] → b ≡ c)
    → (v : List ℕ) → IsProp ((body : List ℕ) × P body × (v ≡ framed body))
body_prop P one same v p q = let e : p.0 ≡ q.0 = same p.0 q.0 p.1 q.1 (bodies p.0 q.0 v v [] [] p.2 q.2 refl) in
    λ i. (
      e i,
      over_path P one e p.1 q.1 i,
      over_path (λ (b : List ℕ). v ≡ framed b)
          (λ b. same_bytes v (framed b)) e p.2 q.2 i,
    )

mutual
  -- that bytes spell a value has one proof at most, so a view may carry it
  pub value_prop : (t : Tree) (v : List ℕ) → IsProp (IsValue t v)
  value_prop (leaf s) v p q = scalar_prop s v p q
  value_prop (doc fs) v p q =
      body_prop (AreFields fs) (fields_prop fs) (λ b c x y h. (fields fs fs b c [] [] x y h).1) v p q
  value_prop (array ts) v p q =
      body_prop (AreItems ts) (items_prop ts) (λ b c x y h. (items ts ts b c [] [] x y h).1) v p q
  value_prop (code_scope z fs) v p q = let c = same_code z z (framed p.0) (framed q.0) [] [] v v p.3 q.3 p.2 q.2 refl in
      let e : p.0 ≡ q.0 =
      (fields fs fs p.0 q.0 [] [] p.1 q.1 (bodies p.0 q.0 (framed p.0) (framed q.0) [] [] refl refl c.1)).1 in
      λ i. (
        e i,
        over_path (AreFields fs) (fields_prop fs) e p.1 q.1 i,
        over_path
            (λ (b : List ℕ). v ≡ scoped z (framed b))
            (λ b. same_bytes v (scoped z (framed b))) e p.2 q.2 i,
        text_prop z p.3 q.3 i,
      )

  -- that bytes spell the elements of a document has one proof at most, so a view may carry it
  pub fields_prop : (fs : Fields) (b : List ℕ) → IsProp (AreFields fs b)
  fields_prop no_fields b p q = same_bytes b [] p q
  fields_prop (field n t fs) b p q =
      let one = same_element t t n n p.0 q.0 p.1 q.1 [] [] b b p.2 q.2
      (λ i j. values t t p.0 q.0 i j p.3 q.3) p.5 q.5 refl in
      let e : p.0 ≡ q.0 = one.2 in
      let f : p.1 ≡ q.1 = (fields fs fs p.1 q.1 [] [] p.4 q.4 one.3).1 in
      λ i. (
        e i,
        f i,
        name_prop n p.2 q.2 i,
        over_path (IsValue t) (value_prop t) e p.3 q.3 i,
        over_path
            (AreFields fs) (fields_prop fs) f p.4 q.4 i,
        is_prop→PathP (λ k. b ≡ element t n (e k) ++ f k)
            (λ k. same_bytes b (element t n (e k) ++ f k)) p.5 q.5 i,
      )

  -- that bytes spell the elements of an array has one proof at most, so a view may carry it
  pub items_prop : (ts : Items) (b : List ℕ) → IsProp (AreItems ts b)
  items_prop no_items b p q = same_bytes b [] p q
  items_prop (item t ts) b p q =
      let one = same_element t t p.0 q.0 p.1 q.1 p.2 q.2 [] [] b b p.3 q.3
      (λ i j. values t t p.1 q.1 i j p.4 q.4) p.6 q.6 refl in
      let n : p.0 ≡ q.0 = one.1 in
      let e : p.1 ≡ q.1 = one.2 in
      let f : p.2 ≡ q.2 = (items ts ts p.2 q.2 [] [] p.5 q.5 one.3).1 in
      λ i. (
        n i,
        e i,
        f i,
        over_path IsName name_prop n p.3 q.3 i,
        over_path (IsValue t)
            (value_prop t) e p.4 q.4 i,
        over_path (AreItems ts) (items_prop ts) f p.5 q.5 i,
        is_prop→PathP
            (λ k. b ≡ element t (n k) (e k) ++ f k) (λ k. same_bytes b (element t (n k) (e k) ++ f k)) p.6 q.6 i,
      )
