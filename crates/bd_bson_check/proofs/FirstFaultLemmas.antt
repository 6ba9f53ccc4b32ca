-- Bytes that are skipped without a fault spell a tree.
use Rattle.std.proofs.Common.{◌≡◌, ◌≢◌, ℕ, zero, suc, ◌+◌, ◌-◌, ◌^◌, ◌<◌, ◌≤◌, max, ℤ, Bool, true, false, cond, ltb, eqb, List, [], ◌∷◌, ◌++◌, length, get_or, take, drop}
use Rattle.std.proofs.Common.{Option, Some, None, Result, Ok, Err, refl, sym, ap, ap₂, subst, ◌∙◌, append_assoc, arith, inl, inr, add-one, IsUtf8, FitsSigned, ◌||◌, ◌&&◌}
use Rattle.std.proofs.Common.{not, nat_eq, ◌==◌, codes, option_map}
use Rattle.std.specs.Int.{w32, w64, from_le_bytes, cast_signed, cast_unsigned}
use Rattle.std.specs.{List.AllByRecursion, List.position, List.list_all, Map.lookup, Str.is_utf8, Option.ok_or, Str.Lossy.utf8_valid_len}
use Rattle.std.proofs.lemmas.Bool.{cases_lt, ltb-false, eqb-true, or_parts, and_parts, eqb-false, le-ltb, eq-eqb, ne_eqb, or_from}
use Rattle.std.proofs.lemmas.List.{take-append-drop, length-append, length-take, length-drop, get_or-drop, get_or-take, get_or_past, append-nil, nil_from_length}
use Rattle.std.proofs.lemmas.List.{take-take, take_at, drop_at, drop-drop}
use Rattle.std.proofs.lemmas.{Bool.Decides.nat_tests, List.Quantifiers.position-Some, Nat.le_bytes_4, Nat.le_bytes_8, Int.of_z-to_z, Int.ints, Str.IsUtf8-from_is_utf8}
use Rattle.std.proofs.lemmas.{Str.is_utf8-from_IsUtf8, Option.same_Some}
use Rattle.std.proofs.Math.Seq.{drop-cons}
use Rattle.bd_value.specs.Tree.{Scalar, Tree, leaf, doc, array, code_scope, Fields, no_fields, field, Items, no_items, item, Doc, fields_of, pairs_of, fields_of-pairs_of}
use Rattle.bd_value.specs.{Limits.longest_document, Limits.most_levels, View.scalar_kind, View.kind_of, declared.node.Kind.Kind}
use Rattle.bd_bson_check.specs.declared.fault.FaultKind.TheVariants.{UnknownType, Double, Decimal128, BadUtf8, ShortLength, NoTerminator, NameUnended, StringUnended, BadBinaryLength, ValueShort}
use Rattle.bd_bson_check.specs.FirstFault.{within, label, ◌>>=◌, fault, skip_number, skip_zero, text_at, skip_name, skip_string, skip_frame, skip_fixed}
use Rattle.bd_bson_check.specs.FirstFault.{skip_boolean, skip_data, skip_binary, skip_code_frame, skip_value, skip_typed, skip_element, skip_elements, skip_body}
use Rattle.bd_bson_check.specs.FirstFault.{skip_code_scope, skip_nested, skip_document, Nested, skip_regex, skip_wide}
use Rattle.bd_bson_check.specs.{Fault.Fault, declared.fault.FaultKind.FaultKind}
use Rattle.bd_bson_check.specs.declared.profile.{Profile.Profile, Profile.TheVariants.Named, Profile.TheVariants.All}
use Rattle.bd_bson_view.proofs.ValueAtLemmas.{framed_length, scoped_length}
use Rattle.bd_bson_view.specs.declared.raw_parts.ElementType.{ElementType}
use Rattle.bd_bson_view.specs.Unique.{number_length, number_value, number_prefix, zero_offset, string_after, string_length, binary_whole, binary_count}
use Rattle.bd_bson_view.specs.Unique.{binary_subtype, after_five, regex_whole, scalar_size}
use Rattle.bd_bson_view.specs.Spelling.{number, long, string, data_of, scoped, IsName, IsText, IsScalar, framed, element, IsValue, AreItems, AreFields, depth, items_depth}
use Rattle.bd_bson_view.specs.Spelling.{fields_depth, is_holder, IsDocument, IsDocumentBy, Grammar, IsValueBy, AreFieldsBy, AreItemsBy, nineteen}
use Rattle.bd_bson_view.specs.{declared.raw_parts.Holder.Holder, Spelling.type_byte, Spelling.type_at, Sizes.number_of, Unique.type_is, Unique.framed_after}
use Rattle.bd_value.specs.Tree as trees
use Rattle.bd_value.specs.declared.node.Kind.TheVariants as kinds
use Rattle.bd_bson_view.specs.declared.raw_parts.ElementType.TheVariants as types
use Rattle.bd_bson_view.specs.declared.raw_parts.Holder.TheVariants as holders
use Rattle.bd_bson_view.specs.Spelling as table

-- Each number of the list is a byte; after the end it counts as 0.
abbrev pub IsBytes : List ℕ → Type 0
IsBytes bytes = (i : ℕ) → get_or bytes i 0 < 256

-- bytes without the first n are bytes
pub IsBytes-drop : (n : ℕ) (bytes : List ℕ) → IsBytes bytes → IsBytes (drop n bytes)
IsBytes-drop n bytes h i = rw get_or-drop (h (n + i))

-- the first n of some bytes are bytes
pub IsBytes-take : (n : ℕ) (bytes : List ℕ) → IsBytes bytes → IsBytes (take n bytes)
IsBytes-take n bytes h i =
    elim (cases_lt i n) [
      | inl lt ↦ rw (get_or-take n bytes i 0 lt) (h i)
      | inr le ↦ rw (get_or_past (take n bytes) i 0 (omega (arith, length-take n bytes))) (omega arith)
    ]

-- the value of a step that did not fail
pub bind_ok : {A B : Type 0} (r : Result A Fault) (f : A → Result B Fault) (y : B) → (r >>= f) ≡ Ok y → (x : A) × (r ≡ Ok x) × (f x ≡ Ok y)
bind_ok (Ok x) f y e = (x, refl, e)
bind_ok (Err d) f y e = absurd cc

-- a test that did not fail
pub guard_ok : {A E : Type 0} (b : Bool) (d : E) (x : Result A E) (y : A) → cond b (Err d) x ≡ Ok y → (b ≡ false) × (x ≡ Ok y)
guard_ok true d x y e = absurd cc
guard_ok false d x y e = (refl, e)

abbrev pub done : {A : Type 0} → A → Result A Fault
done x = Ok x

pub ok_is : {A : Type 0} (x y : A) → done x ≡ done y → x ≡ y
ok_is x y e = cc

-- what a reader took from the start of the bytes
pub record Takes (bytes text rest : List ℕ) : Type 0 where
  pub parts : bytes ≡ text ++ rest
  pub rest_fits : IsBytes rest

pub Takes-then : {a x b y c : List ℕ} → Takes a x b → Takes b y c → Takes a (x ++ y) c
Takes-then {a} {x} {b} {y} {c} p q = record { parts = p.parts ∙ ap (λ (t : List ℕ). x ++ t) q.parts ∙ sym (append_assoc x y c); rest_fits = q.rest_fits }

-- n bytes that were skipped
pub record TakesFixed (n : ℕ) (bytes rest : List ℕ) : Type 0 where
  pub prefix : List ℕ
  pub takes : Takes bytes prefix rest
  pub size : length prefix ≡ n
  pub fits : IsBytes prefix

abbrev split_at_byte : (n : ℕ) (bytes : List ℕ) → IsBytes bytes → n ≤ length bytes → TakesFixed n bytes (drop n bytes)
split_at_byte n bytes fits le =
    let takes : Takes bytes (take n bytes) (drop n bytes) = record { parts = sym (take-append-drop n bytes); rest_fits = IsBytes-drop n bytes fits } in
    record { prefix = take n bytes; takes = takes; size = omega (arith, length-take n bytes); fits = IsBytes-take n bytes fits }

pub fixed_takes : (n e : ℕ) (bytes rest : List ℕ) → IsBytes bytes → skip_fixed n e bytes ≡ Ok rest → TakesFixed n bytes rest
fixed_takes n e bytes rest fits is =
    let g = guard_ok (ltb (length bytes) n) _ (done (drop n bytes)) rest is in
    rw (← ok_is (drop n bytes) rest g.1) (split_at_byte n bytes fits (ltb-false _ _ g.0))

-- ---- numbers

number_back : (bytes : List ℕ) → length bytes ≡ 4 → IsBytes bytes → number (from_le_bytes w32 bytes) ≡ bytes
unfolding number
number_back bytes len fits = le_bytes_4 bytes _ len fits refl

number_below : (bytes : List ℕ) → IsBytes bytes → from_le_bytes w32 bytes < 2 ^ 32
number_below bytes fits = omega (arith, fits 0, fits 1, fits 2, fits 3)

number_takes : (short : FaultKind) (e : ℕ) (bytes : List ℕ) (x : ℕ × List ℕ) → IsBytes bytes → skip_number short e bytes ≡ Ok x → Takes bytes (number x.0) x.1 × (x.0 < 2 ^ 32)
number_takes short e bytes x fits is =
    let g = guard_ok (ltb (length bytes) 4) _ (done (from_le_bytes w32 (take 4 bytes), drop 4 bytes)) x is in
    let f = split_at_byte 4 bytes fits (ltb-false _ _ g.0) in
    rw (← ok_is (from_le_bytes w32 (take 4 bytes), drop 4 bytes) x g.1) (rw (number_back (take 4 bytes) f.size f.fits) f.takes, number_below (take 4 bytes) f.fits)

skip_zero_takes : (kind : FaultKind) (e : ℕ) (bytes rest : List ℕ) → skip_zero kind e bytes ≡ Ok rest → bytes ≡ 0 ∷ rest
skip_zero_takes kind e [] rest is = absurd cc
skip_zero_takes kind e (zero ∷ bs) rest is = ap (λ (x : List ℕ). 0 ∷ x) (ok_is bs rest is)
skip_zero_takes kind e (suc b ∷ bs) rest is = absurd cc

-- bytes are a prefix, a zero after it, and the rest
skip_zero_splits : (more : List ℕ) (k : ℕ) (rest : List ℕ) → IsBytes more → k ≤ length more → drop k more ≡ 0 ∷ rest → Takes more (take k more ++ 0 ∷ []) rest × (length (take k more) ≡ k)
skip_zero_splits more k rest fits le is =
    let whole : more ≡ (take k more ++ 0 ∷ []) ++ rest = sym (take-append-drop k more) ∙ ap (λ (x : List ℕ). take k more ++ x) is ∙ sym (append_assoc (take k more) (0 ∷ []) rest) in
    let f : IsBytes (0 ∷ rest) = subst IsBytes is (IsBytes-drop k more fits) in
    (record { parts = whole; rest_fits = IsBytes-drop 1 (0 ∷ rest) f }, omega (arith, length-take k more))

-- ---- texts

text_takes : (at : ℕ) (bytes s : List ℕ) → text_at at bytes ≡ Ok s → (bytes ≡ s) × IsUtf8 bytes
text_takes at bytes s is = of (is_utf8 bytes) refl is
  where
    of : (b : Bool) → is_utf8 bytes ≡ b → cond b (done bytes) (fault BadUtf8 (at + utf8_valid_len bytes)) ≡ Ok s → (bytes ≡ s) × IsUtf8 bytes
    of true utf8 is = (ok_is bytes s is, IsUtf8-from_is_utf8 bytes utf8)
    of false utf8 is = absurd cc

none_zero : (bytes : List ℕ) (k : ℕ) → k ≤ length bytes → ((i : ℕ) → i < k → eqb (get_or bytes i 0) 0 ≡ false) → AllByRecursion (λ b. b ≢ 0) (take k bytes)
none_zero bytes zero le h = tt
none_zero [] (suc k) le h = absurd (omega arith)
none_zero (b ∷ bytes) (suc k) le h = (eqb-false b 0 (h 0 (omega arith)), none_zero bytes k (omega arith) (λ i lt. h (suc i) (omega arith)))

pub name_takes : (kind : FaultKind) (e : ℕ) (bytes : List ℕ) (x : List ℕ × List ℕ) → IsBytes bytes → skip_name kind e bytes ≡ Ok x → Takes bytes (x.0 ++ 0 ∷ []) x.1 × IsName x.0
unfolding skip_name
name_takes kind e bytes x fits is = up_to (position (λ b. b == 0) bytes) refl is
  where
    up_to : (o : Option ℕ) → position (λ b. b == 0) bytes ≡ o → skip_name kind e bytes ≡ Ok x → Takes bytes (x.0 ++ 0 ∷ []) x.1 × IsName x.0
    up_to None index is = absurd (let e = rw index at is in cc)
    up_to (Some k) index is =
        let p = position-Some (λ b. b == 0) bytes k 0 index in
        let a = bind_ok (text_at (e - length bytes) (take k bytes)) _ x (rw index at is) in
        let t = text_takes (e - length bytes) (take k bytes) a.0 a.1 in
        let z : get_or bytes k 0 ≡ 0 = eqb-true _ _ p.1 in
        let c = skip_zero_splits bytes k (drop (k + 1) bytes) fits (omega (arith, p.0)) (rw (add-one, drop-cons bytes k 0 p.0, z) refl) in
        rw (← ok_is (a.0, drop (k + 1) bytes) x a.2, ← t.0) (c.0, (t.1, none_zero bytes k (omega (arith, p.0)) p.2))

-- a string that was skipped
pub record TakesString (bytes rest : List ℕ) : Type 0 where
  pub text_bytes : List ℕ
  pub takes : Takes bytes (string text_bytes) rest
  pub fits : IsText text_bytes

pub string_takes : (e : ℕ) (bytes rest : List ℕ) → IsBytes bytes → skip_string e bytes ≡ Ok rest → TakesString bytes rest
unfolding skip_string
string_takes e bytes rest fits is =
    let head = bind_ok (skip_number ValueShort e bytes) _ rest is in
    let n = head.0.0 in
    let more = head.0.1 in
    let t = number_takes ValueShort e bytes head.0 fits head.1 in
    let g = guard_ok (eqb n 0 || ltb (length more) n) _ _ rest head.2 in
    let h = or_parts (eqb n 0) (ltb (length more) n) g.0 in
    let le : n ≤ length more = ltb-false _ _ h.1 in
    let a = bind_ok (skip_zero StringUnended e (drop (n - 1) more)) _ rest g.1 in
    let b = bind_ok (text_at (e - length more) (take (n - 1) more)) _ rest a.2 in
    let u = text_takes (e - length more) (take (n - 1) more) b.0 b.1 in
    let c = skip_zero_splits more (n - 1) a.0 t.0.rest_fits (omega (arith, le)) (skip_zero_takes StringUnended e (drop (n - 1) more) a.0 a.1) in
    let n_is : n ≡ length (take (n - 1) more) + 1 = omega (arith, c.1, eqb-false n 0 h.0) in
    let small = t.1 in
    let takes = subst (λ (k : ℕ). Takes bytes (number k ++ (take (n - 1) more ++ 0 ∷ [])) a.0) n_is (Takes-then t.0 c.0) in
    rw (← ok_is a.0 rest b.2) (record { text_bytes = take (n - 1) more; takes = takes; fits = (u.1, omega (arith, n_is, small)) })

-- ---- documents without their elements

-- a frame that was read: the bytes inside, and what follows
pub record Frames (top : Bool) (bytes body rest : List ℕ) : Type 0 where
  pub takes : Takes bytes (framed body) rest
  pub body_fits : IsBytes body
  pub short : length (framed body) ≤ longest_document
  pub whole : top ≡ true → rest ≡ []

not_other : (top : Bool) (n m : ℕ) → (top && not (eqb n m)) ≡ false → top ≡ true → n ≡ m
not_other true n m h is = grind (arith, nat_tests, h)
not_other false n m h is = absurd cc

pub frame_takes : (top : Bool) (e : ℕ) (bytes : List ℕ) (f : List ℕ × ℕ × List ℕ) → IsBytes bytes → skip_frame top e bytes ≡ Ok f → Frames top bytes f.0 f.2
unfolding skip_frame
frame_takes top e bytes f fits is =
    let head = bind_ok (skip_number (cond top ShortLength ValueShort) e bytes) _ f is in
    let n = head.0.0 in
    let more = head.0.1 in
    let t = number_takes (cond top ShortLength ValueShort) e bytes head.0 fits head.1 in
    let g = guard_ok (ltb n 5 || ltb longest_document n || ltb (length bytes) n || (top && not (eqb n (length bytes)))) _ _ f head.2 in
    let h = or_parts (ltb n 5 || ltb longest_document n || ltb (length bytes) n) (top && not (eqb n (length bytes))) g.0 in
    let i = or_parts (ltb n 5 || ltb longest_document n) (ltb (length bytes) n) h.0 in
    let j = or_parts (ltb n 5) (ltb longest_document n) i.0 in
    let low : 5 ≤ n = ltb-false _ _ j.0 in
    let high : n ≤ longest_document = ltb-false _ _ j.1 in
    let le : n ≤ length bytes = ltb-false _ _ i.1 in
    let len : length bytes ≡ 4 + length more = ap length t.0.parts ∙ omega (arith, length-append (number n) more, number_length n) in
    let a = bind_ok (skip_zero NoTerminator e (drop (n - 5) more)) _ f g.1 in
    let c = skip_zero_splits more (n - 5) a.0 t.0.rest_fits (omega (arith, le, len)) (skip_zero_takes NoTerminator e (drop (n - 5) more) a.0 a.1) in
    let n_is : n ≡ length (take (n - 5) more) + 5 = omega (arith, low, c.1) in
    let takes : Takes bytes (framed (take (n - 5) more)) a.0 = subst (λ (k : ℕ). Takes bytes (number k ++ (take (n - 5) more ++ 0 ∷ [])) a.0) n_is (Takes-then t.0 c.0) in
    let size = framed_length (take (n - 5) more) in
    let total : length bytes ≡ length (framed (take (n - 5) more)) + length a.0 = ap length takes.parts ∙ length-append (framed (take (n - 5) more)) a.0 in
    rw (← ok_is (take (n - 5) more, e - length (drop (n - 5) more), a.0) f a.2) (record {
      takes = takes;
      body_fits = IsBytes-take (n - 5) more t.0.rest_fits;
      short = omega (arith, size, n_is, high);
      whole = λ is_top. nil_from_length a.0 (omega (arith, not_other top n (length bytes) h.1 is_top, size, n_is, total));
    })

-- ---- binary

-- the data of binary that were skipped
record TakesData (subtype count : ℕ) (bytes rest : List ℕ) : Type 0 where
  pub payload : List ℕ
  pub takes : Takes bytes (data_of subtype payload) rest
  pub size : length (data_of subtype payload) ≡ count

data_takes : (at subtype count : ℕ) (bytes rest : List ℕ) → IsBytes bytes → count ≤ length bytes → skip_data at subtype count bytes ≡ Ok rest → TakesData subtype count bytes rest
data_takes at subtype count bytes rest fits le is = of (subtype == 2) refl is
  where
    made : (payload : List ℕ) → data_of subtype payload ≡ take count bytes → drop count bytes ≡ rest → TakesData subtype count bytes rest
    made payload is same =
        let f = split_at_byte count bytes fits le in
        rw (← same) (record { payload = payload; takes = rw is f.takes; size = ap length is ∙ f.size })

    of : (two : Bool) → (subtype == 2) ≡ two → cond (two && ltb count 4) (fault BadBinaryLength at) (cond (two && not (eqb (number_of bytes) (count - 4)))
        (fault BadBinaryLength (at + 5)) (done (drop count bytes))) ≡ Ok rest → TakesData subtype count bytes rest
    of true two is =
        let g = guard_ok (ltb count 4) _ _ rest is in
        let h = guard_ok (not (eqb (number_of bytes) (count - 4))) _ (done (drop count bytes)) rest g.1 in
        let least : 4 ≤ count = ltb-false _ _ g.0 in
        let prefix = take count bytes in
        let head = split_at_byte 4 bytes fits (omega (arith, least)) in
        let same : take 4 bytes ≡ take 4 (take count bytes) = sym (take-take 4 count bytes least) in
        let inner : length (drop 4 (take count bytes)) ≡ number_of bytes = grind (arith, nat_tests, h.0, length-drop 4 (take count bytes), length-take count bytes) in
        made (drop 4 (take count bytes)) (rw two (ap (λ (x : List ℕ). x ++ drop 4 (take count bytes)) (ap number inner ∙ number_back (take 4 bytes) head.size head.fits ∙ same)
        ∙ take-append-drop 4 (take count bytes))) (ok_is (drop count bytes) rest h.1)
    of false two is = made (take count bytes) (rw two refl) (ok_is (drop count bytes) rest is)

-- ---- values

-- the items of an array are the values of a document
abbrev pub items_in : Fields → Items
items_in no_fields = no_items
items_in (field n t fs) = item t (items_in fs)

pub items_from_fields : (g : Grammar) (fs : Fields) (bytes : List ℕ) → AreFieldsBy g fs bytes → AreItemsBy g (items_in fs) bytes
items_from_fields g no_fields bytes h = h
items_from_fields g (field n t fs) bytes h = (n, h.0, h.1, h.2, h.3, items_from_fields g fs h.1 h.4, h.5)

pub items_depth_is : (fs : Fields) → items_depth (items_in fs) ≡ fields_depth fs
items_depth_is no_fields = refl
items_depth_is (field n t fs) = ap (max (depth t)) (items_depth_is fs)

-- a scalar that was skipped: the bytes that spell it
pub record TakesScalar (kind : Kind) (bytes rest : List ℕ) : Type 0 where
  pub scalar : Scalar
  pub value : List ℕ
  pub spells : IsScalar scalar value
  pub takes : Takes bytes value rest
  pub kinded : scalar_kind scalar ≡ kind

scalar_takes : (s : Scalar) {bytes value rest : List ℕ} → Takes bytes value rest → IsScalar s value → TakesScalar (scalar_kind s) bytes rest
scalar_takes s {bytes} {value} {rest} takes spells = record { scalar = s; value = value; spells = spells; takes = takes; kinded = refl }

-- eight bytes are a signed number
long_takes : (e : ℕ) (bytes rest : List ℕ) → IsBytes bytes → skip_fixed 8 e bytes ≡ Ok rest → (z : ℤ) × FitsSigned w64 z × Takes bytes (long (cast_unsigned w64 z)) rest
unfolding long
long_takes e bytes rest fits is =
    let f = fixed_takes 8 e bytes rest fits is in
    let n = from_le_bytes w64 f.prefix in
    let b = f.fits in
    let below : from_le_bytes w64 f.prefix < 2 ^ 64 = omega (arith, b 0, b 1, b 2, b 3, b 4, b 5, b 6, b 7) in
    let back : long (cast_unsigned w64 (cast_signed w64 n)) ≡ f.prefix = ap long (of_z-to_z w64 n below) ∙ le_bytes_8 f.prefix _ f.size f.fits refl in
    (cast_signed w64 n, search (arith, ints), rw back f.takes)

-- a scalar of no bytes
none_takes : (s : Scalar) (bytes rest : List ℕ) → IsBytes bytes → IsScalar s [] → done bytes ≡ done rest → TakesScalar (scalar_kind s) bytes rest
none_takes s bytes rest fits spells is = rw (← ok_is bytes rest is) (scalar_takes s (split_at_byte 0 bytes fits (omega arith)).takes spells)

boolean_takes : (e : ℕ) (bytes rest : List ℕ) → IsBytes bytes → skip_boolean e bytes ≡ Ok rest → TakesScalar kinds.Bool bytes rest
boolean_takes e [] rest fits is = absurd cc
boolean_takes e (zero ∷ bs) rest fits is = rw (← ok_is bs rest is) (scalar_takes (trees.boolean false) (split_at_byte 1 (0 ∷ bs) fits (omega arith)).takes (tt, refl))
boolean_takes e (suc zero ∷ bs) rest fits is = rw (← ok_is bs rest is) (scalar_takes (trees.boolean true) (split_at_byte 1 (1 ∷ bs) fits (omega arith)).takes (tt, refl))
boolean_takes e (suc (suc b) ∷ bs) rest fits is = absurd (let le = ltb-false 1 (suc (suc b)) (guard_ok (ltb 1 (suc (suc b))) _ (done bs) rest is).0 in omega arith)

binary_takes : (e : ℕ) (bytes rest : List ℕ) → IsBytes bytes → skip_binary e bytes ≡ Ok rest → TakesScalar kinds.Binary bytes rest
unfolding skip_binary
binary_takes e bytes rest fits is =
    let g = guard_ok (ltb (length bytes) 5) _ _ rest is in
    let h = guard_ok (ltb 2147483647 (number_of bytes) || ltb (length bytes) (5 + number_of bytes)) _ _ rest g.1 in
    let n = or_parts (ltb 2147483647 (number_of bytes)) (ltb (length bytes) (5 + number_of bytes)) h.0 in
    let least : 5 ≤ length bytes = ltb-false _ _ g.0 in
    let few : number_of bytes ≤ 2147483647 = ltb-false _ _ n.0 in
    let le : 5 + number_of bytes ≤ length bytes = ltb-false _ _ n.1 in
    let k = get_or bytes 4 0 in
    let d = data_takes (e - length bytes) k (number_of bytes) (drop 5 bytes) rest (IsBytes-drop 5 bytes fits) (omega (arith, le, length-drop 5 bytes)) h.1 in
    let c = split_at_byte 4 bytes fits (omega (arith, least)) in
    let prefix : number (length (data_of k d.payload)) ≡ take 4 bytes = ap number d.size ∙ number_back (take 4 bytes) c.size c.fits in
    let head : Takes bytes (number (length (data_of k d.payload)) ++ k ∷ []) (drop 5 bytes) = record {
      parts = sym (take-append-drop 4 bytes) ∙ ap₂ (λ (x y : List ℕ). x ++ y) (sym prefix) (drop-cons bytes 4 0 (omega (arith, least)))
          ∙ sym (append_assoc (number (length (data_of k d.payload))) (k ∷ []) (drop 5 bytes));
      rest_fits = IsBytes-drop 5 bytes fits;
    } in
    scalar_takes (trees.binary k d.payload) (Takes-then head d.takes)
    ((fits 4, omega (arith, d.size, few)), append_assoc (number (length (data_of k d.payload))) (k ∷ []) (data_of k d.payload))

-- ---- types

abbrev pub byte_stated : ElementType → ℕ
byte_stated types.Double = 1
byte_stated types.Decimal128 = 19
byte_stated (types.Kept k) = type_byte k

in_table : (ts : List (ℕ × ElementType)) (b : ℕ) (type : ElementType) → list_all (λ t. t.0 == byte_stated t.1) ts ≡ true → lookup (nat_eq b) ts ≡ Some type → b ≡ byte_stated type
in_table [] b type h is = absurd cc
in_table (t ∷ ts) b type h is =
    let p = and_parts (t.0 == byte_stated t.1) (list_all (λ t. t.0 == byte_stated t.1) ts) h in
    found_in (eqb-true t.0 (byte_stated t.1) p.0) (in_table ts b type p.1) (eqb b t.0) refl is
  where
    found_in : t.0 ≡ byte_stated t.1 → (lookup (nat_eq b) ts ≡ Some type → b ≡ byte_stated type) → (same : Bool)
        → eqb b t.0 ≡ same → cond same (Some t.1) (lookup (nat_eq b) ts) ≡ Some type → b ≡ byte_stated type
    found_in stated others true e i = eqb-true b t.0 e ∙ stated ∙ ap byte_stated (same_Some t.1 type i)
    found_in stated others false e i = others i

pub type_takes : (f : Fault) (b : ℕ) (type : ElementType) → ok_or (type_at b) f ≡ Ok type → b ≡ byte_stated type
type_takes f b type is = in_table table.types b type refl (of (type_at b) is)
  where
    of : (o : Option ElementType) → ok_or o f ≡ Ok type → o ≡ Some type
    of None is = absurd cc
    of (Some t) is = cc

pub within_ok : {A : Type 0} (name : List ℕ) (r : Result A Fault) (x : A) → within name r ≡ Ok x → r ≡ Ok x
within_ok name (Ok y) x is = is
within_ok name (Err f) x is = absurd cc

-- the bytes of the code and the scope, and what follows
pub code_frame_takes : (e : ℕ) (bytes : List ℕ) (f : List ℕ × ℕ × List ℕ) → IsBytes bytes → skip_code_frame e bytes ≡ Ok f → Takes bytes (number (length f.0 + 4) ++ f.0) f.2 × IsBytes f.0
unfolding skip_code_frame
code_frame_takes e bytes f fits is =
    let head = bind_ok (skip_number ValueShort e bytes) _ f is in
    let n = head.0.0 in
    let more = head.0.1 in
    let t = number_takes ValueShort e bytes head.0 fits head.1 in
    let g = guard_ok (ltb n 14 || ltb (length bytes) n) _ (done (take (n - 4) more, e - length (drop (n - 4) more), drop (n - 4) more)) f head.2 in
    let h = or_parts (ltb n 14) (ltb (length bytes) n) g.0 in
    let least : 14 ≤ n = ltb-false _ _ h.0 in
    let le : n ≤ length bytes = ltb-false _ _ h.1 in
    let len : length bytes ≡ 4 + length more = ap length t.0.parts ∙ omega (arith, length-append (number n) more, number_length n) in
    let c = split_at_byte (n - 4) more t.0.rest_fits (omega (arith, le, len)) in
    let n_is : n ≡ length (take (n - 4) more) + 4 = omega (arith, least, c.size) in
    rw (← ok_is (take (n - 4) more, e - length (drop (n - 4) more), drop (n - 4) more) f g.1)
    (subst (λ (k : ℕ). Takes bytes (number k ++ take (n - 4) more) (drop (n - 4) more)) n_is (Takes-then t.0 c.takes), c.fits)

-- nothing is taken of a value that holds others
abbrev pub refused : Nested
refused holder q e bytes = fault UnknownType q

-- ---- scalars

pub value_takes : (kind : Kind) (q e : ℕ) (bytes rest : List ℕ) → IsBytes bytes → skip_value refused kind q e bytes ≡ Ok rest → TakesScalar kind bytes rest
value_takes kinds.MinKey q e bytes rest fits is = none_takes trees.min_key bytes rest fits (tt, refl) is
value_takes kinds.Undefined q e bytes rest fits is = none_takes trees.undefined bytes rest fits (tt, refl) is
value_takes kinds.Null q e bytes rest fits is = none_takes trees.null bytes rest fits (tt, refl) is
value_takes kinds.MaxKey q e bytes rest fits is = none_takes trees.max_key bytes rest fits (tt, refl) is
value_takes kinds.Int32 q e bytes rest fits is =
    let f = fixed_takes 4 e bytes rest fits is in
    let n = from_le_bytes w32 f.prefix in
    let back : number (cast_unsigned w32 (cast_signed w32 n)) ≡ f.prefix = ap number (of_z-to_z w32 n (number_below f.prefix f.fits)) ∙ number_back f.prefix f.size f.fits in
    scalar_takes (trees.int32 (cast_signed w32 n)) f.takes (search (arith, ints), sym back)
value_takes kinds.Int64 q e bytes rest fits is = let l = long_takes e bytes rest fits is in scalar_takes (trees.int64 l.0) l.2 (l.1, refl)
value_takes kinds.Date q e bytes rest fits is = let l = long_takes e bytes rest fits is in scalar_takes (trees.date l.0) l.2 (l.1, refl)
value_takes kinds.Timestamp q e bytes rest fits is =
    let f = fixed_takes 8 e bytes rest fits is in
    let low = split_at_byte 4 f.prefix f.fits (omega (arith, f.size)) in
    let high_fits = low.takes.rest_fits in
    let high_size : length (drop 4 f.prefix) ≡ 4 = omega (arith, length-drop 4 f.prefix, f.size) in
    let whole : number (from_le_bytes w32 (take 4 f.prefix)) ++ number (from_le_bytes w32 (drop 4 f.prefix)) ≡ f.prefix =
    ap₂ (λ (x y : List ℕ). x ++ y) (number_back (take 4 f.prefix) low.size low.fits) (number_back (drop 4 f.prefix) high_size high_fits) ∙ take-append-drop 4 f.prefix in
    scalar_takes (trees.timestamp (from_le_bytes w32 (drop 4 f.prefix)) (from_le_bytes w32 (take 4 f.prefix))) f.takes
    ((number_below (drop 4 f.prefix) high_fits, number_below (take 4 f.prefix) low.fits), sym whole)
value_takes kinds.ObjectId q e bytes rest fits is = let f = fixed_takes 12 e bytes rest fits is in scalar_takes (trees.object_id f.prefix) f.takes (f.size, refl)
value_takes kinds.Bool q e bytes rest fits is = boolean_takes e bytes rest fits is
value_takes kinds.Text q e bytes rest fits is = let s = string_takes e bytes rest fits is in scalar_takes (trees.text s.text_bytes) s.takes (s.fits, refl)
value_takes kinds.Symbol q e bytes rest fits is = let s = string_takes e bytes rest fits is in scalar_takes (trees.symbol s.text_bytes) s.takes (s.fits, refl)
value_takes kinds.Code q e bytes rest fits is = let s = string_takes e bytes rest fits is in scalar_takes (trees.code s.text_bytes) s.takes (s.fits, refl)
value_takes kinds.DbPointer q e bytes rest fits is =
    let a = bind_ok (skip_string e bytes) _ rest is in
    let s = string_takes e bytes a.0 fits a.1 in
    let f = fixed_takes 12 e a.0 rest s.takes.rest_fits a.2 in
    scalar_takes (trees.db_pointer s.text_bytes f.prefix) (Takes-then s.takes f.takes) ((s.fits, f.size), refl)
value_takes kinds.Binary q e bytes rest fits is = binary_takes e bytes rest fits is
value_takes kinds.Regex q e bytes rest fits is =
    let a = bind_ok (skip_name StringUnended e bytes) _ rest is in
    let b = bind_ok (skip_name StringUnended e a.0.1) _ rest a.2 in
    let p = name_takes StringUnended e bytes a.0 fits a.1 in
    let o = name_takes StringUnended e a.0.1 b.0 p.0.rest_fits b.1 in
    rw (← ok_is b.0.1 rest b.2) (scalar_takes (trees.regex a.0.0 b.0.0) (Takes-then p.0 o.0) ((p.1, o.1), append_assoc a.0.0 (0 ∷ []) (b.0.0 ++ 0 ∷ [])))
value_takes kinds.Doc q e bytes rest fits is = absurd cc
value_takes kinds.Array q e bytes rest fits is = absurd cc
value_takes kinds.CodeScope q e bytes rest fits is = absurd cc

-- ---- documents by a grammar

-- a value that was skipped: its tree, the bytes that spell it, and those of them that come after the name
pub record TakesValue (g : Grammar) (depth_left : ℕ) (type : ElementType) (bytes rest : List ℕ) : Type 0 where
  pub tree : Tree
  pub value : List ℕ
  pub after_name : List ℕ
  pub spells : IsValueBy g tree value
  pub written : (name : List ℕ) → g.written tree name value ≡ byte_stated type ∷ (name ++ 0 ∷ after_name)
  pub takes : Takes bytes after_name rest
  pub shallow : depth tree ≤ depth_left

-- Under the profile each scalar that is skipped is one of the grammar, and the values that hold others are written as ever.
pub record Spelled (p : Profile) (g : Grammar) : Type 0 where
  pub scalar : (type : ElementType) (q e : ℕ) (bytes rest : List ℕ) → IsBytes bytes → skip_typed p refused type q e bytes ≡ Ok rest → TakesValue g 0 type bytes rest
  pub holder : (t : Tree) (name value : List ℕ) → is_holder (kind_of t) ≡ true → g.written t name value ≡ element t name value

module _ (p : Profile) (g : Grammar) (spelled : Spelled p g) where
  -- a document or an array that was skipped, with n levels remaining: elements whose names an array drops
  record TakesBody (depth_left : ℕ) (bytes rest : List ℕ) : Type 0 where
    pub fields : Fields
    pub body : List ℕ
    pub spell : AreFieldsBy g fields body
    pub takes : Takes bytes (framed body) rest
    pub shallow : fields_depth fields < depth_left

  -- code with scope that was skipped
  record TakesCode (depth_left : ℕ) (bytes rest : List ℕ) : Type 0 where
    pub text_bytes : List ℕ
    pub fields : Fields
    pub body : List ℕ
    pub text_fits : IsText text_bytes
    pub spell : AreFieldsBy g fields body
    pub takes : Takes bytes (scoped text_bytes (framed body)) rest
    pub shallow : suc (fields_depth fields) < depth_left

  abbrev TakesHolder : Holder → ℕ → List ℕ → List ℕ → Type 0
  TakesHolder holders.Document = TakesBody
  TakesHolder holders.Array = TakesBody
  TakesHolder holders.CodeScope = TakesCode

  abbrev NestedTakes : ℕ → Nested → Type 0
  NestedTakes depth_left nested = (holder : Holder) (q e : ℕ) (bytes rest : List ℕ) → IsBytes bytes → nested holder q e bytes ≡ Ok rest → TakesHolder holder depth_left bytes rest

  record TakesElement (depth_left : ℕ) (bytes rest : List ℕ) : Type 0 where
    pub name : List ℕ
    pub tree : Tree
    pub value : List ℕ
    pub named : IsName name
    pub spells : IsValueBy g tree value
    pub takes : Takes bytes (g.written tree name value) rest
    pub shallow : depth tree ≤ depth_left
    pub some : 1 ≤ length (g.written tree name value)

  -- if the values one level down are known
  module _ (depth_left : ℕ) (nested : Nested) (below : NestedTakes depth_left nested) where
    typed_takes : (type : ElementType) (q e : ℕ) (bytes rest : List ℕ) → IsBytes bytes → skip_typed p nested type q e bytes ≡ Ok rest → TakesValue g depth_left type bytes rest
    typed_takes (types.Kept kinds.Doc) q e bytes rest fits is =
        let d = below holders.Document q e bytes rest fits is in
        record { tree = doc d.fields; value = framed d.body; after_name = framed d.body; spells = (d.body, d.spell, refl); written = λ name. spelled.holder (doc d.fields) name (framed d.body) refl; takes = d.takes; shallow = omega (arith, d.shallow) }
    typed_takes (types.Kept kinds.Array) q e bytes rest fits is =
        let d = below holders.Array q e bytes rest fits is in
        let t = array (items_in d.fields) in
        let items = items_from_fields g d.fields d.body d.spell in
        record { tree = t; value = framed d.body; after_name = framed d.body; spells = (d.body, items, refl); written = λ name. spelled.holder t name (framed d.body) refl; takes = d.takes; shallow = omega (arith, d.shallow, items_depth_is d.fields) }
    typed_takes (types.Kept kinds.CodeScope) q e bytes rest fits is =
        let d = below holders.CodeScope q e bytes rest fits is in
        let t = code_scope d.text_bytes d.fields in
        let value = scoped d.text_bytes (framed d.body) in
        record { tree = t; value = value; after_name = value; spells = (d.body, d.spell, refl, d.text_fits); written = λ name. spelled.holder t name value refl; takes = d.takes; shallow = omega (arith, d.shallow) }
    typed_takes type q e bytes rest fits is =
        let v = spelled.scalar type q e bytes rest fits is in
        record { tree = v.tree; value = v.value; after_name = v.after_name; spells = v.spells; written = v.written; takes = v.takes; shallow = omega (arith, v.shallow) }

    element_takes : (index : Option ℕ) (e : ℕ) (bytes rest : List ℕ) → IsBytes bytes → skip_element p nested index e bytes ≡ Ok rest → TakesElement depth_left bytes rest
    unfolding skip_element
    element_takes index e [] rest fits is = absurd cc
    element_takes index e (b ∷ bytes) rest fits is =
        let q = e - suc (length bytes) in
        let unknown : Fault = record { kind = UnknownType; offset = q; path = [] } in
        let f = bind_ok (ok_or (type_at b) unknown) _ rest is in
        let x = bind_ok (skip_name NameUnended e bytes) _ rest f.2 in
        let name = x.0.0 in
        let n = name_takes NameUnended e bytes x.0 (IsBytes-drop 1 (b ∷ bytes) fits) x.1 in
        let v = typed_takes f.0 q e x.0.1 rest n.0.rest_fits (within_ok (label index name) (skip_typed p nested f.0 q e x.0.1) rest x.2) in
        let whole : g.written v.tree name v.value ≡ b ∷ (name ++ 0 ∷ v.after_name) =
        v.written name ∙ ap (λ (k : ℕ). k ∷ (name ++ 0 ∷ v.after_name)) (sym (type_takes unknown b f.0 f.1)) in
        let joined = Takes-then n.0 v.takes in
        let parts : b ∷ bytes ≡ g.written v.tree name v.value ++ rest =
        ap (λ (x : List ℕ). b ∷ x) (joined.parts ∙ ap (λ (x : List ℕ). x ++ rest) (append_assoc name (0 ∷ []) v.after_name)) ∙ ap (λ (x : List ℕ). x ++ rest) (sym whole) in
        record {
          name = name;
          tree = v.tree;
          value = v.value;
          named = n.1;
          spells = v.spells;
          takes = record { parts = parts; rest_fits = v.takes.rest_fits };
          shallow = v.shallow;
          some = omega (arith, ap (λ (x : List ℕ). length x) whole);
        }

    elements_take : (index : Option ℕ) (n e : ℕ) (bytes : List ℕ) → IsBytes bytes → length bytes ≤ n → skip_elements p nested index n e bytes ≡ Ok tt
        → (fields : Fields) × AreFieldsBy g fields bytes × (fields_depth fields ≤ depth_left)
    unfolding skip_elements
    elements_take index n e [] fits le is = (no_fields, refl, omega arith)
    elements_take index zero e (b ∷ bytes) fits le is = absurd (omega arith)
    elements_take index (suc n) e (b ∷ bytes) fits le is =
        let a = bind_ok (skip_element p nested index e (b ∷ bytes)) _ tt is in
        let r = element_takes index e (b ∷ bytes) a.0 fits a.1 in
        let size : suc (length bytes) ≡ length (g.written r.tree r.name r.value) + length a.0 =
        ap (λ (x : List ℕ). length x) r.takes.parts ∙ length-append (g.written r.tree r.name r.value) a.0 in
        let rec = elements_take (option_map suc index) n e a.0 r.takes.rest_fits (omega (arith, size, r.some, le)) a.2 in
        (field r.name r.tree rec.0, (r.value, a.0, r.named, r.spells, rec.1, r.takes.parts), omega (arith, r.shallow, rec.2))

    body_takes : (in_array : Bool) (e : ℕ) (bytes rest : List ℕ) → IsBytes bytes → skip_body p nested in_array e bytes ≡ Ok rest → TakesBody (suc depth_left) bytes rest
    body_takes in_array e bytes rest fits is =
        let f = bind_ok (skip_frame false e bytes) _ rest is in
        let o = bind_ok (skip_elements p nested (cond in_array (Some 0) None) (length f.0.0) f.0.1 f.0.0) _ rest f.2 in
        let r = frame_takes false e bytes f.0 fits f.1 in
        let all = elements_take (cond in_array (Some 0) None) (length f.0.0) f.0.1 f.0.0 r.body_fits (omega arith) o.1 in
        rw (← ok_is f.0.2 rest o.2) (record { fields = all.0; body = f.0.0; spell = all.1; takes = r.takes; shallow = omega (arith, all.2) })

    code_takes : (q e : ℕ) (bytes rest : List ℕ) → IsBytes bytes → skip_code_scope nested q e bytes ≡ Ok rest → TakesCode (suc depth_left) bytes rest
    code_takes q e bytes rest fits is =
        let f = bind_ok (skip_code_frame e bytes) _ rest is in
        let s = bind_ok (skip_string f.0.1 f.0.0) _ rest f.2 in
        let d = bind_ok (within (codes "$scope") (nested holders.Document q f.0.1 s.0)) _ rest s.2 in
        let z = guard_ok (ltb 0 (length d.0)) _ (done f.0.2) rest d.2 in
        let frame = code_frame_takes e bytes f.0 fits f.1 in
        let code = string_takes f.0.1 f.0.0 s.0 frame.1 s.1 in
        let scope = below holders.Document q f.0.1 s.0 d.0 code.takes.rest_fits (within_ok (codes "$scope") (nested holders.Document q f.0.1 s.0) d.0 d.1) in
        let both = Takes-then code.takes scope.takes in
        let parts = string code.text_bytes ++ framed scope.body in
        let whole : f.0.0 ≡ parts = both.parts ∙ ap (λ (x : List ℕ). parts ++ x) (nil_from_length d.0 (omega (arith, ltb-false _ _ z.0))) ∙ append-nil parts in
        let low = scope.shallow in
        rw (← ok_is f.0.2 rest z.1) (record {
          text_bytes = code.text_bytes;
          fields = scope.fields;
          body = scope.body;
          text_fits = code.fits;
          spell = scope.spell;
          takes = subst (λ (x : List ℕ). Takes bytes (number (length x + 4) ++ x) f.0.2) whole frame.0;
          shallow = omega arith;
        })

  nested_takes : (depth_left : ℕ) → NestedTakes depth_left (skip_nested p depth_left)
  unfolding skip_nested
  nested_takes zero holder q e bytes rest fits is = absurd cc
  nested_takes (suc depth_left) holders.Document q e bytes rest fits is = body_takes depth_left (skip_nested p depth_left) (nested_takes depth_left) false e bytes rest fits is
  nested_takes (suc depth_left) holders.Array q e bytes rest fits is = body_takes depth_left (skip_nested p depth_left) (nested_takes depth_left) true e bytes rest fits is
  nested_takes (suc zero) holders.CodeScope q e bytes rest fits is = absurd cc
  nested_takes (suc (suc depth_left)) holders.CodeScope q e bytes rest fits is = code_takes (suc depth_left) (skip_nested p (suc depth_left)) (nested_takes (suc depth_left)) q e bytes rest fits is

  -- the bytes of a document without a fault spell it
  pub document_spelled : (e : ℕ) (bytes : List ℕ) → IsBytes bytes → skip_document p e bytes ≡ Ok tt → (d : Doc) × IsDocumentBy g d bytes
  unfolding skip_document
  document_spelled e bytes fits is =
      let f = bind_ok (skip_frame true e bytes) _ tt is in
      let r = frame_takes true e bytes f.0 fits f.1 in
      let levels = most_levels - 1 in
      let all = elements_take levels (skip_nested p levels) (nested_takes levels) None (length f.0.0) f.0.1 f.0.0 r.body_fits (omega arith) f.2 in
      let whole : bytes ≡ framed f.0.0 = r.takes.parts ∙ ap (λ (x : List ℕ). framed f.0.0 ++ x) (r.whole refl) ∙ append-nil (framed f.0.0) in
      let same = fields_of-pairs_of all.0 in
      let spells : IsValueBy g (doc (fields_of (pairs_of all.0))) bytes = (f.0.0, rw same all.1, whole) in
      (pairs_of all.0, record { spells = spells; short = omega (arith, ap (λ (x : List ℕ). length x) whole, r.short); shallow = omega (arith, all.2, ap fields_depth same) })

-- of the nineteen kinds
nineteen_scalar : (type : ElementType) (q e : ℕ) (bytes rest : List ℕ) → IsBytes bytes → skip_typed Named refused type q e bytes ≡ Ok rest → TakesValue nineteen 0 type bytes rest
nineteen_scalar types.Double q e bytes rest fits is = absurd cc
nineteen_scalar types.Decimal128 q e bytes rest fits is = absurd cc
nineteen_scalar (types.Kept kind) q e bytes rest fits is =
    let v = value_takes kind q e bytes rest fits is in
    record {
      tree = leaf v.scalar;
      value = v.value;
      after_name = v.value;
      spells = v.spells;
      written = λ name. ap (λ (k : Kind). type_byte k ∷ (name ++ 0 ∷ v.value)) v.kinded;
      takes = v.takes;
      shallow = omega arith;
    }

-- a document without a fault is spelled by the bytes
pub document_found : (e : ℕ) (bytes : List ℕ) → IsBytes bytes → skip_document Named e bytes ≡ Ok tt → (d : Doc) × IsDocument d bytes
document_found = document_spelled Named nineteen (record { scalar = nineteen_scalar; holder = λ t name value is_one. refl })

-- ---- what an item leaves, under any profile

-- the bytes after an item are the last of those at which it begins
abbrev pub Leaves : List ℕ → List ℕ → Type 0
Leaves bytes rest = (text : List ℕ) × Takes bytes text rest

abbrev pub NestedLeaves : Nested → Type 0
NestedLeaves nested = (holder : Holder) (q e : ℕ) (bytes rest : List ℕ) → IsBytes bytes → nested holder q e bytes ≡ Ok rest → Leaves bytes rest

no_more : (bytes text rest : List ℕ) → Takes bytes text rest → length rest ≤ length bytes
no_more bytes text rest t = omega (arith, ap length t.parts, length-append text rest)

wide_leaves : (p : Profile) (kind : FaultKind) (n q e : ℕ) (bytes rest : List ℕ) → IsBytes bytes → skip_wide p kind n q e bytes ≡ Ok rest → Leaves bytes rest
wide_leaves Named kind n q e bytes rest fits is = absurd cc
wide_leaves All kind n q e bytes rest fits is = let f = fixed_takes n e bytes rest fits is in (f.prefix, f.takes)

module _ (p : Profile) (nested : Nested) (below : NestedLeaves nested) where
  value_leaves : (kind : Kind) (q e : ℕ) (bytes rest : List ℕ) → IsBytes bytes → skip_value nested kind q e bytes ≡ Ok rest → Leaves bytes rest
  value_leaves kinds.Doc q e bytes rest fits is = below holders.Document q e bytes rest fits is
  value_leaves kinds.Array q e bytes rest fits is = below holders.Array q e bytes rest fits is
  value_leaves kinds.CodeScope q e bytes rest fits is = below holders.CodeScope q e bytes rest fits is
  value_leaves kind q e bytes rest fits is = let v = value_takes kind q e bytes rest fits is in (v.value, v.takes)

  typed_leaves : (type : ElementType) (q e : ℕ) (bytes rest : List ℕ) → IsBytes bytes → skip_typed p nested type q e bytes ≡ Ok rest → Leaves bytes rest
  typed_leaves types.Double q e bytes rest fits is = wide_leaves p Double 8 q e bytes rest fits is
  typed_leaves types.Decimal128 q e bytes rest fits is = wide_leaves p Decimal128 16 q e bytes rest fits is
  typed_leaves (types.Kept kind) q e bytes rest fits is = value_leaves kind q e bytes rest fits is

  -- an element takes some bytes
  pub element_leaves : (index : Option ℕ) (e : ℕ) (bytes rest : List ℕ) → IsBytes bytes → skip_element p nested index e bytes ≡ Ok rest → (length rest < length bytes) × IsBytes rest
  unfolding skip_element
  element_leaves index e [] rest fits is = absurd cc
  element_leaves index e (b ∷ bytes) rest fits is =
      let q = e - suc (length bytes) in
      let unknown : Fault = record { kind = UnknownType; offset = q; path = [] } in
      let f = bind_ok (ok_or (type_at b) unknown) _ rest is in
      let x = bind_ok (skip_name NameUnended e bytes) _ rest f.2 in
      let n = name_takes NameUnended e bytes x.0 (IsBytes-drop 1 (b ∷ bytes) fits) x.1 in
      let v = typed_leaves f.0 q e x.0.1 rest n.0.rest_fits (within_ok (label index x.0.0) (skip_typed p nested f.0 q e x.0.1) rest x.2) in
      (omega (arith, no_more bytes (x.0.0 ++ 0 ∷ []) x.0.1 n.0, no_more x.0.1 v.0 rest v.1), v.1.rest_fits)

  body_leaves : (in_array : Bool) (e : ℕ) (bytes rest : List ℕ) → IsBytes bytes → skip_body p nested in_array e bytes ≡ Ok rest → Leaves bytes rest
  body_leaves in_array e bytes rest fits is =
      let f = bind_ok (skip_frame false e bytes) _ rest is in
      let o = bind_ok (skip_elements p nested (cond in_array (Some 0) None) (length f.0.0) f.0.1 f.0.0) _ rest f.2 in
      rw (← ok_is f.0.2 rest o.2) (framed f.0.0, (frame_takes false e bytes f.0 fits f.1).takes)

  code_leaves : (q e : ℕ) (bytes rest : List ℕ) → IsBytes bytes → skip_code_scope nested q e bytes ≡ Ok rest → Leaves bytes rest
  code_leaves q e bytes rest fits is =
      let f = bind_ok (skip_code_frame e bytes) _ rest is in
      let s = bind_ok (skip_string f.0.1 f.0.0) _ rest f.2 in
      let d = bind_ok (within (codes "$scope") (nested holders.Document q f.0.1 s.0)) _ rest s.2 in
      let z = guard_ok (ltb 0 (length d.0)) _ (done f.0.2) rest d.2 in
      rw (← ok_is f.0.2 rest z.1) (number (length f.0.0 + 4) ++ f.0.0, (code_frame_takes e bytes f.0 fits f.1).0)

pub nested_leaves : (p : Profile) (depth_left : ℕ) → NestedLeaves (skip_nested p depth_left)
unfolding skip_nested
nested_leaves p zero holder q e bytes rest fits is = absurd cc
nested_leaves p (suc depth_left) holders.Document q e bytes rest fits is = body_leaves p (skip_nested p depth_left) (nested_leaves p depth_left) false e bytes rest fits is
nested_leaves p (suc depth_left) holders.Array q e bytes rest fits is = body_leaves p (skip_nested p depth_left) (nested_leaves p depth_left) true e bytes rest fits is
nested_leaves p (suc zero) holders.CodeScope q e bytes rest fits is = absurd cc
nested_leaves p (suc (suc depth_left)) holders.CodeScope q e bytes rest fits is =
    code_leaves p (skip_nested p (suc depth_left)) (nested_leaves p (suc depth_left)) q e bytes rest fits is

number_again : (short : FaultKind) (e n : ℕ) (rest : List ℕ) → n < 2 ^ 32 → skip_number short e (number n ++ rest) ≡ Ok (n, rest)
number_again short e n rest lt =
    let len = number_length n in
    let long : ltb (length (number n ++ rest)) 4 ≡ false = le-ltb _ _ (omega (arith, length-append (number n) rest)) in
    rw (long, take_at (number n) rest 4 len, drop_at (number n) rest 4 len, number_value n lt) refl

name_offset : (name rest : List ℕ) → AllByRecursion (λ b. b ≢ 0) name → position (λ b. b == 0) (name ++ 0 ∷ rest) ≡ Some (length name)
name_offset name rest h =
    let long : ltb (length name) (length (name ++ 0 ∷ rest)) ≡ true = grind (arith, nat_tests, length-append name (0 ∷ rest)) in
    rw (zero_offset name rest h, long) refl

name_again : (kind : FaultKind) (e : ℕ) (name rest : List ℕ) → IsName name → skip_name kind e (name ++ 0 ∷ rest) ≡ Ok (name, rest)
unfolding skip_name
name_again kind e name rest h =
    let after : drop (length name + 1) (name ++ 0 ∷ rest) ≡ rest = sym (drop-drop 1 (length name) (name ++ 0 ∷ rest)) ∙ ap (drop 1) (drop_at name (0 ∷ rest) (length name) refl) in
    rw (name_offset name rest h.1, take_at name (0 ∷ rest) (length name) refl, after, is_utf8-from_IsUtf8 name h.0) refl

string_again : (e : ℕ) (s rest : List ℕ) → IsText s → skip_string e (string s ++ rest) ≡ Ok rest
unfolding skip_string
string_again e s rest h =
    let k : (length s + 1) - 1 ≡ length s = omega arith in
    let more = s ++ 0 ∷ rest in
    let tests = or_from (eqb (length s + 1) 0) (ltb (length more) (length s + 1)) (ne_eqb _ _ (λ z. omega arith)) (le-ltb _ _ (omega (arith, length-append s (0 ∷ rest)))) in
    ap (skip_string e) (string_after s rest)
    ∙ rw (number_again ValueShort e (length s + 1) more h.1, tests, k, drop_at s (0 ∷ rest) (length s) refl, take_at s (0 ∷ rest) (length s) refl, is_utf8-from_IsUtf8 s h.0) refl

frame_tests : (top : Bool) (n m : ℕ) → 5 ≤ n → n ≤ longest_document → n ≤ m → (top ≡ true → n ≡ m) → (ltb n 5 || ltb longest_document n || ltb m n || (top && not (eqb n m))) ≡ false
frame_tests true n m low high le all = let same = all refl in grind (arith, nat_tests)
frame_tests false n m low high le all = grind (arith, nat_tests)

frame_again : (top : Bool) (e : ℕ) (body rest : List ℕ) → length (framed body) ≤ longest_document → (top ≡ true → rest ≡ [])
    → skip_frame top e (framed body ++ rest) ≡ Ok (body, e - length (0 ∷ rest), rest)
unfolding skip_frame
frame_again top e body rest short all =
    let n = length body + 5 in
    let more = body ++ 0 ∷ rest in
    let k : (length body + 5) - 5 ≡ length body = omega arith in
    let total = framed_length body in
    let size : length (number n ++ more) ≡ length body + 5 + length rest = omega (arith, ap length (framed_after body rest), length-append (framed body) rest, total) in
    let tests = frame_tests top n (length (number n ++ more)) (omega arith) (omega (arith, total, short)) (omega (arith, size)) (λ is. omega (arith, size, ap length (all is))) in
    ap (skip_frame top e) (framed_after body rest)
    ∙ rw (number_again (cond top ShortLength ValueShort) e n more (omega (arith, total, short)), tests, k, drop_at body (0 ∷ rest) (length body) refl, take_at body (0 ∷ rest) (length body) refl) refl

-- an element is skipped if its value is
pub typed_again : (p : Profile) (nested : Nested) (index : Option ℕ) (e : ℕ) (type : ElementType) (b : ℕ) (name value rest : List ℕ) → type_at b ≡ Some type → IsName name
    → ((q : ℕ) → skip_typed p nested type q e (value ++ rest) ≡ Ok rest) → skip_element p nested index e ((b ∷ (name ++ 0 ∷ value)) ++ rest) ≡ Ok rest
unfolding skip_element
typed_again p nested index e type b name value rest typed named h =
    let whole : (name ++ 0 ∷ value) ++ rest ≡ name ++ 0 ∷ (value ++ rest) = append_assoc name (0 ∷ value) rest in
    let q = e - suc (length (name ++ 0 ∷ (value ++ rest))) in
    ap (λ (x : List ℕ). skip_element p nested index e (b ∷ x)) whole ∙ rw (typed, name_again NameUnended e name (value ++ rest) named, h q) refl

-- an element of the nineteen kinds is skipped if its value is
pub element_again : (p : Profile) (nested : Nested) (index : Option ℕ) (e : ℕ) (t : Tree) (name value rest : List ℕ) → IsName name → ((q : ℕ) → skip_value nested (kind_of t) q e (value ++ rest) ≡ Ok rest)
    → skip_element p nested index e (element t name value ++ rest) ≡ Ok rest
element_again p nested index e t name value rest named h = typed_again p nested index e (types.Kept (kind_of t)) (type_byte (kind_of t)) name value rest (type_is (kind_of t)) named h

-- one more element
next_again : (p : Profile) (nested : Nested) (index : Option ℕ) (n e : ℕ) (first rest bytes : List ℕ) → bytes ≡ first ++ rest → length bytes ≤ n → 1 ≤ length first
    → skip_element p nested index e (first ++ rest) ≡ Ok rest → ((m : ℕ) → length rest ≤ m → skip_elements p nested (option_map suc index) m e rest ≡ Ok tt)
    → skip_elements p nested index n e bytes ≡ Ok tt
unfolding skip_elements
next_again p nested index n e [] rest bytes is turns some skips others = absurd (omega arith)
next_again p nested index zero e (b ∷ first) rest bytes is turns some skips others = absurd (omega (arith, ap length is))
next_again p nested index (suc n) e (b ∷ first) rest bytes is turns some skips others = rw (is, skips) (others n (omega (arith, ap length is, length-append (b ∷ first) rest)))

-- no elements have no fault
pub elements_nil : (p : Profile) (nested : Nested) (index : Option ℕ) (n e : ℕ) → skip_elements p nested index n e [] ≡ Ok tt
unfolding skip_elements
elements_nil p nested index zero e = refl
elements_nil p nested index (suc n) e = refl

body_again : (p : Profile) (nested : Nested) (in_array : Bool) (e : ℕ) (body rest : List ℕ) → length (framed body) ≤ longest_document
    → ((e : ℕ) → skip_elements p nested (cond in_array (Some 0) None) (length body) e body ≡ Ok tt)
    → skip_body p nested in_array e (framed body ++ rest) ≡ Ok rest
body_again p nested in_array e body rest short h = rw (frame_again false e body rest short (λ is. absurd cc), h (e - length (0 ∷ rest))) refl

-- ---- scalars

-- n bytes are skipped
pub fixed_again : (n e : ℕ) (prefix rest : List ℕ) → length prefix ≡ n → skip_fixed n e (prefix ++ rest) ≡ Ok rest
fixed_again n e prefix rest len =
    let long : ltb (length (prefix ++ rest)) n ≡ false = le-ltb _ _ (omega (arith, length-append prefix rest)) in
    rw (long, drop_at prefix rest n len) refl

pointer_again : (e : ℕ) (s id rest : List ℕ) → IsText s → length id ≡ 12 → (skip_string e ((string s ++ id) ++ rest) >>= λ more. skip_fixed 12 e more) ≡ Ok rest
pointer_again e s id rest h len =
    ap (λ (x : List ℕ). skip_string e x >>= λ more. skip_fixed 12 e more) (append_assoc (string s) id rest) ∙ rw (string_again e s (id ++ rest) h) (fixed_again 12 e id rest len)

regex_again : (e : ℕ) (p o rest : List ℕ) → IsName p → IsName o → skip_regex e ((p ++ 0 ∷ (o ++ 0 ∷ [])) ++ rest) ≡ Ok rest
regex_again e p o rest hp ho =
    ap (skip_regex e) (regex_whole p o rest) ∙ rw (name_again StringUnended e p (o ++ 0 ∷ rest) hp, name_again StringUnended e o rest ho) refl

data_again : (at k : ℕ) (s rest : List ℕ) → length (data_of k s) < 2 ^ 31 → skip_data at k (length (data_of k s)) (data_of k s ++ rest) ≡ Ok rest
data_again at k s rest lt = of (k == 2) refl
  where
    of : (two : Bool) → (k == 2) ≡ two → skip_data at k (length (data_of k s)) (data_of k s ++ rest) ≡ Ok rest
    of true is =
        let code_bytes = number (length s) ++ s in
        let size : length (number (length s) ++ s) ≡ 4 + length s = omega (arith, length-append (number (length s)) s, number_length (length s)) in
        let few : length (number (length s) ++ s) < 2 ^ 31 = rw is at lt in
        let long : ltb (length (number (length s) ++ s)) 4 ≡ false = le-ltb _ _ (omega (arith, size)) in
        let inner : number_of (code_bytes ++ rest) ≡ length code_bytes - 4 =
        ap number_of (append_assoc (number (length s)) s rest) ∙ number_prefix (length s) (s ++ rest) (omega (arith, size, few)) ∙ omega (arith, size) in
        rw (is, long, eq-eqb (number_of (code_bytes ++ rest)) (length code_bytes - 4) inner, drop_at code_bytes rest (length code_bytes) refl) refl
    of false is = rw (is, drop_at s rest (length s) refl) refl

binary_again : (e k : ℕ) (s rest : List ℕ) → length (data_of k s) < 2 ^ 31 → skip_binary e ((number (length (data_of k s)) ++ k ∷ data_of k s) ++ rest) ≡ Ok rest
unfolding skip_binary
binary_again e k s rest lt =
    let v = (number (length (data_of k s)) ++ k ∷ data_of k s) ++ rest in
    let n = binary_count k (data_of k s) rest lt in
    let count = number_length (length (data_of k s)) in
    let size : length v ≡ 5 + length (data_of k s) + length rest =
    omega (arith, ap length (binary_whole k (data_of k s) rest), length-append (number (length (data_of k s))) (k ∷ (data_of k s ++ rest)), count, length-append (data_of k s) rest) in
    let long : ltb (length v) 5 ≡ false = le-ltb _ _ (omega (arith, size)) in
    let tests = or_from (ltb 2147483647 (number_of v)) (ltb (length v) (5 + number_of v)) (le-ltb _ _ (omega (arith, n, lt))) (le-ltb _ _ (omega (arith, n, size))) in
    let after : drop 5 v ≡ data_of k s ++ rest = ap (drop 5) (binary_whole k (data_of k s) rest) ∙ after_five (length (data_of k s)) k (data_of k s ++ rest) in
    rw (long, tests, binary_subtype k (data_of k s) rest, n, after) (data_again (e - length v) k s rest lt)

-- a scalar of the nineteen kinds is skipped
pub scalar_again : (nested : Nested) (s : Scalar) (q e : ℕ) (value rest : List ℕ) → IsScalar s value → skip_value nested (scalar_kind s) q e (value ++ rest) ≡ Ok rest
scalar_again nested (trees.int32 z) q e value rest h = fixed_again 4 e value rest (sym (scalar_size (trees.int32 z) value rest h))
scalar_again nested (trees.int64 z) q e value rest h = fixed_again 8 e value rest (sym (scalar_size (trees.int64 z) value rest h))
scalar_again nested (trees.date z) q e value rest h = fixed_again 8 e value rest (sym (scalar_size (trees.date z) value rest h))
scalar_again nested (trees.timestamp s i) q e value rest h = fixed_again 8 e value rest (sym (scalar_size (trees.timestamp s i) value rest h))
scalar_again nested (trees.object_id id) q e value rest h = fixed_again 12 e value rest (sym (scalar_size (trees.object_id id) value rest h))
scalar_again nested (trees.boolean true) q e value rest h = rw h.1 refl
scalar_again nested (trees.boolean false) q e value rest h = rw h.1 refl
scalar_again nested (trees.text s) q e value rest h = rw h.1 (string_again e s rest h.0)
scalar_again nested (trees.symbol s) q e value rest h = rw h.1 (string_again e s rest h.0)
scalar_again nested (trees.code s) q e value rest h = rw h.1 (string_again e s rest h.0)
scalar_again nested (trees.db_pointer s id) q e value rest h = rw h.1 (pointer_again e s id rest h.0.0 h.0.1)
scalar_again nested (trees.regex p o) q e value rest h = rw h.1 (regex_again e p o rest h.0.0 h.0.1)
scalar_again nested (trees.binary k s) q e value rest h = rw h.1 (binary_again e k s rest h.0.1)
scalar_again nested _ q e value rest h = rw h.1 refl

-- ---- code with scope

code_frame_again : (e : ℕ) (parts rest : List ℕ) → 10 ≤ length parts → length parts ≤ longest_document
    → skip_code_frame e ((number (length parts + 4) ++ parts) ++ rest) ≡ Ok (parts, e - length rest, rest)
unfolding skip_code_frame
code_frame_again e parts rest least short =
    let n = length parts + 4 in
    let whole = append_assoc (number n) parts rest in
    let k : (length parts + 4) - 4 ≡ length parts = omega arith in
    let size : length (number n ++ (parts ++ rest)) ≡ length parts + 4 + length rest = omega (arith, length-append (number n) (parts ++ rest), number_length n, length-append parts rest) in
    let tests = or_from (ltb n 14) (ltb (length (number n ++ (parts ++ rest))) n) (le-ltb _ _ (omega arith)) (le-ltb _ _ (omega (arith, size))) in
    ap (skip_code_frame e) whole ∙ rw (number_again ValueShort e n (parts ++ rest) (omega arith), tests, k, drop_at parts rest (length parts) refl, take_at parts rest (length parts) refl) refl

code_nested : (p : Profile) (r q e : ℕ) (s body rest : List ℕ) → IsText s → length (string s ++ framed body) ≤ longest_document → ((e : ℕ) → skip_elements p (skip_nested p r) None (length body) e body ≡ Ok tt)
    → skip_nested p (suc (suc r)) holders.CodeScope q e (scoped s (framed body) ++ rest) ≡ Ok rest
unfolding skip_nested
code_nested p r q e s body rest h short inside =
    let size = length-append (string s) (framed body) in
    let f = code_frame_again e (string s ++ framed body) rest (omega (arith, size, framed_length body, string_length s)) short in
    let scope : skip_nested p (suc r) holders.Document q (e - length rest) (framed body) ≡ Ok [] =
    ap (skip_body p (skip_nested p r) false (e - length rest)) (sym (append-nil (framed body))) ∙ body_again p (skip_nested p r) false (e - length rest) body [] (omega (arith, size, short)) inside in
    rw (f, string_again (e - length rest) s (framed body) h, scope) refl

-- Under the profile each scalar of the grammar is skipped, and the values that hold others are written as ever.
pub record Skips (p : Profile) (g : Grammar) : Type 0 where
  pub scalar : (nested : Nested) (index : Option ℕ) (e : ℕ) (s : Scalar) (name value rest : List ℕ) → IsName name → g.Spells s value
      → skip_element p nested index e (g.written (leaf s) name value ++ rest) ≡ Ok rest
  pub some : (s : Scalar) (name value : List ℕ) → g.Spells s value → 1 ≤ length (g.written (leaf s) name value)
  pub holder : (t : Tree) (name value : List ℕ) → is_holder (kind_of t) ≡ true → g.written t name value ≡ element t name value

module _ (p : Profile) (g : Grammar) (skips : Skips p g) where
  some_written : (t : Tree) (name value : List ℕ) → IsValueBy g t value → 1 ≤ length (g.written t name value)
  some_written (leaf s) name value h = skips.some s name value h
  some_written (doc fs) name value h = rw (skips.holder (doc fs) name value refl) (omega arith)
  some_written (array ts) name value h = rw (skips.holder (array ts) name value refl) (omega arith)
  some_written (code_scope s fs) name value h = rw (skips.holder (code_scope s fs) name value refl) (omega arith)

  holder_short : (t : Tree) (name value : List ℕ) → is_holder (kind_of t) ≡ true → length (g.written t name value) ≤ longest_document → length value ≤ longest_document
  holder_short t name value is_one short =
      omega (arith, short, ap (λ (x : List ℕ). length x) (skips.holder t name value is_one), length-append name (0 ∷ value))

  holder_again : (nested : Nested) (index : Option ℕ) (e : ℕ) (t : Tree) (name value rest : List ℕ) → IsName name → is_holder (kind_of t) ≡ true
      → ((q : ℕ) → skip_value nested (kind_of t) q e (value ++ rest) ≡ Ok rest) → skip_element p nested index e (g.written t name value ++ rest) ≡ Ok rest
  holder_again nested index e t name value rest named is_one h = rw (skips.holder t name value is_one) (element_again p nested index e t name value rest named h)

  mutual
    unfolding skip_nested

    value_again : (t : Tree) (index : Option ℕ) (depth_left e : ℕ) (name value rest : List ℕ) → IsName name → IsValueBy g t value → depth t ≤ depth_left
        → length (g.written t name value) ≤ longest_document → skip_element p (skip_nested p depth_left) index e (g.written t name value ++ rest) ≡ Ok rest
    value_again (leaf s) index depth_left e name value rest named h deep short = skips.scalar (skip_nested p depth_left) index e s name value rest named h
    value_again (doc fs) index zero e name value rest named h deep short = absurd (omega arith)
    value_again (doc fs) index (suc r) e name value rest named h deep short =
        let size : length (framed h.0) ≤ longest_document = omega (arith, holder_short (doc fs) name value refl short, ap length h.2) in
        let less : length h.0 ≤ longest_document = omega (arith, size, framed_length h.0) in
        holder_again (skip_nested p (suc r)) index e (doc fs) name value rest named refl
        (λ q. rw h.2 (body_again p (skip_nested p r) false e h.0 rest size (λ end. fields_again fs None r (length h.0) end h.0 h.1 (omega arith) less (omega arith))))
    value_again (array ts) index zero e name value rest named h deep short = absurd (omega arith)
    value_again (array ts) index (suc r) e name value rest named h deep short =
        let size : length (framed h.0) ≤ longest_document = omega (arith, holder_short (array ts) name value refl short, ap length h.2) in
        let less : length h.0 ≤ longest_document = omega (arith, size, framed_length h.0) in
        holder_again (skip_nested p (suc r)) index e (array ts) name value rest named refl
        (λ q. rw h.2 (body_again p (skip_nested p r) true e h.0 rest size (λ end. items_again ts (Some 0) r (length h.0) end h.0 h.1 (omega arith) less (omega arith))))
    value_again (code_scope s fs) index zero e name value rest named h deep short = absurd (omega arith)
    value_again (code_scope s fs) index (suc zero) e name value rest named h deep short = absurd (omega arith)
    value_again (code_scope s fs) index (suc (suc r)) e name value rest named h deep short =
        let parts : length (string s ++ framed h.0) ≤ longest_document
        = omega (arith, holder_short (code_scope s fs) name value refl short, ap (λ (x : List ℕ). length x) h.2, scoped_length s (framed h.0)) in
        let less : length h.0 ≤ longest_document = omega (arith, parts, framed_length h.0, length-append (string s) (framed h.0)) in
        holder_again (skip_nested p (suc (suc r))) index e (code_scope s fs) name value rest named refl
        (λ q. rw h.2 (code_nested p r q e s h.0 rest h.3 parts (λ end. fields_again fs None r (length h.0) end h.0 h.1 (omega arith) less (omega arith))))

    fields_again : (fs : Fields) (index : Option ℕ) (depth_left n e : ℕ) (bytes : List ℕ) → AreFieldsBy g fs bytes → fields_depth fs ≤ depth_left
        → length bytes ≤ longest_document → length bytes ≤ n → skip_elements p (skip_nested p depth_left) index n e bytes ≡ Ok tt
    fields_again no_fields index depth_left n e bytes h deep short turns = rw h (elements_nil p (skip_nested p depth_left) index n e)
    fields_again (field name t fs) index depth_left n e bytes h deep short turns =
        let size : length bytes ≡ length (g.written t name h.0) + length h.1 = ap (λ (x : List ℕ). length x) h.5 ∙ length-append (g.written t name h.0) h.1 in
        let some = some_written t name h.0 h.3 in
        next_again p (skip_nested p depth_left) index n e (g.written t name h.0) h.1 bytes h.5 turns some (value_again t index depth_left e name h.0 h.1 h.2 h.3 (omega arith) (omega (arith, size)))
        (λ m le. fields_again fs (option_map suc index) depth_left m e h.1 h.4 (omega arith) (omega (arith, size)) le)

    items_again : (ts : Items) (index : Option ℕ) (depth_left n e : ℕ) (bytes : List ℕ) → AreItemsBy g ts bytes → items_depth ts ≤ depth_left
        → length bytes ≤ longest_document → length bytes ≤ n → skip_elements p (skip_nested p depth_left) index n e bytes ≡ Ok tt
    items_again no_items index depth_left n e bytes h deep short turns = rw h (elements_nil p (skip_nested p depth_left) index n e)
    items_again (item t ts) index depth_left n e bytes h deep short turns =
        let size : length bytes ≡ length (g.written t h.0 h.1) + length h.2 = ap (λ (x : List ℕ). length x) h.6 ∙ length-append (g.written t h.0 h.1) h.2 in
        let some = some_written t h.0 h.1 h.4 in
        next_again p (skip_nested p depth_left) index n e (g.written t h.0 h.1) h.2 bytes h.6 turns some (value_again t index depth_left e h.0 h.1 h.2 h.3 h.4 (omega arith) (omega (arith, size)))
        (λ m le. items_again ts (option_map suc index) depth_left m e h.2 h.5 (omega arith) (omega (arith, size)) le)

  -- the bytes of a document by the grammar have no fault
  pub document_skipped : (e : ℕ) (bytes : List ℕ) (d : Doc) → IsDocumentBy g d bytes → skip_document p e bytes ≡ Ok tt
  unfolding skip_document
  document_skipped e bytes d h =
      let s = h.spells in
      let size : length (framed s.0) ≤ longest_document = let m = h.short in omega (arith, ap length s.2) in
      let deep : fields_depth (fields_of d) ≤ most_levels - 1 = let m = h.shallow in omega arith in
      let whole : bytes ≡ framed s.0 ++ [] = s.2 ∙ sym (append-nil (framed s.0)) in
      let inside = fields_again (fields_of d) None (most_levels - 1) (length s.0) (e - length {A = ℕ} (0 ∷ [])) s.0 s.1 deep (omega (arith, size, framed_length s.0)) (omega arith) in
      rw (whole, frame_again true e s.0 [] size (λ is. refl), inside) refl

-- under each profile the nineteen kinds are skipped
nineteen_skips : (p : Profile) → Skips p nineteen
nineteen_skips p = record {
  scalar = λ nested index e s name value rest named h. element_again p nested index e (leaf s) name value rest named (λ q. scalar_again nested s q e value rest h);
  some = λ s name value h. omega arith;
  holder = λ t name value is_one. refl;
}

-- the bytes of a document have no fault
pub document_again : (p : Profile) (e : ℕ) (bytes : List ℕ) (d : Doc) → IsDocument d bytes → skip_document p e bytes ≡ Ok tt
document_again p e bytes d h = document_skipped p nineteen (nineteen_skips p) e bytes d h
