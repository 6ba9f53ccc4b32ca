-- A document read from a text fits its types, and its texts and names are UTF-8.
use Rattle.std.proofs.Common.{◌≡◌, ◌<◌, ℕ, zero, suc, ◌+◌, ◌*◌, ◌/◌, true, List, [], ◌∷◌, ◌++◌, length, take, drop, slice_index, Option, Some, None, Result, Ok, Err, inl}
use Rattle.std.proofs.Common.{inr, ◌⊎◌, refl, subst, arith, ltb-true, ◌-◌, ◌^◌, ℤ, pos, negsuc, Bool, sym, ap, ◌∙◌, leb-true}
use Rattle.std.specs.Prelude.{IsUtf8, nat_lt, FitsSigned, codes, nat_le, option_map, option_and_then, ◌&&◌, false, cond, unwrap_or}
use Rattle.std.specs.{Option.option_map_or, Option.option_zip, Result.result_ok}
use Rattle.std.specs.List.{AllByRecursion}
use lib.Utf8.{scalar, scalars, encode, encodes, scalar_cases}
use Rattle.std.proofs.lemmas.Bool.{cases_lt, and_parts}
use Rattle.std.proofs.lemmas.Bool.Decides.{nat_tests}
use Rattle.std.proofs.lemmas.List.{get_or-drop, get_or_past}
use Rattle.base64.specs.Engines.{standard}
use Rattle.base64.specs.GeneralPurpose.{decode_of}
use Rattle.base64.specs.Decode.{or_else, symbol_error, group_error, group_bytes, groups_error, groups_bytes, groups_before_last, decode_group, no_leftover}
use Rattle.base64.specs.Decode.{push_leftover, scan_steps, scan_bytes, suffix_bytes, decode_error, decode_outcome, decoded_bytes}
use Rattle.base64.specs.declared.decode.DecodeError.{DecodeError}
use Rattle.base64.proofs.Decoding.{IsLeftover, IsLeftover_next}
use Rattle.base64.proofs.Tables.{are_tables_inverse, IsDecodeTable_from}
use Rattle.bd_value.specs.Fits.{AreBytes, IsId, ScalarFits, Fits, ItemsFit, FieldsFit, has_zero}
use Rattle.bd_extjson.proofs.Utf8Lemmas.{when, Holds, then, IsTextJson, AreTextItems, AreTextMembers, json_texts}
use Rattle.std.specs.Int.{w32, w64}
use Rattle.std.specs.Str.{bytes_eq}
use Rattle.hex.specs.Hex.{decode_sized, hex_digit_value}
use Rattle.bd_value.specs.Limits.{most_levels}
use Rattle.hex.proofs.HexLemmas.{decode_of-ok, decode_sized-ok, decode_sized-twice}
use Rattle.json.specs.Json as json
use Rattle.json.specs.Json.{Json}
use Rattle.json.specs.Find.{as_bool, as_str, as_object}
use Rattle.bd_value.specs.Tree as trees
use Rattle.bd_value.specs.Tree.{Scalar, Tree, leaf, doc, array, code_scope, Items, Fields, field, no_fields, Doc, fields_of, pairs_of, fields_of-pairs_of}
use Rattle.bd_extjson_wrapper.specs.WholeNumber.{fits_bits, if_fits, whole, whole_64, whole_32}
use Rattle.bd_extjson_wrapper.specs.Wrapper.{wrapper_of, single, pair_members, only_member, only, pair, id_of, data_in, digits_in, subtype_in}
use Rattle.bd_extjson_wrapper.specs.Wrapper.{if_word, word_in, name_in, both_in, one, long_in}
use Rattle.bd_extjson_wrapper.specs.declared.wrapper.Wrapper.{Wrapper}
use Rattle.bd_extjson_wrapper.specs.declared.wrapper.Wrapper.TheVariants as kinds
use Rattle.bd_extjson.specs.Read.{bare_number, nested, add_item, add_field, with_scope, two, wrap}
use Rattle.bd_extjson.specs.Read.{wrap_items, wrap_object, wrapped, wrap_fields, ReadsAs, document}
use Rattle.bd_extjson.specs.Read as reads

-- the type of the scan state of the last symbols, whose name base64 does not export
abbrev TypeOf : {A : Type 0} → A → Type 0
TypeOf {A = A} x = A

abbrev Leftover : Type 0
Leftover = TypeOf no_leftover

-- each of them is below n
abbrev AreBelow : ℕ → List ℕ → Type 0
AreBelow n = AllByRecursion (λ b. b < n)

below_at : (n : ℕ) (bs : List ℕ) → 0 < n → AreBelow n bs → (i : ℕ) → slice_index bs i < n
below_at n [] some p i = omega arith
below_at n (x ∷ bs) some p zero = p.0
below_at n (x ∷ bs) some p (suc i) = below_at n bs some p.1 i

below_append : (a b : List ℕ) → AreBelow 256 a → AreBelow 256 b → AreBelow 256 (a ++ b)
below_append [] b p q = q
below_append (x ∷ a) b p q = (p.0, below_append a b p.1 q)

below_take : (n : ℕ) (a : List ℕ) → AreBelow 256 a → AreBelow 256 (take n a)
below_take zero a p = tt
below_take (suc n) [] p = tt
below_take (suc n) (x ∷ a) p = (p.0, below_take n a p.1)

-- ---- the bytes of a text

char_bytes : (c : ℕ) → c < 1114112 → AreBelow 256 (encode c)
unfolding encode
char_bytes c top =
    when (AreBelow 256) (nat_lt c 128) _ _ (λ e. (omega (arith, ltb-true c 128 e), tt))
    (λ e. when (AreBelow 256) (nat_lt c 2048) _ _ (λ f. (omega (arith, ltb-true c 2048 f), (omega arith, tt)))
    (λ f. when (AreBelow 256) (nat_lt c 65536) _ _ (λ g. (omega (arith, ltb-true c 65536 g), (omega arith, (omega arith, tt))))
    (λ g. (omega arith, (omega arith, (omega arith, (omega arith, tt)))))))

chars_bytes : (cs : List ℕ) → scalars cs ≡ true → AreBelow 256 (encodes cs)
chars_bytes [] s = tt
chars_bytes (c ∷ cs) s =
    let p = and_parts (scalar c) (scalars cs) s in
    let top : c < 1114112 = elim (scalar_cases c p.0) [ inl low ↦ omega arith | inr high ↦ high.1 ] in
    below_append (encode c) (encodes cs) (char_bytes c top) (chars_bytes cs p.1)

text_bytes : (s : List ℕ) → IsUtf8 s → AreBytes s
text_bytes s utf8 = below_at 256 s (omega arith) (subst (AreBelow 256) utf8.1.1 (chars_bytes utf8.0 utf8.1.0))

-- ---- groups of four symbols

group_of : (a b c d : ℕ) → a < 64 → b < 64 → c < 64 → d < 64 → AreBelow 256 (decode_group a b c d)
group_of a b c d p q r s = (omega arith, (omega arith, (omega arith, tt)))

neither : (a b : Option DecodeError) → or_else a b ≡ None → (a ≡ None) × (b ≡ None)
neither None b e = (refl, e)
neither (Some x) b e = absurd cc

module _ (dec : List ℕ) (small : (x : ℕ) → (slice_index dec x ≡ 255) ⊎ (slice_index dec x < 64)) where
  symbol : (s : List ℕ) (i : ℕ) → symbol_error dec s i ≡ None → slice_index dec (slice_index s i) < 64
  symbol s i e = grind (arith, nat_tests, small (slice_index s i), e)

  groups : (s : List ℕ) (q : ℕ) → groups_error dec s q ≡ None → AreBelow 256 (groups_bytes dec s q)
  unfolding groups_error groups_bytes
  groups s zero e = tt
  groups s (suc q) e =
      let a = neither (groups_error dec s q) (group_error dec s (4 * q)) e in
      let b = neither (symbol_error dec s (4 * q)) (or_else (symbol_error dec s (4 * q + 1)) (or_else (symbol_error dec s (4 * q + 2)) (symbol_error dec s (4 * q + 3)))) a.1 in
      let c = neither (symbol_error dec s (4 * q + 1)) (or_else (symbol_error dec s (4 * q + 2)) (symbol_error dec s (4 * q + 3))) b.1 in
      let d = neither (symbol_error dec s (4 * q + 2)) (symbol_error dec s (4 * q + 3)) c.1 in
      below_append (groups_bytes dec s q) (group_bytes dec s (4 * q)) (groups s q a.0)
      (group_of (slice_index dec (slice_index s (4 * q))) (slice_index dec (slice_index s (4 * q + 1))) (slice_index dec (slice_index s (4 * q + 2))) (slice_index dec (slice_index s (4 * q + 3)))
      (symbol s (4 * q) b.0) (symbol s (4 * q + 1) c.0) (symbol s (4 * q + 2) d.0) (symbol s (4 * q + 3) d.1))

  last_bytes : (pad at : ℕ) (bs : List ℕ) (st : Leftover) (i : ℕ) → IsLeftover st i → ((k : ℕ) → slice_index bs k < 256) → AreBelow 256 (scan_bytes (scan_steps dec pad at (Ok st) i bs))
  unfolding scan_steps
  last_bytes pad at [] st i leftover bytes =
      below_take (st.morsels_count * 6 / 8) (decode_group (slice_index st.morsels 0) (slice_index st.morsels 1) (slice_index st.morsels 2) (slice_index st.morsels 3))
      (group_of (slice_index st.morsels 0) (slice_index st.morsels 1) (slice_index st.morsels 2) (slice_index st.morsels 3) (leftover.3 0) (leftover.3 1) (leftover.3 2) (leftover.3 3))
  last_bytes pad at (b ∷ bs) st i leftover bytes = go (last_bytes pad at bs) (push_leftover dec pad at st i b) refl
    where
      go : ((next : Leftover) (k : ℕ) → IsLeftover next k → ((j : ℕ) → slice_index bs j < 256) → AreBelow 256 (scan_bytes (scan_steps dec pad at (Ok next) k bs)))
          → (r : Result Leftover DecodeError) → push_leftover dec pad at st i b ≡ r → AreBelow 256 (scan_bytes (scan_steps dec pad at r (i + 1) bs))
      go more (Err e) is = tt
      go more (Ok next) is = more next (i + 1) (IsLeftover_next dec pad at st i b next (λ x lt. small x) leftover (bytes 0) is) (λ k. bytes (suc k))

  whole_bytes : (pad : ℕ) (s : List ℕ) → ((k : ℕ) → slice_index s k < 256) → groups_error dec s (groups_before_last (length s)) ≡ None → AreBelow 256 (decoded_bytes dec pad s)
  whole_bytes pad s bytes none =
      let q = groups_before_last (length s) in
      let none_yet = below_at 64 (0 ∷ 0 ∷ 0 ∷ 0 ∷ []) (omega arith) (omega arith, (omega arith, (omega arith, (omega arith, tt)))) in
      below_append (groups_bytes dec s q) (suffix_bytes dec pad (4 * q) s) (groups s q none)
      (last_bytes pad (4 * q) (drop (4 * q) s) no_leftover 0 (omega arith, omega arith, omega arith, none_yet) (λ k. rw get_or-drop (bytes (4 * q + k))))

-- ---- the bytes that the engine for the data of binary decodes

value_small : (x : ℕ) → (slice_index standard.decode_table x ≡ 255) ⊎ (slice_index standard.decode_table x < 64)
value_small x = elim (cases_lt x 256) [
  | inl lt ↦ IsDecodeTable_from standard.encode_table standard.decode_table (are_tables_inverse standard.encode_table standard.decode_table standard.padding.value standard.tables) x lt
  | inr beyond ↦ inr (let none = get_or_past standard.decode_table x 0 beyond in omega (arith, none))
]

ok_is : (a b : List ℕ) → decode_outcome None a ≡ Ok b → a ≡ b
ok_is a b e = cc

pub decoded_are_bytes : (s b : List ℕ) → IsUtf8 s → decode_of standard s ≡ Ok b → AreBytes b
decoded_are_bytes s b utf8 e = go (decode_error standard.decode_table standard.padding.value standard.config.decode_allow_trailing_bits standard.config.decode_padding_mode s) refl e
  where
    go : (x : Option DecodeError) → decode_error standard.decode_table standard.padding.value standard.config.decode_allow_trailing_bits standard.config.decode_padding_mode s ≡ x
        → decode_outcome x (decoded_bytes standard.decode_table standard.padding.value s) ≡ Ok b → AreBytes b
    go (Some x) is e = absurd cc
    go None is e =
        let a = neither _ _ is in
        let g = neither _ _ a.1 in
        subst AreBytes (ok_is (decoded_bytes standard.decode_table standard.padding.value s) b e)
        (below_at 256 _ (omega arith) (whole_bytes standard.decode_table value_small standard.padding.value s (text_bytes s utf8) g.0))

mapped : {A B : Type 0} {P : A → Type 0} (Q : B → Type 0) (f : A → B) (o : Option A) → ((x : A) → P x → Q (f x)) → Holds P o → Holds Q (option_map f o)
mapped Q f None h p = tt
mapped Q f (Some x) h p = h x p

both_hold : {A B : Type 0} (P : A → Type 0) (Q : B → Type 0) (a : Option A) (b : Option B) → Holds P a → Holds Q b → Holds (λ x. P x.0 × Q x.1) (option_zip a b)
both_hold P Q (Some x) (Some y) p q = (p, q)
both_hold P Q _ _ p q = tt

-- ---- numbers

signed_32 : (z : ℤ) → fits_bits 31 z ≡ true → FitsSigned w32 z
signed_32 (pos n) is = record { sfits = omega (arith, ltb-true n (2 ^ 31) is) }
signed_32 (negsuc n) is = record { sfits = omega (arith, ltb-true n (2 ^ 31) is) }

signed_64 : (z : ℤ) → fits_bits 63 z ≡ true → FitsSigned w64 z
signed_64 (pos n) is = record { sfits = omega (arith, ltb-true n (2 ^ 63) is) }
signed_64 (negsuc n) is = record { sfits = omega (arith, ltb-true n (2 ^ 63) is) }

fitting : (k : ℕ) (P : ℤ → Type 0) → ((z : ℤ) → fits_bits k z ≡ true → P z) → (o : Option ℤ) → Holds P (option_and_then (if_fits k) o)
fitting k P h None = tt
fitting k P h (Some z) = when (Holds P) (fits_bits k z) _ _ (h z) (λ e. tt)

whole_32_fits : (s : List ℕ) → Holds (FitsSigned w32) (whole_32 s)
whole_32_fits s = fitting 31 (FitsSigned w32) signed_32 (whole s)

whole_64_fits : (s : List ℕ) → Holds (FitsSigned w64) (whole_64 s)
whole_64_fits s = fitting 63 (FitsSigned w64) signed_64 (whole s)

-- ---- parts of the JSON of a text

string_in : (j : Json) → IsTextJson j → Holds IsUtf8 (as_str j)
string_in (json.string s) is = is
string_in _ is = tt

object_in : (j : Json) → IsTextJson j → Holds AreTextMembers (as_object j)
object_in (json.object ms) is = is
object_in _ is = tt

only_text : (name : List ℕ) (j : Json) → IsTextJson j → Holds IsTextJson (only name j)
unfolding only
only_text name j is = then IsTextJson (only_member name) (as_object j) member (object_in j is)
  where
    member : (ms : json.Members) → AreTextMembers ms → Holds IsTextJson (only_member name ms)
    member (json.member k i json.no_members) p = when (Holds IsTextJson) (bytes_eq k name) _ None (λ e. p.1.0) (λ e. tt)
    member _ p = tt

abbrev AreTexts : Json × Json → Type 0
AreTexts p = IsTextJson p.0 × IsTextJson p.1

pair_text : (a b : List ℕ) (j : Json) → IsTextJson j → Holds AreTexts (pair a b j)
unfolding pair
pair_text a b j is = then AreTexts (pair_members a b) (as_object j) members (object_in j is)
  where
    members : (ms : json.Members) → AreTextMembers ms → Holds AreTexts (pair_members a b ms)
    members (json.member k i (json.member l h json.no_members)) p =
        when (Holds AreTexts) (bytes_eq k a && bytes_eq l b) _ _ (λ e. (p.1.0, p.1.1.1.0))
        (λ e. when (Holds AreTexts) (bytes_eq k b && bytes_eq l a) _ None (λ e. (p.1.1.1.0, p.1.0)) (λ e. tt))
    members _ p = tt

ok_holds : {A E : Type 0} (P : A → Type 0) (r : Result A E) → ((x : A) → r ≡ Ok x → P x) → Holds P (result_ok r)
ok_holds P (Ok x) h = h x refl
ok_holds P (Err e) h = tt

id_fits : (j : Json) → IsTextJson j → Holds IsId (id_of j)
id_fits j is = then IsId (λ s. result_ok (decode_sized s 12)) (as_str j) (λ s p. ok_holds IsId (decode_sized s 12) (id s)) (string_in j is)
  where
    id : (s bytes : List ℕ) → decode_sized s 12 ≡ Ok bytes → IsId bytes
    id s bytes e =
        let size = decode_sized-ok s 12 bytes e in
        let all = decode_of-ok s bytes (sym (decode_sized-twice s 12 size) ∙ e) in
        (omega (arith, size, all.2), all.3)

data_fits : (j : Json) → IsTextJson j → Holds AreBytes (data_in j)
data_fits j is =
    then AreBytes (λ s. result_ok (decode_of standard s)) (as_str j)
    (λ s p. ok_holds AreBytes (decode_of standard s) (λ bytes e. decoded_are_bytes s bytes p e)) (string_in j is)

digit_fits : (c : ℕ) → Holds (λ v. v < 16) (hex_digit_value c)
digit_fits c =
    when (Holds (λ v. v < 16)) (nat_le 65 c && nat_le c 70) _ _ (λ e. omega (arith, leb-true c 70 (and_parts (nat_le 65 c) (nat_le c 70) e).1))
    (λ e. when (Holds (λ v. v < 16)) (nat_le 97 c && nat_le c 102) _ _ (λ f. omega (arith, leb-true c 102 (and_parts (nat_le 97 c) (nat_le c 102) f).1))
    (λ f. when (Holds (λ v. v < 16)) (nat_le 48 c && nat_le c 57) _ None (λ g. omega (arith, leb-true c 57 (and_parts (nat_le 48 c) (nat_le c 57) g).1)) (λ g. tt)))

digits_fit : (s : List ℕ) → Holds (λ v. v < 256) (digits_in s)
digits_fit (a ∷ []) = go (hex_digit_value a) (digit_fits a)
  where
    go : (o : Option ℕ) → Holds (λ v. v < 16) o → Holds (λ v. v < 256) o
    go None p = tt
    go (Some v) p = omega arith
digits_fit (a ∷ b ∷ []) =
    mapped (λ v. v < 256) (λ p. p.0 * 16 + p.1) (option_zip (hex_digit_value a) (hex_digit_value b)) (λ x h. let l = h.0 in let r = h.1 in omega arith)
    (both_hold (λ v. v < 16) (λ v. v < 16) (hex_digit_value a) (hex_digit_value b) (digit_fits a) (digit_fits b))
digits_fit _ = tt

subtype_fits : (j : Json) → IsTextJson j → Holds (λ v. v < 256) (subtype_in j)
subtype_fits j is = then (λ v. v < 256) digits_in (as_str j) (λ s p. digits_fit s) (string_in j is)

word_fits : (j : Json) → Holds (λ n. n < 2 ^ 32) (word_in j)
word_fits (json.number s) = go (whole_64 s)
  where
    go : (o : Option ℤ) → Holds (λ n. n < 2 ^ 32) (option_and_then if_word o)
    go (Some (pos n)) = when (Holds (λ m. m < 2 ^ 32)) (nat_lt n 4294967296) (Some n) None (λ e. omega (arith, ltb-true n 4294967296 e)) (λ e. tt)
    go _ = tt
word_fits _ = tt

name_text : (j : Json) → IsTextJson j → Holds IsUtf8 (name_in j)
name_text j is =
    then IsUtf8 _ (as_str j) (λ s p. when (Holds IsUtf8) (has_zero s) None (Some s) (λ e. tt) (λ e. p)) (string_in j is)

-- ---- scalars

if_true_fits : (b : Bool) (s : Scalar) → ScalarFits IsUtf8 s → Holds (ScalarFits IsUtf8) (cond b (Some s) None)
if_true_fits b s h = when (Holds (ScalarFits IsUtf8)) b (Some s) None (λ e. h) (λ e. tt)

pair_holds : {A B : Type 0} (P : A → Type 0) (Q : B → Type 0) (f : Json → Option A) (g : Json → Option B)
    → ((j : Json) → IsTextJson j → Holds P (f j)) → ((j : Json) → IsTextJson j → Holds Q (g j))
    → (a b : List ℕ) (j : Json) → IsTextJson j → Holds (λ x. P x.0 × Q x.1) (option_and_then (both_in f g) (pair a b j))
pair_holds P Q f g p q a b j is =
    then (λ x. P x.0 × Q x.1) (both_in f g) (pair a b j) (λ x h. both_hold P Q (f x.0) (g x.1) (p x.0 h.0) (q x.1 h.1)) (pair_text a b j is)

long_fits : (j : Json) → IsTextJson j → Holds (FitsSigned w64) (long_in j)
long_fits j p = then (FitsSigned w64) whole_64 (as_str j) (λ s q. whole_64_fits s) (string_in j p)

single_fits : (w : Wrapper) (j : Json) → IsTextJson j → Holds (ScalarFits IsUtf8) (single w j)
single_fits kinds.NumberInt j is =
    mapped (ScalarFits IsUtf8) (λ z. trees.int32 z) (option_and_then whole_32 (as_str j)) (λ z h. h)
    (then (FitsSigned w32) whole_32 (as_str j) (λ s p. whole_32_fits s) (string_in j is))
single_fits kinds.NumberLong j is =
    mapped (ScalarFits IsUtf8) (λ z. trees.int64 z) (long_in j) (λ z h. h) (long_fits j is)
single_fits kinds.Oid j is = mapped (ScalarFits IsUtf8) (λ b. trees.object_id b) (id_of j) (λ b h. h) (id_fits j is)
single_fits kinds.Symbol j is = mapped (ScalarFits IsUtf8) (λ s. trees.symbol s) (as_str j) (λ s h. h) (string_in j is)
single_fits kinds.Binary j is =
    mapped (ScalarFits IsUtf8) (λ (p : List ℕ × ℕ). trees.binary p.1 p.0) (option_and_then (both_in data_in subtype_in) (pair (codes "base64") (codes "subType") j))
    (λ x h. (h.1, h.0)) (pair_holds AreBytes (λ v. v < 256) data_in subtype_in data_fits subtype_fits (codes "base64") (codes "subType") j is)
single_fits kinds.Code j is = mapped (ScalarFits IsUtf8) (λ s. trees.code s) (as_str j) (λ s h. h) (string_in j is)
single_fits kinds.Timestamp j is =
    mapped (ScalarFits IsUtf8) (λ (p : ℕ × ℕ). trees.timestamp p.0 p.1) (option_and_then (both_in word_in word_in) (pair (codes "t") (codes "i") j)) (λ x h. h)
    (pair_holds (λ n. n < 2 ^ 32) (λ n. n < 2 ^ 32) word_in word_in (λ i p. word_fits i) (λ i p. word_fits i) (codes "t") (codes "i") j is)
single_fits kinds.RegularExpression j is =
    mapped (ScalarFits IsUtf8) (λ (p : List ℕ × List ℕ). trees.regex p.0 p.1) (option_and_then (both_in name_in name_in) (pair (codes "pattern") (codes "options") j))
    (λ x h. h) (pair_holds IsUtf8 IsUtf8 name_in name_in name_text name_text (codes "pattern") (codes "options") j is)
single_fits kinds.DbPointer j is =
    let id_in : Json → Option (List ℕ) = λ i. option_and_then id_of (only (codes "$oid") i) in
    mapped (ScalarFits IsUtf8) (λ (p : List ℕ × List ℕ). trees.db_pointer p.0 p.1) (option_and_then (both_in as_str id_in) (pair (codes "$ref") (codes "$id") j))
    (λ x h. h) (pair_holds IsUtf8 IsId as_str id_in string_in
    (λ i p. then IsId id_of (only (codes "$oid") i) id_fits (only_text (codes "$oid") i p)) (codes "$ref") (codes "$id") j is)
single_fits kinds.Date j is =
    mapped (ScalarFits IsUtf8) (λ z. trees.date z) (option_and_then long_in (only (codes "$numberLong") j)) (λ z h. h)
    (then (FitsSigned w64) long_in (only (codes "$numberLong") j) long_fits (only_text (codes "$numberLong") j is))
single_fits kinds.MinKey j is = if_true_fits (one j) trees.min_key tt
single_fits kinds.MaxKey j is = if_true_fits (one j) trees.max_key tt
single_fits kinds.Undefined j is = if_true_fits (unwrap_or (as_bool j) false) trees.undefined tt
single_fits _ j is = tt

-- ---- trees

nest : {A : Type 0} (P : A → Type 0) (depth_left : ℕ) (o : Option A) → Holds P o → Holds P (nested depth_left o)
nest P zero o p = tt
nest P (suc depth_left) o p = p

number_sound : (o : Option ℤ) → Holds (FitsSigned w64) o → Holds Fits (bare_number o)
number_sound None p = tt
number_sound (Some z) p = when (λ s. Fits (leaf s)) (fits_bits 31 z) (trees.int32 z) (trees.int64 z) (λ e. signed_32 z e) (λ e. p)

item_sound : (t : Option Tree) (ts : Option Items) → Holds Fits t → Holds (ItemsFit IsUtf8) ts → Holds (ItemsFit IsUtf8) (add_item t ts)
item_sound (Some t) (Some ts) p q = (p, q)
item_sound _ _ p q = tt

field_sound : (name : List ℕ) (t : Option Tree) (fs : Option Fields) → IsUtf8 name → Holds Fits t → Holds (FieldsFit IsUtf8) fs → Holds (FieldsFit IsUtf8) (add_field name t fs)
field_sound name (Some t) (Some fs) is p q =
    when (Holds (FieldsFit IsUtf8)) (has_zero name) None (Some (field name t fs)) (λ e. tt) (λ e. (is, (p, q)))
field_sound name _ _ is p q = tt

scope_sound : (s : Option (List ℕ)) (t : Option Tree) → Holds IsUtf8 s → Holds Fits t → Holds Fits (with_scope s t)
scope_sound (Some s) (Some (doc fs)) p q = (p, q)
scope_sound _ _ p q = tt

two_sound : (w : Wrapper) (j : Json) (t : Option Tree) (v : Option Wrapper) (i : Json) (u : Option Tree) (ms : json.Members) → IsTextJson j → Holds Fits t
    → IsTextJson i → Holds Fits u → Holds Fits (two w j t v i u ms)
two_sound kinds.Code j t (Some kinds.Scope) i u json.no_members is p are q = scope_sound (as_str j) u (string_in j is) q
two_sound kinds.Scope j t (Some kinds.Code) i u json.no_members is p are q = scope_sound (as_str i) t (string_in i are) p
two_sound _ j t _ i u _ is p are q = tt

either_sound : (o : Option Wrapper) (f : Wrapper → Option Tree) (d : Option Tree) → ((w : Wrapper) → Holds Fits (f w)) → Holds Fits d → Holds Fits (option_map_or f o d)
either_sound None f d p q = q
either_sound (Some w) f d p q = p w

mutual
  wrap_sound : (depth_left : ℕ) (j : Json) → IsTextJson j → Holds Fits (wrap depth_left j)
  wrap_sound depth_left json.null is = tt
  wrap_sound depth_left (json.boolean b) is = tt
  wrap_sound depth_left (json.number s) is = number_sound (whole_64 s) (whole_64_fits s)
  wrap_sound depth_left (json.string s) is = is
  wrap_sound depth_left (json.array js) is = nest Fits depth_left (option_map array (wrap_items (depth_left - 1) js))
      (mapped Fits array (wrap_items (depth_left - 1) js) (λ ts h. h) (items_sound (depth_left - 1) js is))
  wrap_sound depth_left (json.object ms) is = object_sound depth_left ms is

  items_sound : (depth_left : ℕ) (js : json.Items) → AreTextItems js → Holds (ItemsFit IsUtf8) (wrap_items depth_left js)
  items_sound depth_left json.no_items is = tt
  items_sound depth_left (json.item j js) is = item_sound (wrap depth_left j) (wrap_items depth_left js) (wrap_sound depth_left j is.0) (items_sound depth_left js is.1)

  object_sound : (depth_left : ℕ) (ms : json.Members) → AreTextMembers ms → Holds Fits (wrap_object depth_left ms)
  object_sound depth_left json.no_members is = nest Fits depth_left (Some (doc no_fields)) tt
  object_sound depth_left (json.member name j ms) is =
      let fields = add_field name (wrap (depth_left - 1) j) (wrap_fields (depth_left - 1) ms) in
      either_sound (wrapper_of name) (λ w. wrapped depth_left w j (wrap (depth_left - 1) j) ms) (nested depth_left (option_map doc fields))
      (λ w. wrapped_sound depth_left w j (wrap (depth_left - 1) j) ms is.1.0 (wrap_sound (depth_left - 1) j is.1.0) is.1.1)
      (nest Fits depth_left (option_map doc fields) (mapped Fits doc fields (λ fs h. h)
      (field_sound name (wrap (depth_left - 1) j) (wrap_fields (depth_left - 1) ms) is.0 (wrap_sound (depth_left - 1) j is.1.0) (fields_sound (depth_left - 1) ms is.1.1))))

  wrapped_sound : (depth_left : ℕ) (w : Wrapper) (j : Json) (t : Option Tree) (ms : json.Members) → IsTextJson j → Holds Fits t → AreTextMembers ms → Holds Fits (wrapped depth_left w j t ms)
  wrapped_sound depth_left w j t json.no_members is p are = mapped Fits leaf (single w j) (λ s h. h) (single_fits w j is)
  wrapped_sound depth_left w j t (json.member name i ms) is p are = nest Fits depth_left _ (two_sound w j t (wrapper_of name) i (wrap (depth_left - 1) i) ms is p are.1.0 (wrap_sound (depth_left - 1) i are.1.0))

  fields_sound : (depth_left : ℕ) (ms : json.Members) → AreTextMembers ms → Holds (FieldsFit IsUtf8) (wrap_fields depth_left ms)
  fields_sound depth_left json.no_members is = tt
  fields_sound depth_left (json.member name j ms) is = field_sound name (wrap depth_left j) (wrap_fields depth_left ms) is.0 (wrap_sound depth_left j is.1.0) (fields_sound depth_left ms is.1.1)

-- ---- documents

document_sound : (t : Option Tree) (d : Doc) → Holds Fits t → option_map pairs_of (option_and_then document t) ≡ Some d → Fits (doc (fields_of d))
document_sound (Some (doc fs)) d p e =
    let is : pairs_of fs ≡ d = cc in
    let same : fs ≡ fields_of d = sym (fields_of-pairs_of fs) ∙ ap fields_of is in
    subst (FieldsFit IsUtf8) same p
document_sound _ d p e = absurd cc

-- a document that is read of a text fits its types, with UTF-8 in its texts and names
pub reads_sound : (text : List ℕ) (d : Doc) → ReadsAs text d → Fits (doc (fields_of d))
reads_sound text d = go (reads.json text) (json_texts text)
  where
    go : (o : Option Json) → Holds IsTextJson o → option_map pairs_of (option_and_then document (option_and_then (wrap most_levels) o)) ≡ Some d → Fits (doc (fields_of d))
    go None is e = absurd cc
    go (Some j) is e = document_sound (wrap most_levels j) d (wrap_sound most_levels j is) e
