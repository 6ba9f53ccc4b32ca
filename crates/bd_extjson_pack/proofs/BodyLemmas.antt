-- Bytes of elements, one after the other; a whole text, and wrappers of one string, from their tokens.
use Rattle.std.proofs.Common.{◌≡◌, ◌≢◌, ◌≤◌, ◌+◌, ℕ, zero, suc, List, [], ◌∷◌, ◌++◌, length, take, drop, take_at, drop_at, length-drop, get_or, refl, sym, ap, ap₂, ◌∙◌, arith, append_assoc, append-nil}
use Rattle.std.proofs.Common.{length-append, false, true≢false, Option, Some, None, Result, Ok, Err, ◌-◌, ◌<◌, ◌^◌, ℤ, pos, negsuc, true, option_map, option_and_then}
use Rattle.std.proofs.Common.{to_z, of_z}
use Rattle.std.specs.{Option.is_some, Result.result_ok, Int.w32, Int.w64, Int.RustNames.FitsSigned}
use Rattle.std.specs.Prelude.{decimal}
use Rattle.std.proofs.Math.Seq.{drop-cons}
use Rattle.json.specs.{Token.Token, Json.parse_map, Json.Json, Json.members, Json.value, Json.read_key, Find.as_str}
use Rattle.bd_value.specs.Tree.{Tree, Items, Fields, Doc, fields_of, items_of, Scalar, leaf, doc, array}
use Rattle.bd_bson_view.specs.{Unique.number_length, Spelling.number, Spelling.element, Spelling.type_byte}
use Rattle.bd_bson_write.specs.TreeBytes.{bytes_of, fields_bytes, items_bytes}
use Rattle.bd_extjson_wrapper.specs.{Wrapper.through, Wrapper.after_key, Wrapper.wrapper_of, Wrapper.single, Wrapper.is_code_name, Wrapper.is_scope_name}
use Rattle.bd_extjson_wrapper.specs.{WholeNumber.fits_bits, WholeNumber.if_fits, WholeNumber.whole as whole_number, WholeNumber.whole_32, WholeNumber.whole_64}
use Rattle.bd_extjson_wrapper.specs.declared.wrapper.Wrapper.{Wrapper}
use Rattle.bd_extjson.proofs.ReadLemmas as steps
use Rattle.bd_extjson.proofs.ReadLemmas.{items_before, fields_before, json_is}
use Rattle.std.proofs.{lemmas.Option.option_and_then_some, lemmas.Option.cond_some, lemmas.Int.ints, lemmas.Int.to_z-of_z}
use Rattle.hex.specs.Hex.{decode_sized}
use Rattle.json.specs.Json as json
use Rattle.json.specs.Reads.{token_of}
use Rattle.json.specs.declared.token.Token.{Token as Read}
use Rattle.json.specs.declared.token.Token.TheVariants as read
use Rattle.std.specs.Borrow.{Bor}
use Rattle.json.proofs.Grammar.{value_is}
use Rattle.bd_value.specs.Tree as trees
use Rattle.bd_value.specs.View.{kind_of}
use Rattle.bd_value.specs.declared.node.Kind.{Kind}
use Rattle.bd_extjson.specs.Read.{wrap, wrap_object, wrap_fields, wrapped, with_scope, two, bare_number, reading, document}
use Rattle.bd_extjson.proofs.MemberLemmas as of_members
use Rattle.std.specs.Str.{IsUtf8}
use Rattle.std.proofs.lemmas.Str.{is_utf8-from_IsUtf8}
use Rattle.json.specs.{Json.if_last, Lex.tokens}
use Rattle.bd_value.specs.{Limits.most_brackets, Limits.most_levels, Limits.longest_document, Tree.pairs_of, Tree.fields_of-pairs_of}
use Rattle.bd_extjson_pack.specs.Packable.{plain, IsPackable}
use Rattle.bd_extjson_pack.specs.inside.Writes.{Writes, NotWritten, if_document, alone}
use Rattle.bd_extjson_pack.specs.declared.refusal.Refusal.{Refusal}
use Rattle.bd_extjson_pack.proofs.LengthLemmas.{not_written_by, made_of}
use Rattle.bd_extjson_wrapper.specs.declared.wrapper.Wrapper.TheVariants as kinds

-- the bytes of one more field come after those of the fields before it
pub one_more_field : (ps : Doc) (k : List ℕ) (t : Tree) → fields_bytes (fields_of (ps ++ (k, t) ∷ [])) ≡ fields_bytes (fields_of ps) ++ element t k (bytes_of t)
one_more_field [] k t = append-nil (element t k (bytes_of t))
one_more_field (p ∷ ps) k t =
    let one = element p.1 p.0 (bytes_of p.1) in
    ap (λ x. one ++ x) (one_more_field ps k t) ∙ sym (append_assoc one (fields_bytes (fields_of ps)) (element t k (bytes_of t)))

more_items : (index : ℕ) (ts : List Tree) (t : Tree) → items_bytes index (items_of (ts ++ t ∷ [])) ≡ items_bytes index (items_of ts) ++ element t (decimal (index + length ts)) (bytes_of t)
more_items index [] t =
    let here : index ≡ index + 0 = omega arith in
    append-nil (element t (decimal index) (bytes_of t)) ∙ ap (λ n. element t (decimal n) (bytes_of t)) here
more_items index (s ∷ ts) t =
    let one = element s (decimal index) (bytes_of s) in
    let next : suc index + length ts ≡ index + suc (length ts) = omega arith in
    ap (λ x. one ++ x) (more_items (suc index) ts t ∙ ap (λ n. items_bytes (suc index) (items_of ts) ++ element t (decimal n) (bytes_of t)) next)
    ∙ sym (append_assoc one (items_bytes (suc index) (items_of ts)) (element t (decimal (index + suc (length ts))) (bytes_of t)))

-- the bytes of one more element come after those before it, named by its index
pub one_more_item : (ts : List Tree) (t : Tree) → items_bytes 0 (items_of (ts ++ t ∷ [])) ≡ items_bytes 0 (items_of ts) ++ element t (decimal (length ts)) (bytes_of t)
one_more_item ts t =
    let here : 0 + length ts ≡ length ts = omega arith in
    more_items 0 ts t ∙ ap (λ n. items_bytes 0 (items_of ts) ++ element t (decimal n) (bytes_of t)) here

-- a body after the four bytes of its length, which are at its offset
pub body_size : (at : ℕ) (old body out : List ℕ) → at ≡ length old → out ≡ (old ++ number 0) ++ body → at + 4 ≤ length out
body_size at old body out here is =
    omega (arith, here, ap (λ xs. length xs) is, length-append (old ++ number 0) body, length-append old (number 0), number_length 0)

-- an element whose type was put before its name, once its value was appended
pub element_put : (old begun valued ended : List ℕ) (at : ℕ) (kind : Kind) (first : ℕ) (name : List ℕ) (t : Tree) → at ≡ length old → begun ≡ old ++ (first ∷ (name ++ 0 ∷ []))
    → kind ≡ kind_of t → valued ≡ begun ++ bytes_of t
    → ((before : List ℕ) (byte : ℕ) (after : List ℕ) → valued ≡ before ++ (byte ∷ after) → at ≡ length before → ended ≡ before ++ (type_byte kind ∷ after))
    → ended ≡ old ++ element t name (bytes_of t)
element_put old begun valued ended at kind first name t here begins of value puts =
    let all : valued ≡ old ++ (first ∷ (name ++ (0 ∷ bytes_of t))) = value ∙ rw begins (simp append_assoc) in
    puts old first (name ++ (0 ∷ bytes_of t)) all here ∙ ap (λ k. old ++ (type_byte k ∷ (name ++ (0 ∷ bytes_of t)))) of

-- the byte for the type of such an element is among the bytes
pub element_inside : (old begun valued : List ℕ) (at first : ℕ) (name : List ℕ) (t : Tree) → at ≡ length old → begun ≡ old ++ (first ∷ (name ++ 0 ∷ []))
    → valued ≡ begun ++ bytes_of t → at < length valued
element_inside old begun valued at first name t here begins value =
    omega (arith, here, ap (λ x. length x) begins, ap (λ x. length x) value, length-append old (first ∷ (name ++ 0 ∷ [])), length-append begun (bytes_of t))

-- digits that end before a zero, with that and one byte before them
pub digits_label : (digits after : List ℕ) (at start n : ℕ) → at + 1 ≡ start → start + length (decimal n) ≡ 20 → drop start digits ≡ decimal n ++ (0 ∷ after)
    → (first : ℕ) × (take (21 - at) (drop at digits) ≡ first ∷ (decimal n ++ 0 ∷ []))
digits_label digits after at start n before ends is =
    let first = get_or digits at 0 in
    let next : suc at ≡ start = omega (arith, before) in
    let longer : at < length digits = omega (arith, next, ap (λ x. length x) is, length-append (decimal n) (0 ∷ after), length-drop start digits) in
    let all : drop at digits ≡ (first ∷ (decimal n ++ 0 ∷ [])) ++ after = drop-cons digits at 0 longer ∙ ap (λ k. first ∷ drop k digits) next ∙ ap (λ x. first ∷ x) is ∙ simp append_assoc in
    let size : length (first ∷ (decimal n ++ 0 ∷ [])) ≡ 21 - at = omega (arith, next, ends, length-append (decimal n) (0 ∷ [])) in
    (first, ap (take (21 - at)) all ∙ take_at (first ∷ (decimal n ++ 0 ∷ [])) after (21 - at) size)

-- what is ended at the offset where it began is there, with its length before it
pub ended : (whole : List ℕ → List ℕ) (at : ℕ) (old body out : List ℕ) → at ≡ length old → out ≡ (old ++ number 0) ++ body → take at out ++ whole (drop (at + 4) out) ≡ old ++ whole body
ended whole at old body out here is =
    let all : out ≡ old ++ (number 0 ++ body) = is ∙ append_assoc old (number 0) body in
    let size : length (old ++ number 0) ≡ at + 4 = omega (arith, here, length-append old (number 0), number_length 0) in
    let prefix : take at out ≡ old = ap (take at) all ∙ take_at old (number 0 ++ body) at (sym here) in
    let back : drop (at + 4) out ≡ body = ap (drop (at + 4)) is ∙ drop_at (old ++ number 0) body (at + 4) size in
    ap₂ (λ (x y : List ℕ). x ++ whole y) prefix back

-- ---- what is read and written, or refused

-- what is made of what is read, and written so
pub if_read : {A B X : Type 0} (make : A → B) (of : A → X) (made : B → X) (bytes : A → List ℕ) (whole_bytes : B → List ℕ) (old new : List ℕ) (rest : List Token) (r : Result X Refusal)
    (read : Option (A × List Token)) (whole : Option (B × List Token)) → whole ≡ parse_map make read → ((x : A) → made (make x) ≡ of x) → ((x : A) → whole_bytes (make x) ≡ bytes x)
    → Writes of bytes old new rest r read → Writes made whole_bytes old new rest r whole
if_read make of made bytes whole_bytes old new rest (Ok u) read whole e f g w =
    (make w.0, e ∙ ap (parse_map make) w.1, w.2 ∙ sym (f w.0), w.3 ∙ ap (λ x. old ++ x) (sym (g w.0)))
if_read make of made bytes whole_bytes old new rest (Err e) read whole is f g w =
    not_written_by (λ p. length old + length (bytes p.0)) (λ p. length old + length (whole_bytes p.0)) e read whole
    (λ b some. let p = made_of make read b (sym is ∙ some) in (p.0, p.1, omega (arith, ap (λ t. length (whole_bytes t)) p.2, ap (λ x. length x) (g p.0.0)))) w

-- an object whose first name is a wrapper's
pub if_wrapper : {X : Type 0} (of : Tree → X) (old new : List ℕ) (rest : List Token) (r : Result X Refusal) (w : Wrapper) (depth_left depth n : ℕ)
    (ts : List Token) (key : Option (List ℕ)) → option_and_then wrapper_of key ≡ Some w
    → ((name : List ℕ) → wrapper_of name ≡ Some w → Writes of bytes_of old new rest r (through (wrap_object depth_left) (after_key depth n (Some name) ts)))
    → Writes of bytes_of old new rest r (through (wrap_object depth_left) (after_key depth n key ts))
if_wrapper of old new rest r w depth_left depth n ts None e f = absurd cc
if_wrapper of old new rest r w depth_left depth n ts (Some name) e f = f name e

-- ---- what was read

pub no_fields_before : (r : Option (Fields × List Token)) → r ≡ parse_map (fields_before []) r
no_fields_before None = refl
no_fields_before (Some p) = refl

pub no_items_before : (r : Option (Items × List Token)) → r ≡ parse_map (items_before []) r
no_items_before None = refl
no_items_before (Some p) = refl

not_some : {A : Type 0} (o : Option A) → is_some o ≡ false → o ≡ None
not_some None e = refl
not_some (Some x) e = absurd (true≢false e)

-- ---- a whole text

-- the document that all of some tokens are
abbrev whole : Option (Fields × List Token) → Option Doc
whole (Some (fs, [])) = Some (pairs_of fs)
whole _ = None

last : (v : Option (Json × List Token))
    → option_map pairs_of (option_and_then document (option_and_then (wrap most_levels) (option_and_then (λ p. if_last p.0 p.1) v))) ≡ whole (if_document (through (wrap most_levels) v))
last None = refl
last (Some (j, [])) = go (wrap most_levels j)
  where
    go : (o : Option Tree) → option_map pairs_of (option_and_then document o) ≡ whole (if_document (option_map (λ (t : Tree). (t, [])) o))
    go (Some (doc fs)) = refl
    go _ = refl
last (Some (j, t ∷ ts)) = go (wrap most_levels j)
  where
    go : (o : Option Tree) → None ≡ whole (if_document (option_map (λ (u : Tree). (u, t ∷ ts)) o))
    go (Some (doc fs)) = refl
    go _ = refl

-- a text is the document of its tokens
reading_is : (text : List ℕ) (ts : List Token) → IsUtf8 text → ts ≡ tokens text → reading text ≡ whole (if_document (through (wrap most_levels) (value most_brackets ts)))
reading_is text ts utf8 e =
    ap (λ o. option_map pairs_of (option_and_then document (option_and_then (wrap most_levels) o))) (json_is text (is_utf8-from_IsUtf8 text utf8))
    ∙ last (value most_brackets (tokens text)) ∙ ap (λ k. whole (if_document (through (wrap most_levels) (value most_brackets k)))) (sym e)

all_of : (r : Option (Fields × List Token)) (d : Doc) → whole r ≡ Some d → (a : Fields × List Token) × (r ≡ Some a) × (pairs_of a.0 ≡ d)
all_of None d e = absurd cc
all_of (Some (fs, [])) d e = ((fs, []), refl, cc)
all_of (Some (fs, t ∷ ts)) d e = absurd cc

-- what is not written of the document of a text's tokens is not of the text
pub unwritten : (text : List ℕ) (ts : List Token) (size : ℕ) (e : Refusal) → IsUtf8 text → ts ≡ tokens text
    → NotWritten (λ p. size + length (bytes_of (doc p.0))) e (if_document (through (wrap most_levels) (value most_brackets ts)))
    → NotWritten (λ d. size + length (plain d)) e (reading text)
unwritten text ts size e utf8 same h =
    let r = if_document (through (wrap most_levels) (value most_brackets ts)) in
    not_written_by (λ p. size + length (bytes_of (doc p.0))) (λ d. size + length (plain d)) e r (reading text)
    (λ d is.
    let p = all_of r d (sym (reading_is text ts utf8 same) ∙ is) in
    let fields : fields_of d ≡ p.0.0 = ap fields_of (sym p.2) ∙ fields_of-pairs_of p.0.0 in
    (p.0, p.1, omega (arith, ap (λ fs. length (bytes_of (doc fs))) fields)))
    h

-- a text whose tokens do not end with the document is none
pub unended : (text : List ℕ) (ts rest : List Token) (fs : Fields) → IsUtf8 text → ts ≡ tokens text → if_document (through (wrap most_levels) (value most_brackets ts)) ≡ Some (fs, rest)
    → rest ≢ [] → reading text ≡ None
unended text ts [] fs utf8 e read more = absurd (more refl)
unended text ts (t ∷ rest) fs utf8 e read more = reading_is text ts utf8 e ∙ ap whole read

pub packs : (text : List ℕ) (ts rest : List Token) (fs : Fields) (new old : List ℕ) → IsUtf8 text → ts ≡ tokens text → if_document (through (wrap most_levels) (value most_brackets ts)) ≡ Some (fs, rest)
    → rest ≡ [] → new ≡ old ++ bytes_of (doc fs) → length new ≤ longest_document → (d : Doc) × IsPackable text d × (new ≡ old ++ plain d)
packs text ts rest fs new old utf8 e read none put short =
    let written = put ∙ ap (λ x. old ++ bytes_of (doc x)) (sym (fields_of-pairs_of fs)) in (
      pairs_of fs,
      (reading_is text ts utf8 e ∙ ap whole (read ∙ ap (λ r. Some (fs, r)) none), omega (arith, short, ap (λ x. length x) written, length-append old (plain (pairs_of fs)))),
      written,
    )

if_doc : (o : Option (Fields × List Token)) → if_document (parse_map doc o) ≡ o
if_doc None = refl
if_doc (Some p) = refl

no_array : (o : Option (Items × List Token)) → if_document (parse_map array o) ≡ None
no_array None = refl
no_array (Some p) = refl

no_number : (o : Option ℤ) (ts : List Token) → if_document (option_map (λ (t : Tree). (t, ts)) (bare_number o)) ≡ None
no_number None ts = refl
no_number (Some z) ts = refl

-- what does not begin with a brace is no document
pub no_brace : (t : Read) (ts : List Token) → (t ≡ read.BeginObject → ⊥) → if_document (through (wrap most_levels) (value most_brackets (token_of t ∷ ts))) ≡ None
no_brace read.BeginObject ts not = absurd (not refl)
no_brace read.BeginArray ts not = ap if_document (steps.array_read most_levels most_brackets ts (omega arith) (omega arith)) ∙ no_array _
no_brace (read.String s) ts not = ap if_document (steps.read_string most_levels most_brackets s.now ts)
no_brace (read.Number s) ts not = ap if_document (steps.read_number most_levels most_brackets s.now ts) ∙ no_number (whole_64 s.now) ts
no_brace (read.Bool b) ts not = ap if_document (steps.read_boolean most_levels most_brackets b ts)
no_brace read.Null ts not = ap if_document (steps.read_null most_levels most_brackets ts)
no_brace read.EndObject ts not = ap (λ v. if_document (through (wrap most_levels) v)) (value_is most_brackets (Token.end_object ∷ ts))
no_brace read.EndArray ts not = ap (λ v. if_document (through (wrap most_levels) v)) (value_is most_brackets (Token.end_array ∷ ts))
no_brace (read.Key s) ts not = ap (λ v. if_document (through (wrap most_levels) v)) (value_is most_brackets (Token.key s.now ∷ ts))
no_brace read.Bad ts not = ap (λ v. if_document (through (wrap most_levels) v)) (value_is most_brackets (Token.bad ∷ ts))

pub no_token : if_document (through (wrap most_levels) (value most_brackets [])) ≡ None
no_token = ap (λ v. if_document (through (wrap most_levels) v)) (value_is most_brackets [])

-- a wrapper means no document
no_fields : (depth_left : ℕ) (w : Wrapper) (j : Json) (t : Option Tree) (ms : json.Members) → option_and_then document (wrapped depth_left w j t ms) ≡ None
no_fields depth_left w j t json.no_members = go (single w j)
  where
    go : (o : Option Scalar) → option_and_then document (option_map leaf o) ≡ None
    go None = refl
    go (Some s) = refl
no_fields zero w j t (json.member k i ms) = refl
no_fields (suc depth_left) w j t (json.member k i ms) = go w (wrapper_of k) (wrap (suc depth_left - 1) i) ms
  where
    scope : (s : Option (List ℕ)) (u : Option Tree) → option_and_then document (with_scope s u) ≡ None
    scope (Some s) (Some (doc fs)) = refl
    scope _ _ = refl

    go : (w : Wrapper) (v : Option Wrapper) (u : Option Tree) (ms : json.Members) → option_and_then document (two w j t v i u ms) ≡ None
    go kinds.Code (Some kinds.Scope) u json.no_members = scope (as_str j) u
    go kinds.Scope (Some kinds.Code) u json.no_members = scope (as_str i) t
    go _ _ u ms = refl

if_fields : {J : Type 0} (f : J → Option Tree) (r : Option (J × List Token)) → if_document (through f r) ≡ through (λ j. option_and_then document (f j)) r
if_fields f None = refl
if_fields f (Some p) = go (f p.0)
  where
    go : (o : Option Tree) → if_document (option_map (λ (t : Tree). (t, p.1)) o) ≡ option_map (λ (fs : Fields). (fs, p.1)) (option_and_then document o)
    go (Some (doc fs)) = refl
    go _ = refl

no_document : (depth_left depth n : ℕ) (ts : List Token) (key : Option (List ℕ)) → is_some (option_and_then wrapper_of key) ≡ true
    → if_document (through (wrap_object depth_left) (after_key depth n key ts)) ≡ None
no_document depth_left depth n ts None e = absurd (true≢false (sym e))
no_document depth_left depth n ts (Some k) e =
    if_fields (wrap_object depth_left) (after_key depth n (Some k) ts)
    ∙ steps.refused_member (λ ms. option_and_then document (wrap_object depth_left ms)) k depth n ts (λ j ms. go (wrapper_of k) refl e j ms)
  where
    go : (o : Option Wrapper) → wrapper_of k ≡ o → is_some o ≡ true → (j : Json) (ms : json.Members) → option_and_then document (wrap_object depth_left (json.member k j ms)) ≡ None
    go None is e j ms = absurd (true≢false (sym e))
    go (Some w) is e j ms = rw is (no_fields depth_left w j (wrap (depth_left - 1) j) ms)

-- ---- the first value of a text

module _ (ts s : List Token) (begins : ts ≡ Token.begin_object ∷ s) where
  opened : through (wrap most_levels) (value most_brackets ts) ≡ through (wrap_object most_levels) (members (value (most_brackets - 1)) (length s) s)
  opened = ap (λ k. through (wrap most_levels) (value most_brackets k)) begins ∙ steps.object_read most_levels most_brackets s (omega arith)

  pub no_first_name : read_key s ≡ None → if_document (through (wrap most_levels) (value most_brackets ts)) ≡ None
  no_first_name none = ap if_document (opened ∙ of_members.no_name (wrap_object most_levels) (most_brackets - 1) (length s) s none)

  module _ (r : List Token) (key : Option (List ℕ)) (named : read_key s ≡ Some (key, r)) where
    from_name : through (wrap most_levels) (value most_brackets ts) ≡ through (wrap_object most_levels) (after_key (most_brackets - 1) (length r) key r)
    from_name = opened ∙ ap (through (wrap_object most_levels)) (steps.first_name (most_brackets - 1) s r key named)

    pub first_wrapper : is_some (option_and_then wrapper_of key) ≡ true → if_document (through (wrap most_levels) (value most_brackets ts)) ≡ None
    first_wrapper some = ap if_document from_name ∙ no_document most_levels (most_brackets - 1) (length r) r key some

    pub first_fields : is_some (option_and_then wrapper_of key) ≡ false
        → if_document (through (wrap most_levels) (value most_brackets ts)) ≡ through (wrap_fields (most_levels - 1)) (after_key (most_brackets - 1) (length r) key r)
    first_fields none = ap if_document (from_name ∙ steps.object_is_plain most_levels (most_brackets - 1) (length r) r key (omega arith) (not_some _ none)) ∙ if_doc _

-- ---- wrappers of one string

module _ {A : Type 0} (g : Json → Option A) (name : List ℕ) (depth n : ℕ) where
  lone : (o : Option A) (ts : List Token) → option_map {U = A × List Token} (λ (a : A). (a, ts)) o ≡ None → (j : Json) → g j ≡ o → (ms : json.Members) → alone g (json.member name j ms) ≡ None
  lone (Some a) ts e j is ms = absurd cc
  lone None ts e j is json.no_members = is
  lone None ts e j is (json.member k i ms) = refl

  -- if the value is not read, the only member is not
  pub not_alone : (ts : List Token) → through g (value depth ts) ≡ None → through (alone g) (after_key depth n (Some name) ts) ≡ None
  not_alone ts e = turn (value depth ts) e
    where
      turn : (v : Option (Json × List Token)) → through g v ≡ None
          → through (alone g) (option_and_then (λ p. parse_map (json.member name p.0) (members (value depth) n p.1)) v) ≡ None
      turn None e = refl
      turn (Some p) e = steps.through_made (alone g) (json.member name p.0) (members (value depth) n p.1)
          ∙ steps.never (λ ms. alone g (json.member name p.0 ms)) (lone (g p.0) p.1 e p.0 refl) (members (value depth) n p.1)

no_text : {J : Type 0} (make : J → Json) → ((x : J) → as_str (make x) ≡ None) → (r : Option (J × List Token)) → through as_str (parse_map make r) ≡ None
no_text make h r = steps.through_made as_str make r ∙ steps.never (λ x. as_str (make x)) h r

pub no_string : (depth : ℕ) (t : Read) (ts : List Token) → ((s : Bor (List ℕ)) → t ≡ read.String s → ⊥) → through as_str (value depth (token_of t ∷ ts)) ≡ None
no_string depth (read.String s) ts not = absurd (not s refl)
no_string depth read.BeginObject ts not = ap (through as_str) (value_is depth (Token.begin_object ∷ ts)) ∙ no_text json.object (λ x. refl) _
no_string depth read.BeginArray ts not = ap (through as_str) (value_is depth (Token.begin_array ∷ ts)) ∙ no_text json.array (λ x. refl) _
no_string depth read.EndObject ts not = ap (through as_str) (value_is depth (Token.end_object ∷ ts))
no_string depth read.EndArray ts not = ap (through as_str) (value_is depth (Token.end_array ∷ ts))
no_string depth (read.Key s) ts not = ap (through as_str) (value_is depth (Token.key s.now ∷ ts))
no_string depth (read.Number s) ts not = ap (through as_str) (value_is depth (Token.number s.now ∷ ts))
no_string depth (read.Bool b) ts not = ap (through as_str) (value_is depth (Token.boolean b ∷ ts))
no_string depth read.Null ts not = ap (through as_str) (value_is depth (Token.null ∷ ts))
no_string depth read.Bad ts not = ap (through as_str) (value_is depth (Token.bad ∷ ts))

-- the string, and the brace that ends the object
pub string_ends : (name s : List ℕ) (depth : ℕ) (ts after rest : List Token) → ts ≡ Token.string s ∷ after → read_key after ≡ Some (None, rest)
    → through (alone as_str) (after_key depth (length ts) (Some name) ts) ≡ Some (s, rest)
string_ends name s depth ts after rest is ended =
    rw is (of_members.member_is (alone as_str) name depth _ (Token.string s ∷ after) after (json.string s) (value_is depth (Token.string s ∷ after))
    ∙ of_members.ended (λ ms. alone as_str (json.member name (json.string s) ms)) depth _ after rest (omega arith) ended)

pub string_goes_on : (name s : List ℕ) (depth : ℕ) (ts after : List Token) → ts ≡ Token.string s ∷ after → ((r : List Token) → read_key after ≢ Some (None, r))
    → through (alone as_str) (after_key depth (length ts) (Some name) ts) ≡ None
string_goes_on name s depth ts after is not =
    rw is (of_members.member_is (alone as_str) name depth _ (Token.string s ∷ after) after (json.string s) (value_is depth (Token.string s ∷ after))
    ∙ of_members.not_ended (λ ms. alone as_str (json.member name (json.string s) ms)) depth _ after (omega arith) not (λ k j ms. refl))

through_both : {J A B : Type 0} (f : J → Option A) (g : A → Option B) (h : J → Option B) → ((j : J) → h j ≡ option_and_then g (f j)) → (r : Option (J × List Token))
    → through h r ≡ through g (through f r)
through_both f g h same None = refl
through_both {A = A} {B = B} f g h same (Some q) = ap (option_map (λ b. (b, q.1))) (same q.0) ∙ go (f q.0)
  where
    go : (o : Option A) → option_map (λ (b : B). (b, q.1)) (option_and_then g o) ≡ through g (option_map (λ (a : A). (a, q.1)) o)
    go None = refl
    go (Some a) = refl

mapped : {A B C : Type 0} (f : B → C) (g : A → Option B) (o : Option A) → option_map f (option_and_then g o) ≡ option_and_then (λ a. option_map f (g a)) o
mapped f g None = refl
mapped f g (Some a) = refl

-- The wrapper means a scalar by its string alone.
pub record IsShort (w : Wrapper) (means : List ℕ → Option Scalar) : Type 0 where
  pub by_string : (j : Json) → single w j ≡ option_and_then means (as_str j)
  pub no_code : is_code_name (Some w) ≡ false
  pub no_scope : is_scope_name (Some w) ≡ false

pub int32_short : IsShort kinds.NumberInt (λ s. option_map (λ z. trees.int32 z) (whole_32 s))
int32_short = record { by_string = λ j. mapped (λ z. trees.int32 z) whole_32 (as_str j); no_code = refl; no_scope = refl }

pub int64_short : IsShort kinds.NumberLong (λ s. option_map (λ z. trees.int64 z) (whole_64 s))
int64_short = record { by_string = λ j. mapped (λ z. trees.int64 z) whole_64 (as_str j); no_code = refl; no_scope = refl }

pub id_short : IsShort kinds.Oid (λ s. option_map (λ b. trees.object_id b) (result_ok (decode_sized s 12)))
id_short = record { by_string = λ j. mapped (λ b. trees.object_id b) (λ s. result_ok (decode_sized s 12)) (as_str j); no_code = refl; no_scope = refl }

-- such a wrapper is read by its string
pub short_read : (w v : Wrapper) (means : List ℕ → Option Scalar) → IsShort v means → w ≡ v → (depth_left depth n : ℕ) (name : List ℕ) (ts : List Token) → wrapper_of name ≡ Some w
    → through (wrap_object depth_left) (after_key depth n (Some name) ts) ≡ through (λ s. option_map leaf (means s)) (through (alone as_str) (after_key depth n (Some name) ts))
short_read w v means short same depth_left depth n name ts named = turn (value depth ts) refl
  where
    both : (j : Json) (ms : json.Members) → wrapped depth_left v j (wrap (depth_left - 1) j) ms ≡ option_and_then (λ s. option_map leaf (means s)) (alone as_str (json.member name j ms))
    both j json.no_members = ap (option_map leaf) (short.by_string j) ∙ mapped leaf means (as_str j)
    both j (json.member k i ms) = of_members.one_name_alone v depth_left j (wrap (depth_left - 1) j) k i ms short.no_code short.no_scope

    turn : (r : Option (Json × List Token)) → value depth ts ≡ r
        → through (wrap_object depth_left) (after_key depth n (Some name) ts) ≡ through (λ s. option_map leaf (means s)) (through (alone as_str) (after_key depth n (Some name) ts))
    turn None e = of_members.unreadable (wrap_object depth_left) name depth n ts e ∙ sym (ap (through (λ s. option_map leaf (means s))) (of_members.unreadable (alone as_str) name depth n ts e))
    turn (Some (j, r)) e =
        of_members.first_part v name depth_left depth n ts r j (named ∙ ap Some same) e
        ∙ through_both (λ ms. alone as_str (json.member name j ms)) (λ s. option_map leaf (means s)) (wrapped depth_left v j (wrap (depth_left - 1) j)) (both j) (members (value depth) n r)
        ∙ sym (ap (through (λ s. option_map leaf (means s))) (of_members.member_is (alone as_str) name depth n ts r j e))

pub short_is : (w v : Wrapper) (means : List ℕ → Option Scalar) → IsShort v means → w ≡ v → (depth_left depth n : ℕ) (name : List ℕ) (ts rest : List Token) → wrapper_of name ≡ Some w
    → (s : List ℕ) (x : Scalar) → through (alone as_str) (after_key depth n (Some name) ts) ≡ Some (s, rest) → means s ≡ Some x
    → through (wrap_object depth_left) (after_key depth n (Some name) ts) ≡ Some (leaf x, rest)
short_is w v means short same depth_left depth n name ts rest named s x read is =
    short_read w v means short same depth_left depth n name ts named ∙ ap (through (λ s. option_map leaf (means s))) read
    ∙ ap (λ o. option_map (λ (t : Tree). (t, rest)) (option_map leaf o)) is

-- ---- a number of a signed type, by its bits

whole_fits : (k : ℕ) (o : Option ℤ) (z : ℤ) → option_and_then (if_fits k) o ≡ Some z → fits_bits k z ≡ true
whole_fits k o z is = option_and_then_some (if_fits k) o z is (λ x _ e. let p = cond_some (fits_bits k x) x z e in rw p.1 at p.0)

fits_32 : (z : ℤ) → fits_bits 31 z ≡ true → FitsSigned w32 z
fits_32 (pos n) e = let low : n < 2 ^ 31 = grind arith in record { sfits = omega (arith, ints) }
fits_32 (negsuc n) e = let low : n < 2 ^ 31 = grind arith in record { sfits = omega (arith, ints) }

fits_64 : (z : ℤ) → fits_bits 63 z ≡ true → FitsSigned w64 z
fits_64 (pos n) e = let low : n < 2 ^ 63 = grind arith in record { sfits = omega (arith, ints) }
fits_64 (negsuc n) e = let low : n < 2 ^ 63 = grind arith in record { sfits = omega (arith, ints) }

pub same_32 : (s : List ℕ) (z : ℤ) → Some z ≡ whole_32 s → to_z w32 (of_z w32 z) ≡ z
same_32 s z is = to_z-of_z w32 z (fits_32 z (whole_fits 31 (whole_number s) z (sym is)))

pub same_64 : (s : List ℕ) (z : ℤ) → Some z ≡ whole_64 s → to_z w64 (of_z w64 z) ≡ z
same_64 s z is = to_z-of_z w64 z (fits_64 z (whole_fits 63 (whole_number s) z (sym is)))
