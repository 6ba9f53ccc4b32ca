-- A text in chunks is in pieces: strings, runs of bytes of numbers, single bytes, and the texts of its numbers and dates.
use Rattle.std.proofs.Common.{◌≡◌, ◌<◌, ◌≤◌, ne_eqb, ◌||◌, ℕ, zero, suc, ◌==◌, Bool, true, false, cond, ◌&&◌, List, [], ◌∷◌, ◌++◌, refl, sym, ap, ◌∙◌, subst, inl, inr, arith, codes, append_assoc, Option, Some, None, Ok, Err}
use Rattle.std.specs.Prelude.{ℤ}
use Rattle.std.specs.{List.list_any}
use Rattle.std.proofs.lemmas.Bool.{and_parts, cases_lt, cases_eq}
use Rattle.json.specs.Print as kit_print
use Rattle.json.specs.Print.{ends, token_text}
use Rattle.json.specs.Token.{Token}
use Rattle.json.proofs.Printed.Strings.{escape_byte_plain}
use Rattle.bd_value.specs.Tree.{date}
use Rattle.bd_extjson_text.specs.Text.{scalar_text}
use Rattle.bd_wide_number.specs.declared.number.Number.{Number}
use Rattle.bd_wide_read.specs.declared.fault.TextFault.TheVariants.{BadText}
use Rattle.bd_wide_substitute.specs.declared.wrapped.WideValue.{WideValue}
use Rattle.bd_wide_substitute.specs.declared.wrapped.WideValue.TheVariants as values
use Rattle.bd_wide_substitute.specs.Substitutes.{ArePieces, BeginsValue, Filler, IsBefore, Piece, Wrapper, after, after_escaped, after_string, all_numbers, filled, is_of_number, numbers_in, original, same, value, with_fillers, wrapper_at}
use Rattle.bd_wide_pack.specs.inside.Printed.{IsEnd, IsTextOfValue}
use Rattle.bd_wide_pack.proofs.JsonLemmas.{Chunk, chunk_begins, chunk_ends, chunk_text, filled_text, instant, printed, token, valued}

-- ---- pieces

-- The text is in pieces; with other values for its numbers it becomes these texts.
pub record InPieces (source : List ℕ) (becomes : Filler → List ℕ) (numbers : List Number) : Type 0 where
  pub pieces : List Piece
  pub are : ArePieces source pieces
  pub become : (s : Filler) → with_fillers s pieces ≡ becomes s
  pub all : all_numbers pieces ≡ numbers

-- a text of no bytes
no_pieces : InPieces [] (λ s. []) []
no_pieces = record { pieces = []; are = refl; become = λ s. refl; all = refl }

module _ (rest : List ℕ) (becomes : Filler → List ℕ) (numbers : List Number) (h : InPieces rest becomes numbers) where
  -- a piece and the rest
  one_more : (p : Piece) → IsBefore p rest → InPieces (original p ++ rest) (λ s. filled s p ++ becomes s) (numbers_in p ++ numbers)
  one_more p before = record {
    pieces = p ∷ h.pieces;
    are = (rest, refl, before, h.are);
    become = λ s. ap (λ (t : List ℕ). filled s p ++ t) (h.become s);
    all = ap (λ (t : List Number). numbers_in p ++ t) h.all;
  }

  -- bytes that stay
  stays : (bytes : List ℕ) → IsBefore (same bytes) rest → InPieces (bytes ++ rest) (λ s. bytes ++ becomes s) numbers
  stays bytes = one_more (same bytes)

  -- one byte that begins no string, no number and no value
  byte : (c : ℕ) → (c == 34) ≡ false → is_of_number c ≡ false → ((v : WideValue) (more : List ℕ) → BeginsValue (c ∷ rest) v more → ⊥) → InPieces (c ∷ rest) (λ s. c ∷ becomes s) numbers
  byte c quote number none = stays (c ∷ []) (inr (inr (c, refl, (λ (e : c ≡ 34). let f : (c == 34) ≡ true = ap (λ (n : ℕ). n == 34) e in let g : false ≡ true = sym quote ∙ f in absurd cc), number, none)))

  a_value : (t : List ℕ) (n : Number) → IsBefore (value t (values.Number n)) rest → InPieces (t ++ rest) (λ s. filled s (value t (values.Number n)) ++ becomes s) (n ∷ numbers)
  a_value t n = one_more (value t (values.Number n))

  a_date : (t : List ℕ) (z : ℤ) → IsBefore (value t (values.Date z)) rest → InPieces (t ++ rest) (λ s. scalar_text (date z) ++ becomes s) numbers
  a_date t z = one_more (value t (values.Date z))

pub nothing : {A : Type 0} {a : A} → None ≡ Some a → ⊥
nothing e = cc

pub some_none : {A : Type 0} {a : A} → Some a ≡ None → ⊥
some_none e = cc

-- a wrapper that there is
abbrev pub known : (o : Option Wrapper) → (o ≡ None → ⊥) → Wrapper
known (Some w) h = w
known None h = absurd (h refl)

-- the wrappers of values, by their names
abbrev pub of_double : Wrapper
of_double = known (wrapper_at (codes "{\"$numberDouble\"")) (λ e. some_none e)

abbrev pub of_decimal128 : Wrapper
of_decimal128 = known (wrapper_at (codes "{\"$numberDecimal\"")) (λ e. some_none e)

abbrev pub of_date : Wrapper
of_date = known (wrapper_at (codes "{\"$date\"")) (λ e. some_none e)

abbrev pub of_uuid : Wrapper
of_uuid = known (wrapper_at (codes "{\"$uuid\"")) (λ e. some_none e)

-- ---- strings

abbrev mutual
  -- whether the bytes are all inside a string
  passes : List ℕ → Bool
  passes [] = true
  passes (c ∷ cs) = cond (c == 34) false (cond (c == 92) (passes_escaped cs) (passes cs))

  passes_escaped : List ℕ → Bool
  passes_escaped [] = false
  passes_escaped (c ∷ cs) = passes cs

mutual
  inside : (xs rest : List ℕ) → passes xs ≡ true → after_string (xs ++ rest) ≡ after_string rest
  inside [] rest h = refl
  inside (c ∷ cs) rest h =
      elim (c == 34) as (λ b. cond b false (cond (c == 92) (passes_escaped cs) (passes cs)) ≡ true
      → cond b (cs ++ rest) (cond (c == 92) (after_escaped (cs ++ rest)) (after_string (cs ++ rest))) ≡ after_string rest) [
        | true ↦ λ e. absurd cc
        | false ↦ λ e. elim (c == 92) as (λ b. cond b (passes_escaped cs) (passes cs) ≡ true → cond b (after_escaped (cs ++ rest)) (after_string (cs ++ rest)) ≡ after_string rest) [
          | true ↦ λ f. inside_escaped cs rest f
          | false ↦ λ f. inside cs rest f
        ] e
      ] h

  inside_escaped : (xs rest : List ℕ) → passes_escaped xs ≡ true → after_escaped (xs ++ rest) ≡ after_string rest
  inside_escaped [] rest h = absurd cc
  inside_escaped (c ∷ cs) rest h = inside cs rest h

-- the bytes that have escapes are checked one by one
abbrev passes_below : ℕ → Bool
passes_below zero = true
passes_below (suc n) = passes (kit_print.escape_byte n) && passes_below n

all_pass : passes_below 93 ≡ true
unfolding kit_print.escape_byte
all_pass = refl

below_pass : (n : ℕ) → passes_below n ≡ true → (b : ℕ) → b < n → passes (kit_print.escape_byte b) ≡ true
below_pass zero e b small = absurd (omega arith)
below_pass (suc n) e b small =
    let p = and_parts (passes (kit_print.escape_byte n)) (passes_below n) e in
    elim (cases_eq b n) [ inl is ↦ rw is p.0 | inr other ↦ below_pass n p.1 b (omega arith) ]

large_pass : (b : ℕ) → 93 ≤ b → passes (b ∷ []) ≡ true
large_pass b large =
    let quote : (b == 34) ≡ false = ne_eqb b 34 (λ e. omega arith) in
    let escape : (b == 92) ≡ false = ne_eqb b 92 (λ e. omega arith) in
    rw (quote, escape) refl

byte_passes : (b : ℕ) → passes (kit_print.escape_byte b) ≡ true
byte_passes b = elim (cases_lt b 93) [
  | inl small ↦ below_pass 93 all_pass b small
  | inr large ↦ subst (λ (x : List ℕ). passes x ≡ true) (sym (escape_byte_plain b (λ e. omega arith) (λ e. omega arith) (omega arith))) (large_pass b large)
]

escape_inside : (s rest : List ℕ) → after_string (kit_print.escape s ++ 34 ∷ rest) ≡ rest
escape_inside [] rest = refl
escape_inside (b ∷ s) rest =
    ap after_string (append_assoc (kit_print.escape_byte b) (kit_print.escape s) (34 ∷ rest))
    ∙ inside (kit_print.escape_byte b) (kit_print.escape s ++ 34 ∷ rest) (byte_passes b) ∙ escape_inside s rest

string_before : (s rest : List ℕ) → IsBefore (same (kit_print.quoted s)) rest
string_before s rest =
    inl (kit_print.escape s ++ 34 ∷ [], refl, ap after_string (append_assoc (kit_print.escape s) (34 ∷ []) rest) ∙ escape_inside s rest)

-- ---- numbers and words

-- The bytes are of numbers, and no double.
abbrev pub IsWhole : List ℕ → Type 0
IsWhole ds = (after is_of_number ds ≡ []) × (list_any (λ c. c == 46 || c == 69 || c == 101) ds ≡ false)

whole_before : (ds rest : List ℕ) → IsWhole ds → IsEnd rest → IsBefore (same ds) rest
whole_before ds rest w end = inr (inl ((w.0, end), λ bits h. let e : false ≡ true = sym w.1 ∙ h.0 in absurd cc))

letter_before : (rest : List ℕ) → IsEnd rest → IsBefore (same (101 ∷ [])) rest
letter_before rest end = inr (inl ((refl, end), λ bits h. let e : Err BadText ≡ Ok bits = h.1 in absurd cc))

-- ---- chunks

-- what a chunk needs before these chunks
abbrev pub IsSafe : Chunk → List Chunk → Type 0
IsSafe (token Token.begin_object) ks = (v : WideValue) (more : List ℕ) → BeginsValue (123 ∷ printed chunk_text false ks) v more → ⊥
IsSafe (token (Token.number ds)) ks = IsWhole ds
IsSafe (token Token.bad) ks = ⊥
IsSafe (valued t n) ks = IsTextOfValue t (values.Number n)
IsSafe (instant t z) ks = IsTextOfValue t (values.Date z)
IsSafe k ks = Unit {0}

abbrev pub AreSafe : List Chunk → Type 0
AreSafe [] = Unit {0}
AreSafe (k ∷ ks) = IsSafe k ks × AreSafe ks

-- the numbers of chunks
abbrev pub chunk_numbers : List Chunk → List Number
chunk_numbers [] = []
chunk_numbers (token t ∷ ks) = chunk_numbers ks
chunk_numbers (valued t n ∷ ks) = n ∷ chunk_numbers ks
chunk_numbers (instant t z ∷ ks) = chunk_numbers ks

after_value_end : (ks : List Chunk) → IsEnd (printed chunk_text true ks)
unfolding printed
after_value_end [] = refl
after_value_end (token Token.begin_object ∷ ks) = refl
after_value_end (token Token.end_object ∷ ks) = refl
after_value_end (token Token.begin_array ∷ ks) = refl
after_value_end (token Token.end_array ∷ ks) = refl
after_value_end (token (Token.key t) ∷ ks) = refl
after_value_end (token (Token.string t) ∷ ks) = refl
after_value_end (token (Token.number t) ∷ ks) = refl
after_value_end (token (Token.boolean b) ∷ ks) = refl
after_value_end (token Token.null ∷ ks) = refl
after_value_end (token Token.bad ∷ ks) = refl
after_value_end (valued t n ∷ ks) = refl
after_value_end (instant t z ∷ ks) = refl

comma : (b : Bool) (rest : List ℕ) (becomes : Filler → List ℕ) (numbers : List Number) → InPieces rest becomes numbers
    → InPieces (cond b (44 ∷ []) [] ++ rest) (λ s. cond b (44 ∷ []) [] ++ becomes s) numbers
comma true rest becomes numbers h = byte rest becomes numbers h 44 refl refl (λ v more b. nothing b.2)
comma false rest becomes numbers h = h

-- what the chunks become
abbrev become_all : Bool → List Chunk → Filler → List ℕ
become_all later ks s = printed (filled_text s) later ks

-- one chunk and the text after it
chunk_pieces : (k : Chunk) (ks : List Chunk) → IsSafe k ks → InPieces (printed chunk_text (chunk_ends k) ks) (become_all (chunk_ends k) ks) (chunk_numbers ks)
    → InPieces (chunk_text k ++ printed chunk_text (chunk_ends k) ks) (λ s. filled_text s k ++ become_all (chunk_ends k) ks s) (chunk_numbers (k ∷ ks))
chunk_pieces (token Token.begin_object) ks safe h = byte _ _ _ h 123 refl refl safe
chunk_pieces (token Token.end_object) ks safe h = byte _ _ _ h 125 refl refl (λ v more b. nothing b.2)
chunk_pieces (token Token.begin_array) ks safe h = byte _ _ _ h 91 refl refl (λ v more b. nothing b.2)
chunk_pieces (token Token.end_array) ks safe h = byte _ _ _ h 93 refl refl (λ v more b. nothing b.2)
chunk_pieces (token (Token.key t)) ks safe h =
    let colon = byte _ _ _ h 58 refl refl (λ v more b. nothing b.2) in
    let whole = stays _ _ _ colon (kit_print.quoted t) (string_before t (58 ∷ printed chunk_text false ks)) in
    let P : List ℕ → Type 0 = λ x. InPieces x (λ s. kit_print.quoted t ++ 58 ∷ become_all false ks s) (chunk_numbers ks) in
    let there : P ((kit_print.quoted t ++ 58 ∷ []) ++ printed chunk_text false ks) = subst P (sym (append_assoc (kit_print.quoted t) (58 ∷ []) (printed chunk_text false ks))) whole in
    record {
      pieces = there.pieces;
      are = there.are;
      become = λ s. there.become s ∙ sym (append_assoc (kit_print.quoted t) (58 ∷ []) (become_all false ks s));
      all = there.all;
    }
chunk_pieces (token (Token.string t)) ks safe h = stays _ _ _ h (kit_print.quoted t) (string_before t (printed chunk_text true ks))
chunk_pieces (token (Token.number ds)) ks safe h = stays _ _ _ h ds (whole_before ds (printed chunk_text true ks) safe (after_value_end ks))
chunk_pieces (token (Token.boolean true)) ks safe h =
    let e = stays _ _ _ h (101 ∷ []) (letter_before (printed chunk_text true ks) (after_value_end ks)) in
    let u = byte _ _ _ e 117 refl refl (λ v more b. nothing b.2) in
    let r = byte _ _ _ u 114 refl refl (λ v more b. nothing b.2) in
    byte _ _ _ r 116 refl refl (λ v more b. nothing b.2)
chunk_pieces (token (Token.boolean false)) ks safe h =
    let e = stays _ _ _ h (101 ∷ []) (letter_before (printed chunk_text true ks) (after_value_end ks)) in
    let s = byte _ _ _ e 115 refl refl (λ v more b. nothing b.2) in
    let l = byte _ _ _ s 108 refl refl (λ v more b. nothing b.2) in
    let a = byte _ _ _ l 97 refl refl (λ v more b. nothing b.2) in
    byte _ _ _ a 102 refl refl (λ v more b. nothing b.2)
chunk_pieces (token Token.null) ks safe h =
    let a = byte _ _ _ h 108 refl refl (λ v more b. nothing b.2) in
    let b = byte _ _ _ a 108 refl refl (λ v more b. nothing b.2) in
    let c = byte _ _ _ b 117 refl refl (λ v more b. nothing b.2) in
    byte _ _ _ c 110 refl refl (λ v more b. nothing b.2)
chunk_pieces (token Token.bad) ks safe h = absurd safe
chunk_pieces (valued t n) ks safe h = a_value _ _ _ h t n (safe (printed chunk_text true ks) (after_value_end ks))
chunk_pieces (instant t z) ks safe h = a_date _ _ _ h t z (safe (printed chunk_text true ks) (after_value_end ks))

pub in_pieces : (later : Bool) (ks : List Chunk) → AreSafe ks → InPieces (printed chunk_text later ks) (become_all later ks) (chunk_numbers ks)
unfolding printed
in_pieces later [] safe = no_pieces
in_pieces later (k ∷ ks) safe = comma (later && chunk_begins k) _ _ _ (chunk_pieces k ks safe.0 (in_pieces (chunk_ends k) ks safe.1))
