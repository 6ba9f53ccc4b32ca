-- JSON in which some values are numbers or dates with texts of their own, and the same JSON with other values for the numbers and
-- with canonical dates.
use Rattle.std.proofs.Common.{◌≡◌, ℕ, zero, suc, Bool, true, false, cond, ◌&&◌, List, [], ◌∷◌, ◌++◌, length, map, replicate, refl, sym, ap, ap₂, ◌∙◌, append_assoc, append-nil, arith, ◌-◌, subst}
use Rattle.std.specs.Prelude.{◌==◌, codes, IsUtf8, if◌then◌else◌, ℤ}
use Rattle.std.specs.Fmt.{signed_decimal}
use Rattle.std.specs.List.{join_with_byte}
use Rattle.std.proofs.lemmas.Str.{IsUtf8-append}
use Rattle.json.specs.Json as kit
use Rattle.json.specs.Lex.{Lexeme, lex, between, comma, colon, string_token, tokens, punctuate, fresh}
use Rattle.json.specs.Lex as lexing
use Rattle.json.specs.Print as kit_print
use Rattle.json.specs.Print.{ArePrintable, IsPrintable, begins, ends, print_from, token_text, IsNumber}
use Rattle.json.specs.Token.{Token}
use Rattle.json.specs.Tree.{json_tokens, items_tokens, members_tokens}
use Rattle.json.specs.Word.{ends_word, word, after_number}
use Rattle.json.proofs.Printed.Numbers.{lex-number, in_word-ended}
use Rattle.json.proofs.Printed.Strings.{content-escape, lex-escape}
use Rattle.json.proofs.Printed.Tokens.{tokens-print}
use Rattle.json.proofs.Printed.Utf8.{are_ascii, IsUtf8-are_ascii, IsUtf8-quoted}
use Rattle.bd_value.specs.Tree.{date}
use Rattle.bd_extjson_text.specs.Text as texts
use Rattle.bd_extjson_text.specs.Text.{listed, quoted, scalar_text}
use Rattle.bd_extjson_text.proofs.TextLemmas.{before, to_come, to_come-all}
use Rattle.bd_extjson.proofs.TreeJsonLemmas.{scalar_json}
use Rattle.bd_wide_number.specs.declared.number.Number.{Number}
use Rattle.bd_wide_substitute.specs.Substitutes.{Filler, filler_of, text, whole}

-- ---- JSON with numbers

mutual
  pub data Wide : Type 0 where
    null : Wide
    boolean : Bool → Wide
    number : List ℕ → Wide
    string : List ℕ → Wide
    array : Elements → Wide
    object : Members → Wide
    value : List ℕ → Number → Wide
    dated : List ℕ → ℤ → Wide

  pub data Elements : Type 0 where
    no_elements : Elements
    element : Wide → Elements → Elements

  pub data Members : Type 0 where
    no_members : Members
    member : List ℕ → Wide → Members → Members

abbrev mutual
  -- its text by the definitions of the specification
  pub text_of : Wide → List ℕ
  text_of null = codes "null"
  text_of (boolean b) = if b then codes "true" else codes "false"
  text_of (number ds) = ds
  text_of (string s) = quoted s
  text_of (array xs) = listed (element_texts xs)
  text_of (object ms) = texts.object (member_texts ms)
  text_of (value t n) = t
  text_of (dated t z) = t

  pub element_texts : Elements → List (List ℕ)
  element_texts no_elements = []
  element_texts (element x xs) = text_of x ∷ element_texts xs

  pub member_texts : Members → List (List ℕ)
  member_texts no_members = []
  member_texts (member n x ms) = texts.member n (text_of x) ∷ member_texts ms

-- the JSON that a number becomes
abbrev pub filler_json : Filler → kit.Json
filler_json whole = kit.number (48 ∷ [])
filler_json text = kit.string []

abbrev mutual
  -- the same with other values for its numbers
  pub fill : Filler → Wide → kit.Json
  fill s null = kit.null
  fill s (boolean b) = kit.boolean b
  fill s (number ds) = kit.number ds
  fill s (string t) = kit.string t
  fill s (array xs) = kit.array (fill_elements s xs)
  fill s (object ms) = kit.object (fill_members s ms)
  fill s (value t n) = filler_json s
  fill s (dated t z) = scalar_json (date z)

  pub fill_elements : Filler → Elements → kit.Items
  fill_elements s no_elements = kit.no_items
  fill_elements s (element x xs) = kit.item (fill s x) (fill_elements s xs)

  pub fill_members : Filler → Members → kit.Members
  fill_members s no_members = kit.no_members
  fill_members s (member n x ms) = kit.member n (fill s x) (fill_members s ms)

-- ---- its tokens

-- A token, the text of a number and the number, or the text of a date and its milliseconds.
pub data Chunk : Type 0 where
  token : Token → Chunk
  valued : List ℕ → Number → Chunk
  instant : List ℕ → ℤ → Chunk

-- the tokens of JSON and of its elements and members
abbrev mutual
  -- the chunks of a value
  pub chunks : Wide → List Chunk
  chunks null = token Token.null ∷ []
  chunks (boolean b) = token (Token.boolean b) ∷ []
  chunks (number ds) = token (Token.number ds) ∷ []
  chunks (string s) = token (Token.string s) ∷ []
  chunks (array xs) = token Token.begin_array ∷ element_chunks xs
  chunks (object ms) = token Token.begin_object ∷ member_chunks ms
  chunks (value t n) = valued t n ∷ []
  chunks (dated t z) = instant t z ∷ []

  pub element_chunks : Elements → List Chunk
  element_chunks no_elements = token Token.end_array ∷ []
  element_chunks (element x xs) = chunks x ++ element_chunks xs

  pub member_chunks : Members → List Chunk
  member_chunks no_members = token Token.end_object ∷ []
  member_chunks (member n x ms) = token (Token.key n) ∷ (chunks x ++ member_chunks ms)

-- the token that a chunk becomes; a date becomes more than one
abbrev pub token_in : Filler → Chunk → Token
token_in s (token t) = t
token_in whole (valued t n) = Token.number (48 ∷ [])
token_in text (valued t n) = Token.string []
token_in s (instant t z) = Token.bad

-- the text of a chunk, and what it becomes
abbrev pub chunk_text : Chunk → List ℕ
chunk_text (token t) = token_text t
chunk_text (valued t n) = t
chunk_text (instant t z) = t

-- what a chunk becomes
abbrev pub filled_text : Filler → Chunk → List ℕ
filled_text s (token t) = token_text t
filled_text s (valued t n) = filler_of s (length t)
filled_text s (instant t z) = scalar_text (date z)

abbrev pub chunk_begins : Chunk → Bool
chunk_begins (token t) = begins t
chunk_begins (valued t n) = true
chunk_begins (instant t z) = true

abbrev pub chunk_ends : Chunk → Bool
chunk_ends (token t) = ends t
chunk_ends (valued t n) = true
chunk_ends (instant t z) = true

-- the chunks with the tokens of canonical dates
abbrev pub spread : List Chunk → List Chunk
spread [] = []
spread (token t ∷ ks) = token t ∷ spread ks
spread (valued t n ∷ ks) = valued t n ∷ spread ks
spread (instant t z ∷ ks) =
    token Token.begin_object ∷ token (Token.key (codes "$date")) ∷ token Token.begin_object ∷ token (Token.key (codes "$numberLong"))
    ∷ token (Token.string (signed_decimal z)) ∷ token Token.end_object ∷ token Token.end_object ∷ spread ks

-- chunks one after the other, each as this text, with commas between values
unfoldable pub printed : (Chunk → List ℕ) → Bool → List Chunk → List ℕ
printed f later [] = []
printed f later (k ∷ ks) = cond (later && chunk_begins k) (44 ∷ []) [] ++ (f k ++ printed f (chunk_ends k) ks)

-- ---- the chunks print the text

unless : (n b : ℕ) (P : ℕ → Type 0) → P n → ((b == n) ≡ false → P b) → P b
unless n b P here other = one (b == n) refl
  where
    one : (v : Bool) → (b == n) ≡ v → P b
    one true e = let same : n ≡ b = grind arith in subst P same here
    one false e = other e

escape_byte-kit : (b : ℕ) → kit_print.escape_byte b ≡ texts.escape_byte b
unfolding texts.escape_byte kit_print.escape_byte
escape_byte-kit b =
    let P : ℕ → Type 0 = λ n. kit_print.escape_byte n ≡ texts.escape_byte n in
    unless 34 b P refl (λ b34. unless 92 b P refl (λ b92. unless 8 b P refl (λ b8. unless 12 b P refl (λ b12. unless 10 b P refl (λ b10.
    unless 13 b P refl (λ b13. unless 9 b P refl (λ b9. rw (b34, b92, b8, b12, b10, b13, b9) refl)))))))

escaped-kit : (s : List ℕ) → kit_print.escape s ≡ texts.escaped s
escaped-kit [] = refl
escaped-kit (b ∷ s) = ap₂ (λ (x y : List ℕ). x ++ y) (escape_byte-kit b) (escaped-kit s)

quoted-kit : (s : List ℕ) → kit_print.quoted s ≡ quoted s
unfolding quoted
quoted-kit s = ap (λ (l : List ℕ). 34 ∷ (l ++ 34 ∷ [])) (escaped-kit s)

comma_before : (later : Bool) → cond (later && true) (44 ∷ []) [] ≡ before later 44
comma_before true = refl
comma_before false = refl

no_comma : (later : Bool) → cond {A = List ℕ} (later && false) (44 ∷ []) [] ≡ []
no_comma true = refl
no_comma false = refl

-- texts with commas between them, and the bracket at their end
ended : (pieces : List (List ℕ)) (c : ℕ) (rest : List ℕ) → to_come false 44 pieces ++ c ∷ rest ≡ (join_with_byte 44 pieces ++ c ∷ []) ++ rest
ended pieces c rest = ap (λ (l : List ℕ). l ++ c ∷ rest) (to_come-all 44 pieces) ∙ sym (append_assoc (join_with_byte 44 pieces) (c ∷ []) rest)

abbrev chunk_texts : Bool → List Chunk → List ℕ
chunk_texts = printed chunk_text

mutual
  unfolding printed

  -- The chunks of a value print its text.
  pub printed-text : (x : Wide) (later : Bool) (rest : List Chunk) → chunk_texts later (chunks x ++ rest) ≡ before later 44 ++ (text_of x ++ chunk_texts true rest)
  printed-text null later rest = rw (← comma_before later) refl
  printed-text (boolean true) later rest = rw (← comma_before later) refl
  printed-text (boolean false) later rest = rw (← comma_before later) refl
  printed-text (number ds) later rest = rw (← comma_before later) refl
  printed-text (string s) later rest = ap₂ (λ (a b : List ℕ). a ++ (b ++ chunk_texts true rest)) (comma_before later) (quoted-kit s)
  printed-text (array xs) later rest =
      ap₂ (λ (a b : List ℕ). a ++ 91 ∷ b) (comma_before later) (printed-elements xs false rest ∙ ended (element_texts xs) 93 (chunk_texts true rest))
  printed-text (object ms) later rest =
      ap₂ (λ (a b : List ℕ). a ++ 123 ∷ b) (comma_before later) (printed-members ms false rest ∙ ended (member_texts ms) 125 (chunk_texts true rest))
  printed-text (value t n) later rest = rw (← comma_before later) refl
  printed-text (dated t z) later rest = rw (← comma_before later) refl

  printed-elements : (xs : Elements) (later : Bool) (rest : List Chunk)
      → chunk_texts later (element_chunks xs ++ rest) ≡ to_come later 44 (element_texts xs) ++ 93 ∷ chunk_texts true rest
  printed-elements no_elements later rest = ap (λ (l : List ℕ). l ++ 93 ∷ chunk_texts true rest) (no_comma later)
  printed-elements (element x xs) later rest =
      ap (chunk_texts later) (append_assoc (chunks x) (element_chunks xs) rest) ∙ printed-text x later (element_chunks xs ++ rest)
      ∙ ap (λ (l : List ℕ). before later 44 ++ (text_of x ++ l)) (printed-elements xs true rest) ∙ simp append_assoc

  pub printed-members : (ms : Members) (later : Bool) (rest : List Chunk)
      → chunk_texts later (member_chunks ms ++ rest) ≡ to_come later 44 (member_texts ms) ++ 125 ∷ chunk_texts true rest
  printed-members no_members later rest = ap (λ (l : List ℕ). l ++ 125 ∷ chunk_texts true rest) (no_comma later)
  printed-members (member n x ms) later rest =
      ap (λ (l : List Chunk). chunk_texts later (token (Token.key n) ∷ l)) (append_assoc (chunks x) (member_chunks ms) rest)
      ∙ ap₂ (λ (a b : List ℕ). a ++ ((kit_print.quoted n ++ 58 ∷ []) ++ b)) (comma_before later) (printed-text x false (member_chunks ms ++ rest)
      ∙ ap (λ (l : List ℕ). text_of x ++ l) (printed-members ms true rest))
      ∙ ap (λ (q : List ℕ). before later 44 ++ ((q ++ 58 ∷ []) ++ (text_of x ++ (to_come true 44 (member_texts ms) ++ 125 ∷ chunk_texts true rest)))) (quoted-kit n)
      ∙ simp append_assoc

-- the same for a whole text
pub whole-text : (x : Wide) → chunk_texts false (chunks x) ≡ text_of x
unfolding printed
whole-text x = ap (chunk_texts false) (sym (append-nil (chunks x))) ∙ printed-text x false [] ∙ append-nil (text_of x)

-- ---- the chunks become the tokens of the same JSON with other values

-- the tokens that chunks become
abbrev pub tokens_in : Filler → List Chunk → List Token
tokens_in s ks = map (token_in s) (spread ks)

tokens-append : (s : Filler) (ks ls : List Chunk) → tokens_in s (ks ++ ls) ≡ tokens_in s ks ++ tokens_in s ls
tokens-append s [] ls = refl
tokens-append s (token t ∷ ks) ls = ap (λ (l : List Token). t ∷ l) (tokens-append s ks ls)
tokens-append s (valued t n ∷ ks) ls = ap (λ (l : List Token). token_in s (valued t n) ∷ l) (tokens-append s ks ls)
tokens-append s (instant t z ∷ ks) ls = ap (λ (l : List Token). json_tokens (scalar_json (date z)) ++ l) (tokens-append s ks ls)

mutual
  -- the chunks become the tokens of the JSON with other values
  pub filled-tokens : (s : Filler) (x : Wide) → tokens_in s (chunks x) ≡ json_tokens (fill s x)
  filled-tokens s null = refl
  filled-tokens s (boolean b) = refl
  filled-tokens s (number ds) = refl
  filled-tokens s (string t) = refl
  filled-tokens s (array xs) = ap (λ (l : List Token). Token.begin_array ∷ l) (filled-elements s xs)
  filled-tokens s (object ms) = ap (λ (l : List Token). Token.begin_object ∷ l) (filled-members s ms)
  filled-tokens whole (value t n) = refl
  filled-tokens text (value t n) = refl
  filled-tokens s (dated t z) = refl

  filled-elements : (s : Filler) (xs : Elements) → tokens_in s (element_chunks xs) ≡ items_tokens (fill_elements s xs)
  filled-elements s no_elements = refl
  filled-elements s (element x xs) = tokens-append s (chunks x) (element_chunks xs) ∙ ap₂ (λ (a b : List Token). a ++ b) (filled-tokens s x) (filled-elements s xs)

  filled-members : (s : Filler) (ms : Members) → tokens_in s (member_chunks ms) ≡ members_tokens (fill_members s ms)
  filled-members s no_members = refl
  filled-members s (member n x ms) =
      ap (λ (l : List Token). Token.key n ∷ l) (tokens-append s (chunks x) (member_chunks ms) ∙ ap₂ (λ (a b : List Token). a ++ b) (filled-tokens s x) (filled-members s ms))

-- ---- blanks after a value mean nothing

abbrev lexemes_of : Token → List Lexeme
lexemes_of Token.begin_object = lexing.token Token.begin_object ∷ []
lexemes_of Token.end_object = lexing.token Token.end_object ∷ []
lexemes_of Token.begin_array = lexing.token Token.begin_array ∷ []
lexemes_of Token.end_array = lexing.token Token.end_array ∷ []
lexemes_of (Token.key s) = lexing.token (Token.string s) ∷ colon ∷ []
lexemes_of (Token.string s) = lexing.token (Token.string s) ∷ []
lexemes_of (Token.number s) = lexing.token (Token.number s) ∷ []
lexemes_of (Token.boolean b) = lexing.token (Token.boolean b) ∷ []
lexemes_of Token.null = lexing.token Token.null ∷ []
lexemes_of Token.bad = []

lex-quoted : (s r : List ℕ) → lex between (kit_print.quoted s ++ r) ≡ lexing.token (Token.string s) ∷ lex between r
unfolding lex
lex-quoted s r =
    ap (λ (l : List ℕ). lex between (34 ∷ l)) (append_assoc (kit_print.escape s) (34 ∷ []) r) ∙ ap₂ (λ o l. lexing.token (string_token o) ∷ l) (content-escape s r) (lex-escape s r)

lex-token : (t : Token) (r : List ℕ) → IsPrintable t → (ends t ≡ true → ends_word r ≡ true) → lex between (token_text t ++ r) ≡ lexemes_of t ++ lex between r
unfolding lex word
lex-token Token.begin_object r h ended = refl
lex-token Token.end_object r h ended = refl
lex-token Token.begin_array r h ended = refl
lex-token Token.end_array r h ended = refl
lex-token (Token.key s) r h ended = ap (lex between) (append_assoc (kit_print.quoted s) (58 ∷ []) r) ∙ lex-quoted s (58 ∷ r)
lex-token (Token.string s) r h ended = lex-quoted s r
lex-token (Token.number s) r h ended = lex-number s r h (ended refl)
lex-token (Token.boolean true) r h ended = ap₂ (λ b l. lexing.token (cond b (Token.boolean true) Token.bad) ∷ l) (ended refl) (in_word-ended r (ended refl))
lex-token (Token.boolean false) r h ended = ap₂ (λ b l. lexing.token (cond b (Token.boolean false) Token.bad) ∷ l) (ended refl) (in_word-ended r (ended refl))
lex-token Token.null r h ended = ap₂ (λ b l. lexing.token (cond b Token.null Token.bad) ∷ l) (ended refl) (in_word-ended r (ended refl))
lex-token Token.bad r h ended = absurd h

lex-blanks : (n : ℕ) (r : List ℕ) → lex between (replicate n 32 ++ r) ≡ lex between r
unfolding lex
lex-blanks zero r = refl
lex-blanks (suc n) r = lex-blanks n r

blanks_end : (n : ℕ) (r : List ℕ) → ends_word r ≡ true → ends_word (replicate n 32 ++ r) ≡ true
blanks_end zero r h = h
blanks_end (suc n) r h = refl

pub a_zero : IsNumber (48 ∷ [])
unfolding after_number
a_zero = refl

lex-filler : (s : Filler) (t : List ℕ) (n : Number) (r : List ℕ) → ends_word r ≡ true → lex between (filler_of s (length t) ++ r) ≡ lexemes_of (token_in s (valued t n)) ++ lex between r
lex-filler whole t n r h =
    lex-number (48 ∷ []) (replicate (length t - 1) 32 ++ r) a_zero (blanks_end (length t - 1) r h) ∙ ap (λ l. lexing.token (Token.number (48 ∷ [])) ∷ l) (lex-blanks (length t - 1) r)
lex-filler text t n r h =
    lex-quoted [] (replicate (length t - 2) 32 ++ r) ∙ ap (λ l. lexing.token (Token.string []) ∷ l) (lex-blanks (length t - 2) r)

printed_ends : (s : Filler) (ks : List Chunk) → ends_word (printed (filled_text s) true ks) ≡ true
unfolding printed
printed_ends s [] = refl
printed_ends s (token Token.begin_object ∷ ks) = refl
printed_ends s (token Token.end_object ∷ ks) = refl
printed_ends s (token Token.begin_array ∷ ks) = refl
printed_ends s (token Token.end_array ∷ ks) = refl
printed_ends s (token (Token.key t) ∷ ks) = refl
printed_ends s (token (Token.string t) ∷ ks) = refl
printed_ends s (token (Token.number t) ∷ ks) = refl
printed_ends s (token (Token.boolean b) ∷ ks) = refl
printed_ends s (token Token.null ∷ ks) = refl
printed_ends s (token Token.bad ∷ ks) = refl
printed_ends s (valued t n ∷ ks) = refl
printed_ends s (instant t z ∷ ks) = refl

print_ends : (ts : List Token) → ends_word (print_from true ts) ≡ true
unfolding print_from
print_ends [] = refl
print_ends (Token.begin_object ∷ ts) = refl
print_ends (Token.end_object ∷ ts) = refl
print_ends (Token.begin_array ∷ ts) = refl
print_ends (Token.end_array ∷ ts) = refl
print_ends (Token.key s ∷ ts) = refl
print_ends (Token.string s ∷ ts) = refl
print_ends (Token.number s ∷ ts) = refl
print_ends (Token.boolean b ∷ ts) = refl
print_ends (Token.null ∷ ts) = refl
print_ends (Token.bad ∷ ts) = refl

lex-comma : (b : Bool) (r q : List ℕ) → lex between r ≡ lex between q → lex between (cond b (44 ∷ []) [] ++ r) ≡ lex between (cond b (44 ∷ []) [] ++ q)
unfolding lex
lex-comma true r q same = ap (λ l. comma ∷ l) same
lex-comma false r q same = same

lexed-more : (later : Bool) (t : Token) (x rest others : List ℕ) → IsPrintable t → lex between (x ++ rest) ≡ lexemes_of t ++ lex between rest
    → (ends t ≡ true → ends_word others ≡ true) → lex between rest ≡ lex between others
    → lex between (cond (later && begins t) (44 ∷ []) [] ++ (x ++ rest)) ≡ lex between (cond (later && begins t) (44 ∷ []) [] ++ (token_text t ++ others))
lexed-more later t x rest others printable here end same =
    lex-comma (later && begins t) (x ++ rest) (token_text t ++ others) (here ∙ ap (λ l. lexemes_of t ++ l) same ∙ sym (lex-token t others printable end))

-- with other values the text has the lexemes of these tokens
pub lexed : (s : Filler) (later : Bool) (ks : List Chunk) → ArePrintable (map (token_in s) ks) → lex between (printed (filled_text s) later ks) ≡ lex between (print_from later (map (token_in s) ks))
unfolding print_from printed ArePrintable
lexed s later [] h = refl
lexed s later (token t ∷ ks) h =
    let rest = printed (filled_text s) (ends t) ks in
    let others = print_from (ends t) (map (token_in s) ks) in
    lexed-more later t (token_text t) rest others h.0 (lex-token t rest h.0 (λ e. ap (λ b. ends_word (printed (filled_text s) b ks)) e ∙ printed_ends s ks))
    (λ e. ap (λ b. ends_word (print_from b (map (token_in s) ks))) e ∙ print_ends (map (token_in s) ks)) (lexed s (ends t) ks h.1)
lexed whole later (valued t n ∷ ks) h =
    let rest = printed (filled_text whole) true ks in
    lexed-more later (Token.number (48 ∷ [])) (filler_of whole (length t)) rest (print_from true (map (token_in whole) ks)) h.0 (lex-filler whole t n rest (printed_ends whole ks))
    (λ e. print_ends (map (token_in whole) ks)) (lexed whole true ks h.1)
lexed text later (valued t n ∷ ks) h =
    let rest = printed (filled_text text) true ks in
    lexed-more later (Token.string []) (filler_of text (length t)) rest (print_from true (map (token_in text) ks)) h.0 (lex-filler text t n rest (printed_ends text ks))
    (λ e. print_ends (map (token_in text) ks)) (lexed text true ks h.1)
lexed s later (instant t z ∷ ks) h = absurd h.0

-- the text of a date is that of its tokens
date-text : (z : ℤ) (rest : List ℕ) → scalar_text (date z) ++ rest ≡ codes "{\"$date\":{\"$numberLong\":\"" ++ (kit_print.escape (signed_decimal z) ++ 34 ∷ 125 ∷ 125 ∷ rest)
unfolding scalar_text quoted texts.escape_byte
date-text z rest = rw (escaped-kit (signed_decimal z)) (simp append_assoc)

pub date-utf8 : (z : ℤ) → IsUtf8 (signed_decimal z) → IsUtf8 (scalar_text (date z))
unfolding kit_print.escape_byte
date-utf8 z digits =
    let prefix : List ℕ = codes "{\"$date\":{\"$numberLong\":" in
    let inner : IsUtf8 (kit_print.quoted (signed_decimal z) ++ codes "}}") = IsUtf8-append (kit_print.quoted (signed_decimal z)) (codes "}}") (IsUtf8-quoted (signed_decimal z) digits) (IsUtf8-are_ascii (codes "}}") refl) in
    let all : IsUtf8 (prefix ++ (kit_print.quoted (signed_decimal z) ++ codes "}}")) = IsUtf8-append prefix (kit_print.quoted (signed_decimal z) ++ codes "}}") (IsUtf8-are_ascii prefix refl) inner in
    let shape : scalar_text (date z) ≡ prefix ++ (kit_print.quoted (signed_decimal z) ++ codes "}}") =
    sym (append-nil (scalar_text (date z))) ∙ date-text z [] ∙ ap (λ (l : List ℕ). codes "{\"$date\":{\"$numberLong\":\"" ++ l) (sym (append_assoc (kit_print.escape (signed_decimal z)) (34 ∷ []) (125 ∷ 125 ∷ []))) in
    subst IsUtf8 (sym shape) all

-- so the text of chunks is that of the chunks with the tokens of dates
printed-spread : (s : Filler) (later : Bool) (ks : List Chunk) → printed (filled_text s) later ks ≡ printed (filled_text s) later (spread ks)
unfolding printed kit_print.escape_byte
printed-spread s later [] = refl
printed-spread s later (token t ∷ ks) = ap (λ (l : List ℕ). cond (later && begins t) (44 ∷ []) [] ++ (token_text t ++ l)) (printed-spread s (ends t) ks)
printed-spread s later (valued t n ∷ ks) = ap (λ (l : List ℕ). cond (later && true) (44 ∷ []) [] ++ (filler_of s (length t) ++ l)) (printed-spread s true ks)
printed-spread s later (instant t z ∷ ks) =
    let rest = printed (filled_text s) true (spread ks) in
    let digits = kit_print.escape (signed_decimal z) in
    ap (λ (l : List ℕ). cond (later && true) (44 ∷ []) [] ++ l)
    (ap (λ (l : List ℕ). scalar_text (date z) ++ l) (printed-spread s true ks) ∙ date-text z rest
    ∙ ap (λ (l : List ℕ). codes "{\"$date\":{\"$numberLong\":\"" ++ l) (sym (append_assoc digits (34 ∷ []) (125 ∷ 125 ∷ rest))))

-- so it has these tokens
pub tokens-filled : (s : Filler) (ks : List Chunk) → ArePrintable (tokens_in s ks) → tokens (printed (filled_text s) false ks) ≡ tokens_in s ks
tokens-filled s ks h =
    ap tokens (printed-spread s false ks) ∙ ap (punctuate fresh) (lexed s false (spread ks) h) ∙ tokens-print (tokens_in s ks) h

-- ---- UTF-8

abbrev pub HasUtf8 : Chunk → Type 0
HasUtf8 (token t) = IsUtf8 (token_text t)
HasUtf8 (valued t n) = Unit {0}
HasUtf8 (instant t z) = IsUtf8 (scalar_text (date z))

abbrev pub HaveUtf8 : List Chunk → Type 0
HaveUtf8 [] = Unit {0}
HaveUtf8 (k ∷ ks) = HasUtf8 k × HaveUtf8 ks

blanks_ascii : (n : ℕ) → are_ascii (replicate n 32) ≡ true
blanks_ascii zero = refl
blanks_ascii (suc n) = blanks_ascii n

filler-utf8 : (s : Filler) (n : ℕ) → IsUtf8 (filler_of s n)
filler-utf8 whole n = IsUtf8-are_ascii (48 ∷ replicate (n - 1) 32) (blanks_ascii (n - 1))
filler-utf8 text n = IsUtf8-are_ascii (34 ∷ 34 ∷ replicate (n - 2) 32) (blanks_ascii (n - 2))

chunk-utf8 : (s : Filler) (k : Chunk) → HasUtf8 k → IsUtf8 (filled_text s k)
chunk-utf8 s (token t) h = h
chunk-utf8 s (valued t n) h = filler-utf8 s (length t)
chunk-utf8 s (instant t z) h = h

comma-utf8 : (b : Bool) → IsUtf8 (cond b (44 ∷ []) [])
comma-utf8 true = IsUtf8-are_ascii (44 ∷ []) refl
comma-utf8 false = IsUtf8-are_ascii [] refl

-- with other values the text is UTF-8
pub printed-utf8 : (s : Filler) (later : Bool) (ks : List Chunk) → HaveUtf8 ks → IsUtf8 (printed (filled_text s) later ks)
unfolding printed
printed-utf8 s later [] h = IsUtf8-are_ascii [] refl
printed-utf8 s later (k ∷ ks) h =
    IsUtf8-append (cond (later && chunk_begins k) (44 ∷ []) []) _ (comma-utf8 (later && chunk_begins k))
    (IsUtf8-append (filled_text s k) _ (chunk-utf8 s k h.0) (printed-utf8 s (chunk_ends k) ks h.1))
