-- A text as JSON (RFC 8259), from left to right. Each function skips one item at the start of the text, and gives the
-- text after it, or the first fault: its kind, and how many bytes remain from its offset to the text's end.
use Rattle.std.specs.Prelude.{ℕ, zero, suc, ◌+◌, ◌*◌, List, [], ◌∷◌, length, drop, Bool, true, false, nat_lt, nat_le, ◌==◌}
use Rattle.std.specs.Prelude.{◌||◌, ◌&&◌, if◌then◌else◌}
use Rattle.std.specs.Prelude.{Result, Ok, Err, codes}
use Rattle.std.specs.Char.{digit_value, is_digit}
use Rattle.json.specs.Text.{is_high_surrogate, is_low_surrogate}
use Rattle.bd_value.specs.Limits.{most_brackets}
use Rattle.bd_extjson_fault.specs.declared.skip.Stop.{Stop}
use Rattle.bd_extjson_fault.specs.declared.skip.StopKind.TheVariants.{Syntax, TooDeep, TrailingText}

-- the text after the item, or the fault
abbrev pub Beyond : Type 0
Beyond = Result (List ℕ) Stop

infixl 10 ◌>>=◌
-- one step and then another: the first fault of the two, or what the second gives
abbrev pub ◌>>=◌ : {A B : Type 0} → Result A Stop → (A → Result B Stop) → Result B Stop
(Ok x) >>= f = f x
(Err e) >>= f = Err e

-- the text cannot continue with its first byte, or it ends too soon
abbrev pub syntax_at : {A : Type 0} → List ℕ → Result A Stop
syntax_at text = Err (record { kind = Syntax; remaining = length text })

-- does a byte of that kind come next?
abbrev pub begins : (ℕ → Bool) → List ℕ → Bool
begins is [] = false
begins is (b ∷ text) = is b

-- the text after one such byte, if it comes next
abbrev pub beyond_if : (ℕ → Bool) → List ℕ → List ℕ
beyond_if is text = if begins is text then drop 1 text else text

-- the text after all such bytes
unfoldable pub beyond_all : (ℕ → Bool) → List ℕ → List ℕ
beyond_all is [] = []
beyond_all is (b ∷ text) = if is b then beyond_all is text else b ∷ text

-- the text after exactly these bytes
unfoldable pub beyond_word : List ℕ → List ℕ → Beyond
beyond_word [] text = Ok text
beyond_word (w ∷ word) text = if begins (λ b. b == w) text then beyond_word word (drop 1 text) else syntax_at text

-- ---- white space (section 2)

-- the four bytes of white space: space, tab, line feed, carriage return
abbrev pub is_white : ℕ → Bool
is_white b = b == 32 || b == 9 || b == 10 || b == 13

-- the text after its white space
abbrev pub beyond_white : List ℕ → List ℕ
beyond_white text = beyond_all is_white text

-- ---- numbers (section 6)

-- a decimal digit in ASCII
abbrev pub is_decimal : ℕ → Bool
is_decimal b = nat_le 48 b && nat_le b 57

-- at least one digit
unfoldable pub beyond_digits : List ℕ → Beyond
beyond_digits text = if begins is_decimal text then Ok (beyond_all is_decimal text) else syntax_at text

-- a zero alone, or digits that do not begin with one
unfoldable pub beyond_natural : List ℕ → Beyond
beyond_natural text = if begins (λ b. b == 48) text then Ok (drop 1 text) else beyond_digits text

-- a full stop with its digits, if one comes next
unfoldable pub beyond_fraction : List ℕ → Beyond
beyond_fraction text = if begins (λ b. b == 46) text then beyond_digits (drop 1 text) else Ok text

-- an exponent with its sign and digits, if one comes next
unfoldable pub beyond_exponent : List ℕ → Beyond
beyond_exponent text = if begins (λ b. b == 101 || b == 69) text
    then beyond_digits (beyond_if (λ b. b == 43 || b == 45) (drop 1 text)) else Ok text

-- a number: a sign, a whole part, a fraction, an exponent
unfoldable pub beyond_number : List ℕ → Beyond
beyond_number text = beyond_natural (beyond_if (λ b. b == 45) text) >>= beyond_fraction >>= beyond_exponent

-- ---- strings (section 7)

-- the value of a hexadecimal digit, and the text after it
unfoldable pub beyond_hex : List ℕ → Result (ℕ × List ℕ) Stop
beyond_hex [] = syntax_at []
beyond_hex (b ∷ text) = if is_digit b 16 then Ok (digit_value b, text) else syntax_at (b ∷ text)

-- the number of an escape of four digits, and the text after it
unfoldable pub beyond_unit : List ℕ → Result (ℕ × List ℕ) Stop
beyond_unit text = do
  digits ← beyond_word (codes "\\u") text
  a ← beyond_hex digits
  b ← beyond_hex a.1
  c ← beyond_hex b.1
  d ← beyond_hex c.1
  Ok (a.0 * 4096 + b.0 * 256 + c.0 * 16 + d.0, d.1)

-- After a high surrogate, with which the first text begins, must come a low one. Without it the high one is a fault,
-- unless the text ends first.
unfoldable pub beyond_low : List ℕ → Result (ℕ × List ℕ) Stop → Beyond
beyond_low high (Ok u) = if is_low_surrogate u.0 then Ok u.1 else syntax_at high
beyond_low high (Err stop) = if stop.remaining == 0 then Err stop else syntax_at high

-- an escape of four digits, or two that are a pair of surrogates
unfoldable pub beyond_units : List ℕ → Beyond
beyond_units text = do
  u ← beyond_unit text
  if is_high_surrogate u.0 then beyond_low text (beyond_unit u.1) else (if is_low_surrogate u.0 then syntax_at text else Ok u.1)

-- the byte of an escape of two characters: one of "\/bfnrt
abbrev pub is_short_escape : ℕ → Bool
is_short_escape b = b == 34 || b == 92 || b == 47 || b == 98 || b == 102 || b == 110 || b == 114 || b == 116

-- an escape: the first text begins with its backslash, the second after it
unfoldable pub beyond_escape : List ℕ → List ℕ → Beyond
beyond_escape from [] = syntax_at []
beyond_escape from (b ∷ text) = if b == 117 then beyond_units from else (if is_short_escape b then Ok text else syntax_at (b ∷ text))

-- one character of a string, or an escape; a byte below 32 is neither
unfoldable pub beyond_character : List ℕ → Beyond
beyond_character [] = syntax_at []
beyond_character (b ∷ text) = if b == 92 then beyond_escape (b ∷ text) text else (if nat_lt b 32 then syntax_at (b ∷ text) else Ok text)

-- Items up to a closing byte, which is skipped too. The number bounds the steps: the count of the bytes is always enough.
unfoldable pub beyond_items : (ℕ → Bool) → (List ℕ → Beyond) → ℕ → List ℕ → Beyond
beyond_items closes item zero text = syntax_at text
beyond_items closes item (suc n) text = if begins closes text then Ok (drop 1 text) else item text >>= beyond_items closes item n

-- a string after its first quotation mark
unfoldable pub beyond_string : List ℕ → Beyond
beyond_string text = beyond_items (λ b. b == 34) beyond_character (length text) text

-- ---- values (sections 3 to 5)

-- the name of a member, with its colon
unfoldable pub beyond_name : List ℕ → Beyond
beyond_name text = beyond_word (codes "\"") (beyond_white text) >>= beyond_string >>= λ rest. beyond_word (codes ":") (beyond_white rest)

-- after a part: the closing byte, or a comma, and whether another part comes
unfoldable pub beyond_next : (ℕ → Bool) → List ℕ → Result (Bool × List ℕ) Stop
beyond_next closes text = if begins closes (beyond_white text) then Ok (false, drop 1 (beyond_white text))
    else (beyond_word (codes ",") (beyond_white text) >>= λ rest. Ok (true, rest))

-- At least one part. The number bounds the steps: one more than the count of the bytes is always enough.
unfoldable pub beyond_parts : (ℕ → Bool) → (List ℕ → Beyond) → ℕ → List ℕ → Beyond
beyond_parts closes part zero text = syntax_at text
beyond_parts closes part (suc n) text = part text >>= beyond_next closes >>= λ next. if next.0 then beyond_parts closes part n next.1 else Ok next.1

-- the contents of brackets
unfoldable pub beyond_group : (ℕ → Bool) → (List ℕ → Beyond) → List ℕ → Beyond
beyond_group closes part text = if begins closes (beyond_white text) then Ok (drop 1 (beyond_white text)) else beyond_parts closes part (suc (length text)) text

-- an array after its bracket, up to its closing bracket
abbrev pub beyond_array : (List ℕ → Beyond) → List ℕ → Beyond
beyond_array value text = beyond_group (λ b. b == 93) value text

-- a name and its value
abbrev pub beyond_member : (List ℕ → Beyond) → List ℕ → Beyond
beyond_member value text = beyond_name text >>= value

-- an object after its brace, up to its closing brace
abbrev pub beyond_object : (List ℕ → Beyond) → List ℕ → Beyond
beyond_object value text = beyond_group (λ b. b == 125) (beyond_member value) text

-- a value without brackets, and without white space before it
unfoldable pub beyond_scalar : List ℕ → Beyond
beyond_scalar [] = syntax_at []
beyond_scalar (b ∷ text) = if b == 34 then beyond_string text
    else (if b == 116 then beyond_word (codes "rue") text
    else (if b == 102 then beyond_word (codes "alse") text
    else (if b == 110 then beyond_word (codes "ull") text
    else beyond_number (b ∷ text))))

-- an object begins here
abbrev pub opens_object : List ℕ → Bool
opens_object text = begins (λ b. b == 123) text

-- an array begins here
abbrev pub opens_array : List ℕ → Bool
opens_array text = begins (λ b. b == 91) text

-- the text after white space: a bracket beyond the limit, or a value without brackets
abbrev pub beyond_unnested : List ℕ → Beyond
beyond_unnested text = if opens_object text || opens_array text
    then Err (record { kind = TooDeep; remaining = length text }) else beyond_scalar text

-- an object or an array of such values, or a value without brackets
abbrev pub beyond_nested : (List ℕ → Beyond) → List ℕ → Beyond
beyond_nested value text = if opens_object text then beyond_object value (drop 1 text)
    else (if opens_array text then beyond_array value (drop 1 text) else beyond_scalar text)

-- a value, with at most n levels of brackets
unfoldable pub beyond_value : ℕ → List ℕ → Beyond
beyond_value zero text = beyond_unnested (beyond_white text)
beyond_value (suc level) text = beyond_nested (beyond_value level) (beyond_white text)

-- the whole text must be one value
unfoldable pub beyond_text : List ℕ → Beyond
beyond_text text = beyond_value most_brackets text >>= λ rest.
    if length (beyond_white rest) == 0 then Ok [] else Err (record { kind = TrailingText; remaining = length (beyond_white rest) })
