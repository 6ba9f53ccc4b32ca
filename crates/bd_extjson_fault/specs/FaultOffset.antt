-- Where a text stops to be JSON: at the fault it cannot continue, and until there it could.
use Rattle.std.specs.Prelude.{◌≡◌, ◌<◌, ◌≤◌, ◌==◌, ◌||◌, ◌&&◌, ◌⊎◌, ◌++◌, ℕ, suc, List, [], length, take, drop, Bool, true, false, Result, Ok, Err, nat_le, nat_lt}
use Rattle.std.specs.{Char.digit_value, Str.IsUtf8}
use Rattle.json.specs.Text.{is_high_surrogate, is_low_surrogate}
use Rattle.bd_extjson_fault.specs.JsonSyntax.{begins, beyond_text, beyond_unit}
use Rattle.bd_extjson_fault.specs.TextFault.{text_fault}
use Rattle.bd_extjson_fault.specs.declared.skip.Stop.{Stop}

-- JSON (RFC 8259): UTF-8 that is one value, with at most 203 levels of brackets and no lone surrogate
abbrev pub IsJson : List ℕ → Type 0
IsJson text = IsUtf8 text × (beyond_text text ≡ Ok [])

-- the escape is one of a surrogate
abbrev pub is_surrogate : Result (ℕ × List ℕ) Stop → Bool
is_surrogate (Ok unit) = is_high_surrogate unit.0 || is_low_surrogate unit.0
is_surrogate (Err stop) = false

-- an escape of a surrogate begins here
abbrev pub begins_surrogate : List ℕ → Bool
begins_surrogate text = is_surrogate (beyond_unit text)

-- `\ud` comes next in a text, and then a hexadecimal digit from the one number up to below the other
abbrev pub begins_ud : ℕ → ℕ → List ℕ → Bool
begins_ud from to text = begins (λ b. b == 92) text && begins (λ b. b == 117) (drop 1 text) && begins (λ b. digit_value b == 13) (drop 2 text)
    && begins (λ b. nat_le from (digit_value b) && nat_lt (digit_value b) to) (drop 3 text)

-- A part of an escape that may be a lone surrogate: of a low one, from its fourth byte on (`\udc` to `\udf`); or of a pair,
-- from the end of its high one on (`\ud8` to `\udb` and two digits more).
abbrev pub IsPartOfSurrogates : List ℕ → Type 0
IsPartOfSurrogates bytes = ((begins_ud 12 16 bytes ≡ true) × (length bytes < 6)) ⊎ ((begins_ud 8 12 bytes ≡ true) × (6 ≤ length bytes) × (length bytes < 12))

-- the bytes end with such a part
abbrev pub SplitsSurrogate : List ℕ → Type 0
SplitsSurrogate bytes = (prefix : List ℕ) × (escape : List ℕ) × (bytes ≡ prefix ++ escape) × IsPartOfSurrogates escape

-- UTF-8 that is not JSON, with its fault before its end: a byte that cannot continue, a bracket beyond level 203, or a byte
-- after the value. A text whose fault is at its end may continue in any way.
abbrev pub StopsInside : List ℕ → Type 0
StopsInside text = IsUtf8 text × ¬ (IsJson text) × ((text_fault text).at < length text)

-- Whatever follows the text, the fault stays: its kind and its byte.
abbrev pub StaysWithMore : List ℕ → Type 0
StaysWithMore text = StopsInside text → (more : List ℕ) → IsUtf8 (text ++ more) → text_fault (text ++ more) ≡ text_fault text

-- Each text with the same bytes up to and with that of the fault has that fault, so no text with them is JSON. This is not so
-- of a lone surrogate: its fault is at its backslash, where another escape could begin.
abbrev pub CannotContinue : List ℕ → Type 0
CannotContinue text = StopsInside text → begins_surrogate (drop (text_fault text).at text) ≡ false
    → (other : List ℕ) → IsUtf8 other → take (suc (text_fault text).at) other ≡ take (suc (text_fault text).at) text
    → text_fault other ≡ text_fault text

-- the bytes begin some text that is JSON
abbrev pub BeginsJson : List ℕ → Type 0
BeginsJson bytes = (rest : List ℕ) × IsJson (bytes ++ rest)

-- Until its fault a text could continue: the bytes before it begin some text that is JSON. Only those that end with a part of
-- an escape of surrogates may begin none, since a lone surrogate is reported once its escape is whole, and at its backslash.
abbrev pub CouldUntilThere : List ℕ → Type 0
CouldUntilThere text = IsUtf8 text → ¬ (IsJson text) → SplitsSurrogate (take (text_fault text).at text) ⊎ BeginsJson (take (text_fault text).at text)
