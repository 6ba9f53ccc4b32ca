-- A text of JSON on many lines, with a tab for each bracket that is open: as Go's `json.Indent` and mongoexport's `--pretty` lay it out.
use Rattle.std.specs.Prelude.{ℕ, ◌+◌, ◌-◌, ◌==◌, ◌||◌, List, [], ◌∷◌, ◌++◌, Bool, if◌then◌else◌, replicate}
use Rattle.bd_wide_dump.specs.declared.pretty.Position.{Position}
use Rattle.bd_wide_dump.specs.declared.pretty.Position.TheVariants.{Outside, Inside, Escape}

-- RFC 8259, section 2: the brackets that begin an array or an object, and those that end one
abbrev pub opens : ℕ → Bool
opens b = b == 91 || b == 123

-- whether a byte is a closing bracket
abbrev pub closes : ℕ → Bool
closes b = b == 93 || b == 125

-- RFC 8259, section 7: where the byte after this one is, outside of strings, in one, or after a reverse solidus in one
abbrev pub next_place : Position → ℕ → Position
next_place Outside b = if b == 34 then Inside else Outside
next_place Inside b = if b == 34 then Outside else (if b == 92 then Escape else Inside)
next_place Escape b = Inside

-- how many brackets are open after this byte
abbrev pub open_after : Position → ℕ → ℕ → ℕ
open_after Outside n b = if opens b then n + 1 else (if closes b then n - 1 else n)
open_after position n b = n

-- a line end, and that many tabs
abbrev pub line_end : ℕ → List ℕ
line_end n = 10 ∷ replicate n 9

-- what is between two bytes outside of strings, if that many brackets are open between them: nothing in empty brackets
abbrev pub gap : ℕ → ℕ → ℕ → List ℕ
gap n before after =
    if opens before then (if closes after then [] else line_end n)
    else (if closes after then line_end (n - 1)
    else (if before == 44 then line_end n
    else (if before == 58 then 32 ∷ [] else [])))

-- a byte, with what is before it
abbrev pub laid_byte : Position → ℕ → ℕ → ℕ → List ℕ
laid_byte Outside n before b = gap n before b ++ b ∷ []
laid_byte position n before b = b ∷ []

-- the rest of a text, by where it begins, how many brackets are open there, and the byte before it
abbrev pub laid_out : Position → ℕ → ℕ → List ℕ → List ℕ
laid_out position n before [] = []
laid_out position n before (b ∷ text) =
    laid_byte position n before b ++ laid_out (next_place position b) (open_after position n b) b text

-- the text on many lines
unfoldable pub indented : List ℕ → List ℕ
indented text = laid_out Outside 0 0 text

-- RFC 8259, section 2: white space
abbrev pub is_space : ℕ → Bool
is_space b = b == 32 || b == 9 || b == 10 || b == 13

-- a byte, unless it is white space outside of strings
abbrev pub unless_space : Position → ℕ → List ℕ
unless_space Outside b = if is_space b then [] else b ∷ []
unless_space position b = b ∷ []

-- the text without the white space between its tokens, which means nothing: RFC 8259, section 2
abbrev pub squeezed : Position → List ℕ → List ℕ
squeezed position [] = []
squeezed position (b ∷ text) = unless_space position b ++ squeezed (next_place position b) text
