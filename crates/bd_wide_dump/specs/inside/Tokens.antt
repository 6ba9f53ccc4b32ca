-- How far a text that is laid out continues as it is.
use Rattle.std.specs.Prelude.{◌≡◌, ℕ, List, ◌++◌, take, drop, slice_index}
use Rattle.bd_wide_dump.specs.declared.pretty.Position.{Position}
use Rattle.bd_wide_dump.specs.declared.pretty.Position.TheVariants.{Outside, Inside}
use Rattle.bd_wide_dump.specs.Pretty.{gap, laid_out, open_after}

-- The first k bytes from inside a string are laid out as they are, and after them is that position. A position outside of strings
-- comes after a quotation mark.
abbrev pub Reaches : List ℕ → ℕ → Position → Type 0
Reaches text k position = (n before : ℕ) → laid_out Inside n before text ≡ take k text ++ laid_out position n 34 (drop k text)

-- The first k bytes are a token or a byte of one: before them is a gap alone.
abbrev pub IsToken : List ℕ → ℕ → Type 0
IsToken text k = (n before : ℕ) → laid_out Outside n before text ≡ gap n before (slice_index text 0)
    ++ (take k text ++ laid_out Outside (open_after Outside n (slice_index text 0)) (slice_index text 0) (drop k text))
