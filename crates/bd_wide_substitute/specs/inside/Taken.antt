-- A piece that is at the start of a text, and the pieces before a rest: used only in proofs.
use Rattle.std.specs.Prelude.{◌≡◌, ◌≤◌, ℕ, ◌+◌, List, [], Bool, false, ◌++◌, length, take, drop, Option, Some, None}
use Rattle.bd_wide_substitute.specs.declared.scan.Substituted.{Substituted}
use Rattle.bd_wide_substitute.specs.declared.wrapped.WideValue.{WideValue}
use Rattle.bd_wide_substitute.specs.Substitutes.{ArePieces, IsBefore, Piece, all_numbers, all_values, byte_within, filled, origin, value, same, text, whole, with_fillers}

-- The first n bytes are this piece.
abbrev pub IsPiece : List ℕ → ℕ → Option WideValue → Piece → Type 0
IsPiece bytes n None (same first) = first ≡ take n bytes
IsPiece bytes n (Some x) (value first y) = (first ≡ take n bytes) × (x ≡ y) × (2 ≤ n)
IsPiece bytes n found piece = ⊥

-- The first n bytes are a piece, and this value, if it is one.
pub record IsFound (bytes : List ℕ) (n : ℕ) (found : Option WideValue) : Type 0 where
  pub piece : Piece
  pub is : IsPiece bytes n found piece
  pub before : IsBefore piece (drop n bytes)
  pub some : 1 ≤ n
  pub within : n ≤ length bytes

-- These are the pieces before the rest, and whether values are among them. The bytes after the last value are not copied yet.
pub record AreTaken (has : Bool) (line pending rest : List ℕ) (made : Substituted) : Type 0 where
  pub pieces : List Piece
  pub before : (more : List Piece) → ArePieces rest more → ArePieces line (pieces ++ more)
  pub skipped : List ℕ
  pub split : pending ≡ skipped ++ rest
  pub wholes : made.wholes.items ++ skipped ≡ with_fillers whole pieces
  pub texts : made.texts.items ++ skipped ≡ with_fillers text pieces
  pub numbers : made.numbers.items ≡ all_numbers pieces
  pub none : has ≡ false → all_values pieces ≡ []

-- A piece of n bytes becomes as many, or this many others, and then it is as a whole at its first.
abbrev pub IsCount : Option ℕ → ℕ → Piece → Type 0
IsCount None n piece = (length (filled whole piece) ≡ n) × ((at : ℕ) → byte_within piece at ≡ at)
IsCount (Some m) n piece = (length (filled whole piece) ≡ m) × ((at : ℕ) → byte_within piece at ≡ 0)

-- Whatever pieces the line is, the rest is some of them; and in what they become, a byte is this many bytes after the rest begins.
pub record IsReached (line : List ℕ) (at : ℕ) (rest : List ℕ) (rest_count : ℕ) : Type 0 where
  pub within : length rest ≤ length line
  pub reached : (pieces : List Piece) → ArePieces line pieces → (others : List Piece) × ArePieces rest others
      × (origin pieces at + length rest ≡ length line + origin others rest_count)
