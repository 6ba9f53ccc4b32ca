-- What is made of a text in pieces.
use Rattle.std.specs.Prelude.{◌≡◌, List, [], Bool, true, false}
use Rattle.bd_wide_substitute.specs.declared.scan.Substituted.{Substituted}
use Rattle.bd_wide_substitute.specs.Substitutes.{Piece, all_numbers, all_values, text, whole, with_fillers}

-- If there are values: both texts, and the numbers in order.
abbrev pub IsMade : Bool → List Piece → Substituted → Type 0
IsMade true pieces made = (made.wholes.items ≡ with_fillers whole pieces)
    × (made.texts.items ≡ with_fillers text pieces) × (made.numbers.items ≡ all_numbers pieces)
IsMade false pieces made = all_values pieces ≡ []
