-- The double that a text means.
use Rattle.std.specs.Prelude.{ℕ, List, Option, Some, None, Result, Ok, Err, if◌then◌else◌, codes, to_bits, nat_eq}
use Rattle.std.specs.Float.{binary64, float_is_finite}
use Rattle.std.specs.Float.Ieee.{Float}
use Rattle.std.specs.Float.Parse.{parse_float}
use Rattle.std.specs.Cmp.Lexicographic.{pointwise}
use Rattle.bd_wide_read.specs.JsonNumber.{is_number}
use Rattle.bd_wide_read.specs.declared.fault.TextFault.{TextFault}
use Rattle.bd_wide_read.specs.declared.fault.TextFault.TheVariants.{BadText, OutOfRange}

-- the bits of a finite double
abbrev pub finite_bits : Option Float → Result ℕ TextFault
finite_bits None = Err BadText
finite_bits (Some x) = if float_is_finite x then Ok (to_bits binary64 x) else Err OutOfRange

-- the bits of the double that is nearest to a number of RFC 8259
abbrev pub number_bits : List ℕ → Result ℕ TextFault
number_bits text = if is_number text then finite_bits (parse_float binary64 text) else Err BadText

-- The bits of the double that the text of a `$numberDouble` means: a word, or a number.
abbrev pub double_bits : List ℕ → Result ℕ TextFault
double_bits text =
    if pointwise nat_eq text (codes "NaN") then Ok 0x7FF8_0000_0000_0000
    else (if pointwise nat_eq text (codes "Infinity") then Ok 0x7FF0_0000_0000_0000
    else (if pointwise nat_eq text (codes "-Infinity") then Ok 0xFFF0_0000_0000_0000
    else number_bits text))
