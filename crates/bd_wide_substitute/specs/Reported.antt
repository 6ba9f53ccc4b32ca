-- What is wrong with a line, by what is wrong with a text in which its numbers have other values: a value that is not in the
-- profile of nineteen types may be a number, a date or a UUID that stayed.
use Rattle.std.specs.Prelude.{◌≡◌, ℕ, ◌==◌, ◌||◌, List, [], ◌∷◌, Bool, true, false, Option, Some, None, Result, Ok, Err}
use Rattle.std.specs.Char.{is_ascii_digit}
use Rattle.bd_extjson_fault.specs.declared.json_fault.JsonFaultKind.{JsonFaultKind}
use Rattle.bd_extjson_fault.specs.declared.json_fault.JsonFaultKind.TheVariants as kinds
use Rattle.bd_wide_read.specs.declared.fault.TextFault.{TextFault}
use Rattle.bd_wide_read.specs.declared.fault.TextFault.TheVariants as texts
use Rattle.bd_wide_substitute.specs.Substitutes.{IsMeant, Wrapper, wrapper_at}
use Rattle.bd_wide_substitute.specs.declared.wrapped.WideValue.{WideValue}

-- what is wrong with a wrapper whose contents have this meaning
abbrev pub kind_of_meaning : Result WideValue TextFault → JsonFaultKind
kind_of_meaning (Ok v) = kinds.NotInProfile
kind_of_meaning (Err texts.BadText) = kinds.BadWrapper
kind_of_meaning (Err texts.OutOfRange) = kinds.NumberRange

-- A wrapper of a value that is not only that is bad; else its contents decide. What is no such wrapper is not in the profile.
abbrev pub IsKindBy : Option Wrapper → JsonFaultKind → Type 0
IsKindBy None kind = kind ≡ kinds.NotInProfile
IsKindBy (Some (type, None)) kind = kind ≡ kinds.BadWrapper
IsKindBy (Some (type, Some (contents, rest))) kind =
    (meaning : Result WideValue TextFault) × IsMeant type contents meaning × (kind ≡ kind_of_meaning meaning)

-- the same for the wrapper that bytes begin with
abbrev pub IsKindOfWrapper : List ℕ → JsonFaultKind → Type 0
IsKindOfWrapper bytes kind = IsKindBy (wrapper_at bytes) kind

-- whether a number without a wrapper begins here
abbrev pub begins_number : List ℕ → Bool
begins_number [] = false
begins_number (c ∷ cs) = c == 45 || is_ascii_digit c

-- A number without a wrapper that stayed is out of range.
abbrev pub IsKindHere : List ℕ → JsonFaultKind → Type 0
IsKindHere bytes kind = (begins_number bytes ≡ true → kind ≡ kinds.NumberRange)
    × (begins_number bytes ≡ false → IsKindOfWrapper bytes kind)

-- The fault of a text at these bytes of the line is reported as this.
abbrev pub IsReported : List ℕ → JsonFaultKind → JsonFaultKind → Type 0
IsReported bytes kinds.NotInProfile kind = IsKindHere bytes kind
IsReported bytes stays kind = kind ≡ stays
