-- The next document of a dump, by the length that it states.
use Rattle.std.specs.Prelude.{◌≡◌, ◌≤◌, ◌-◌, ◌&&◌, take, Ok, ℕ, ◌+◌, ◌||◌, Bool, List, [], length, drop, nat_lt, if◌then◌else◌, Option, Some, None}
use Rattle.std.specs.Option.{is_none}
use Rattle.bd_bson_check.specs.{Dump.frame_length, Dump.stated_length, FirstFault.fault_under}
use Rattle.bd_bson_check.specs.declared.profile.Profile.TheVariants.{All, Named}
use Rattle.bd_wide_copy.specs.declared.reading.Next.{Next}

-- the length that the document at the start states, if it is 5 or more and at least that many bytes are there
unfoldable pub frame_size : List ℕ → Option ℕ
frame_size bytes = if nat_lt (length bytes) 5 || nat_lt (stated_length bytes) 5 || nat_lt (length bytes) (stated_length bytes)
    then None else Some (stated_length bytes)

-- A document is at that offset, and has no fault under all types; and whether it and those before have none under the nineteen.
pub record IsNextDocument (plain : Bool) (bytes : List ℕ) (at : ℕ) (next : Next) : Type 0 where
  pub frame : frame_length (drop at bytes) ≡ Ok (Some (next.end - at))
  pub sound : fault_under All at (take (next.end - at) (drop at bytes)) ≡ None
  pub plain_is : next.plain ≡ (plain && is_none (fault_under Named at (take (next.end - at) (drop at bytes))))
  pub after : at + 5 ≤ next.end
  pub inside : next.end ≤ length bytes

-- The document at that offset; or these are all of the bytes.
abbrev pub IsNext : Bool → List ℕ → ℕ → Option Next → Type 0
IsNext plain bytes at None = drop at bytes ≡ []
IsNext plain bytes at (Some next) = IsNextDocument plain bytes at next
