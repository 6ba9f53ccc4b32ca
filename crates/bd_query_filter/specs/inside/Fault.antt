-- Why a document is not a filter: which rule a pair or a member breaks,
-- and its path of names and positions from the top.
use Rattle.std.specs.Prelude.{◌≡◌, Result, Ok, Err}
use Rattle.bd_query_filter.specs.declared.fault.{Stop.Stop}
use Rattle.bd_query_filter.specs.declared.fault.Stop.TheVariants as stops
use Rattle.bd_query_filter.specs.Fault.{Refusal, refusal_of}

-- Reading stopped at this refusal, or memory ran out.
abbrev pub ReportsMisfit : Stop → Refusal → Type 0
ReportsMisfit stops.NoMemory r = Unit {0}
ReportsMisfit (stops.Fault f) r = r ≡ refusal_of f

-- This part of a filter is refused, and reading stopped at that refusal; or memory ran out.
abbrev pub StopsAt : {B : Type 0} → Stop → Result B Refusal → Type 0
StopsAt stops.NoMemory part = Unit {0}
StopsAt (stops.Fault f) part = part ≡ Err (refusal_of f)

-- This part of a filter is what was read; or it is refused, and reading stopped there, or memory ran out.
abbrev pub ReadsPart : {A B : Type 0} → (A → B) → Result A Stop → Result B Refusal → Type 0
ReadsPart view (Ok x) part = part ≡ Ok (view x)
ReadsPart view (Err stop) part = StopsAt stop part
