-- A fault: which check failed first, at which byte, and the names from the top to the item.
use Rattle.std.specs.Prelude.{◌≡◌, ℕ, map, reverse, Result, Ok, Err}
use Rattle.std.specs.Prelude.{string_bytes, MatchResult}
use Rattle.bd_bson_check.specs.declared.fault.{Fault.Fault as FaultInMemory, Finding.Finding, Stop.Stop}
use Rattle.bd_bson_check.specs.Fault.{Fault, HasNames, IsFault, IsWantOfMemory}

-- the fault that a reader found, whose path is from the item up
abbrev pub found_fault : Finding → Fault
found_fault f = record { kind = f.kind; offset = f.offset; path = reverse (map string_bytes f.path.items) }

-- A reader stopped at this fault, or memory ran out for its path.
abbrev pub ReportsStop : Stop → Fault → Type 0
ReportsStop Stop.NoMemory f = HasNames f.path
ReportsStop (Stop.Found g) f = f ≡ found_fault g

-- A reader stopped at the fault that the item has, or memory ran out for the path of that fault.
abbrev pub FailsAtItem : {Y : Type 0} → Stop → Result Y Fault → Type 0
FailsAtItem Stop.NoMemory (Ok y) = ⊥
FailsAtItem Stop.NoMemory (Err f) = HasNames f.path
FailsAtItem (Stop.Found f) given = given ≡ Err (found_fault f)

-- the view of a reader's answer is what the definition gives for the item,
-- its value or its fault; or memory ran out for the path of the fault
abbrev pub GivesItem : {X Y : Type 0} → (X → Y) → Result X Stop → Result Y Fault → Type 0
GivesItem view answer given = MatchResult answer (λ x. given ≡ Ok (view x)) (λ e. FailsAtItem e given)

-- The fault in memory is the one at which a reader stopped, of the document with that number;
-- or it says that memory ran out.
abbrev pub IsOf : Stop → ℕ → FaultInMemory → Type 0
IsOf Stop.NoMemory number e = IsWantOfMemory e
IsOf (Stop.Found g) number e = IsFault number (found_fault g) e
