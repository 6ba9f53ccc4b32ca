-- A path walk: where it stops, what it finds there, and from which positions of the path a value was visited before.
use Rattle.std.specs.Prelude.{◌≡◌, ℕ, suc, List, [], ◌∷◌, drop, Bool, true, false, Some, slice_get}
use Rattle.std.specs.Prelude.{slice_index_or}
use Rattle.std.specs.List.{list_any}
use Rattle.bd_value.specs.Tree.{Tree}
use Rattle.bd_path.specs.Reach.{Collecting, Names, collecting, bounded_index}
use Rattle.bd_path.specs.declared.path_walk.{Positions.Positions, Step.Step, Stop.Stop, Visits.Visits}
use Rattle.bd_path.specs.declared.path_walk.Step.TheVariants.{Field, Element}
use Rattle.bd_path.specs.declared.path_walk.Stop.TheVariants.{Value, Missing, NoBranch}
use Rattle.bd_path.specs.declared.path_walk.Visits.TheVariants.{Nowhere, From}

-- whether position k is among these positions of a path; 0 is before the first name
abbrev pub is_open : Positions → ℕ → Bool
is_open p k = slice_index_or p.are_open k false

-- The step goes along this name of a path: to a field of that name, or to the element of that index.
abbrev pub Takes : Step → List ℕ → Type 0
Takes (Field s) name = name ≡ s.now
Takes (Element i) name = bounded_index name ≡ Some i

-- whether the path walk visited the value from position k of the path
abbrev pub is_visited : Visits → ℕ → Bool
is_visited Nowhere k = false
is_visited (From p) k = is_open p k

-- The path walk visited the value from position k of the path.
abbrev pub IsVisited : Visits → ℕ → Type 0
IsVisited w k = is_visited w k ≡ true

-- The path walk visited a value from position k of the path, and the step goes along the name there.
pub record Leads (step : Step) (path : Names) (w : Visits) (k : ℕ) : Type 0 where
  pub name : List ℕ
  pub here : IsVisited w k
  pub is_there : slice_get path k ≡ Some name
  pub takes : Takes step name

-- Position k comes after one from which the step leads.
pub record LedTo (step : Step) (path : Names) (w : Visits) (k : ℕ) : Type 0 where
  pub before : ℕ
  pub after : k ≡ suc before
  pub led : Leads step path w before

-- Nothing that passes the test is collected below the value on the rest of the path,
-- from any position from which the value was visited.
abbrev pub CollectsNone : {A : Type 0} → (A → Bool) → Collecting A → Tree → Names → Visits → Type 0
CollectsNone test g t path w = (k : ℕ) → IsVisited w k → list_any test (collecting g t (drop k path)) ≡ false

-- the stops of a path walk, in order: a value, a missing field,
-- or an array below which the path reaches nothing
abbrev pub Stops : Type 0
Stops = List (Stop Tree)

-- the stops below an array; if there are none, the array itself is one
abbrev pub or_stop : Stops → Stops
or_stop [] = NoBranch ∷ []
or_stop (s ∷ ss) = s ∷ ss

-- collects each stop of a path walk
abbrev pub stopping : Collecting (Stop Tree)
stopping = record { at_end = λ t. Value t ∷ []; missing = Missing ∷ []; of_array = or_stop }

-- where a path walk stops, in stored order;
-- unlike `reach` it also names an array below which nothing is reached
abbrev pub stops : Tree → Names → Stops
stops t path = collecting stopping t path
