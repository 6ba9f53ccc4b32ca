-- A path walk: where it stops, what it finds there, and from which positions of the path a value was visited before.
use Rattle.std.specs.Prelude.{◌≡◌, ℕ, List, [], ◌∷◌, ◌++◌, Bool, true, false, Some, None}
use Rattle.std.specs.List.{list_any}
use Rattle.bd_value.specs.Tree.{Tree}
use Rattle.bd_path.specs.Reach.{End, Names, index_collecting}
use Rattle.bd_path.specs.declared.path_walk.{Positions.Positions, Stop.Stop}
use Rattle.bd_path.specs.declared.path_walk.Stop.TheVariants.{Value, Missing, NoBranch}
use Rattle.bd_path.specs.PathWalk.{is_open, Stops, or_stop, stopping}

-- Position k is among these positions of a path.
abbrev pub IsOpen : Positions → ℕ → Type 0
IsOpen p k = is_open p k ≡ true

-- a stop in memory, with the value of its node
abbrev pub stop_tree : {N : Type 0} → (N → Tree) → Stop N → Stop Tree
stop_tree tree (Value n) = Value (tree n)
stop_tree tree Missing = Missing
stop_tree tree NoBranch = NoBranch

-- If the stop is at a value, that is in these bytes.
abbrev pub IsStopOf : {N : Type 0} → (N → List ℕ) → List ℕ → Stop N → Type 0
IsStopOf source bytes (Value n) = source n ≡ bytes
IsStopOf source bytes _ = Unit {0}

-- the stops below an array that come after those in its documents; the Boolean says whether there were such
abbrev pub later_stops : Bool → Tree → Names → Stops
later_stops true t path = index_collecting stopping t path
later_stops false t path = or_stop (index_collecting stopping t path)

-- whether the end of a path at a stop passes a test
abbrev pub is_passed : (End → Bool) → Stop Tree → Bool
is_passed test (Value t) = test (Some t)
is_passed test Missing = test None
is_passed test NoBranch = false

-- What was found now accounts for these stops too: none of them would change it again, nor any that did not before.
pub record TakesStops {F : Type 0} (amounts : F → List ℕ → Stops → Type 0) (is_new : F → Stop Tree → Bool)
    (bytes : List ℕ) (before after : F) (more : Stops) : Type 0 where
  pub adds : (ss : Stops) → amounts before bytes ss → amounts after bytes (ss ++ more)
  pub none_new : list_any (is_new after) more ≡ false
  pub still : (s : Stop Tree) → is_new before s ≡ false → is_new after s ≡ false

-- The stops were processed, or the path walk ended at one of them.
abbrev pub TakesOrEnds : {F : Type 0} → (F → List ℕ → Stops → Type 0) → (F → Stop Tree → Bool) → (Stop Tree → Bool) →
    Bool → List ℕ → F → F → Stops → Type 0
TakesOrEnds amounts is_new ends true bytes before after more = TakesStops amounts is_new bytes before after more
TakesOrEnds amounts is_new ends false bytes before after more = list_any ends more ≡ true

-- A stop that would change nothing need not be processed.
abbrev pub KeepsKnown : {F : Type 0} → (F → List ℕ → Stops → Type 0) → (F → Stop Tree → Bool) → Type 0
KeepsKnown {F} amounts is_new = (found : F) (bytes : List ℕ) (ss : Stops) (s : Stop Tree) → is_new found s ≡ false →
    amounts found bytes ss → amounts found bytes (ss ++ s ∷ [])
