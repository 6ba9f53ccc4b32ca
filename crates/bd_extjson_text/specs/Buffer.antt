-- Text that is written into a buffer at an offset.
use Rattle.std.specs.Prelude.{◌≡◌, ◌≤◌, ◌++◌, ℕ, List, length, take, Result, MatchResult}

-- How `new` comes from `old`, whose first `end` bytes are text:
-- these bytes follow that text, up to the result. An error leaves the text unchanged.
abbrev pub Appends : {E : Type 0} → List ℕ → ℕ → Result ℕ E → List ℕ → List ℕ → Type 0
Appends old end result new bytes =
    MatchResult result (λ e. (take e new ≡ take end old ++ bytes) × (e ≤ length new)) (λ _. take end new ≡ take end old)
