-- Why a call is refused, as a message and as a number.
use Rattle.std.specs.Prelude.{◌≡◌, ◌⊎◌}
use Rattle.bd_cursor_request.specs.{declared.results.Refused.Refused}
use Rattle.bd_cursor_request.specs.declared.results.Refused.TheVariants as reasons

-- It is refused for this reason, and `Holds` is true; or memory ran out.
abbrev pub IsRefusedAs : Refused → Refused → Type 0 → Type 0
IsRefusedAs refused reason Holds = (refused ≡ reasons.NoMemory) ⊎ ((refused ≡ reason) × Holds)
