-- Objects inside a wrapper.
use Rattle.std.proofs.Common.{◌≡◌, ◌≢◌, ℕ, List, [], ◌∷◌, length, None, refl}
use Rattle.std.specs.Borrow.{Bor}
use Rattle.json.specs.Value.{members_view}
use Rattle.json.specs.declared.value.Value.{Value}
use Rattle.bd_extjson_wrapper.specs.Wrapper.{only_member, pair_members}

pub not_one : {A : Type 0} (ms : List (Bor (List ℕ) × Value A)) (name : List ℕ) → length ms ≢ 1 → None ≡ only_member name (members_view ms)
not_one (m ∷ []) name h = absurd (h refl)
not_one _ name h = refl

pub not_two : {A : Type 0} (ms : List (Bor (List ℕ) × Value A)) (a b : List ℕ) → length ms ≢ 2 → None ≡ pair_members a b (members_view ms)
not_two (m ∷ n ∷ []) a b h = absurd (h refl)
not_two _ a b h = refl
