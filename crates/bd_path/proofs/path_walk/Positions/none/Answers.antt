use Rattle.std.proofs.Common.{◌≡◌, ℕ, zero, suc, false, get_or, replicate, refl}
use Rattle.bd_path.proofs.path_walk.Positions.none.Goals as goal

closed : (n k : ℕ) → get_or (replicate n false) k false ≡ false
closed zero k = refl
closed (suc n) zero = refl
closed (suc n) (suc k) = closed n k

pub returns : goal.returns
returns c = λ k. closed 101 k
