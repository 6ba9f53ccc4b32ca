-- Which values are read back from their canonical text.
use Rattle.std.specs.Prelude.{◌≡◌, ◌≤◌, ℕ, false}
use Rattle.bd_value.specs.{Tree.depth, Fits.Fits, Tree.Tree}
use Rattle.bd_value.specs.{Fits.zero_in}
use Rattle.bd_extjson.specs.{Laws.IsPlain}

-- A value of at most `depth_left` levels that is read back from its canonical text:
-- it fits, its text is that of no other value, and no `cstring` contains a zero.
pub record IsCanonical (depth_left : ℕ) (t : Tree) : Type 0 where
  pub fits : Fits t
  pub determined : IsPlain t
  pub no_zero : zero_in t ≡ false
  pub shallow : depth t ≤ depth_left
