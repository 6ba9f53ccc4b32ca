-- The options of `find`.
use Rattle.std.specs.Prelude.{ℕ, List, Option}

-- the options of `find` as they are given, no text read yet:
-- None if an option is absent, and 0 for `skip` and `limit`
pub record FindOptions : Type 0 where
  pub query : Option (List ℕ)
  pub sort : Option (List ℕ)
  pub skip : ℕ
  pub limit : ℕ
  pub batch : Option ℕ
  pub index : Option (List ℕ)
  pub after : Option (List ℕ)
