-- The worths of numbers that no double equals.
use Rattle.std.specs.Prelude.{ℤ, List, map}
use Rattle.bd_wide_rank.specs.Worth.{worth_of}
use Rattle.bd_wide_rank.specs.declared.between.Between.{Between}

-- the worth of a number that no double equals
abbrev pub between_worth : Between → ℤ
between_worth b = worth_of b.number

-- the worths of numbers that no double equals
abbrev pub between_worths : List Between → List ℤ
between_worths bs = map between_worth bs
