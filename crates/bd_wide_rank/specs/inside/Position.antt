-- Where numbers are beside the doubles.
use Rattle.std.specs.Prelude.{ℤ}
use Rattle.bd_wide_rank.specs.Worth.{worth_of}
use Rattle.bd_wide_rank.specs.declared.position.Position.{Position}
use Rattle.bd_wide_rank.specs.declared.position.Position.TheVariants as positions
use Rattle.bd_wide_rank.specs.Key.{key_worth}
use Rattle.bd_wide_rank.specs.inside.Key.{IsKey}

-- the worth of a number by its position
abbrev pub position_worth : Position → ℤ
position_worth (positions.Double key) = key_worth key
position_worth (positions.Between between) = worth_of between.number

-- If it is a double, it is by its key.
abbrev pub IsPosition : Position → Type 0
IsPosition (positions.Double key) = IsKey key
IsPosition (positions.Between between) = Unit {0}
