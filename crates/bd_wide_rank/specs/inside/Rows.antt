-- The order of numbers that no double equals.
use Rattle.std.specs.Ordering.{int_cmp}
use Rattle.std.specs.declared.cmp.Ordering.{Ordering}
use Rattle.bd_wide_rank.specs.Rows.{between_worth}
use Rattle.bd_wide_rank.specs.declared.between.Between.{Between}

-- the order of two numbers that no double equals
abbrev pub between_cmp : Between → Between → Ordering
between_cmp a b = int_cmp (between_worth a) (between_worth b)
