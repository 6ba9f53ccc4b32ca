-- The numbers of a table, and the numbers on the way to one, by their worths.
use Rattle.std.specs.Prelude.{ℤ, List, ◌++◌}
use Rattle.bd_wide_rank.specs.declared.numbers.Numbers.{Numbers}
use Rattle.bd_wide_rank.specs.declared.table.Table.{Table}
use Rattle.bd_wide_rank.specs.{Key.key_worths, Rows.between_worths}

-- the worths of the numbers of a table: first of those that are doubles
unfoldable pub worths : Table → List ℤ
worths table = key_worths table.doubles.keys.items ++ between_worths table.others.numbers.items

-- the worths of the numbers that were added, perhaps not as often
unfoldable pub collected : Numbers → List ℤ
collected numbers = key_worths numbers.doubles.keys.items ++ between_worths numbers.others.numbers.items
