-- One code for all numbers of a dump: by their rank among the numbers of a table.
use Rattle.std.specs.Prelude.{ℤ, List, true}
use Rattle.bd_wide_rank.specs.Rank.{code, is_among}
use Rattle.bd_wide_order.specs.Renumber.{Codes}

-- at every path the code of a number among the worths of a table, for documents whose numbers are all in the table; types stay
abbrev pub table_codes : List ℤ → Codes
table_codes table path = record { becomes = code table; occurs = is_among table; narrow = true }
