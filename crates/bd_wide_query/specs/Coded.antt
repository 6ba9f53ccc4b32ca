-- The document of a query by value, and with codes in place of values.
use Rattle.std.specs.Prelude.{ℤ, List, true, false}
use Rattle.bd_value.specs.Tree.{Doc}
use Rattle.bd_wide_number.specs.declared.number.Number.{Number}
use Rattle.bd_wide_rank.specs.Worth.{worth_of}
use Rattle.bd_wide_order.specs.Renumber.{Codes}
use Rattle.bd_wide_order.specs.Ranks.{table_codes}
use Rattle.bd_wide_order.specs.Query.{renumber_query, rewrite_query}
use Rattle.bd_wide_copy.specs.declared.longs.Longs.{Longs}
use Rattle.bd_wide_query.specs.Tagged.{tagged_document, tagged_number}
use Rattle.bd_wide_query.specs.Types.{types_by_class}

-- at every path the worth of each number
abbrev pub worths_of_tags : Codes
worths_of_tags path = record { becomes = λ z. worth_of (tagged_number z); occurs = λ z. true; narrow = false }

-- the document of a query by value: an int64 of its worth in place of each number that it compares with, and in place of each type of
-- numbers in a `$type` the name of its class
abbrev pub valued_query : Longs → List Number → Doc → Doc → Doc
valued_query longs numbers wholes texts = rewrite_query (types_by_class longs) worths_of_tags (tagged_document numbers wholes texts)

-- the document of a query with the code of each number that it compares with, among the worths of a table
abbrev pub coded_query : List ℤ → Longs → List Number → Doc → Doc → Doc
coded_query table longs numbers wholes texts = renumber_query (table_codes table) (valued_query longs numbers wholes texts)
