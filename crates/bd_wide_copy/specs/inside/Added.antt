-- Numbers that are collected, document by document.
use Rattle.std.specs.Prelude.{ℕ, ℤ, List, ◌++◌}
use Rattle.bd_value.specs.Tree.{Doc}
use Rattle.bd_bson_view.specs.Spelling.{valued}
use Rattle.bd_wide_copy.specs.{Dump.AreJoinedBy, Numbers.document_numbers}
use Rattle.bd_wide_rank.specs.{Rank.HaveSame, Worth.worth}

-- Of whatever documents the bytes are by value: their numbers were added to others.
abbrev pub AddsWorths : List ℕ → List ℤ → List ℤ → Type 0
AddsWorths bytes old new = (ds : List Doc) → AreJoinedBy (valued worth) ds bytes → HaveSame new (document_numbers ds ++ old)
