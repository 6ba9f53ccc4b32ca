-- The table of the numbers of a dump, and the copy of the dump with codes: the rank of each number in the table.
use Rattle.std.specs.Prelude.{◌≡◌, ℕ, ℤ, List}
use Rattle.bd_value.specs.Tree.{Doc}
use Rattle.bd_bson_dump.specs.Collection.{bytes_of as bytes_of_dump, documents}
use Rattle.bd_bson_dump.specs.declared.collection.Dump.{Dump}
use Rattle.bd_wide_rank.specs.{Rank.code, Worth.worth}
use Rattle.bd_wide_copy.specs.declared.longs.Longs.{Longs}
use Rattle.bd_wide_copy.specs.{Classes.classed, Copy.number_coded, Dump.AreJoinedBy, Dump.IsCopyOfDump, Dump.coded_documents}
use Rattle.bd_wide_find.specs.Find.{HasTable}

-- The table has the numbers of the documents that the bytes are by value, whatever their classes.
abbrev pub IsTableOf : List ℕ → List ℤ → Type 0
IsTableOf bytes table = (longs : Longs) (ds : List Doc) → AreJoinedBy (classed longs worth) ds bytes → HasTable longs bytes ds table

-- The dump is the copy of documents with codes.
pub record CopiesDump (longs : Longs) (bytes : List ℕ) (table : List ℤ) (copy : Dump) : Type 0 where
  pub copied : IsCopyOfDump longs worth (code table) bytes (bytes_of_dump copy)
  pub documents_are : (ds : List Doc) → AreJoinedBy (classed longs worth) ds bytes → documents copy ≡ coded_documents (number_coded (code table)) ds
