-- The copies of documents in turn.
use Rattle.std.specs.Prelude.{◌≤◌, ℕ, ℤ, List, length}
use Rattle.bd_value.specs.Tree.{Doc}
use Rattle.bd_bson_view.specs.declared.raw_parts.ElementType.{ElementType}
use Rattle.bd_bson_check.specs.Dump.{AreJoined}
use Rattle.bd_wide_copy.specs.{Classes.classed, Copy.number_coded, Dump.AreJoinedBy, Dump.coded_documents}
use Rattle.bd_wide_copy.specs.declared.longs.Longs.{Longs}

-- Of whatever documents the bytes are by value and class: these are the bytes of the documents with codes, in the same order, and no
-- longer.
abbrev pub AreCopies : Longs → (ElementType → List ℕ → ℤ) → (ℤ → ℤ) → List ℕ → List ℕ → Type 0
AreCopies longs worth code bytes new = (ds : List Doc) → AreJoinedBy (classed longs worth) ds bytes
    → AreJoined (coded_documents (number_coded code) ds) new × (length new ≤ length bytes)
