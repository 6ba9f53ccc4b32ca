use Rattle.std.proofs.Common.{All, ℕ, List, map, take}
use Rattle.bd_index.specs.IndexView.{KeepsEntries}
use Rattle.bd_index.specs.inside.IndexView.{IsFoundIn, found_entry}
use Rattle.bd_index.proofs.index.stored_entries.Given as goal

abbrev pub invariant-loop-one : goal.invariant-loop-one
invariant-loop-one l = (bytes : List ℕ) → All (IsFoundIn bytes) l.found → KeepsEntries bytes l.entries.items (map found_entry (take l.one-index l.found))
