use Rattle.std.proofs.Common.{◌≡◌, ◌<◌, ℕ, slice_index_or}
use Rattle.bd_cursor.specs.declared.cursor.Cursor.{Cursor}
use Rattle.bd_cursor.proofs.cursor.place_of.Given as goal

abbrev pub invariant-loop-i : goal.invariant-loop-i
invariant-loop-i l = (k : ℕ) (d : Cursor) → k < l.i → (slice_index_or l.cursors k d).id ≡ l.id → ⊥
