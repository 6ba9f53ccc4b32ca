use Rattle.std.proofs.Common.{◌≡◌, false, drop}
use Rattle.bd_bson_view.specs.Sound.{meaning}
use Rattle.bd_path.specs.{Key.all_keys, PathNames.names_of}
use Rattle.bd_cursor_sort.proofs.sort_key.plain_key.Given as goal

-- the keys of the rest of the path
abbrev pub invariant-loop-i : goal.invariant-loop-i
invariant-loop-i l = all_keys false (meaning l.document.sound) (names_of l.path) ≡ all_keys false (meaning l.value.sound) (drop l.i (names_of l.path))
