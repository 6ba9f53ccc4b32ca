use Rattle.std.proofs.Common.{◌≡◌, map, take}
use Rattle.bd_value.specs.View.{tree_of}
use Rattle.bd_path.specs.Key.{key_tree}
use Rattle.bd_path.proofs.key.keys.Given as goal

abbrev pub invariant-loop-key : goal.invariant-loop-key
invariant-loop-key g l = map tree_of l.values.items ≡ map (key_tree g.N.Reading.tree) (take l.key-index l.key-items)
