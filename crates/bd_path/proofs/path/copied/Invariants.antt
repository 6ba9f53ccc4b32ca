use Rattle.std.proofs.Common.{◌≡◌, take}
use Rattle.bd_path.specs.Path.{component_names}
use Rattle.bd_path.proofs.path.copied.Given as goal

abbrev pub invariant-loop-component : goal.invariant-loop-component
invariant-loop-component l = component_names l.copies.items ≡ component_names (take l.component-index l.components)
