use Rattle.std.proofs.Common.{◌≡◌, map, take}
use Rattle.bd_path.specs.Path.{component_names}
use Rattle.bd_path.proofs.path.named.Given as goal

abbrev pub invariant-loop-name : goal.invariant-loop-name
invariant-loop-name l = component_names l.components.items ≡ map (λ name. name.now) (take l.name-index l.names)
