use Rattle.std.proofs.Common.{◌≡◌, drop}
use Rattle.bd_path.specs.Path.{component_names}
use Rattle.bd_index_bounds.specs.Bounds.{rest_after}
use Rattle.bd_index_bounds.proofs.filter_bounds.rest_after.Given as goal

-- the rest of both paths decides
abbrev pub invariant-loop-component : goal.invariant-loop-component
invariant-loop-component l = rest_after (component_names (drop l.component-index l.start)) (component_names l.remaining) ≡ rest_after (component_names l.start) (component_names l.fn.path)
