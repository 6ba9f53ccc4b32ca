-- The document numbers that remain in the walk of an index.
use Rattle.std.specs.Prelude.{ℕ, List}
use Rattle.bd_index.specs.{Walk.fresh_places, Walk.places_ahead, declared.walk.Walk.Walk}

-- the document numbers that a walk has yet to return, in its order, each once
abbrev pub walk_remaining : Walk → List ℕ
walk_remaining w = fresh_places w.visited.items (places_ahead w.order)
