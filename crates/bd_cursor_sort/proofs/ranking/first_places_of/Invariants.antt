use Rattle.std.proofs.Common.{◌≡◌, map, take}
use Rattle.bd_cursor_sort.specs.inside.Ranking.{place_of}
use Rattle.bd_cursor_sort.proofs.ranking.first_places_of.Given as goal

abbrev pub invariant-loop-one : goal.invariant-loop-one
invariant-loop-one l = l.places.items ≡ map place_of (take l.one-index l.first)
