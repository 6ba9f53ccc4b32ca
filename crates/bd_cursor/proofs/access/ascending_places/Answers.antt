use Rattle.std.proofs.Common.{◌≡◌, ◌∙◌, arith, length, sym}
use Rattle.std.specs.Vec.{vec_len}
use Rattle.std.proofs.lemmas.Bool.{eqb-true}
use Rattle.bd_bson_dump.specs.Collection.{documents}
use Rattle.bd_path.specs.Sort.{sort_paths}
use Rattle.bd_cursor.proofs.AccessLemmas.{ascends_unsorted, not_sorted}
use Rattle.bd_cursor.proofs.access.ascending_places.Goals as goal

pub places_in_order-requires-clause-order : goal.places_in_order-requires-clause-order
places_in_order-requires-clause-order g c =
    let sort = c.args.request.now.sort in
    let zero : vec_len sort ≡ 0 = eqb-true (vec_len sort) 0 (sym c.is_empty.ensures ∙ c.if-is_empty.true) in
    let none : length sort.items ≡ 0 = omega (arith, sort.ok.0) in
    ascends_unsorted (documents c.args.dump.now) (sort_paths sort.items) _ (not_sorted sort.items none) c.requires.ascends
