use Rattle.std.proofs.Common.{ℕ, List, ap, arith, drop, length, length-drop}
use Rattle.std.proofs.lemmas.{Bool.false≢true, List.length-take}
use Rattle.bd_cursor.proofs.access.PlaceList.take.Goals as goal

pub returns-in_err-given-clause-none : goal.returns-in_err-given-clause-none
returns-in_err-given-clause-none c = λ none.
    let list = c.self.inside in
    let here = rw (← c.self.view_is) at none in
    absurd (false≢true (c.in_err-given.ensures.succeeds (omega (
      arith,
      ap (λ (ps : List ℕ). length ps) here,
      length-take c.args.n (drop list.at list.places.items),
      length-drop list.at list.places.items,
      list.places.ok.0,
    ))))

pub returns-in_err-extend_from_slice-clause-none : goal.returns-in_err-extend_from_slice-clause-none
returns-in_err-extend_from_slice-clause-none c = λ none. absurd (omega (arith, c.in_err-extend_from_slice.ensures.full, c.in_ok-given.ensures.len, c.in_ok-given.ensures.exact))
