use Rattle.std.proofs.Common.{ℕ, List, ap, arith, length, length-append}
use Rattle.std.proofs.lemmas.List.{length-take}
use Rattle.bd_cursor.specs.inside.SessionView.{scan_remaining_in}
use Rattle.bd_cursor.proofs.cursor.ScanPosition.take.Goals as goal

pub returns-in_err-push-in-Some-clause-none : goal.returns-in_err-push-in-Some-clause-none
returns-in_err-push-in-Some-clause-none c = λ none.
    let l = c.loop-self in
    let remaining = scan_remaining_in c.args.dump.now c.args.filter.now in
    absurd (omega (
      arith,
      ap (λ (ps : List ℕ). length ps) none,
      length-take c.args.n (remaining c.args.self.now),
      ap (λ (ps : List ℕ). length ps) l.invariant.whole,
      length-append l.places.items (remaining l.self),
      ap (λ (ps : List ℕ). length ps) c.in-Some.ensures,
    ))
