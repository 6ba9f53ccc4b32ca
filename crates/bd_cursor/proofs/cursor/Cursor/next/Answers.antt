use Rattle.std.proofs.lemmas.Bool.{false≢true}
use Rattle.bd_cursor.proofs.cursor.Cursor.next.Goals as goal

pub returns-in_err-places-clause-none : goal.returns-in_err-places-clause-none
returns-in_err-places-clause-none c = λ none. absurd (false≢true (c.in_err-places.ensures.none none))
