use Rattle.std.proofs.lemmas.Bool.{false≢true}
use Rattle.bd_cursor.proofs.cursor.Remainder.take.Goals as goal

pub returns-in_err-places-in-Scanned-clause-none : goal.returns-in_err-places-in-Scanned-clause-none
returns-in_err-places-in-Scanned-clause-none c = λ none. absurd (false≢true (c.in_err-places-in-Scanned.ensures.none (rw c.in-Scanned.is at none)))

pub returns-in_err-places-in-Listed-clause-none : goal.returns-in_err-places-in-Listed-clause-none
returns-in_err-places-in-Listed-clause-none c = λ none. absurd (false≢true (c.in_err-places-in-Listed.ensures.none (rw c.in-Listed.is at none)))
