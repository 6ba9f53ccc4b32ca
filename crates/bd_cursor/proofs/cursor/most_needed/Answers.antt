use Rattle.std.proofs.Common.{refl, arith}
use Rattle.bd_cursor.proofs.CursorLemmas.{enough}
use Rattle.bd_cursor.proofs.cursor.most_needed.Goals as goal

pub returns-then-request-eq0 : goal.returns-then-request-eq0
returns-then-request-eq0 c ps few = rw c.if-request-eq0.true refl

pub returns-else-request-eq0 : goal.returns-else-request-eq0
returns-else-request-eq0 c ps few =
    let r = c.args.request.now in
    enough r.skip r.limit c.saturating_add.result 18446744073709551615 ps c.if-request-eq0.false (omega arith) few
