use Rattle.std.proofs.Common.{rules}
use Rattle.bd_cursor_request.proofs.TokenLemmas.{token_parted}
use Rattle.bd_cursor_request.proofs.token.token_in.Goals as goal

pub returns : goal.returns
returns c =
    let a = c.in_ok-given.ensures.cases in
    let b = c.in_ok-last.ensures.cases in
    let d = c.in_ok-digest.ensures.cases in
    token_parted c.args.bytes.now c.in_ok-version.rest.now c.in_ok-given.rest.now c.in_ok-last.rest.now c.in_ok-given.given.now c.in_ok-last.last.now
    c.in_ok-digest.digest.now c.in_ok-version.version.now c.from_le_bytes.result c.from_le_bytes-2.result
    (search rules) (search rules) (record { part = a.0; remaining = a.1; size = a.2 }) (record { part = b.0; remaining = b.1; size = b.2 }) d.0 (search rules) c.from_le_bytes.ensures c.from_le_bytes-2.ensures
