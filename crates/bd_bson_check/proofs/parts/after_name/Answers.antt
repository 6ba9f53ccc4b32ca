use Rattle.std.proofs.Common.{sym}
use Rattle.bd_bson_check.proofs.CheckingLemmas.{named}
use Rattle.bd_bson_check.proofs.parts.after_name.Goals as goal

pub returns : goal.returns
returns c =
    let name = named c.args.bytes.now c.in_ok-k.k (sym c.in_ok-k.ensures) c.if-bytes-k-ne0.false in
    (c.in_ok-k.k, name.0, name.1, name.2, c.split_at.ensures.back)
