use Rattle.std.proofs.Common.{refl}
use Rattle.bd_extjson.proofs.ReadLemmas.{no_text}
use Rattle.bd_extjson_pack.proofs.line.Packer.pack_line.Goals as goal

pub returns-in-Err-clause-bad : goal.returns-in-Err-clause-bad
returns-in-Err-clause-bad c =
    let none = no_text c.args.line.now c.in-Err.ensures.bad in
    (((λ d reads. cc (none, reads)), c.in-Err.ensures.is), refl)
