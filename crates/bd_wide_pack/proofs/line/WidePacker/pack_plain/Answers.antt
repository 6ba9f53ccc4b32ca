use Rattle.std.proofs.Common.{◌∙◌, ap, Ok}
use Rattle.bd_wide_pack.proofs.LineLemmas.{plain_bad, plain_packed}
use Rattle.bd_wide_pack.proofs.line.WidePacker.pack_plain.Goals as goal

pub returns-in-Some-clause-bad : goal.returns-in-Some-clause-bad
returns-in-Some-clause-bad c =
    let is = c.in_ok-fault.was ∙ ap (λ o. Ok o) c.in-Some.is in
    let h = plain_bad c.args.line.now c.requires.0 c.requires.1 c.requires.2 c.pack_line.result c.in-Some.fault c.reported.result is c.pack_line.ensures.bad c.reported.ensures in
    (h.0, let same = h.1 in cc)

pub returns-in-None-clause-packed : goal.returns-in-None-clause-packed
returns-in-None-clause-packed c done =
    plain_packed c.args.line.now c.requires.0 c.requires.1 c.requires.2 c.pack_line.result c.args.out.now.items c.pack_line.new.out.items
    c.packs_documents.ensures.spelled (c.in_ok-fault.was ∙ ap (λ o. Ok o) c.in-None.is) c.pack_line.ensures.packed
