use Rattle.bd_wide.specs.Rewritten.{IsRewritten}
use Rattle.bd_wide_copy.specs.Copy.{IsCodeIn, IsCopy}
use Rattle.bd_wide_copy.proofs.ClassLemmas.{copied}
use Rattle.bd_wide_copy.proofs.CopyLemmas.{ok_copied}
use Rattle.bd_wide_copy.proofs.copy.write_copy.Goals as goal

pub returns-clause-ok : goal.returns-clause-ok
returns-clause-ok g c =
    let worth = g.C.Codes.worth_of c.args.codes.now in
    let code = g.C.Codes.code_of c.args.codes.now in
    ok_copied c.write_rewritten.result (IsRewritten (IsCodeIn c.args.longs worth code) c.args.document.now) (IsCopy c.args.longs worth code c.args.document.now)
    c.args.out.now.items c.write_rewritten.new.out.items (λ new h. copied c.args.longs worth code c.requires c.args.document.now new h) c.write_rewritten.ensures.ok
