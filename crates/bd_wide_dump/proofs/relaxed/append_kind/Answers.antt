use Rattle.std.proofs.Common.{sym, subst}
use Rattle.std.specs.Prelude.{IfOk}
use Rattle.bd_wide_dump.specs.WideText.{IsKindText}
use Rattle.bd_wide_dump.specs.declared.format.JsonFormat.{JsonFormat}
use Rattle.bd_wide_dump.specs.inside.Begins.{AppendsBy}
use Rattle.bd_wide_dump.proofs.relaxed.append_kind.Goals as goal

pub returns-in-Relaxed-clause-text : goal.returns-in-Relaxed-clause-text
returns-in-Relaxed-clause-text c s e =
    let P : JsonFormat → Type 0 = λ f. IfOk c.append_relaxed.result (λ at. AppendsBy (λ text. IsKindText f s text) c.args.out.now.items c.args.end at c.append_relaxed.new.out.items) in
    subst P (sym c.in-Relaxed.is) (c.append_relaxed.ensures.text s e)
