use Rattle.std.proofs.Common.{sym, subst, ◌+◌}
use Rattle.bd_wide_dump.specs.inside.Tokens.{Reaches}
use Rattle.bd_wide_dump.specs.declared.pretty.Position.{Position}
use Rattle.bd_wide_dump.proofs.PrettyLemmas.{reach_run}
use Rattle.bd_wide_dump.proofs.pretty.next_stop.Goals as goal

pub returns-in-Inside-clause-reaches : goal.returns-in-Inside-clause-reaches
returns-in-Inside-clause-reaches c = λ so_far.
    let text = c.args.text.now in
    let run = c.plain_length.ensures in
    let there = reach_run text _ c.args.passed c.plain_length.result c.split_at.ensures.back run.within run.plain (subst (λ (p : Position). Reaches text c.args.passed p) c.in-Inside.is so_far) in
    subst (λ (p : Position). Reaches text (c.args.passed + c.plain_length.result) p) (sym c.in-Inside.is) there
