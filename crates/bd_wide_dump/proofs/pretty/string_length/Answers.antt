use Rattle.std.proofs.Common.{sym, subst, ◌+◌, arith}
use Rattle.bd_wide_dump.specs.inside.Tokens.{Reaches}
use Rattle.bd_wide_dump.specs.declared.pretty.Position.{Position}
use Rattle.bd_wide_dump.proofs.PrettyLemmas.{in_string, reach_start, reach_step}
use Rattle.bd_wide_dump.proofs.pretty.string_length.Goals as goal

pub loop-passed-init : goal.loop-passed-init
loop-passed-init c = record {
  within = omega (arith, c.next_stop-passed.ensures.within);
  inside = tt;
  reaches = c.next_stop-passed.ensures.reaches (reach_start c.args.text.now);
}

pub loop-passed-preserved : goal.loop-passed-preserved
loop-passed-preserved c =
    let i = c.loop-passed in
    let text = c.args.text.now in
    let step = reach_step text i.passed i.position i.invariant.inside c.loop-passed-test.true i.invariant.reaches in
    record {
      within = omega (arith, c.next_stop-passed-in-loop-passed.ensures.within);
      inside = in_string _ c.in_default.not-Outside;
      reaches = c.next_stop-passed-in-loop-passed.ensures.reaches (subst (λ (p : Position). Reaches text (i.passed + 1) p) (sym c.next_place-position.ensures) step);
    }
