use Rattle.std.proofs.Common.{List, ℕ, subst}
use Rattle.bd_extjson_text.proofs.BufferLemmas.{failed}
use Rattle.bd_wide_dump.specs.Pretty.{line_end}
use Rattle.bd_wide_dump.proofs.GoingLemmas as g
use Rattle.bd_wide_dump.proofs.pretty.append_tabs.Goals as goal

pub returns-in_err-at-2-clause-text : goal.returns-in_err-at-2-clause-text
returns-in_err-at-2-clause-text c =
    let i = c.loop-rest_count in
    let old = c.args.out.now.items in
    let whole = line_end c.args.tabs in
    failed c.args.end old c.append_few-in-loop-rest_count.new.out.items whole c.from_residual-in_err-at-2.result c.from_residual-in_err-at-2.ensures.0
    (g.stopped old c.args.end whole i.out.items c.append_few-in-loop-rest_count.new.out.items _ i.at i.invariant.going c.in_err-at-2.ensures.text)

pub loop-rest_count-preserved : goal.loop-rest_count-preserved
loop-rest_count-preserved c =
    let i = c.loop-rest_count in
    let old = c.args.out.now.items in
    let whole = line_end c.args.tabs in
    let P : List ℕ → Type 0 = λ x. g.Going old c.args.end whole i.out.items i.at x in
    let so_far = subst P (g.replicate_step i.rest_count 9 c.loop-rest_count-test.true) i.invariant.going in
    record {
      going = g.goes_on old c.args.end whole i.out.items c.append_few-in-loop-rest_count.new.out.items _ _ i.at c.in_ok-at-2.at so_far c.in_ok-at-2.ensures.text.0 c.in_ok-at-2.ensures.text.1;
      space = c.in_ok-at-2.ensures.capacity;
    }
