use Rattle.bd_wide_rank.specs.Table.{collected}
use Rattle.bd_wide_copy.proofs.AddLemmas.{collected_on, all_collected}
use Rattle.bd_wide_copy.proofs.copies.add_all.Goals as goal

pub loop-size-preserved : goal.loop-size-preserved
loop-size-preserved c =
    let l = c.loop-size in
    let e = c.in_ok-add_document.ensures in
    collected_on c.args.bytes.now l.rest.now c.split_at.result.0.now c.split_at.result.1.now (collected c.args.numbers.now) (collected l.numbers)
    (collected c.add_document.new.numbers) c.add_document.new.all.items c.in-Some.size l.invariant c.in-Some.ensures.gives c.split_at.ensures.front c.split_at.ensures.back e.0 e.1

pub returns : goal.returns
returns c =
    all_collected c.args.bytes.now c.loop-size.rest.now (collected c.args.numbers.now) (collected c.loop-size.numbers) c.loop-size.invariant c.in_default.ensures.gives
