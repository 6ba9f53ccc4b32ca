use Rattle.bd_wide_rank.specs.Table.{collected}
use Rattle.bd_wide_copy.proofs.AddLemmas.{collected_from_none}
use Rattle.bd_wide_copy.proofs.dump.WideDump.numbers.Goals as goal

pub returns : goal.returns
returns c =
    collected_from_none c.args.self.now.bytes.items c.deref.result.now (collected c.new-numbers.result) (collected c.add_all.new.numbers) c.deref.ensures.value
    c.new-numbers.ensures c.in_ok-add_all.ensures
