use Rattle.bd_index.proofs.EntryLemmas.{one_entry}
use Rattle.bd_index.proofs.index.stored_entries.Goals as goal

pub loop-one-preserved : goal.loop-one-preserved
loop-one-preserved c bytes all =
    one_entry bytes c.loop-one.entries.items c.push.new.self.items c.args.found.now c.loop-one.one-index c.one-item.result c.at-key.result
    c.loop-one-test.true c.one-item.is all c.at-key.ensures.meaning c.in_ok-push.ensures.items (c.loop-one.invariant bytes all)
