use Rattle.bd_wide_query.proofs.ReadLemmas.{both_unread}
use Rattle.bd_wide_query.proofs.read.read_both.Goals as goal

pub returns-in-Err-Err : goal.returns-in-Err-Err
returns-in-Err-Err c some =
    let e = c.in-Err-Err in
    both_unread c.args.whole.now c.args.text.now e.one e.other c.first_fault.result e.ensures.none e.ensures.fault e.ensures'.none e.ensures'.fault c.first_fault.ensures some
