use Rattle.bd_wide_rank.specs.Table.{worths}
use Rattle.bd_wide_copy.specs.Dump.{bytes_of}
use Rattle.bd_wide_find.proofs.coded.coded_copy.Goals as goal
use Rattle.bd_wide_find.proofs.CodedLemmas.{copies_dump, copy_is_dump}

pub index_dump-requires : goal.index_dump-requires
index_dump-requires c =
    let (x, copied, added) = c.in_ok-write_copy.ensures.ok in
    copy_is_dump c.args.longs (bytes_of c.args.dump.now) (worths c.args.table.now) _ _ x c.requires copied added c.new-bytes.ensures.items

pub returns : goal.returns
returns c =
    let (x, copied, added) = c.in_ok-write_copy.ensures.ok in
    copies_dump c.args.longs (bytes_of c.args.dump.now) (worths c.args.table.now) c.in_ok-copy.copy _ _ x copied added c.new-bytes.ensures.items c.in_ok-copy.ensures.dump
    c.in_ok-copy.ensures.bytes
