use Rattle.bd_wide_copy.specs.Dump.{bytes_of}
use Rattle.bd_wide_find.proofs.coded.table_of.Goals as goal
use Rattle.bd_wide_find.proofs.CodedLemmas.{never_crowded, table_has}
use Rattle.bd_wide_rank.specs.Table.{worths}

-- src/coded.rt:66:19
pub unreachable-requires : goal.unreachable-requires
unreachable-requires c =
    never_crowded (bytes_of c.args.dump.now) _ c.requires c.in_ok-numbers.ensures c.has_few_numbers.ensures c.in-Err.ensures.err

pub returns : goal.returns
returns c =
    table_has (bytes_of c.args.dump.now) _ (worths c.in-Ok.table) c.in_ok-numbers.ensures c.codes_fit.ensures.distinct c.in-Ok.ensures.ok
