use Rattle.bd_value.specs.View.{node_parts, pairs}
use Rattle.bd_wide_rank.specs.Table.{worths}
use Rattle.bd_wide_query.proofs.TwiceLemmas.{whole_given}
use Rattle.bd_wide_query.proofs.coded.code_query.Goals as goal

pub returns : goal.returns
returns c =
    whole_given (worths c.args.table.now) c.args.longs c.args.numbers.now (pairs c.args.wholes.now) (pairs c.args.texts.now) (node_parts c.parts-whole.result) (node_parts c.parts-text.result)
    c.parts-whole.ensures.parts c.parts-text.ensures.parts _ c.code_pairs.result c.code_pairs.ensures
