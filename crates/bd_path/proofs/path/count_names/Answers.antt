use Rattle.std.proofs.{Common.arith, lemmas.Iterator.Consumers.count_from_yields_List, lemmas.Iterator.Splits.YieldsList-from_str_split}
use Rattle.bd_path.proofs.path.count_names.Goals as goal

pub returns : goal.returns
returns c = count_from_yields_List c.split.result _ c.count.ensures.ran (YieldsList-from_str_split 46 c.args.text.now (omega arith) c.split.ensures.text c.split.ensures.has_more c.split.ensures.pattern)
