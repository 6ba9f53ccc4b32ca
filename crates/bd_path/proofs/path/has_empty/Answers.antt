use Rattle.std.proofs.Common.{arith, rules, tests, []}
use Rattle.std.proofs.lemmas.{Iterator.Search.any_from_yields_List, Iterator.Splits.YieldsList-from_str_split}
use Rattle.std.specs.Str.{bytes_eq}
use Rattle.bd_path.proofs.path.has_empty.Goals as goal

pub returns : goal.returns
returns c = any_from_yields_List (bytes_eq []) _ _ _ c.any.ensures.ran
    (YieldsList-from_str_split 46 c.args.text.now (omega arith) c.split.ensures.text c.split.ensures.has_more c.split.ensures.pattern)
    (λ x b q k. search (rules, tests))
