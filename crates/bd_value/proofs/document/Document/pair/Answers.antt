use Rattle.bd_value.proofs.ViewLemmas.{pair_at}
use Rattle.bd_value.proofs.document.Document.pair.Goals as goal

pub returns : goal.returns
returns c = rw c.as_str.ensures.value (pair_at c.args.self.now c.args.i c.index.result.now c.requires c.index.ensures)
