use Rattle.bd_path.proofs.SortLemmas.{sort_total}
use Rattle.bd_path.proofs.laws.sorts_order_all_documents.Goals as goal

pub returns : goal.returns
returns c = sort_total
