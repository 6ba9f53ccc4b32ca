use Rattle.bd_path.specs.Key.{keys, sparse_keys}
use Rattle.bd_path.proofs.{SortLemmas.sparse_has, ReachLemmas.contains_from, ReachLemmas.in_from}
use Rattle.bd_path.proofs.laws.sparse_keys_are_the_rest.Goals as goal

pub returns : goal.returns
returns c = λ t p k h other. contains_from k (sparse_keys t p) (sparse_has t p k (in_from k (keys t p) h) other)
