use Rattle.std.proofs.Common.{None}
use Rattle.bd_value.specs.Tree as trees
use Rattle.bd_value.specs.Tree.{leaf}
use Rattle.bd_path.specs.{Key.keys, Reach.reach}
use Rattle.bd_path.proofs.{SortLemmas.has_a_key, SortLemmas.missing_gives_null, SortLemmas.nothing_gives_null, ReachLemmas.contains_from, ReachLemmas.in_from}
use Rattle.bd_path.proofs.laws.keys_are_there.Goals as goal

pub returns-clause-some : goal.returns-clause-some
returns-clause-some c = has_a_key

pub returns-clause-missing : goal.returns-clause-missing
returns-clause-missing c = λ t p h. contains_from (leaf trees.null) (keys t p) (missing_gives_null t p (in_from None (reach t p) h))

pub returns-clause-nothing : goal.returns-clause-nothing
returns-clause-nothing c = λ t p h. contains_from (leaf trees.null) (keys t p) (nothing_gives_null t p h)
