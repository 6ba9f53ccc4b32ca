-- The comparison order of values (MongoDB manual, "Comparison/Sort Order"): by class, then within the class.
use Rattle.std.specs.Prelude.{[]}
use Rattle.bd_value.specs.Tree.{Leaf, scalar_leaf, code_leaf}
use Rattle.bd_value.specs.declared.order.Rank as memory
use Rattle.bd_value.specs.Order.{Rank, by_bytes, scalar_rank}

-- what a scalar, or the code of code with scope, is compared by within its class
abbrev pub leaf_rank : Leaf → Rank
leaf_rank (scalar_leaf s) = scalar_rank s
leaf_rank (code_leaf s) = by_bytes s []

-- the rank that a rank in memory means
abbrev pub rank_view : memory.Rank → Rank
rank_view r = record { number = r.number; size = r.size; lesser = r.lesser; bytes = r.bytes.now; more = r.more.now }
