use Rattle.std.proofs.Common.{◌-◌, ◌<◌, arith, length}
use Rattle.bd_bson_dump.specs.Collection.{documents}
use Rattle.bd_cursor_sort.proofs.SortingLemmas.{first_below}
use Rattle.bd_cursor_sort.proofs.sorting.keep_first.Goals as goal

pub new-requires : goal.new-requires
new-requires c =
    let below = first_below (length (documents c.args.dump.now)) (rw c.deref.ensures.value at c.in_ok-first.ensures) c.requires.below in
    let there : c.args.most - 1 < length c.in_ok-first.first.items = omega (arith, c.len.ensures, c.requires.some) in
    rw c.index.ensures (below (c.args.most - 1) c.index.result.now there)
