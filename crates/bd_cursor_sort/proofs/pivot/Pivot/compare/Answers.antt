use Rattle.bd_bson_dump.specs.Collection.{documents}
use Rattle.bd_cursor_sort.proofs.PivotLemmas.{pivot_order}
use Rattle.bd_cursor_sort.proofs.pivot.Pivot.compare.Goals as goal

pub returns : goal.returns
returns c = λ ss is.
    rw (c.then.ensures, c.compare_keys.ensures, c.cmp.ensures, c.deref.ensures.value, is, pivot_order (documents c.args.dump.now) ss c.args.place c.args.self.now.place)
