use Rattle.std.proofs.Common.{List, map, sym, ap, ◌∙◌}
use Rattle.bd_index.specs.Entries.{KeyAt}
use Rattle.bd_index.proofs.WalkLemmas.{entry_taken}
use Rattle.bd_index.proofs.entry_order.EntryOrder.split_first.Goals as goal

pub returns-clause-some : goal.returns-clause-some
returns-clause-some c =
    let o = c.in_ok-order.order in
    ap (λ (es : List KeyAt). map (λ e. e.1) es) (sym c.in_ok-order.ensures.ahead)
    ∙ entry_taken o.dump.now o.index.now c.result-1.given.0 o.indexed o.next o.end o.below c.index.result.now c.in_ok-order.ensures.some o.inside c.index.ensures
