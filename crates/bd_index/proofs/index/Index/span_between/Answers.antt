use Rattle.std.proofs.Common.{refl}
use Rattle.bd_index.proofs.PlacesLemmas.{between}
use Rattle.bd_index.proofs.index.Index.span_between.Goals as goal

pub returns-clause-keys : goal.returns-clause-keys
returns-clause-keys c h =
    between c.args.from c.args.to h.keeps.entries c.count_before-from.result c.count_before.result (record { from = c.count_before-from.result; to = c.max-to.result }) refl c.max-to.ensures
    (c.count_before-from.ensures.parted h) (c.count_before.ensures.parted h)
