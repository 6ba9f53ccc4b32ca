use Rattle.std.proofs.{Common.arith, Common.true, lemmas.Bool.Decides.nat_tests}
use Rattle.bd_index.proofs.{EntryLemmas.count_stored, PlacesLemmas.covers_one}
use Rattle.bd_index.proofs.index.Index.spans.Goals as goal

pub returns-in_ok-vec-in-None : goal.returns-in_ok-vec-in-None
returns-in_ok-vec-in-None c h =
    let n = count_stored c.args.dump.now c.args.self.now h in
    let size = c.len-to.ensures in
    rw c.in-None.is (covers_one h.keeps.entries (λ k. true) _ (record { from = 0; to = c.len-to.result })
    c.in_ok-vec-in-None.ensures.items (omega arith) (omega arith) (λ k d lt. grind (arith, nat_tests)))
