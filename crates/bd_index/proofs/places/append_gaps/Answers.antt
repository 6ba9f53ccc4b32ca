use Rattle.std.proofs.Common.{◌+◌, drop, get_or, refl}
use Rattle.std.proofs.lemmas.List.{drop_more}
use Rattle.bd_index.specs.declared.places.Span.{Span}
use Rattle.bd_index.proofs.PlacesLemmas.{gaps_one}
use Rattle.bd_index.proofs.places.append_gaps.Goals as goal

pub loop-span-preserved : goal.loop-span-preserved
loop-span-preserved c =
    let spans = c.args.spans.now in
    let i = c.loop-span.span-index in
    let d : Span = record { from = 0; to = 0 } in
    gaps_one c.args.count c.args.gaps.now.items c.loop-span.gaps.items c.push.new.self.items spans (drop (i + 1) spans) c.loop-span.from
    (get_or spans i d) (record { from = c.loop-span.from; to = (get_or spans i d).from }) refl refl c.in_ok-push.ensures.items
    (rw (drop_more spans i d c.loop-span-test.true) at c.loop-span.invariant)
