use Rattle.std.proofs.Common.{arith}
use Rattle.bd_index.proofs.PlacesLemmas.{piece_added}
use Rattle.bd_index.proofs.index.Index.add_places.Goals as goal

pub returns : goal.returns
returns c =
    piece_added c.args.self.now.entries.items c.args.span.from c.args.span.to c.loop-entry.entry-index _ c.args.places.now.items
    c.loop-entry.places.items c.loop-entry.invariant.added c.loop-entry.invariant.items (omega arith)
