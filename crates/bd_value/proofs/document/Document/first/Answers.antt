use Rattle.bd_value.specs.View.{pairs, tree_of}
use Rattle.bd_value.proofs.ViewLemmas.{skipped, found}
use Rattle.bd_value.proofs.document.Document.first.Goals as goal

pub returns-then-eq-clause-found : goal.returns-then-eq-clause-found
returns-then-eq-clause-found c =
    found c.args.name.now (pairs c.args.self.now) c.loop-i.i (c.pair.result.0.now, tree_of c.pair.result.1.now) _ c.pair.ensures c.loop-i.invariant c.if-eq.ensures

pub loop-i-preserved : goal.loop-i-preserved
loop-i-preserved c =
    skipped c.args.name.now (pairs c.args.self.now) c.loop-i.i (c.pair.result.0.now, tree_of c.pair.result.1.now) _ c.pair.ensures c.loop-i.invariant c.if-eq.ensures
