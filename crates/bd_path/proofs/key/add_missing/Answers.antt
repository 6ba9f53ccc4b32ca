use Rattle.bd_path.proofs.KeyLemmas as added
use Rattle.bd_path.proofs.key.add_missing.Goals as goal

pub returns-clause-same_source : goal.returns-clause-same_source
returns-clause-same_source g c = λ bytes h. c.add_next.ensures.same_source bytes h tt

pub returns-clause-at_stops : goal.returns-clause-at_stops
returns-clause-at_stops g c = added.on_ok_always c.add_next.result (λ ss none h. c.add_next.ensures.at_stops c.args.sparse ss h (c.if-sparse.false, none))
