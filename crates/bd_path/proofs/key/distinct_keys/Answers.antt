use Rattle.bd_path.specs.Key.{key_tree}
use Rattle.bd_path.proofs.KeyLemmas.{one_more}
use Rattle.bd_path.proofs.key.distinct_keys.Goals as goal

pub loop-key-preserved : goal.loop-key-preserved
loop-key-preserved g c = record {
  so_far = one_more (key_tree g.N.Reading.tree) c.args.all.now c.loop-key.key-index c.key-item.result _ _ c.loop-key-test.true c.key-item.is c.in_ok-add_key.ensures.added c.loop-key.invariant.so_far;
  same_source = λ bytes h. c.in_ok-add_key.ensures.same_source bytes (c.loop-key.invariant.same_source bytes h)
      (rw c.key-item.is (h c.loop-key.key-index c.key-item.result c.loop-key-test.true));
  at_stops = λ sparse ss h. c.in_ok-add_key.ensures.at_stops sparse ss (c.loop-key.invariant.at_stops sparse ss h)
      (rw c.key-item.is (h c.loop-key.key-index c.key-item.result c.loop-key-test.true));
}
