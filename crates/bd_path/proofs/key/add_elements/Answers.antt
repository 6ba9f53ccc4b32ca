use Rattle.std.proofs.Common.{ap, ◌∙◌}
use Rattle.bd_value.specs.Tree.{values_of}
use Rattle.bd_path.specs.Key.{key_trees}
use Rattle.bd_path.proofs.KeyLemmas as added
use Rattle.bd_path.proofs.key.add_elements.Goals as goal

pub loop-next-preserved : goal.loop-next-preserved
loop-next-preserved g c =
    let trees = key_trees g.N.Reading.tree in
    let bytes = g.N.Reading.source c.args.node in
    record {
      so_far = added.one_passed (trees c.loop-next.keys.items) (trees c.add_next.new.keys.items) (g.N.Reading.tree c.in-Some.next.1) _
          (values_of (g.N.Reading.remaining c.in-Some.next.2)) _ c.in_ok-add_next.ensures.added (ap values_of c.in-Some.ensures.some) c.loop-next.invariant.so_far;
      same_source = λ h. c.in_ok-add_next.ensures.same_source bytes (c.loop-next.invariant.same_source h) (c.in-Some.ensures.same_source ∙ c.loop-next.invariant.source);
      at_stops = λ sparse ss h. c.in_ok-add_next.ensures.at_stops sparse ss (c.loop-next.invariant.at_stops sparse ss h) tt;
      source = c.in-Some.ensures.rest ∙ c.loop-next.invariant.source;
    }

pub returns-in_err-add_next-clause-at_stops : goal.returns-in_err-add_next-clause-at_stops
returns-in_err-add_next-clause-at_stops g c = λ sparse ss h. c.add_next.ensures.at_stops sparse ss (c.loop-next.invariant.at_stops sparse ss h) tt
