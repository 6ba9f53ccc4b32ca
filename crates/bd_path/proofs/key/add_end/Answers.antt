use Rattle.std.proofs.Common.{refl, sym, ap, ◌∙◌}
use Rattle.bd_value.specs.Tree.{values_of}
use Rattle.bd_path.proofs.KeyLemmas as added
use Rattle.bd_path.proofs.ReachLemmas.{parts_are}
use Rattle.bd_path.proofs.PathWalkLemmas as key
use Rattle.bd_path.proofs.key.add_end.Goals as goal

pub returns-in_default : goal.returns-in_default
returns-in_default g c = record {
  added = rw (added.single_key (g.N.Reading.tree c.args.node) (λ k. c.in_default.not-Array (c.kind.ensures ∙ k))) c.add_next.ensures.added;
  same_source = λ h. c.add_next.ensures.same_source (g.N.Reading.source c.args.node) h refl;
  at_stops = added.on_ok_always c.add_next.result (λ sparse ss _ h. c.add_next.ensures.at_stops sparse ss h tt);
}

pub returns-in_default-next-clause-same_source : goal.returns-in_default-next-clause-same_source
returns-in_default-next-clause-same_source g c = λ h. c.add_next-in_default-next.ensures.same_source (g.N.Reading.source c.args.node) h tt

pub returns-in_default-next-clause-at_stops : goal.returns-in_default-next-clause-at_stops
returns-in_default-next-clause-at_stops g c =
    let n = g.N.Reading.tree c.args.node in
    let array = sym c.kind.ensures ∙ c.in-Array.is in
    let none = sym (parts_are n (g.N.Reading.remaining c.parts.result) array c.parts.ensures.parts) ∙ ap values_of c.in_default-next.ensures.none in
    added.on_ok_always c.add_next-in_default-next.result (λ sparse ss e h. c.add_next-in_default-next.ensures.at_stops sparse ss h (e (key.empty_array n array none)))

pub returns-clause-at_stops : goal.returns-clause-at_stops
returns-clause-at_stops g c = added.on_ok_always c.add_elements.result (λ sparse ss _ h. c.add_elements.ensures.at_stops sparse ss h)
