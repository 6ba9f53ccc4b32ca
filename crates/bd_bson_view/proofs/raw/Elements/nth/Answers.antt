use Rattle.std.proofs.Common.{◌∙◌, arith}
use Rattle.bd_bson_view.specs.Sound.{elements_remaining}
use Rattle.bd_bson_view.proofs.ElementsLemmas as r
use Rattle.bd_bson_view.proofs.raw.Elements.nth.Goals as goal

pub unreachable-requires : goal.unreachable-requires
unreachable-requires c =
    let le = r.not_beyond (elements_remaining c.loop-k.rest.remaining) (elements_remaining c.args.self.remaining) c.loop-k.k c.loop-k.invariant.splits c.in-None.ensures.none in
    omega arith

pub loop-k-preserved : goal.loop-k-preserved
loop-k-preserved c = record {
  inside = omega arith;
  splits = r.tail_is (elements_remaining c.loop-k.rest.remaining) (elements_remaining c.args.self.remaining) c.loop-k.k _ _ c.loop-k.invariant.splits c.in-Some.ensures.some;
  same_source = c.in-Some.ensures.same_source.1 ∙ c.loop-k.invariant.same_source;
}

pub unreachable-requires-in-None-next : goal.unreachable-requires-in-None-next
unreachable-requires-in-None-next c =
    let le = r.not_beyond (elements_remaining c.loop-k.rest.remaining) (elements_remaining c.args.self.remaining) c.loop-k.k c.loop-k.invariant.splits c.in-None-next.ensures.none in
    omega arith

pub returns-clause-pair : goal.returns-clause-pair
returns-clause-pair c = r.get_is (elements_remaining c.loop-k.rest.remaining) (elements_remaining c.args.self.remaining) c.loop-k.k c.args.i _ _ c.loop-k.invariant.splits c.in-Some-next.ensures.some (omega arith)
