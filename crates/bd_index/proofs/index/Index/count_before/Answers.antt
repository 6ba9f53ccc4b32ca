use Rattle.std.proofs.Common.{arith, get_or}
use Rattle.bd_bson_view.specs.Sound.{meaning}
use Rattle.bd_index_bounds.specs.BoundsView.{is_before}
use Rattle.bd_index.proofs.{EntryLemmas.count_stored, PlacesLemmas.above_next, PlacesLemmas.below_next, PlacesLemmas.parted, PlacesLemmas.fact}
use Rattle.bd_index.proofs.index.Index.count_before.Goals as goal

pub loop-low-init : goal.loop-low-init
loop-low-init c = record {
  order = omega arith;
  bound = omega (arith, c.len-high.ensures);
  below = λ h k d low high. absurd (omega arith);
  above = λ h k d low high. let n = count_stored c.args.dump.now c.args.self.now h in let e = c.len-high.ensures in absurd (omega arith);
}

pub loop-low-preserved-then-has_before : goal.loop-low-preserved-then-has_before
loop-low-preserved-then-has_before c = record {
  order = let t = c.loop-low-test.true in omega arith;
  bound = c.loop-low.invariant.bound;
  below = λ h.
      let n = count_stored c.args.dump.now c.args.self.now h in
      let t = c.loop-low-test.true in
      let b = c.loop-low.invariant.bound in
      below_next (λ e. is_before c.args.cutoff e.0) h.keeps.entries _ (parted c.args.cutoff h.keeps.entries h.keeps.are.sorted) (omega arith)
      (λ d. fact c.args.cutoff (meaning c.key.result.sound) (get_or h.keeps.entries _ d) c.has_before.result _ (c.key.ensures.key h d) c.has_before.ensures c.if-has_before.true);
  above = c.loop-low.invariant.above;
}

pub loop-low-preserved : goal.loop-low-preserved
loop-low-preserved c = record {
  order = omega arith;
  bound = let t = c.loop-low-test.true in let b = c.loop-low.invariant.bound in omega arith;
  below = c.loop-low.invariant.below;
  above = λ h. above_next (λ e. is_before c.args.cutoff e.0) h.keeps.entries _ (parted c.args.cutoff h.keeps.entries h.keeps.are.sorted)
      (λ d. fact c.args.cutoff (meaning c.key.result.sound) (get_or h.keeps.entries _ d) c.has_before.result _ (c.key.ensures.key h d) c.has_before.ensures c.if-has_before.false);
}
