use Rattle.std.proofs.Common.{◌∙◌, ap, arith, is_eq, sym}
use Rattle.bd_bson_view.specs.Sound.{meaning}
use Rattle.bd_index.proofs.{EntryLemmas.count_stored, WalkLemmas.run_begins, WalkLemmas.run_goes_on, WalkLemmas.run_is_whole}
use Rattle.bd_index.proofs.index.Index.run_start.Goals as goal

pub loop-start-init : goal.loop-start-init
loop-start-init c = record {
  some = (let s = c.requires.some in omega arith);
  equals = λ h k d low high. run_begins h.keeps.entries c.args.end k d low high;
}

pub loop-start-preserved : goal.loop-start-preserved
loop-start-preserved c = record {
  some = (let s = c.loop-start.invariant.some in omega arith);
  equals = λ h k d low high. run_goes_on h.keeps.entries c.loop-start.start c.args.end (meaning c.key.result.sound) (meaning c.key-last.result.sound) d
      (c.key.ensures.key h d) (c.key-last.ensures.key h d) (sym (ap is_eq c.compare_nodes.ensures) ∙ sym c.if-is_eq.ensures)
      (λ j a b. c.loop-start.invariant.equals h j d a b) k low high;
}

pub returns-else-is_eq : goal.returns-else-is_eq
returns-else-is_eq c h = record {
  some = c.loop-start.invariant.some;
  equals = c.loop-start.invariant.equals h;
  below = λ k d lt. let t = c.loop-start-test.true in let n = count_stored c.args.dump.now c.args.self.now h in let e = c.requires.inside in
      run_is_whole h.keeps.entries c.loop-start.start c.args.end (meaning c.key.result.sound) (meaning c.key-last.result.sound) d h.keeps.are.sorted
      (omega arith) c.loop-start.invariant.some (omega arith) (c.key.ensures.key h d) (c.key-last.ensures.key h d)
      (sym (ap is_eq c.compare_nodes.ensures) ∙ sym c.if-is_eq.ensures) k lt;
}
