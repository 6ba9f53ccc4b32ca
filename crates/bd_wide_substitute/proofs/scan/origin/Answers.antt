use Rattle.std.proofs.Common.{arith, drop, subst, sym}
use Rattle.std.specs.Prelude.{Option, ℕ}
use Rattle.bd_wide_substitute.specs.inside.Taken.{IsCount, IsReached}
use Rattle.bd_wide_substitute.proofs.OriginLemmas.{reached_end, reached_first, reached_in, reached_beyond}
use Rattle.bd_wide_substitute.proofs.scan.origin.Goals.{in-Some-2, in-None-2}
use Rattle.bd_wide_substitute.proofs.scan.origin.Goals as goal

pub returns-in-Some : goal.returns-in-Some
returns-in-Some c pieces are =
    let f = c.next_piece-found.ensures in
    let k = subst (λ (n : Option ℕ). IsCount n c.next_piece-found.result.count f.piece) c.in-Some.is (c.canonical_count.ensures c.loop-rest.rest.now f.piece f.is f.within) in
    reached_first c.args.line.now c.args.at c.loop-rest.rest.now c.loop-rest.rest_count c.next_piece-found.result.count c.next_piece-found.result.value c.loop-rest.invariant f c.in-Some.count k.0 c.if-rest_count-count.true (k.1 c.loop-rest.rest_count) pieces are

pub returns-in-None : goal.returns-in-None
returns-in-None c pieces are =
    let f = c.next_piece-found.ensures in
    let k = subst (λ (n : Option ℕ). IsCount n c.next_piece-found.result.count f.piece) c.in-None.is (c.canonical_count.ensures c.loop-rest.rest.now f.piece f.is f.within) in
    reached_in c.args.line.now c.args.at c.loop-rest.rest.now c.loop-rest.rest_count c.next_piece-found.result.count c.next_piece-found.result.value c.loop-rest.invariant f c.next_piece-found.result.count c.loop-rest.rest_count k.0 c.if-rest_count-found.true (k.1 c.loop-rest.rest_count) pieces are

pub loop-rest-preserved : goal.loop-rest-preserved
loop-rest-preserved c =
    let f = c.next_piece-found.ensures in
    let line = c.args.line.now in
    let rest = c.loop-rest.rest.now in
    let rest_count = c.loop-rest.rest_count in
    let n = c.next_piece-found.result.count in
    let all = c.canonical_count.ensures rest f.piece f.is f.within in
    let go = reached_beyond line c.args.at rest rest_count n c.next_piece-found.result.value c.loop-rest.invariant f in
    subst (λ t. IsReached line c.args.at t c.match-canonical_count.rest_count) (sym c.split_at.ensures.back)
    (elim c.match-canonical_count.branch [
      | in-Some-2 w ↦
          let k = subst (λ (m : Option ℕ). IsCount m n f.piece) w.in-Some.is all in
          subst (λ (m : ℕ). IsReached line c.args.at (drop n rest) m) (sym w.rest_count-is) (go w.in-Some.count k.0 (omega (arith, w.if-rest_count-count.false)))
      | in-None-2 w ↦
          let k = subst (λ (m : Option ℕ). IsCount m n f.piece) w.in-None.is all in
          subst (λ (m : ℕ). IsReached line c.args.at (drop n rest) m) (sym w.rest_count-is) (go n k.0 (omega (arith, w.if-rest_count-found.false)))
    ])

pub returns : goal.returns
returns c pieces are = reached_end c.args.line.now c.args.at c.loop-rest.rest.now c.loop-rest.rest_count c.loop-rest.invariant c.in_default.len_below pieces are
