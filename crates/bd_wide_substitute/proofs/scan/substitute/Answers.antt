use Rattle.std.proofs.Common.{◌≡◌, false, refl, rules, true, subst, sym}
use Rattle.bd_wide_substitute.specs.inside.Taken.{AreTaken, IsFound}
use Rattle.bd_wide_substitute.proofs.PieceLemmas.{taken_all, taken_both, taken_none, taken_value, taken_other}
use Rattle.bd_wide_substitute.proofs.scan.substitute.Goals as goal

pub loop-rest-init : goal.loop-rest-init
loop-rest-init c = taken_none c.args.line.now c.clear.new.self c.clear.ensures

pub loop-rest-preserved-in_ok-put : goal.loop-rest-preserved-in_ok-put
loop-rest-preserved-in_ok-put c =
    let found = subst (IsFound c.loop-rest.rest.now c.next_piece-found.result.count) c.in-Some.is c.next_piece-found.ensures in
    let puts = c.in_ok-put.ensures in
    subst (λ t. AreTaken true c.args.line.now t t c.put.new.self) (sym c.split_at.ensures.back)
    (taken_value c.loop-rest.has_values c.args.line.now c.loop-rest.pending.now c.loop-rest.rest.now c.next_piece-found.result.count c.loop-rest.made c.loop-rest.invariant c.put.new.self c.in-Some.value
    c.split_at-in-Some.result.0.now c.split_at-in-Some.ensures.front found puts.wholes puts.texts puts.numbers)

pub loop-rest-preserved : goal.loop-rest-preserved
loop-rest-preserved c =
    subst (λ t. AreTaken c.loop-rest.has_values c.args.line.now c.loop-rest.pending.now t c.loop-rest.made) (sym c.split_at.ensures.back)
    (taken_other c.loop-rest.has_values c.args.line.now c.loop-rest.pending.now c.loop-rest.rest.now c.next_piece-found.result.count c.loop-rest.made c.loop-rest.invariant c.next_piece-found.result.value
    c.next_piece-found.ensures c.in_default-value.not-Some)

pub returns-then-not-has_values : goal.returns-then-not-has_values
returns-then-not-has_values c =
    let none : c.loop-rest.has_values ≡ false = search rules in
    taken_all c.args.line.now c.loop-rest.pending.now c.loop-rest.rest.now c.loop-rest.made
    (subst (λ b. AreTaken b c.args.line.now c.loop-rest.pending.now c.loop-rest.rest.now c.loop-rest.made) none c.loop-rest.invariant) c.in_default.len_below

pub returns : goal.returns
returns c =
    taken_both c.loop-rest.has_values c.args.line.now c.loop-rest.pending.now c.loop-rest.rest.now c.extend_from_slice.new.self.items c.extend_from_slice-2.new.self.items c.loop-rest.made.numbers.items c.loop-rest.made
    c.loop-rest.invariant c.in_default.len_below c.in_ok-extend_from_slice.ensures.items c.in_ok-extend_from_slice-2.ensures.items refl
