use Rattle.std.proofs.Common.{sym, refl, ◌∙◌, arith}
use Rattle.bd_wide_dump.proofs.FollowLemmas as f
use Rattle.bd_wide_dump.proofs.follow.find_field.Goals as goal

pub loop-element-init : goal.loop-element-init
loop-element-init c = λ e. (e, refl)

pub element_at-requires-clause-elements : goal.element_at-requires-clause-elements
element_at-requires-clause-elements c = (c.loop-element.invariant c.requires.elements).0

pub returns-then-eq : goal.returns-then-eq
returns-then-eq c =
    let x = c.in-Some.element in
    f.field_found c.args.bytes.now c.args.start c.args.name.now x.name.now c.loop-element.next x.start x.next x.typed c.loop-element.invariant c.in-Some.ensures.some (sym c.eq.ensures ∙ c.if-eq.true)

pub loop-element-smaller : goal.loop-element-smaller
loop-element-smaller c =
    let x = c.in-Some.ensures.some (c.loop-element.invariant c.requires.elements).0 in
    omega arith

pub loop-element-preserved : goal.loop-element-preserved
loop-element-preserved c =
    let x = c.in-Some.element in
    f.field_other c.args.bytes.now c.args.start c.args.name.now x.name.now c.loop-element.next x.start x.next x.typed c.loop-element.invariant c.in-Some.ensures.some (sym c.eq.ensures ∙ c.if-eq.false)

pub returns : goal.returns
returns c = f.no_field c.args.bytes.now c.args.start c.args.name.now c.loop-element.next c.loop-element.invariant c.in_default.ensures.none
