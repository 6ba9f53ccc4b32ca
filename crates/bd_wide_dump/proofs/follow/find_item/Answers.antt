use Rattle.std.proofs.Common.{refl, arith}
use Rattle.bd_wide_dump.proofs.FollowLemmas as f
use Rattle.bd_wide_dump.proofs.follow.find_item.Goals as goal

pub loop-element-init : goal.loop-element-init
loop-element-init c = λ e. (e, refl)

pub element_at-requires-clause-elements : goal.element_at-requires-clause-elements
element_at-requires-clause-elements c = (c.loop-element.invariant c.requires.elements).0

pub returns-then-rest_count-eq0 : goal.returns-then-rest_count-eq0
returns-then-rest_count-eq0 c =
    let x = c.in-Some.element in
    let i = c.loop-element in
    f.item_found c.args.bytes.now c.args.start c.args.index i.rest_count x.name.now i.next x.start x.next x.typed i.invariant c.in-Some.ensures.some c.if-rest_count-eq0.true

pub loop-element-smaller : goal.loop-element-smaller
loop-element-smaller c =
    let x = c.in-Some.ensures.some (c.loop-element.invariant c.requires.elements).0 in
    omega arith

pub loop-element-preserved : goal.loop-element-preserved
loop-element-preserved c =
    let x = c.in-Some.element in
    let i = c.loop-element in
    f.item_other c.args.bytes.now c.args.start c.args.index i.rest_count x.name.now i.next x.start x.next x.typed i.invariant c.in-Some.ensures.some (omega (arith, c.if-rest_count-eq0.false))

pub returns : goal.returns
returns c = f.no_item c.args.bytes.now c.args.start c.args.index c.loop-element.rest_count c.loop-element.next c.loop-element.invariant c.in_default.ensures.none
