use Rattle.bd_bson_view.specs.Raw.{value_tree}
use Rattle.bd_wide_pack.proofs.MixLemmas as m
use Rattle.bd_wide_pack.proofs.step.scalar.Goals as goal

pub returns-in-Some : goal.returns-in-Some
returns-in-Some c =
    m.scalar_mixed c.args.kind (value_tree c.args.whole) (value_tree c.args.text) c.args.numbers.now c.requires.scalar c.requires.kind c.args.name.now c.in-Some.bytes.now _ _ _
    c.in-Some.ensures.some.1 c.in-Some.ensures.some.0 (rw c.type_byte.ensures at c.in_ok-put_name.ensures) c.in_ok-extend_from_slice.ensures.items

pub returns-in_default-next_number : goal.returns-in_default-next_number
returns-in_default-next_number c =
    m.scalar_unlike c.args.kind (value_tree c.args.whole) (value_tree c.args.text) c.args.numbers.now c.requires.scalar c.requires.kind c.in_default.ensures.none c.in_default-next_number.ensures.none

pub returns : goal.returns
returns c =
    let s = c.in-Some-next_number.ensures.some in
    let p = c.in_ok-put_number.ensures in
    m.number_mixed c.args.name.now (value_tree c.args.whole) (value_tree c.args.text) c.in-Some-next_number.number c.args.numbers.now c.in-Some-next_number.rest.now _ _ p.0 s.0 s.1 s.2 p.1 p.2
