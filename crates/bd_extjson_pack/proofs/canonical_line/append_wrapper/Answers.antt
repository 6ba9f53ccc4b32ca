use Rattle.std.proofs.Common.{rules, refl, ap, to_z, of_z, w32, w64}
use Rattle.bd_value.specs.Tree as trees
use Rattle.std.proofs.lemmas.Option.{MatchOption-at_some as of_some}
use Rattle.bd_extjson_pack.proofs.CanonicalLemmas.{scalar_value}
use Rattle.bd_extjson_pack.proofs.canonical_line.append_wrapper.Goals as goal

pub returns-in_ok-append_leaf-in-Some-eq73 : goal.returns-in_ok-append_leaf-in-Some-eq73
returns-in_ok-append_leaf-in-Some-eq73 c =
    let n = c.in_ok-n-in-Some-eq73.n in
    scalar_value c.args.text.now c.in_ok-n-in-Some-eq73.rest.now c.args.out.now.items c.append_leaf.new.out.items _ (trees.int32 n) (trees.int32 (to_z w32 (of_z w32 n)))
    (ap (λ z. trees.int32 z) (search rules)) (of_some _ _ _ c.in_ok-n-in-Some-eq73.ensures.ok_part c.int32.ensures) (search rules) refl c.in_ok-append_leaf-in-Some-eq73.ensures.ok.0 c.in_ok-append_leaf-in-Some-eq73.ensures.ok.1

pub returns-in_ok-append_leaf-in-Some-eq76 : goal.returns-in_ok-append_leaf-in-Some-eq76
returns-in_ok-append_leaf-in-Some-eq76 c =
    let n = c.in_ok-n-in-Some-eq76.n in
    scalar_value c.args.text.now c.in_ok-n-in-Some-eq76.rest.now c.args.out.now.items c.append_leaf-in-Some-eq76.new.out.items _ (trees.int64 n) (trees.int64 (to_z w64 (of_z w64 n)))
    (ap (λ z. trees.int64 z) (search rules)) (of_some _ _ _ c.in_ok-n-in-Some-eq76.ensures.ok_part c.int64.ensures) (search rules) refl c.in_ok-append_leaf-in-Some-eq76.ensures.ok.0 c.in_ok-append_leaf-in-Some-eq76.ensures.ok.1

pub returns-in_ok-append_leaf-in-Some-eq123 : goal.returns-in_ok-append_leaf-in-Some-eq123
returns-in_ok-append_leaf-in-Some-eq123 c =
    let n = c.in_ok-n-in-Some-eq123.n in
    scalar_value c.args.text.now c.in_ok-n-in-Some-eq123.rest.now c.args.out.now.items c.append_leaf-in-Some-eq123.new.out.items _ (trees.date n) (trees.date (to_z w64 (of_z w64 n)))
    (ap (λ z. trees.date z) (search rules)) (of_some _ _ _ c.in_ok-n-in-Some-eq123.ensures.ok_part c.date.ensures) (search rules) refl c.in_ok-append_leaf-in-Some-eq123.ensures.ok.0 c.in_ok-append_leaf-in-Some-eq123.ensures.ok.1

pub returns-in_ok-kind-in_default : goal.returns-in_ok-kind-in_default
returns-in_ok-kind-in_default c =
    let id = c.in_ok-id-in_default.id in
    let read = of_some _ _ _ c.in_ok-id-in_default.ensures.ok_part c.object_id.ensures in
    scalar_value c.args.text.now c.in_ok-id-in_default.rest.now c.args.out.now.items c.append_leaf-in_default.new.out.items
    _
    (trees.object_id id) (trees.object_id id) refl read.0 read.1 refl c.in_ok-kind-in_default.ensures.ok.0 c.in_ok-kind-in_default.ensures.ok.1
