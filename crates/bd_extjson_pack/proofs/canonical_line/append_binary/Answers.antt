use Rattle.std.proofs.Common.{rules, refl, ap}
use Rattle.bd_value.specs.Tree as trees
use Rattle.std.proofs.lemmas.Option.{MatchOption-at_some as of_some}
use Rattle.bd_extjson_pack.proofs.CanonicalLemmas.{scalar_value}
use Rattle.bd_extjson_pack.proofs.canonical_line.append_binary.Goals as goal

pub returns : goal.returns
returns c =
    let read = of_some _ _ _ c.in_ok-subtype.ensures.ok_part c.binary.ensures in
    let k = c.in_ok-subtype.subtype in
    let payload = c.in_ok-payload.payload.items in
    let bytes = c.in_ok-payload.ensures.decoded in
    scalar_value c.args.text.now c.in_ok-subtype.rest.now c.args.out.now.items c.append_leaf.new.out.items _ (trees.binary k payload)
    (trees.binary k c.deref.result.now) (ap (λ bytes. trees.binary k bytes) c.deref.ensures.value) (read payload bytes.0) (search rules, bytes.1) refl c.in_ok-append_leaf.ensures.ok.0 c.in_ok-append_leaf.ensures.ok.1
