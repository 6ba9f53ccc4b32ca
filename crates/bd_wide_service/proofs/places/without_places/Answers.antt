use Rattle.std.proofs.Common.{◌∙◌, sym}
use Rattle.bd_value.specs.{Tree.Pair, View.pairs, View.tree_of}
use Rattle.bd_wide_service.proofs.PlacesLemmas.{kept, skipped}
use Rattle.bd_wide_service.proofs.places.without_places.Goals.{then-ne+in_ok-from_str+in_ok-try_copy+in_ok-push, else-ne}
use Rattle.bd_wide_service.proofs.places.without_places.Goals as goal

pub loop-i-preserved : goal.loop-i-preserved
loop-i-preserved c =
    let p : Pair = (c.pair.result.0.now, tree_of c.pair.result.1.now) in
    let d = pairs c.args.document.now in
    elim c.if-ne.branch [
      | then-ne+in_ok-from_str+in_ok-try_copy+in_ok-push w ↦
          let put = rw (w.in_ok-from_str.ensures.ok, w.in_ok-try_copy.ensures) at w.in_ok-push.ensures.ok in
          rw w.rest-is (kept d c.loop-i.i p c.pair.ensures _ _ c.loop-i.invariant (sym c.ne.ensures ∙ w.if-ne.true) put)
      | else-ne w ↦ rw w.rest-is (skipped d c.loop-i.i p c.pair.ensures _ c.loop-i.invariant (sym c.ne.ensures ∙ w.if-ne.false))
    ]
