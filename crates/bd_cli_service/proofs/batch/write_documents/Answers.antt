use Rattle.std.proofs.Common.{◌<◌, ◌≤◌, arith, get_or, length}
use Rattle.bd_value.proofs.PrefixLemmas.{prefix_more}
use Rattle.bd_bson_dump.specs.Collection.{documents}
use Rattle.bd_cli_service.proofs.BatchLemmas.{next_passed, next_written}
use Rattle.bd_cli_service.proofs.batch.write_documents.Goals.{then-place-len+in_ok-write_document, else-place-len}
use Rattle.bd_cli_service.proofs.batch.write_documents.Goals as goal

pub loop-place-preserved : goal.loop-place-preserved
loop-place-preserved g c =
    let IsText = g.P.PlacePrinter.is_text c.args.printer.now c.args.dump.now in
    let count = length (documents c.args.dump.now) in
    let ps = c.args.places.now in
    let i = c.loop-place.place-index in
    let l = c.loop-place in
    elim c.if-place-len.branch [
      | then-place-len+in_ok-write_document w ↦
          let inside : get_or ps i 0 < count = omega (arith, w.if-place-len.true, c.len.ensures) in
          record {
            written = rw (w.out-is, w.later-is) (next_written IsText ps count i c.loop-place-test.true l.later c.args.out.now.items l.out.items
                l.invariant.written w.write_document.new.out.items inside w.in_ok-write_document.ensures.ok);
            prefix = rw w.out-is (prefix_more _ _ _ _ l.invariant.prefix w.in_ok-write_document.ensures.ok.2);
          }
      | else-place-len w ↦
          let outside : count ≤ get_or ps i 0 = omega (arith, w.if-place-len.false, c.len.ensures) in
          record {
            written = rw (w.out-is, w.later-is) (next_passed IsText ps count i c.loop-place-test.true l.later c.args.out.now.items l.out.items l.invariant.written outside);
            prefix = rw w.out-is l.invariant.prefix;
          }
    ]
