use Rattle.std.proofs.Common.{Ok, Err, sym, ◌∙◌, subst}
use Rattle.std.specs.List.{All}
use Rattle.bd_bson_dump.specs.{Collection.bytes_of, Collection.documents, declared.collection.Dump.Dump}
use Rattle.bd_cursor_sort.specs.Selection.{query_of}
use Rattle.bd_cursor_request.specs.{Refused.reason_of, Request.request_view}
use Rattle.bd_cli_find.proofs.OptionsLemmas.{explain_refusal}
use Rattle.bd_cli_find.proofs.BatchLemmas.{batch_has}
use Rattle.bd_cli_find.specs.Find.{around_documents, around_of, batch_run, cursor_for}
use Rattle.bd_cli_find.specs.inside.Find.{IsFirstBatch}
use Rattle.bd_cli_scan.specs.Run.{Prints}
use Rattle.bd_io_device.specs.Devices.{over}
use Rattle.bd_cli_find.proofs.FindLemmas as finds
use Rattle.bd_cli_find.proofs.around.print_around.Goals as goal

pub first_batch-requires-clause-within_limit : goal.first_batch-requires-clause-within_limit
first_batch-requires-clause-within_limit g c = rw c.new-session.ensures.dump c.requires.within_limit

pub print_batch-requires : goal.print_batch-requires
print_batch-requires g c =
    let q = query_of c.args.dump c.args.search.request in
    let o : IsFirstBatch c.args.size q c.args.search.token (Ok c.in-Ok.batch) = rw c.in-Ok.is at (rw c.new-session.ensures.dump at c.first_batch.ensures.batch) in
    subst (λ (dump : Dump). All (g.P.PlacePrinter.can_print c.args.printer.now dump) c.in-Ok.batch.places.items)
    (sym (c.dump.ensures ∙ c.first_batch.ensures.dump ∙ c.new-session.ensures.dump))
    (batch_has (g.P.PlacePrinter.can_print c.args.printer.now c.args.dump) q c.args.search.token c.requires.printable c.args.size c.in-Ok.batch o)

pub returns-in-Ok : goal.returns-in-Ok
returns-in-Ok g c =
    let q = query_of c.args.dump c.args.search.request in
    let token = c.args.search.token in
    let o : IsFirstBatch c.args.size q token (Ok c.in-Ok.batch) = rw c.in-Ok.is at (rw c.new-session.ensures.dump at c.first_batch.ensures.batch) in
    rw o.1 (subst (λ (dump : Dump). Prints c.args.program.now (batch_run (around_documents (g.P.PlacePrinter.is_text c.args.printer.now dump) (around_of c.args.around.now)) c.args.size (Ok (cursor_for 1 q token o.0)))
    (over g.O.Output.state c.args.out.now c.print_batch.new.out) (over g.E.Output.state c.args.err.now c.print_batch.new.err)
    c.print_batch.result) (c.dump.ensures ∙ c.first_batch.ensures.dump ∙ c.new-session.ensures.dump) (c.print_batch.ensures c.args.size (cursor_for 1 q token o.0) o.2))

pub returns : goal.returns
returns g c =
    let q = query_of c.args.dump c.args.search.request in
    let o : IsFirstBatch c.args.size q c.args.search.token (Err c.in-Err.refused) = rw c.in-Err.is at (rw c.new-session.ensures.dump at c.first_batch.ensures.batch) in
    finds.refused_output c.args.program.now (g.O.Output.state c.args.out.now) (g.O.Output.state c.args.out.now) (g.E.Output.state c.args.err.now)
    (g.E.Output.state c.report_refused.new.err) _ (around_documents (g.P.PlacePrinter.is_text c.args.printer.now c.args.dump) (around_of c.args.around.now)) c.args.size (request_view c.args.search.request, c.args.search.token)
    (bytes_of c.args.dump) (documents c.args.dump) c.in-Err.refused o
    (explain_refusal c.args.program.now (over g.E.Output.state c.args.err.now c.report_refused.new.err) (reason_of c.in-Err.refused) _ c.report_refused.ensures)
