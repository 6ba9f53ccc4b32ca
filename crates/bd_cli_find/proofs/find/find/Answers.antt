use Rattle.std.proofs.Common.{◌≡◌, ap, None, Option, [], arith, List, ℕ, refl, sym, inl, inr, subst, true≢false}
use Rattle.std.specs.Prelude.{string_bytes}
use Rattle.bd_cursor_request.specs.{Refused.reason_of, Request.Request, Request.request_view, declared.token.Token.Token}
use Rattle.bd_cli_args.specs.FindOptions.{FindOptions}
use Rattle.bd_bson_dump.specs.Collection.{bytes_of, documents}
use Rattle.bd_cli_find.specs.{Options.refused_text, Find.batch_output, Find.cursor_over}
use Rattle.bd_cli_find.proofs.BatchLemmas.{five_each}
use Rattle.bd_cli_find.proofs.OptionsLemmas.{explain_refusal}
use Rattle.bd_cli_scan.specs.Output.{error_line, refusal_output}
use Rattle.bd_cli_scan.specs.Run.{ReportsMessage}
use Rattle.bd_cli_scan.specs.declared.output.Status.TheVariants.{Failed}
use Rattle.bd_io_device.specs.Devices.{zero_reads, over}
use Rattle.bd_io_device.proofs.DevicesLemmas.{takes_none}
use Rattle.bd_cli_find.proofs.FindLemmas as finds
use Rattle.bd_cli_find.proofs.find.find.Goals as goal

pub returns-in-Err-Message-clause-found : goal.returns-in-Err-Message-clause-found
returns-in-Err-Message-clause-found g c =
    let message = string_bytes c.in-Err-Message.message in
    let none = rw c.in-Err-Message.field-0-is at c.in-Err-Message.ensures.fault in
    let reported = subst (λ (text : List ℕ). ReportsMessage (over g.E.Output.state c.args.err.now c.report_error.new.err) (error_line c.args.program.now text) Failed c.report_error.result) c.deref.ensures c.report_error.ensures in
    finds.output_found c.args.options.now (over g.R.Input.state c.args.input.now c.args.input.now) [] (refusal_output message) (rw none refl) (rw none refl)
    (finds.refusal_lines message (finds.refusal_is_output c.args.program.now (g.O.Output.state c.args.out.now) (g.O.Output.state c.args.out.now) (g.E.Output.state c.args.err.now)
    (g.E.Output.state c.report_error.new.err) _ message (inl reported)))

pub returns-in-Err-Refused-clause-found : goal.returns-in-Err-Refused-clause-found
returns-in-Err-Refused-clause-found g c =
    let why = reason_of c.in-Err-Refused.refused in
    let message = refused_text why in
    let none = rw c.in-Err-Refused.field-0-is at c.in-Err-Refused.ensures.fault in
    let err = over g.E.Output.state c.args.err.now c.report_refused.new.err in
    finds.output_found c.args.options.now (over g.R.Input.state c.args.input.now c.args.input.now) [] (refusal_output message) (rw none refl) (rw none refl)
    (finds.refusal_lines message (finds.refusal_is_output c.args.program.now (g.O.Output.state c.args.out.now) (g.O.Output.state c.args.out.now) (g.E.Output.state c.args.err.now)
    (g.E.Output.state c.report_refused.new.err) _ message (explain_refusal c.args.program.now err why c.report_refused.result c.report_refused.ensures)))

pub print_found-requires-clause-within_limit : goal.print_found-requires-clause-within_limit
print_found-requires-clause-within_limit g c =
    let loaded = c.in-Ok-load.ensures.loaded in
    let few = five_each (documents c.in-Ok-load.dump) (bytes_of c.in-Ok-load.dump) loaded.1 in
    let short = loaded.0.2 in
    omega (arith, few, short)

pub print_found-requires-clause-printable : goal.print_found-requires-clause-printable
print_found-requires-clause-printable g c = λ place lt. lt

pub returns-in-Ok-load-clause-found : goal.returns-in-Ok-load-clause-found
returns-in-Ok-load-clause-found g c =
    let loaded = c.in-Ok-load.ensures.loaded in
    let ds = documents c.in-Ok-load.dump in
    let bytes = bytes_of c.in-Ok-load.dump in
    let batch : c.options.inside.batch ≡ c.args.options.now.batch = ap (λ (o : FindOptions). o.batch) c.options.view_is in
    let w : Request × Option Token = (request_view c.in-Ok.search.request, c.in-Ok.search.token) in
    let printed = finds.found_named c.args.program.now c.args.options.now.batch ds (over g.O.Output.state c.args.out.now c.print_found.new.out)
    (over g.E.Output.state c.args.err.now c.print_found.new.err) c.print_found.result w bytes (rw batch at c.print_found.ensures) in
    finds.output_found c.args.options.now (over g.R.Input.state c.args.input.now c.load.new.input) bytes
    (batch_output c.args.options.now.batch ds (cursor_over w bytes ds None)) (rw c.in-Ok.ensures.search loaded.0) (rw c.in-Ok.ensures.search (ds, None, loaded.1, refl)) printed

pub returns-in-Ok-load-clause-unread : goal.returns-in-Ok-load-clause-unread
returns-in-Ok-load-clause-unread g c none = let taken = rw c.in-Ok.ensures.search at none in absurd (true≢false (sym taken))

pub returns-in-Err-clause-found : goal.returns-in-Err-clause-found
returns-in-Err-clause-found g c =
    finds.load_reported c.args.options.now (request_view c.in-Ok.search.request, c.in-Ok.search.token) (over g.R.Input.state c.args.input.now c.load.new.input)
    (g.O.Output.state c.args.out.now) (over g.E.Output.state c.args.err.now c.report_load_fault.new.err) _ c.in-Err.fault c.in-Ok.ensures.search
    c.in-Err.ensures.fault c.report_load_fault.ensures

pub returns-in-Err-NoMemory-clause-found : goal.returns-in-Err-NoMemory-clause-found
returns-in-Err-NoMemory-clause-found g c = inr (inr ([], inr (refl, refl), takes_none (g.O.Output.state c.args.out.now), c.report_no_memory.ensures))

pub returns-in-Err-clause-unread : goal.returns-in-Err-clause-unread
returns-in-Err-clause-unread g c none = let taken = rw c.in-Ok.ensures.search at none in absurd (true≢false (sym taken))

pub returns-in-Err-NoMemory-clause-stops_reading : goal.returns-in-Err-NoMemory-clause-stops_reading
returns-in-Err-NoMemory-clause-stops_reading g c = (0, [], c.args.input.now, zero_reads c.args.input.now, inl refl)

pub returns-in-Err-Refused-clause-stops_reading : goal.returns-in-Err-Refused-clause-stops_reading
returns-in-Err-Refused-clause-stops_reading g c = (0, [], c.args.input.now, zero_reads c.args.input.now, inl refl)

pub returns-in-Err-Message-clause-stops_reading : goal.returns-in-Err-Message-clause-stops_reading
returns-in-Err-Message-clause-stops_reading g c = (0, [], c.args.input.now, zero_reads c.args.input.now, inl refl)
