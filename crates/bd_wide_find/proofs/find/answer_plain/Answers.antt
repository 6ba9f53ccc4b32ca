use Rattle.std.proofs.Common.{◌≡◌, ◌∙◌, List, None, ap, inl, inr, length, refl, subst, sym}
use Rattle.std.specs.Prelude.{ℕ}
use Rattle.bd_value.specs.Tree.{Doc}
use Rattle.bd_bson_check.specs.Dump.{AreJoined, IsDump}
use Rattle.bd_bson_check.proofs.DumpLemmas.{scan_once}
use Rattle.bd_bson_dump.specs.Collection.{bytes_of as bytes_of_dump, documents}
use Rattle.bd_cursor_request.specs.Request.{request_view}
use Rattle.bd_cursor_request.specs.declared.results.Refused.TheVariants as reasons
use Rattle.bd_cli_args.specs.FindOptions.{FindOptions}
use Rattle.bd_cli_find.proofs.FindLemmas.{refused_output}
use Rattle.bd_wide_copy.specs.Dump.{AreStartsOf, IsCount, bytes_of}
use Rattle.bd_wide_copy.proofs.StartsLemmas.{plain_count}
use Rattle.bd_wide_find.specs.Find.{printing_of}
use Rattle.bd_wide_layout.specs.Layout.{layout_view}
use Rattle.bd_wide_find.proofs.FindLemmas.{few_documents, found_in_dump}
use Rattle.bd_wide_find.proofs.find.answer_plain.Goals as goal

pub index_dump-requires : goal.index_dump-requires
index_dump-requires g c = subst (λ (b : List ℕ). (ds : List Doc) × IsDump ds b) (sym c.into_parts-bytes.ensures.bytes) c.requires.plain

pub print_form-requires-clause-within_limit : goal.print_form-requires-clause-within_limit
print_form-requires-clause-within_limit g c = few_documents (documents c.in-Ok.dump) c.into_parts-bytes.result.0.items c.in-Ok.ensures.dump

pub print_form-requires-clause-texts : goal.print_form-requires-clause-texts
print_form-requires-clause-texts g c = λ place lt.
    let es = documents c.in-Ok.dump in
    let same : bytes_of_dump c.in-Ok.dump ≡ bytes_of c.args.dump = c.in-Ok.ensures.bytes ∙ c.into_parts-bytes.ensures.bytes in
    let starts = subst (AreStartsOf c.into_parts-bytes.result.1) (sym same) c.into_parts-bytes.ensures.starts in
    let count = subst (λ (b : List ℕ). IsCount b (length es)) (sym c.in-Ok.ensures.bytes) (plain_count es c.into_parts-bytes.result.0.items c.in-Ok.ensures.dump.0) in
    (starts, (length es, count, lt))

pub print_form-requires-clause-bytes : goal.print_form-requires-clause-bytes
print_form-requires-clause-bytes g c = λ place lt.
    let es = documents c.in-Ok.dump in
    let same : bytes_of_dump c.in-Ok.dump ≡ bytes_of c.args.dump = c.in-Ok.ensures.bytes ∙ c.into_parts-bytes.ensures.bytes in
    let starts = subst (AreStartsOf c.into_parts-bytes.result.1) (sym same) c.into_parts-bytes.ensures.starts in
    let count = subst (λ (b : List ℕ). IsCount b (length es)) (sym c.in-Ok.ensures.bytes) (plain_count es c.into_parts-bytes.result.0.items c.in-Ok.ensures.dump.0) in
    (starts, (length es, count, lt))

pub returns-in-Ok : goal.returns-in-Ok
returns-in-Ok g c = λ ds is.
    let es = documents c.in-Ok.dump in
    let joined = subst (λ (b : List ℕ). AreJoined es b) c.into_parts-bytes.ensures.bytes c.in-Ok.ensures.dump.0 in
    let same = (scan_once es ds None None (bytes_of c.args.dump) joined is.0).0 in
    let batch : c.options.inside.batch ≡ c.args.options.now.batch = ap (λ (o : FindOptions). o.batch) c.options.view_is in
    found_in_dump (printing_of (layout_view c.args.layout.now) c.args.form) (request_view c.args.search.request, c.args.search.token) c.options.inside.batch c.args.options.now.batch (bytes_of_dump c.in-Ok.dump)
    (bytes_of c.args.dump) es ds batch (c.in-Ok.ensures.bytes ∙ c.into_parts-bytes.ensures.bytes) same c.print_form.ensures

pub returns-in-Err : goal.returns-in-Err
returns-in-Err g c = λ ds is.
    refused_output c.args.program.now (g.O.Output.state c.args.out.now) (g.O.Output.state c.args.out.now) (g.E.Output.state c.args.err.now)
    (g.E.Output.state c.report_no_memory.new.err) c.report_no_memory.result (printing_of (layout_view c.args.layout.now) c.args.form (bytes_of c.args.dump)) c.args.options.now.batch
    (request_view c.args.search.request, c.args.search.token) (bytes_of c.args.dump) ds reasons.NoMemory (inl refl) (inr c.report_no_memory.ensures)
