-- The runs over a dump: by its own documents, by value, or with a refusal.
use Rattle.std.proofs.Common.{◌≡◌, ◌≤◌, ◌<◌, arith, ℕ, List, [], ◌∷◌, length, Ok, refl, sym, ap, subst, inr, ◌∙◌}
use Rattle.std.specs.Prelude.{Option, ℤ}
use Rattle.bd_value.specs.{Limits.greatest_count, Tree.Doc, Tree.Scalar, Tree.int64, View.pairs}
use Rattle.bd_io_device.specs.Devices.{Over, Reader, Writer, between}
use Rattle.bd_bson_check.specs.Dump.{IsDump}
use Rattle.bd_bson_dump.specs.Collection.{bytes_of as bytes_of_dump, documents}
use Rattle.bd_bson_dump.specs.declared.collection.Dump.{Dump}
use Rattle.bd_cursor_request.specs.{Request.Request, Request.request_view, declared.token.Token.Token}
use Rattle.bd_cli_args.specs.FindOptions.{FindOptions}
use Rattle.bd_cli_scan.specs.{Input.ReadsInput, Run.Prints, declared.output.Status.Status}
use Rattle.bd_cli_find.specs.Find.{Printing, found_run}
use Rattle.bd_cli_find.specs.declared.options.SearchFault.{SearchFault}
use Rattle.bd_wide_rank.specs.{Rank.code, Worth.worth}
use Rattle.bd_wide_copy.specs.{Classes.classed, Copy.number_as, Copy.number_coded, Dump.AreJoinedBy, Dump.IsCount, Dump.coded_documents}
use Rattle.bd_wide_copy.proofs.StartsLemmas.{starts_count}
use Rattle.bd_wide_copy.proofs.ClassLemmas.{joined_widened}
use Rattle.bd_wide_copy.specs.declared.longs.Longs.{Longs}
use Rattle.bd_wide_order.specs.{Query.renumber_request, Ranks.table_codes}
use Rattle.bd_wide_find.specs.{Find.IsAccepted, Find.IsRequestOver, Find.IsRefusedOver, Find.HasValues, Find.request_by_value, Find.wide_find_run}
use Rattle.bd_wide_find.specs.Find as cases
use Rattle.bd_wide_find.specs.declared.{coded.Coded.Coded, question.Question.Question}
use Rattle.bd_wide_find.specs.Coded.{CopiesDump}
use Rattle.bd_wide_find.specs.inside.Fault.{IsReported, ReportsAs}
use Rattle.bd_wide_find.specs.inside.Question.{ReadsOptions, SearchesCopy}
use Rattle.bd_wide_find.proofs.{FindLemmas.coded_runs, FindLemmas.few_documents, FindLemmas.of_case, FindLemmas.reports_fault}
use Rattle.bd_wide_find.proofs.NumberLemmas.{numbers_are_of}

-- ---- how many documents

pub coded_count : (c : Scalar → Scalar) (ds : List Doc) → length (coded_documents c ds) ≡ length ds
coded_count c [] = refl
coded_count c (d ∷ ds) = omega (arith, coded_count c ds)

pub count_is : (longs : Longs) (ds : List Doc) (bytes : List ℕ) → AreJoinedBy (classed longs worth) ds bytes → IsCount bytes (length ds)
count_is longs ds bytes are = λ w es joined.
    let le : length bytes ≤ length bytes = omega arith in
    let wide = coded_documents (number_as int64) ds in
    sym (coded_count (number_as int64) ds) ∙ sym (starts_count worth wide bytes (length bytes) 0 (joined_widened longs worth ds bytes are) le) ∙ starts_count w es bytes (length bytes) 0 joined le

module _ (longs : Longs) (bytes : List ℕ) (table : List ℤ) (copy : Dump) (ds : List Doc) (are : AreJoinedBy (classed longs worth) ds bytes) (copies : CopiesDump longs bytes table copy) where
  pub few_copied : length (documents copy) ≤ greatest_count
  few_copied = subst (λ (es : List Doc). length es ≤ greatest_count) (sym (copies.documents_are ds are))
      (few_documents (coded_documents (number_coded (code table)) ds) (bytes_of_dump copy) (copies.copied ds are).0)

  pub can_print_copied : (place : ℕ) → place < length (documents copy) → (count : ℕ) × IsCount bytes count × (place < count)
  can_print_copied place lt =
      let same : length (documents copy) ≡ length ds = ap (λ (es : List Doc). length es) (copies.documents_are ds are) ∙ coded_count (number_coded (code table)) ds in
      (length ds, count_is longs ds bytes are, omega (arith, lt, same))

-- ---- the runs

module _ (text : List ℕ) (options : FindOptions) (q : Question) (requests : ReadsOptions text options q) where
  pub accepted : IsAccepted text options
  accepted = record {
    wholes = pairs q.query.wholes;
    texts = pairs q.query.texts;
    numbers = q.query.numbers.items;
    read = requests.read;
    request = request_view q.search.request;
    token = q.search.token;
    requested = requests.requested;
  }

  module _ (printing : List ℕ → Printing) (program : List ℕ) (file : Over Reader) (bytes : List ℕ) (read : ReadsInput file (Ok bytes)) where
    pub plain_run : {out err : Over Writer} {status : Status} (ds : List Doc) → q.query.numbers.items ≡ [] → IsDump ds bytes
        → Prints program (found_run (printing bytes) options.batch (request_view q.search.request, q.search.token) bytes ds) out err status
        → Prints program (wide_find_run printing text options file) out err status
    unfolding accepted
    plain_run ds none dump prints = of_case printing text options file (cases.plain accepted bytes ds read none dump) prints

    pub refused_run : HasValues q.query.numbers.items bytes → (out err_old err_new : Writer) (status : Status) (fault : SearchFault)
        → ReportsAs (IsRefusedOver options q.query.numbers.items (pairs q.query.wholes) (pairs q.query.texts) bytes) fault
        → IsReported program (between err_old err_new) status fault
        → Prints program (wide_find_run printing text options file) (between out out) (between err_old err_new) status
    unfolding accepted
    refused_run values out err_old err_new status fault is reported =
        reports_fault printing text options file out err_old err_new status (IsRefusedOver options q.query.numbers.items (pairs q.query.wholes) (pairs q.query.texts) bytes)
        (λ message of. cases.refused_over accepted bytes message read values of) (λ message of. refl) (inr (bytes, read)) fault is reported

    module _ (c : Coded) (s : SearchesCopy options q.query.numbers.items (pairs q.query.wholes) (pairs q.query.texts) bytes c) where
      requested : IsRequestOver options q.query.numbers.items (pairs q.query.wholes) (pairs q.query.texts) bytes
      requested = record { two_classes = s.two_classes; ds = s.ds; table = s.table; has = s.has; requests = s.searches.0; copy = bytes_of_dump c.copy; copied = s.copies.copied }

      pub by_value_run : HasValues q.query.numbers.items bytes → {out err : Over Writer} {status : Status} (taken : Option ℕ) → taken ≡ options.batch
          → Prints program (found_run (printing bytes) taken (request_view c.search.request, c.search.token) (bytes_of_dump c.copy) (documents c.copy)) out err status
          → Prints program (wide_find_run printing text options file) out err status
      unfolding accepted requested
      by_value_run values {out} {err} {status} taken size prints =
          let request = s.searches.0 in
          let r = request_by_value s.table request.request request.coded in
          let coded = renumber_request (table_codes s.table) request.coded.text r in
          let sized = subst (λ (x : Option ℕ). Prints program (found_run (printing bytes) x (request_view c.search.request, c.search.token) (bytes_of_dump c.copy) (documents c.copy)) out err status) size prints in
          let viewed = subst (λ (x : Request). Prints program (found_run (printing bytes) options.batch (x, c.search.token) (bytes_of_dump c.copy) (documents c.copy)) out err status) s.searches.2 sized in
          let resumed = subst (λ (x : Option Token). Prints program (found_run (printing bytes) options.batch (coded, x) (bytes_of_dump c.copy) (documents c.copy)) out err status) s.searches.1 viewed in
          let copied = subst (λ (x : List Doc). Prints program (found_run (printing bytes) options.batch (coded, request.token) (bytes_of_dump c.copy) x) out err status)
          (s.copies.documents_are s.ds s.has.are) resumed in
          of_case printing text options file (cases.by_value accepted bytes read values requested)
          (subst (λ run. Prints program run out err status)
          (coded_runs s.table r s.ds (numbers_are_of s.table s.ds s.has.same)
          (bytes_of_dump c.copy) request.coded.text (printing bytes) options.batch request.token) copied)
