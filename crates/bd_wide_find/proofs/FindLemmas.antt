-- The ends of a run of `find` over documents of all types.
use Rattle.std.proofs.Common.{◌≡◌, ◌≤◌, arith, ℕ, List, [], length, Ok, refl, sym, ap, subst, inl, inr, ◌⊎◌, string_bytes}
use Rattle.std.specs.{Prelude.Option, Prelude.ℤ, Result.result_map_both}
use Rattle.bd_value.specs.Tree.{Doc}
use Rattle.bd_io_device.specs.Devices.{Over, Reader, Writer, between, read_words}
use Rattle.bd_io_device.proofs.DevicesLemmas.{takes_none}
use Rattle.bd_value.specs.Limits.{greatest_count}
use Rattle.bd_bson_check.specs.{Dump.IsDump, Fault.fault_view}
use Rattle.bd_cursor_model.specs.Session.{Query}
use Rattle.bd_cursor_request.specs.{Request.Request, declared.token.Token.Token, Refused.reason_of}
use Rattle.bd_cli_args.specs.FindOptions.{FindOptions}
use Rattle.bd_cli_scan.specs.declared.input.InputFault.{InputFault}
use Rattle.bd_cli_scan.specs.declared.input.InputFault.TheVariants as input_faults
use Rattle.bd_cli_scan.specs.{Input.ReadsInput, Run.Prints, Run.ReportsMessage, Run.refusal_run, declared.output.Status.Status}
use Rattle.bd_cli_scan.specs.declared.output.Status.TheVariants.{Failed}
use Rattle.bd_cli_scan.specs.Output.{error_line, fault_text, no_memory}
use Rattle.bd_cli_files.specs.Load.{ReportsLoadFault}
use Rattle.bd_cli_find.specs.Find.{Printing, batch_run, cursor_for, found_run, places_from}
use Rattle.bd_cli_find.specs.Options.{refused_text}
use Rattle.bd_cli_find.specs.declared.options.SearchFault.{SearchFault}
use Rattle.bd_cli_find.specs.declared.options.SearchFault.TheVariants as faults
use Rattle.bd_cli_find.proofs.{BatchLemmas.five_each, FindLemmas.refusal_is_output, OptionsLemmas.explain_refusal}
use Rattle.bd_wide_rank.specs.Rank.{code}
use Rattle.bd_wide_copy.specs.{Copy.number_coded, Dump.coded_documents}
use Rattle.bd_wide_order.specs.{Query.renumber_request, Ranks.table_codes, Renumber.DocumentsAreOf}
use Rattle.bd_wide_find.specs.Find.{FindCase, IsAccepted, case_run, wide_find_run}
use Rattle.bd_wide_find.specs.Find as cases
use Rattle.bd_wide_find.specs.Load.{FailsToLoadWide}
use Rattle.bd_wide_find.specs.inside.Fault.{IsReported, ReportsAs}
use Rattle.bd_wide_find.proofs.AnswerLemmas.{coded_answers}

module _ {program : List ℕ} (printing : List ℕ → Printing) (text : List ℕ) (options : FindOptions) (file : Over Reader) where
  -- a run of a case is a run of `find`
  pub of_case : (c : FindCase text options file) {out err : Over Writer} {status : Status} → Prints program (case_run printing c) out err status
      → Prints program (wide_find_run printing text options file) out err status
  of_case c (inl (output, is, took, reported)) = inl (output, (c, is), took, reported)
  of_case c (inr (inl (printed, piece, next, failed, reported))) = inr (inl (printed, piece, (c, next), failed, reported))
  of_case c (inr (inr (printed, begun, took, reported))) = inr (inr (printed, inl (c, begun), took, reported))

  module _ (out err_old err_new : Writer) (status : Status) where
    -- memory ran out before anything was printed
    pub runs_out : (file.after ≡ file.before) ⊎ ((bytes : List ℕ) × ReadsInput file (Ok bytes))
        → ReportsMessage (between err_old err_new) (error_line program no_memory) Failed status
        → Prints program (wide_find_run printing text options file) (between out out) (between err_old err_new) status
    runs_out read reported = inr (inr ([], inr (refl, read), takes_none out, reported))

    -- a fault of the options was reported
    pub reports_fault : (IsMessage : List ℕ → Type 0) (case_of : (message : List ℕ) → IsMessage message → FindCase text options file)
        → ((message : List ℕ) (is : IsMessage message) → case_run printing (case_of message is) ≡ refusal_run message)
        → (file.after ≡ file.before) ⊎ ((bytes : List ℕ) × ReadsInput file (Ok bytes))
        → (fault : SearchFault) → ReportsAs IsMessage fault → IsReported program (between err_old err_new) status fault
        → Prints program (wide_find_run printing text options file) (between out out) (between err_old err_new) status
    reports_fault IsMessage case_of runs read faults.NoMemory is reported = runs_out read reported
    reports_fault IsMessage case_of runs read (faults.Refused refused) is reported =
        let message = refused_text (reason_of refused) in
        of_case (case_of message is) (subst (λ run. Prints program run (between out out) (between err_old err_new) status) (sym (runs message is))
        (refusal_is_output program out out err_old err_new status message (explain_refusal program (between err_old err_new) (reason_of refused) status reported)))
    reports_fault IsMessage case_of runs read (faults.Message words) is reported =
        let message = string_bytes words in
        of_case (case_of message is) (subst (λ run. Prints program run (between out out) (between err_old err_new) status) (sym (runs message is))
        (refusal_is_output program out out err_old err_new status message (inl reported)))

    -- the input is no dump in memory, which is reported
    pub load_reported : (a : IsAccepted text options) (fault : InputFault) → FailsToLoadWide file fault
        → ReportsLoadFault program (between err_old err_new) status fault
        → Prints program (wide_find_run printing text options file) (between out out) (between err_old err_new) status
    load_reported a (input_faults.Unread fault) (inl read) (inl reported) =
        of_case (cases.unread fault a read) (refusal_is_output program out out err_old err_new status (read_words fault) (inl reported))
    load_reported a (input_faults.Unread fault) (inr (memory, read)) (inl reported) =
        runs_out (inr read) (subst (λ f. ReportsMessage (between err_old err_new) (error_line program (read_words f)) Failed status) memory reported)
    load_reported a (input_faults.Faulty fault) (bytes, read, first) (inl reported) =
        of_case (cases.faulty bytes fault a read first)
        (refusal_is_output program out out err_old err_new status (fault_text fault.document (fault_view fault)) (inl reported))
    load_reported a (input_faults.Unread fault) fails (inr (f, same, reported)) = absurd (let no : ⊥ = cc in no)
    load_reported a (input_faults.Faulty fault) (bytes, read, first) (inr (f, same, reported)) = runs_out (inr (bytes, read)) reported

-- ---- codes

-- a search with codes over the copy has the run of the search by value over the documents
pub coded_runs : (table : List ℤ) (r : Request) (ds : List Doc) → DocumentsAreOf (table_codes table) ds
    → (copy text : List ℕ) (printing : Printing) (size : Option ℕ) (token : Option Token)
    → found_run printing size (renumber_request (table_codes table) text r, token) copy (coded_documents (number_coded (code table)) ds)
    ≡ found_run printing size (record r { text = text }, token) copy ds
coded_runs table r ds are copy text printing size token =
    ap (λ (q : Query). batch_run printing size (result_map_both (cursor_for 1 q token) refused_text (places_from q token))) (coded_answers table r ds are copy text)

-- ---- the dump itself

-- a run over a dump in memory is one over its documents
pub found_in_dump : {program : List ℕ} {out err : Over Writer} {status : Status} (printing : List ℕ → Printing) (w : Request × Option Token) (taken size : Option ℕ) (read bytes : List ℕ)
    (es ds : List Doc) → taken ≡ size → read ≡ bytes → es ≡ ds
    → Prints program (found_run (printing read) taken w read es) out err status
    → Prints program (found_run (printing bytes) size w bytes ds) out err status
found_in_dump {program} {out} {err} {status} printing w taken size read bytes es ds sizes reads same prints =
    subst (λ (xs : List Doc). Prints program (found_run (printing bytes) size w bytes xs) out err status) same
    (subst (λ (x : List ℕ). Prints program (found_run (printing x) size w x es) out err status) reads
    (subst (λ (x : Option ℕ). Prints program (found_run (printing read) x w read es) out err status) sizes prints))

-- no dump has more documents than a batch may have
pub few_documents : (ds : List Doc) (bytes : List ℕ) → IsDump ds bytes → length ds ≤ greatest_count
few_documents ds bytes dump = let few = five_each ds bytes dump.0 in let short = dump.1 in omega (arith, few, short)
