-- The ends of a run of `serve` over documents of all types.
use Rattle.std.proofs.Common.{◌≡◌, ℕ, Bool, false, List, [], Option, ◌∙◌, refl, ap, subst, inl, inr, Ok}
use Rattle.bd_io_device.specs.Devices.{Over, Reader, Writer, between, read_words}
use Rattle.bd_io_device.proofs.DevicesLemmas.{takes_none}
use Rattle.bd_bson_check.specs.{Dump.IsDump, Fault.fault_view}
use Rattle.bd_cursor_model.specs.Laws.{new_state}
use Rattle.bd_cli_scan.specs.{Input.ReadsInput, Run.Prints, Run.ReportsMessage, declared.output.Status.Status}
use Rattle.bd_cli_scan.specs.declared.input.InputFault.{InputFault}
use Rattle.bd_cli_scan.specs.declared.input.InputFault.TheVariants as input_faults
use Rattle.bd_cli_scan.specs.declared.output.Status.TheVariants.{Failed}
use Rattle.bd_cli_scan.specs.Output.{error_line, fault_text, no_memory, refusal_output}
use Rattle.bd_cli_files.specs.Load.{ReportsLoadFault}
use Rattle.bd_cli_service.specs.Talk.{IsUnchanged, RepliesInText}
use Rattle.bd_cli.specs.Serve.{session_run, talk_run_by}
use Rattle.bd_cli.proofs.ServeLemmas.{represented_run}
use Rattle.bd_wide_find.specs.{Load.FailsToLoadWide}
use Rattle.bd_wide_service.specs.Call.{ByValue}
use Rattle.bd_wide_service.specs.Reply.{RepliesByValue}
use Rattle.bd_wide_service.specs.Serve.{IsServedByValue, ServeCase, case_run, refused_run, wide_serve_run}
use Rattle.bd_wide_service.specs.Serve as cases
use Rattle.bd_wide_service.specs.Places.{RepliesWithPlaces}
use Rattle.bd_wide_service.specs.ServiceView.{IsServiceOver, LacksPlain, LacksSomeReply, RepliesInAll, RepliesInPlain, plain_dump, plain_state, service_state}
use Rattle.bd_wide_service.specs.declared.plain.PlainService.{PlainService}
use Rattle.bd_wide_service.specs.declared.service.WideService.{WideService}
use Rattle.bd_bson_dump.specs.Collection.{bytes_of as bytes_of_dump, documents}
use Rattle.bd_bson_dump.specs.declared.collection.Dump.{Dump}

-- the replies of a session over this dump
plain_replies : (dump : Dump) (s t : PlainService) (line text : List ℕ) → plain_dump s ≡ dump → RepliesInPlain s line text t
    → RepliesWithPlaces (RepliesInText (bytes_of_dump dump) (documents dump)) (plain_state s) line text (plain_state t) × (plain_dump t ≡ dump)
plain_replies dump s t line text is r = (
  subst (λ (d : Dump). RepliesWithPlaces (RepliesInText (bytes_of_dump d) (documents d)) (plain_state s) line text (plain_state t)) is r.0,
  r.1 ∙ is,
)

module _ {program : List ℕ} {C : Type 0} (state : C → Reader) (gives : C → Option (List ℕ) → C → Type 0) (requested : Bool) (file : Over Reader) where
  -- a run of a case is a run of `serve`
  pub of_case : (old new : C) (c : ServeCase requested file) {out err : Over Writer} {status : Status}
      → Prints program (case_run state gives old new c) out err status → Prints program (wide_serve_run state gives old new requested file) out err status
  of_case old new c (inl (output, is, took, reported)) = inl (output, (c, is), took, reported)
  of_case old new c (inr (inl (text, piece, next, failed, reported))) = inr (inl (text, piece, (c, next), failed, reported))
  of_case old new c (inr (inr (text, begun, took, reported))) = inr (inr (text, inl (c, begun), took, reported))

  -- no command is read
  module _ (old : C) (out err_old err_new : Writer) (status : Status) where
    -- memory ran out before a command was read
    pub runs_out : (bytes : List ℕ) → ReadsInput file (Ok bytes) → ReportsMessage (between err_old err_new) (error_line program no_memory) Failed status
        → Prints program (wide_serve_run state gives old old requested file) (between out out) (between err_old err_new) status
    runs_out bytes read reported = inr (inr ([], inr (bytes, read, refl, refl), takes_none out, reported))

    refuses : (message : List ℕ) → ReportsMessage (between err_old err_new) (error_line program message) Failed status
        → Prints program (refused_run state gives old old message) (between out out) (between err_old err_new) status
    refuses message reported = inl (refusal_output message, (refl, refl), takes_none out, reported)

    -- the file is no dump in memory, which is reported
    pub load_reported : (fault : InputFault) → FailsToLoadWide file fault → ReportsLoadFault program (between err_old err_new) status fault
        → Prints program (wide_serve_run state gives old old requested file) (between out out) (between err_old err_new) status
    load_reported (input_faults.Unread fault) (inl read) (inl reported) = of_case old old (cases.unread fault read) (refuses (read_words fault) reported)
    load_reported (input_faults.Unread fault) (inr (memory, (bytes, read))) (inl reported) =
        runs_out bytes read (subst (λ f. ReportsMessage (between err_old err_new) (error_line program (read_words f)) Failed status) memory reported)
    load_reported (input_faults.Faulty fault) (bytes, read, first) (inl reported) =
        of_case old old (cases.faulty bytes fault read first) (refuses (fault_text fault.document (fault_view fault)) reported)
    load_reported (input_faults.Unread fault) fails (inr (f, same, reported)) = absurd (let no : ⊥ = cc in no)
    load_reported (input_faults.Faulty fault) (bytes, read, first) (inr (f, same, reported)) = runs_out bytes read reported

  module _ (old new : C) (out err : Over Writer) (status : Status) (bytes : List ℕ) (read : ReadsInput file (Ok bytes)) where
    -- what a session does if a reply is not made is left out: that its state is unchanged is said of the machine
    forget : {S : Type 0} (Replies : S → List ℕ → List ℕ → S → Type 0) (Stays : S → S → Type 0) (s : S)
        → Prints program (session_run state gives old new Replies s Stays) out err status
        → Prints program (session_run state gives old new Replies s (λ x y. y ≡ x)) out err status
    forget Replies Stays s (inl printed) = inl printed
    forget Replies Stays s (inr (inl next)) = inr (inl next)
    forget Replies Stays s (inr (inr (text, (t, (command, mid, before, lacks)), took, reported))) =
        inr (inr (text, (mid, (command, mid, before, inl refl)), took, reported))

    -- a dump without doubles and decimal128
    pub plain_run : requested ≡ false → (dump : Dump) (s : PlainService) → bytes_of_dump dump ≡ bytes → IsDump (documents dump) bytes → plain_dump s ≡ dump
        → plain_state s ≡ new_state → Prints program (session_run state gives old new RepliesInPlain s LacksPlain) out err status
        → Prints program (wide_serve_run state gives old new requested file) out err status
    plain_run not_requested dump s same is over is_new prints =
        let ds = documents dump in
        let represented = represented_run plain_state (λ t. plain_dump t ≡ dump) RepliesInPlain (RepliesWithPlaces (RepliesInText (bytes_of_dump dump) ds))
        (λ x y line text fact r. plain_replies dump x y line text fact r)
        (λ x y. y ≡ x) IsUnchanged (λ x y fact same. ap (λ t. plain_state t) same) state gives old new s over program out err status (forget RepliesInPlain LacksPlain s prints) in
        of_case old new (cases.plain bytes ds read not_requested is)
        (subst (λ (b : List ℕ). Prints program (talk_run_by state gives old new (RepliesWithPlaces (RepliesInText b ds))) out err status) same
        (subst (λ x. Prints program (session_run state gives old new (RepliesWithPlaces (RepliesInText (bytes_of_dump dump) ds)) x IsUnchanged) out err status) is_new represented))

    -- a dump by value
    pub by_value_run : IsServedByValue requested bytes → (v : ByValue bytes) (s : WideService) → IsServiceOver v s → service_state s ≡ new_state
        → Prints program (session_run state gives old new RepliesInAll s LacksSomeReply) out err status
        → Prints program (wide_serve_run state gives old new requested file) out err status
    by_value_run served v s over is_new prints =
        let represented = represented_run service_state (λ t. IsServiceOver v t) RepliesInAll (RepliesWithPlaces (RepliesByValue v))
        (λ x y line text is_over r. r bytes v is_over)
        (λ x y. y ≡ x) IsUnchanged (λ x y is_over same. ap (λ t. service_state t) same) state gives old new s over program out err status (forget RepliesInAll LacksSomeReply s prints) in
        of_case old new (cases.by_value bytes read served v)
        (subst (λ x. Prints program (session_run state gives old new (RepliesWithPlaces (RepliesByValue v)) x IsUnchanged) out err status) is_new represented)
