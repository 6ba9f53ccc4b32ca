-- The ends of a run of `serve`, and of a run of what a session represents.
use Rattle.std.proofs.Common.{◌≡◌, ◌++◌, ℕ, List, [], None, Some, Ok, Err, Option, ap, append-nil, arith, inl, inr, length, refl, subst, sym}
use Rattle.bd_value.specs.Tree.{Doc}
use Rattle.bd_bson_check.specs.{Fault.fault_view}
use Rattle.bd_io_device.specs.Devices.{Over, Reader, TakesText, Writer, between, read_words}
use Rattle.bd_io_device.proofs.DevicesLemmas.{reads_at_least, takes_none}
use Rattle.bd_io_lines.specs.{Serving.ServesAll, Serving.StopsServing, declared.serving.ServeFault.ServeFault}
use Rattle.bd_cli_service.proofs.ServedLemmas.{served, served_lacking, served_next, served_unread}
use Rattle.bd_cli_scan.specs.{declared.input.InputFault.InputFault, declared.output.Status.Status, declared.output.Status.TheVariants.Done, declared.output.Status.TheVariants.Failed}
use Rattle.bd_cli_files.specs.{Load.FailsToLoad, Load.LoadsDump, Load.ReportsLoadFault}
use Rattle.bd_cli_scan.specs.Output.{cannot_write, error_line, fault_text, no_memory, output_before, refusal_output}
use Rattle.bd_cli_scan.specs.Run.{Prints, ReportsMessage}
use Rattle.bd_cli.specs.Serve.{command_limits, serve_run, session_run, talk_run}
use Rattle.bd_cli_scan.specs.declared.input.InputFault.TheVariants as loads
use Rattle.bd_io_device.specs.declared.reading.ReadFault.TheVariants as reads
use Rattle.bd_io_lines.specs.declared.serving.ServeFault.TheVariants as faults

-- the message for what ended `serve` before its last command
abbrev pub serve_words : ServeFault → List ℕ
serve_words (faults.Unread fault) = read_words fault
serve_words faults.NoMemory = no_memory
serve_words faults.Unwritten = cannot_write

module _ {C : Type 0} (state : C → Reader) (gives : C → Option (List ℕ) → C → Type 0) (old new : C) {S : Type 0}
    (replies : S → List ℕ → List ℕ → S → Type 0) (stays : S → S → Type 0) (s t : S) (out : Over Writer) where
  -- each read but the last gives at least one byte, so the limit of bytes comes first
  never_too_many : StopsServing state gives replies command_limits old new out s t stays (faults.Unread reads.TooManyTurns) → ⊥
  never_too_many (text, u, wrote) =
      let each = reads_at_least u.stops.turns old new (u.whole ++ u.rest) u.stops.reads.0 in
      let turns = u.stops.reads.2 in let short = u.cause.1 in omega (arith, each, turns, short)

  module _ (program : List ℕ) (status : Status) where
    abbrev PrintsReplies : Over Writer → Type 0
    PrintsReplies err = Prints program (session_run state gives old new replies s stays) out err status

    pub to_the_end : (err : Writer) → (text : List ℕ) × ServesAll state gives replies command_limits old new s text t × TakesText out text → status ≡ Done
        → PrintsReplies (between err err)
    to_the_end err (text, all, wrote) done = inl (output_before text None [], (text, None, (t, all), refl), wrote, inl (takes_none err, done))

    pub to_a_fault : (err : Over Writer) (fault : ServeFault) → StopsServing state gives replies command_limits old new out s t stays fault
        → ReportsMessage err (error_line program (serve_words fault)) Failed status → PrintsReplies err
    to_a_fault err (faults.Unread fault) (text, u, wrote) reported = inl (
      output_before text (Some (read_words fault)) [],
      (
        text,
        Some fault,
        (λ is. never_too_many (subst (λ f. StopsServing state gives replies command_limits old new out s t stays (faults.Unread f)) is (text, u, wrote)), (t, u)),
        refl,
      ),
      wrote,
      subst (λ x. ReportsMessage err x Failed status) (sym (append-nil (error_line program (read_words fault)))) reported,
    )
    to_a_fault err faults.NoMemory (text, lacks, wrote) reported = inr (inr (text, (t, lacks), wrote, reported))
    to_a_fault err faults.Unwritten (text, piece, next, failed_write) reported = inr (inl (text, piece, (t, next), failed_write, reported))

-- ---- a session that represents another

-- as in ServedLemmas
module _ {S T : Type 0} (view : S → T) (Inv : S → Type 0)
    (Replies : S → List ℕ → List ℕ → S → Type 0) (Represented : T → List ℕ → List ℕ → T → Type 0)
    (represents : (s t : S) (line text : List ℕ) → Inv s → Replies s line text t → Represented (view s) line text (view t) × Inv t)
    (Stays : S → S → Type 0) (Same : T → T → Type 0) (stays : (s t : S) → Inv s → Stays s t → Same (view s) (view t)) where
  -- what a run of a session prints, a run of what it represents prints
  pub represented_run : {C : Type 0} (state : C → Reader) (gives : C → Option (List ℕ) → C → Type 0) (old new : C) (s : S) → Inv s
      → (program : List ℕ) (out err : Over Writer) (status : Status) → Prints program (session_run state gives old new Replies s Stays) out err status
      → Prints program (session_run state gives old new Represented (view s) Same) out err status
  represented_run state gives old new s fact program out err status (inl (output, (text, None, (t, all), is), wrote, reported)) =
      inl (output, (text, None, (view t, served view Inv Replies Represented represents state gives command_limits old new s fact text t all), is), wrote, reported)
  represented_run state gives old new s fact program out err status (inl (output, (text, Some fault, (few, (t, u)), is), wrote, reported)) =
      let unread = served_unread view Inv Replies Represented represents state gives command_limits old new s fact text t fault u in
      inl (output, (text, Some fault, (few, (view t, unread)), is), wrote, reported)
  represented_run state gives old new s fact program out err status (inr (inl (text, piece, (t, next), failed_write, reported))) =
      let later = served_next view Inv Replies Represented represents state gives command_limits old new s fact text piece t next in
      inr (inl (text, piece, (view t, later), failed_write, reported))
  represented_run state gives old new s fact program out err status (inr (inr (text, (t, lacks), wrote, reported))) =
      let lacking = served_lacking view Inv Replies Represented represents state gives command_limits old new s fact Stays Same stays text t lacks in
      inr (inr (text, (view t, lacking), wrote, reported))

module _ {program : List ℕ} {C : Type 0} (state : C → Reader) (gives : C → Option (List ℕ) → C → Type 0) (file : Over Reader) where
  -- the file is a dump of these documents
  pub over_dump : (bytes : List ℕ) (ds : List Doc) → LoadsDump file bytes ds → (old new : C) (out err : Over Writer) (status : Status)
      → Prints program (talk_run state gives old new bytes ds) out err status → Prints program (serve_run state gives old new file) out err status
  over_dump bytes ds loaded old new out err status (inl (output, is, wrote, reported)) = inl (output, inr (bytes, ds, loaded, is), wrote, reported)
  over_dump bytes ds loaded old new out err status (inr (inl (text, piece, next, failed_write, reported))) =
      inr (inl (text, piece, (bytes, ds, loaded, next), failed_write, reported))
  over_dump bytes ds loaded old new out err status (inr (inr (text, begun, wrote, reported))) = inr (inr (text, inr (bytes, ds, loaded, begun), wrote, reported))

  -- the file is no dump in memory, which is reported
  pub load_reported : (old : C) (out : Writer) (err : Over Writer) (status : Status) (fault : InputFault) → FailsToLoad file fault → ReportsLoadFault program err status fault
      → Prints program (serve_run state gives old old file) (between out out) err status
  load_reported old out err status (loads.Unread fault) (inl read) (inl reported) = inl (refusal_output (read_words fault), inl (Err fault, read, refl, refl), takes_none out, reported)
  load_reported old out err status (loads.Faulty fault) (bytes, ds, read, scan, numbered) (inl reported) =
      let words = ap (λ n. error_line program (fault_text n (fault_view fault))) numbered in
      inl (
        refusal_output (fault_text (length ds) (fault_view fault)),
        inl (Ok bytes, read, (ds, fault_view fault, scan, refl), refl),
        takes_none out,
        subst (λ (x : List ℕ). ReportsMessage err x Failed status) words reported,
      )
  load_reported old out err status (loads.Unread fault) (inr (memory, (bytes, read, fits))) (inl reported) =
      let reports = subst (λ f. ReportsMessage err (error_line program (read_words f)) Failed status) memory reported in
      inr (inr ([], inl (bytes, read, refl, refl), takes_none out, reports))
  load_reported old out err status (loads.Unread fault) fails (inr (f, same, reported)) = absurd cc
  load_reported old out err status (loads.Faulty fault) (bytes, ds, read, scan, numbered) (inr (f, same, reported)) =
      inr (inr ([], inl (bytes, read, refl, refl), takes_none out, reported))
