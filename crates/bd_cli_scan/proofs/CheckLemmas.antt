-- The output of `check` is determined, and its status is that of `dump`.
use Rattle.std.proofs.Common.{◌≡◌, ◌≤◌, ℕ, suc, ◌+◌, List, [], ◌∷◌, ◌++◌, length, Option, Some, None, Err, refl, sym, ap, ap₂, ◌∙◌, subst, inl, inr, append_assoc}
use Rattle.std.proofs.Common.{append-nil, arith, length-append, map}
use Rattle.std.proofs.lemmas.List.{take_at, drop_at}
use Rattle.std.specs.Prelude.{IfSome, option_map}
use Rattle.bd_value.specs.{Limits.longest_input, Tree.Doc}
use Rattle.bd_io_device.specs.Devices.{Reader, TakesText, Writer, between, read_words}
use Rattle.bd_io_device.specs.declared.reading.ReadFault.{ReadFault}
use Rattle.bd_bson_check.specs.{Dump.frame_length, Dump.framed_under, Fault.Fault, FirstFault.fault_under, Fault.fault_view}
use Rattle.bd_bson_check.specs.declared.profile.{Profile.Profile, Profile.TheVariants.Named}
use Rattle.bd_bson_stream.specs.Stream.{IsFrame}
use Rattle.bd_bson_stream.proofs.StreamLemmas.{frame_on, frames_once}
use Rattle.bd_bson_dump.specs.CheckResults.{check_results_at, check_results, check_results_under, BeginAs}
use Rattle.bd_bson_dump.proofs.CheckResultLemmas.{none_at, turn_at, last_at, as_scan}
use Rattle.bd_cli_scan.specs.{Input.StopsInside, Input.StreamsInput, declared.input.InputFault.InputFault, declared.output.OutputFault.OutputFault}
use Rattle.bd_cli_scan.specs.{declared.output.Status.Status, declared.output.Status.TheVariants.Failed}
use Rattle.bd_cli_scan.specs.Check.{AreCheckResults, ChecksWithinLimit, HasResultsFirst, IsOutputOfCheck, check_counts, check_status, check_output, check_result_line, check_result_lines, check_run_under}
use Rattle.bd_cli_scan.specs.inside.Scan.{AreVisited, IsTextOf, StopsScan}
use Rattle.bd_cli_scan.specs.Dump.{IsOutputOfDump}
use Rattle.bd_cli_scan.specs.inside.Scan.{more_visited, none_visited}
use Rattle.bd_cli_scan.specs.inside.Scan.{ScansDocuments, check_texts}
use Rattle.bd_cli_scan.specs.Output.{error_line, stop_words, Transcript, fault_text, wrong_line, wrong_status}
use Rattle.bd_cli_scan.specs.Run.{Prints, ReportsMessage}
use Rattle.bd_cli_scan.specs.declared.output.OutputFault.TheVariants.{NoMemory, Unwritten}
use Rattle.bd_cli_scan.proofs.DumpLemmas.{scan_named}
use Rattle.bd_cli_scan.proofs.ScanLemmas.{faulty_append, faulty_count, known_whole, rest_of, visited_frames}
use Rattle.bd_io_device.proofs.DevicesLemmas.{no_write_fails}
use Rattle.bd_bson_check.specs.declared.fault.Fault as reported
use Rattle.bd_cli_scan.specs.declared.input.InputFault.TheVariants as inputs

check_results_once : (p : Profile) (bytes : List ℕ) (fault : Option ReadFault) (vs ws : List (Option Fault)) → AreCheckResults p bytes fault vs → AreCheckResults p bytes fault ws → vs ≡ ws
check_results_once p bytes None vs ws are were = are ∙ sym were
check_results_once p bytes (Some fault) vs ws (frames, prefix, part, framed, splits, is, are) (others, begin, piece, parted, short, was, were) =
    are ∙ ap (check_results_under p) (frames_once frames others prefix begin part piece framed parted splits short (sym is ∙ was)) ∙ sym were

pub checked_once : (bytes : List ℕ) (fault : Option ReadFault) (s t : Transcript) → IsOutputOfCheck bytes fault s → IsOutputOfCheck bytes fault t → s ≡ t
checked_once bytes fault s t (vs, are, prints) (ws, were, showed) =
    prints ∙ ap (λ (xs : List (Option Fault)). check_output xs fault) (check_results_once Named bytes fault vs ws are were) ∙ sym showed

pub checked_some : (bytes : List ℕ) → (s : Transcript) × IsOutputOfCheck bytes None s
checked_some bytes = (check_output (check_results bytes) None, (check_results bytes, refl, refl))

-- ---- the status

abbrev whole : List Doc → List (Option Fault)
whole = map (λ d. None)

none_faulty : (ds : List Doc) → faulty_count (whole ds) ≡ 0
none_faulty [] = refl
none_faulty (d ∷ ds) = faulty_append (None ∷ []) (whole ds) ∙ ap (λ n. 0 + n) (none_faulty ds)

failed_status : (n : ℕ) → check_status None (1 + n) ≡ Failed
failed_status n = let e : 1 + n ≡ suc n = omega arith in ap (check_status None) e

abbrev dump_status : List Doc → Option Fault → Status
dump_status ds end = wrong_status (option_map (fault_text (length ds)) end)

scan_checked : (ds : List Doc) (end : Option Fault) (vs : List (Option Fault)) → BeginAs ds end vs → dump_status ds end ≡ check_status None (faulty_count vs)
scan_checked ds None vs is = sym (ap (λ ws. check_status None (faulty_count ws)) is ∙ ap (check_status None) (none_faulty ds))
scan_checked ds (Some f) vs is =
    let count : faulty_count vs ≡ 1 + faulty_count is.0 = ap faulty_count is.1 ∙ faulty_append (whole ds) (Some f ∷ is.0)
    ∙ ap (λ n. n + faulty_count (Some f ∷ is.0)) (none_faulty ds) ∙ omega (arith, faulty_append (Some f ∷ []) is.0) in
    sym (ap (check_status None) count ∙ failed_status (faulty_count is.0))

abbrev status_of : Transcript → Status
status_of output = output.status

pub same_status : (bytes : List ℕ) (fault : Option ReadFault) (s t : Transcript) → IsOutputOfDump bytes fault s → IsOutputOfCheck bytes fault t → s.status ≡ t.status
same_status bytes None s t p q =
    ap status_of p.5 ∙ scan_checked p.0 p.2 (check_results bytes) (as_scan p.0 p.2 bytes (scan_named p.0 p.2 bytes p.3)) ∙ ap (λ (vs : List (Option Fault)). check_status None (faulty_count vs)) (sym q.1) ∙ sym (ap status_of q.2)
same_status bytes (Some fault) s t p q = ap status_of p.8 ∙ sym (ap status_of q.2)

-- the result of a check, as contracts see it
abbrev CheckResult : Type 0
CheckResult = Option Fault

lines_append : (number : ℕ) (us vs : List CheckResult) → check_result_lines number (us ++ vs) ≡ check_result_lines number us ++ check_result_lines (number + length us) vs
lines_append number [] vs = ap (λ n. check_result_lines n vs) (omega arith)
lines_append number (u ∷ us) vs =
    let next : suc number + length us ≡ number + length (u ∷ us) = omega arith in
    ap (λ x. check_result_line number u ++ x) (lines_append (suc number) us vs ∙ ap (λ n. check_result_lines (suc number) us ++ check_result_lines n vs) next)
    ∙ sym (append_assoc (check_result_line number u) (check_result_lines (suc number) us) (check_result_lines (number + length (u ∷ us)) vs))

-- the lines for joined results are those for the first, then those for the next ones
lines_after : (us vs : List CheckResult) → check_result_lines 0 (us ++ vs) ≡ check_result_lines 0 us ++ check_result_lines (length us) vs
lines_after us vs = let number : 0 + length us ≡ length us = omega arith in lines_append 0 us vs ∙ ap (λ n. check_result_lines 0 us ++ check_result_lines n vs) number

lines_more : (us : List CheckResult) (v : CheckResult) → check_result_lines 0 (us ++ v ∷ []) ≡ check_result_lines 0 us ++ check_result_line (length us) v
lines_more us v = lines_after us (v ∷ []) ∙ ap (λ x. check_result_lines 0 us ++ x) (append-nil (check_result_line (length us) v))

-- the result for a document with a length, and then those for what follows it
turn_on : (p : Profile) (offset : ℕ) (frame rest : List ℕ) (v : CheckResult) → IsFrame frame → fault_under p offset frame ≡ v → check_results_at p offset (frame ++ rest) ≡ v ∷ check_results_at p (offset + length frame) rest
turn_on p offset frame rest v is first =
    turn_at p offset (length frame) (frame ++ rest) (frame_on frame rest is)
    ∙ ap₂ (λ (x y : List ℕ). fault_under p offset x ∷ check_results_at p (offset + length frame) y) (take_at frame rest (length frame) refl) (drop_at frame rest (length frame) refl)
    ∙ ap (λ (x : CheckResult). x ∷ check_results_at p (offset + length frame) rest) first

-- what was written for a document is the line of its result
line_of : (p : Profile) (number offset : ℕ) (frame : List ℕ) (v : CheckResult) (piece : List ℕ) → IsTextOf (check_texts p) number offset frame v piece
    → (fault_under p offset frame ≡ v) × (piece ≡ check_result_line number v)
line_of p number offset frame None piece (none, line) = (none, line)
line_of p number offset frame (Some f) piece (first, line) = (first, cc)

-- what was written for documents is the lines of their results, and these begin all results
checked : (p : Profile) (vs : List CheckResult) (given text : List ℕ) → AreVisited (check_texts p) vs given text
    → (text ≡ check_result_lines 0 vs) × ((rest : List ℕ) → check_results_under p (given ++ rest) ≡ vs ++ check_results_at p (length given) rest)
checked p vs given text none_visited = (refl, λ rest. refl)
checked p vs given text (more_visited us prefix before v frame piece visited is prints) =
    let h = checked p us prefix before visited in
    let line = line_of p (length us) (length prefix) frame v piece prints in (
      ap₂ (λ (x y : List ℕ). x ++ y) h.0 line.1 ∙ sym (lines_more us v),
      λ rest.
          let here : check_results_at p (length prefix) (frame ++ rest) ≡ v ∷ check_results_at p (length (prefix ++ frame)) rest
          = turn_on p (length prefix) frame rest v is line.0 ∙ ap (λ n. v ∷ check_results_at p n rest) (sym (length-append prefix frame)) in
          ap (check_results_under p) (append_assoc prefix frame rest) ∙ h.1 (frame ++ rest) ∙ ap (λ (xs : List CheckResult). us ++ xs) here
          ∙ sym (append_assoc us (v ∷ []) (check_results_at p (length (prefix ++ frame)) rest)),
    )

-- the single result for bytes with a bad length
check_result_on : (p : Profile) (offset : ℕ) (bytes all : List ℕ) (f : reported.Fault) → frame_length bytes ≡ Err f.kind → frame_length all ≡ Err f.kind
    → framed_under p offset all (frame_length all) ≡ Some (fault_view f) → check_results_at p offset bytes ≡ Some (fault_view f) ∷ []
check_result_on p offset bytes all f is long fails =
    last_at p offset bytes f.kind is ∙ ap (λ (v : CheckResult). v ∷ []) (sym (ap (framed_under p offset all) long) ∙ fails)

module _ {p : Profile} {vs : List CheckResult} {given text : List ℕ} (visited : AreVisited (check_texts p) vs given text) where
  -- all of the bytes are documents that were checked
  all_checked : vs ≡ check_results_under p given
  all_checked =
      let all = (checked p vs given text visited).1 [] in
      sym (ap (check_results_under p) (sym (append-nil given)) ∙ all ∙ ap (λ (xs : List CheckResult). vs ++ xs) (none_at p (length given)) ∙ append-nil vs)

  streams : (old new : Reader) (part : List ℕ) → StopsInside given part (between old new) → new.failures ≡ old.failures → StreamsInput (between old new) (given ++ (part ++ rest_of new.remaining)) None
  streams old new part at no_failure =
      let frames = visited_frames vs given text visited in
      let known = known_whole old.remaining new.remaining (given ++ part) at.0 in
      (subst (λ (x : List ℕ). IfSome old.remaining (λ xs. x ≡ xs)) (append_assoc given part (rest_of new.remaining)) known, (frames.0, given, frames.1, (part, at)), no_failure)

  -- the fault of the next document, of which this part was read, comes after the results so far
  next_line : (old new : Reader) (part bytes : List ℕ) (f : Fault) (more : List CheckResult) (piece : List ℕ) → StreamsInput (between old new) (given ++ bytes) None → StopsInside given part (between old new)
      → check_results_at p (length given) part ≡ Some f ∷ [] → check_results_at p (length given) bytes ≡ Some f ∷ more
      → piece ≡ check_result_line (length vs) (Some f) → (check_run_under p (between old new)).IsNext text piece
  next_line old new part bytes f more piece was at last first line =
      let j = checked p vs given text visited in
      let begins = j.1 bytes ∙ ap (λ (xs : List CheckResult). vs ++ xs) first ∙ sym (append_assoc vs (Some f ∷ []) more) in
      (vs, f, given ++ part, j.1 part ∙ ap (λ (xs : List CheckResult). vs ++ xs) last, (at.0, was.2), (given ++ bytes, more, was, begins), j.0, line)

-- ---- the end of a run

module _ (program : List ℕ) (p : Profile) (old new : Reader) (out_old out_new : Writer) (err_old err_new : Writer) (status : Status) where
  abbrev pub PrintsCheck : Type 0
  PrintsCheck = Prints program (check_run_under p (between old new)) (between out_old out_new) (between err_old err_new) status

  abbrev Reported : ℕ → ℕ → Option ReadFault → Type 0
  Reported count worse unread =
      let message = option_map read_words unread in
      ReportsMessage (between err_old err_new) (wrong_line program message ++ check_counts count worse) (check_status message worse) status

  abbrev Scanned : ℕ → ℕ → Option InputFault → Type 0
  Scanned documents bad fault = ScansDocuments (check_texts p) (between old new) (between out_old out_new) (record { count = documents; bad = bad; fault = fault })

  -- all documents were checked: their lines were written, and these are their counts
  prints : (bytes : List ℕ) (unread : Option ReadFault) (vs : List CheckResult) (documents faulty : ℕ) → StreamsInput (between old new) bytes unread
      → ChecksWithinLimit bytes unread → AreCheckResults p bytes unread vs → documents ≡ length vs → faulty ≡ faulty_count vs
      → TakesText (between out_old out_new) (check_result_lines 0 vs) → Reported documents faulty unread → PrintsCheck
  prints bytes unread vs documents faulty was within are counted bad wrote reported =
      let all = subst (λ n. Reported (length vs) n unread) bad (subst (λ n. Reported n faulty unread) counted reported) in
      inl (check_output vs unread, (bytes, unread, was, within, (vs, are, refl)), wrote, all)

  -- nothing was written after the lines of the documents
  lines_taken : (vs : List CheckResult) (given text : List ℕ) → AreVisited (check_texts p) vs given text → TakesText (between out_old out_new) (text ++ [])
      → TakesText (between out_old out_new) (check_result_lines 0 vs)
  lines_taken vs given text visited wrote =
      subst (λ (x : List ℕ). TakesText (between out_old out_new) x) (append-nil text ∙ (checked p vs given text visited).0) wrote

  pub prints_whole : (documents bad : ℕ) → Scanned documents bad None → Reported documents bad None → PrintsCheck
  prints_whole documents bad (vs, given, text, visited, counted, faulty, (was, (part, at)), wrote) reported =
      let short : length given ≤ longest_input = let all = at.1 in omega (arith, length-append given part) in
      prints given None vs documents bad was (inl short) (all_checked visited) counted faulty (lines_taken vs given text visited wrote) reported

  pub prints_unread : (documents bad : ℕ) (f : ReadFault) → Scanned documents bad (Some (inputs.Unread f)) → Reported documents bad (Some f) → PrintsCheck
  prints_unread documents bad f (vs, given, text, visited, counted, faulty, (part, was, splits), wrote) reported =
      let frames = visited_frames vs given text visited in
      let are : AreCheckResults p (given ++ part) (Some f) vs = (frames.0, given, part, frames.1, splits, refl, all_checked visited) in
      prints (given ++ part) (Some f) vs documents bad was tt are counted faulty (lines_taken vs given text visited wrote) reported

  -- the last document has a bad length
  pub prints_faulty : (documents bad : ℕ) (f : reported.Fault) → Scanned documents bad (Some (inputs.Faulty f)) → Reported (documents + 1) (bad + 1) None → PrintsCheck
  prints_faulty documents bad f (vs, given, text, visited, counted, faulty, (part, rest, was, at, numbered, fails, inl none), wrote) reported = absurd cc
  prints_faulty documents bad f (vs, given, text, visited, counted, faulty, (part, rest, was, at, numbered, fails, inr (is, long)), wrote) reported =
      let v = Some (fault_view f) in
      let j = checked p vs given text visited in
      let frames = visited_frames vs given text visited in
      let turn = check_result_on p (length given) (part ++ rest) (part ++ rest) f long long fails in
      let are = sym (j.1 (part ++ rest) ∙ ap (λ (xs : List CheckResult). vs ++ xs) turn) in
      let more : documents + 1 ≡ length (vs ++ v ∷ []) = omega (arith, length-append vs (v ∷ [])) in
      let worse = ap (λ n. n + 1) faulty ∙ sym (faulty_append vs (v ∷ [])) in
      let lines_are = ap (λ x. x ++ check_result_line (length vs) v) j.0 ∙ sym (lines_more vs v) in
      let short : length given ≤ longest_input = let all = at.1 in omega (arith, length-append given part) in
      let limit : ChecksWithinLimit (given ++ (part ++ rest)) None = inr (frames.0, given, part ++ rest, f.kind, frames.1, refl, long, short) in
      prints (given ++ (part ++ rest)) None (vs ++ v ∷ []) (documents + 1) (bad + 1) was limit are more worse
      (subst (λ (x : List ℕ). TakesText (between out_old out_new) x) lines_are wrote) reported

  -- the run was stopped
  abbrev Reports : OutputFault → Type 0
  Reports stopped = ReportsMessage (between err_old err_new) (error_line program (stop_words stopped)) Failed status

  pub prints_stop : (stopped : OutputFault) → StopsScan (check_texts p) (between old new) (between out_old out_new) stopped → Reports stopped → PrintsCheck
  prints_stop NoMemory (vs, given, text, visited, ((part, at), no_failure), wrote) reported =
      let bytes = part ++ rest_of new.remaining in
      let j = checked p vs given text visited in
      let first : HasResultsFirst p (between old new) vs = (given ++ bytes, check_results_at p (length given) bytes, streams visited old new part at no_failure, j.1 bytes) in
      inr (inr (text, (vs, given, sym (all_checked visited), ((part, at), no_failure), first, j.0), wrote, reported))
  prints_stop Unwritten (vs, given, text, piece, visited, failed_write, inl (None, frame, is, (none, line), at, no_failure)) reported =
      absurd (no_write_fails out_old out_new text piece failed_write line)
  prints_stop Unwritten (vs, given, text, piece, visited, failed_write, inl (Some f, frame, is, prints, at, no_failure)) reported =
      let line = line_of p (length vs) (length given) frame (Some f) piece prints in
      let rest = rest_of new.remaining in
      let last : check_results_at p (length given) frame ≡ Some f ∷ [] = ap (check_results_at p (length given)) (sym (append-nil frame)) ∙ turn_on p (length given) frame [] (Some f) is line.0
      ∙ ap (λ (xs : List CheckResult). Some f ∷ xs) (none_at p (length given + length frame)) in
      let next = next_line visited old new frame (frame ++ rest) f (check_results_at p (length given + length frame) rest) piece (streams visited old new frame at no_failure) at last
      (turn_on p (length given) frame rest (Some f) is line.0) line.1 in
      inr (inl (text, piece, next, failed_write, reported))
  prints_stop Unwritten (vs, given, text, piece, visited, failed_write, inr (f, (part, rest, was, at, numbered, fails, inl none), line)) reported = absurd cc
  prints_stop Unwritten (vs, given, text, piece, visited, failed_write, inr (f, (part, rest, was, at, numbered, fails, inr (is, long)), line)) reported =
      let same : piece ≡ check_result_line (length vs) (Some (fault_view f)) = cc in
      let next = next_line visited old new part (part ++ rest) (fault_view f) [] piece was at (check_result_on p (length given) part (part ++ rest) f is long fails)
      (check_result_on p (length given) (part ++ rest) (part ++ rest) f long long fails) same in
      inr (inl (text, piece, next, failed_write, reported))

-- what was printed is a prefix of the output for all bytes of the input
pub prints_prefix : (bytes : List ℕ) (output : Transcript) (vs more : List CheckResult) → IsOutputOfCheck bytes None output → check_results bytes ≡ vs ++ more
    → (after : List ℕ) × (output.out ≡ check_result_lines 0 vs ++ after)
prints_prefix bytes output vs more (ws, are, prints) splits = (
  check_result_lines (length vs) more,
  ap (λ (t : Transcript). t.out) prints ∙ ap (check_result_lines 0) (are ∙ splits) ∙ lines_after vs more,
)
