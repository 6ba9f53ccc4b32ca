-- The lines of documents that were found, and the ends of a run of `find`.
use Rattle.std.proofs.Common.{◌≡◌, ◌<◌, ◌+◌, ℕ, List, [], ◌∷◌, ◌++◌, length, get_or, take, drop, Option, Some, None, refl, sym, ap, ap₂, ◌∙◌, subst, inl, inr, ◌⊎◌, Result, Ok, Err, append_assoc, append-nil}
use Rattle.std.proofs.{lemmas.List.take-append-drop, lemmas.List.take_more, lemmas.Option.slice_get-get_or}
use Rattle.std.proofs.lemmas.List.Elements.{All-cons, All-head, All-nil, All-tail, All-take, filter_map-append}
use Rattle.std.specs.{List.All}
use Rattle.bd_io_device.proofs.DevicesLemmas.{takes_both, takes_none, write_fails_after, write_fails_first}
use Rattle.std.specs.{Prelude.slice_get, Result.result_map_both}
use Rattle.bd_value.specs.Tree.{Doc, doc, fields_of}
use Rattle.bd_extjson_text.specs.Text.{text as text_of}
use Rattle.bd_bson_dump.specs.{Collection.documents_at}
use Rattle.bd_bson_check.specs.Fault.{fault_view}
use Rattle.bd_cli_scan.specs.{declared.output.OutputFault.OutputFault, declared.output.Status.Status, declared.output.Status.TheVariants.Done, declared.output.Status.TheVariants.Failed}
use Rattle.bd_cli_scan.specs.Output.{Transcript, error_line, fault_text, lines, no_memory, refusal_output, stop_words}
use Rattle.bd_cli_scan.specs.Run.{Prints, ReportsMessage, refusal_run}
use Rattle.bd_cli_args.specs.FindOptions.{FindOptions}
use Rattle.bd_cursor_request.specs.{Request.Request, declared.token.Token.Token, declared.results.Refused.Refused, Refused.IsRefusedPart, Refused.Reason, Refused.reason_of, Refused.refused_words}
use Rattle.bd_cli_find.specs.Options.{refused_text}
use Rattle.bd_cli_find.specs.Options.{requested_by}
use Rattle.bd_cli_find.specs.Find.{ArePieces, IsEnded, Printing, places_from, IsOutputOfFind, ReadsIfRequested, batch_output, batch_run, cursor_for, cursor_over, each_document, find_run, found_run, lines_run, output_of_text}
use Rattle.bd_cli_find.specs.Find.{counts_of}
use Rattle.bd_cli_find.specs.inside.Find.{StopsAmong, WritesPieces}
use Rattle.bd_cli_find.proofs.BatchLemmas.{led_few}
use Rattle.bd_cursor_model.specs.{Answer.at_most, Session.OpenCursor, Session.Query}
use Rattle.bd_cli_print.specs.Printer.{IsNamedText}
use Rattle.bd_cli_scan.specs.declared.output.OutputFault.TheVariants.{NoMemory, Unwritten}
use Rattle.bd_cursor_sort.specs.Selection.{query_to}
use Rattle.bd_cli_scan.proofs.OutputLemmas.{lines-append}
use Rattle.bd_io_device.specs.Devices.{Over, Reader, TakesText, WriteFailsWithin, Writer, between, read_words}
use Rattle.bd_cli_scan.specs.{declared.input.InputFault.InputFault}
use Rattle.bd_cli_files.specs.{Load.FailsToLoad, Load.ReportsLoadFault}
use Rattle.bd_cli_find.proofs.UniqueLemmas.{found_some}
use Rattle.bd_cli_scan.specs.declared.input.InputFault.TheVariants as faults

-- ---- the pieces for places

module _ {I : Type 0} (IsPiece : I → List ℕ → Type 0) where
  pub pieces_join : (ps qs : List I) (a b : List ℕ) → ArePieces IsPiece ps a → ArePieces IsPiece qs b → ArePieces IsPiece (ps ++ qs) (a ++ b)
  pieces_join [] qs a b none are = subst (λ (x : List ℕ). ArePieces IsPiece qs (x ++ b)) (sym none) are
  pieces_join (p ∷ ps) qs a b (piece, rest, is, others, splits) are =
      (piece, rest ++ b, is, pieces_join ps qs rest b others are, ap (λ x. x ++ b) splits ∙ append_assoc piece rest b)

  pub one_piece : (p : I) (piece : List ℕ) → IsPiece p piece → ArePieces IsPiece (p ∷ []) piece
  one_piece p piece is = (piece, [], is, refl, sym (append-nil piece))

  -- a piece alone was written
  pub writes_one : (n : I) (piece : List ℕ) (old new : Writer) → IsPiece n piece → TakesText (between old new) piece
      → WritesPieces IsPiece (n ∷ []) (between old new)
  writes_one n piece old new is took = (piece, one_piece n piece is, took)

  -- or it was not
  pub fails_one : (n : I) (piece : List ℕ) (old new : Writer) → IsPiece n piece → WriteFailsWithin (between old new) piece
      → StopsAmong IsPiece (n ∷ []) (between old new) Unwritten
  fails_one n piece old new is failed =
      ([], piece, ([], n, [], refl, refl, is), write_fails_after old old new [] piece (takes_none old) failed)

-- the first of the pieces for places
module _ (IsPiece : ℕ → List ℕ → Type 0) where
  module _ (ps : List ℕ) (i : ℕ) (old mid : Writer) (wrote : WritesPieces IsPiece (take i ps) (between old mid)) where
    -- the number at this place, and the others
    at_place : i < length ps → ps ≡ take i ps ++ get_or ps i 0 ∷ drop (i + 1) ps
    at_place lt =
        let others = drop (i + 1) ps in
        sym (take-append-drop (i + 1) ps) ∙ ap (λ (x : List ℕ). x ++ others) (take_more ps i 0 lt) ∙ append_assoc (take i ps) (get_or ps i 0 ∷ []) others

    -- after the first pieces memory ran out
    pub runs_out : i < length ps → StopsAmong IsPiece ps (between old mid) NoMemory
    runs_out lt = (wrote.0, inr (take i ps, get_or ps i 0, drop (i + 1) ps, at_place lt, wrote.1), wrote.2)

    module _ (new : Writer) (piece : List ℕ) (lt : i < length ps) (is : IsPiece (get_or ps i 0) piece) where
      -- one more piece was written
      pub writes_more : TakesText (between mid new) piece → WritesPieces IsPiece (take (i + 1) ps) (between old new)
      writes_more took = (
        wrote.0 ++ piece,
        subst (λ (x : List ℕ). ArePieces IsPiece x (wrote.0 ++ piece)) (sym (take_more ps i 0 lt))
            (pieces_join IsPiece (take i ps) (get_or ps i 0 ∷ []) wrote.0 piece wrote.1 (one_piece IsPiece (get_or ps i 0) piece is)),
        takes_both old mid new wrote.0 piece wrote.2 took,
      )

      -- the next piece was not written
      pub fails_next : WriteFailsWithin (between mid new) piece → StopsAmong IsPiece ps (between old new) Unwritten
      fails_next failed =
          (wrote.0, piece, (take i ps, get_or ps i 0, drop (i + 1) ps, at_place lt, wrote.1, is), write_fails_after old mid new wrote.0 piece wrote.2 failed)

-- the lines of the documents at places of a dump
module _ (ds : List Doc) where
  abbrev lines_of : List ℕ → List ℕ
  lines_of ps = lines (documents_at ds ps)

  lines_split : (ps qs : List ℕ) → lines_of (ps ++ qs) ≡ lines_of ps ++ lines_of qs
  lines_split ps qs = ap lines (filter_map-append (slice_get ds) ps qs) ∙ lines-append (documents_at ds ps) (documents_at ds qs)

  abbrev AreInside : List ℕ → Type 0
  AreInside ps = All (λ p. p < length ds) ps

  named_line : (p : ℕ) (line : List ℕ) (ps : List ℕ) → p < length ds → IsEnded (IsNamedText ds) (10 ∷ []) p line → line ++ lines_of ps ≡ lines_of (p ∷ ps)
  named_line p line ps lt (text, is, splits) =
      let there : slice_get ds p ≡ Some (get_or ds p []) = slice_get-get_or ds p [] lt in
      let words = text_of (doc (fields_of (get_or ds p []))) in
      let one : lines_of (p ∷ ps) ≡ words ++ 10 ∷ lines_of ps = (rw there refl) in
      ap (λ (x : List ℕ). x ++ lines_of ps) (splits ∙ ap (λ (x : List ℕ). x ++ 10 ∷ []) is) ∙ append_assoc words (10 ∷ []) (lines_of ps) ∙ sym one

  named_lines : (ps text : List ℕ) → AreInside ps → ArePieces (IsEnded (IsNamedText ds) (10 ∷ [])) ps text → text ≡ lines_of ps
  named_lines [] text inside none = none
  named_lines (p ∷ ps) text inside (line, rest, is, others, splits) =
      splits ∙ ap (λ (x : List ℕ). line ++ x) (named_lines ps rest (All-tail (λ p. p < length ds) p ps inside) others)
      ∙ named_line p line ps (All-head (λ p. p < length ds) p ps inside) is

  first_inside : (ps qs : List ℕ) → AreInside (ps ++ qs) → AreInside ps
  first_inside [] qs inside = All-nil (λ p. p < length ds)
  first_inside (p ∷ ps) qs inside =
      All-cons (λ p. p < length ds) p ps (All-head (λ p. p < length ds) p (ps ++ qs) inside) (first_inside ps qs (All-tail (λ p. p < length ds) p (ps ++ qs) inside))

  second_inside : (ps qs : List ℕ) → AreInside (ps ++ qs) → AreInside qs
  second_inside [] qs inside = inside
  second_inside (p ∷ ps) qs inside = second_inside ps qs (All-tail (λ p. p < length ds) p (ps ++ qs) inside)

-- ---- the ends of a run

module _ (program : List ℕ) (out_old out_new : Writer) (err_old err_new : Writer) (status : Status) where
  -- the line of a fault alone, or of out of memory
  pub refusal_is_output : (words : List ℕ) → ReportsMessage (between err_old err_new) (error_line program words) Failed status ⊎ ReportsMessage (between err_old err_new) (error_line program no_memory) Failed status
      → Prints program (refusal_run words) (between out_old out_old) (between err_old err_new) status
  refusal_is_output words (inl reported) = inl (refusal_output words, refl, takes_none out_old, reported)
  refusal_is_output words (inr reported) = inr (inr ([], refl, takes_none out_old, reported))

  module _ (printing : Printing) (size : Option ℕ) where
    -- memory ran out before a document was printed
    nothing_found : (cursor : Result OpenCursor (List ℕ)) → ReportsMessage (between err_old err_new) (error_line program no_memory) Failed status
        → Prints program (batch_run printing size cursor) (between out_old out_old) (between err_old err_new) status
    nothing_found (Ok c) reported = inr (inr ([], inl refl, takes_none out_old, reported))
    nothing_found (Err message) reported = refusal_is_output message (inr reported)

    -- the output if no cursor was opened
    pub refused_output : (w : Request × Option Token) (bytes : List ℕ) (ds : List Doc) (refused : Refused) → IsRefusedPart (places_from (query_to bytes ds w.0) w.1) refused
        → ReportsMessage (between err_old err_new) (error_line program (refused_text (reason_of refused))) Failed status ⊎ ReportsMessage (between err_old err_new) (error_line program no_memory) Failed status
        → Prints program (found_run printing size w bytes ds) (between out_old out_old) (between err_old err_new) status
    unfolding refused_words
    refused_output w bytes ds refused (inl want) reported =
        nothing_found (cursor_over w bytes ds None) (either (rw want at reported))
      where
        either : ReportsMessage (between err_old err_new) (error_line program no_memory) Failed status ⊎ ReportsMessage (between err_old err_new) (error_line program no_memory) Failed status
            → ReportsMessage (between err_old err_new) (error_line program no_memory) Failed status
        either (inl t) = t
        either (inr t) = t
    refused_output w bytes ds refused (inr led) reported = rw led (refusal_is_output (refused_text (reason_of refused)) reported)

    module _ (c : OpenCursor) where
      -- the batch was printed, and the line of counts
      pub batch_printed : WritesPieces printing.IsPiece (printing.items (at_most size c.remaining)) (between out_old out_new)
          → ReportsMessage (between err_old err_new) (counts_of size c) Done status
          → Prints program (batch_run printing size (Ok c)) (between out_old out_new) (between err_old err_new) status
      batch_printed (printed, are, took) reported = inl (output_of_text size c printed, (printed, are, refl), took, reported)

      -- standard output was stopped
      pub batch_stopped : (stopped : OutputFault) → StopsAmong printing.IsPiece (printing.items (at_most size c.remaining)) (between out_old out_new) stopped
          → ReportsMessage (between err_old err_new) (error_line program (stop_words stopped)) Failed status
          → Prints program (batch_run printing size (Ok c)) (between out_old out_new) (between err_old err_new) status
      batch_stopped NoMemory (printed, first, took) reported = inr (inr (printed, first, took, reported))
      batch_stopped Unwritten (printed, next, is, failed) reported = inr (inl (printed, next, is, failed, reported))

-- an output for an input that was read completely, or that is not needed
pub output_found : {program : List ℕ} (options : FindOptions) (file : Over Reader) {out err : Over Writer} {status : Status} (bytes : List ℕ) (output : Transcript)
    → ReadsIfRequested (requested_by options) file (Ok bytes) → IsOutputOfFind options (Ok bytes) output → Prints program (lines_run output) out err status
    → Prints program (find_run options file) out err status
output_found options file bytes output read is (inl (o, same, wrote, reported)) =
    inl (o, (Ok bytes, read, subst (λ (t : Transcript). IsOutputOfFind options (Ok bytes) t) (sym same) is), wrote, reported)
output_found options file bytes output read is (inr (inl (text, piece, next, failed, reported))) = inr (inl (text, piece, (bytes, output, read, is, next), failed, reported))
output_found options file bytes output read is (inr (inr (text, begun, wrote, reported))) = inr (inr (text, inl (bytes, output, read, is, begun), wrote, reported))

-- a refusal prints no line
pub refusal_lines : {program : List ℕ} {out err : Over Writer} {status : Status} (words : List ℕ) → Prints program (refusal_run words) out err status
    → Prints program (lines_run (refusal_output words)) out err status
refusal_lines words (inl whole) = inl whole
refusal_lines words (inr (inl next)) = inr (inl next)
refusal_lines words (inr (inr (text, none, took, reported))) = inr (inr (text, inl none, took, reported))

-- the input is no dump in memory, which is reported
pub load_reported : {program : List ℕ} (options : FindOptions) (w : Request × Option Token) (file : Over Reader) (out : Writer) (err : Over Writer) (status : Status) (fault : InputFault) → requested_by options ≡ Ok w
    → FailsToLoad file fault → ReportsLoadFault program err status fault → Prints program (find_run options file) (between out out) err status
load_reported {program} options w file out err status (faults.Unread fault) is (inl read) (inl reported) =
    inl (refusal_output (read_words fault), (Err fault, rw is read, rw is refl), takes_none out, reported)
load_reported {program} options w file out err status (faults.Faulty fault) is (bytes, ds, read, scan, numbered) (inl reported) =
    let words_of = ap (λ n. error_line program (fault_text n (fault_view fault))) numbered in
    inl (
      refusal_output (fault_text (length ds) (fault_view fault)),
      (Ok bytes, rw is read, rw is (ds, Some (fault_view fault), scan, refl)),
      takes_none out,
      subst (λ (x : List ℕ). ReportsMessage err x Failed status) words_of reported,
    )
load_reported {program} options w file out err status (faults.Unread fault) is (inr (memory, (bytes, read, fits))) (inl reported) =
    let some = found_some options bytes fits in
    let reports = subst (λ f. ReportsMessage err (error_line program (read_words f)) Failed status) memory reported in
    inr (inr ([], inl (bytes, some.0, rw is read, some.1, inl refl), takes_none out, reports))
load_reported {program} options w file out err status (faults.Unread fault) is fails (inr (f, same, reported)) = absurd cc
load_reported {program} options w file out err status (faults.Faulty fault) is (bytes, ds, read, scan, numbered) (inr (f, same, reported)) =
    let output = refusal_output (fault_text (length ds) (fault_view fault)) in
    inr (inr ([], inl (bytes, output, rw is read, rw is (ds, Some (fault_view fault), scan, refl), inl refl), takes_none out, reported))

-- ---- the documents of the dump itself

-- a run by the texts of the dump's documents is a run of `find`
module _ (program : List ℕ) (size : Option ℕ) (ds : List Doc) (out err : Over Writer) (status : Status) where
  batch_named : (c : OpenCursor) → All (λ p. p < length ds) (at_most size c.remaining) → Prints program (batch_run (each_document (IsNamedText ds) (10 ∷ [])) size (Ok c)) out err status
      → Prints program (lines_run (batch_output size ds (Ok c))) out err status
  batch_named c inside (inl (output, (printed, are, is), took, reported)) =
      inl (output, is ∙ ap (output_of_text size c) (named_lines ds (at_most size c.remaining) printed inside are), took, reported)
  batch_named c inside (inr (inl (printed, next, (ps, p, others, splits, are, one), (prefix, rest, split, some, contents, failed), reported))) =
      let within = subst (λ (x : List ℕ). All (λ p. p < length ds) x) splits inside in
      let first : printed ≡ lines_of ds ps = named_lines ds ps printed (first_inside ds ps (p ∷ others) within) are in
      let line : next ≡ lines_of ds (p ∷ []) =
      sym (append-nil next) ∙ named_line ds p next [] (All-head (λ p. p < length ds) p others (second_inside ds ps (p ∷ others) within)) one in
      let whole : lines_of ds (at_most size c.remaining) ≡ (printed ++ next) ++ lines_of ds others =
      ap (lines_of ds) splits ∙ lines_split ds ps (p ∷ others) ∙ ap₂ (λ (x y : List ℕ). x ++ y) (sym first)
      (lines_split ds (p ∷ []) others ∙ ap (λ (x : List ℕ). x ++ lines_of ds others) (sym line)) ∙ sym (append_assoc printed next (lines_of ds others)) in
      let stopped : WriteFailsWithin out (printed ++ next) =
      (printed ++ prefix, rest, ap (λ (x : List ℕ). printed ++ x) split ∙ sym (append_assoc printed prefix rest), some, contents, failed) in
      inr (inl (
        [],
        lines_of ds (at_most size c.remaining),
        (refl, refl),
        subst (λ (x : List ℕ). WriteFailsWithin out x) (sym whole) (write_fails_first out.before out.after (printed ++ next) (lines_of ds others) stopped),
        reported,
      ))
  batch_named c inside (inr (inr (printed, inl none, took, reported))) = inr (inr (printed, inl none, took, reported))
  batch_named c inside (inr (inr (printed, inr (ps, p, others, splits, are), took, reported))) =
      let within = subst (λ (x : List ℕ). All (λ p. p < length ds) x) splits inside in
      let first : printed ≡ lines_of ds ps = named_lines ds ps printed (first_inside ds ps (p ∷ others) within) are in
      let there : slice_get ds p ≡ Some (get_or ds p []) = slice_get-get_or ds p [] (All-head (λ p. p < length ds) p others (second_inside ds ps (p ∷ others) within)) in
      let next : documents_at ds (p ∷ others) ≡ get_or ds p [] ∷ documents_at ds others = (rw there refl) in
      let whole : documents_at ds (at_most size c.remaining) ≡ documents_at ds ps ++ get_or ds p [] ∷ documents_at ds others =
      ap (documents_at ds) splits ∙ filter_map-append (slice_get ds) ps (p ∷ others) ∙ ap (λ (es : List Doc). documents_at ds ps ++ es) next in
      inr (inr (printed, inr (documents_at ds ps, get_or ds p [], documents_at ds others, ap lines whole, first), took, reported))

  limited_inside : (n : ℕ) (size : Option ℕ) (ps : List ℕ) → All (λ p. p < n) ps → All (λ p. p < n) (at_most size ps)
  limited_inside n None ps inside = inside
  limited_inside n (Some k) ps inside = All-take (λ p. p < n) k ps inside

  pub found_named : (w : Request × Option Token) (bytes : List ℕ) → Prints program (found_run (each_document (IsNamedText ds) (10 ∷ [])) size w bytes ds) out err status
      → Prints program (lines_run (batch_output size ds (cursor_over w bytes ds None))) out err status
  found_named w bytes = let q = query_to bytes ds w.0 in go q refl (places_from q w.1) refl
    where
      go : (q : Query) → q.selection.count ≡ length ds → (places : Result (List ℕ) Reason) → places_from q w.1 ≡ places
          → Prints program (batch_run (each_document (IsNamedText ds) (10 ∷ [])) size (result_map_both (cursor_for 1 q w.1) refused_text places)) out err status
          → Prints program (lines_run (batch_output size ds (result_map_both (cursor_for 1 q w.1) refused_text places))) out err status
      go q count (Err why) led prints = refusal_lines (refused_text why) prints
      go q count (Ok ps) led prints =
          let inside = subst (λ (n : ℕ). All (λ p. p < n) ps) count (led_few q w.1 ps led).0 in
          batch_named (cursor_for 1 q w.1 ps) (limited_inside (length ds) size ps inside) prints
