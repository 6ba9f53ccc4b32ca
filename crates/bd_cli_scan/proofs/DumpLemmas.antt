-- How a run ends.
use Rattle.std.proofs.Common.{◌≡◌, ◌<◌, ◌+◌, ℕ, List, [], ◌∷◌, ◌++◌, length, Option, Some, None, refl, sym, ap, ap₂, ◌∙◌, subst, append-nil, append_assoc, inl, inr, arith, length-append}
use Rattle.std.proofs.{lemmas.List.get_or-append-add, KnownBytes.Appends-trans}
use Rattle.std.specs.Io.KnownBytes.{Appends}
use Rattle.std.specs.Prelude.{◌⊎◌, decimal, option_map}
use Rattle.bd_value.specs.Tree.{Doc, doc, fields_of}
use Rattle.bd_io_device.specs.Devices.{Reader, WriteFailsAfter, WriteFailsWithin, Writer, after_more, between, TakesText, read_words}
use Rattle.bd_io_device.proofs.DevicesLemmas.{no_write_fails, takes_both, write_fails_after}
use Rattle.bd_io_device.specs.declared.reading.ReadFault.{ReadFault}
use Rattle.bd_bson_check.specs.{Fault.Fault, Dump.AreJoined, Dump.IsDumpScan, Fault.fault_view}
use Rattle.bd_bson_check.proofs.FirstFaultLemmas.{IsBytes}
use Rattle.bd_bson_check.proofs.DumpLemmas.{joined_once, scan_on, scan_once}
use Rattle.bd_extjson_text.specs.Text.{text}
use Rattle.bd_bson_stream.proofs.StreamLemmas.{cut_short_stuck}
use Rattle.bd_cli_scan.specs.{declared.input.InputFault.InputFault, declared.output.OutputFault.OutputFault, declared.output.OutputFault.TheVariants.NoMemory}
use Rattle.bd_cli_scan.specs.{declared.output.OutputFault.TheVariants.Unwritten, declared.output.Status.Status, declared.output.Status.TheVariants.Failed, declared.scan.DumpScan.DumpScan}
use Rattle.bd_cli_scan.specs.Dump.{AreDocuments, ArePieces, EndsAs, Form, IsOutputOfDump, ReadsToFirstFault, closing_after, dump_output, dump_run_by, named, objects_found}
use Rattle.bd_cli_scan.specs.inside.Scan.{more_visited, none_visited}
use Rattle.bd_cli_scan.specs.inside.Scan.{AreVisited, EndsScan, PrintsAll, StopsPrinting, StopsScan, ScansDocuments, dump_texts, text_at_end}
use Rattle.bd_cli_scan.specs.Output.{Transcript, error_line, fault_text, input_words, lines, no_memory, wrong_line, wrong_status, stop_words}
use Rattle.bd_cli_scan.specs.Run.{Prints, ReportsMessage}
use Rattle.bd_cli_scan.proofs.OutputLemmas.{lines-append}
use Rattle.bd_bson_check.specs.declared.fault.Fault as reported
use Rattle.bd_cli_scan.specs.declared.input.InputFault.TheVariants as inputs

-- a write that fails after a text fails after that and what was written before
fails_later : (old mid new : Writer) (first text piece : List ℕ) → TakesText (between old mid) first → WriteFailsAfter (between mid new) text piece
    → WriteFailsAfter (between old new) (first ++ text) piece
fails_later old mid new first text piece took (prefix, rest, split, some, contents, failed) = (
  prefix,
  rest,
  split,
  some,
  subst (λ (x : List ℕ). Appends old.contents new.contents x) (sym (append_assoc first text prefix)) (Appends-trans old.contents mid.contents new.contents first (text ++ prefix) took.0 contents),
  failed ∙ ap (λ n. after_more n 1) took.1,
)

-- ---- documents and pieces, one after the other

documents_append : (form : Form) (ds es : List Doc) (p q : List ℕ) → AreDocuments form ds p → AreDocuments form es q → AreDocuments form (ds ++ es) (p ++ q)
documents_append form [] es p q none are = subst (λ (x : List ℕ). AreDocuments form es (x ++ q)) (sym none) are
documents_append form (d ∷ ds) es p q (prefix, rest, one, others, splits) are =
    (prefix, rest ++ q, one, documents_append form ds es rest q others are, ap (λ x. x ++ q) splits ∙ append_assoc prefix rest q)

one_document : (form : Form) (d : Doc) (bytes : List ℕ) → form.Spells d bytes → AreDocuments form (d ∷ []) bytes
one_document form d bytes spelled = (bytes, [], spelled, refl, sym (append-nil bytes))

pieces_join : (form : Form) (number : ℕ) (ds es : List Doc) (p q : List ℕ) → ArePieces form number ds p → ArePieces form (number + length ds) es q
    → ArePieces form number (ds ++ es) (p ++ q)
pieces_join form number [] es p q none are =
    let same : number + length {A = Doc} [] ≡ number = omega arith in
    subst (λ (x : List ℕ). ArePieces form number es (x ++ q)) (sym none) (subst (λ n. ArePieces form n es q) same are)
pieces_join form number (d ∷ ds) es p q (piece, rest, is, others, splits) are =
    let next : number + length (d ∷ ds) ≡ (number + 1) + length ds = omega arith in
    (piece, rest ++ q, is, pieces_join form (number + 1) ds es rest q others (subst (λ n. ArePieces form n es q) next are), ap (λ x. x ++ q) splits ∙ append_assoc piece rest q)

one_piece : (form : Form) (number : ℕ) (d : Doc) (piece : List ℕ) → form.IsPiece number d piece → ArePieces form number (d ∷ []) piece
one_piece form number d piece is = (piece, [], is, refl, sym (append-nil piece))

-- the documents that were scanned, and their pieces
printed : (form : Form) (vs : List (Option Fault)) (given text : List ℕ) → AreVisited (dump_texts form) vs given text
    → (ds : List Doc) × AreDocuments form ds given × (length ds ≡ length vs) × ArePieces form 0 ds text
printed form vs given text none_visited = ([], refl, refl, refl)
printed form vs given text (more_visited us prefix before None frame piece visited is (none, (d, spelled, here))) =
    let h = printed form us prefix before visited in
    let counted = h.2 in
    let number : length us ≡ 0 + length h.0 = omega (arith, counted) in (
      h.0 ++ d ∷ [],
      documents_append form h.0 (d ∷ []) prefix frame h.1 (one_document form d frame spelled),
      omega (arith, counted, length-append h.0 (d ∷ []), length-append us (None ∷ [])),
      pieces_join form 0 h.0 (d ∷ []) before piece h.3 (one_piece form (0 + length h.0) d piece (subst (λ n. form.IsPiece n d piece) number here)),
    )
printed form vs given text (more_visited us prefix before (Some f) frame piece visited is prints) = let e = prints.1 in absurd cc

none_at_end : (form : Form) (number : ℕ) (fault : Option InputFault) → text_at_end (dump_texts form) number fault ≡ []
none_at_end form number None = refl
none_at_end form number (Some (inputs.Faulty f)) = refl
none_at_end form number (Some (inputs.Unread f)) = refl

module _ (program : List ℕ) (form : Form) (old new : Reader) (out_old out_new : Writer) (err_old err_new : Writer) (status : Status) where
  -- `dump` ran as its contract says
  abbrev pub PrintsDump : Type 0
  PrintsDump = Prints program (dump_run_by form (between old new)) (between out_old out_new) (between err_old err_new) status

  abbrev Reports : List ℕ → Status → Type 0
  Reports text wanted = ReportsMessage (between err_old err_new) text wanted status

  -- the end after n documents was reported, or memory ran out for the report
  abbrev ReportsEnding : ℕ → Option InputFault → Type 0
  ReportsEnding count fault =
      Reports (wrong_line program (option_map input_words fault) ++ (decimal count ++ objects_found)) (wrong_status (option_map input_words fault))
      ⊎ ((f : reported.Fault) × (fault ≡ Some (inputs.Faulty f)) × Reports (error_line program no_memory) Failed)

  module _ (ds : List Doc) (given pieces : List ℕ) (joined : AreDocuments form ds given) (are : ArePieces form 0 ds pieces) where
    ends : (fault : Option InputFault) → EndsScan (dump_texts form) (between old new) (length ds) given fault
        → TakesText (between out_old out_new) (form.opening ++ (pieces ++ closing_after form (option_map input_words fault))) → ReportsEnding (length ds) fault → PrintsDump
    ends None (was, at) wrote (inl reported) = inl (
      dump_output form pieces (length ds) None,
      (given, None, was, (ds, pieces, None, joined, are, refl), λ e. (ds, given, [], joined, sym (append-nil given), inl refl, at)),
      wrote,
      reported,
    )
    ends (Some (inputs.Faulty f)) (part, rest, was, at, numbered, fails, last) wrote (inl reported) =
        let fault = fault_view f in
        let line = subst (λ n. Reports (error_line program (fault_text n fault) ++ (decimal (length ds) ++ objects_found)) Failed) numbered reported in
        let here : ReadsToFirstFault form (between old new) (given ++ (part ++ rest)) = (ds, given, part ++ rest, joined, refl, inr (fault, fails), (part, at)) in
        inl (
          dump_output form pieces (length ds) (Some (fault_text (length ds) fault)),
          (given ++ (part ++ rest), None, was, (ds, pieces, Some fault, (given, part ++ rest, joined, refl, fails), are, refl), λ e. here),
          wrote,
          line,
        )
    ends (Some (inputs.Unread f)) (part, was, splits) wrote (inl reported) = inl (
      dump_output form pieces (length ds) (Some (read_words f)),
      (given ++ part, Some f, was, (ds, pieces, given, part, joined, splits, refl, are, refl), λ e. absurd cc),
      wrote,
      reported,
    )
    ends None at wrote (inr reported) = let e = reported.1 in absurd cc
    ends (Some (inputs.Faulty f)) (part, rest, was, at, numbered, fails, last) wrote (inr reported) = inr (inr (
      form.opening ++ (pieces ++ []),
      inr (ds, given, joined, ((part, at), was.2), (pieces, are, ap (λ x. form.opening ++ x) (append-nil pieces))),
      wrote,
      reported.2,
    ))
    ends (Some (inputs.Unread f)) at wrote (inr reported) = let e = reported.1 in absurd cc

  pub prints_scan : (scan : DumpScan) → PrintsAll form (between old new) (between out_old out_new) scan → ReportsEnding scan.count scan.fault → PrintsDump
  prints_scan scan (vs, given, pieces, visited, counted, end, wrote) reported =
      let p = printed form vs given pieces visited in
      ends p.0 given pieces p.1 p.3 scan.fault (subst (λ n. EndsScan (dump_texts form) (between old new) n given scan.fault) (sym p.2) end) wrote
      (subst (λ n. ReportsEnding n scan.fault) (counted ∙ sym p.2) reported)

  abbrev ReportsStop : OutputFault → Type 0
  ReportsStop stopped = Reports (error_line program (stop_words stopped)) Failed

  -- the scan was stopped, after what is before the documents
  scan_stopped : (middle : Writer) → TakesText (between out_old middle) form.opening → (stopped : OutputFault)
      → StopsScan (dump_texts form) (between old new) (between middle out_new) stopped → ReportsStop stopped → PrintsDump
  scan_stopped middle opened NoMemory (vs, given, text, visited, within, wrote) reported =
      let p = printed form vs given text visited in
      inr (inr (form.opening ++ text, inr (p.0, given, p.1, within, (text, p.3, refl)), takes_both out_old middle out_new form.opening text opened wrote, reported))
  scan_stopped middle opened Unwritten (vs, given, text, piece, visited, failed_write, inl (None, frame, is, (none, (d, spelled, here)), at, no_failure)) reported =
      let p = printed form vs given text visited in
      let next = documents_append form p.0 (d ∷ []) given frame p.1 (one_document form d frame spelled) in
      let numbered = subst (λ n. form.IsPiece n d piece) (sym p.2) here in
      inr (inl (
        form.opening ++ text,
        piece,
        inr (inl (p.0, d, given ++ frame, next, (at.0, no_failure), (text, p.3, refl), numbered)),
        fails_later out_old middle out_new form.opening text piece opened failed_write,
        reported,
      ))
  scan_stopped middle opened Unwritten (vs, given, text, piece, visited, failed_write, inl (Some f, frame, is, prints, at, no_failure)) reported = let e = prints.1 in absurd cc
  scan_stopped middle opened Unwritten (vs, given, text, piece, visited, failed_write, inr (f, at, line)) reported = absurd cc

  pub prints_stop : (stopped : OutputFault) → StopsPrinting form (between old new) (between out_old out_new) stopped → ReportsStop stopped → PrintsDump
  prints_stop NoMemory (inl (unread, (same, failed_write))) reported = absurd cc
  prints_stop Unwritten (inl (unread, (same, failed_write))) reported = inr (inl ([], form.opening, inl (refl, refl, unread), failed_write, reported))
  prints_stop stopped (inr (inl (middle, opened, stops))) reported = scan_stopped middle opened stopped stops reported
  prints_stop NoMemory (inr (inr (same, rest))) reported = absurd cc
  prints_stop Unwritten (inr (inr (same, (vs, given, pieces, visited, end, failed_write)))) reported =
      let p = printed form vs given pieces visited in
      inr (inl (form.opening ++ pieces, form.closing, inr (inr (p.0, given, p.1, end.0, (pieces, p.3, refl), refl)), failed_write, reported))

-- ---- what was printed

module _ (form : Form) (old new : Reader) (before opened scanned : Writer) (took : TakesText (between before opened) form.opening) where
  -- the scan reached its end, and the rest was written too
  pub all_printed : (after : Writer) (scan : DumpScan) → ScansDocuments (dump_texts form) (between old new) (between opened scanned) scan
      → TakesText (between scanned after) (closing_after form (option_map input_words scan.fault)) → PrintsAll form (between old new) (between before after) scan
  all_printed after scan (vs, given, text, visited, counted, bad, end, wrote) closed =
      let closing = closing_after form (option_map input_words scan.fault) in
      let here = subst (λ (x : List ℕ). TakesText (between opened scanned) x) (ap (λ x. text ++ x) (none_at_end form (length vs) scan.fault) ∙ append-nil text) wrote in
      (vs, given, text, visited, counted, end, takes_both before opened after form.opening (text ++ closing) took (takes_both opened scanned after text closing here closed))

  -- what is after the documents was not written
  pub closing_stopped : (after : Writer) (scan : DumpScan) → ScansDocuments (dump_texts form) (between old new) (between opened scanned) scan
      → WriteFailsWithin (between scanned after) (closing_after form (option_map input_words scan.fault)) → StopsPrinting form (between old new) (between before after) Unwritten
  closing_stopped after scan (vs, given, text, visited, counted, bad, end, wrote) failed_write = by_fault scan.fault end wrote failed_write
    where
      by_fault : (fault : Option InputFault) → EndsScan (dump_texts form) (between old new) (length vs) given fault
          → TakesText (between opened scanned) (text ++ text_at_end (dump_texts form) (length vs) fault)
          → WriteFailsWithin (between scanned after) (closing_after form (option_map input_words fault)) → StopsPrinting form (between old new) (between before after) Unwritten
      by_fault None end wrote failed =
          let here = subst (λ (x : List ℕ). TakesText (between opened scanned) x) (append-nil text) wrote in
          inr (inr (
            refl,
            (
              vs,
              given,
              text,
              visited,
              end,
              write_fails_after before scanned after (form.opening ++ text) form.closing
                  (takes_both before opened scanned form.opening text took here) failed,
            ),
          ))
      by_fault (Some f) end wrote failed = absurd (no_write_fails scanned after [] [] failed refl)

-- ---- the form of `bsonfind`

joined_named : (ds : List Doc) (bytes : List ℕ) → AreDocuments named ds bytes → AreJoined ds bytes
joined_named [] bytes none = none
joined_named (d ∷ ds) bytes (prefix, rest, one, others, splits) = (prefix, rest, one, joined_named ds rest others, splits)

named_joined : (ds : List Doc) (bytes : List ℕ) → AreJoined ds bytes → AreDocuments named ds bytes
named_joined [] bytes none = none
named_joined (d ∷ ds) bytes (prefix, rest, one, others, splits) = (prefix, rest, one, named_joined ds rest others, splits)

lines_named : (number : ℕ) (ds : List Doc) (all : List ℕ) → ArePieces named number ds all → all ≡ lines ds
lines_named number [] all none = none
lines_named number (d ∷ ds) all (piece, rest, is, others, splits) =
    splits ∙ ap₂ (λ (x y : List ℕ). x ++ y) is (lines_named (number + 1) ds rest others) ∙ append_assoc (text (doc (fields_of d))) (10 ∷ []) (lines ds)

named_lines : (number : ℕ) (ds : List Doc) → ArePieces named number ds (lines ds)
named_lines number [] = refl
named_lines number (d ∷ ds) =
    let line = text (doc (fields_of d)) in
    (line ++ 10 ∷ [], lines ds, refl, named_lines (number + 1) ds, sym (append_assoc line (10 ∷ []) (lines ds)))

-- nothing is after the lines
no_closing : (wrong : Option (List ℕ)) → closing_after named wrong ≡ []
no_closing None = refl
no_closing (Some message) = refl

-- a scan by the form of `bsonfind` is the scan of a dump
pub scan_named : (ds : List Doc) (end : Option Fault) (bytes : List ℕ) → EndsAs named ds end bytes → IsDumpScan ds end bytes
scan_named ds None bytes are = joined_named ds bytes are
scan_named ds (Some f) bytes (prefix, rest, are, splits, fails) = (prefix, rest, joined_named ds prefix are, splits, fails)

named_scan : (ds : List Doc) (end : Option Fault) (bytes : List ℕ) → IsDumpScan ds end bytes → EndsAs named ds end bytes
named_scan ds None bytes are = named_joined ds bytes are
named_scan ds (Some f) bytes (prefix, rest, are, splits, fails) = (prefix, rest, named_joined ds prefix are, splits, fails)

-- ---- the output is determined

abbrev output_of : List Doc → List ℕ → Option (List ℕ) → Transcript
output_of ds all wrong = dump_output named all (length ds) wrong

pub output_once : (bytes : List ℕ) (fault : Option ReadFault) (s t : Transcript) → IsOutputOfDump bytes fault s → IsOutputOfDump bytes fault t → s ≡ t
output_once bytes None s t (ds, x, end, is, xs, prints) (es, y, other, was, ys, showed) =
    let e = scan_once ds es end other bytes (scan_named ds end bytes is) (scan_named es other bytes was) in
    let wrong : List Doc → Option Fault → Option (List ℕ) = λ zs o. option_map (fault_text (length zs)) o in
    prints ∙ ap (λ l. output_of ds l (wrong ds end)) (lines_named 0 ds x xs)
    ∙ ap₂ (λ (zs : List Doc) (o : Option Fault). output_of zs (lines zs) (wrong zs o)) e.0 e.1
    ∙ sym (showed ∙ ap (λ l. output_of es l (wrong es other)) (lines_named 0 es y ys))
output_once bytes (Some fault) s t (ds, x, prefix, part, joined, splits, is, xs, prints) (es, y, begin, piece, joint, short, was, ys, showed) =
    let e = joined_once ds es prefix begin part piece (joined_named ds prefix joined) (joined_named es begin joint) (cut_short_stuck part splits) (cut_short_stuck piece short) (sym is ∙ was) in
    prints ∙ ap (λ l. output_of ds l (Some (read_words fault))) (lines_named 0 ds x xs)
    ∙ ap (λ (zs : List Doc). output_of zs (lines zs) (Some (read_words fault))) e.0
    ∙ sym (showed ∙ ap (λ l. output_of es l (Some (read_words fault))) (lines_named 0 es y ys))

pub output_some : (bytes : List ℕ) → IsBytes bytes → (s : Transcript) × IsOutputOfDump bytes None s
output_some bytes fits =
    let w = scan_on [] [] bytes fits refl in
    (output_of w.more (lines w.more) (option_map (fault_text (length w.more)) w.end), (w.more, lines w.more, w.end, named_scan w.more w.end bytes w.scan, named_lines 0 w.more, refl))

bytes_after : (given rest : List ℕ) → IsBytes (given ++ rest) → IsBytes rest
bytes_after given rest h i = subst (λ n. n < 256) (get_or-append-add given rest i 0) (h (length given + i))

-- the output for a prefix of the bytes is a prefix of the output for all of them
pub prints_prefix : (bytes given rest : List ℕ) (output : Transcript) (ds : List Doc) (prefix more : List ℕ) → IsBytes bytes → bytes ≡ given ++ rest → IsOutputOfDump bytes None output
    → AreJoined ds given → lines ds ≡ prefix ++ more → (after : List ℕ) × (output.out ≡ prefix ++ after)
prints_prefix bytes given rest output ds prefix more fits splits (es, x, end, scan, xs, prints) joined is =
    let w = scan_on ds given rest (bytes_after given rest (subst (λ (x : List ℕ). IsBytes x) splits fits)) joined in
    let same = scan_once es (ds ++ w.more) end w.end bytes (scan_named es end bytes scan) (subst (λ (x : List ℕ). IsDumpScan (ds ++ w.more) w.end x) (sym splits) w.scan) in
    let bare : x ++ closing_after named (option_map (fault_text (length es)) end) ≡ x
    = ap (λ c. x ++ c) (no_closing (option_map (fault_text (length es)) end)) ∙ append-nil x in
    let out : output.out ≡ lines ds ++ lines w.more = ap (λ (s : Transcript). s.out) prints ∙ bare ∙ lines_named 0 es x xs ∙ ap lines same.0 ∙ lines-append ds w.more in
    (more ++ lines w.more, out ∙ ap (λ x. x ++ lines w.more) is ∙ append_assoc prefix more (lines w.more))
