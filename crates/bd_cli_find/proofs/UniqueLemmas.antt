-- The options of `find` and an input have one output.
use Rattle.std.proofs.Common.{◌≡◌, ℕ, List, [], Option, None, Result, Ok, Err, codes, refl, sym, ap, ap₂, ◌∙◌}
use Rattle.bd_value.specs.Tree.{Doc}
use Rattle.bd_io_device.specs.declared.reading.ReadFault.{ReadFault}
use Rattle.bd_bson_check.specs.{Dump.IsDumpScan, Fault.Fault}
use Rattle.bd_bson_check.proofs.{FirstFaultLemmas.IsBytes, DumpLemmas.scan_once, DumpLemmas.scan_on}
use Rattle.bd_cli_args.specs.FindOptions.{FindOptions}
use Rattle.bd_path.specs.declared.path.PathFault.{PathFault}
use Rattle.bd_cursor_request.specs.{declared.token.Token.Token, Refused.Reason, Refused.then_part, Refused.error_as, Request.Request, Request.named_index, Request.request_of}
use Rattle.bd_cli_find.specs.Options.{after_part, batch_part, document_in, index_fault_text, refused_text, requested_by, search_of}
use Rattle.bd_cli_find.specs.Find.{IsOutputOfFind, IsOutputOf, batch_output, cursor_over, documents_output}
use Rattle.bd_cli_scan.specs.Output.{Transcript, lines, refusal_output}

-- ---- there is one output

prints_once : (size : Option ℕ) (requested : Result (Request × Option Token) (List ℕ)) (input : Result (List ℕ) ReadFault) (s t : Transcript)
    → IsOutputOf size requested input s → IsOutputOf size requested input t → s ≡ t
prints_once size (Err m) input s t p q = p ∙ sym q
prints_once size (Ok w) (Err fault) s t p q = p ∙ sym q
prints_once size (Ok w) (Ok bytes) s t (ds, end, scan, e) (es, other, scanned, f) =
    let same = scan_once ds es end other bytes scan scanned in
    e ∙ ap₂ (λ (xs : List Doc) (o : Option Fault). batch_output size xs (cursor_over w bytes xs o)) same.0 same.1 ∙ sym f

pub found_once : (options : FindOptions) (input : Result (List ℕ) ReadFault) (s t : Transcript) → IsOutputOfFind options input s → IsOutputOfFind options input t → s ≡ t
found_once options = prints_once options.batch (requested_by options)

-- ---- without a batch and a token the whole answer is printed

-- the request resumes after the token in the options
search_token : (options : FindOptions) (query sort : Doc) (w : Request × Option Token) → search_of options query sort ≡ Ok w → after_part options.after ≡ Ok w.1
search_token options query sort w = go (request_of query sort options.skip options.limit) (batch_part options.batch) (named_index options.index) (after_part options.after)
  where
    go : (request : Result Request Reason) (batch : Result (Unit {0}) Reason) (index : Result (Unit {0}) PathFault) (after : Result (Option Token) Reason)
        → then_part (error_as refused_text request) (λ r. then_part (error_as refused_text batch) (λ _. then_part (error_as index_fault_text index) (λ _.
        then_part (error_as refused_text after) (λ t. Ok (r, t))))) ≡ Ok w
        → after ≡ Ok w.1
    go (Ok r) (Ok _) (Ok _) (Ok t) e =
        let is : (r, t) ≡ w = cc in
        ap (λ (x : Request × Option Token). Ok x.1) is
    go (Ok r) (Ok b) (Ok i) (Err why) e = absurd (let f : ⊥ = cc in f)
    go (Ok r) (Ok b) (Err why) after e = absurd (let f : ⊥ = cc in f)
    go (Ok r) (Err why) index after e = absurd (let f : ⊥ = cc in f)
    go (Err why) batch index after e = absurd (let f : ⊥ = cc in f)

requested_token : (options : FindOptions) (w : Request × Option Token) → requested_by options ≡ Ok w → after_part options.after ≡ Ok w.1
requested_token options w = go (document_in (codes "query") options.query) (document_in (codes "sort") options.sort)
  where
    go : (query sort : Result Doc (List ℕ)) → then_part query (λ q. then_part sort (λ s. search_of options q s)) ≡ Ok w → after_part options.after ≡ Ok w.1
    go (Ok query) (Ok sort) e = search_token options query sort w e
    go (Ok query) (Err why) e = absurd (let f : ⊥ = cc in f)
    go (Err why) sort e = absurd (let f : ⊥ = cc in f)

pub whole_printed : (options : FindOptions) (r : Request) (t : Option Token) (ds : List Doc) (bytes : List ℕ) (output : Transcript)
    → options.batch ≡ None → options.after ≡ None → requested_by options ≡ Ok (r, t) → IsDumpScan ds None bytes → IsOutputOfFind options (Ok bytes) output
    → output.out ≡ lines (documents_output r.filter r.sorts r.skip r.limit ds)
whole_printed options r t ds bytes output size after requests scan prints =
    let token : Ok None ≡ Ok t = (rw after at (requested_token options (r, t) requests)) in
    let none : None ≡ t = cc in
    let whole = prints_once None (Ok (r, t)) (Ok bytes) output (batch_output None ds (cursor_over (r, t) bytes ds None)) (rw (requests, size) at prints) (ds, None, scan, refl) in
    ap (λ (x : Transcript). x.out) whole ∙ ap (λ (x : Option Token). (batch_output None ds (cursor_over (r, x) bytes ds None)).out) (sym none)

-- ---- there is an output

bytes_print : (size : Option ℕ) (w : Request × Option Token) (bytes : List ℕ) → IsBytes bytes → (output : Transcript) × IsOutputOf size (Ok w) (Ok bytes) output
bytes_print size w bytes fits =
    let scan = scan_on [] [] bytes fits refl in
    (batch_output size scan.more (cursor_over w bytes scan.more scan.end), (scan.more, scan.end, scan.scan, refl))

-- options and all bytes of an input have an output
pub found_some : (options : FindOptions) (bytes : List ℕ) → IsBytes bytes → (output : Transcript) × IsOutputOfFind options (Ok bytes) output
found_some options bytes fits = go (requested_by options)
  where
    go : (requested : Result (Request × Option Token) (List ℕ)) → (output : Transcript) × IsOutputOf options.batch requested (Ok bytes) output
    go (Err m) = (refusal_output m, refl)
    go (Ok w) = bytes_print options.batch w bytes fits
