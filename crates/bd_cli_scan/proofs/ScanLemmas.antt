-- A scan of the documents of an input, step by step.
use Rattle.std.proofs.Common.{inl, inr, ◌≡◌, ◌≤◌, ◌<◌, ℕ, ◌+◌, ◌-◌, List, [], ◌∷◌, ◌++◌, length, length-take-le, map, append-nil, append_assoc, Option, Some, None, Err, true, false, true≢false, refl, sym, ap, ap₂, ◌∙◌, subst}
use Rattle.std.proofs.Common.{arith, length-append}
use Rattle.std.proofs.{lemmas.List.take_at, lemmas.List.Sums.sum_by-append}
use Rattle.std.proofs.KnownBytes.{Consumes-trans, Consumes-nil}
use Rattle.std.specs.{List.count_by, Prelude.◌⊎◌, Prelude.IfSome, Prelude.is_some, Prelude.is_none, Prelude.cond, Prelude.string_bytes, Prelude.unwrap_or}
use Rattle.std.specs.Io.KnownBytes.{Consumes, IsAtEnd}
use Rattle.bd_value.specs.Limits.{longest_input, most_reads}
use Rattle.bd_io_device.specs.{Devices.after_more, declared.reading.ReadFault.ReadFault}
use Rattle.bd_io_device.specs.Devices.{AreReads, Reader, ReadsUntil, TakesText, WriteFailsAfter, Writer, between}
use Rattle.bd_io_device.proofs.DevicesLemmas.{reads_append, reads_at_least}
use Rattle.bd_bson_check.specs.{Fault.Fault, FirstFault.fault_under, Fault.ReportsFault, Fault.fault_view, declared.profile.Profile.Profile}
use Rattle.bd_bson_check.specs.Dump.{frame_fault_under, frame_length, framed_under}
use Rattle.bd_bson_stream.specs.declared.doc_buffer.{DocBuffer.DocBuffer, DocFault.DocFault, FrameFault.FrameFault}
use Rattle.bd_bson_stream.specs.Stream.{FailsToRead, FindsEnd, IsReason, ReadsDocument, ReadsToFault, buffered_bytes, AreFrames, EndsWithinOne, HasNoFrame, IsFrame, IsWithinOne}
use Rattle.bd_bson_stream.proofs.StreamLemmas.{cut_short_within, frame_on, frame_within, frames_more}
use Rattle.bd_cli_scan.specs.{Input.ReadsNoFurther, Input.StopsInside, Input.StreamsInput, inside.Output.StopsWriting, inside.Output.WritesSome, declared.input.InputFault.InputFault, declared.output.OutputFault.OutputFault}
use Rattle.bd_cli_scan.specs.inside.Scan.{more_visited, none_visited}
use Rattle.bd_cli_scan.specs.inside.Scan.{AreVisited, EndsScan, IsTextOf, StopsScan, Texts, ScansDocuments, text_at_end}
use Rattle.bd_cli_scan.specs.declared.output.OutputFault.TheVariants.{NoMemory, Unwritten}
use Rattle.bd_io_device.proofs.DevicesLemmas.{no_write_fails, write_fails_after, takes_both, takes_none}
use Rattle.bd_io_device.specs.declared.reading.ReadFault.TheVariants as reads
use Rattle.bd_bson_check.specs.declared.fault.Fault as reported
use Rattle.bd_bson_check.specs.declared.fault.FaultKind.TheVariants as kinds
use Rattle.bd_bson_stream.specs.declared.doc_buffer.DocFault.TheVariants as faults
use Rattle.bd_cli_scan.specs.declared.input.InputFault.TheVariants as inputs

abbrev pub faulty_count : List (Option Fault) → ℕ
faulty_count = count_by is_some

pub faulty_append : (us vs : List (Option Fault)) → faulty_count (us ++ vs) ≡ faulty_count us + faulty_count vs
faulty_append us vs = sum_by-append (λ v. cond (is_some v) 1 0) us vs

one_bad : (v : Option Fault) → faulty_count (v ∷ []) ≤ 1
one_bad None = omega arith
one_bad (Some f) = omega arith

-- a reported fault that is not out of memory
pub found : (number : ℕ) (first : Option Fault) (f : reported.Fault) → ReportsFault number first f → ¬ (f.kind ≡ kinds.NoMemory) → (first ≡ Some (fault_view f)) × (f.document ≡ number)
found number None f reported other = absurd reported
found number (Some g) f (inl want) other = absurd (other want.1.kind)
found number (Some g) f (inr is) other = (ap (λ (x : Fault). Some x) is.same, is.document)

-- a text is there, or not
pub text_there : (o : Option (List ℕ)) → false ≡ is_none o → (text : List ℕ) × (o ≡ Some text)
text_there None e = absurd (true≢false (sym e))
text_there (Some text) e = (text, refl)

pub no_text : (o : Option (List ℕ)) → true ≡ is_none o → o ≡ None
no_text None e = refl
no_text (Some text) e = absurd (true≢false e)

-- scanned documents are documents with lengths
pub visited_frames : {texts : Texts} (vs : List (Option Fault)) (given text : List ℕ) → AreVisited texts vs given text → (frames : List (List ℕ)) × AreFrames frames given
visited_frames {texts} vs given text none_visited = ([], refl)
visited_frames {texts} vs given text (more_visited us prefix before v frame piece visited is prints) =
    let h = visited_frames us prefix before visited in
    (h.0 ++ frame ∷ [], frames_more h.0 prefix frame h.1 is)

-- ---- what remains, if it is known

abbrev pub rest_of : Option (List ℕ) → List ℕ
rest_of None = []
rest_of (Some xs) = xs

pub known_whole : (old new : Option (List ℕ)) (given : List ℕ) → Consumes old new given → IfSome old (λ xs. given ++ rest_of new ≡ xs)
known_whole None new given gave = _
known_whole (Some xs) None given gave = absurd gave
known_whole (Some xs) (Some ys) given gave = sym gave

known_end : (old new : Option (List ℕ)) (given : List ℕ) → Consumes old new given → IsAtEnd new → IfSome old (λ xs. given ≡ xs)
known_end None new given gave end = _
known_end (Some xs) None given gave end = absurd gave
known_end (Some xs) (Some ys) given gave end = sym (gave ∙ ap (λ z. given ++ z) end ∙ append-nil given)

known_after : (old mid : Option (List ℕ)) (given bytes : List ℕ) → Consumes old mid given → IfSome mid (λ xs. bytes ≡ xs) → IfSome old (λ xs. given ++ bytes ≡ xs)
known_after None mid given bytes gave is = _
known_after (Some xs) None given bytes gave is = absurd gave
known_after (Some xs) (Some ys) given bytes gave is = ap (λ z. given ++ z) is ∙ sym gave

-- a length that is bad by the bytes that were read is bad by all of them
framed_rest : (old new : Option (List ℕ)) (part : List ℕ) (f : reported.Fault) → Consumes old new part → HasNoFrame [] old f.kind → frame_length part ≡ Err f.kind
    → (rest : List ℕ) × IfSome old (λ xs. part ++ rest ≡ xs) × (frame_length (part ++ rest) ≡ Err f.kind)
framed_rest None new part f gave none is = ([], _, rw append-nil is)
framed_rest (Some xs) None part f gave none is = absurd gave
framed_rest (Some xs) (Some ys) part f gave none is = (ys, sym gave, subst (λ (x : List ℕ). frame_length x ≡ Err f.kind) (none.1 ∙ gave) none.2)

-- the fault in a document of which all bytes are there
fault_inside : (p : Profile) (offset : ℕ) (frame rest : List ℕ) (f : Fault) → IsFrame frame → fault_under p offset frame ≡ Some f → frame_fault_under p offset (frame ++ rest) ≡ Some f
fault_inside p offset frame rest f is first =
    ap (framed_under p offset (frame ++ rest)) (frame_on frame rest is) ∙ ap (fault_under p offset) (take_at frame rest (length frame) refl) ∙ first

-- ---- one step

-- the reader gave this part of the next document, no byte after its end, and no read failed
pub record Gives (old new : Reader) (buffer : ℕ) (part : List ℕ) : Type 0 where
  pub gave : Consumes old.remaining new.remaining part
  pub short : length part ≤ buffer
  pub within : IsWithinOne part
  pub no_failure : new.failures ≡ old.failures

-- the next document was read, and the buffer contains these bytes
pub record Read (old new : Reader) (before after : DocBuffer) (bytes : List ℕ) : Type 0 where
  pub frame : IsFrame bytes
  pub gives : Gives old new before.remaining.bytes bytes
  pub offset : after.offset ≡ before.offset + length bytes
  pub number : after.number ≡ before.number + 1
  pub buffer : after.remaining.bytes + length bytes ≡ before.remaining.bytes
  pub fewer : after.remaining.turns ≤ before.remaining.turns
  pub many : before.remaining.turns - after.remaining.turns ≤ length bytes

pub document_read : {R : Type 0} {state : R → Reader} {gives : R → Option (List ℕ) → R → Type 0} {before after : DocBuffer} {old new : R} {bytes : List ℕ}
    → ReadsDocument state gives before after old new → bytes ≡ buffered_bytes after → after.size ≤ length after.buffer.items → Read (state old) (state new) before after bytes
document_read {R} {state} {gives} {before} {after} {old} {new} {bytes} read output inside =
    let size : length bytes ≡ after.size = ap (λ xs. length xs) output ∙ length-take-le after.size after.buffer.items inside in
    let frame : IsFrame bytes = rw output read.frame in
    let buffer = read.capacity in
    let offset = read.offset in record {
      frame = frame;
      gives = record { gave = rw output read.gave; short = omega (arith, size, buffer); within = frame_within bytes frame; no_failure = read.no_failure };
      offset = omega (arith, size, offset);
      number = read.number;
      buffer = omega (arith, size, buffer);
      fewer = read.counted.0;
      many = rw output (reads_at_least (before.remaining.turns - after.remaining.turns) old new (buffered_bytes after) read.reads);
    }

-- ---- the reads of a scan

-- reads that gave at least one byte each lead from the old device to the new one
abbrev pub IsRead : {R : Type 0} → (R → Option (List ℕ) → R → Type 0) → R → R → Type 0
IsRead gives old new = (n : ℕ) × (given : List ℕ) × AreReads gives n old given new

pub reads_so_far : {R : Type 0} {gives : R → Option (List ℕ) → R → Type 0} {old new : R} → IsRead gives old new → ReadsNoFurther gives old new
reads_so_far {R} {gives} {old} {new} read = (read.0, read.1, new, read.2, inl refl)

module _ {R : Type 0} {gives : R → Option (List ℕ) → R → Type 0} {old mid new : R} (read : IsRead gives old mid) where
  all_read : (n : ℕ) (given : List ℕ) → AreReads gives n mid given new → ReadsNoFurther gives old new
  all_read n given more = (_, _, new, reads_append _ n old mid new _ given read.2 more, inl refl)

  read_until : (turns : ℕ) (given : List ℕ) (answer : Option (List ℕ)) → ReadsUntil gives turns mid given answer new → ReadsNoFurther gives old new
  read_until turns given answer (n, last, is, more, ends) = (_, _, last, reads_append _ n old mid last _ given read.2 more, inr (answer, ends))

module _ {R : Type 0} {state : R → Reader} {gives : R → Option (List ℕ) → R → Type 0} {old mid new : R} {before after : DocBuffer} (read : IsRead gives old mid) where
  pub read_document : ReadsDocument state gives before after mid new → IsRead gives old new
  read_document next = (_, _, reads_append _ _ old mid new _ _ read.2 next.reads)

  pub read_to_the_end : FindsEnd state gives before after mid new → ReadsNoFurther gives old new
  read_to_the_end end = (read.0, read.1, mid, read.2, inr (Some [], end.one.1))

  pub read_to_a_fault : (fault : DocFault) → FailsToRead state gives [] before after mid new fault → ReadsNoFurther gives old new
  read_to_a_fault fault fails = by_reason fault fails.given fails.reason
    where
      by_reason : (fault : DocFault) (given : List ℕ) → IsReason state gives before mid new [] given fault → ReadsNoFurther gives old new
      by_reason (faults.Frame f) given reason = by_reads reason.7
        where
          by_reads : ReadsToFault gives [] mid given new → ReadsNoFurther gives old new
          by_reads (turns, inl (splits, until)) = read_until read turns given (Some []) until
          by_reads (turns, inr (four, each)) = all_read read turns given each
      by_reason (faults.Read reads.Device) given reason = read_until read reason.3.0 given None reason.3.1
      by_reason (faults.Read reads.TooLong) given reason = read_until read reason.8.0 reason.0 (Some reason.1) reason.8.1
      by_reason (faults.Read reads.TooManyTurns) given reason = all_read read before.remaining.turns given reason.2
      by_reason (faults.Read reads.NoMemory) given reason = all_read read reason.4.0 given reason.4.1
      by_reason faults.Failed given reason = absurd reason

-- ---- the invariant of the loop: the results so far, the bytes of their documents, and what was written for them

pub record SoFar (texts : Texts) (old new : Reader) (out_old out_new : Writer) (buffer : DocBuffer) (bad : ℕ) : Type 0 where
  pub done : List (Option Fault)
  pub given : List ℕ
  pub text : List ℕ
  pub visited : AreVisited texts done given text
  pub gave : Consumes old.remaining new.remaining given
  pub located : buffer.offset ≡ length given
  pub counted : buffer.number ≡ length done
  pub bad_counted : bad ≡ faulty_count done
  pub few : bad ≤ buffer.number
  pub fits : buffer.remaining.bytes + buffer.offset ≡ longest_input
  pub turned : buffer.remaining.turns ≤ most_reads
  pub many : most_reads - buffer.remaining.turns ≤ length given
  pub no_failure : new.failures ≡ old.failures
  pub wrote : TakesText (between out_old out_new) text

pub begins : (texts : Texts) (old : Reader) (out : Writer) (buffer : DocBuffer) → buffer.offset ≡ 0 → buffer.number ≡ 0 → buffer.remaining.bytes ≡ longest_input
    → buffer.remaining.turns ≡ most_reads → SoFar texts old old out out buffer 0
begins texts old out buffer p n r t = record {
  done = [];
  given = [];
  text = [];
  visited = none_visited;
  gave = Consumes-nil old.remaining;
  located = p;
  counted = n;
  bad_counted = refl;
  few = omega arith;
  fits = omega arith;
  turned = omega arith;
  many = omega arith;
  no_failure = refl;
  wrote = takes_none out;
}

module _ {texts : Texts} {old mid : Reader} {out_old out_mid : Writer} {buffer : DocBuffer} {bad : ℕ} (s : SoFar texts old mid out_old out_mid buffer bad) where
  next_of : (frame : List ℕ) (v : Option Fault) (piece : List ℕ) → IsTextOf texts buffer.number buffer.offset frame v piece
      → IsTextOf texts (length s.done) (length s.given) frame v piece
  next_of frame v piece is =
      subst (λ n. IsTextOf texts n (length s.given) frame v piece) s.counted (subst (λ p. IsTextOf texts buffer.number p frame v piece) s.located is)

  -- a document was scanned
  pub goes_on : {new : Reader} {after : DocBuffer} {frame : List ℕ} (out_new : Writer) (v : Option Fault) (piece : List ℕ) (worse : ℕ) → Read mid new buffer after frame
      → IsTextOf texts buffer.number buffer.offset frame v piece → worse ≡ bad + faulty_count (v ∷ []) → TakesText (between out_mid out_new) piece
      → SoFar texts old new out_old out_new after worse
  goes_on {new} {after} {frame} out_new v piece worse r prints worse_is wrote = record {
    done = s.done ++ v ∷ [];
    given = s.given ++ frame;
    text = s.text ++ piece;
    visited = more_visited s.done s.given s.text v frame piece s.visited r.frame (next_of frame v piece prints);
    gave = Consumes-trans old.remaining mid.remaining new.remaining s.given frame s.gave r.gives.gave;
    located = let p = s.located in let m = r.offset in omega (arith, length-append s.given frame);
    counted = let c = s.counted in let m = r.number in omega (arith, length-append s.done (v ∷ []));
    bad_counted = worse_is ∙ ap (λ n. n + faulty_count (v ∷ [])) s.bad_counted ∙ sym (faulty_append s.done (v ∷ []));
    few = let f = s.few in let n = r.number in let one = one_bad v in omega arith;
    fits = let f = s.fits in let m = r.offset in let l = r.buffer in omega arith;
    turned = let t = s.turned in let c = r.fewer in omega arith;
    many = let h = s.many in let t = s.turned in let c = r.fewer in let m = r.many in omega (arith, length-append s.given frame);
    no_failure = r.gives.no_failure ∙ s.no_failure;
    wrote = takes_both out_old out_mid out_new s.text piece s.wrote wrote;
  }

  within : (part : List ℕ) → length part ≤ buffer.remaining.bytes → length (s.given ++ part) ≤ longest_input
  within part le = let f = s.fits in let p = s.located in omega (arith, length-append s.given part)

  abbrev Ended : Reader → Writer → Option InputFault → Type 0
  Ended new out fault = ScansDocuments texts (between old new) (between out_old out) (record { count = buffer.number; bad = bad; fault = fault })

  ends : (new : Reader) (out : Writer) (fault : Option InputFault) → EndsScan texts (between old new) (length s.done) s.given fault
      → TakesText (between out_old out) (s.text ++ text_at_end texts (length s.done) fault) → Ended new out fault
  ends new out fault end wrote = (s.done, s.given, s.text, s.visited, s.counted, s.bad_counted, end, wrote)

  -- nothing is written at the end
  ends_so : (new : Reader) (fault : Option InputFault) → EndsScan texts (between old new) (length s.done) s.given fault
      → text_at_end texts (length s.done) fault ≡ [] → Ended new out_mid fault
  ends_so new fault end none =
      let all = sym (append-nil s.text) ∙ ap (λ x. s.text ++ x) (sym none) in
      ends new out_mid fault end (subst (λ (x : List ℕ). TakesText (between out_old out_mid) x) all s.wrote)

  -- the scan is after its documents and a part of the next one
  module _ {new : Reader} {part : List ℕ} (g : Gives mid new buffer.remaining.bytes part) where
    at : StopsInside s.given part (between old new)
    at = (Consumes-trans old.remaining mid.remaining new.remaining s.given part s.gave g.gave, within part g.short, g.within)

    streams : (bytes : List ℕ) → IfSome old.remaining (λ xs. bytes ≡ xs) → StreamsInput (between old new) bytes None
    streams bytes is = let frames = visited_frames s.done s.given s.text s.visited in (is, (frames.0, s.given, frames.1, (part, at)), g.no_failure ∙ s.no_failure)

    -- memory ran out
    pub runs_out : StopsScan texts (between old new) (between out_old out_mid) NoMemory
    runs_out = (s.done, s.given, s.text, s.visited, ((part, at), g.no_failure ∙ s.no_failure), s.wrote)

    -- the text for the next document was not written
    pub stops_by : (out_new : Writer) (v : Option Fault) (piece : List ℕ) (stopped : OutputFault) → IsFrame part → IsTextOf texts buffer.number buffer.offset part v piece
        → StopsWriting piece (between out_mid out_new) stopped → StopsScan texts (between old new) (between out_old out_new) stopped
    stops_by out_new v piece NoMemory is prints same = rw same runs_out
    stops_by out_new v piece Unwritten is prints failed_write =
        let after = write_fails_after out_old out_mid out_new s.text piece s.wrote failed_write in
        (s.done, s.given, s.text, piece, s.visited, after, inl (v, part, is, next_of part v piece prints, at, g.no_failure ∙ s.no_failure))

    -- it was stopped at a document without a fault
    pub stops_visiting : (out_new : Writer) (stopped : OutputFault) → IsFrame part → fault_under texts.profile buffer.offset part ≡ None
        → WritesSome {A = Unit {0}} (texts.IsGood buffer.number part) (between out_mid out_new) (Err stopped) → StopsScan texts (between old new) (between out_old out_new) stopped
    stops_visiting out_new NoMemory is none same = rw same runs_out
    stops_visiting out_new Unwritten is none (piece, good, failed_write) = stops_by out_new None piece Unwritten is (none, good) failed_write

    -- the input is at its end
    pub ends_whole : part ≡ [] → IsAtEnd new.remaining → Ended new out_mid None
    ends_whole none end =
        let all = subst (λ (x : List ℕ). Consumes old.remaining new.remaining x) (ap (λ x. s.given ++ x) none ∙ append-nil s.given) at.0 in
        ends_so new None (streams s.given (known_end old.remaining new.remaining s.given all end), (part, at)) refl

    -- the scan ends at the fault, or the length of its document is bad
    abbrev IsLast : ℕ → List ℕ → reported.Fault → Type 0
    IsLast number bytes f = (texts.bad number (fault_view f) ≡ None) ⊎ ((frame_length part ≡ Err f.kind) × (frame_length bytes ≡ Err f.kind))

    ends_at : (rest : List ℕ) (f : reported.Fault) → IfSome mid.remaining (λ xs. part ++ rest ≡ xs) → f.document ≡ buffer.number → frame_fault_under texts.profile buffer.offset (part ++ rest) ≡ Some (fault_view f)
        → IsLast buffer.number (part ++ rest) f → EndsScan texts (between old new) (length s.done) s.given (Some (inputs.Faulty f))
    ends_at rest f known numbered fails last =
        let all = streams (s.given ++ (part ++ rest)) (known_after old.remaining mid.remaining s.given (part ++ rest) s.gave known) in
        let fault = subst (λ p. frame_fault_under texts.profile p (part ++ rest) ≡ Some (fault_view f)) s.located fails in
        (part, rest, all, at, numbered ∙ s.counted, fault, subst (λ n. IsLast n (part ++ rest) f) s.counted last)

    pub ends_faulty : (f : reported.Fault) → IsFrame part → fault_under texts.profile buffer.offset part ≡ Some (fault_view f) → f.document ≡ buffer.number
        → texts.bad buffer.number (fault_view f) ≡ None → Ended new out_mid (Some (inputs.Faulty f))
    ends_faulty f is first numbered none =
        let rest = rest_of new.remaining in
        let end = ends_at rest f (known_whole mid.remaining new.remaining part g.gave) numbered (fault_inside texts.profile buffer.offset part rest (fault_view f) is first) (inl none) in
        ends_so new (Some (inputs.Faulty f)) end (ap (λ (o : Option (List ℕ)). unwrap_or o []) (subst (λ n. texts.bad n (fault_view f) ≡ None) s.counted none))

    pub ends_framed : (f : reported.Fault) → HasNoFrame [] mid.remaining f.kind → frame_length part ≡ Err f.kind → f.offset ≡ buffer.offset → f.document ≡ buffer.number → f.path.items ≡ []
        → EndsScan texts (between old new) (length s.done) s.given (Some (inputs.Faulty f))
    ends_framed f none is offset numbered path =
        let r = framed_rest mid.remaining new.remaining part f g.gave none is in
        let fails = ap (framed_under texts.profile buffer.offset (part ++ r.0)) r.2
        ∙ ap₂ (λ (o : ℕ) (p : List (List ℕ)). Some (record { kind = f.kind; offset = o; path = p })) (sym offset) (sym (ap (map string_bytes) path)) in
        ends_at r.0 f r.1 numbered fails (inr (is, r.2))

-- the next document was not read
module _ {texts : Texts} {R : Type 0} {state : R → Reader} {gives : R → Option (List ℕ) → R → Type 0} {old : Reader} {m n : R} {out_old out_mid : Writer}
    {buffer after : DocBuffer} {bad : ℕ} (s : SoFar texts old (state m) out_old out_mid buffer bad) where
  -- its length is bad
  module _ (frame : FrameFault) (f : reported.Fault) (same : (f.kind ≡ frame.kind) × (f.document ≡ frame.document) × (f.offset ≡ frame.offset)) (path : f.path.items ≡ [])
      (fails : FailsToRead state gives [] buffer after m n (faults.Frame frame)) where
    number : f.document ≡ length s.done
    number = same.1 ∙ fails.reason.1 ∙ s.counted

    end : EndsScan texts (between old (state n)) (length s.done) s.given (Some (inputs.Faulty f))
    end =
        let reason = fails.reason in
        let g : Gives (state m) (state n) buffer.remaining.bytes fails.given = record { gave = fails.gave; short = reason.4; within = reason.6; no_failure = reason.5 } in
        ends_framed s g f (rw same.0 reason.2) (rw same.0 reason.3) (same.2 ∙ reason.0) (same.1 ∙ reason.1) path

    -- what is written for it
    abbrev line : List ℕ
    line = unwrap_or (texts.bad f.document (fault_view f)) []

    pub ends_by_length : (out : Writer) → TakesText (between out_mid out) line → Ended s (state n) out (Some (inputs.Faulty f))
    ends_by_length out took =
        let all = ap (λ k. s.text ++ unwrap_or (texts.bad k (fault_view f)) []) number in
        ends s (state n) out (Some (inputs.Faulty f)) end (subst (λ (x : List ℕ). TakesText (between out_old out) x) all (takes_both out_old out_mid out s.text line s.wrote took))

    pub stops_by_length : (out : Writer) (stopped : OutputFault) → StopsWriting line (between out_mid out) stopped → StopsScan texts (between old (state n)) (between out_old out) stopped
    stops_by_length out NoMemory same =
        subst (λ (w : Writer). StopsScan texts (between old (state n)) (between out_old w) NoMemory) (sym same) (s.done, s.given, s.text, s.visited, ((end.0, end.3), end.2.2), s.wrote)
    stops_by_length out Unwritten failed_write = by_text (texts.bad f.document (fault_view f)) refl
      where
        by_text : (o : Option (List ℕ)) → texts.bad f.document (fault_view f) ≡ o → StopsScan texts (between old (state n)) (between out_old out) Unwritten
        by_text None is =
            let none : line ≡ [] = ap (λ o. unwrap_or o []) is in absurd (no_write_fails out_mid out [] line failed_write none)
        by_text (Some piece) is =
            let same : line ≡ piece = ap (λ o. unwrap_or o []) is in
            let after = write_fails_after out_old out_mid out s.text line s.wrote failed_write in (
              s.done,
              s.given,
              s.text,
              piece,
              s.visited,
              subst (λ (x : List ℕ). WriteFailsAfter (between out_old out) s.text x) same after,
              inr (f, end, subst (λ n. texts.bad n (fault_view f) ≡ Some piece) number is),
            )

  pub runs_out_by : FailsToRead state gives [] buffer after m n (faults.Read reads.NoMemory) → StopsScan texts (between old (state n)) (between out_old out_mid) NoMemory
  runs_out_by fails =
      let reason = fails.reason in
      let g : Gives (state m) (state n) buffer.remaining.bytes fails.given
      = record { gave = fails.gave; short = reason.1; within = cut_short_within fails.given reason.0; no_failure = reason.2 } in
      runs_out s g

  pub ends_unread : (f : ReadFault) → ¬ (f ≡ reads.NoMemory) → FailsToRead state gives [] buffer after m n (faults.Read f) → Ended s (state n) out_mid (Some (inputs.Unread f))
  ends_unread f other fails = ends_so s (state n) (Some (inputs.Unread f)) (by_fault f other fails.given moved fails.reason) refl
    where
      moved : Consumes old.remaining (state n).remaining (s.given ++ fails.given)
      moved = Consumes-trans old.remaining (state m).remaining (state n).remaining s.given fails.given s.gave fails.gave

      by_fault : (f : ReadFault) → ¬ (f ≡ reads.NoMemory) → (part : List ℕ) → Consumes old.remaining (state n).remaining (s.given ++ part)
          → IsReason state gives buffer m n [] part (faults.Read f) → EndsScan texts (between old (state n)) (length s.done) s.given (Some (inputs.Unread f))
      by_fault reads.Device other part gave reason = (part, (gave, within s part reason.1, reason.2 ∙ ap (λ k. after_more k 1) s.no_failure), reason.0)
      by_fault reads.TooLong other part gave reason =
          let parts = ap (λ (x : List ℕ). s.given ++ x) reason.2 ∙ sym (append_assoc s.given reason.0 reason.1) in
          let frames = visited_frames s.done s.given s.text s.visited in
          let beyond : longest_input < length (s.given ++ reason.0) + length reason.1
          = let r = reason.5 in let f = s.fits in let p = s.located in omega (arith, length-append s.given reason.0) in
          let ends_in : EndsWithinOne (s.given ++ reason.0) reason.1 = (frames.0, s.given, reason.0, frames.1, refl, subst IsWithinOne reason.2 reason.6) in
          (reason.0, (reason.1, subst (Consumes old.remaining (state n).remaining) parts gave, within s reason.0 reason.4, beyond, ends_in, reason.7 ∙ s.no_failure), reason.3)
      by_fault reads.TooManyTurns other part gave reason =
          let each = reads_at_least buffer.remaining.turns m n part reason.2 in
          let short = within s part reason.1 in
          let h = s.many in let t = s.turned in absurd (omega (arith, each, short, length-append s.given part))
      by_fault reads.NoMemory other part gave reason = absurd (other refl)
