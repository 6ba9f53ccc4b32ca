-- What `pack` prints is determined.
use Rattle.std.proofs.Common.{◌≡◌, ◌≤◌, ◌<◌, ℕ, suc, ◌+◌, ◌-◌, List, [], ◌∷◌, ◌++◌, length, Bool, true, false, Option, Some, None, refl, sym, ap, ◌∙◌, subst, append_assoc, append-nil}
use Rattle.std.proofs.Common.{arith, inl, inr, decimal, Ok, length-append, Result, Err, ap₂, true≢false}
use Rattle.std.proofs.{lemmas.Bool.cases_lt, lemmas.List.Splits.slice_split_none, lemmas.List.Elements.All-nil, lemmas.Grind.flat_map-append}
use Rattle.std.proofs.{Math.ListN.get_or-append, Math.Seq.get_or-append_seam}
use Rattle.std.specs.Prelude.{◌⊎◌, if◌then◌else◌, is_ok, OnOk, IfSome, IsTrue, IsFalse, option_map}
use Rattle.std.specs.{List.flat_map}
use Rattle.std.specs.Io.KnownBytes.{Consumes, IsAtEnd}
use Rattle.bd_value.specs.{Limits.longest_document, Limits.longest_input, Tree.Doc}
use Rattle.bd_io_device.specs.Devices.{AreReads, Over, Reader, TakesText, Writer, WriteFailsWithin, between}
use Rattle.bd_extjson.specs.Read.{ReadsAs, reading}
use Rattle.bd_extjson_fault.specs.{TextFault.text_fault, declared.json_fault.JsonFaultKind.JsonFaultKind}
use Rattle.bd_extjson_fault.specs.declared.json_fault.JsonFaultKind.TheVariants as kinds
use Rattle.bd_extjson_pack.specs.Packable.{plain, IsPackable, IsBad}
use Rattle.bd_extjson_pack.specs.declared.line.LineFault.{LineFault}
use Rattle.bd_cli_files.specs.{declared.pack.BadLine.BadLine, declared.pack.Packing.Packing}
use Rattle.bd_cli_scan.specs.{declared.output.Status.Status, declared.output.Status.TheVariants.Failed}
use Rattle.bd_cli_scan.specs.Input.{ReadsInput}
use Rattle.bd_cli_scan.specs.Output.{Transcript, cannot_write, error_line, no_memory, reported_bytes, wrong_line, wrong_status}
use Rattle.bd_cli_files.specs.Pack.{Form, IsOutputBy, IsOutputOfPack, PacksBy, PacksLines, advised, advised_line, bad_line_text, byte_text, named, objects_packed, pack_output, pack_run_by, text_run}
use Rattle.bd_cli_scan.specs.Run.{Prints, ReportsMessage}
use Rattle.bd_cli_files.specs.inside.Pack.{ArePacked, IsAdvised, IsTaken, PacksFirst, packing_text}
use Rattle.bd_io_lines.specs.Lines.{IsLine, is_empty_line, is_newline, text_lines}
use Rattle.bd_io_lines.proofs.LinesLemmas.{line_grows, lines_apart}
use Rattle.bd_io_device.specs.declared.reading.ReadFault.{ReadFault}
use Rattle.bd_extjson_pack.specs.declared.line.LineFault.TheVariants as faults

-- a line is one document
read_once : (line : List ℕ) (d e : Doc) → ReadsAs line d → ReadsAs line e → d ≡ e
read_once line d e p q = cc

-- and it is not a bad line
good_or_bad : (line : List ℕ) (d : Doc) (fault : LineFault) → IsPackable line d → IsBad line fault → ⊥
good_or_bad line d (faults.Unread f) good bad = bad.0 d good.0
good_or_bad line d faults.TooLong good (e, is, long) =
    let same = read_once line e d is good.0 in
    let longer : longest_document < length (plain d) = subst (λ (x : Doc). longest_document < length (plain x)) same long in
    let short = good.1 in omega arith

-- of a bad line one fault is reported
faults_once : (line : List ℕ) (f g : LineFault) → IsBad line f → IsBad line g → f ≡ g
faults_once line (faults.Unread f) (faults.Unread g) p q = ap faults.Unread (p.1 ∙ sym q.1)
faults_once line (faults.Unread f) faults.TooLong p (d, is, long) = absurd (p.0 d is)
faults_once line faults.TooLong (faults.Unread g) (d, is, long) q = absurd (q.0 d is)
faults_once line faults.TooLong faults.TooLong p q = refl

abbrev bad_line : ℕ → LineFault → Option BadLine
bad_line number fault = Some (record { number = number; fault = fault })

blank_or_not : {A : Type 0} (b : _) → b ≡ true → b ≡ false → A
blank_or_not b p q = absurd (true≢false (sym p ∙ q))

pub packs_once : (number : ℕ) (lines : List (List ℕ)) (ds es : List Doc) (bad other : Option BadLine) → PacksLines number lines ds bad
    → PacksLines number lines es other → (ds ≡ es) × (bad ≡ other)
packs_once number [] ds es bad other p q = (p.0 ∙ sym q.0, p.1 ∙ sym q.1)
packs_once number (line ∷ lines) ds es bad other (inl p) (inl q) = packs_once (suc number) lines ds es bad other p.1 q.1
packs_once number (line ∷ lines) ds es bad other (inl p) (inr (inl q)) = blank_or_not _ p.0 q.0
packs_once number (line ∷ lines) ds es bad other (inl p) (inr (inr q)) = blank_or_not _ p.0 q.0
packs_once number (line ∷ lines) ds es bad other (inr (inl p)) (inl q) = blank_or_not _ q.0 p.0
packs_once number (line ∷ lines) ds es bad other (inr (inl (full, (d, xs, good, splits, p)))) (inr (inl (also, (e, ys, fine, split, q)))) =
    let more = packs_once (suc number) lines xs ys bad other p q in
    (splits ∙ ap₂ (λ (x : Doc) (zs : List Doc). x ∷ zs) (read_once line d e good.0 fine.0) more.0 ∙ sym split, more.1)
packs_once number (line ∷ lines) ds es bad other (inr (inl (full, (d, xs, good, splits, p)))) (inr (inr (also, (fault, is, none, end)))) = absurd (good_or_bad line d fault good is)
packs_once number (line ∷ lines) ds es bad other (inr (inr p)) (inl q) = blank_or_not _ q.0 p.0
packs_once number (line ∷ lines) ds es bad other (inr (inr (full, (fault, is, none, end)))) (inr (inl (also, (e, ys, fine, split, q)))) = absurd (good_or_bad line e fault fine is)
packs_once number (line ∷ lines) ds es bad other (inr (inr (full, (f, is, none, end)))) (inr (inr (also, (g, was, nothing, there)))) =
    (none ∙ sym nothing, end ∙ ap (bad_line number) (faults_once line f g is was) ∙ sym there)

pub packed_once : (input : Result (List ℕ) ReadFault) (s t : Transcript) → IsOutputOfPack input s → IsOutputOfPack input t → s ≡ t
packed_once (Ok text) s t (ds, bad, packs, prints) (es, other, packed, showed) =
    let same = packs_once 1 (text_lines text) ds es bad other packs packed in
    prints ∙ ap₂ (pack_output named (text_lines text)) same.0 same.1 ∙ sym showed
packed_once (Err fault) s t p q = p ∙ sym q

-- ---- all lines are packed in some way

-- lines whose numbers begin at `number` are packed in some way
abbrev HasPacking : ℕ → List (List ℕ) → Type 0
HasPacking number lines = (ds : List Doc) × (bad : Option BadLine) × PacksLines number lines ds bad

pub packs_some : (number : ℕ) (lines : List (List ℕ)) → HasPacking number lines
packs_some number [] = ([], None, (refl, refl))
packs_some number (line ∷ lines) = by_blank (is_empty_line line) refl (packs_some (suc number) lines)
  where
    short : (d : Doc) → is_empty_line line ≡ false → ReadsAs line d → HasPacking (suc number) lines → (longest_document < length (plain d))
        ⊎ (length (plain d) ≤ longest_document) → HasPacking number (line ∷ lines)
    short d full is rest (inl long) = ([], Some (record { number = number; fault = faults.TooLong }), inr (inr (full, (faults.TooLong, (d, is, long), refl, refl))))
    short d full is rest (inr le) = (d ∷ rest.0, rest.1, inr (inl (full, (d, rest.0, (is, le), refl, rest.2))))

    by_reading : (o : Option Doc) → reading line ≡ o → is_empty_line line ≡ false → HasPacking (suc number) lines → HasPacking number (line ∷ lines)
    by_reading None none full rest =
        let fault = faults.Unread (text_fault line) in
        ([], Some (record { number = number; fault = fault }), inr (inr (full, (fault, (λ d is. cc, refl), refl, refl))))
    by_reading (Some d) is full rest = short d full is rest (cases_lt longest_document (length (plain d)))

    by_blank : (b : Bool) → is_empty_line line ≡ b → HasPacking (suc number) lines → HasPacking number (line ∷ lines)
    by_blank true blank rest = (rest.0, rest.1, inl (blank, rest.2))
    by_blank false full rest = by_reading (reading line) refl full rest

-- ---- the message of a bad line

-- a line that is no document as a whole has no byte; any other fault has one
pub byte_is : (words : List ℕ) (kind : JsonFaultKind) (at : ℕ) → (kind ≡ kinds.NotADocument → ⊥) → byte_text words kind at ≡ words ++ decimal at
byte_is words kinds.NotADocument at other = absurd (other refl)
byte_is words kind at other = refl

-- ---- what to write instead in the bad line

-- it is the same after one more line
pub advised_more : (form : Form) (line : List ℕ) (lines : List (List ℕ)) (bad : Option BadLine) (advice : Option (List ℕ)) → IsAdvised form lines bad advice
    → IsAdvised form (lines ++ line ∷ []) bad advice
advised_more form line lines None advice is = _
advised_more form line lines (Some bad) advice (there, is) = (
  omega (arith, there, length-append lines (line ∷ [])),
  is ∙ ap (λ (l : List ℕ). form.advice l bad.fault) (sym (get_or-append lines (line ∷ []) [] (bad.number - 1) there)),
)

-- the last line is the bad one
pub advised_here : (form : Form) (line : List ℕ) (lines : List (List ℕ)) (fault : LineFault) (number : ℕ) (advice : Option (List ℕ)) → number ≡ length lines
    → advice ≡ form.advice line fault → IsAdvised form (lines ++ line ∷ []) (Some (record { number = number + 1; fault = fault })) advice
advised_here form line lines fault number advice counted is =
    let last : number + 1 - 1 ≡ length lines = omega (arith, counted) in (
      omega (arith, counted, length-append lines (line ∷ [])),
      rw (last, get_or-append_seam lines line [] []) is,
    )

-- the message is that of the bad line
packing_reports : (form : Form) (lines : List (List ℕ)) (bad : Option BadLine) (advice : Option (List ℕ)) → IsAdvised form lines bad advice
    → option_map (λ bad. advised (bad_line_text bad) advice) bad ≡ option_map (advised_line form lines) bad
packing_reports form lines None advice is = refl
packing_reports form lines (Some bad) advice is = ap (λ (a : Option (List ℕ)). Some (advised (bad_line_text bad) a)) is.1

-- ---- the end of a run

-- these lines are all: the documents before the first bad line are all that are packed
all_lines : (form : Form) (lines : List (List ℕ)) (ds : List form.Document) (bad : Option BadLine) → PacksFirst form lines ds bad → PacksBy form 1 lines ds bad
all_lines form lines ds None first = let p = first [] [] None (refl, refl) in rw (append-nil lines, append-nil ds) at p
all_lines form lines ds (Some bad) first = let p = first [] in rw (append-nil lines) at p

module _ (form : Form) {P : Type 0} (program text : List ℕ) (packing : Packing P) (packed : ArePacked form (text_lines text) packing) (out_old out_new err_old err_new : Writer) (status : Status) where
  abbrev PrintsText : Type 0
  PrintsText = Prints program (text_run form text) (between out_old out_new) (between err_old err_new) status

  -- the output, and that it is one of `pack` for the text
  abbrev output : Transcript
  output = pack_output form (text_lines text) packed.0 packing.bad

  all_packed : PacksBy form 1 (text_lines text) packed.0 packing.bad
  all_packed = all_lines form (text_lines text) packed.0 packing.bad packed.1

  is_output : IsOutputBy form (Ok text) output
  is_output = (packed.0, packing.bad, all_packed, refl)

  -- the bad line, if any, and the count were reported
  abbrev ReportsPacking : Option (List ℕ) → ℕ → Type 0
  ReportsPacking message count =
      ReportsMessage (between err_old err_new) (wrong_line program message ++ (decimal count ++ objects_packed)) (wrong_status message) status

  pub prints_packing : TakesText (between out_old out_new) packing.bytes.items → ReportsPacking (packing_text packing) packing.count → PrintsText
  prints_packing wrote reported =
      let same = packing_reports form (text_lines text) packing.bad (reported_bytes packing.advice) packed.5 in
      inl (
        output,
        is_output,
        subst (TakesText (between out_old out_new)) packed.2 wrote,
        subst (ReportsPacking (option_map (advised_line form (text_lines text)) packing.bad)) packed.3 (subst (λ (m : Option (List ℕ)). ReportsPacking m packing.count) same reported),
      )

  pub prints_unwritten : WriteFailsWithin (between out_old out_new) packing.bytes.items → ReportsMessage (between err_old err_new) (error_line program cannot_write) Failed status → PrintsText
  prints_unwritten failed reported =
      inr (inl ([], output.out, (output, is_output, refl, refl), subst (WriteFailsWithin (between out_old out_new)) packed.2 failed, reported))

-- a run for the text that was read is a run of `pack`
pub after_text : (form : Form) {program : List ℕ} (file : Over Reader) {out err : Over Writer} {status : Status} (text : List ℕ) → ReadsInput file (Ok text)
    → Prints program (text_run form text) out err status → Prints program (pack_run_by form file) out err status
after_text form file text read (inl (output, is, took, reported)) = inl (output, (Ok text, read, is), took, reported)
after_text form file text read (inr (inl (written, piece, next, failed, reported))) = inr (inl (written, piece, (text, read, next), failed, reported))
after_text form file text read (inr (inr (written, begun, took, reported))) = inr (inr (written, begun, took, reported))

-- ---- one more line

module _ (form : Form) (line : List ℕ) (lines : List (List ℕ)) where
  abbrev more : List (List ℕ)
  more = lines ++ line ∷ []

  pub one_more : length more ≡ suc (length lines)
  one_more = omega (arith, length-append lines (line ∷ []))

  before_rest : (rest : List (List ℕ)) → more ++ rest ≡ lines ++ line ∷ rest
  before_rest rest = append_assoc lines (line ∷ []) rest

  pub packs_one : (ds : List form.Document) (d : form.Document) → IsFalse (is_empty_line line) → form.IsPackable line d → PacksFirst form lines ds None → PacksFirst form more (ds ++ d ∷ []) None
  packs_one ds d full is first rest es bad p =
      let q = rw one_more at p in
      rw (before_rest rest, append_assoc ds (d ∷ []) es) (first (line ∷ rest) (d ∷ es) bad (inr (inl (full, (d, es, is, refl, q)))))

  pub ends_bad : (ds : List form.Document) (fault : LineFault) (number : ℕ) → number ≡ length lines → IsFalse (is_empty_line line) → form.IsBad line fault → PacksFirst form lines ds None
      → PacksFirst form more ds (Some (record { number = number + 1; fault = fault }))
  ends_bad ds fault number counted full is first rest =
      let next : number + 1 ≡ suc (length lines) = omega (arith, counted) in
      let p = first (line ∷ rest) [] (Some (record { number = suc (length lines); fault = fault })) (inr (inr (full, (fault, is, refl, refl)))) in
      rw (before_rest rest, next) (rw (append-nil ds) at p)

-- the BSON of one more document
pub one_more_document : (form : Form) (ds : List form.Document) (d : form.Document) (old new : List ℕ) → old ≡ flat_map form.bson ds → new ≡ old ++ form.bson d
    → new ≡ flat_map form.bson (ds ++ d ∷ [])
one_more_document form ds d old new was grown =
    grown ∙ ap₂ (λ (x y : List ℕ). x ++ y) was (sym (append-nil (form.bson d))) ∙ sym (flat_map-append form.bson ds (d ∷ []))

-- ---- a text, block by block

module _ (form : Form) {P : Type 0} where
  -- before the first block
  pub starts : (packing : Packing P) → ArePacked form [] packing → IsTaken form [] packing []
  starts packing none = ([], none, All-nil (λ b. is_newline b ≡ false), λ rest. refl)

  -- a line that ends: what was taken of it, the rest of it, and its newline
  pub takes_line : (text partial line : List ℕ) (packing next : Packing P) → IsLine line → IsTaken form text packing partial
      → ((lines : List (List ℕ)) → ArePacked form lines packing → ArePacked form (lines ++ (partial ++ line) ∷ []) next) → IsTaken form (text ++ (line ++ 10 ∷ [])) next []
  takes_line text partial line packing next is (lines, packed, begun, splits) packs = (
    lines ++ (partial ++ line) ∷ [],
    packs lines packed,
    All-nil (λ b. is_newline b ≡ false),
    λ rest.
        let whole : text_lines (partial ++ line) ≡ (partial ++ line) ∷ [] = slice_split_none is_newline (partial ++ line) (line_grows partial line begun is) in
        let apart : text_lines (partial ++ (line ++ 10 ∷ rest)) ≡ (partial ++ line) ∷ text_lines rest
        = ap text_lines (sym (append_assoc partial line (10 ∷ rest))) ∙ lines_apart (partial ++ line) rest ∙ ap (λ l. l ++ text_lines rest) whole in
        let joined : (text ++ (line ++ 10 ∷ [])) ++ rest ≡ text ++ (line ++ 10 ∷ rest)
        = append_assoc text (line ++ 10 ∷ []) rest ∙ ap (λ x. text ++ x) (append_assoc line (10 ∷ []) rest) in
        ap text_lines joined ∙ splits (line ++ 10 ∷ rest) ∙ ap (λ l. lines ++ l) apart ∙ sym (append_assoc lines ((partial ++ line) ∷ []) (text_lines rest)),
  )

  -- more of a line
  pub takes_part : (text partial part : List ℕ) (packing : Packing P) → IsLine part → IsTaken form text packing partial → IsTaken form (text ++ part) packing (partial ++ part)
  takes_part text partial part packing is (lines, packed, begun, splits) = (
    lines,
    packed,
    line_grows partial part begun is,
    λ rest. ap text_lines (append_assoc text part rest) ∙ splits (part ++ rest) ∙ ap (λ x. lines ++ text_lines x) (sym (append_assoc partial part rest)),
  )

  -- the end of the text ends its last line
  pub ends_text : (text partial : List ℕ) (packing next : Packing P) → IsTaken form text packing partial
      → ((lines : List (List ℕ)) → ArePacked form lines packing → ArePacked form (lines ++ partial ∷ []) next) → ArePacked form (text_lines text) next
  ends_text text partial packing next (lines, packed, begun, splits) packs =
      let last : text_lines partial ≡ partial ∷ [] = slice_split_none is_newline partial begun in
      let all : text_lines text ≡ lines ++ partial ∷ []
      = ap text_lines (sym (append-nil text)) ∙ splits [] ∙ ap (λ x. lines ++ text_lines x) (append-nil partial) ∙ ap (λ l. lines ++ l) last in
      subst (λ (ls : List (List ℕ)). ArePacked form ls next) (sym all) (packs lines packed)

  -- the first lines of a block were taken, and this is the rest of it
  abbrev pub TakesFirst : List ℕ → Packing P → List ℕ → List ℕ → Packing P → List ℕ → Type 0
  TakesFirst block old was rest now partial =
      (taken : List ℕ) × (block ≡ taken ++ rest) × ((text : List ℕ) → IsTaken form text old was → IsTaken form (text ++ taken) now partial)

  pub takes_none : (block was : List ℕ) (old : Packing P) → TakesFirst block old was block old was
  takes_none block was old = ([], refl, λ text before. rw (append-nil text) before)

  pub takes_next : (block was rest partial line after : List ℕ) (old now next : Packing P) → TakesFirst block old was rest now partial → rest ≡ line ++ 10 ∷ after → IsLine line
      → ((lines : List (List ℕ)) → ArePacked form lines now → ArePacked form (lines ++ (partial ++ line) ∷ []) next) → TakesFirst block old was after next []
  takes_next block was rest partial line after old now next (taken, split, takes) splits is packs = (
    taken ++ (line ++ 10 ∷ []),
    split ∙ ap (λ x. taken ++ x) (splits ∙ sym (append_assoc line (10 ∷ []) after)) ∙ sym (append_assoc taken (line ++ 10 ∷ []) after),
    λ text before. subst (λ x. IsTaken form x next []) (append_assoc text taken (line ++ 10 ∷ [])) (takes_line (text ++ taken) partial line now next is (takes text before) packs),
  )

  pub takes_all : (block was rest partial : List ℕ) (old now : Packing P) → TakesFirst block old was rest now partial → IsLine rest
      → (text : List ℕ) → IsTaken form text old was → IsTaken form (text ++ block) now (partial ++ rest)
  takes_all block was rest partial old now (taken, split, takes) is text before =
      subst (λ x. IsTaken form x now (partial ++ rest)) (append_assoc text taken rest ∙ ap (λ x. text ++ x) (sym split)) (takes_part (text ++ taken) partial rest now is (takes text before))

-- a vector grew, or a call failed
pub on_ok_grown : {A E : Type 0} (r : Result A E) (P : List ℕ → Type 0) (old part new : List ℕ) → new ≡ (if is_ok r then old ++ part else old) → P (old ++ part) → OnOk r (P new)
on_ok_grown (Ok x) P old part new is h = subst P (sym is) h
on_ok_grown (Err e) P old part new is h = _

-- the loop over the blocks
pub record SoFar (form : Form) {P R : Type 0} (state : R → Reader) (gives : R → Option (List ℕ) → R → Type 0) (old new : R) (remaining : ℕ) (packing : Packing P) (partial : List ℕ) : Type 0 where
  pub text : List ℕ
  pub turns : ℕ
  pub taken : IsTaken form text packing partial
  pub consumed : Consumes (state old).remaining (state new).remaining text
  pub reads : AreReads gives turns old text new
  pub within : length text + remaining ≡ longest_input
  pub numbered : packing.lines ≤ length text
  pub counted : packing.count ≤ packing.lines
  pub no_failure : (state new).failures ≡ (state old).failures

-- what was read is more than a limit
pub more_than : (limit : ℕ) (before after : Option (List ℕ)) (given : List ℕ) → Consumes before after given → limit < length given → IfSome before (λ xs. limit < length xs)
more_than limit None after given all more = _
more_than limit (Some xs) None given all more = absurd all
more_than limit (Some xs) (Some rest) given all more =
    let size : length xs ≡ length given + length rest = ap (λ (l : List ℕ). length l) all ∙ length-append given rest in omega (arith, size, more)

-- what was read up to the end is all
pub all_given : (before after : Option (List ℕ)) (given : List ℕ) → Consumes before after given → IsAtEnd after → IfSome before (λ xs. given ≡ xs)
all_given None after given all end = _
all_given (Some xs) None given all end = absurd all
all_given (Some xs) (Some rest) given all end = sym (all ∙ ap (λ x. given ++ x) end ∙ append-nil given)

pub packed_some : (text : List ℕ) → (output : Transcript) × IsOutputOfPack (Ok text) output
packed_some text =
    let w = packs_some 1 (text_lines text) in
    (pack_output named (text_lines text) w.0 w.1, (w.0, w.1, w.2, refl))
