-- What `find` of both programs prints for the same words.
use Rattle.std.proofs.Common.{◌≡◌, ℕ, ℤ, List, [], drop, codes, false, Option, Some, None, Result, Ok, Err, refl, sym, ap, ◌∙◌, subst, inl, inr, arith}
use Rattle.std.specs.{Option.ok_or}
use Rattle.bd_value.specs.Tree.{Doc, fields_of, int64}
use Rattle.bd_bson_view.specs.Spelling.{valued}
use Rattle.bd_bson_view.specs.declared.raw_parts.ElementType.{ElementType}
use Rattle.bd_io_device.specs.Devices.{Over, Reader}
use Rattle.bd_bson_check.specs.{Dump.IsDumpScan, Fault.Fault, Fault.fault_view, FirstFault.ReportsNoNumber}
use Rattle.bd_bson_check.specs.declared.fault.Fault.{Fault as FaultInMemory}
use Rattle.bd_extjson.specs.Read.{ReadsAs, reading}
use Rattle.bd_extjson.proofs.ReadBackLemmas.{document_back}
use Rattle.bd_extjson_fault.specs.TextFault.{text_fault}
use Rattle.bd_extjson_fault.specs.declared.json_fault.JsonFault.{JsonFault}
use Rattle.bd_extjson_fault.specs.declared.json_fault.JsonFaultKind.{JsonFaultKind}
use Rattle.bd_extjson_fault.specs.declared.json_fault.JsonFaultKind.TheVariants as kinds
use Rattle.bd_cursor_request.specs.{Refused.then_part, Request.Request, declared.token.Token.Token}
use Rattle.bd_cli_args.specs.{FindOptions.FindOptions, declared.wide_line.Form.Form}
use Rattle.bd_cli_files.specs.Pack.{advised}
use Rattle.bd_cli_scan.specs.{Input.ReadsInput, Output.Transcript, Output.fault_text, Output.refusal_output}
use Rattle.bd_cli_find.specs.Find.{IsOutputOf, find_run}
use Rattle.bd_cli_find.specs.Options.{document_in, json_fault_text, requested_by, requested_with, search_of}
use Rattle.bd_wide_advice.specs.Advice.{advice_of}
use Rattle.bd_wide_copy.specs.Dump.{AreJoinedBy, IsFirstFault, coded_documents}
use Rattle.bd_wide_copy.specs.Copy.{number_as}
use Rattle.bd_wide_copy.proofs.ClassLemmas.{joined_widened}
use Rattle.bd_wide_find.specs.Find as cases
use Rattle.bd_wide_find.specs.Find.{FindCase, HasValues, IsAccepted, IsRefusedOver, case_run, printing_of}
use Rattle.bd_wide_find.specs.Options.{advised_text, requested_of, sort_in}
use Rattle.bd_wide_number.specs.declared.number.Number.{Number}
use Rattle.bd_wide_query.specs.{Types.longs_of}
use Rattle.bd_wide_rank.specs.Worth.{worth}
use Rattle.bd_wide_substitute.specs.{Both.HasNoValues, Both.IsRead, Both.IsUnread, Reported.IsKindBy, Reported.IsReported, Reported.begins_number, Substitutes.Wrapper, Substitutes.wrapper_at}
use Rattle.bd_wide_substitute.specs.Substitutes.{ArePieces, Piece, all_values}
use Rattle.bd_wide_substitute.proofs.OnceLemmas.{alike}
use Rattle.bd_wide_cli.specs.Command.{query_text}
use Rattle.bd_wide_cli.specs.Plain.{FailsElsewhere, GivesNoNumber}
use Rattle.bd_wide_cli.proofs.JoinedLemmas.{fault_is, none_sound}
use Rattle.bd_wide_cli.proofs.PlainLineLemmas.{found_alike, one_a_line}
use Rattle.bd_wide_cli.proofs.TextLemmas.{taken_has_none}

-- ---- the text of a query

-- No division of the text into pieces has a value.
abbrev pub HasNone : List ℕ → Type 0
HasNone text = (ps : List Piece) → ArePieces text ps → all_values ps ≡ []

-- A text without values is read as by `bsonfind`.
abbrev pub Stays : Type 0
Stays = (source : List ℕ) (wholes texts : Doc) (numbers : List Number) → HasNoValues source → IsRead source wholes texts numbers
    → (numbers ≡ []) × ReadsAs source wholes × ReadsAs source texts

-- Without values it has the fault that it has for `bsonfind`.
abbrev pub StaysUnread : Type 0
StaysUnread = (source : List ℕ) (fault : JsonFault) → HasNoValues source → IsUnread source fault
    → (reading source ≡ None) × (fault.at ≡ (text_fault source).at) × IsReported (drop (text_fault source).at source) (text_fault source).kind fault.kind

module _ (stays : Stays) (stays_unread : StaysUnread) where
  module _ (text : List ℕ) (none : HasNone text) where
    read_plain : (wholes texts : Doc) (numbers : List Number) → IsRead text wholes texts numbers → (numbers ≡ []) × ReadsAs text wholes × ReadsAs text texts
    read_plain wholes texts numbers read = stays text wholes texts numbers (read.pieces, read.are, none read.pieces read.are) read

    unread_plain : (fault : JsonFault) → IsUnread text fault
        → (reading text ≡ None) × (fault.at ≡ (text_fault text).at) × IsReported (drop (text_fault text).at text) (text_fault text).kind fault.kind
    unread_plain fault bad = stays_unread text fault (bad.pieces, bad.are, none bad.pieces bad.are) bad

  -- a text without values has none however it is divided
  pub none_in_any : (text : List ℕ) → HasNoValues text → HasNone text
  none_in_any text plain ps are = (alike ps plain.0 text are plain.1).values ∙ plain.2

  -- a text that `bsonfind` takes has none, nor has one that it refuses if it has none
  pub none_if_refused : (text : List ℕ) → (reading text ≡ None → HasNoValues text) → HasNone text
  none_if_refused text plain = go (reading text) refl
    where
      go : (r : Option Doc) → reading text ≡ r → HasNone text
      go None e = none_in_any text (plain e)
      go (Some d) e = taken_has_none text d e

  -- a text that `bsonfind` takes is read as the same document
  pub read_as_taken : (text : List ℕ) (d wholes texts : Doc) (numbers : List Number) → ReadsAs text d → IsRead text wholes texts numbers → (numbers ≡ []) × (wholes ≡ d) × (texts ≡ d)
  read_as_taken text d wholes texts numbers reads read =
      let plain = read_plain text (taken_has_none text d reads) wholes texts numbers read in
      (plain.0, same_document wholes d (sym plain.1 ∙ reads), same_document texts d (sym plain.2 ∙ reads))
    where
      same_document : (a b : Doc) → Some a ≡ Some b → a ≡ b
      same_document a b e = cc

  pub never_unread : (text : List ℕ) (d : Doc) (fault : JsonFault) → ReadsAs text d → IsUnread text fault → ⊥
  never_unread text d fault reads bad = no_document d (sym (unread_plain text (taken_has_none text d reads) fault bad).0 ∙ reads)
    where
      no_document : (a : Doc) → None ≡ Some a → ⊥
      no_document a e = cc

  -- ---- what is requested

  empty_read : reading (codes "{}") ≡ Some []
  empty_read = document_back [] tt (tt, tt) refl (omega arith)

  never : {A E : Type 0} (a : A) (e : E) → ◌≡◌ {A = Result A E} (Ok a) (Err e) → ⊥
  never a e is = cc

  same_error : {A E : Type 0} (e f : E) → ◌≡◌ {A = Result A E} (Err e) (Err f) → e ≡ f
  same_error e f is = cc

  -- both ask for the same, or refuse it with the same message, after which may be what to write instead
  abbrev Alike : Result (Request × Option Token) (List ℕ) → Result (Request × Option Token) (List ℕ) → Type 0
  Alike (Ok w) plain = plain ≡ Ok w
  Alike (Err message) plain = (words : List ℕ) × (advice : Option (List ℕ)) × (plain ≡ Err words) × (message ≡ advised words advice)

  same_alike : (r : Result (Request × Option Token) (List ℕ)) → Alike r r
  same_alike (Ok w) = refl
  same_alike (Err message) = (message, None, refl, refl)

  module _ (options : FindOptions) where
    -- the text of a query is that of the option, or `{}`
    query_is : document_in (codes "query") options.query ≡ ok_or (reading (query_text None options)) (json_fault_text (codes "query") (text_fault (query_text None options)))
    query_is = go options.query refl
      where
        go : (query : Option (List ℕ)) → options.query ≡ query
            → document_in (codes "query") options.query ≡ ok_or (reading (query_text None options)) (json_fault_text (codes "query") (text_fault (query_text None options)))
        go None e = (rw (e, empty_read) refl)
        go (Some text) e = (rw e refl)

    sort_alike : (d : Doc) → Alike (requested_of options d) (requested_with options d)
    sort_alike d = go options.sort refl
      where
        by_text : (text : List ℕ) (r : Option Doc) → reading text ≡ r
            → Alike (then_part (sort_in (Some text)) (search_of options d)) (then_part (document_in (codes "sort") (Some text)) (search_of options d))
        by_text text None e = (rw e (json_fault_text (codes "sort") (text_fault text), advice_of (text_fault text).kind (drop (text_fault text).at text), refl, refl))
        by_text text (Some s) e = (rw e (same_alike (search_of options d s)))

        go : (sort : Option (List ℕ)) → options.sort ≡ sort → Alike (requested_of options d) (requested_with options d)
        go None e = (rw e (same_alike (search_of options d [])))
        go (Some text) e = (rw e (by_text text (reading text) refl))

    -- the query is a document
    read_requests : (d : Doc) → ReadsAs (query_text None options) d → requested_by options ≡ requested_with options d
    read_requests d reads =
        ap (λ (r : Result Doc (List ℕ)). then_part r (requested_with options)) (query_is ∙ ap (λ (r : Option Doc). ok_or r (json_fault_text (codes "query") (text_fault (query_text None options)))) reads)

    -- the query is none
    unread_requests : reading (query_text None options) ≡ None → requested_by options ≡ Err (json_fault_text (codes "query") (text_fault (query_text None options)))
    unread_requests none =
        ap (λ (r : Result Doc (List ℕ)). then_part r (requested_with options)) (query_is ∙ ap (λ (r : Option Doc). ok_or r (json_fault_text (codes "query") (text_fault (query_text None options)))) none)

    -- the text of a query that `bsonfind` takes has no values
    pub none_if_taken : (w : Request × Option Token) → requested_by options ≡ Ok w → HasNone (query_text None options)
    none_if_taken w requests = none_if_refused (query_text None options) (λ none. absurd (never w _ (sym requests ∙ unread_requests none)))

    module _ (plain : HasNone (query_text None options)) where
      -- what `bsonwide` asks is what `bsonfind` asks
      accepted_requests : (a : IsAccepted (query_text None options) options) → requested_by options ≡ Ok (a.request, a.token)
      accepted_requests a =
          let read = read_plain (query_text None options) plain a.wholes a.texts a.numbers a.read in
          read_requests a.texts read.2 ∙ subst (λ (r : Result (Request × Option Token) (List ℕ)). Alike r (requested_with options a.texts)) a.requested (sort_alike a.texts)

      -- a refusal of the other options
      refused_requests : (wholes texts : Doc) (numbers : List Number) → IsRead (query_text None options) wholes texts numbers → (message : List ℕ) → requested_of options texts ≡ Err message
          → (words : List ℕ) × (advice : Option (List ℕ)) × (requested_by options ≡ Err words) × (message ≡ advised words advice)
      refused_requests wholes texts numbers is message err =
          let read = read_plain (query_text None options) plain wholes texts numbers is in
          let alike = subst (λ (r : Result (Request × Option Token) (List ℕ)). Alike r (requested_with options texts)) err (sort_alike texts) in
          (alike.0, alike.1, read_requests texts read.2 ∙ alike.2, alike.3)

  -- ---- the fault of a query

  kind_stays : (bytes : List ℕ) (kind other : JsonFaultKind) → (kind ≡ kinds.NotInProfile → (begins_number bytes ≡ false) × (wrapper_at bytes ≡ None)) → IsReported bytes kind other → other ≡ kind
  kind_stays bytes kinds.NotInProfile other elsewhere is =
      let none = elsewhere refl in subst (λ (wrapper : Option Wrapper). IsKindBy wrapper other) none.1 (is.1 none.0)
  kind_stays bytes kinds.Syntax other elsewhere is = is
  kind_stays bytes kinds.NotADocument other elsewhere is = is
  kind_stays bytes kinds.TooDeep other elsewhere is = is
  kind_stays bytes kinds.BadWrapper other elsewhere is = is
  kind_stays bytes kinds.NumberRange other elsewhere is = is
  kind_stays bytes kinds.NulInName other elsewhere is = is
  kind_stays bytes kinds.TrailingText other elsewhere is = is
  kind_stays bytes kinds.NoMemory other elsewhere is = is

  fault_stays : (text : List ℕ) (fault : JsonFault) → HasNone text → FailsElsewhere text → IsUnread text fault → fault ≡ text_fault text
  fault_stays text fault plain elsewhere bad =
      let same = unread_plain text plain fault bad in
      let kind : fault.kind ≡ (text_fault text).kind = kind_stays (drop (text_fault text).at text) (text_fault text).kind fault.kind elsewhere same.2 in
      (λ i. record { kind = kind i; at = same.1 i })

  -- ---- the runs

  module _ (options : FindOptions) (file : Over Reader) (plain : HasNone (query_text None options)) where
    abbrev Printed : FindCase (query_text None options) options file → Transcript → Type 0
    Printed c output = (case_run (printing_of one_a_line Form.Lines) c).IsOutput output

    -- the query is the same document for both programs
    query_alike : (a : IsAccepted (query_text None options) options) → (a.numbers ≡ []) × ReadsAs (query_text None options) a.wholes × ReadsAs (query_text None options) a.texts
    query_alike a = read_plain (query_text None options) plain a.wholes a.texts a.numbers a.read

    -- `bsonfind` takes the options, and refuses the file for no double and no decimal128
    module _ (w : Request × Option Token) (requests : requested_by options ≡ Ok w) (scans : GivesNoNumber file) where
      -- bytes without values are not searched by value
      not_by_value : (v : ElementType → List ℕ → ℤ) (a : IsAccepted (query_text None options) options) (bytes : List ℕ) (ws : List Doc) → ReadsInput file (Ok bytes) → HasValues a.numbers bytes
          → AreJoinedBy (valued v) ws bytes → ⊥
      not_by_value v a bytes ws reads values are = go (scans bytes reads)
        where
          go : (ds : List Doc) × (end : Option Fault) × IsDumpScan ds end bytes × ReportsNoNumber end → ⊥
          go (ds, None, scan, none) = values (query_alike a).0 ds (scan, reads.2)
          go (ds, Some f, scan, none) = none_sound v bytes ds ws f scan none are

      not_refused : (a : IsAccepted (query_text None options) options) (bytes message : List ℕ) → ReadsInput file (Ok bytes) → HasValues a.numbers bytes
          → IsRefusedOver options a.numbers a.wholes a.texts bytes message → ⊥
      not_refused a bytes message reads values (inl (documents, split, more, is)) =
          let d = documents worth in not_by_value worth a bytes d.0 reads values d.1
      not_refused a bytes message reads values (inr (two, (ds, table, has, is))) =
          not_by_value worth a bytes (coded_documents (number_as int64) ds) reads values (joined_widened (longs_of (fields_of a.texts)) worth ds bytes has.are)

      found_faulty : (bytes : List ℕ) (fault : FaultInMemory) (output : Transcript) → ReadsInput file (Ok bytes) → IsFirstFault bytes fault
          → output ≡ refusal_output (fault_text fault.document (fault_view fault)) → IsOutputOf options.batch (Ok w) (Ok bytes) output
      found_faulty bytes fault output reads first prints =
          let s = scans bytes reads in
          let is = fault_is bytes s.0 s.1 fault s.2 s.3 first in
          (s.0, Some (fault_view fault), subst (λ (end : Option Fault). IsDumpScan s.0 end bytes) is.0 s.2, prints ∙ ap (λ (n : ℕ). refusal_output (fault_text n (fault_view fault))) (sym is.1))

      pub found_taken : (output : Transcript) (c : FindCase (query_text None options) options file) → Printed c output → (find_run options file).IsOutput output
      found_taken output (cases.refused message (inl (fault, bad, is)) unread) prints =
          absurd (never w _ (sym requests ∙ unread_requests options (unread_plain (query_text None options) plain fault bad).0))
      found_taken output (cases.refused message (inr (wholes, texts, numbers, read, err)) unread) prints =
          let r = refused_requests options plain wholes texts numbers read message err in
          absurd (never w r.0 (sym requests ∙ r.2))
      found_taken output (cases.unread fault a reads) prints = (Err fault, rw requests reads, rw requests prints)
      found_taken output (cases.faulty bytes fault a reads first) prints = (Ok bytes, rw requests reads, rw requests (found_faulty bytes fault output reads first prints))
      found_taken output (cases.plain a bytes ds reads none dump) prints =
          let accepted = accepted_requests options plain a in
          (Ok bytes, rw accepted reads, rw accepted (ds, None, dump.0, found_alike ds bytes dump.0 options.batch (a.request, a.token) output prints))
      found_taken output (cases.by_value a bytes reads values over) prints =
          absurd (not_by_value worth a bytes (coded_documents (number_as int64) over.ds) reads values (joined_widened (longs_of (fields_of a.texts)) worth over.ds bytes over.has.are))
      found_taken output (cases.refused_over a bytes message reads values over) prints = absurd (not_refused a bytes message reads values over)

    -- `bsonfind` refuses the options
    module _ (words : List ℕ) (refused : requested_by options ≡ Err words) (elsewhere : reading (query_text None options) ≡ None → FailsElsewhere (query_text None options)) where
      abbrev IsRefusedWith : Transcript → Type 0
      IsRefusedWith output = (advice : Option (List ℕ)) × (output ≡ refusal_output (advised words advice)) × (file.after ≡ file.before)

      words_are : (others : List ℕ) → requested_by options ≡ Err others → others ≡ words
      words_are others is = same_error others words (sym is ∙ refused)

      not_accepted : (a : IsAccepted (query_text None options) options) → ⊥
      not_accepted a = never (a.request, a.token) words (sym (accepted_requests options plain a) ∙ refused)

      pub found_refused : (output : Transcript) (c : FindCase (query_text None options) options file) → Printed c output → IsRefusedWith output
      found_refused output (cases.refused message (inl (fault, bad, is)) unread) prints =
          let text = query_text None options in
          let here = text_fault text in
          let none = (unread_plain text plain fault bad).0 in
          let same = words_are (json_fault_text (codes "query") here) (unread_requests options none) in (
            advice_of here.kind (drop here.at text),
            prints ∙ ap refusal_output (is ∙ ap (advised_text (codes "query") text) (fault_stays text fault plain (elsewhere none) bad) ∙ ap (λ (m : List ℕ). advised m (advice_of here.kind (drop here.at text))) same),
            unread,
          )
      found_refused output (cases.refused message (inr (wholes, texts, numbers, read, err)) unread) prints =
          let r = refused_requests options plain wholes texts numbers read message err in
          (r.1, prints ∙ ap refusal_output (r.3 ∙ ap (λ (m : List ℕ). advised m r.1) (words_are r.0 r.2)), unread)
      found_refused output (cases.unread fault a reads) prints = absurd (not_accepted a)
      found_refused output (cases.faulty bytes fault a reads first) prints = absurd (not_accepted a)
      found_refused output (cases.plain a bytes ds reads none dump) prints = absurd (not_accepted a)
      found_refused output (cases.by_value a bytes reads values over) prints = absurd (not_accepted a)
      found_refused output (cases.refused_over a bytes message reads values over) prints = absurd (not_accepted a)
