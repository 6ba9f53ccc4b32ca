-- A search with codes, and the call over the copy of a dump that is the call by value.
use Rattle.std.proofs.Common.{◌≡◌, ◌∙◌, ◌⊎◌, ℕ, List, Result, Ok, Err, refl, sym, ap, ap₂, subst, inl, inr}
use Rattle.std.specs.Global.{Global}
use Rattle.std.specs.Prelude.{ℤ, String, string_bytes, map, Some, None}
use Rattle.bd_value.specs.Tree.{Doc, doc, fields_of}
use Rattle.bd_value.specs.{Fits.Fits, View.pairs}
use Rattle.bd_bson_dump.specs.Collection.{bytes_of as bytes_of_dump, documents}
use Rattle.bd_bson_dump.specs.declared.collection.Dump.{Dump}
use Rattle.bd_cursor_model.specs.Session.{Call, IndexCounts, IndexKey, Query, explain_call, find_call, make_call, resume_call}
use Rattle.bd_path.specs.Path.{path_of}
use Rattle.bd_cursor_request.specs.Refused.{Reason, error_as, then_part}
use Rattle.bd_cursor_request.specs.{Request.Request, Request.named_index, Request.request_of, Request.request_text, Request.request_view, Request.token_part}
use Rattle.bd_cursor_request.specs.declared.request.Request.{Request as RequestInMemory}
use Rattle.bd_cursor_request.specs.declared.token.Token.{Token}
use Rattle.bd_cursor_sort.specs.Selection.{query_of, query_to}
use Rattle.bd_cursor.specs.{Explanation.explanation_for, Explanation.index_counts, Access.Way, Access.way_of, declared.access.Choice.Choice}
use Rattle.bd_cursor.specs.SessionView.{explain_request, hint_of, path_named, positioned_token}
use Rattle.bd_cli_command.specs.Command.{Command, FindCommand, command_tree, explains, finds, find_tree, hint_tree, resumes}
use Rattle.bd_cli_command.specs.CommandOf.{command_of}
use Rattle.bd_cli_command.specs.declared.command.Command.{Command as CommandInMemory}
use Rattle.bd_cli_command.specs.declared.command.Command.TheVariants as memory
use Rattle.bd_cli_command.specs.declared.command.{CommandFault.CommandFault, FindCommand.FindCommand as FindInMemory}
use Rattle.bd_cli_service.specs.Reply.{ReportedRefusal, command_refusal, path_refusal, reported_refusal, session_refusal}
use Rattle.bd_cli_service.specs.ServiceView.{RefusesPart}
use Rattle.bd_cli_service.specs.Talk.{call_of, hint_path, request_for, way_by}
use Rattle.bd_cli_service.specs.declared.call.CallFault.{CallFault}
use Rattle.bd_cli_service.specs.declared.call.CallFault.TheVariants as parts
use Rattle.bd_wide_number.specs.declared.number.Number.{Number}
use Rattle.bd_wide_order.specs.{Query.renumber_request, Ranks.table_codes}
use Rattle.bd_wide_substitute.specs.Both.{IsRead}
use Rattle.bd_wide_query.specs.{Coded.coded_query, Coded.valued_query, Nan.beside_nan, Split.Split, Split.first_split}
use Rattle.bd_wide_copy.specs.Classes.{no_longs}
use Rattle.bd_wide_find.specs.Find.{request_by_value}
use Rattle.bd_wide_find.proofs.{AnswerLemmas.coded_answers, AnswerLemmas.refusals_stay, AnswerLemmas.requests_are_read}
use Rattle.bd_wide_find.proofs.NumberLemmas.{numbers_are_of}
use Rattle.bd_wide_service.specs.Call.{ByValue, IsCall, IsNoCall, IsNoCommandIn, IsNoSearch, IsSearch, coded_search, search_by_value, types_refusal}
use Rattle.bd_wide_service.proofs.{ExplainLemmas.explained_by_value, IndexLemmas.counts_by_value}
use Rattle.bd_wide_service.specs.inside.Call.{IsOver, RefusesWide, SearchesBy}
use Rattle.bd_wide_service.specs.declared.call.WideCallFault.{WideCallFault}
use Rattle.bd_wide_service.specs.declared.call.WideCallFault.TheVariants as faults

-- ---- faults

-- a refusal of one property is one of a weaker
pub refuses_more : (Is More : ReportedRefusal → Type 0) → ((why : ReportedRefusal) → Is why → More why) → (fault : WideCallFault) → RefusesWide Is fault
    → RefusesWide More fault
refuses_more Is More more faults.NoMemory is = tt
refuses_more Is More more (faults.Refused why) is = more (reported_refusal why) is
refuses_more Is More more (faults.Types place) is = more (types_refusal (map string_bytes place.items)) is

-- the fault of a part, as that of a line
abbrev pub wide_fault : CallFault → WideCallFault
wide_fault parts.NoMemory = faults.NoMemory
wide_fault (parts.Refused why) = faults.Refused why

-- a part is refused for a reason of this property
pub part_refused : {A : Type 0} (part : Result A ReportedRefusal) (Is : ReportedRefusal → Type 0)
    → ((why : ReportedRefusal) → part ≡ Err why → Is why) → (fault : CallFault) → RefusesPart part fault → RefusesWide Is (wide_fault fault)
part_refused part Is is parts.NoMemory refused = tt
part_refused part Is is (parts.Refused why) refused = is (reported_refusal why) refused

-- ---- commands

-- a copy of the parts of a search is a copy of it
pub copied : (f g : FindInMemory) → pairs g.filter ≡ pairs f.filter → pairs g.sort ≡ pairs f.sort → g.skip ≡ f.skip → g.limit ≡ f.limit
    → hint_tree g.hint ≡ hint_tree f.hint → find_tree g ≡ find_tree f
copied f g filter sort skip limit hint = λ i. record { filter = filter i; sort = sort i; skip = skip i; limit = limit i; hint = hint i }

module _ (line : List ℕ) (whole text : Doc) (numbers : List Number) (read : IsRead line whole text numbers) where
  refused_as : (d : Doc) (why : ReportedRefusal) → error_as command_refusal (command_of d) ≡ Err why
      → (fault : CommandFault) × (command_of d ≡ Err fault) × (why ≡ command_refusal fault)
  refused_as d why = go (command_of d) refl
    where
      go : (x : Result Command CommandFault) → command_of d ≡ x → error_as command_refusal x ≡ Err why
          → (fault : CommandFault) × (command_of d ≡ Err fault) × (why ≡ command_refusal fault)
      go (Ok c) is e = absurd (let no : ⊥ = cc in no)
      go (Err fault) is e = (fault, is, cc)

  -- the document with empty texts is no command
  pub texts_no_command : (fault : CallFault) → RefusesPart (error_as command_refusal (command_of text)) fault → RefusesWide (IsNoCommandIn line) (wide_fault fault)
  texts_no_command = part_refused (error_as command_refusal (command_of text)) (IsNoCommandIn line)
      (λ why e. let (fault, is, same) = refused_as text why e in inr (whole, text, numbers, fault, read, inl is, same))

  -- that with whole numbers is none
  pub wholes_no_command : (texts : Command) → command_of text ≡ Ok texts → (fault : CallFault)
      → RefusesPart (error_as command_refusal (command_of whole)) fault → RefusesWide (IsNoCommandIn line) (wide_fault fault)
  wholes_no_command texts first = part_refused (error_as command_refusal (command_of whole)) (IsNoCommandIn line)
      (λ why e. let (fault, is, same) = refused_as whole why e in inr (whole, text, numbers, fault, read, inr ((texts, first), is), same))

-- ---- searches

module _ (table : List ℤ) (numbers : List Number) (wholes : Doc) (f : FindCommand) where
  -- the request by value
  abbrev valued : Result Request ReportedRefusal
  valued = request_for (search_by_value table numbers wholes f)

  -- the request with codes
  abbrev coded : Result Request ReportedRefusal
  coded = request_for (coded_search table numbers wholes f)

  -- what a search requests by value, and with codes
  abbrev RequestsBoth : Type 0
  RequestsBoth =
      ((r : Request) × (text : List ℕ) × (valued ≡ Ok r) × (coded ≡ Ok (renumber_request (table_codes table) text r)))
      ⊎ ((why : ReportedRefusal) × (valued ≡ Err why) × (coded ≡ Err why))

  -- what follows the request
  abbrev after_request : Result Request Reason → Result Request ReportedRefusal
  after_request x =
      then_part (error_as session_refusal x) (λ r. then_part (error_as path_refusal (named_index (hint_path f.hint))) (λ _. Ok r))

  both_after : (text : List ℕ) (r : Request) (index : Result (Unit {0}) ReportedRefusal) → valued ≡ then_part index (λ _. Ok r)
      → coded ≡ then_part index (λ _. Ok (renumber_request (table_codes table) text r)) → RequestsBoth
  both_after text r (Ok _) v c = inl (r, text, v, c)
  both_after text r (Err why) v c = inr (why, v, c)

  requests_both : RequestsBoth
  requests_both = go (request_of (valued_query no_longs numbers wholes f.filter) f.sort f.skip f.limit) refl
    where
      go : (x : Result Request Reason) → request_of (valued_query no_longs numbers wholes f.filter) f.sort f.skip f.limit ≡ x → RequestsBoth
      go (Err why) e = inr (session_refusal why, ap after_request e, ap after_request (refusals_stay table no_longs numbers wholes f.filter f.sort f.skip f.limit why e))
      go (Ok r) e =
          both_after (request_text (coded_query table no_longs numbers wholes f.filter) f.sort f.skip f.limit) r
          (error_as path_refusal (named_index (hint_path f.hint))) (ap after_request e)
          (ap after_request (requests_are_read table no_longs numbers wholes f.filter f.sort f.skip f.limit r e))

  -- a request with codes is that by value with codes
  requested_by_value : (c : Request) → coded ≡ Ok c → (r : Request) × (valued ≡ Ok r) × (c ≡ renumber_request (table_codes table) c.text r)
  requested_by_value c is = go requests_both
    where
      go : RequestsBoth → (r : Request) × (valued ≡ Ok r) × (c ≡ renumber_request (table_codes table) c.text r)
      go (inl (r, text, v, w)) =
          let same : Ok (renumber_request (table_codes table) text r) ≡ Ok c = sym w ∙ is in
          let request : renumber_request (table_codes table) text r ≡ c = cc in
          (r, v, sym request ∙ ap (λ (x : List ℕ). renumber_request (table_codes table) x r) (ap (λ (x : Request). x.text) request))
      go (inr (why, v, w)) = absurd (let no : ⊥ = (let same : Err why ≡ Ok c = sym w ∙ is in cc) in no)

  -- why a search with codes is refused is why the search by value is
  refused_by_value : (why : ReportedRefusal) → coded ≡ Err why → valued ≡ Err why
  refused_by_value why is = go requests_both
    where
      go : RequestsBoth → valued ≡ Err why
      go (inl (r, text, v, w)) = absurd (let no : ⊥ = (let same : Ok (renumber_request (table_codes table) text r) ≡ Err why = sym w ∙ is in cc) in no)
      go (inr (other, v, w)) = v ∙ sym w ∙ is

  module _ (by_texts : Request) (first : request_for f ≡ Ok by_texts) where
    module _ (fits : Fits (doc (fields_of (coded_query table no_longs numbers wholes f.filter)))) where
      -- the search with codes is refused
      pub coded_refused : (fault : CallFault) → RefusesPart coded fault → RefusesWide (IsNoSearch table numbers wholes f) (wide_fault fault)
      coded_refused = part_refused coded (IsNoSearch table numbers wholes f) (λ why is. inr ((by_texts, first), inr (fits, inl (refused_by_value why is))))

      module _ (c : Request) (view : Request) (requested : coded ≡ Ok c)
          (beside : (r : Request) (text : List ℕ) → c ≡ renumber_request (table_codes table) text r
          → view ≡ renumber_request (table_codes table) text (record r { filter = beside_nan table r.filter })) where
        -- the search with codes is that by value
        pub is_search : first_split no_longs (fields_of f.filter) ≡ None → SearchesBy table numbers wholes f view
        is_search alike =
            let (r, by, is) = requested_by_value c requested in (
              request_by_value table r c,
              record {
                by_texts = by_texts;
                requested_by_texts = first;
                fits = fits;
                request = r;
                requested = by;
                alike = alike;
                coded = c;
                written = requested;
                is = refl;
              },
              beside r c.text is,
            )

        -- types of numbers are separated
        pub types_refused : (split : Split) → first_split no_longs (fields_of f.filter) ≡ Some split → IsNoSearch table numbers wholes f (types_refusal split.path)
        types_refused split apart =
            let (r, by, is) = requested_by_value c requested in
            inr ((by_texts, first), inr (fits, inr (r, split, by, apart, refl)))

-- ---- calls

module _ {bytes : List ℕ} (v : ByValue bytes) (table : List ℤ) (copy : Dump) (over : IsOver v table copy) (numbers : List Number) (wholes : Doc) where
  -- the search over the table of the dump
  of_dump : (f : FindCommand) (view : Request) → SearchesBy table numbers wholes f view → SearchesBy v.table numbers wholes f view
  of_dump f view = subst (λ (t : List ℤ). SearchesBy t numbers wholes f view) (sym over.table_is)

  module _ (f : FindCommand) (view r : Request) (search : IsSearch v.table numbers wholes f r) (is : view ≡ renumber_request (table_codes v.table) r.text r) where
    -- the query over the copy is that by value
    query_is : query_to (bytes_of_dump copy) (documents copy) view ≡ query_to v.copy v.ds r
    query_is =
        ap₂ (λ (b : List ℕ) (x : Request). query_to b (documents copy) x) over.bytes_are is
        ∙ ap (λ (ds : List Doc). query_to v.copy ds (renumber_request (table_codes v.table) r.text r)) over.documents_are
        ∙ coded_answers v.table r v.ds (numbers_are_of v.table v.ds v.has.same) v.copy r.text

    -- the explanation over the copy is that by value
    explanation_is : (way : Way) → explanation_for (documents copy) view way ≡ explanation_for v.ds r way
    explanation_is way =
        ap₂ (λ (ds : List Doc) (x : Request). explanation_for ds x way) over.documents_are is
        ∙ explained_by_value v.table r v.ds (numbers_are_of v.table v.ds v.has.same) r.text way

  module _ (f : FindCommand) (request : RequestInMemory) (choice : Choice) (searches : SearchesBy table numbers wholes f (request_view request))
      (way : way_of choice ≡ way_by f.hint) where
    -- `find`
    pub is_find : IsCall v numbers wholes (finds f) (find_call (query_of copy request) (hint_of choice))
    is_find =
        let (r, search, is) = of_dump f (request_view request) searches in
        (r, search, ap₂ (λ (q : Query) (w : Way). find_call q (path_named w)) (query_is f (request_view request) r search is) way)

    -- `resume`
    pub is_resume : (text : List ℕ) (token : Token) → token_part text ≡ Ok token
        → IsCall v numbers wholes (resumes text f) (resume_call (query_of copy request) (hint_of choice) (positioned_token token))
    is_resume text token reads =
        let (r, search, is) = of_dump f (request_view request) searches in
        (token, r, reads, search, ap₂ (λ (q : Query) (w : Way). resume_call q (path_named w) (positioned_token token)) (query_is f (request_view request) r search is) way)

    -- `explain`
    pub is_explain : IsCall v numbers wholes (explains f) (explain_request copy request choice)
    is_explain =
        let (r, search, is) = of_dump f (request_view request) searches in (
          r,
          search,
          ap (λ (w : Way). explain_call (path_named w) (explanation_for (documents copy) (request_view request) w)) way
              ∙ ap (λ (e : List IndexKey → Doc). explain_call (hint_path f.hint) e) (explanation_is f (request_view request) r search is (way_by f.hint)),
        )

  -- any other command means the same over the copy as over the dump
  other_is : (c : CommandInMemory) → ((f : FindInMemory) → c ≡ memory.Find f → ⊥) → ((t : String Global) (f : FindInMemory) → c ≡ memory.Resume t f → ⊥)
      → ((f : FindInMemory) → c ≡ memory.Explain f → ⊥)
      → call_of (bytes_of_dump copy) (documents copy) (command_tree c) ≡ call_of v.copy v.ds (command_tree c)
  other_is (memory.CreateIndex path sparse) no_find no_resume no_explain =
      let key : IndexKey = record { path = string_bytes path; is_sparse = sparse } in
      ap (λ (counts : IndexCounts). then_part (error_as path_refusal (path_of (string_bytes path))) (λ _. Ok (make_call key counts)))
      (ap (λ (ds : List Doc). index_counts ds key) over.documents_are ∙ counts_by_value v.table v.ds (numbers_are_of v.table v.ds v.has.same) key)
  other_is (memory.DropIndex path) no_find no_resume no_explain = refl
  other_is (memory.GetMore id batch) no_find no_resume no_explain = refl
  other_is (memory.KillCursor id) no_find no_resume no_explain = refl
  other_is (memory.Find f) no_find no_resume no_explain = absurd (no_find f refl)
  other_is (memory.Resume t f) no_find no_resume no_explain = absurd (no_resume t f refl)
  other_is (memory.Explain f) no_find no_resume no_explain = absurd (no_explain f refl)

  module _ (c : CommandInMemory) (no_find : (f : FindInMemory) → c ≡ memory.Find f → ⊥)
      (no_resume : (t : String Global) (f : FindInMemory) → c ≡ memory.Resume t f → ⊥) (no_explain : (f : FindInMemory) → c ≡ memory.Explain f → ⊥) where
    -- any other command
    pub is_other : (call : Call) → call_of (bytes_of_dump copy) (documents copy) (command_tree c) ≡ Ok call → IsCall v numbers wholes (command_tree c) call
    is_other call is = go c no_find no_resume no_explain (sym (other_is c no_find no_resume no_explain) ∙ is)
      where
        go : (d : CommandInMemory) → ((f : FindInMemory) → d ≡ memory.Find f → ⊥) → ((t : String Global) (f : FindInMemory) → d ≡ memory.Resume t f → ⊥)
            → ((f : FindInMemory) → d ≡ memory.Explain f → ⊥) → call_of v.copy v.ds (command_tree d) ≡ Ok call → IsCall v numbers wholes (command_tree d) call
        go (memory.CreateIndex path sparse) no_find no_resume no_explain is = is
        go (memory.DropIndex path) no_find no_resume no_explain is = is
        go (memory.GetMore id batch) no_find no_resume no_explain is = is
        go (memory.KillCursor id) no_find no_resume no_explain is = is
        go (memory.Find f) no_find no_resume no_explain is = absurd (no_find f refl)
        go (memory.Resume t f) no_find no_resume no_explain is = absurd (no_resume t f refl)
        go (memory.Explain f) no_find no_resume no_explain is = absurd (no_explain f refl)

    -- any other command is refused
    pub other_refused : (fault : CallFault) → RefusesPart (call_of (bytes_of_dump copy) (documents copy) (command_tree c)) fault
        → RefusesWide (IsNoCall v numbers wholes (command_tree c)) (wide_fault fault)
    other_refused = part_refused (call_of (bytes_of_dump copy) (documents copy) (command_tree c)) (IsNoCall v numbers wholes (command_tree c))
        (λ why is. go c no_find no_resume no_explain why (sym (other_is c no_find no_resume no_explain) ∙ is))
      where
        go : (d : CommandInMemory) → ((f : FindInMemory) → d ≡ memory.Find f → ⊥) → ((t : String Global) (f : FindInMemory) → d ≡ memory.Resume t f → ⊥)
            → ((f : FindInMemory) → d ≡ memory.Explain f → ⊥) → (why : ReportedRefusal) → call_of v.copy v.ds (command_tree d) ≡ Err why
            → IsNoCall v numbers wholes (command_tree d) why
        go (memory.CreateIndex path sparse) no_find no_resume no_explain why is = is
        go (memory.DropIndex path) no_find no_resume no_explain why is = is
        go (memory.GetMore id batch) no_find no_resume no_explain why is = is
        go (memory.KillCursor id) no_find no_resume no_explain why is = is
        go (memory.Find f) no_find no_resume no_explain why is = absurd (no_find f refl)
        go (memory.Resume t f) no_find no_resume no_explain why is = absurd (no_resume t f refl)
        go (memory.Explain f) no_find no_resume no_explain why is = absurd (no_explain f refl)
