-- Tables, requests with codes, and copies.
use Rattle.std.proofs.Common.{◌≡◌, ◌≤◌, ◌<◌, ◌^◌, arith, ℕ, List, length, Ok, Err, Result, refl, sym, ap, subst, inl, inr, ◌⊎◌, ◌∙◌, ◌++◌, [], codes, None, string_bytes}
use Rattle.std.specs.Prelude.{ℤ, Option, true, false}
use Rattle.bd_value.specs.Tree.{Doc, fields_of, int64}
use Rattle.bd_bson_check.specs.Dump.{IsDump}
use Rattle.bd_bson_check.proofs.DumpLemmas.{scan_once}
use Rattle.bd_bson_dump.specs.Collection.{bytes_of as bytes_of_dump, documents}
use Rattle.bd_bson_dump.specs.declared.collection.Dump.{Dump}
use Rattle.bd_bson_view.specs.Spelling.{valued}
use Rattle.bd_cursor_request.specs.{Request.Request, Request.named_index, Request.request_of, Request.request_text, Refused.Reason, Refused.error_as, Refused.reason_of, Refused.then_part, declared.token.Token.Token}
use Rattle.bd_cli_args.specs.FindOptions.{FindOptions}
use Rattle.bd_cli_find.specs.Options.{after_part, batch_part, index_fault_text, refused_text, search_of}
use Rattle.bd_cli_find.specs.Options.{ReportsSearchFault}
use Rattle.bd_cli_find.specs.declared.options.SearchFault.{SearchFault}
use Rattle.bd_cli_find.specs.declared.options.SearchFault.TheVariants as faults
use Rattle.bd_wide_number.specs.declared.number.Number.{Number}
use Rattle.bd_wide_rank.specs.{Rank.AreDistinct, Rank.HaveSame, Rank.code, Rank.is_among, Worth.worth}
use Rattle.bd_wide_copy.specs.{Classes.classed, Copy.number_as, Copy.number_coded, Dump.AreDocuments, Dump.AreJoinedBy, Dump.AreNumbersOfAll, Dump.IsCopyOfDump, Dump.coded_documents, Numbers.document_numbers}
use Rattle.bd_wide_order.specs.{Query.renumber_request, Ranks.table_codes}
use Rattle.bd_wide_copy.specs.declared.longs.Longs.{Longs}
use Rattle.bd_wide_query.specs.Coded.{coded_query, valued_query}
use Rattle.bd_wide_find.specs.{Find.IsNoRequest, Find.IsRequest, Find.request_by_value, Options.requested_of, Options.sort_in}
use Rattle.bd_wide_find.specs.Coded.{CopiesDump, IsTableOf}
use Rattle.bd_wide_copy.proofs.ClassLemmas.{are_classed, document_numbers_widened, joined_widened}
use Rattle.bd_wide_find.specs.inside.Fault.{ReportsAs}
use Rattle.bd_wide_query.specs.Nan.{beside_nan}
use Rattle.bd_wide_find.proofs.AnswerLemmas.{refusals_stay, requests_are_read}

-- ---- tables

-- a dump never has too many numbers for a table
pub never_crowded : (bytes : List ℕ) (numbers : List ℤ) → AreDocuments bytes → AreNumbersOfAll bytes numbers
    → ((ds : List Doc) (table : List ℤ) → AreJoinedBy (valued worth) ds bytes → AreDistinct table → HaveSame table (document_numbers ds) → length table < 2 ^ 30)
    → (all : List ℤ) × AreDistinct all × HaveSame all numbers × (2 ^ 30 ≤ length all) → ⊥
never_crowded bytes numbers documents are few (all, distinct, same, many) =
    let (ds, joined) = documents worth in
    let less = few ds all joined distinct (λ w. same w ∙ are ds joined w) in
    omega (arith, less, many)

-- the table of all numbers of a dump, whatever their classes
pub table_has : (bytes : List ℕ) (numbers table : List ℤ) → AreNumbersOfAll bytes numbers → AreDistinct table → HaveSame table numbers → IsTableOf bytes table
table_has bytes numbers table are distinct same longs ds joined = record {
  are = joined;
  distinct = distinct;
  same = λ w. same w ∙ are (coded_documents (number_as int64) ds) (joined_widened longs worth ds bytes joined) w
      ∙ ap (λ (ns : List ℤ). is_among ns w) (document_numbers_widened ds);
}

-- ---- copies

-- a dump that is the copy has the documents with codes
pub copied_documents : (longs : Longs) (bytes new : List ℕ) (table : List ℤ) (es ds : List Doc) → IsDump es new → IsCopyOfDump longs worth (code table) bytes new
    → AreJoinedBy (classed longs worth) ds bytes → es ≡ coded_documents (number_coded (code table)) ds
copied_documents longs bytes new table es ds dump copied are = (scan_once es (coded_documents (number_coded (code table)) ds) None None new dump.0 (copied ds are).0.0).0

-- a copy is a dump
pub copy_is_dump : (longs : Longs) (bytes : List ℕ) (table : List ℤ) (start new x : List ℕ) → AreDocuments bytes → IsCopyOfDump longs worth (code table) bytes x
    → new ≡ start ++ x → start ≡ [] → (ds : List Doc) × IsDump ds new
copy_is_dump longs bytes table start new x documents copied added empty =
    let (ds, are) = are_classed longs worth bytes documents in
    let is : x ≡ new = ap (λ (s : List ℕ). s ++ x) (sym empty) ∙ sym added in
    (coded_documents (number_coded (code table)) ds, subst (λ (y : List ℕ). IsDump (coded_documents (number_coded (code table)) ds) y) is (copied ds are).0)

-- the copy that was written and read
pub copies_dump : (longs : Longs) (bytes : List ℕ) (table : List ℤ) (copy : Dump) (start new x : List ℕ) → IsCopyOfDump longs worth (code table) bytes x → new ≡ start ++ x
    → start ≡ [] → IsDump (documents copy) new → bytes_of_dump copy ≡ new → CopiesDump longs bytes table copy
copies_dump longs bytes table copy start new x copied added empty dump same =
    let is : x ≡ new = ap (λ (s : List ℕ). s ++ x) (sym empty) ∙ sym added in
    let written = subst (λ (y : List ℕ). IsCopyOfDump longs worth (code table) bytes y) is copied in
    record {
      copied = subst (λ (y : List ℕ). IsCopyOfDump longs worth (code table) bytes y) (sym same) written;
      documents_are = λ ds are. copied_documents longs bytes new table (documents copy) ds dump written are;
    }

-- ---- requests

module _ (options : FindOptions) (table : List ℤ) (longs : Longs) (numbers : List Number) (wholes texts : Doc) where
  abbrev by_value : Doc
  by_value = valued_query longs numbers wholes texts

  abbrev with_codes : Doc
  with_codes = coded_query table longs numbers wholes texts

  -- what the options ask of values, and of codes
  abbrev pub RequestsBoth : Type 0
  RequestsBoth = ((r : Request) × (token : Option Token) × (text : List ℕ) × (requested_of options by_value ≡ Ok (r, token))
      × (requested_of options with_codes ≡ Ok (renumber_request (table_codes table) text r, token)))
      ⊎ ((message : List ℕ) × (requested_of options by_value ≡ Err message) × (requested_of options with_codes ≡ Err message))

  -- what follows the request
  abbrev after_request : Result Request Reason → Result (Request × Option Token) (List ℕ)
  after_request x =
      then_part (error_as refused_text x) (λ request.
      then_part (error_as refused_text (batch_part options.batch)) (λ _.
      then_part (error_as index_fault_text (named_index options.index)) (λ _.
      then_part (error_as refused_text (after_part options.after)) (λ token. Ok (request, token)))))

  both_after : (text : List ℕ) (r : Request) (batch : Result (Unit {0}) (List ℕ)) (index : Result (Unit {0}) (List ℕ)) (after : Result (Option Token) (List ℕ))
      → (v c : Result (Request × Option Token) (List ℕ))
      → v ≡ then_part batch (λ _. then_part index (λ _. then_part after (λ token. Ok (r, token))))
      → c ≡ then_part batch (λ _. then_part index (λ _. then_part after (λ token. Ok (renumber_request (table_codes table) text r, token))))
      → ((s : Request) × (token : Option Token) × (t : List ℕ) × (v ≡ Ok (s, token)) × (c ≡ Ok (renumber_request (table_codes table) t s, token)))
      ⊎ ((message : List ℕ) × (v ≡ Err message) × (c ≡ Err message))
  both_after text r (Ok _) (Ok _) (Ok token) v c e f = inl (r, token, text, e, f)
  both_after text r (Ok _) (Ok _) (Err m) v c e f = inr (m, e, f)
  both_after text r (Ok _) (Err m) after v c e f = inr (m, e, f)
  both_after text r (Err m) index after v c e f = inr (m, e, f)

  pub requests_both : RequestsBoth
  requests_both = of_sort (sort_in options.sort) refl
    where
      of_sort : (sort : Result Doc (List ℕ)) → sort_in options.sort ≡ sort → RequestsBoth
      of_sort (Err m) is = inr (
        m,
        ap (λ (x : Result Doc (List ℕ)). then_part x (search_of options by_value)) is,
        ap (λ (x : Result Doc (List ℕ)). then_part x (search_of options with_codes)) is,
      )
      of_sort (Ok sort) is = of_request (request_of by_value sort options.skip options.limit) refl
        where
          v_is : requested_of options by_value ≡ after_request (request_of by_value sort options.skip options.limit)
          v_is = ap (λ (x : Result Doc (List ℕ)). then_part x (search_of options by_value)) is

          c_is : requested_of options with_codes ≡ after_request (request_of with_codes sort options.skip options.limit)
          c_is = ap (λ (x : Result Doc (List ℕ)). then_part x (search_of options with_codes)) is

          of_request : (x : Result Request Reason) → request_of by_value sort options.skip options.limit ≡ x → RequestsBoth
          of_request (Err why) e = inr (
            refused_text why,
            v_is ∙ ap after_request e,
            c_is ∙ ap after_request (refusals_stay table longs numbers wholes texts sort options.skip options.limit why e),
          )
          of_request (Ok r) e =
              let text = request_text with_codes sort options.skip options.limit in
              both_after text r (error_as refused_text (batch_part options.batch)) (error_as index_fault_text (named_index options.index))
              (error_as refused_text (after_part options.after)) (requested_of options by_value) (requested_of options with_codes)
              (v_is ∙ ap after_request e) (c_is ∙ ap after_request (requests_are_read table longs numbers wholes texts sort options.skip options.limit r e))

  -- why the options ask nothing of codes is why they ask nothing by value
  pub requests_nothing : (fault : SearchFault) → ReportsSearchFault (requested_of options with_codes) fault
      → ReportsAs (IsNoRequest options longs numbers wholes texts table) fault
  requests_nothing faults.NoMemory reported = tt
  requests_nothing (faults.Refused refused) reported = of_message (refused_text (reason_of refused)) reported requests_both
    where
      of_message : (m : List ℕ) → requested_of options with_codes ≡ Err m → RequestsBoth → IsNoRequest options longs numbers wholes texts table m
      of_message m is (inl (r, token, text, v, c)) = absurd (let no : ⊥ = cc in no)
      of_message m is (inr (n, v, c)) = inr (v ∙ sym c ∙ is)
  requests_nothing (faults.Message message) reported = of_message (string_bytes message) reported requests_both
    where
      of_message : (m : List ℕ) → requested_of options with_codes ≡ Err m → RequestsBoth → IsNoRequest options longs numbers wholes texts table m
      of_message m is (inl (r, token, text, v, c)) = absurd (let no : ⊥ = cc in no)
      of_message m is (inr (n, v, c)) = inr (v ∙ sym c ∙ is)

  -- a request to codes is that by value with codes
  pub requested_by_value : (coded : Request) (token : Option Token) → requested_of options with_codes ≡ Ok (coded, token)
      → (r : Request) × (requested_of options by_value ≡ Ok (r, token)) × (coded ≡ renumber_request (table_codes table) coded.text r)
  requested_by_value coded token is = go requests_both
    where
      go : RequestsBoth → (r : Request) × (requested_of options by_value ≡ Ok (r, token)) × (coded ≡ renumber_request (table_codes table) coded.text r)
      go (inl (r, t, text, v, c)) =
          let same : Ok (renumber_request (table_codes table) text r, t) ≡ Ok (coded, token) = sym c ∙ is in
          let pair : (renumber_request (table_codes table) text r, t) ≡ (coded, token) = cc in
          let request : renumber_request (table_codes table) text r ≡ coded = ap (λ (p : Request × Option Token). p.0) pair in
          let tokens : t ≡ token = ap (λ (p : Request × Option Token). p.1) pair in
          let texts_are : text ≡ coded.text = ap (λ (x : Request). x.text) request in
          (r, v ∙ ap (λ (x : Option Token). Ok (r, x)) tokens, sym request ∙ ap (λ (x : List ℕ). renumber_request (table_codes table) x r) texts_are)
      go (inr (m, v, c)) = absurd (let no : ⊥ = (let same : Err m ≡ Ok (coded, token) = sym c ∙ is in cc) in no)

  module _ (coded : Request) (token : Option Token) (view : Request) (requested : requested_of options with_codes ≡ Ok (coded, token))
      (beside : (r : Request) (text : List ℕ) → coded ≡ renumber_request (table_codes table) text r
      → view ≡ renumber_request (table_codes table) text (record r { filter = beside_nan table r.filter })) where
    -- the search with codes requests what the options ask by value
    pub search_requests : (requests : IsRequest options longs numbers wholes texts table) × (token ≡ requests.token)
        × (view ≡ renumber_request (table_codes table) requests.coded.text (request_by_value table requests.request requests.coded))
    search_requests =
        let (r, by, is) = requested_by_value coded token requested in
        (record { request = r; token = token; requested = by; coded = coded; written = requested }, refl, beside r coded.text is)
