-- What `find` prints for its options and an input, and where a run of it may stop.
use Rattle.std.specs.Prelude.{◌≡◌, ℕ, nat_lt, List, [], length, option_map, Option, Some, None, Result}
use Rattle.std.specs.Prelude.{Ok, Err, codes, if◌then◌else◌, ◌⊎◌, Bool, true, false, map, ◌∷◌, ◌++◌}
use Rattle.std.specs.{Prelude.drop, Prelude.decimal, Result.result_map_both, Str.bytes_eq}
use Rattle.bd_value.specs.{Tree.Doc, Tree.doc, Tree.fields_of}
use Rattle.bd_cursor_model.specs.Answer.{answer, rest, at_most, is_empty}
use Rattle.bd_cursor_model.specs.Session.{OpenCursor, Query, PositionedToken, token_after}
use Rattle.bd_cursor_model.specs.Laws.{DocumentRequest}
use Rattle.bd_cursor.specs.{SessionView.position_of, SessionView.positioned_token}
use Rattle.bd_cursor_request.specs.{Request.Request, declared.token.Token.Token, Results.positioned_text}
use Rattle.bd_cursor_request.specs.Refused.{Reason, plain}
use Rattle.bd_bson_dump.specs.Collection.{documents_at}
use Rattle.bd_io_device.specs.{Devices.Over, Devices.Reader, Devices.read_words}
use Rattle.bd_io_device.specs.{declared.reading.ReadFault.ReadFault}
use Rattle.bd_bson_check.specs.{Fault.Fault, Dump.IsDumpScan}
use Rattle.bd_cli_args.specs.FindOptions.{FindOptions}
use Rattle.bd_cli_find.specs.Options.{refused_text, requested_by}
use Rattle.bd_cli_find.specs.declared.around.Around.{Around as Slices}
use Rattle.bd_cursor_sort.specs.Selection.{query_to, selection_for}
use Rattle.bd_cli_scan.specs.{Input.ReadsInput, Run.Run, Run.refusal_run, Run.run_until}
use Rattle.bd_cli_scan.specs.declared.output.Status.TheVariants.{Done}
use Rattle.bd_cli_scan.specs.Output.{Transcript, lines, fault_text, refusal_output}
use Rattle.bd_extjson_text.specs.Text.{text}
use Rattle.bd_path.specs.Sort.{SortPath, sort_cmp}
use Rattle.bd_query_filter.specs.{Filter.Filter, FilterMatch.matches}
use Rattle.bd_extjson_pack.specs.Packable.{IsPackable}
use Rattle.bd_cursor_request.specs.declared.results.Refused.TheVariants as reasons

-- the requested document numbers: the whole answer, or what follows a token,
-- whose digest is checked first, then its document number
abbrev pub places_from : Query → Option Token → Result (List ℕ) Reason
places_from q None = Ok (answer q.selection)
places_from q (Some t) = if bytes_eq t.digest q.digest
    then (if nat_lt t.last q.selection.count then Ok (rest q.selection (position_of t)) else Err (plain reasons.TokenPlace))
    else Err (plain reasons.ForeignToken)

-- an open cursor with these document numbers remaining
abbrev pub cursor_for : ℕ → Query → Option Token → List ℕ → OpenCursor
cursor_for id q token ps = record { id = id; digest = q.digest; token = option_map positioned_token token; remaining = ps }

-- what remains after the first batch; nothing without a size
abbrev pub remaining_over : Option ℕ → List ℕ → List ℕ
remaining_over None ps = []
remaining_over (Some n) ps = drop n ps

-- the end of the line of counts if there is a token: `, token T`
abbrev pub token_words : Option PositionedToken → List ℕ
token_words None = []
token_words (Some t) = codes ", token " ++ positioned_text t

-- the middle of the line of counts: whether documents remain (`more`) or not (`end`)
abbrev pub end_words : Bool → List ℕ
end_words ends = if ends then codes " documents, end" else codes " documents, more"

-- the line of counts after a batch: how many documents, `end` or `more`, and the token if any
abbrev pub find_count_line : ℕ → Bool → Option PositionedToken → List ℕ
find_count_line count ends token = decimal count ++ (end_words ends ++ (token_words token ++ 10 ∷ []))

-- the line of counts for a cursor after its first batch, with the token
abbrev pub counts_of : Option ℕ → OpenCursor → List ℕ
counts_of size c = let ps = at_most size c.remaining in
    find_count_line (length ps) (is_empty (remaining_over size c.remaining)) (token_after c.digest c.token ps)

-- the output of `find` for a cursor if this text is printed of its first batch: the text, and the line of counts
abbrev pub output_of_text : Option ℕ → OpenCursor → List ℕ → Transcript
output_of_text size c printed = record { out = printed; err = λ program. counts_of size c; status = Done }

-- the first cursor for a request and a token, over bytes that are these documents; or the message, if the document after them has a
-- fault or the token is refused
abbrev pub cursor_over : Request × Option Token → List ℕ → List Doc → Option Fault → Result OpenCursor (List ℕ)
cursor_over w bytes ds None =
    let q = query_to bytes ds w.0 in result_map_both (cursor_for 1 q w.1) refused_text (places_from q w.1)
cursor_over w bytes ds (Some fault) = Err (fault_text (length ds) fault)

-- the output of `find` for a cursor: the documents of its first batch, and the line of counts with the token; or a message alone
abbrev pub batch_output : Option ℕ → List Doc → Result OpenCursor (List ℕ) → Transcript
batch_output size ds (Ok c) = output_of_text size c (lines (documents_at ds (at_most size c.remaining)))
batch_output size ds (Err message) = refusal_output message

-- This is the output of `find` for a batch size, a request and an input: the first error alone, or the first batch.
abbrev pub IsOutputOf : Option ℕ → Result (Request × Option Token) (List ℕ) → Result (List ℕ) ReadFault → Transcript → Type 0
IsOutputOf size (Err message) input output = output ≡ refusal_output message
IsOutputOf size (Ok w) (Err fault) output = output ≡ refusal_output (read_words fault)
IsOutputOf size (Ok w) (Ok bytes) output = (ds : List Doc) × (end : Option Fault) × IsDumpScan ds end bytes
    × (output ≡ batch_output size ds (cursor_over w bytes ds end))

-- This is the output of `find` for its options and an input.
abbrev pub IsOutputOfFind : FindOptions → Result (List ℕ) ReadFault → Transcript → Type 0
IsOutputOfFind options input output = IsOutputOf options.batch (requested_by options) input output

-- The file was read if something is asked for; it was not read if the options are refused.
abbrev pub ReadsIfRequested : Result (Request × Option Token) (List ℕ) → Over Reader → Result (List ℕ) ReadFault → Type 0
ReadsIfRequested (Ok w) file input = ReadsInput file input
ReadsIfRequested (Err message) file input = file.after ≡ file.before

-- The text is nothing, or lines of documents that the output begins with, but not all of its lines.
abbrev pub AreFirstLines : List ℕ → List ℕ → Type 0
AreFirstLines out text =
    (text ≡ []) ⊎ ((ds : List Doc) × (d : Doc) × (es : List Doc) × (out ≡ lines (ds ++ d ∷ es)) × (text ≡ lines ds))

-- a run that prints this output; if memory runs out, that is before a line
abbrev pub lines_run : Transcript → Run
lines_run output = run_until (AreFirstLines output.out) output

-- A run of `find`: it reads its whole input first, unless an option is refused;
-- or memory ran out before, and nothing was read.
abbrev pub find_run : FindOptions → Over Reader → Run
find_run options file = let Reads = ReadsIfRequested (requested_by options) file in record {
  IsOutput = λ output. (input : Result (List ℕ) ReadFault) × Reads input × IsOutputOfFind options input output;
  IsNext = λ text piece. (bytes : List ℕ) × (output : Transcript) × Reads (Ok bytes) × IsOutputOfFind options (Ok bytes) output
      × (lines_run output).IsNext text piece;
  IsBegun = λ text. ((bytes : List ℕ) × (output : Transcript) × Reads (Ok bytes) × IsOutputOfFind options (Ok bytes) output
      × (lines_run output).IsBegun text) ⊎ ((text ≡ []) × (file.after ≡ file.before));
}

-- ---- by what is printed of the documents

-- what is printed of the documents that are found, by their numbers: of which items, and a piece with this property for each of these
pub record Printing : Type 1 where
  pub Item : Type 0
  pub items : List ℕ → List Item
  pub IsPiece : Item → List ℕ → Type 0

-- The piece is the text of the document with that number, and this end.
abbrev pub IsEnded : (ℕ → List ℕ → Type 0) → List ℕ → ℕ → List ℕ → Type 0
IsEnded IsText end p piece = (text : List ℕ) × IsText p text × (piece ≡ text ++ end)

-- each document, and this end after each
abbrev pub each_document : (ℕ → List ℕ → Type 0) → List ℕ → Printing
each_document IsText end = record { Item = ℕ; items = λ ps. ps; IsPiece = IsEnded IsText end }

-- one piece: how many documents they are, on a line
abbrev pub their_count : Printing
their_count = record { Item = ℕ; items = λ ps. length ps ∷ []; IsPiece = λ n piece. piece ≡ decimal n ++ 10 ∷ [] }

-- what is around the texts of documents: before the first, between two, after each, and after the last
pub record Around : Type 0 where
  pub opening : List ℕ
  pub separator : List ℕ
  pub ending : List ℕ
  pub closing : List ℕ

-- a part of what is printed of documents: what is before them, a document, which is the first or a later one, or what is after
-- them
pub data Part : Type 0 where
  opens : Part
  document : Bool → ℕ → Part
  closes : Part

-- the documents with these numbers
abbrev pub document_parts : List ℕ → List Part
document_parts [] = []
document_parts (p ∷ ps) = document true p ∷ map (document false) ps

-- all parts of what is printed of these documents
abbrev pub parts : List ℕ → List Part
parts ps = opens ∷ (document_parts ps ++ closes ∷ [])

-- what is before a document, which is the first or a later one
abbrev pub before_document : Around → Bool → List ℕ
before_document around true = []
before_document around false = around.separator

-- what is around the texts of documents, as an `Around` in memory has it
abbrev pub around_of : Slices → Around
around_of a = record { opening = a.opening.now; separator = a.separator.now; ending = a.ending.now; closing = a.closing.now }

-- The piece is that of the part: a document by its text.
abbrev pub IsPart : (ℕ → List ℕ → Type 0) → Around → Part → List ℕ → Type 0
IsPart IsText around opens piece = piece ≡ around.opening
IsPart IsText around (document first p) piece =
    (text : List ℕ) × IsText p text × (piece ≡ before_document around first ++ (text ++ around.ending))
IsPart IsText around closes piece = piece ≡ around.closing

-- each document, and what is around them
abbrev pub around_documents : (ℕ → List ℕ → Type 0) → Around → Printing
around_documents IsText around = record { Item = Part; items = parts; IsPiece = IsPart IsText around }

-- These are the pieces for these items, joined.
abbrev pub ArePieces : {I : Type 0} → (I → List ℕ → Type 0) → List I → List ℕ → Type 0
ArePieces IsPiece [] text = text ≡ []
ArePieces IsPiece (n ∷ ns) text =
    (piece : List ℕ) × (rest : List ℕ) × IsPiece n piece × ArePieces IsPiece ns rest × (text ≡ piece ++ rest)

-- These are the pieces for the first of these items, but not for all of them; or nothing.
abbrev pub AreFirstPieces : {I : Type 0} → (I → List ℕ → Type 0) → List I → List ℕ → Type 0
AreFirstPieces {I} IsPiece ns text = (text ≡ [])
    ⊎ ((printed : List I) × (n : I) × (others : List I) × (ns ≡ printed ++ n ∷ others) × ArePieces IsPiece printed text)

-- These are the pieces for the first of these items, and this is the next.
abbrev pub IsNextPiece : {I : Type 0} → (I → List ℕ → Type 0) → List I → List ℕ → List ℕ → Type 0
IsNextPiece {I} IsPiece ns text next = (printed : List I) × (n : I) × (others : List I) × (ns ≡ printed ++ n ∷ others)
    × ArePieces IsPiece printed text × IsPiece n next

-- A run of `find` for a cursor prints its first batch piece by piece; or a message alone.
abbrev pub batch_run : Printing → Option ℕ → Result OpenCursor (List ℕ) → Run
batch_run printing size (Ok c) = let ns = printing.items (at_most size c.remaining) in record {
  IsOutput = λ output. (text : List ℕ) × ArePieces printing.IsPiece ns text × (output ≡ output_of_text size c text);
  IsNext = IsNextPiece printing.IsPiece ns;
  IsBegun = AreFirstPieces printing.IsPiece ns;
}
batch_run printing size (Err message) = refusal_run message

-- A run of `find` over a well-formed dump.
abbrev pub found_run : Printing → Option ℕ → Request × Option Token → List ℕ → List Doc → Run
found_run printing size w bytes ds = batch_run printing size (cursor_over w bytes ds None)

-- ---- in terms of documents

-- the request of a filter, a sort, a skip and a limit, in terms of documents instead of their numbers
abbrev pub document_request : Filter → List SortPath → ℕ → ℕ → DocumentRequest Doc
document_request f ss skip limit = record {
  matches = λ d. matches f (doc (fields_of d));
  by = λ c d. sort_cmp ss (doc (fields_of c)) (doc (fields_of d));
  skip = skip;
  limit = limit;
}

-- the documents that `find` prints from these documents, for a filter, a sort, a skip and a limit
abbrev pub documents_output : Filter → List SortPath → ℕ → ℕ → List Doc → List Doc
documents_output f ss skip limit ds = documents_at ds (answer (selection_for ds f ss skip limit))

-- The canonical text of the document is read back as this document, and can be packed.
abbrev pub IsReadBack : Doc → Type 0
IsReadBack d = IsPackable (text (doc (fields_of d))) d
