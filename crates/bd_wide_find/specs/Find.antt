-- What `bsonwide find` prints for a query, its options and an input: numbers of all types match, and are sorted, by their values.
use Rattle.std.specs.Prelude.{◌≡◌, ◌⊎◌, ℕ, ℤ, List, [], ◌∷◌, ◌++◌, codes, Option, Some, None, Ok, Err}
use Rattle.std.specs.List.{join_with_byte}
use Rattle.bd_value.specs.{Tree.Doc, Tree.doc, Tree.fields_of, Fits.Fits}
use Rattle.bd_io_device.specs.Devices.{Over, Reader, read_words}
use Rattle.bd_io_device.specs.declared.reading.ReadFault.{ReadFault}
use Rattle.bd_bson_check.specs.{Dump.IsDump, Fault.fault_view}
use Rattle.bd_bson_check.specs.declared.fault.Fault.{Fault}
use Rattle.bd_extjson_fault.specs.declared.json_fault.JsonFault.{JsonFault}
use Rattle.bd_extjson_fault.specs.declared.json_fault.JsonFaultKind.TheVariants.{NotADocument}
use Rattle.bd_extjson_text.specs.Text.{quoted}
use Rattle.bd_cursor_request.specs.{Request.Request, declared.token.Token.Token}
use Rattle.bd_cli_args.specs.FindOptions.{FindOptions}
use Rattle.bd_cli_args.specs.declared.wide_line.Form.{Form}
use Rattle.bd_cli_scan.specs.{Input.ReadsInput, Run.Run, Run.refusal_run, Output.fault_text}
use Rattle.bd_cli_find.specs.Find.{Around, Printing, around_documents, each_document, found_run, their_count}
use Rattle.bd_cli_find.specs.Options.{json_fault_text}
use Rattle.bd_wide_layout.specs.Layout.{LayoutView, closing, ending, opening, separator}
use Rattle.bd_wide_number.specs.declared.number.Number.{Number}
use Rattle.bd_wide_rank.specs.{Rank.AreDistinct, Rank.HaveSame, Rank.code, Worth.worth}
use Rattle.bd_wide_copy.specs.declared.longs.Longs.{Longs}
use Rattle.bd_wide_copy.specs.{Classes.classed, Dump.AreDocuments, Dump.AreJoinedBy, Dump.IsCopyOfDump, Dump.IsDocumentAt, Dump.IsFirstFault, Numbers.document_numbers}
use Rattle.bd_wide_substitute.specs.Both.{IsRead, IsUnread}
use Rattle.bd_wide_query.specs.{Coded.coded_query, Coded.valued_query, Nan.beside_nan, Split.Split, Split.third_class, Types.longs_of}
use Rattle.bd_wide_find.specs.{Options.advised_text, Options.requested_of, Printer.IsLaidOutText}

-- ---- what is requested

-- The text of a query is refused with this message.
abbrev pub IsRefusedText : List ℕ → List ℕ → Type 0
IsRefusedText text message = (fault : JsonFault) × IsUnread text fault × (message ≡ advised_text (codes "query") text fault)

-- The query with this text, or one of the other options, is refused with this message, whatever the file contains.
abbrev pub IsRefused : List ℕ → FindOptions → List ℕ → Type 0
IsRefused text options message = IsRefusedText text message
    ⊎ ((wholes : Doc) × (texts : Doc) × (numbers : List Number) × IsRead text wholes texts numbers
    × (requested_of options texts ≡ Err message))

-- What the text of a query and the other options ask: a query, as two documents and the numbers where they differ.
pub record IsAccepted (text : List ℕ) (options : FindOptions) : Type 0 where
  pub wholes : Doc
  pub texts : Doc
  pub numbers : List Number
  pub read : IsRead text wholes texts numbers
  pub request : Request
  pub token : Option Token
  pub requested : requested_of options texts ≡ Ok (request, token)

-- ---- the answer by value

-- The bytes are these documents by value and class, and the table has the worth of each number in them once.
pub record HasTable (longs : Longs) (bytes : List ℕ) (ds : List Doc) (table : List ℤ) : Type 0 where
  pub are : AreJoinedBy (classed longs worth) ds bytes
  pub distinct : AreDistinct table
  pub same : HaveSame table (document_numbers ds)

-- The request of a query by value and class. The text is that of the request with ranks among the numbers of a table.
pub record IsRequest (options : FindOptions) (longs : Longs) (numbers : List Number) (wholes texts : Doc) (table : List ℤ) : Type 0 where
  pub request : Request
  pub token : Option Token
  pub requested : requested_of options (valued_query longs numbers wholes texts) ≡ Ok (request, token)
  pub coded : Request
  pub written : requested_of options (coded_query table longs numbers wholes texts) ≡ Ok (coded, token)

-- the message for a query that has a `$type` at this place which needs a third class of numbers
abbrev pub types_message : List (List ℕ) → List ℕ
types_message place = codes "query: place "
    ++ (quoted (join_with_byte 46 place) ++ codes ": the types of numbers are not told apart here")

-- The options are refused with this message: the query with ranks is no document, or it or another option requests what it may not.
abbrev pub IsNoRequest : FindOptions → Longs → List Number → Doc → Doc → List ℤ → List ℕ → Type 0
IsNoRequest options longs numbers wholes texts table message =
    ((Fits (doc (fields_of (coded_query table longs numbers wholes texts))) → ⊥)
    × (message ≡ json_fault_text (codes "query") (record { kind = NotADocument; at = 0 })))
    ⊎ (requested_of options (valued_query longs numbers wholes texts) ≡ Err message)

-- A request by value to documents by value, in which each number is in one of the two classes that each `$type` of the query treats
-- alike. Its tokens have the digest of a copy of the dump, in which each number is its rank among those of the dump, and of the text of
-- the request with such ranks.
pub record IsRequestOver (options : FindOptions) (numbers : List Number) (wholes texts : Doc) (bytes : List ℕ) : Type 0 where
  pub two_classes : third_class (fields_of texts) ≡ None
  pub ds : List Doc
  pub table : List ℤ
  pub has : HasTable (longs_of (fields_of texts)) bytes ds table
  pub requests : IsRequest options (longs_of (fields_of texts)) numbers wholes texts table
  pub copy : List ℕ
  pub copied : IsCopyOfDump (longs_of (fields_of texts)) worth (code table) bytes copy

-- the request, with NaN as in MongoDB
abbrev pub request_by_value : List ℤ → Request → Request → Request
request_by_value table request coded = record request { filter = beside_nan table request.filter; text = coded.text }

-- The options are refused with this message over a dump of all types, all of whose bytes are documents: a `$type` of the query needs a
-- third class of numbers, and the message has its place; or none does, and there is no such request.
abbrev pub IsRefusedOver : FindOptions → List Number → Doc → Doc → List ℕ → List ℕ → Type 0
IsRefusedOver options numbers wholes texts bytes message =
    (AreDocuments bytes × (split : Split) × (third_class (fields_of texts) ≡ Some split) × (message ≡ types_message split.path))
    ⊎ ((third_class (fields_of texts) ≡ None) × ((ds : List Doc) × (table : List ℤ) × HasTable (longs_of (fields_of texts)) bytes ds table
    × IsNoRequest options (longs_of (fields_of texts)) numbers wholes texts table message))

-- ---- a run

-- The query or the dump has a double or a decimal128.
abbrev pub HasValues : List Number → List ℕ → Type 0
HasValues numbers bytes = numbers ≡ [] → (ds : List Doc) → IsDump ds bytes → ⊥

-- what a run of `find` comes to, by the text of its query, its options and its file
pub data FindCase (text : List ℕ) (options : FindOptions) (file : Over Reader) : Type 0 where
  -- the options are refused, and the file is not read
  refused : (message : List ℕ) → IsRefused text options message → file.after ≡ file.before → FindCase text options file
  -- the file was not read to its end
  unread : (fault : ReadFault) → IsAccepted text options → ReadsInput file (Err fault) → FindCase text options file
  -- a document has a fault
  faulty : (bytes : List ℕ) (fault : Fault) → IsAccepted text options → ReadsInput file (Ok bytes) → IsFirstFault bytes fault
      → FindCase text options file
  -- neither the query nor the dump has a double or a decimal128
  plain : (a : IsAccepted text options) (bytes : List ℕ) (ds : List Doc) → ReadsInput file (Ok bytes) → a.numbers ≡ [] → IsDump ds bytes
      → FindCase text options file
  -- the query or the dump has one, and the dump is searched by value
  by_value : (a : IsAccepted text options) (bytes : List ℕ) → ReadsInput file (Ok bytes) → HasValues a.numbers bytes
      → IsRequestOver options a.numbers a.wholes a.texts bytes → FindCase text options file
  -- the query or the dump has one, and the options are refused over this dump
  refused_over : (a : IsAccepted text options) (bytes message : List ℕ) → ReadsInput file (Ok bytes) → HasValues a.numbers bytes
      → IsRefusedOver options a.numbers a.wholes a.texts bytes message → FindCase text options file

-- what is around the texts of documents in a layout
abbrev pub around_in : LayoutView → Around
around_in layout = record { opening = opening layout; separator = separator layout; ending = ending layout; closing = closing layout }

-- what a form prints of the documents that are found, by their texts or their bytes: these texts, in a layout; these bytes, joined; or
-- how many documents they are
abbrev pub printing_in : LayoutView → Form → (ℕ → List ℕ → Type 0) → (ℕ → List ℕ → Type 0) → Printing
printing_in layout Form.Lines IsText AreBytes = around_documents IsText (around_in layout)
printing_in layout Form.Bson IsText AreBytes = each_document AreBytes []
printing_in layout Form.Count IsText AreBytes = their_count

-- what a form prints of the documents of a dump with these bytes: each as it is in the dump
abbrev pub printing_of : LayoutView → Form → List ℕ → Printing
printing_of layout form bytes = printing_in layout form (IsLaidOutText layout bytes) (IsDocumentAt bytes)

-- the run of a case, by what is printed of documents of a dump: its message alone, or the first batch of the documents that are found
abbrev pub case_run : {text : List ℕ} {options : FindOptions} {file : Over Reader}
    → (List ℕ → Printing) → FindCase text options file → Run
case_run printing (refused message _ _) = refusal_run message
case_run printing (unread fault _ _) = refusal_run (read_words fault)
case_run printing (faulty bytes fault _ _ _) = refusal_run (fault_text fault.document (fault_view fault))
case_run {text} {options} printing (plain a bytes ds _ _ _) =
    found_run (printing bytes) options.batch (a.request, a.token) bytes ds
case_run {text} {options} printing (by_value a bytes _ _ over) =
    found_run (printing bytes) options.batch
    (request_by_value over.table over.requests.request over.requests.coded, over.requests.token) over.copy over.ds
case_run printing (refused_over a bytes message _ _ _) = refusal_run message

-- A run of `find`, by what it prints of documents of a dump, is that of its case; or memory ran out before anything was printed, and the
-- file was read to its end or not at all.
abbrev pub wide_find_run : (List ℕ → Printing) → List ℕ → FindOptions → Over Reader → Run
wide_find_run printing text options file = record {
  IsOutput = λ output. (c : FindCase text options file) × (case_run printing c).IsOutput output;
  IsNext = λ printed piece. (c : FindCase text options file) × (case_run printing c).IsNext printed piece;
  IsBegun = λ printed. ((c : FindCase text options file) × (case_run printing c).IsBegun printed)
      ⊎ ((printed ≡ []) × ((file.after ≡ file.before) ⊎ ((bytes : List ℕ) × ReadsInput file (Ok bytes))));
}
