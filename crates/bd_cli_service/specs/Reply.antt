-- The replies of a session, and the document that is printed for each.
use Rattle.std.specs.Prelude.{◌≡◌, ℕ, pos, Bool, true, false, List, [], ◌∷◌, Option, codes, map, option_map}
use Rattle.std.specs.{List.join_with_byte}
use Rattle.bd_value.specs.Tree.{Doc, Tree, array, doc, fields_of, items_of, leaf}
use Rattle.bd_extjson_text.specs.Text.{listed, member, object, text}
use Rattle.bd_cursor_model.specs.Session.{IndexCounts}
use Rattle.bd_bson_dump.specs.Collection.{documents_at}
use Rattle.bd_extjson_fault.specs.{declared.json_fault.JsonFault.JsonFault, declared.json_fault.JsonFaultKind.JsonFaultKind}
use Rattle.bd_extjson_fault.specs.JsonFault.{json_fault_number, json_fault_words}
use Rattle.bd_path.specs.{Path.path_fault_number, Path.path_fault_words, declared.path.PathFault.PathFault}
use Rattle.bd_query_filter.specs.Fault.{Refusal, filter_fault_number, filter_fault_words}
use Rattle.bd_cursor_request.specs.Refused.{Reason, bad_filter, plain, reason_of, refused_number, refused_words}
use Rattle.bd_cursor_request.specs.Results.{count_value, made_counts, text_or_null}
use Rattle.bd_cursor_request.specs.{Token.token_text, declared.results.Batch.Batch}
use Rattle.bd_cursor.specs.Explanation.{explain_doc}
use Rattle.bd_cli_command.specs.{Command.command_fault_number, Command.command_fault_words}
use Rattle.bd_cli_command.specs.{declared.command.CommandFault.CommandFault}
use Rattle.bd_cli_service.specs.declared.{reply.LineRefusal.LineRefusal, reply.Reply.Reply}
use Rattle.bd_value.specs.Tree as trees
use Rattle.bd_extjson_fault.specs.declared.json_fault.JsonFaultKind.TheVariants as json
use Rattle.bd_cli_service.specs.declared.reply.LineRefusal.TheVariants as refusals
use Rattle.bd_cli_service.specs.declared.reply.Reply.TheVariants as replies

-- a refusal in a reply: the layer that refuses, the number and the message of the reason,
-- and the field that says where, if any
pub record ReportedRefusal : Type 0 where
  pub layer : List ℕ
  pub number : ℕ
  pub words : List ℕ
  pub place : Doc

-- a reply: done, a cursor, a batch (its documents, whether nothing remains, the token's text),
-- counts of an index, an explanation, or a refusal
pub data LineReply : Type 0 where
  done : LineReply
  opens : ℕ → LineReply
  gives : List Doc → Bool → Option (List ℕ) → LineReply
  makes : IndexCounts → LineReply
  explains : Doc → LineReply
  refuses : ReportedRefusal → LineReply

-- documents as a BSON array, in order
abbrev pub documents_value : List Doc → Tree
documents_value ds = array (items_of (map (λ d. doc (fields_of d)) ds))

-- the fields of a reply after `ok`
abbrev pub reply_pairs : LineReply → Doc
reply_pairs done = []
reply_pairs (opens id) = (codes "cursor", count_value id) ∷ []
reply_pairs (gives ds ends token) =
    (codes "documents", documents_value ds) ∷ (codes "end", leaf (trees.boolean ends))
    ∷ (codes "token", text_or_null token) ∷ []
reply_pairs (makes c) = (codes "entries", count_value c.entries)
    ∷ (codes "multikey", leaf (trees.boolean c.is_multikey)) ∷ []
reply_pairs (explains pairs) = pairs
reply_pairs (refuses r) =
    (codes "layer", leaf (trees.text r.layer)) ∷ (codes "number", leaf (trees.int32 (pos r.number)))
    ∷ (codes "text", leaf (trees.text r.words)) ∷ r.place

-- whether a reply is a result, not a refusal
abbrev pub is_result : LineReply → Bool
is_result (refuses r) = false
is_result _ = true

-- a reply as a document: `ok` first, true for a result and false for a refusal, then the other fields
abbrev pub reply_document : LineReply → Doc
reply_document r = (codes "ok", leaf (trees.boolean (is_result r))) ∷ reply_pairs r

-- the text of a reply: canonical Extended JSON without white space
abbrev pub reply_text : LineReply → List ℕ
reply_text r = text (doc (fields_of (reply_document r)))

-- ---- a batch, by what prints a document

-- These are the texts of the documents at these places, where a text has this property for its place.
abbrev pub AreTextsAt : (ℕ → List ℕ → Type 0) → List ℕ → List (List ℕ) → Type 0
AreTextsAt IsText [] texts = texts ≡ []
AreTextsAt IsText (p ∷ ps) texts =
    (first : List ℕ) × (rest : List (List ℕ)) × IsText p first × AreTextsAt IsText ps rest × (texts ≡ first ∷ rest)

-- the text of the reply with a batch of documents that have these texts:
-- the same fields, with whether nothing remains, and the token's text
abbrev pub given_text : List (List ℕ) → Bool → Option (List ℕ) → List ℕ
given_text texts ends token = object (member (codes "ok") (text (leaf (trees.boolean true)))
    ∷ member (codes "documents") (listed texts)
    ∷ member (codes "end") (text (leaf (trees.boolean ends)))
    ∷ member (codes "token") (text (text_or_null token)) ∷ [])

-- ---- refusals

-- the field `at` of a refusal: the byte offset in the line, or null if the line as a whole is no document
abbrev pub json_fault_byte : JsonFaultKind → ℕ → Tree
json_fault_byte json.NotADocument at = leaf trees.null
json_fault_byte _ at = count_value at

-- the refusal of a line that is no Extended JSON document:
-- layer `json`, with the byte offset in the line as `at`
abbrev pub json_refusal : JsonFault → ReportedRefusal
json_refusal f = record {
  layer = codes "json";
  number = json_fault_number f.kind;
  words = json_fault_words f.kind;
  place = (codes "at", json_fault_byte f.kind f.at) ∷ [];
}

-- the refusal of a document that is no command: layer `command`
abbrev pub command_refusal : CommandFault → ReportedRefusal
command_refusal f = record {
  layer = codes "command";
  number = command_fault_number f;
  words = command_fault_words f;
  place = [];
}

-- the refusal of a filter: layer `filter`, with the path to the pair or member, joined by dots, as `place`
abbrev pub filter_refusal : Refusal → ReportedRefusal
filter_refusal r = record {
  layer = codes "filter";
  number = filter_fault_number r.kind;
  words = filter_fault_words r.kind;
  place = (codes "place", leaf (trees.text (join_with_byte 46 r.place))) ∷ [];
}

-- the refusal of the path of an index: layer `path`
abbrev pub path_refusal : PathFault → ReportedRefusal
path_refusal f = record { layer = codes "path"; number = path_fault_number f; words = path_fault_words f; place = [] }

-- the refusal of a request, a token or a call: layer `session`; that of a filter is of layer `filter`
abbrev pub session_refusal : Reason → ReportedRefusal
session_refusal (bad_filter r) = filter_refusal r
session_refusal (plain r) =
    record { layer = codes "session"; number = refused_number r; words = refused_words r; place = [] }

-- ---- replies in memory

-- the refusal that a `LineRefusal` in memory reports
abbrev pub reported_refusal : LineRefusal → ReportedRefusal
reported_refusal (refusals.Json fault) = json_refusal fault
reported_refusal (refusals.Command fault) = command_refusal fault
reported_refusal (refusals.Path fault) = path_refusal fault
reported_refusal (refusals.Session refused) = session_refusal (reason_of refused)

-- the reply with a batch in memory, with its documents
abbrev pub given_reply : List Doc → Batch → LineReply
given_reply ds batch = gives (documents_at ds batch.places.items) batch.end (option_map token_text batch.token)

-- the reply that a `Reply` in memory represents, over these documents
abbrev pub line_reply : List Doc → Reply → LineReply
line_reply ds replies.Done = done
line_reply ds (replies.Opened id) = opens id
line_reply ds (replies.Gave batch) = given_reply ds batch
line_reply ds (replies.Made m) = makes (made_counts m)
line_reply ds (replies.Explained e) = explains (explain_doc e)
line_reply ds (replies.Refused refusal) = refuses (reported_refusal refusal)
