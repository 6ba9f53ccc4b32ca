-- The field `places` of `getMore`: the reply has the numbers of the documents, counted from 0, in place of the documents.
use Rattle.std.specs.Prelude.{◌≡◌, ◌+◌, ℕ, pos, Bool, true, false, not, List, [], ◌∷◌, codes, length, map, nat_lt, bytes_eq, if◌then◌else◌}
use Rattle.std.specs.Prelude.{Option, Some, None, option_map, Result, Ok, Err}
use Rattle.std.specs.{List.filter, Option.option_map_or}
use Rattle.bd_value.specs.Tree.{Doc, Tree, array, boolean, doc, fields_of, first_of, int32, int64, items_of, leaf}
use Rattle.bd_extjson.specs.Read.{reading}
use Rattle.bd_extjson_text.specs.Text.{text}
use Rattle.bd_cursor_model.specs.Session.{GivenBatch, Reply, State, gave, next_call, state_after}
use Rattle.bd_cursor_model.specs.Session as machine
use Rattle.bd_cursor_request.specs.Results.{positioned_text, text_or_null}
use Rattle.bd_cli_command.specs.{CommandOf.command_of, Field.truth_field, declared.command.CommandFault.CommandFault as Fault}
use Rattle.bd_cli_command.specs.Command.{Command, gets_more}
use Rattle.bd_cli_service.specs.Reply.{command_refusal, refuses, reply_text}
use Rattle.bd_cli_service.specs.Talk.{reply_output}

-- what a line requests by its field `places`
pub data Placed : Type 0 where
  -- the line has no such field, or is no document without doubles and decimal128
  absent : Placed
  -- what the document without the field requests
  documents : Doc → Placed
  -- the next documents of the cursor of this number, at most as many as the batch has, by their numbers
  numbers : (id batch : ℕ) → Placed
  -- the document is no command
  faulty : Fault → Placed

-- the pairs with another name than `places`
abbrev pub without_places : Doc → Doc
without_places d = filter (λ p. not (bytes_eq p.0 (codes "places"))) d

-- a `getMore`: its pairs without the field, and the boolean that is the field's value
abbrev pub batch_by : ℕ → ℕ → Doc → Option Bool → Placed
batch_by id batch rest (Some true) = numbers id batch
batch_by id batch rest (Some false) = documents rest
batch_by id batch rest None = faulty Fault.BadField

-- A document with the field, by its pairs without the field, and the command that they are: only `getMore` has the field, and has it once.
abbrev pub placed_by : Doc → Bool → Option Bool → Result Command Fault → Placed
placed_by rest repeated value (Err f) = faulty f
placed_by rest repeated value (Ok (gets_more id batch)) = if repeated then faulty Fault.RepeatedField else batch_by id batch rest value
placed_by rest repeated value (Ok c) = faulty Fault.UnknownField

-- what a document requests by the field
abbrev pub placed_in : Doc → Placed
placed_in d = let rest = without_places d in
    option_map_or (λ value. placed_by rest (nat_lt (length rest + 1) (length d)) (truth_field value) (command_of rest)) (first_of (codes "places") d) absent

-- what a line requests by the field
abbrev pub placed_line : List ℕ → Placed
placed_line line = option_map_or placed_in (reading line) absent

-- the number of a document: an int32 if it is one
abbrev pub place_value : ℕ → Tree
place_value p = leaf (if nat_lt p 2147483648 then int32 (pos p) else int64 (pos p))

-- the reply with the numbers of the documents of a batch
abbrev pub places_reply : GivenBatch → Doc
places_reply b = (codes "ok", leaf (boolean true)) ∷ (codes "places", array (items_of (map place_value b.places)))
    ∷ (codes "end", leaf (boolean b.ends)) ∷ (codes "token", text_or_null (option_map positioned_text b.token)) ∷ []

-- the text of a reply to `getMore` with the field
abbrev pub places_text : Reply → List ℕ
places_text (gave b) = text (doc (fields_of (places_reply b)))
places_text r = reply_text (reply_output [] r)

-- With the field, a session that has these replies replies so to a line, in state s, and its state becomes t.
module _ (Replies : State → List ℕ → List ℕ → State → Type 0) (s : State) (line reply : List ℕ) (t : State) where
  -- by what the line requests
  abbrev pub RepliesAs : Placed → Type 0
  RepliesAs absent = Replies s line reply t
  RepliesAs (documents d) = Replies s (text (doc (fields_of d))) reply t
  RepliesAs (numbers id batch) =
      (reply ≡ places_text (machine.reply s (next_call id batch))) × (t ≡ state_after s (next_call id batch))
  RepliesAs (faulty f) = (reply ≡ reply_text (refuses (command_refusal f))) × (t ≡ s)

  -- by what is in the line
  abbrev pub RepliesWithPlaces : Type 0
  RepliesWithPlaces = RepliesAs (placed_line line)
