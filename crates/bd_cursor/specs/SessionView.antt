-- A session as the state of the machine.
use Rattle.std.specs.Prelude.{◌≡◌, ◌≢◌, ◌-◌, ℕ, Bool, List, [], drop, map, option_map, Option, Some, None}
use Rattle.std.specs.Prelude.{Result, Ok, Err}
use Rattle.std.specs.List.{cons_option, filter, range_with_len}
use Rattle.bd_value.specs.Tree.{Doc}
use Rattle.bd_cursor_model.specs.Answer.{Selection, Position, at_most}
use Rattle.bd_cursor_model.specs.Session.{Call, GivenBatch, IndexKey, PositionedToken, OpenCursor}
use Rattle.bd_cursor_model.specs.Session.{Reply, State, explain_call, make_call, reply, state_after}
use Rattle.bd_cursor_model.specs.Session.{explained, foreign_token, gave, index_there, made, no_cursor, no_index, opened}
use Rattle.bd_cursor_model.specs.Session.{out_of_range, token_place, too_many_cursors, too_many_indexes}
use Rattle.bd_bson_dump.specs.{declared.collection.Dump.Dump, Collection.documents}
use Rattle.bd_cursor_sort.specs.Selection.{query_of}
use Rattle.bd_cursor.specs.{declared.cursor.ScanPosition.ScanPosition, Access.Way, Access.by_one, Access.way_of}
use Rattle.bd_cursor.specs.{Access.index_key, Explanation.explanation_of, Explanation.index_counts}
use Rattle.bd_cursor.specs.{declared.access.Choice.Choice, declared.cursor.Cursor.Cursor}
use Rattle.bd_cursor.specs.{declared.cursor.Remainder.Remainder, declared.session.Session.Session}
use Rattle.bd_path.specs.{PathNames.path_text, declared.path.Path.Path}
use Rattle.bd_cursor_request.specs.{declared.request.Request.Request, declared.results.Batch.Batch}
use Rattle.bd_cursor_request.specs.{declared.results.Refused.Refused, declared.token.Token.Token}
use Rattle.bd_cursor.specs.declared.cursor.Remainder.TheVariants as remainders
use Rattle.bd_cursor_request.specs.declared.results.Refused.TheVariants as reasons

-- the position in an answer that a token in memory has
abbrev pub position_of : Token → Position
position_of t = record { given = t.given; last = t.last }

-- the token that a `Token` in memory represents
abbrev pub positioned_token : Token → PositionedToken
positioned_token t = record { position = position_of t; digest = t.digest }

-- what remains for a scanning cursor: the match that it found,
-- and then the matches among the documents that it did not examine, without those to be skipped
abbrev pub scan_remaining : ℕ → (ℕ → Bool) → ScanPosition → List ℕ
scan_remaining count matches_at a =
    at_most a.most (cons_option a.found (drop a.skip (filter matches_at (range_with_len a.next (count - a.next)))))

-- the document numbers that remain for a cursor in memory
abbrev pub places_remaining : Selection → Remainder → List ℕ
places_remaining a (remainders.Scanned position) = scan_remaining a.count a.matches_at position
places_remaining a (remainders.Listed ps) = ps

-- the cursor of the machine that a `Cursor` in memory represents
abbrev pub open_cursor : Dump → Cursor → OpenCursor
open_cursor dump c = record {
  id = c.id;
  digest = (query_of dump c.request).digest;
  token = option_map positioned_token c.token;
  remaining = places_remaining (query_of dump c.request).selection c.remaining;
}

-- the state of the machine that a session in memory represents
abbrev pub state_of : Session → State
state_of s = record {
  indexes = map index_key s.indexes.items;
  next_id = s.next_id;
  cursors = map (open_cursor s.documents.dump) s.cursors.items;
}

-- ---- calls

-- the path of the requested index, if any
abbrev pub path_named : Way → Option (List ℕ)
path_named (by_one path) = Some path
path_named _ = None

-- the path of the index that a `Choice` names, if any
abbrev pub hint_of : Choice → Option (List ℕ)
hint_of choice = path_named (way_of choice)

-- the index on this path, sparse or not
abbrev pub path_index_key : Bool → Path → IndexKey
path_index_key sparse path = record { path = path_text path; is_sparse = sparse }

-- the call that creates this index of these documents
abbrev pub make_of : List Doc → IndexKey → Call
make_of ds i = make_call i (index_counts ds i)

-- the call that creates an index of a dump on this path, sparse or not
abbrev pub make_index : Bool → Dump → Path → Call
make_index sparse dump path = make_of (documents dump) (path_index_key sparse path)

-- the call that explains a request to a dump
abbrev pub explain_request : Dump → Request → Choice → Call
explain_request dump r choice = explain_call (hint_of choice) (explanation_of (documents dump) r choice)

-- The reply grants a call that needs memory; an empty batch needs none.
abbrev pub TakesMemory : Reply → Type 0
TakesMemory (opened id) = Unit {0}
TakesMemory (gave batch) = batch.places ≢ []
TakesMemory (made counts) = Unit {0}
TakesMemory (explained e) = Unit {0}
TakesMemory reply = ⊥

-- The call is refused for the reason of this reply; or memory ran out for a call that the reply grants.
abbrev pub IsRefusedCall : Reply → Refused → Type 0
IsRefusedCall reply reasons.NoIndex = reply ≡ no_index
IsRefusedCall reply reasons.IndexThere = reply ≡ index_there
IsRefusedCall reply reasons.TooManyIndexes = reply ≡ too_many_indexes
IsRefusedCall reply reasons.TooManyCursors = reply ≡ too_many_cursors
IsRefusedCall reply reasons.NoCursor = reply ≡ no_cursor
IsRefusedCall reply reasons.ForeignToken = reply ≡ foreign_token
IsRefusedCall reply reasons.TokenPlace = reply ≡ token_place
IsRefusedCall reply reasons.Range = reply ≡ out_of_range
IsRefusedCall reply reasons.NoMemory = TakesMemory reply
IsRefusedCall reply _ = ⊥

-- the batch that a `Batch` in memory represents
abbrev pub given_batch : Batch → GivenBatch
given_batch b = record { places = b.places.items; token = option_map positioned_token b.token; ends = b.end }

-- the dump of a session
abbrev pub dump_of : Session → Dump
dump_of s = s.documents.dump

-- ---- steps

-- The call moved the session as it moves the machine, with this reply; the dump is unchanged.
pub record IsStep (r : Reply) (call : Call) (old new : Session) : Type 0 where
  pub replies : reply (state_of old) call ≡ r
  pub moves : state_of new ≡ state_after (state_of old) call
  pub dump : dump_of new ≡ dump_of old

-- The call is refused for this reason, or memory ran out; the session and its dump are unchanged.
pub record IsRefused (why : Refused) (call : Call) (old new : Session) : Type 0 where
  pub because : IsRefusedCall (reply (state_of old) call) why
  pub stays : state_of new ≡ state_of old
  pub dump : dump_of new ≡ dump_of old

-- A call on a session: if it succeeds, it is a step of the machine with that reply;
-- if it is refused, nothing changed.
abbrev pub Steps : {A : Type 0} → (A → Reply) → Call → Session → Result A Refused → Session → Type 0
Steps as_reply call old (Ok v) new = IsStep (as_reply v) call old new
Steps as_reply call old (Err why) new = IsRefused why call old new
