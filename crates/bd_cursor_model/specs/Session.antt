-- A session as a machine: the calls, their replies, and the state between them.
use Rattle.std.specs.Prelude.{ℕ, ◌+◌, ◌^◌, ◌-◌, ◌==◌, nat_lt, min, Bool, true, not, List, [], ◌∷◌, ◌++◌, take, drop}
use Rattle.std.specs.Prelude.{length, Option, Some, None, is_some, ◌||◌, slice_index_or, if◌then◌else◌}
use Rattle.std.specs.{List.filter, List.list_any, Str.bytes_eq}
use Rattle.bd_value.specs.{Limits.greatest_count, Limits.most_cursors, Limits.most_indexes, Tree.Doc}
use Rattle.bd_cursor_model.specs.Answer.{Selection, Position, answer, is_empty, rest}

-- a request to a dump: what it selects, and the digest that its tokens must have
pub record Query : Type 0 where
  pub selection : Selection
  pub digest : List ℕ

-- a token: how many documents were returned up to it and the number of the last one,
-- and the digest of its dump and request
pub record PositionedToken : Type 0 where
  pub position : Position
  pub digest : List ℕ

-- an open cursor: its number, its request's digest, the token after what it returned last,
-- and the document numbers that remain
pub record OpenCursor : Type 0 where
  pub id : ℕ
  pub digest : List ℕ
  pub token : Option PositionedToken
  pub remaining : List ℕ

-- what remains of an answer after a token; without one, all of it
abbrev pub remaining_after : Selection → Option PositionedToken → List ℕ
remaining_after a None = answer a
remaining_after a (Some t) = rest a t.position

-- an index of a session, by its path; a sparse one has no entry for a missing field
pub record IndexKey : Type 0 where
  pub path : List ℕ
  pub is_sparse : Bool

-- how many entries an index has, and whether some document has two keys
pub record IndexCounts : Type 0 where
  pub entries : ℕ
  pub is_multikey : Bool

-- the state of a session: its indexes in the order of their creation,
-- the number of the next cursor, the open cursors
pub record State : Type 0 where
  pub indexes : List IndexKey
  pub next_id : ℕ
  pub cursors : List OpenCursor

-- A call of a session, with what its reply depends on: `find`, `resume` and `explain` may name the path of
-- an index; an index is created with the counts that the dump has for it; an explanation is a function of the
-- existing indexes.
pub data Call : Type 0 where
  find_call : Query → Option (List ℕ) → Call
  resume_call : Query → Option (List ℕ) → PositionedToken → Call
  next_call : ℕ → ℕ → Call
  kill_call : ℕ → Call
  make_call : IndexKey → IndexCounts → Call
  drop_call : List ℕ → Call
  explain_call : Option (List ℕ) → (List IndexKey → Doc) → Call

-- a batch of a cursor: the document numbers, the token after them (None if no document was ever returned),
-- and whether nothing remains
pub record GivenBatch : Type 0 where
  pub places : List ℕ
  pub token : Option PositionedToken
  pub ends : Bool

-- the reply to a call: what was opened, returned, created or explained, or why the call is refused, which changes nothing
pub data Reply : Type 0 where
  opened : ℕ → Reply
  gave : GivenBatch → Reply
  killed : Reply
  made : IndexCounts → Reply
  dropped : Reply
  explained : Doc → Reply
  no_index : Reply
  index_there : Reply
  too_many_indexes : Reply
  too_many_cursors : Reply
  no_cursor : Reply
  foreign_token : Reply
  token_place : Reply
  out_of_range : Reply

-- the greatest count of returned documents: 2^64 - 1, where it stops
abbrev pub most_given : ℕ
most_given = 2 ^ 64 - 1

-- the open cursor of that number, if any
abbrev pub cursor_of : ℕ → List OpenCursor → Option OpenCursor
cursor_of id [] = None
cursor_of id (c ∷ cs) = if c.id == id then Some c else cursor_of id cs

-- the open cursors except the one of that number
abbrev pub without : ℕ → List OpenCursor → List OpenCursor
without id cs = filter (λ (c : OpenCursor). not (c.id == id)) cs

-- how many documents were returned up to a token; 0 without one
abbrev pub given_by : Option PositionedToken → ℕ
given_by None = 0
given_by (Some t) = t.position.given

-- the digest of a cursor's next token: that of its last one, or of its request if it has none
abbrev pub digest_after : List ℕ → Option PositionedToken → List ℕ
digest_after digest None = digest
digest_after digest (Some t) = t.digest

-- the token of a cursor after some more documents; unchanged if there are none
abbrev pub token_after : List ℕ → Option PositionedToken → List ℕ → Option PositionedToken
token_after digest t [] = t
token_after digest t (p ∷ ps) = Some (record {
  position = record { given = min most_given (given_by t + length (p ∷ ps)); last = slice_index_or (p ∷ ps) (length ps) 0 };
  digest = digest_after digest t;
})

-- whether an index is on the path with that text
abbrev pub is_on : List ℕ → IndexKey → Bool
is_on path i = bytes_eq path i.path

-- whether the named index exists; true if none is named
abbrev pub has_index : List IndexKey → Option (List ℕ) → Bool
has_index indexes None = true
has_index indexes (Some path) = list_any (is_on path) indexes

-- whether no cursor can be opened: 64 are open, or the number 2^63 - 1 was assigned
abbrev pub is_full : State → Bool
is_full s = not (nat_lt (length s.cursors) most_cursors) || nat_lt (2 ^ 63 - 1) s.next_id

-- the reply to a call that opens a cursor: refused if the named index does not exist,
-- then if there are too many cursors
abbrev pub open_reply : State → Option (List ℕ) → Reply
open_reply s hint =
    if has_index s.indexes hint then (if is_full s then too_many_cursors else opened s.next_id) else no_index

-- the state with one more cursor, which has these document numbers to return;
-- the next cursor gets the next number
abbrev pub with_open : State → List ℕ → Option PositionedToken → List ℕ → State
with_open s digest t ps = record s {
  next_id = s.next_id + 1;
  cursors = s.cursors ++ record { id = s.next_id; digest = digest; token = t; remaining = ps } ∷ [];
}

-- the batch of n documents that a cursor returns
abbrev pub batch_of : OpenCursor → ℕ → GivenBatch
batch_of c n =
    record {
      places = take n c.remaining;
      token = token_after c.digest c.token (take n c.remaining);
      ends = is_empty (drop n c.remaining);
    }

-- a cursor after it has returned n more documents
abbrev pub moved : OpenCursor → ℕ → OpenCursor
moved c n = record c { token = token_after c.digest c.token (take n c.remaining); remaining = drop n c.remaining }

-- the open cursors after the one of that number returned n more documents
abbrev pub with_moved : ℕ → ℕ → List OpenCursor → List OpenCursor
with_moved id n [] = []
with_moved id n (c ∷ cs) = if c.id == id then moved c n ∷ cs else c ∷ with_moved id n cs

-- the reply to a request for n documents: refused if there is no such cursor, then if n is above 2,147,483,647
abbrev pub next_reply : Option OpenCursor → ℕ → Reply
next_reply None n = no_cursor
next_reply (Some c) n = if nat_lt greatest_count n then out_of_range else gave (batch_of c n)

-- the reply to a call; refusals are tried in this order:
-- the token's digest, its document number, the index, the number of cursors
abbrev pub reply : State → Call → Reply
reply s (find_call q hint) = open_reply s hint
reply s (resume_call q hint t) = if bytes_eq t.digest q.digest
    then (if nat_lt t.position.last q.selection.count then open_reply s hint else token_place) else foreign_token
reply s (next_call id n) = next_reply (cursor_of id s.cursors) n
reply s (kill_call id) = if is_some (cursor_of id s.cursors) then killed else no_cursor
reply s (make_call i counts) = if has_index s.indexes (Some i.path) then index_there
    else (if nat_lt (length s.indexes) most_indexes then made counts else too_many_indexes)
reply s (drop_call path) = if has_index s.indexes (Some path) then dropped else no_index
reply s (explain_call hint pairs) = if has_index s.indexes hint then explained (pairs s.indexes) else no_index

-- The state after a reply: a cursor with nothing remaining is closed,
-- a cursor does not depend on indexes, and a refused call changes nothing.
abbrev pub changed_by : Reply → Call → State → State
changed_by (opened id) (find_call q hint) s = with_open s q.digest None (answer q.selection)
changed_by (opened id) (resume_call q hint t) s = with_open s q.digest (Some t) (rest q.selection t.position)
changed_by (gave batch) (next_call id n) s =
    record s { cursors = if batch.ends then without id s.cursors else with_moved id n s.cursors }
changed_by killed (kill_call id) s = record s { cursors = without id s.cursors }
changed_by (made counts) (make_call i _) s = record s { indexes = s.indexes ++ i ∷ [] }
changed_by dropped (drop_call path) s = record s { indexes = filter (λ (i : IndexKey). not (is_on path i)) s.indexes }
changed_by reply call s = s

-- the state of a session after one call
abbrev pub state_after : State → Call → State
state_after s call = changed_by (reply s call) call s
