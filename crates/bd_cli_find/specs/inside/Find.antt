-- What `find` prints for its options and an input, and what a run of it did.
use Rattle.std.specs.Prelude.{◌≡◌, ◌≤◌, ◌<◌, ℕ, true, List, [], length, Option, Some, None, Result}
use Rattle.std.specs.Prelude.{Ok, Err}
use Rattle.std.specs.{List.All}
use Rattle.bd_value.specs.{Limits.greatest_count}
use Rattle.bd_cursor_model.specs.Answer.{at_most, is_empty}
use Rattle.bd_cursor_model.specs.Session.{GivenBatch, IndexKey, OpenCursor, Query, State, cursor_of, has_index, token_after}
use Rattle.bd_cursor.specs.SessionView.{given_batch}
use Rattle.bd_cursor.specs.{Access.Way, Access.by_none, Access.by_one}
use Rattle.bd_cursor_request.specs.{declared.results.Batch.Batch, declared.results.Refused.Refused, declared.token.Token.Token}
use Rattle.bd_cursor_request.specs.Refused.{IsRefusedPart}
use Rattle.bd_io_device.specs.Devices.{Over, TakesText, WriteFailsAfter, Writer}
use Rattle.bd_cli_scan.specs.declared.output.OutputFault.{OutputFault}
use Rattle.bd_cli_scan.specs.declared.output.OutputFault.TheVariants.{NoMemory, Unwritten}
use Rattle.bd_cli_find.specs.Find.{AreFirstPieces, ArePieces, IsNextPiece, places_from, cursor_for, remaining_over}

-- the state of a session in which no cursor was opened
abbrev pub before_first : List IndexKey → State
before_first indexes = record { indexes = indexes; next_id = 1; cursors = [] }

-- by the named index; without one by a scan
abbrev pub index_way : Option (List ℕ) → Way
index_way None = by_none
index_way (Some path) = by_one path

-- No cursor was opened yet, and the named index exists.
pub record AwaitsFirst (s : State) (hint : Option (List ℕ)) : Type 0 where
  pub index_keys : List IndexKey
  pub is_unopened : s ≡ before_first index_keys
  pub is_there : has_index index_keys hint ≡ true

-- A cursor was opened whose remaining documents are those requested, and the named index exists; or it is refused, or memory ran out.
abbrev pub IsOpenedOn : Query → Option Token → Option (List ℕ) → State → Result ℕ Refused → Type 0
IsOpenedOn q token index s (Ok id) =
    (ps : List ℕ) × (places_from q token ≡ Ok ps) × (cursor_of id s.cursors ≡ Some (cursor_for id q token ps))
    × (has_index s.indexes index ≡ true)
IsOpenedOn q token index s (Err refused) = IsRefusedPart (places_from q token) refused

-- The cursor is open, and its remaining numbers are those of documents of the dump,
-- no more than one batch may have.
pub record IsReady (s : State) (id : ℕ) (count : ℕ) : Type 0 where
  pub cursor : OpenCursor
  pub is_there : cursor_of id s.cursors ≡ Some cursor
  pub inside : All (λ p. p < count) cursor.remaining
  pub few : length cursor.remaining ≤ greatest_count

-- What a session returns is the first batch of the cursor.
pub record IsBatchOf (size : Option ℕ) (c : OpenCursor) (b : GivenBatch) : Type 0 where
  pub places : b.places ≡ at_most size c.remaining
  pub ends : b.ends ≡ is_empty (remaining_over size c.remaining)
  pub token : b.token ≡ token_after c.digest c.token (at_most size c.remaining)

-- The first batch of a query that may resume after a token; or it is refused, or memory ran out.
abbrev pub IsFirstBatch : Option ℕ → Query → Option Token → Result Batch Refused → Type 0
IsFirstBatch size q token (Ok batch) =
    (ps : List ℕ) × (places_from q token ≡ Ok ps) × IsBatchOf size (cursor_for 1 q token ps) (given_batch batch)
IsFirstBatch size q token (Err refused) = IsRefusedPart (places_from q token) refused

-- The writer took the pieces for these items.
abbrev pub WritesPieces : {I : Type 0} → (I → List ℕ → Type 0) → List I → Over Writer → Type 0
WritesPieces IsPiece ps out = (text : List ℕ) × ArePieces IsPiece ps text × TakesText out text

-- The writer took the pieces for the first of these items, and then memory ran out, or a write failed in the next.
abbrev pub StopsAmong : {I : Type 0} → (I → List ℕ → Type 0) → List I → Over Writer → OutputFault → Type 0
StopsAmong IsPiece ps out NoMemory = (text : List ℕ) × AreFirstPieces IsPiece ps text × TakesText out text
StopsAmong IsPiece ps out Unwritten =
    (text : List ℕ) × (next : List ℕ) × IsNextPiece IsPiece ps text next × WriteFailsAfter out text next
