-- Laws of answers, of collections that are split into parts, and of sessions.
use Rattle.std.specs.Prelude.{ℕ, ◌+◌, ◌-◌, ◌<◌, ◌≤◌, ◌≡◌, ◌≢◌, ◌==◌, nat_lt, min, Bool, true, false, if◌then◌else◌}
use Rattle.std.specs.Prelude.{List, [], ◌∷◌, drop, length, map, slice_get, slice_index_or, Option, Some, None, IfSome}
use Rattle.std.specs.{declared.cmp.Ordering.Ordering, Cmp.IsTotalOrder, Option.option_cmp}
use Rattle.std.specs.List.{AllPairs, filter_map, flat_map, zip}
use Rattle.bd_value.specs.Limits.{greatest_count}
use Rattle.bd_cursor_model.specs.Answer.{Selection, Position, answer, batches, rest}
use Rattle.bd_cursor_model.specs.Session.{Call, GivenBatch, Query, Reply, State, gave, kill_call, most_given}
use Rattle.bd_cursor_model.specs.Session.{next_call, reply, state_after}

-- a strict total order: nothing comes before itself, it is transitive,
-- and of two different numbers one comes first
pub record IsStrictOrder (lt : ℕ → ℕ → Bool) : Type 0 where
  pub irreflexive : (x : ℕ) → lt x x ≡ false
  pub transitive : (x y z : ℕ) → lt x y ≡ true → lt y z ≡ true → lt x z ≡ true
  pub connected : (x y : ℕ) → lt x y ≡ false → lt y x ≡ false → x ≡ y

-- Each member comes before all later ones, so none comes twice.
abbrev pub IsAscending : (ℕ → ℕ → Bool) → List ℕ → Type 0
IsAscending lt = AllPairs (λ x y. lt x y ≡ true)

-- The position after the first k of some documents, of which `old` were returned before;
-- the count stops at `most`.
abbrev pub IsPositionAfter : ℕ → ℕ → ℕ → List ℕ → Position → Type 0
IsPositionAfter most old k ps m =
    (0 < k) × (k ≤ length ps) × (m.given ≡ min most (old + k)) × ((d : ℕ) → m.last ≡ slice_index_or ps (k - 1) d)

-- ---- parts

-- a request in terms of documents: which match, how the sort keys of two compare, how many are skipped,
-- and the limit (0: none)
pub record DocumentRequest (A : Type 0) : Type 0 where
  pub matches : A → Bool
  pub by : A → A → Ordering
  pub skip : ℕ
  pub limit : ℕ

-- whether there is a document, and it passes the test
abbrev pub matches_some : {A : Type 0} → (A → Bool) → Option A → Bool
matches_some test None = false
matches_some test (Some d) = test d

-- what a request selects of a collection, in terms of document numbers
abbrev pub selection_over : {A : Type 0} → DocumentRequest A → List A → Selection
selection_over r ds = record {
  count = length ds;
  matches_at = λ i. matches_some r.matches (slice_get ds i);
  by = λ i j. option_cmp r.by (slice_get ds i) (slice_get ds j);
  skip = r.skip;
  limit = r.limit;
}

-- the documents that answer a request, in order
abbrev pub found_in : {A : Type 0} → DocumentRequest A → List A → List A
found_in r ds = filter_map (slice_get ds) (answer (selection_over r ds))

-- the request for a part of a collection: none is skipped, and at most `limit` are returned (0: all)
abbrev pub part_request : {A : Type 0} → DocumentRequest A → ℕ → DocumentRequest A
part_request r limit = record r { skip = 0; limit = limit }

-- The limit of a part is enough: the part has none;
-- or the request has one too, and skip plus limit is at most the part's limit.
abbrev pub IsEnough : {A : Type 0} → DocumentRequest A → ℕ → Type 0
IsEnough r limit = limit ≢ 0 → (r.limit ≢ 0) × (r.skip + r.limit ≤ limit)

-- The selection says of document numbers what the request says of the documents.
pub record IsSelectionOf {A : Type 0} (r : DocumentRequest A) (ds : List A) (a : Selection) : Type 0 where
  pub count : a.count ≡ length ds
  pub matches_at : (i : ℕ) (d : A) → slice_get ds i ≡ Some d → a.matches_at i ≡ r.matches d
  pub by : (i j : ℕ) (d e : A) → slice_get ds i ≡ Some d → slice_get ds j ≡ Some e → a.by i j ≡ r.by d e
  pub skip : a.skip ≡ r.skip
  pub limit : a.limit ≡ r.limit

-- ---- sessions

-- a new session: no index, no open cursor, and cursor numbers start at 1
abbrev pub new_state : State
new_state = record { indexes = []; next_id = 1; cursors = [] }

-- the state of a session after some calls, one after the other
abbrev pub state_after_all : State → List Call → State
state_after_all s [] = s
state_after_all s (c ∷ cs) = state_after_all (state_after s c) cs

-- the replies to calls made one after the other, each in the state after those before it
abbrev pub replies : State → List Call → List Reply
replies s [] = []
replies s (c ∷ cs) = reply s c ∷ replies (state_after s c) cs

-- the batch sizes that the calls request from a cursor, until it is killed;
-- those above 2,147,483,647 are refused and left out
abbrev pub sizes_to : ℕ → List Call → List ℕ
sizes_to id [] = []
sizes_to id (next_call i n ∷ cs) =
    if i == id then (if nat_lt greatest_count n then sizes_to id cs else n ∷ sizes_to id cs) else sizes_to id cs
sizes_to id (kill_call i ∷ cs) = if i == id then [] else sizes_to id cs
sizes_to id (call ∷ cs) = sizes_to id cs

-- the batch that a reply contains, if any
abbrev pub batch_in : Reply → List GivenBatch
batch_in (gave b) = b ∷ []
batch_in r = []

-- the batch that a call gets from the cursor of this number, if it is a call to that cursor and is not refused
abbrev pub batch_to : ℕ → Call → Reply → List GivenBatch
batch_to id (next_call i n) r = if i == id then batch_in r else []
batch_to id c r = []

-- the batches that calls get from the cursor of this number, in turn
abbrev pub batches_to : ℕ → List Call → List Reply → List GivenBatch
batches_to id calls rs = flat_map (λ p. batch_to id p.0 p.1) (zip calls rs)

-- Each batch's token is of this request, and what remains after the token is what remains after the batch.
abbrev pub TokensFollow : Query → List ℕ → List GivenBatch → Type 0
TokensFollow q remaining [] = Unit {0}
TokensFollow q remaining (b ∷ bs) = let later = drop (length b.places) remaining in
    IfSome b.token (λ t. (t.digest ≡ q.digest) × (rest q.selection t.position ≡ later)) × TokensFollow q later bs

-- The batches are those of this list, by the requested sizes,
-- and after each token comes exactly the rest.
abbrev pub GivesInTurn : Query → ℕ → List ℕ → List Call → List GivenBatch → Type 0
GivesInTurn q id ps calls given =
    (map (λ (b : GivenBatch). b.places) given ≡ batches ps (sizes_to id calls)) × TokensFollow q ps given

-- The sort keys have a total order, and the limit is at most 2^64 - 1.
abbrev pub IsFair : Query → Type 0
IsFair q = IsTotalOrder q.selection.by × (q.selection.limit ≤ most_given)

-- the state after calls, each with whether it ran out of memory: such a call changes nothing
abbrev pub state_after_attempts : State → List (Call × Bool) → State
state_after_attempts s [] = s
state_after_attempts s (a ∷ later) = state_after_attempts (if a.1 then s else state_after s a.0) later

-- the replies to calls; None for those that ran out of memory
abbrev pub attempt_replies : State → List (Call × Bool) → List (Option Reply)
attempt_replies s [] = []
attempt_replies s (a ∷ later) =
    (if a.1 then None else Some (reply s a.0)) ∷ attempt_replies (if a.1 then s else state_after s a.0) later

-- the calls that did not run out of memory, in turn
abbrev pub answered_calls : List (Call × Bool) → List Call
answered_calls = filter_map (λ a. if a.1 then None else Some a.0)
