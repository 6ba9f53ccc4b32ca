-- The answer to a request to a dump, page by page. Only the digests of its tokens are left out: they are those of the bytes
-- of the dump and of the text of the request.
use Rattle.std.specs.Prelude.{◌≡◌, ℕ, Bool, List, [], ◌∷◌, Option, option_map}
use Rattle.bd_cursor_model.specs.Answer.{Position}
use Rattle.bd_cursor_model.specs.Session.{GivenBatch, PositionedToken, OpenCursor, Query, batch_of, remaining_after, moved}

-- a batch: its document numbers, the position after it, and whether nothing remains
pub record Page : Type 0 where
  pub places : List ℕ
  pub position : Option Position
  pub ends : Bool

-- the position of a token in an answer, if there is a token
abbrev pub position_of : Option PositionedToken → Option Position
position_of token = option_map (λ t. t.position) token

-- a batch of a cursor as a page, whatever the digest of its token
abbrev pub page_of : GivenBatch → Page
page_of b = record { places = b.places; position = position_of b.token; ends = b.ends }

-- the pages of a cursor, by sizes in turn
abbrev pub pages_from : OpenCursor → List ℕ → List Page
pages_from c [] = []
pages_from c (size ∷ sizes) = page_of (batch_of c size) ∷ pages_from (moved c size) sizes

-- the token of a request for a position in its answer
abbrev pub token_at : Query → Option Position → Option PositionedToken
token_at q position = option_map (λ m. record { position = m; digest = q.digest }) position

-- a cursor as it is opened: at the start of the answer, or after a position
abbrev pub cursor_at : Query → Option Position → OpenCursor
cursor_at q position = record {
  id = 0;
  digest = q.digest;
  token = token_at q position;
  remaining = remaining_after q.selection (token_at q position);
}

-- the pages of a request with sizes in turn, from the start of its answer or after a position
abbrev pub pages : Query → Option Position → List ℕ → List Page
pages q position sizes = pages_from (cursor_at q position) sizes

-- Two requests, each to its dump, have one answer: they select the same document numbers in the same order,
-- and from the start and after each position they have the same pages.
pub record HaveOneAnswer (q r : Query) : Type 0 where
  pub selection : q.selection ≡ r.selection
  pub pages_alike : (position : Option Position) (sizes : List ℕ) → pages q position sizes ≡ pages r position sizes
