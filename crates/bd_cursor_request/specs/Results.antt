-- What the results of a session's calls mean, and the values that report them.
use Rattle.std.specs.Prelude.{ℕ, pos, List, Option, Some, None}
use Rattle.bd_value.specs.Tree.{Tree, leaf, null, text, int64}
use Rattle.bd_cursor_model.specs.Session.{IndexCounts, PositionedToken}
use Rattle.bd_cursor_request.specs.{Token.token_text, declared.results.Made.Made}

-- the text of a token: 60 characters
abbrev pub positioned_text : PositionedToken → List ℕ
positioned_text t = token_text (record { given = t.position.given; last = t.position.last; digest = t.digest })

-- the counts that `Made` in memory reports of a new index
abbrev pub made_counts : Made → IndexCounts
made_counts m = record { entries = m.entries; is_multikey = m.multikey }

-- a count as a BSON int64
abbrev pub count_value : ℕ → Tree
count_value n = leaf (int64 (pos n))

-- a BSON string of this text, or null without one
abbrev pub text_or_null : Option (List ℕ) → Tree
text_or_null None = leaf null
text_or_null (Some s) = leaf (text s)
