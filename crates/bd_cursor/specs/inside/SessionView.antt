-- A session as the state of the machine.
use Rattle.std.specs.Prelude.{◌≡◌, ℕ, List, length, Option}
use Rattle.std.specs.List.{filter}
use Rattle.bd_cursor_model.specs.Session.{remaining_after, open_reply, Query, Call, IndexKey, PositionedToken}
use Rattle.bd_cursor_model.specs.Session.{State, changed_by, reply, with_open}
use Rattle.bd_cursor_model.specs.Session.{made, opened}
use Rattle.bd_bson_dump.specs.{declared.collection.Dump.Dump, Collection.documents}
use Rattle.bd_query_filter.specs.{Filter.filter_tree, declared.filter.Filter.Filter}
use Rattle.bd_cursor_sort.specs.Selection.{matches_at_of}
use Rattle.bd_cursor.specs.{declared.cursor.ScanPosition.ScanPosition}
use Rattle.bd_cursor.specs.{Explanation.index_counts}
use Rattle.bd_cursor.specs.{declared.session.Session.Session}
use Rattle.bd_cursor.specs.SessionView.{scan_remaining, state_of, make_of, dump_of}

-- the matches of a filter in a dump that a scanning cursor has yet to return
abbrev pub scan_remaining_in : Dump → Filter → ScanPosition → List ℕ
scan_remaining_in dump filter a = scan_remaining (length (documents dump)) (matches_at_of (documents dump) (filter_tree filter)) a

-- ---- steps

-- The machine allows this index to be created.
abbrev pub IsGranted : Session → IndexKey → Type 0
IsGranted s i = reply (state_of s) (make_of (documents (dump_of s)) i) ≡ made (index_counts (documents (dump_of s)) i)

-- The call opens a cursor on what remains of a request after a token,
-- if the index that it names exists and one more cursor may be open.
pub record IsOpening (call : Call) (s : State) (q : Query) (hint : Option (List ℕ))
    (t : Option PositionedToken) : Type 0 where
  pub replies : reply s call ≡ open_reply s hint
  pub opens : changed_by (opened s.next_id) call s ≡ with_open s q.digest t (remaining_after q.selection t)
