-- What a line requests by its field `places`, in memory.
use Rattle.std.specs.Prelude.{List, ℕ}
use Rattle.bd_value.specs.{Tree.Doc, Tree.doc, Tree.fields_of, View.pairs}
use Rattle.bd_extjson_text.specs.Text.{text}
use Rattle.bd_cursor.specs.SessionView.{given_batch}
use Rattle.bd_cli_service.specs.Reply.{line_reply, reply_text}
use Rattle.bd_cli_service.specs.declared.reply.Reply.{Reply}
use Rattle.bd_cli_service.specs.declared.reply.Reply.TheVariants as replies
use Rattle.bd_wide_service.specs.Places.{Placed, places_reply}
use Rattle.bd_wide_service.specs.Places as places
use Rattle.bd_wide_service.specs.declared.places.PlacedLine.{PlacedLine}
use Rattle.bd_wide_service.specs.declared.places.PlacedLine.TheVariants as lines

-- what a `PlacedLine` in memory represents
abbrev pub placed_view : PlacedLine → Placed
placed_view lines.Absent = places.absent
placed_view (lines.Documents d) = places.documents (pairs d)
placed_view (lines.Numbers id batch) = places.numbers id batch
placed_view (lines.Faulty f) = places.faulty f

-- the text of a reply in memory, with the numbers of the documents of a batch
abbrev pub numbers_text : List Doc → Reply → List ℕ
numbers_text ds (replies.Gave b) = text (doc (fields_of (places_reply (given_batch b))))
numbers_text ds r = reply_text (line_reply ds r)
