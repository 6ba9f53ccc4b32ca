-- The replies of a session, and the document that is printed for each.
use Rattle.std.specs.Prelude.{ℕ, pos, List, map, string_bytes}
use Rattle.std.specs.{Borrow.Bor, List.join_with_byte}
use Rattle.bd_value.specs.Tree.{Pair, Tree, leaf}
use Rattle.bd_cursor_request.specs.Results.{count_value}
use Rattle.bd_cli_service.specs.declared.{member.Field.Field}
use Rattle.bd_value.specs.Tree as trees
use Rattle.bd_cli_service.specs.declared.member.Field.TheVariants as fields

-- ---- replies in memory

-- the value that a field of a reply in memory represents
abbrev pub reply_value : Field → Tree
reply_value fields.Null = leaf trees.null
reply_value (fields.Truth b) = leaf (trees.boolean b)
reply_value (fields.Number n) = leaf (trees.int32 (pos n))
reply_value (fields.Count n) = count_value n
reply_value (fields.Text s) = leaf (trees.text s.now)
reply_value (fields.Names names) = leaf (trees.text (join_with_byte 46 (map string_bytes names.now)))

-- the name and the value of a field of a reply in memory
abbrev pub member_pair : Bor (List ℕ) × Field → Pair
member_pair m = (m.0.now, reply_value m.1)
