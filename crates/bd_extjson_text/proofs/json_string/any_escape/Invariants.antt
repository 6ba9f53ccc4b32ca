use Rattle.std.proofs.Common.{◌≡◌, take}
use Rattle.std.specs.List.{list_any}
use Rattle.bd_extjson_text.specs.Text.{needs_escape}
use Rattle.bd_extjson_text.proofs.json_string.any_escape.Given as goal

abbrev pub invariant-loop-b : goal.invariant-loop-b
invariant-loop-b l = l.any ≡ list_any needs_escape (take l.b-index l.bytes)
