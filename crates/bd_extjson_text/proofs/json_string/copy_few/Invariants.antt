use Rattle.std.proofs.Common.{◌≡◌, ◌+◌, ◌++◌, take, false}
use Rattle.std.specs.List.{list_any}
use Rattle.bd_extjson_text.specs.Text.{needs_escape}
use Rattle.bd_extjson_text.proofs.json_string.copy_few.Given as goal

abbrev pub invariant-loop-i : goal.invariant-loop-i
invariant-loop-i l = record {
  copied : take (l.end + l.i) l.buffer ≡ take l.end l.fn.buffer ++ take l.i l.text;
  plain : list_any needs_escape (take l.i l.text) ≡ false;
}
