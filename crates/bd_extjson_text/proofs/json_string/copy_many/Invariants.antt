use Rattle.std.proofs.Common.{◌≡◌, ◌≤◌, ◌+◌, ◌-◌, ◌++◌, take, length, false}
use Rattle.std.specs.List.{list_any}
use Rattle.bd_extjson_text.specs.Text.{needs_escape}
use Rattle.bd_extjson_text.proofs.json_string.copy_many.Given as goal

abbrev pub invariant-loop-passed : goal.invariant-loop-passed
invariant-loop-passed l = record {
  inside : l.passed + 16 ≤ length l.text;
  copied : take (l.end + l.passed) l.buffer ≡ take l.end l.fn.buffer ++ take l.passed l.text;
  plain : list_any needs_escape (take l.passed l.text) ≡ false;
}

abbrev pub decreases-loop-passed : goal.decreases-loop-passed
decreases-loop-passed l = length l.text - l.passed
