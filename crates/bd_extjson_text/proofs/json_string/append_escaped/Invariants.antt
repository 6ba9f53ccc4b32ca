use Rattle.std.proofs.Common.{◌≡◌, ◌≤◌, ◌++◌, length, take}
use Rattle.bd_extjson_text.specs.Text.{escaped}
use Rattle.bd_extjson_text.proofs.json_string.append_escaped.Given as goal

-- what is written and what remains are together the whole
abbrev pub invariant-loop-run : goal.invariant-loop-run
invariant-loop-run l = record {
  inside : l.at ≤ length l.out.items;
  whole : take l.at l.out.items ++ escaped l.rest ≡ take l.end l.fn.out.items ++ escaped l.text;
  unchanged : take l.end l.out.items ≡ take l.end l.fn.out.items;
  after : l.end ≤ l.at;
  shorter : length l.rest ≤ length l.text;
}

abbrev pub decreases-loop-run : goal.decreases-loop-run
decreases-loop-run l = length l.rest
