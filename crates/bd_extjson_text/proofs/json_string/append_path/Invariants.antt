use Rattle.std.proofs.Common.{◌≡◌, ◌<◌, ◌≤◌, ◌++◌, ◌∷◌, drop, length, map, take}
use Rattle.std.specs.Prelude.{string_bytes}
use Rattle.std.specs.List.{join_with_byte}
use Rattle.bd_extjson_text.specs.Text.{escaped}
use Rattle.bd_extjson_text.proofs.TextLemmas.{to_come}
use Rattle.bd_extjson_text.proofs.json_string.append_path.Given as goal

-- what is written and what remains are together the whole
abbrev pub invariant-loop-name : goal.invariant-loop-name
invariant-loop-name l = record {
  inside : l.at < length l.out.items;
  whole : take l.at l.out.items ++ escaped (to_come l.later 46 (drop l.name-index (map string_bytes l.path))) ≡ take l.end l.fn.out.items ++ 34 ∷ escaped (join_with_byte 46 (map string_bytes l.path));
  unchanged : take l.end l.out.items ≡ take l.end l.fn.out.items;
  after : l.end ≤ l.at;
}
