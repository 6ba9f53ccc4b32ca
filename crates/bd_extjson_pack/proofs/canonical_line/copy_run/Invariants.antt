use Rattle.std.proofs.Common.{◌≡◌, ◌≤◌, ◌-◌, ◌++◌, length, take, false}
use Rattle.std.specs.List.{list_any}
use Rattle.bd_extjson_text.specs.Text.{needs_escape}
use Rattle.bd_extjson_pack.proofs.canonical_line.copy_run.Given as goal

-- the bytes so far are copied, and need no escape
abbrev pub invariant-loop-block : goal.invariant-loop-block
invariant-loop-block l = record {
  within : l.passed ≤ length l.bytes;
  copied : l.out.items ≡ l.fn.out.items ++ take l.passed l.bytes;
  plain : list_any needs_escape (take l.passed l.bytes) ≡ false;
}

abbrev pub decreases-loop-block : goal.decreases-loop-block
decreases-loop-block l = length l.bytes - l.passed
