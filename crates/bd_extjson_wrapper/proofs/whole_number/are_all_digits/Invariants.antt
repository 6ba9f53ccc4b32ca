use Rattle.std.proofs.Common.{◌≡◌, drop}
use Rattle.std.specs.Str.{all_ascii_digits}
use Rattle.bd_extjson_wrapper.proofs.whole_number.are_all_digits.Given as goal

abbrev pub invariant-loop-c : goal.invariant-loop-c
invariant-loop-c l = all_ascii_digits (drop l.c-index l.bytes) ≡ all_ascii_digits l.bytes
