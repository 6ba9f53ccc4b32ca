use Rattle.std.proofs.Common.{◌≡◌, ◌+◌, ◌*◌, ◌^◌, ◌≤◌, length}
use Rattle.std.specs.Str.Parse.{AllDigits, digits_value_after}
use Rattle.bd_wide_read.specs.inside.Digits.{AreKept}
use Rattle.bd_wide_read.proofs.decimal128.with_digits.Given as goal

abbrev pub invariant-loop-rest : goal.invariant-loop-rest
invariant-loop-rest l = record {
  all : AllDigits 10 l.rest;
  kept : AreKept l.now.number l.now.zeros;
  short : l.now.zeros + length l.rest ≤ l.fn.kept.zeros + length l.digits;
  value : digits_value_after 10 (l.now.number * 10 ^ l.now.zeros) l.rest ≡ digits_value_after 10 (l.fn.kept.number * 10 ^ l.fn.kept.zeros) l.digits;
}

abbrev pub decreases-loop-rest : goal.decreases-loop-rest
decreases-loop-rest l = length l.rest
