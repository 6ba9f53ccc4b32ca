use Rattle.std.proofs.Common.{◌≡◌, ◌++◌, take, drop}
use Rattle.std.specs.Str.Parse.{digits_value}
use Rattle.bd_wide_text.proofs.limited.number.Given as goal

abbrev pub invariant-loop-i : goal.invariant-loop-i
invariant-loop-i l = l.value ≡ digits_value 10 (take l.i (drop l.from (l.leading ++ l.back)))
