use Rattle.std.proofs.Common.{◌≡◌, take}
use Rattle.bd_wide_text.specs.Layout.{zeros}
use Rattle.bd_wide_text.proofs.double.zeros_before.Given as goal

abbrev pub invariant-loop-i : goal.invariant-loop-i
invariant-loop-i l = take l.i l.fraction ≡ zeros l.i
