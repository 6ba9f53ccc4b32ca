use Rattle.std.proofs.Common.{◌≡◌, ◌<◌, ◌≤◌, ◌-◌, length, drop}
use Rattle.bd_wide_text.specs.Layout.{zeros}
use Rattle.bd_wide_text.proofs.double.without_zeros.Given as goal

abbrev pub invariant-loop-count : goal.invariant-loop-count
invariant-loop-count l = record {
  some : 0 < l.count;
  within : l.count ≤ length l.whole;
  zeros_are : drop l.count l.whole ≡ zeros (length l.whole - l.count);
}

abbrev pub decreases-loop-count : goal.decreases-loop-count
decreases-loop-count l = l.count
