use Rattle.std.proofs.Common.{◌≡◌, ◌==◌, ◌||◌, drop}
use Rattle.std.specs.List.{list_any}
use Rattle.bd_wide_substitute.proofs.blank.has_fraction_or_exponent.Given as goal

abbrev pub invariant-loop-c : goal.invariant-loop-c
invariant-loop-c l = list_any (λ c. c == 46 || c == 69 || c == 101) (drop l.c-index l.bytes)
    ≡ list_any (λ c. c == 46 || c == 69 || c == 101) l.bytes
