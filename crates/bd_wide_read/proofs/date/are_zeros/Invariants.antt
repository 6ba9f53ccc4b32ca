use Rattle.std.proofs.Common.{◌≡◌, ◌==◌, drop}
use Rattle.std.specs.List.{list_all}
use Rattle.bd_wide_read.proofs.date.are_zeros.Given as goal

abbrev pub invariant-loop-c : goal.invariant-loop-c
invariant-loop-c l = list_all (λ c. c == 48) (drop l.c-index l.digits) ≡ list_all (λ c. c == 48) l.digits
