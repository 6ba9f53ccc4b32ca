use Rattle.std.proofs.Common.{◌≡◌, length, map}
use Rattle.bd_wide_advice.specs.Advice.{advice_in}
use Rattle.bd_wide_advice.proofs.advice.advice_in.Given as goal

abbrev pub invariant-loop-rest : goal.invariant-loop-rest
invariant-loop-rest l =
    advice_in (map (λ row. (row.0.now, row.1.now)) l.rest) l.bytes ≡ advice_in (map (λ row. (row.0.now, row.1.now)) l.rows) l.bytes

abbrev pub decreases-loop-rest : goal.decreases-loop-rest
decreases-loop-rest l = length l.rest
