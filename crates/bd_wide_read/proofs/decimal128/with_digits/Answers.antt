use Rattle.std.proofs.Common.{◌*◌, ◌^◌, subst}
use Rattle.bd_wide_read.specs.inside.Digits.{HasTooMany}
use Rattle.bd_wide_read.proofs.DecimalLemmas.{if_none, many_rest}
use Rattle.bd_wide_read.proofs.decimal128.with_digits.Goals as goal

pub returns-in_err-now-clause-none : goal.returns-in_err-now-clause-none
returns-in_err-now-clause-none c = if_none _
    (subst HasTooMany c.loop-rest.invariant.value
    (many_rest c.loop-rest.rest.now (c.loop-rest.now.number * 10 ^ c.loop-rest.now.zeros) c.in-len1-up.len_at_least c.loop-rest.invariant.all c.in_err-now.ensures.none))
