use Rattle.std.proofs.Common.{arith, rules}
use Rattle.std.proofs.lemmas.Result.{err_from_is_err_and}
use Rattle.bd_wide_copy.proofs.ReadingLemmas.{begins, goes_on, ended, failed}
use Rattle.bd_wide_copy.proofs.reading.starts_in.Goals as goal

pub loop-starts-init : goal.loop-starts-init
loop-starts-init c = (begins c.args.bytes.now c.new-starts.result.items c.new-starts.ensures.items, c.requires)

pub returns-in_err-next-clause-fault : goal.returns-in_err-next-clause-fault
returns-in_err-next-clause-fault c =
    let p = err_from_is_err_and c.from_residual.result c.from_residual.ensures.1 in
    rw (p.1, p.2) (failed c.args.bytes.now c.loop-starts.starts.items c.loop-starts.plain c.loop-starts.at c.len.result c.in_err-next.field-0.0
    c.loop-starts.invariant.0 (omega arith) c.loop-starts.invariant.1 c.in_err-next.ensures.fault)

pub loop-starts-preserved : goal.loop-starts-preserved
loop-starts-preserved c =
    let next = rw c.in-Some.is at c.in_ok-next.ensures.next in (
      goes_on c.args.bytes.now (λ i. (c.type_inv.bytes i).fits) c.loop-starts.starts.items c.push.new.self.items c.loop-starts.plain c.loop-starts.at c.in-Some.next
          c.loop-starts.invariant.0 next (search rules),
      c.loop-starts.invariant.1,
    )

pub returns-clause-starts : goal.returns-clause-starts
returns-clause-starts c =
    ended c.args.bytes.now c.loop-starts.starts.items c.loop-starts.plain c.loop-starts.at c.loop-starts.invariant.0 (rw c.in_default.is at c.in_ok-next.ensures.next)
