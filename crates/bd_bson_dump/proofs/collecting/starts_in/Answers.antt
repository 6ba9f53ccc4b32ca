use Rattle.std.proofs.Common.{arith, rules}
use Rattle.std.proofs.lemmas.Result.{err_from_is_err_and}
use Rattle.bd_bson_dump.proofs.CollectionLemmas.{goes_on, ended, failed}
use Rattle.bd_bson_dump.proofs.collecting.starts_in.Goals as goal

pub returns-in_err-after-clause-fault : goal.returns-in_err-after-clause-fault
returns-in_err-after-clause-fault c =
    let p = err_from_is_err_and c.from_residual.result c.from_residual.ensures.1 in
    rw (p.1, p.2) (failed c.args.bytes.now c.loop-starts.starts.items c.loop-starts.at c.len.result c.in_err-after.field-0.0
    c.loop-starts.invariant.0 (omega arith) c.loop-starts.invariant.1 c.in_err-after.ensures.fault)

pub loop-starts-preserved : goal.loop-starts-preserved
loop-starts-preserved c =
    let next = rw c.in-Some.is at c.in_ok-after.ensures.next in (
      goes_on c.args.bytes.now c.loop-starts.starts.items c.push.new.self.items c.loop-starts.at c.in-Some.after c.in-Some.field-0-0
          c.loop-starts.invariant.0 next (search rules),
      c.loop-starts.invariant.1,
    )

pub returns-clause-dump : goal.returns-clause-dump
returns-clause-dump c =
    ended c.args.bytes.now c.loop-starts.starts.items c.loop-starts.at c.loop-starts.invariant.0 (rw c.in_default.is at c.in_ok-after.ensures.next) c.loop-starts.invariant.1
