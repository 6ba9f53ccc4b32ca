use Rattle.std.proofs.Common.{rules, arith, ◌≡◌, ◌++◌, ◌<◌, ◌≤◌, ◌-◌, ◌+◌, length, take, refl}
use Rattle.std.proofs.KnownBytes.{Consumes-trans}
use Rattle.bd_io_device.proofs.DevicesLemmas.{reads_none, reads_more, Consumes-more, length-within}
use Rattle.bd_io_device.proofs.reading.read_all.Goals as goal

pub loop-turn-init : goal.loop-turn-init
loop-turn-init g c = record {
  consumed = search rules;
  reads = reads_none _ _ c.new-bytes.ensures.items;
  within = search rules;
  turned = omega arith;
  called = search rules;
  no_failure = search rules;
}

pub loop-turn-preserved : goal.loop-turn-preserved
loop-turn-preserved g c =
    let part = take c.in-Ok.n c.read.new.buffer in
    let grown : c.extend_from_slice.new.self.items ≡ c.loop-turn.bytes.items ++ part = search rules in
    let some : 0 < length part = search rules in
    record {
      consumed = Consumes-more _ _ _ _ _ _ c.loop-turn.invariant.consumed c.in-Ok.ensures.bytes.0 grown;
      reads = reads_more _ _ _ _ _ _ _ c.loop-turn.invariant.reads c.in-Ok.ensures.gives some grown;
      within = search rules;
      turned = search rules;
      called = search rules;
      no_failure = search rules;
    }

-- the bytes read before, and those of this read, which are dropped on an error
pub returns-then-limits-len-clause-prefix : goal.returns-then-limits-len-clause-prefix
returns-then-limits-len-clause-prefix g c =
    (_, Consumes-trans _ _ _ _ _ c.loop-turn.invariant.consumed c.in-Ok.ensures.bytes.0)

pub returns-then-turn-limits-clause-prefix : goal.returns-then-turn-limits-clause-prefix
returns-then-turn-limits-clause-prefix g c =
    (_, Consumes-trans _ _ _ _ _ c.loop-turn.invariant.consumed c.in-Ok.ensures.bytes.0)

-- this was the last read that is allowed
pub returns-then-turn-limits-clause-too_many : goal.returns-then-turn-limits-clause-too_many
returns-then-turn-limits-clause-too_many g c _ =
    let some : 0 < length (take c.in-Ok.n c.read.new.buffer) = search rules in
    let fits : c.in-Ok.n ≤ c.args.limits.bytes - length c.loop-turn.bytes.items = search rules in
    let last : c.loop-turn.turn + 1 ≡ c.args.limits.turns = search rules in (
      _,
      length-within _ _ _ c.read.new.buffer fits c.loop-turn.invariant.within,
      rw (← last) (reads_more _ _ _ _ _ _ _ c.loop-turn.invariant.reads c.in-Ok.ensures.gives some refl),
      Consumes-trans _ _ _ _ _ c.loop-turn.invariant.consumed c.in-Ok.ensures.bytes.0,
    )

pub returns-then-is_err-clause-prefix : goal.returns-then-is_err-clause-prefix
returns-then-is_err-clause-prefix g c =
    (_, Consumes-trans _ _ _ _ _ c.loop-turn.invariant.consumed c.in-Ok.ensures.bytes.0)

pub returns-then-is_err-clause-memory : goal.returns-then-is_err-clause-memory
returns-then-is_err-clause-memory g c _ =
    let some : 0 < length (take c.in-Ok.n c.read.new.buffer) = search rules in
    let fits : c.in-Ok.n ≤ c.args.limits.bytes - length c.loop-turn.bytes.items = search rules in (
      c.loop-turn.turn + 1,
      _,
      omega arith,
      omega arith,
      length-within _ _ _ c.read.new.buffer fits c.loop-turn.invariant.within,
      reads_more _ _ _ _ _ _ _ c.loop-turn.invariant.reads c.in-Ok.ensures.gives some refl,
      Consumes-trans _ _ _ _ _ c.loop-turn.invariant.consumed c.in-Ok.ensures.bytes.0,
    )
