use Rattle.std.proofs.Common.{rules, ◌≡◌, sym, ◌∙◌, []}
use Rattle.std.specs.Prelude.{◌≢◌}
use Rattle.bd_io_stdout.specs.OutputBuffer.{BufferState}
use Rattle.bd_io_stdout.specs.declared.output_buffer.WriteState.TheVariants.{Intact}
use Rattle.bd_io_stdout.proofs.OutputBufferLemmas.{WriteFails-writes, TakesAllBytes-writes}
use Rattle.bd_io_stdout.proofs.OutputBufferLemmas.{write_fails_first, write_fails_later, buffers_after, buffers_handed, buffers_waiting, buffers_none, buffers_written, on_err, on_ok, same_device, same_write_state, same_waiting}
use Rattle.bd_io_stdout.proofs.output_buffer.OutputBuffer.append.Goals as goal

pub returns-then-buffers-clause-buffered : goal.returns-then-buffers-clause-buffered
returns-then-buffers-clause-buffered g c =
    let h = c.buffers.ensures in
    let intact : c.args.self.now.write_state ≡ Intact = search rules in
    (intact, h.write_state ∙ intact, buffers_waiting g.D.Output c.args.self.now c.buffers.new.self c.args.bytes.now h.device (h.buffered c.if-buffers.true))

pub returns-then-ne-2-clause-write_failed : goal.returns-then-ne-2-clause-write_failed
returns-then-ne-2-clause-write_failed g c intact =
    let h = c.buffers.ensures in
    let lost : c.hand_on-handed.new.self.write_state ≢ Intact = search rules in
    write_fails_first g.D.Output c.args.self.now c.buffers.new.self c.args.bytes.now _ h.device (h.not_buffered c.if-buffers.false)
    (c.hand_on-handed.ensures.handed.write_failed (h.write_state ∙ intact) lost).1

pub returns-then-buffers-2-clause-buffered : goal.returns-then-buffers-2-clause-buffered
returns-then-buffers-2-clause-buffered g c =
    let h = c.buffers.ensures in
    let h2 = c.buffers-2.ensures in
    let old = c.args.self.now in
    let going : c.hand_on-handed.new.self.write_state ≡ Intact = search rules in
    let handed = c.hand_on-handed.ensures.handed.intact going in
    let first = buffers_handed g.D.Output old c.buffers.new.self c.hand_on-handed.new.self h.device (h.not_buffered c.if-buffers.false) handed.1 in (
      sym h.write_state ∙ handed.0,
      h2.write_state ∙ going,
      buffers_after g.D.Output old c.hand_on-handed.new.self c.buffers-2.new.self c.args.bytes.now first
          (buffers_waiting g.D.Output c.hand_on-handed.new.self c.buffers-2.new.self c.args.bytes.now h2.device (h2.buffered c.if-buffers-2.true)),
    )

pub returns-clause-buffered : goal.returns-clause-buffered
returns-clause-buffered g c =
    let h = c.buffers.ensures in
    let h2 = c.buffers-2.ensures in
    let old = c.args.self.now in
    let inside = c.self-2.inside in
    let mid : BufferState _ = record { waiting = inside.waiting.items; capacity = inside.capacity; device = inside.device; write_state = inside.write_state } in
    let is = c.self-2.view_is in
    let still = same_waiting is ∙ h2.not_buffered c.if-buffers-2.false in
    let new : BufferState _ = record { waiting = inside.waiting.items; capacity = inside.capacity; device = c.write_all.new.writer; write_state = inside.write_state } in
    let going : c.hand_on-handed.new.self.write_state ≡ Intact = search rules in
    let handed = c.hand_on-handed.ensures.handed.intact going in
    let empty : mid.waiting ≡ [] = still ∙ c.hand_on-handed.ensures.empty in
    let first = buffers_handed g.D.Output old c.buffers.new.self c.hand_on-handed.new.self h.device (h.not_buffered c.if-buffers.false) handed.1 in
    let all = buffers_after g.D.Output old c.hand_on-handed.new.self mid [] first (buffers_none g.D.Output c.hand_on-handed.new.self mid (same_device is ∙ h2.device) still) in
    on_ok c.write_all.result _ _ _ c.write_all.ensures.written c.write_all.ensures.writes (λ contents writes. (
      sym h.write_state ∙ handed.0,
      same_write_state is ∙ (h2.write_state ∙ going),
      buffers_after g.D.Output old mid new c.args.bytes.now all
          (buffers_written g.D.Output mid new c.args.bytes.now empty empty (TakesAllBytes-writes g.D.Output _ _ _ contents writes)),
    ))

pub returns-clause-write_failed : goal.returns-clause-write_failed
returns-clause-write_failed g c =
    let h = c.buffers.ensures in
    let h2 = c.buffers-2.ensures in
    let old = c.args.self.now in
    let inside = c.self-2.inside in
    let mid : BufferState _ = record { waiting = inside.waiting.items; capacity = inside.capacity; device = inside.device; write_state = inside.write_state } in
    let is = c.self-2.view_is in
    let still = same_waiting is ∙ h2.not_buffered c.if-buffers-2.false in
    let going : c.hand_on-handed.new.self.write_state ≡ Intact = search rules in
    let handed = c.hand_on-handed.ensures.handed.intact going in
    let empty : mid.waiting ≡ [] = still ∙ c.hand_on-handed.ensures.empty in
    let first = buffers_handed g.D.Output old c.buffers.new.self c.hand_on-handed.new.self h.device (h.not_buffered c.if-buffers.false) handed.1 in
    let all = buffers_after g.D.Output old c.hand_on-handed.new.self mid [] first (buffers_none g.D.Output c.hand_on-handed.new.self mid (same_device is ∙ h2.device) still) in
    on_err c.write_all.result _ _ _ c.write_all.ensures.write_failed c.write_all.ensures.stopped (λ contents writes intact.
    write_fails_later g.D.Output old mid c.args.bytes.now _ all empty (WriteFails-writes g.D.Output _ _ _ contents writes))
