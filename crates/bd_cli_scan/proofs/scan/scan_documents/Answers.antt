use Rattle.std.proofs.Common.{rules, arith, ℕ, Err, subst, ◌≡◌, ◌+◌, [], Some, None, true, false, inl, refl, sym, ◌∙◌}
use Rattle.std.specs.Prelude.{is_none}
use Rattle.std.proofs.lemmas.Result.{err_from_is_err_and}
use Rattle.bd_bson_check.specs.{Fault.fault_view, FirstFault.fault_under}
use Rattle.bd_io_device.specs.Devices.{over, zero_reads}
use Rattle.bd_cli_scan.specs.inside.Output.{WritesSome}
use Rattle.bd_io_device.specs.declared.reading.ReadFault.TheVariants as reads
use Rattle.bd_cli_scan.proofs.ScanLemmas as scans
use Rattle.bd_cli_scan.proofs.scan.scan_documents.Goals as goal

pub visit-requires : goal.visit-requires
visit-requires g c = (c.offset-base.result, rw c.profile-profile.ensures at c.in-Ok.ensures)

pub loop-buffer-init : goal.loop-buffer-init
loop-buffer-init g c = record {
  so_far = scans.begins (g.V.Visitor.texts c.args.visitor.now) (g.R.Input.state c.args.input.now) (g.O.Output.state c.args.out.now) c.new-buffer.result
      (search rules) (search rules) (search rules) (search rules);
  not_failed = search rules;
  read = (0, [], zero_reads _);
}

pub loop-buffer-preserved-in-Continue-1 : goal.loop-buffer-preserved-in-Continue-1
loop-buffer-preserved-in-Continue-1 g c =
    let l = c.loop-buffer in
    let read = scans.document_read (c.read_next.ensures.reads (search rules)) c.bytes-bytes.ensures c.read_next.new.self.inside in
    let good = c.in_ok-visit-in-Ok.ensures in
    record {
      so_far = scans.goes_on l.invariant.so_far (g.O.Output.state c.visit.new.out) None good.0 l.bad read
          (rw (c.profile-profile.ensures, c.offset-base.ensures) at c.in-Ok.ensures, rw c.number-count.ensures at good.1) (omega arith) good.2;
      not_failed = search rules;
      read = scans.read_document l.invariant.read (c.read_next.ensures.reads (search rules));
    }

pub returns-in_err-visit-in-Ok-clause-stops : goal.returns-in_err-visit-in-Ok-clause-stops
returns-in_err-visit-in-Ok-clause-stops g c =
    let l = c.loop-buffer in
    let read = scans.document_read (c.read_next.ensures.reads (search rules)) c.bytes-bytes.ensures c.read_next.new.self.inside in
    let p = err_from_is_err_and c.from_residual.result c.from_residual.ensures.1 in
    let stopped = c.in_err-visit-in-Ok in
    let stops = subst (λ (n : ℕ). WritesSome {A = Unit {0}} ((g.V.Visitor.texts c.args.visitor.now).IsGood n c.bytes-bytes.result.now)
    (over g.O.Output.state l.out c.visit.new.out) (Err stopped.field-0.0)) c.number-count.ensures stopped.ensures in
    rw (p.1, p.2) (scans.stops_visiting l.invariant.so_far read.gives (g.O.Output.state c.visit.new.out) stopped.field-0.0
    read.frame (rw (c.profile-profile.ensures, c.offset-base.ensures) at c.in-Ok.ensures) stops)

pub returns-then-is_want_of_memory-clause-stops : goal.returns-then-is_want_of_memory-clause-stops
returns-then-is_want_of_memory-clause-stops g c =
    let l = c.loop-buffer in
    let read = scans.document_read (c.read_next.ensures.reads (search rules)) c.bytes-bytes.ensures c.read_next.new.self.inside in
    scans.runs_out l.invariant.so_far read.gives

pub returns-in_err-meet-in-Err-clause-stops : goal.returns-in_err-meet-in-Err-clause-stops
returns-in_err-meet-in-Err-clause-stops g c =
    let l = c.loop-buffer in
    let read = scans.document_read (c.read_next.ensures.reads (search rules)) c.bytes-bytes.ensures c.read_next.new.self.inside in
    let fault = c.in-Err.fault in
    let f = scans.found c.number-count.result (fault_under c.profile-profile.result c.offset-base.result c.bytes-bytes.result.now) fault c.in-Err.ensures (search rules) in
    let r = c.from_residual-in_err-meet-in-Err in
    let p = err_from_is_err_and r.result r.ensures.1 in
    let stopped = c.in_err-meet-in-Err in
    let goes_on : false ≡ is_none ((g.V.Visitor.texts c.args.visitor.now).bad l.buffer.number (fault_view fault)) = sym c.if-ends_at_fault.false ∙ c.ends_at_fault.ensures l.buffer.number (fault_view fault) in
    let line = scans.text_there ((g.V.Visitor.texts c.args.visitor.now).bad l.buffer.number (fault_view fault)) goes_on in
    let met = rw (f.1 ∙ c.number-count.ensures, line.1) at stopped.ensures in
    rw (p.1, p.2) (scans.stops_by l.invariant.so_far read.gives (g.O.Output.state c.meet.new.out) (Some (fault_view fault)) line.0 stopped.field-0.0
    read.frame (rw (c.profile-profile.ensures, c.offset-base.ensures) at f.0, line.1) met)

pub returns-then-ends_at_fault-clause-scans : goal.returns-then-ends_at_fault-clause-scans
returns-then-ends_at_fault-clause-scans g c =
    let l = c.loop-buffer in
    let read = scans.document_read (c.read_next.ensures.reads (search rules)) c.bytes-bytes.ensures c.read_next.new.self.inside in
    let fault = c.in-Err.fault in
    let f = scans.found c.number-count.result (fault_under c.profile-profile.result c.offset-base.result c.bytes-bytes.result.now) fault c.in-Err.ensures (search rules) in
    let ends : true ≡ is_none ((g.V.Visitor.texts c.args.visitor.now).bad l.buffer.number (fault_view fault)) = sym c.if-ends_at_fault.true ∙ c.ends_at_fault.ensures l.buffer.number (fault_view fault) in
    let e = c.ended.ensures in
    rw (e.0, e.1, e.2, c.number-count.ensures) (scans.ends_faulty l.invariant.so_far read.gives fault read.frame (rw (c.profile-profile.ensures, c.offset-base.ensures) at f.0) (f.1 ∙ c.number-count.ensures)
    (scans.no_text ((g.V.Visitor.texts c.args.visitor.now).bad l.buffer.number (fault_view fault)) ends))

pub loop-buffer-preserved : goal.loop-buffer-preserved
loop-buffer-preserved g c =
    let l = c.loop-buffer in
    let read = scans.document_read (c.read_next.ensures.reads (search rules)) c.bytes-bytes.ensures c.read_next.new.self.inside in
    let fault = c.in-Err.fault in
    let f = scans.found c.number-count.result (fault_under c.profile-profile.result c.offset-base.result c.bytes-bytes.result.now) fault c.in-Err.ensures (search rules) in
    let goes_on : false ≡ is_none ((g.V.Visitor.texts c.args.visitor.now).bad l.buffer.number (fault_view fault)) = sym c.if-ends_at_fault.false ∙ c.ends_at_fault.ensures l.buffer.number (fault_view fault) in
    let line = scans.text_there ((g.V.Visitor.texts c.args.visitor.now).bad l.buffer.number (fault_view fault)) goes_on in
    let met = rw (f.1 ∙ c.number-count.ensures, line.1) at c.in_ok-meet-in-Err.ensures in
    record {
      so_far = scans.goes_on l.invariant.so_far (g.O.Output.state c.meet.new.out) (Some (fault_view fault)) line.0 (l.bad + 1) read
          (rw (c.profile-profile.ensures, c.offset-base.ensures) at f.0, line.1) (omega arith) met;
      not_failed = search rules;
      read = scans.read_document l.invariant.read (c.read_next.ensures.reads (search rules));
    }

pub returns-in-Ok-false-clause-scans : goal.returns-in-Ok-false-clause-scans
returns-in-Ok-false-clause-scans g c =
    let l = c.loop-buffer in
    let e = c.read_next.ensures.end (search rules) in
    let none : scans.Gives (g.R.Input.state l.input) (g.R.Input.state c.read_next.new.reader) l.buffer.remaining.bytes []
    = record { gave = e.gave; short = omega arith; within = inl (omega arith); no_failure = e.no_failure } in
    rw c.number-count.ensures (scans.ends_whole l.invariant.so_far none refl e.end)

pub returns-in-Err-Frame-clause-scans : goal.returns-in-Err-Frame-clause-scans
returns-in-Err-Frame-clause-scans g c =
    let l = c.loop-buffer in
    let e = c.in-Err-Frame in
    let f = c.to_fault-fault in
    let fails = rw (e.field-0-is, ← e.fault-is) at (e.ensures.fails l.invariant.not_failed) in
    let is = c.ended-in-Err-Frame.ensures in
    rw (is.0, is.1, is.2, c.number-count.ensures) (scans.ends_by_length l.invariant.so_far _ f.result f.ensures.same f.ensures.path fails
    (g.O.Output.state c.meet-in-Err-Frame.new.out) c.in_ok-meet-in-Err-Frame.ensures)

pub returns-in_err-meet-in-Err-Frame-clause-stops : goal.returns-in_err-meet-in-Err-Frame-clause-stops
returns-in_err-meet-in-Err-Frame-clause-stops g c =
    let l = c.loop-buffer in
    let e = c.in-Err-Frame in
    let f = c.to_fault-fault in
    let fails = rw (e.field-0-is, ← e.fault-is) at (e.ensures.fails l.invariant.not_failed) in
    let r = c.from_residual-in_err-meet-in-Err-Frame in
    let p = err_from_is_err_and r.result r.ensures.1 in
    let stopped = c.in_err-meet-in-Err-Frame in
    rw (p.1, p.2) (scans.stops_by_length l.invariant.so_far _ f.result f.ensures.same f.ensures.path fails
    (g.O.Output.state c.meet-in-Err-Frame.new.out) stopped.field-0.0 stopped.ensures)

pub returns-in-Err-Read-NoMemory-clause-stops : goal.returns-in-Err-Read-NoMemory-clause-stops
returns-in-Err-Read-NoMemory-clause-stops g c =
    let l = c.loop-buffer in
    let e = c.in-Err-Read-NoMemory in
    let same : e.field-0-0 ≡ reads.NoMemory = search rules in
    scans.runs_out_by l.invariant.so_far (rw (e.field-0-is, same) at (e.ensures.fails l.invariant.not_failed))

pub returns-in-Err-Read-clause-scans : goal.returns-in-Err-Read-clause-scans
returns-in-Err-Read-clause-scans g c =
    let l = c.loop-buffer in
    let e = c.in-Err-Read in
    let is = c.ended-in-Err-Read.ensures in
    rw (is.0, is.1, is.2, c.number-count.ensures) (scans.ends_unread l.invariant.so_far _ (search rules) (rw (e.field-0-is, ← e.fault-is) at (e.ensures.fails l.invariant.not_failed)))

pub returns-in_err-visit-in-Ok-clause-stops_reading : goal.returns-in_err-visit-in-Ok-clause-stops_reading
returns-in_err-visit-in-Ok-clause-stops_reading g c = scans.reads_so_far (scans.read_document c.loop-buffer.invariant.read (c.read_next.ensures.reads (search rules)))

pub returns-then-is_want_of_memory-clause-stops_reading : goal.returns-then-is_want_of_memory-clause-stops_reading
returns-then-is_want_of_memory-clause-stops_reading g c = scans.reads_so_far (scans.read_document c.loop-buffer.invariant.read (c.read_next.ensures.reads (search rules)))

pub returns-in_err-meet-in-Err-clause-stops_reading : goal.returns-in_err-meet-in-Err-clause-stops_reading
returns-in_err-meet-in-Err-clause-stops_reading g c = scans.reads_so_far (scans.read_document c.loop-buffer.invariant.read (c.read_next.ensures.reads (search rules)))

pub returns-then-ends_at_fault-clause-stops_reading : goal.returns-then-ends_at_fault-clause-stops_reading
returns-then-ends_at_fault-clause-stops_reading g c = scans.reads_so_far (scans.read_document c.loop-buffer.invariant.read (c.read_next.ensures.reads (search rules)))

pub returns-in-Ok-false-clause-stops_reading : goal.returns-in-Ok-false-clause-stops_reading
returns-in-Ok-false-clause-stops_reading g c = scans.read_to_the_end c.loop-buffer.invariant.read (c.read_next.ensures.end (search rules))

pub returns-in-Err-Frame-clause-stops_reading : goal.returns-in-Err-Frame-clause-stops_reading
returns-in-Err-Frame-clause-stops_reading g c = scans.read_to_a_fault c.loop-buffer.invariant.read _ (c.in-Err-Frame.ensures.fails c.loop-buffer.invariant.not_failed)

pub returns-in_err-meet-in-Err-Frame-clause-stops_reading : goal.returns-in_err-meet-in-Err-Frame-clause-stops_reading
returns-in_err-meet-in-Err-Frame-clause-stops_reading g c = scans.read_to_a_fault c.loop-buffer.invariant.read _ (c.in-Err-Frame.ensures.fails c.loop-buffer.invariant.not_failed)

pub returns-in-Err-Read-NoMemory-clause-stops_reading : goal.returns-in-Err-Read-NoMemory-clause-stops_reading
returns-in-Err-Read-NoMemory-clause-stops_reading g c = scans.read_to_a_fault c.loop-buffer.invariant.read _ (c.in-Err-Read-NoMemory.ensures.fails c.loop-buffer.invariant.not_failed)

pub returns-in-Err-Read-clause-stops_reading : goal.returns-in-Err-Read-clause-stops_reading
returns-in-Err-Read-clause-stops_reading g c = scans.read_to_a_fault c.loop-buffer.invariant.read _ (c.in-Err-Read.ensures.fails c.loop-buffer.invariant.not_failed)
