use Rattle.bd_io_lines.proofs.line_buffer.LineBuffer.read_next.Goals as goal

pub returns-in_default-result-clause-reads : goal.returns-in_default-result-clause-reads
returns-in_default-result-clause-reads g c is =
    let r = c.advance-result.ensures.reads is in
    rw (← c.self.view_is) record { given = r.given; reads = r.reads; line = r.line; lazy = r.lazy }

pub returns-in_default-result-clause-end : goal.returns-in_default-result-clause-end
returns-in_default-result-clause-end g c is =
    let f = c.advance-result.ensures.end is in
    rw (← c.self.view_is) record { none = f.none; ended = f.ended; reads = f.reads }
