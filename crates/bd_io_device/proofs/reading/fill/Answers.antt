use Rattle.std.proofs.Common.{rules, refl, sym, inl, ap, ◌∙◌, add-one, arith, ◌<◌, ◌≡◌, ◌-◌, ◌+◌, [], length, take, length-take-le}
use Rattle.std.proofs.{KnownBytes.Consumes-trans, Math.Seq.take-length}
use Rattle.bd_io_device.specs.Devices.{zero_reads}
use Rattle.bd_io_device.proofs.DevicesLemmas.{Consumes-more, reads_more, grown}
use Rattle.bd_io_device.proofs.reading.fill.Goals.{else-limits-gt0-via-then-limits-gt0+then-size-limits+else-read_buffered, else-limits-gt0-via-then-limits-gt0+else-size-limits, else-limits-gt0-via-else-limits-gt0}
use Rattle.bd_io_device.proofs.reading.fill.Goals as goal

pub returns-then-read_buffered-clause-reads : goal.returns-then-read_buffered-clause-reads
returns-then-read_buffered-clause-reads g c =
    let buffered = c.if-read_buffered.ensures in
    let size : length c.read_buffered.new.buffer ≡ length c.args.buffer.now = search rules in
    let all : take (length c.args.buffer.now) c.read_buffered.new.buffer ≡ c.read_buffered.new.buffer = ap (λ n. take n c.read_buffered.new.buffer) (sym size) ∙ take-length c.read_buffered.new.buffer in
    inl (ap length all ∙ size, reads_more 0 _ _ _ [] c.read_buffered.new.buffer _ (zero_reads _) (buffered.gives refl) (search rules) all)

pub loop-bytes-init : goal.loop-bytes-init
loop-bytes-init g c =
    let at = c.else-limits-gt0 in
    let same : at.reader ≡ c.args.reader.now = elim at.branch [
      | else-limits-gt0-via-then-limits-gt0+then-size-limits+else-read_buffered w ↦ w.reader-is ∙ (w.if-read_buffered.ensures.none refl).0
      | else-limits-gt0-via-then-limits-gt0+else-size-limits w ↦ w.reader-is
      | else-limits-gt0-via-else-limits-gt0 w ↦ w.reader-is
    ] in
    rw same (record {
      buffer = at.auto.buffer;
      fits = omega arith;
      consumed = search rules;
      reads = zero_reads _;
      within = omega arith;
      turned = omega arith;
      called = search rules;
      no_failure = refl;
    })

pub loop-bytes-preserved : goal.loop-bytes-preserved
loop-bytes-preserved g c =
    let more = grown c.loop-bytes.bytes (length c.loop-bytes.buffer - c.loop-bytes.bytes) c.in-Ok.n c.loop-bytes.buffer c.read.new.buffer c.loop-bytes.invariant.fits c.in-Ok.ensures.within in
    let some : 0 < length (take c.in-Ok.n c.read.new.buffer) = search rules in
    record {
      buffer = search rules;
      fits = search rules;
      consumed = Consumes-more _ _ _ _ _ _ c.loop-bytes.invariant.consumed c.in-Ok.ensures.bytes.0 more;
      reads = reads_more _ _ _ _ _ _ _ c.loop-bytes.invariant.reads c.in-Ok.ensures.gives some more;
      within = search rules;
      turned = search rules;
      called = search rules;
      no_failure = search rules;
    }

pub returns-then-limits-bytes-clause-unfilled : goal.returns-then-limits-bytes-clause-unfilled
returns-then-limits-bytes-clause-unfilled g c =
    let l = c.loop-bytes in
    let size : length (take l.bytes l.buffer) ≡ l.bytes = length-take-le l.bytes l.buffer l.invariant.fits in
    let last : length (take c.in-Ok.n c.read.new.buffer) ≡ c.in-Ok.n = length-take-le c.in-Ok.n c.read.new.buffer c.in-Ok.ensures.within in (
      l.turns + 1,
      take l.bytes l.buffer,
      take c.in-Ok.n c.read.new.buffer,
      search rules,
      (l.turns, l.reader, add-one l.turns, l.invariant.reads, c.in-Ok.ensures.gives),
      Consumes-trans _ _ _ _ _ l.invariant.consumed c.in-Ok.ensures.bytes.0,
      search rules,
      search rules,
      search rules,
    )

pub returns-in_default-clause-unfilled : goal.returns-in_default-clause-unfilled
returns-in_default-clause-unfilled g c =
    let l = c.loop-bytes in
    let size : length (take l.bytes l.buffer) ≡ l.bytes = length-take-le l.bytes l.buffer l.invariant.fits in (
      l.turns + 1,
      take l.bytes l.buffer,
      search rules,
      (l.turns, l.reader, add-one l.turns, l.invariant.reads, search rules),
      search rules,
      search rules,
      search rules,
    )
