use Rattle.std.proofs.Common.{rules, arith, ℕ, List, ◌≤◌, ap, Err, subst, sym, ◌∙◌, ◌-◌, inl, refl, ◌≡◌, ◌+◌, ◌<◌, ◌++◌, [], length, take}
use Rattle.std.proofs.lemmas.Result.{err_from_is_err_and}
use Rattle.std.proofs.KnownBytes.{Consumes-nil}
use Rattle.bd_io_device.specs.Devices.{zero_reads}
use Rattle.bd_bson_check.specs.Dump.{stated_length}
use Rattle.bd_bson_stream.proofs.StreamLemmas.{cut_short_within, gave_before, found_end, frame_cut_short, has_length_cut_short, is_cut_short, is_frame, IsHead, whole_capacity, within_head, grown_for, unchanged_capacity}
use Rattle.bd_bson_stream.specs.Stream.{BuffersAsMuch, IsCutShort, IsWithinOne}
use Rattle.bd_bson_stream.proofs.doc_buffer.DocBuffer.read_rest.Goals as goal

pub returns-in_err-grow_buffer-clause-fails : goal.returns-in_err-grow_buffer-clause-fails
returns-in_err-grow_buffer-clause-fails g c =
    let size : length c.args.head ≡ 4 = search rules in
    let p = err_from_is_err_and c.from_residual.result c.from_residual.ensures.1 in
    rw (p.1, p.2, c.in_err-grow_buffer.ensures.memory) record {
      given = [];
      gave = Consumes-nil _;
      unchanged = record { offset = refl; number = refl; capacity = refl; empty = c.requires.empty };
      counted = search rules;
      grown = inl (search rules);
      reason = (is_cut_short c.args.head [] (size, c.requires.length.0, c.requires.length.1) (search rules), search rules, refl, search rules, (0, zero_reads _));
    }

pub returns-then-filled-length-clause-fails : goal.returns-then-filled-length-clause-fails
returns-then-filled-length-clause-fails g c =
    let e = c.in_ok-filled.ensures in
    let stated = c.fault.ensures in
    let known : c.from_le_bytes-length.result ≡ stated_length c.args.head = search rules in
    let size : length c.args.head ≡ 4 = search rules in
    let capacity : length c.fill_after.new.buffer ≡ length c.grow_buffer.new.buffer.items = search rules in
    let less : length e.gives.0 + 4 < stated_length c.args.head = let s = e.gives.2 in let l = c.if-filled-length.true in search rules in
    rw stated.1 record {
      given = e.gives.0;
      gave = e.gives.1;
      unchanged = record { offset = refl; number = refl; capacity = refl; empty = c.requires.empty };
      counted = search rules;
      grown = grown_for _ _ c.from_le_bytes-length.result c.args.head e.gives.0 (size, c.requires.length.0, c.requires.length.1) known
          (subst (λ (n : ℕ). BuffersAsMuch (length c.args.self.now.buffer.items) n c.from_le_bytes-length.result)
          (sym (unchanged_capacity _ c.fill_after.new.buffer _ (search rules) ∙ capacity)) (c.in_ok-grow_buffer.ensures.capacity).1);
      reason = (
        stated.3,
        stated.4,
        rw stated.2 (has_length_cut_short c.args.head _ _ e.gives.0 (size, c.requires.length.0, c.requires.length.1) e.gives.1 (e.end (search rules)) less),
        rw stated.2 (frame_cut_short c.args.head e.gives.0 (size, c.requires.length.0, c.requires.length.1) less),
        search rules,
        search rules,
        cut_short_within (c.args.head ++ e.gives.0) (is_cut_short c.args.head e.gives.0 (size, c.requires.length.0, c.requires.length.1) (omega (arith, less))),
        (_, inl (is_cut_short c.args.head e.gives.0 (size, c.requires.length.0, c.requires.length.1) (omega (arith, less)), found_end (search rules) e.gives.4)),
      );
    }

pub returns-clause-frame : goal.returns-clause-frame
returns-clause-frame g c =
    let e = c.in_ok-filled.ensures in
    let stated : c.from_le_bytes-length.result ≡ stated_length c.args.head = search rules in
    let size : length c.args.head ≡ 4 = search rules in
    let given : length e.gives.0 + 4 ≡ stated_length c.args.head = let s = e.gives.2 in let f = e.fits in let l = c.if-filled-length.false in search rules in
    let whole : 4 + c.in_ok-filled.filled.bytes ≡ c.from_le_bytes-length.result = let s = e.gives.2 in omega (arith, given, stated, s) in
    let prefix : take c.from_le_bytes-length.result c.fill_after.new.buffer ≡ c.args.head ++ e.gives.0 = rw whole at e.gives.3 in
    rw (c.pass.ensures.sized, c.pass.ensures.unchanged.0) (is_frame _ c.args.head e.gives.0
    (whole_capacity c.from_le_bytes-length.result _ c.fill_after.new.buffer _ _ prefix (search rules)) (size, c.requires.length.0, c.requires.length.1) given)

pub returns-in_err-filled-clause-fails : goal.returns-in_err-filled-clause-fails
returns-in_err-filled-clause-fails g c =
    let e = c.in_err-filled.ensures in
    let old = c.args.self.now in
    let stated : c.from_le_bytes-length.result ≡ stated_length c.args.head = search rules in
    let size : length c.args.head ≡ 4 = search rules in
    let head : IsHead c.args.head = (size, c.requires.length.0, c.requires.length.1) in
    let capacity : length c.fill_after.new.buffer ≡ length c.grow_buffer.new.buffer.items = search rules in
    let missing : c.from_le_bytes-length.result - 4 ≡ stated_length c.args.head - 4 = ap (λ n. n - 4) stated in
    let fits : 4 ≤ old.remaining.bytes = c.requires.length.2 in
    let splits : (given : List ℕ) → length given < c.from_le_bytes-length.result - 4 → IsCutShort (c.args.head ++ given)
    = λ given less. is_cut_short c.args.head given head (omega (arith, less, missing)) in
    let within : (given : List ℕ) → length given ≤ c.from_le_bytes-length.result - 4 → IsWithinOne (c.args.head ++ given)
    = λ given most. within_head c.args.head given head (omega (arith, most, missing)) in
    let p = err_from_is_err_and c.from_residual-in_err-filled.result c.from_residual-in_err-filled.ensures.1 in
    let r = gave_before g.R.Input.state g.R.Input.read_gives c.args.head (c.from_le_bytes-length.result - 4) old
    (record { bytes = old.remaining.bytes - 4; turns = old.remaining.turns }) c.args.reader.now c.fill_after.new.reader (omega (arith, size, fits)) refl splits within
    c.in_err-filled.field-0.0 e.unfilled (λ is. e.failed (ap Err is)) (λ other. e.no_failure (λ is. other cc)) (λ is. e.too_many_calls (ap Err is)) in
    rw (p.1, p.2) record {
      given = r.given;
      gave = r.gave;
      unchanged = record { offset = refl; number = refl; capacity = refl; empty = c.requires.empty };
      counted = e.turns;
      grown = grown_for _ _ c.from_le_bytes-length.result c.args.head r.given head stated
          (subst (λ (n : ℕ). BuffersAsMuch (length old.buffer.items) n c.from_le_bytes-length.result)
          (sym (unchanged_capacity _ c.fill_after.new.buffer _ (search rules) ∙ capacity)) (c.in_ok-grow_buffer.ensures.capacity).1);
      reason = r.reason;
    }
