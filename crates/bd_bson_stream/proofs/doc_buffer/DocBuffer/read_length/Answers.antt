use Rattle.std.proofs.Common.{rules, ◌⊎◌, ◌≡◌, ◌<◌, ◌≤◌, length, take, length-take-le, inl, inr, refl, ap, [], Err}
use Rattle.std.proofs.lemmas.List.{take_all}
use Rattle.std.specs.Io.KnownBytes.{Consumes}
use Rattle.bd_value.specs.Limits.{longest_document}
use Rattle.bd_bson_check.specs.Dump.{stated_length}
use Rattle.std.proofs.lemmas.Result.{err_from_is_err_and}
use Rattle.bd_bson_stream.proofs.StreamLemmas.{gave_before, filled_capacity, found_end, frame_out, frame_short, has_short_length, has_bad_length}
use Rattle.bd_bson_stream.proofs.doc_buffer.DocBuffer.read_length.Goals as goal
use Rattle.bd_bson_stream.proofs.doc_buffer.DocBuffer.read_length.Goals.{then-length-lt5-via-then-length-lt5, then-length-lt5-via-else-length-lt5+then-length-gt-LONGEST_DOCUMENT}

pub returns-then-filled-lt4-clause-fails : goal.returns-then-filled-lt4-clause-fails
returns-then-filled-lt4-clause-fails g c =
    let e = c.in_ok-filled.ensures in
    let stated = c.fault.ensures in
    let capacity : c.in_ok-filled.filled.bytes ≤ length c.fill.new.buffer = search rules in
    let size : length (take c.in_ok-filled.filled.bytes c.fill.new.buffer) ≡ c.in_ok-filled.filled.bytes = length-take-le c.in_ok-filled.filled.bytes c.fill.new.buffer capacity in
    let less : c.in_ok-filled.filled.bytes < 4 = c.if-filled-lt4.true in
    rw stated.1 record {
      given = take c.in_ok-filled.filled.bytes c.fill.new.buffer;
      gave = e.bytes;
      unchanged = record { offset = refl; number = refl; capacity = refl; empty = c.requires.empty };
      counted = search rules;
      grown = inl refl;
      reason = (
        stated.3,
        stated.4,
        rw stated.2 (has_short_length _ _ _ e.bytes (e.end less) (search rules) (search rules)),
        rw stated.2 (frame_short (take c.in_ok-filled.filled.bytes c.fill.new.buffer) (search rules) (search rules)),
        search rules,
        search rules,
        inl (search rules),
        (_, inl (inl (search rules), found_end (search rules) e.reads)),
      );
    }

pub returns-then-length-lt5-clause-fails : goal.returns-then-length-lt5-clause-fails
returns-then-length-lt5-clause-fails g c =
    let e = c.in_ok-filled.ensures in
    let stated = c.fault-then-length-lt5.ensures in
    let size : length c.fill.new.buffer ≡ 4 = search rules in
    let all : take c.in_ok-filled.filled.bytes c.fill.new.buffer ≡ c.fill.new.buffer = take_all c.in_ok-filled.filled.bytes c.fill.new.buffer (search rules) in
    let gave : Consumes (g.R.Input.state c.args.reader.now).remaining (g.R.Input.state c.fill.new.reader).remaining c.fill.new.buffer = rw all at e.bytes in
    let out : (stated_length c.fill.new.buffer < 5) ⊎ (longest_document < stated_length c.fill.new.buffer) = elim c.then-length-lt5.branch [
      | then-length-lt5-via-then-length-lt5 w ↦ inl (search rules)
      | then-length-lt5-via-else-length-lt5+then-length-gt-LONGEST_DOCUMENT w ↦ inr (search rules)
    ] in
    rw stated.1 record {
      given = c.fill.new.buffer;
      gave = gave;
      unchanged = record { offset = refl; number = refl; capacity = refl; empty = c.requires.empty };
      counted = search rules;
      grown = inl refl;
      reason = (
        stated.3,
        stated.4,
        rw stated.2 (has_bad_length _ _ c.fill.new.buffer gave size out),
        rw stated.2 (frame_out c.fill.new.buffer size out),
        search rules,
        search rules,
        inl (search rules),
        (_, inr (size, filled_capacity size (rw all at e.reads))),
      );
    }

pub returns-in_err-filled-clause-fails : goal.returns-in_err-filled-clause-fails
returns-in_err-filled-clause-fails g c =
    let e = c.in_err-filled.ensures in
    let old = c.args.self.now in
    let p = err_from_is_err_and c.from_residual.result c.from_residual.ensures.1 in
    let r = gave_before g.R.Input.state g.R.Input.read_gives [] 4 old old.remaining c.args.reader.now c.fill.new.reader
    (search rules) refl (λ given less. inl less) (λ given fits. inl fits)
    c.in_err-filled.field-0.0 e.unfilled (λ is. e.failed (ap Err is)) (λ other. e.no_failure (λ is. other cc)) (λ is. e.too_many_calls (ap Err is)) in
    rw (p.1, p.2) record {
      given = r.given;
      gave = r.gave;
      unchanged = record { offset = refl; number = refl; capacity = refl; empty = c.requires.empty };
      counted = e.turns;
      grown = inl refl;
      reason = r.reason;
    }
