use Rattle.std.proofs.Common.{◌≡◌, length, refl, arith}
use Rattle.bd_extjson_text.proofs.JsonStringLemmas.{escaped-plain}
use Rattle.bd_extjson_text.proofs.BufferLemmas.{lent}
use Rattle.bd_extjson_text.proofs.json_string.append_text.Goals as goal

pub returns-then-copy_plain-clause-text : goal.returns-then-copy_plain-clause-text
returns-then-copy_plain-clause-text c =
    let made = c.grow_buffer.new.out in
    let same : length c.copy_plain.new.buffer ≡ length made.items = omega (arith, c.copy_plain.auto.buffer, c.as_mut_slice.ensures.len, made.ok.0) in
    let buffer = lent made.len c.copy_plain.new.buffer made.items same made.ok.0 in (
      rw (buffer, c.copy_plain.ensures.copied c.if-copy_plain.true, c.as_mut_slice.ensures.value)
          (rw (c.grow_buffer.ensures.unchanged, escaped-plain c.args.text.now (c.copy_plain.ensures.plain c.if-copy_plain.true)) refl),
      rw buffer (omega (arith, same, c.in_ok-grow_buffer.ensures.capacity)),
    )
