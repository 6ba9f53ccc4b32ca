use Rattle.std.proofs.Common.{◌≡◌, length, take, ◌∙◌, arith}
use Rattle.bd_extjson_text.proofs.BufferLemmas.{failed, prefix, lent}
use Rattle.bd_extjson_text.proofs.TextLemmas.{written-db_pointer}
use Rattle.bd_extjson_text.proofs.scalar.append_pointer.Goals as goal

pub returns-in_err-at-2 : goal.returns-in_err-at-2
returns-in_err-at-2 c =
    failed _ _ _ _ c.from_residual-in_err-at-2.result c.from_residual-in_err-at-2.ensures.0
    (prefix c.args.end c.in_ok-at.at c.args.out.now.items _ c.append_few.new.out.items
    (omega arith) (c.in_err-at-2.ensures.text ∙ c.in_ok-at.ensures.0))

pub returns : goal.returns
returns c =
    let made = c.append_few.new.out in
    let buffer = c.put_known.new.buffer in
    let same : length buffer ≡ length made.items = omega (arith, c.put_known.auto.buffer, c.put_id-at.auto.buffer, c.as_mut_slice-buffer.ensures.len, made.ok.0) in (
      rw (lent made.len buffer made.items same made.ok.0, c.put_known.ensures.appended, c.put_id-at.ensures.appended, c.as_mut_slice-buffer.ensures.value)
          (rw (c.in_ok-at-2.ensures.text.0, c.in_ok-at.ensures.0) (written-db_pointer (take c.args.end c.args.out.now.items) c.args.space.now c.args.id.now c.fits-id)),
      rw (lent made.len buffer made.items same made.ok.0) (omega (arith, same, c.put_known.ensures.end, c.put_id-at.ensures.end, c.in_ok-at-2.ensures.capacity)),
    )
