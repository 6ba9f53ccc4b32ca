use Rattle.std.proofs.Common.{◌≡◌, length, take, ◌∙◌, arith}
use Rattle.bd_extjson_text.proofs.BufferLemmas.{failed, prefix, chained, lent}
use Rattle.bd_extjson_text.proofs.JsonStringLemmas.{one_byte}
use Rattle.bd_extjson_text.proofs.TextLemmas.{written-binary}
use Rattle.bd_extjson_text.proofs.scalar.append_binary.Goals as goal

pub returns-in_err-at-2 : goal.returns-in_err-at-2
returns-in_err-at-2 c =
    failed _ _ _ _ c.from_residual-in_err-at-2.result c.from_residual-in_err-at-2.ensures.0
    (prefix c.args.end c.in_ok-at.at c.args.out.now.items _ c.append_base64.new.out.items
    (omega arith) (c.in_err-at-2.ensures ∙ c.in_ok-at.ensures.text.0))

pub returns-in_err-at-3 : goal.returns-in_err-at-3
returns-in_err-at-3 c =
    let both = chained c.args.end c.in_ok-at.at c.in_ok-at-2.at c.args.out.now.items _ _ _ _ c.in_ok-at.ensures.text.0 c.in_ok-at-2.ensures.0 in
    failed _ _ _ _ c.from_residual-in_err-at-3.result c.from_residual-in_err-at-3.ensures.0
    (prefix c.args.end c.in_ok-at-2.at c.args.out.now.items _ c.append_few-2.new.out.items
    (omega arith) (c.in_err-at-3.ensures.text ∙ both))

pub returns : goal.returns
returns c =
    let made = c.append_few-2.new.out in
    let buffer = c.put_known.new.buffer in
    let same : length buffer ≡ length made.items = omega (arith, c.put_known.auto.buffer, c.put_hex-at.auto.buffer, c.as_mut_slice-buffer.ensures.len, made.ok.0) in (
      rw (lent made.len buffer made.items same made.ok.0, c.put_known.ensures.appended, c.put_hex-at.ensures.appended, c.as_mut_slice-buffer.ensures.value)
          (rw (c.in_ok-at-3.ensures.text.0, c.in_ok-at-2.ensures.0, c.in_ok-at.ensures.text.0)
          (written-binary (take c.args.end c.args.out.now.items) c.args.bytes.now c.args.subtype (λ i. (c.type_inv.bytes i).fits) (one_byte c.args.subtype c.ranges.subtype.fits))),
      rw (lent made.len buffer made.items same made.ok.0) (omega (arith, same, c.put_known.ensures.end, c.put_hex-at.ensures.end, c.in_ok-at-3.ensures.capacity)),
    )
