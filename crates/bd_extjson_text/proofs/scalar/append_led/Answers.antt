use Rattle.std.proofs.Common.{◌≡◌, ◌++◌, List, ℕ, length, take, ap, ◌∙◌, arith}
use Rattle.bd_extjson_text.proofs.BufferLemmas.{then, lent_text}
use Rattle.bd_extjson_text.proofs.scalar.append_led.Goals as goal

pub returns : goal.returns
returns c =
    let made = c.grow_buffer.new.out in
    let buffer = c.put-at.new.buffer in
    let old = c.args.out.now.items in
    let lead = c.args.lead.now in
    let same : length buffer ≡ length made.items = omega (arith, c.put-at.auto.buffer, c.as_mut_slice.ensures.len, made.ok.0) in
    let before : take c.args.end c.as_mut_slice.result.now ≡ take c.args.end old = ap (λ (l : List ℕ). take c.args.end l) c.as_mut_slice.ensures.value ∙ c.grow_buffer.ensures.unchanged in
    let there = lent_text made.len c.put-at.result buffer made.items _ same made.ok.0 (c.put-at.ensures.appended ∙ ap (λ (l : List ℕ). l ++ lead) before) in
    then c.args.end c.put-at.result old _ c.append_string.new.out.items lead _ c.append_string.result (omega arith) there c.append_string.ensures
