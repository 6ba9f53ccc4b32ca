use Rattle.std.proofs.Common.{◌≡◌, ◌≤◌, ◌+◌, ◌-◌, ℕ, List, length, take, drop, sym, ap, ◌∙◌, arith}
use Rattle.std.proofs.lemmas.List.{take-take, length-take-le, length-drop}
use Rattle.bd_extjson_text.proofs.BufferLemmas.{put_prefix}
use Rattle.bd_wide_dump.proofs.pretty.put_block.Goals as goal

pub copy_from_slice-requires : goal.copy_from_slice-requires
copy_from_slice-requires c =
    let end : ℕ = c.args.end in
    let there : List ℕ = drop end c.args.buffer.now in
    let long : length there ≡ length c.args.buffer.now - end = length-drop end c.args.buffer.now in
    let size : end + 32 - end ≡ 32 = omega arith in
    length-take-le (end + 32 - end) there (omega arith) ∙ size ∙ sym (length-take-le 32 c.args.text.now (omega arith))

pub returns : goal.returns
returns c = λ k few.
    let copied = c.copy_from_slice.ensures.after in
    let near : k ≤ 32 = few in
    let long : length c.copy_from_slice.new.self ≡ 32 = ap (λ (l : List ℕ). length l) copied ∙ length-take-le 32 c.args.text.now (omega arith) in
    put_prefix c.args.end k _ c.args.buffer.now c.copy_from_slice.new.self (take k c.args.text.now) (omega arith) (omega arith) (ap (λ (l : List ℕ). take k l) copied ∙ take-take k 32 c.args.text.now near)
