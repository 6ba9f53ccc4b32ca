use Rattle.std.proofs.Common.{◌≡◌, ◌+◌, ◌++◌, ℕ, List, length, take, ap, ◌∙◌, arith}
use Rattle.bd_wide_dump.proofs.PrettyLemmas.{block_put, tabs_of}
use Rattle.bd_wide_dump.proofs.pretty.put_line_end.Goals as goal

pub returns-clause-text : goal.returns-clause-text
returns-clause-text c =
    let old = c.args.out.now in
    let end : ℕ = c.args.end in
    let k : ℕ = c.args.tabs + 1 in
    let buffer = c.put_block.new.buffer in
    let same : length buffer ≡ length old.items = omega (arith, c.put_block.auto.buffer, c.as_mut_slice.ensures.len, old.ok.0) in
    block_put old.len end k buffer old.items _ _ same old.ok.0 c.as_mut_slice.ensures.value (c.put_block.ensures k (omega arith))
    ∙ ap (λ (l : List ℕ). take end old.items ++ l) (tabs_of c.args.tabs k (omega arith) (omega arith))
