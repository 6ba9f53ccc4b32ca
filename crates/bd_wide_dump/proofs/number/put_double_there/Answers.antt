use Rattle.std.proofs.Common.{◌≡◌, ◌++◌, List, ℕ, length, drop, take, sym, ap, ◌∙◌, arith}
use Rattle.bd_bson_view.specs.Sizes.{long_of}
use Rattle.bd_extjson_text.proofs.BufferLemmas.{lent}
use Rattle.bd_wide_dump.proofs.IndentLemmas.{double_in}
use Rattle.bd_wide_dump.proofs.number.put_double_there.Goals as goal

pub returns : goal.returns
returns c =
    let n = c.put_double_in.ensures.appended in
    let old = c.args.out.now in
    let buffer = c.put_double_in.new.buffer in
    let same : length buffer ≡ length old.items = omega (arith, c.put_double_in.auto.buffer, c.as_mut_slice.ensures.len, old.ok.0) in
    rw (lent old.len buffer old.items same old.ok.0) (record {
      text = n.0;
      is = double_in c.args.format (drop c.args.start c.args.bytes.now) c.long-bits.result c.is_bare.result (c.long-bits.ensures ∙ ap long_of c.split_at.ensures.back) (sym c.is_bare.ensures) n.0 n.1;
      written = n.2 ∙ ap (λ (x : List ℕ). take c.args.end x ++ n.0) c.as_mut_slice.ensures.value;
      inside = omega (arith, same, c.put_double_in.ensures.end, c.requires.buffer);
    })
