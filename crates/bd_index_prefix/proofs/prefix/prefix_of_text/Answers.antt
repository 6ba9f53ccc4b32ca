use Rattle.std.proofs.Common.{◌≡◌, ◌++◌, ◌∙◌, ℕ, List, ap, ap₂, min, length, take, drop, arith}
use Rattle.bd_index_prefix.specs.{Prefix.padded, declared.prefix.TextPrefix.TextPrefix}
use Rattle.bd_index_prefix.proofs.PrefixLemmas.{copied, zeros}
use Rattle.bd_index_prefix.proofs.prefix.prefix_of_text.Goals as goal

pub returns : goal.returns
returns c =
    let s = c.args.text.now in
    let k = c.min-count.result in
    let taken : c.copy_from_slice.new.self ≡ take k s = grind (arith, c.copy_from_slice.ensures.after) in
    let bytes : c.copy_from_slice.new.self ++ drop k (zeros 15) ≡ padded 15 s = ap (λ (ys : List ℕ). ys ++ drop k (zeros 15)) taken ∙ copied 15 k s c.min-count.ensures in
    let long : c.min.result ≡ min (length s) 16 = c.min.ensures in
    ap₂ (λ (ys : List ℕ) (n : ℕ). let f : TextPrefix = record { bytes = ys; length = n } in f) bytes long
