use Rattle.std.proofs.Common.{◌<◌, ◌++◌, List, ℕ, length, ap, sym, ◌∙◌, subst, ne_eqb}
use Rattle.bd_wide_text.proofs.Decimal128Lemmas.{size_is, some_digits}
use Rattle.bd_wide_text.proofs.DoubleLemmas.{ok_on}
use Rattle.bd_wide_text.proofs.decimal128.write_size.Goals as goal

pub returns-clause-ok : goal.returns-clause-ok
returns-clause-ok c =
    let n = c.coefficient.result in
    let ds = c.as_bytes-digits.result.now in
    let written = c.as_bytes-digits.ensures.value ∙ c.format.ensures.text in
    let some : 0 < length ds = subst (λ (t : List ℕ). 0 < length t) (sym written) (some_digits n c.coefficient.ensures.below) in
    let finite = ne_eqb _ 30 (λ e. c.if-five_bits-eq30.false (c.five_bits.ensures ∙ e)) in
    let is = size_is c.args.low c.args.high n c.biased_exponent.result ds finite written c.coefficient.ensures.gives c.biased_exponent.ensures.gives some in
    ok_on c.write_scientific_string.result _ _ c.write_scientific_string.ensures.ok (λ e. e ∙ ap (λ t. c.args.out.now.items ++ t) is)
