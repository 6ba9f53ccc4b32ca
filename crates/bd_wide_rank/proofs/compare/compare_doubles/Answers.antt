use Rattle.std.proofs.Common.{◌∙◌, ap₂, SFits, rules, w64}
use Rattle.std.specs.Ordering.{int_cmp}
use Rattle.std.proofs.lemmas.Int.{to_z-of_z}
use Rattle.bd_wide_rank.proofs.CompareLemmas.{codes_compare}
use Rattle.bd_wide_rank.proofs.WorthLemmas.{double_near, worths_compare}
use Rattle.bd_wide_rank.proofs.compare.compare_doubles.Goals as goal

pub returns : goal.returns
returns c =
    let first : SFits w64 c.code_of_double.result = search rules in
    let second : SFits w64 c.code_of_double-2.result = search rules in
    c.cmp.ensures ∙ ap₂ int_cmp (to_z-of_z w64 c.code_of_double.result first) (to_z-of_z w64 c.code_of_double-2.result second)
    ∙ codes_compare _ _ _ _ c.code_of_double.ensures c.code_of_double-2.ensures
    ∙ worths_compare _ _ (double_near c.args.m) (double_near c.args.n)
