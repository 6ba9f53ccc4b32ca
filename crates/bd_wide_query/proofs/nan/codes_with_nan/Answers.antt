use Rattle.std.proofs.Common.{arith, inr, subst}
use Rattle.std.specs.Prelude.{ℤ, pos, ◌≤ℤ◌}
use Rattle.std.proofs.lemmas.Int.{ints}
use Rattle.bd_wide_number.specs.Value.{nan}
use Rattle.bd_wide_rank.specs.{Table.worths, Worth.value_worth}
use Rattle.bd_wide_query.proofs.NanLemmas.{not_found}
use Rattle.bd_wide_query.proofs.nan.codes_with_nan.Goals as goal

pub returns-else-nan-gt0 : goal.returns-else-nan-gt0
returns-else-nan-gt0 c =
    let low : c.args.nan ≤ℤ pos 0 = omega (arith, ints) in
    inr (c.new.ensures.items, not_found (worths c.args.table.now) (value_worth nan) (subst (λ (x : ℤ). x ≤ℤ pos 0) c.requires low))
