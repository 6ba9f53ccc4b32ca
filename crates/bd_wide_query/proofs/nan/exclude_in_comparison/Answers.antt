use Rattle.std.proofs.Common.{◌≡◌, true, map, rules, sym, ◌∙◌}
use Rattle.std.specs.List as lists
use Rattle.bd_value.specs.declared.document.Value.TheVariants as values
use Rattle.bd_query_filter.specs.Filter.{operator_tree}
use Rattle.bd_wide_query.specs.Nan.{is_beside_nan, relates_beside_nan}
use Rattle.bd_wide_query.proofs.ExcludeLemmas.{made_in}
use Rattle.bd_wide_query.proofs.nan.exclude_in_comparison.Goals as goal

pub returns-in_ok-new : goal.returns-in_ok-new
returns-in_ok-new c =
    let codes = c.args.codes.now in
    let nan = c.args.nan in
    let r = c.in-Some.relation in
    let n = c.in-Some.number in
    let beside : is_beside_nan c.args.codes.now c.args.nan c.in-Some.relation c.in-Some.number ≡ true = search rules in
    let related : c.in_ok-values.values.items ≡ map (λ k. values.Int64 k) (lists.filter (λ k. relates_beside_nan c.args.nan c.in-Some.relation k c.in-Some.number) c.args.codes.now) = search rules in
    made_in c.in_ok-new.field-0 c.in_ok-values.values.items codes nan (operator_tree c.args.operator.now) r n (sym c.in-Some.ensures) beside c.in_ok-new.ensures related
