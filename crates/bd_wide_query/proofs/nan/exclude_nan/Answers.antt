use Rattle.std.proofs.Common.{◌≡◌, ℤ, List, ap, ◌∙◌, rules, w32, SFits, to_z, of_z}
use Rattle.std.proofs.lemmas.Int.{to_z-of_z}
use Rattle.bd_query_filter.specs.Filter.{filter_tree}
use Rattle.bd_wide_number.specs.Value.{nan}
use Rattle.bd_wide_rank.specs.{Rank.code, Table.worths, Worth.value_worth}
use Rattle.bd_wide_query.specs.Nan.{filter_beside_nan}
use Rattle.bd_wide_query.proofs.NanLemmas.{excluded, nan_looked_up}
use Rattle.bd_wide_query.proofs.nan.exclude_nan.Goals as goal

pub codes_with_nan-requires : goal.codes_with_nan-requires
codes_with_nan-requires c =
    let fits : SFits w32 c.code-nan.result = search rules in
    to_z-of_z w32 c.code-nan.result fits ∙ c.code-nan.ensures ∙ ap (code (worths c.args.table.now)) nan_looked_up

pub returns : goal.returns
returns c =
    let fits : SFits w32 c.code-nan.result = search rules in
    let is : to_z w32 (of_z w32 c.code-nan.result) ≡ code (worths c.args.table.now) (value_worth nan) =
    to_z-of_z w32 c.code-nan.result fits ∙ c.code-nan.ensures ∙ ap (code (worths c.args.table.now)) nan_looked_up in
    λ f e. excluded c.args.table.now c.in_ok-codes.codes.items (to_z w32 (of_z w32 c.code-nan.result)) is c.in_ok-codes.ensures f (filter_tree c.args.filter) (filter_tree c.exclude_in_filter.new.filter)
    (c.in_ok-exclude_in_filter.ensures ∙ ap (λ (cs : List ℤ). filter_beside_nan cs (to_z w32 (of_z w32 c.code-nan.result)) (filter_tree c.args.filter)) c.deref.ensures.value) e
