use Rattle.std.proofs.Common.{rules, tests, ◌∙◌, ap, refl, map, List, ℕ, option_map}
use Rattle.std.proofs.{lemmas.Iterator.YieldsList-from_slice, lemmas.Iterator.Search.find_from_yields_List}
use Rattle.std.specs.{List.find, Str.bytes_eq}
use Rattle.bd_query_filter.specs.NameKind.{known_operator, query_operators}
use Rattle.bd_query_filter.proofs.FilterOfLemmas.{row_found}
use Rattle.bd_wide_query.specs.declared.role.Meaning.{Meaning}
use Rattle.bd_wide_query.proofs.NameLemmas.{found_meant}
use Rattle.bd_wide_query.proofs.role.operator.Goals as goal

pub returns : goal.returns
unfolding known_operator
returns c =
    let test = λ (row : List ℕ × Meaning). bytes_eq row.0 c.args.name.now in
    search rules
    ∙ row_found (λ row. (row.0.now, row.1)) test (λ row. row.1) c.iter.result.rest.now c.find.result
    (find_from_yields_List (λ row. bytes_eq row.0.now c.args.name.now) _ _ _ c.find.ensures.ran (YieldsList-from_slice _ refl) (λ x b q k. search (rules, tests)))
    ∙ ap (λ rows. option_map (λ row. row.1) (find test (map (λ row. (row.0.now, row.1)) rows))) c.iter.ensures.rest
    ∙ found_meant c.args.name.now query_operators
