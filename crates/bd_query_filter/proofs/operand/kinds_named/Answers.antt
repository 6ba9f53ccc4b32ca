use Rattle.std.proofs.Common.{rules, tests, ◌∙◌, ap, refl, map, List, [], ◌∷◌, ℕ, ℤ, Some, option_map, codes}
use Rattle.std.proofs.lemmas.Iterator.{YieldsList-from_slice}
use Rattle.std.proofs.lemmas.Iterator.Search.{find_from_yields_List}
use Rattle.std.specs.{List.find, Str.bytes_eq}
use Rattle.bd_value.specs.declared.node.Kind.{Kind}
use Rattle.bd_value.specs.declared.node.Kind.TheVariants as kinds
use Rattle.bd_query_filter.specs.NameKind.{kinds_named, query_types}
use Rattle.bd_query_filter.proofs.FilterOfLemmas.{else_is, row_found}
use Rattle.bd_query_filter.proofs.operand.kinds_named.Goals as goal

pub returns : goal.returns
unfolding kinds_named
returns c =
    let test = λ (row : ℤ × List ℕ × List Kind). bytes_eq row.1 c.args.name.now in
    search rules
    ∙ row_found (λ row. (row.0, row.1.now, row.2.now)) test (λ row. row.2) c.iter.result.rest.now c.find.result
    (find_from_yields_List (λ row. bytes_eq row.1.now c.args.name.now) _ _ _ c.find.ensures.ran (YieldsList-from_slice _ refl) (λ x b q k. search (rules, tests)))
    ∙ ap (λ rows. option_map (λ row. row.2) (find test (map (λ row. (row.0, row.1.now, row.2.now)) rows))) c.iter.ensures.rest
    ∙ else_is (bytes_eq c.args.name.now (codes "number")) (Some (kinds.Int32 ∷ kinds.Int64 ∷ [])) (option_map (λ row. row.2) (find test query_types)) (search rules)
