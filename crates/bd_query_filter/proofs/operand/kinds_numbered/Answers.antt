use Rattle.std.proofs.Common.{rules, tests, ◌∙◌, ap, refl, map, List, ℕ, ℤ, option_map}
use Rattle.std.proofs.{lemmas.Iterator.YieldsList-from_slice, lemmas.Iterator.Search.find_from_yields_List}
use Rattle.std.specs.{List.find, Ordering.int_eq}
use Rattle.bd_value.specs.declared.node.Kind.{Kind}
use Rattle.bd_query_filter.specs.NameKind.{kinds_numbered}
use Rattle.bd_query_filter.proofs.FilterOfLemmas.{row_found}
use Rattle.bd_query_filter.proofs.operand.kinds_numbered.Goals as goal

pub returns : goal.returns
unfolding kinds_numbered
returns c =
    let test = λ (row : ℤ × List ℕ × List Kind). int_eq row.0 c.args.number in
    search rules
    ∙ row_found (λ row. (row.0, row.1.now, row.2.now)) test (λ row. row.2) c.iter.result.rest.now c.find.result
    (find_from_yields_List (λ row. int_eq row.0 c.args.number) _ _ _ c.find.ensures.ran (YieldsList-from_slice _ refl) (λ x b q k. search (rules, tests)))
    ∙ ap (λ rows. option_map (λ row. row.2) (find test (map (λ row. (row.0, row.1.now, row.2.now)) rows))) c.iter.ensures.rest
