use Rattle.std.proofs.Common.{arith, sym, ap, ◌∙◌}
use Rattle.std.specs.Prelude.{is_some}
use Rattle.bd_value.specs.{View.node_parts, View.pairs}
use Rattle.bd_cursor_request.specs.Request.{are_distinct, pair_names, sort_pairs}
use Rattle.bd_cursor_request.proofs.RequestLemmas.{a_name_twice, few_and_distinct, parts_are}
use Rattle.bd_cursor_request.proofs.request.is_sort.Goals as goal

pub returns-then-not-are_distinct : goal.returns-then-not-are_distinct
returns-then-not-are_distinct c =
    let d = pairs c.args.document.now in
    let same = parts_are d (node_parts c.parts-pairs.result) c.parts-pairs.ensures.parts in
    sym (ap is_some (a_name_twice d (ap (λ ps. are_distinct (pair_names ps)) (sym same) ∙ sym c.are_distinct.ensures ∙ c.if-not-are_distinct.true)))

pub returns : goal.returns
returns c =
    let d = pairs c.args.document.now in
    let same = parts_are d (node_parts c.parts-pairs.result) c.parts-pairs.ensures.parts in
    let distinct = ap (λ ps. are_distinct (pair_names ps)) (sym same) ∙ sym c.are_distinct.ensures ∙ c.if-not-are_distinct.false in
    let all = few_and_distinct d (omega (arith, c.len.ensures, c.if-len-gt-MOST.false)) distinct ∙ ap sort_pairs (sym same) in
    c.are_sort_pairs.ensures ∙ sym (ap is_some all)
