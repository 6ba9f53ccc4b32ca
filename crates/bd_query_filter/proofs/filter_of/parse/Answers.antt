use Rattle.std.proofs.Common.{◌-◌, Ok, sym, ap, ◌∙◌, inl, inr}
use Rattle.bd_value.specs.{Limits.most_filter_levels, View.node_parts, Tree.fields_of, View.pairs}
use Rattle.bd_query_filter.specs.{Fault.refusal_of, Filter.all_of, Filter.filters_from, FilterOf.filter_of, FilterOf.filters_of, FilterOf.read_as}
use Rattle.bd_query_filter.proofs.{FilterBadLemmas.bad_where_refused, FilterOfLemmas.filter_tree-And, FilterOfLemmas.refused_for, FilterOfLemmas.whole_is}
use Rattle.bd_query_filter.proofs.filter_of.parse.Goals as goal

pub returns-in-Ok-clause-filter : goal.returns-in-Ok-clause-filter
returns-in-Ok-clause-filter c =
    whole_is (pairs c.args.document.now) (node_parts c.parts.result) c.parts.ensures.parts
    ∙ ap (read_as (λ xs. all_of (filters_from xs))) c.in-Ok.ensures ∙ ap (λ x. Ok x) (sym (filter_tree-And c.in-Ok.filters))

pub returns-in-Err-Fault-clause-fault : goal.returns-in-Err-Fault-clause-fault
returns-in-Err-Fault-clause-fault c =
    let d = pairs c.args.document.now in
    let ps = node_parts c.parts.result in
    inr (refused_for (λ xs. all_of (filters_from xs)) (filters_of (most_filter_levels - 1) (fields_of ps)) (filter_of d) c.in-Err-Fault.field-0 c.in-Err-Fault.fault
    (whole_is d ps c.parts.ensures.parts) c.in-Err-Fault.ensures c.in-Err-Fault.field-0-is)

pub returns-in-Err-Fault-clause-bad : goal.returns-in-Err-Fault-clause-bad
returns-in-Err-Fault-clause-bad c =
    let d = pairs c.args.document.now in
    elim (returns-in-Err-Fault-clause-fault c) [ inl out_of_memory ↦ inl out_of_memory | inr fact ↦ inr (bad_where_refused d (refusal_of c.in-Err-Fault.fault) fact) ]
