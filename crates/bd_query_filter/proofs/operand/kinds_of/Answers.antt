use Rattle.std.proofs.Common.{sym, ap, subst, ◌∙◌}
use Rattle.std.proofs.lemmas.Result.{err_from_is_err_and}
use Rattle.bd_value.specs.{Tree.values_of, Tree.items_of}
use Rattle.bd_query_filter.specs.{inside.Fault.StopsAt, FilterOf.all_kinds, FilterOf.or_bad_operand}
use Rattle.bd_query_filter.proofs.FilterOfLemmas.{more_kinds, some_types}
use Rattle.bd_query_filter.proofs.operand.kinds_of.Goals as goal

pub returns-in_err-add_members : goal.returns-in_err-add_members
returns-in_err-add_members g c =
    let t = g.N.Reading.tree c.args.operand in
    let ps = g.N.Reading.remaining c.parts.result in
    let p = err_from_is_err_and c.from_residual-in_err-add_members.result c.from_residual-in_err-add_members.ensures.1 in
    let all = some_types t ps (sym c.kind.ensures ∙ c.in-Array.is) c.parts.ensures.parts (λ e. c.if-len-eq0.false (c.len.ensures ∙ e)) in
    rw (p.1, p.2) (subst (λ kinds. StopsAt c.in_err-add_members.field-0.0 (or_bad_operand kinds))
    (ap (λ ks. more_kinds ks (all_kinds (items_of (values_of ps)))) c.new-kinds.ensures.items ∙ sym all) c.in_err-add_members.ensures)

pub returns : goal.returns
returns g c =
    let t = g.N.Reading.tree c.args.operand in
    let ps = g.N.Reading.remaining c.parts.result in
    let all = some_types t ps (sym c.kind.ensures ∙ c.in-Array.is) c.parts.ensures.parts (λ e. c.if-len-eq0.false (c.len.ensures ∙ e)) in
    ap or_bad_operand (all ∙ ap (λ ks. more_kinds ks (all_kinds (items_of (values_of ps)))) (sym c.new-kinds.ensures.items)) ∙ c.in_ok-add_members.ensures
