use Rattle.std.proofs.Common.{◌≡◌, map, length, length-append, [], ◌∷◌, Ok, sym, ap, subst, ◌∙◌, ◌+◌, ◌-◌, decimal, true, false}
use Rattle.std.proofs.lemmas.Result.{err_from_is_err_and}
use Rattle.bd_value.specs.{Tree.values_of, Tree.fields_of, Tree.items_of}
use Rattle.bd_path.specs.Path.{path_of}
use Rattle.bd_query_filter.specs.{inside.Fault.ReadsPart, NameKind.name_kind_of}
use Rattle.bd_query_filter.specs.Filter.{all_of, filters_from, has_document, has_element, negates, operators_from, filter_tree, operator_tree}
use Rattle.bd_query_filter.specs.FilterOf.{element_operator, filters_of, member_filter, member_filters, not_operator, operand_filters, operator_of, operators_of, pair_filter}
use Rattle.bd_query_filter.specs.FilterOf.{path_operators, read_as, read_at}
use Rattle.bd_query_filter.proofs.FilterOfLemmas.{all_read, element_is, joined, member_is, negation_is, none_read, one_read, operand_is, operators_are, refused, stops_as}
use Rattle.bd_query_filter.proofs.FilterOfLemmas.{filter_tree-And, operator_tree-ElemMatch, operator_tree-ElemMatchDocument, operator_tree-Not}
use Rattle.bd_query_filter.proofs.filter_of.+parse.Goals as goal

pub read_elem_match-returns-in_err-operators : goal.read_elem_match-returns-in_err-operators
read_elem_match-returns-in_err-operators g t c =
    let n = g.N.Reading.tree c.args.operand in
    let ps = g.N.Reading.remaining c.parts-parts.result in
    let p = err_from_is_err_and c.from_residual.result c.from_residual.ensures.1 in
    rw (p.1, p.2) (stops_as (λ xs. has_element (operators_from xs)) (operators_of (c.args.depth_left - 1) (fields_of ps)) (element_operator c.args.depth_left n) c.in_err-operators.field-0.0
    (element_is c.args.depth_left n ps true (sym c.kind.ensures ∙ c.in-Doc.is) c.parts-parts.ensures.parts (sym c.is_value_form.ensures
    ∙ c.if-is_value_form.true) c.if-depth_left-eq0.false) c.in_err-operators.ensures)

pub read_elem_match-returns-then-is_value_form : goal.read_elem_match-returns-then-is_value_form
read_elem_match-returns-then-is_value_form g t c =
    let n = g.N.Reading.tree c.args.operand in
    let ps = g.N.Reading.remaining c.parts-parts.result in
    element_is c.args.depth_left n ps true (sym c.kind.ensures ∙ c.in-Doc.is) c.parts-parts.ensures.parts (sym c.is_value_form.ensures ∙ c.if-is_value_form.true) c.if-depth_left-eq0.false
    ∙ ap (read_as (λ xs. has_element (operators_from xs))) c.in_ok-operators.ensures ∙ ap (λ x. Ok x) (sym (operator_tree-ElemMatch c.in_ok-operators.operators))

pub read_elem_match-returns-in_err-filters : goal.read_elem_match-returns-in_err-filters
read_elem_match-returns-in_err-filters g t c =
    let n = g.N.Reading.tree c.args.operand in
    let ps = g.N.Reading.remaining c.parts-parts.result in
    let p = err_from_is_err_and c.from_residual-in_err-filters.result c.from_residual-in_err-filters.ensures.1 in
    rw (p.1, p.2) (stops_as (λ xs. has_document (filters_from xs)) (filters_of (c.args.depth_left - 1) (fields_of ps)) (element_operator c.args.depth_left n) c.in_err-filters.field-0.0
    (element_is c.args.depth_left n ps false (sym c.kind.ensures ∙ c.in-Doc.is) c.parts-parts.ensures.parts (sym c.is_value_form.ensures
    ∙ c.if-is_value_form.false) c.if-depth_left-eq0.false) c.in_err-filters.ensures)

pub read_elem_match-returns : goal.read_elem_match-returns
read_elem_match-returns g t c =
    let n = g.N.Reading.tree c.args.operand in
    let ps = g.N.Reading.remaining c.parts-parts.result in
    element_is c.args.depth_left n ps false (sym c.kind.ensures ∙ c.in-Doc.is) c.parts-parts.ensures.parts (sym c.is_value_form.ensures ∙ c.if-is_value_form.false) c.if-depth_left-eq0.false
    ∙ ap (read_as (λ xs. has_document (filters_from xs))) c.in_ok-filters.ensures ∙ ap (λ x. Ok x) (sym (operator_tree-ElemMatchDocument c.in_ok-filters.filters))

pub read_filters-returns-in-Err : goal.read_filters-returns-in-Err
read_filters-returns-in-Err g t c =
    let name = c.in-Some.next.0.now in
    let value = g.N.Reading.tree c.in-Some.next.1 in
    refused (map filter_tree c.loop-next.filters.items) name (pair_filter (name_kind_of name) (path_of name) (operand_filters c.args.depth_left value) (path_operators c.args.depth_left value)) _ _ _
    c.in-Err.stop c.under.result (ap (λ ps. filters_of c.args.depth_left (fields_of ps)) c.in-Some.ensures.some) c.loop-next.invariant c.under.ensures c.in-Err.ensures

pub read_member-returns-in_err-filters : goal.read_member-returns-in_err-filters
read_member-returns-in_err-filters g t c =
    let n = g.N.Reading.tree c.args.member in
    let ps = g.N.Reading.remaining c.parts.result in
    let p = err_from_is_err_and c.from_residual.result c.from_residual.ensures.1 in
    rw (p.1, p.2) (stops_as (λ xs. all_of (filters_from xs)) (filters_of (c.args.depth_left - 1) (fields_of ps)) (member_filter c.args.depth_left n) c.in_err-filters.field-0.0
    (member_is c.args.depth_left n ps (sym c.kind.ensures ∙ c.in-Doc.is) c.parts.ensures.parts c.if-depth_left-eq0.false) c.in_err-filters.ensures)

pub read_member-returns : goal.read_member-returns
read_member-returns g t c =
    let n = g.N.Reading.tree c.args.member in
    let ps = g.N.Reading.remaining c.parts.result in
    member_is c.args.depth_left n ps (sym c.kind.ensures ∙ c.in-Doc.is) c.parts.ensures.parts c.if-depth_left-eq0.false
    ∙ ap (read_as (λ xs. all_of (filters_from xs))) c.in_ok-filters.ensures ∙ ap (λ x. Ok x) (sym (filter_tree-And c.in_ok-filters.filters))

pub read_members-returns-in-Err : goal.read_members-returns-in-Err
read_members-returns-in-Err g t c =
    let i = length c.loop-next.filters.items in
    let part = member_filter c.args.depth_left (g.N.Reading.tree c.in-Some.next.1) in
    let rest = member_filters c.args.depth_left (i + 1) (items_of (values_of (g.N.Reading.remaining c.in-Some.next.2))) in
    refused (map filter_tree c.loop-next.filters.items) (decimal c.len.result) part _ rest _ c.in-Err.stop c.under_index.result
    (ap (λ ps. member_filters c.args.depth_left i (items_of (values_of ps))) c.in-Some.ensures.some ∙ ap (λ n. read_at (decimal n) part rest) (sym (c.len.ensures ∙ c.loop-next.filters.ok.0)))
    c.loop-next.invariant c.under_index.ensures c.in-Err.ensures

pub read_not-returns-in_err-operators : goal.read_not-returns-in_err-operators
read_not-returns-in_err-operators g t c =
    let n = g.N.Reading.tree c.args.operand in
    let ps = g.N.Reading.remaining c.parts.result in
    let p = err_from_is_err_and c.from_residual.result c.from_residual.ensures.1 in
    rw (p.1, p.2) (stops_as (λ xs. negates (operators_from xs)) (operators_of (c.args.depth_left - 1) (fields_of ps)) (not_operator c.args.depth_left n) c.in_err-operators.field-0.0
    (negation_is c.args.depth_left n ps (sym c.has_operators.ensures ∙ c.if-has_operators.true) c.parts.ensures.parts c.if-depth_left-eq0.false) c.in_err-operators.ensures)

pub read_not-returns-then-has_operators : goal.read_not-returns-then-has_operators
read_not-returns-then-has_operators g t c =
    let n = g.N.Reading.tree c.args.operand in
    let ps = g.N.Reading.remaining c.parts.result in
    negation_is c.args.depth_left n ps (sym c.has_operators.ensures ∙ c.if-has_operators.true) c.parts.ensures.parts c.if-depth_left-eq0.false
    ∙ ap (read_as (λ xs. negates (operators_from xs))) c.in_ok-operators.ensures ∙ ap (λ x. Ok x) (sym (operator_tree-Not c.in_ok-operators.operators))

pub read_operand-returns : goal.read_operand-returns
read_operand-returns g t c =
    let n = g.N.Reading.tree c.args.operand in
    let ps = g.N.Reading.remaining c.parts.result in
    subst (λ part. ReadsPart (λ fs. map filter_tree fs.items) c.read_members.result part)
    (sym (operand_is c.args.depth_left n ps (sym c.kind.ensures ∙ c.in-Array.is) c.parts.ensures.parts (λ e. c.if-len-eq0.false (c.len.ensures ∙ e)))) c.read_members.ensures

pub read_operators-returns-in-Err : goal.read_operators-returns-in-Err
read_operators-returns-in-Err g t c =
    let value = g.N.Reading.tree c.in-Some.next.1 in
    let part = operator_of (name_kind_of c.in-Some.next.0.now) value (not_operator c.args.depth_left value) (element_operator c.args.depth_left value) in
    refused (map operator_tree c.loop-next.operators.items) c.in-Some.next.0.now part _ _ _ c.in-Err.stop c.under.result
    (ap (λ ps. operators_of c.args.depth_left (fields_of ps)) c.in-Some.ensures.some) c.loop-next.invariant c.under.ensures c.in-Err.ensures

pub read_value-returns-then-has_operators : goal.read_value-returns-then-has_operators
read_value-returns-then-has_operators g t c =
    subst (λ part. ReadsPart (λ os. map operator_tree os.items) c.read_operators.result part)
    (sym (operators_are c.args.depth_left (g.N.Reading.tree c.args.value) (g.N.Reading.remaining c.parts.result) (sym c.has_operators.ensures
    ∙ c.if-has_operators.true) c.parts.ensures.parts)) c.read_operators.ensures

pub read_filters-loop-next-init : goal.read_filters-loop-next-init
read_filters-loop-next-init g t c = none_read filter_tree c.new-filters.result.items _ c.new-filters.ensures.items

pub read_filters-loop-next-preserved : goal.read_filters-loop-next-preserved
read_filters-loop-next-preserved g t c =
    let name = c.in-Some.next.0.now in
    let value = g.N.Reading.tree c.in-Some.next.1 in
    one_read filter_tree c.loop-next.filters.items c.push.new.self.items c.in-Ok.filter name
    (pair_filter (name_kind_of name) (path_of name) (operand_filters c.args.depth_left value) (path_operators c.args.depth_left value)) _ _ _
    c.in_ok-push-in-Ok.ensures.items c.in-Ok.ensures (ap (λ ps. filters_of c.args.depth_left (fields_of ps)) c.in-Some.ensures.some) c.loop-next.invariant

pub read_filters-returns : goal.read_filters-returns
read_filters-returns g t c =
    all_read (map filter_tree c.loop-next.filters.items) (filters_of c.args.depth_left (fields_of (g.N.Reading.remaining c.loop-next.remaining))) _ c.loop-next.invariant
    (ap (λ ps. filters_of c.args.depth_left (fields_of ps)) c.in_default.ensures.none)

pub read_operators-loop-next-init : goal.read_operators-loop-next-init
read_operators-loop-next-init g t c = none_read operator_tree c.new-operators.result.items _ c.new-operators.ensures.items

pub read_operators-loop-next-preserved : goal.read_operators-loop-next-preserved
read_operators-loop-next-preserved g t c =
    let value = g.N.Reading.tree c.in-Some.next.1 in
    let part = operator_of (name_kind_of c.in-Some.next.0.now) value (not_operator c.args.depth_left value) (element_operator c.args.depth_left value) in
    one_read operator_tree c.loop-next.operators.items c.push.new.self.items c.in-Ok.operator c.in-Some.next.0.now part _ _ _
    c.in_ok-push-in-Ok.ensures.items c.in-Ok.ensures (ap (λ ps. operators_of c.args.depth_left (fields_of ps)) c.in-Some.ensures.some) c.loop-next.invariant

pub read_operators-returns : goal.read_operators-returns
read_operators-returns g t c =
    all_read (map operator_tree c.loop-next.operators.items) (operators_of c.args.depth_left (fields_of (g.N.Reading.remaining c.loop-next.remaining))) _ c.loop-next.invariant
    (ap (λ ps. operators_of c.args.depth_left (fields_of ps)) c.in_default.ensures.none)

pub read_members-loop-next-init : goal.read_members-loop-next-init
read_members-loop-next-init g t c =
    ap (λ n. joined (map filter_tree c.new-filters.result.items) (member_filters c.args.depth_left n
    (items_of (values_of (g.N.Reading.remaining c.args.members))))) (ap (λ xs. length xs) c.new-filters.ensures.items)
    ∙ none_read filter_tree c.new-filters.result.items _ c.new-filters.ensures.items

pub read_members-loop-next-preserved : goal.read_members-loop-next-preserved
read_members-loop-next-preserved g t c =
    let old = c.loop-next.filters.items in
    let i = length old in
    let part = member_filter c.args.depth_left (g.N.Reading.tree c.in-Some.next.1) in
    let rest = items_of (values_of (g.N.Reading.remaining c.in-Some.next.2)) in
    let pushed = c.in_ok-push-in-Ok.ensures.items in
    let longer : length c.push.new.self.items ≡ i + 1 = ap (λ xs. length xs) pushed ∙ length-append old (c.in-Ok.filter ∷ []) in
    ap (λ n. joined (map filter_tree c.push.new.self.items) (member_filters c.args.depth_left n rest)) longer
    ∙ one_read filter_tree old c.push.new.self.items c.in-Ok.filter (decimal i) part _ (member_filters c.args.depth_left (i + 1) rest) _ pushed c.in-Ok.ensures
    (ap (λ ps. member_filters c.args.depth_left i (items_of (values_of ps))) c.in-Some.ensures.some) c.loop-next.invariant

pub read_members-returns : goal.read_members-returns
read_members-returns g t c =
    let i = length c.loop-next.filters.items in
    all_read (map filter_tree c.loop-next.filters.items) (member_filters c.args.depth_left i (items_of (values_of (g.N.Reading.remaining c.loop-next.remaining)))) _ c.loop-next.invariant
    (ap (λ ps. member_filters c.args.depth_left i (items_of (values_of ps))) c.in_default.ensures.none)
