use Rattle.std.proofs.Common.{rules, ap, Some, option_map, ◌++◌, ◌∷◌, [], arith, take, sym, ◌∙◌}
use Rattle.std.specs.List.{join_with_byte}
use Rattle.bd_value.specs.View.{view_of}
use Rattle.bd_value.specs.Tree.{doc, array, text as string, fields_of, items_of, values_of}
use Rattle.bd_extjson_text.specs.Text.{text, scalar_text, fields_text, items_text}
use Rattle.bd_extjson_text.proofs.TextLemmas.{parts_smaller, rest_smaller, scope_smaller, some_scalar, text_of_scalar, text_of-doc, text_of-array, text_of-scope}
use Rattle.bd_extjson_text.proofs.TextLemmas.{to_come-all, field_step, item_step}
use Rattle.bd_extjson_text.proofs.BufferLemmas.{opened, splits, prefix, chained, goes_on, still_unchanged, failed, then, last}
use Rattle.bd_extjson_text.proofs.text.+text.Goals as goal

pub append_fields-loop-name-init : goal.append_fields-loop-name-init
append_fields-loop-name-init g t c =
    let put = c.put_byte_in-at.ensures in
    let fields = fields_text (fields_of (g.N.Reading.remaining c.args.fields)) in
    let start = opened c.args.end c.put_byte_in-at.result 123 c.args.out.now.items c.put_byte_in-at.new.out.items (join_with_byte 44 fields ++ 125 ∷ []) (omega arith) put.appended put.end put.size in
    record { whole = rw (to_come-all 44 fields) start.0; unchanged = start.1; inside = start.2; after = start.3; fewer = omega arith }

pub append_fields-returns-in_err-at : goal.append_fields-returns-in_err-at
append_fields-returns-in_err-at g t c =
    failed _ _ _ _ c.from_residual.result c.from_residual.ensures.0 (splits c.args.end c.loop-name.at _ _ c.loop-name.invariant.after c.in_err-at.ensures.text ∙ c.loop-name.invariant.unchanged)

pub append_fields-returns-in_err-at-2 : goal.append_fields-returns-in_err-at-2
append_fields-returns-in_err-at-2 g t c =
    let l = c.loop-name in
    let i = l.invariant in
    let named = c.in_ok-at.ensures.text.0 in
    failed _ _ _ _ c.from_residual-in_err-at-2.result c.from_residual-in_err-at-2.ensures.0
    (still_unchanged c.args.end l.at c.args.out.now.items l.out.items i.after i.inside i.unchanged c.in_ok-at.at c.append_name.new.out.items
    c.append_node.new.out.items _ named c.in_err-at-2.ensures)

pub append_fields-loop-name-preserved : goal.append_fields-loop-name-preserved
append_fields-loop-name-preserved g t c =
    let l = c.loop-name in
    let i = l.invariant in
    let old = c.args.out.now.items in
    let named = c.in_ok-at.ensures.text.0 in
    let written = c.in_ok-at-2.ensures.0 in
    let on = goes_on c.args.end l.at old l.out.items i.after i.inside i.unchanged c.in_ok-at.at c.in_ok-at-2.at c.append_name.new.out.items
    c.append_node.new.out.items _ _ named written in
    let less = rest_smaller _ _ _ _ c.in-Some.ensures.some in
    record {
      whole = field_step l.later _ _ _ _ (take l.at l.out.items) _ _ (125 ∷ []) (take c.args.end old ++ text (doc (fields_of (g.N.Reading.remaining c.args.fields)))) named written (search rules) i.whole;
      unchanged = on.0;
      inside = c.in_ok-at-2.ensures.1;
      after = on.1;
      fewer = grind (arith, less, i.fewer);
    }

pub append_fields-returns : goal.append_fields-returns
append_fields-returns g t c =
    let i = c.loop-name.invariant in
    last c.args.end c.loop-name.at c.args.out.now.items c.loop-name.out.items c.append_few.new.out.items _ (text (doc (fields_of (g.N.Reading.remaining c.args.fields)))) c.append_few.result i.after i.unchanged
    (search rules) c.append_few.ensures.text

pub append_items-loop-node-init : goal.append_items-loop-node-init
append_items-loop-node-init g t c =
    let put = c.put_byte_in-at.ensures in
    let items = items_text (items_of (values_of (g.N.Reading.remaining c.args.items))) in
    let start = opened c.args.end c.put_byte_in-at.result 91 c.args.out.now.items c.put_byte_in-at.new.out.items (join_with_byte 44 items ++ 93 ∷ []) (omega arith) put.appended put.end put.size in
    record { whole = rw (to_come-all 44 items) start.0; unchanged = start.1; inside = start.2; after = start.3; fewer = omega arith }

pub append_items-returns-in_err-at : goal.append_items-returns-in_err-at
append_items-returns-in_err-at g t c =
    failed _ _ _ _ c.from_residual.result c.from_residual.ensures.0 (splits c.args.end c.loop-node.at _ _ c.loop-node.invariant.after c.in_err-at.ensures.text ∙ c.loop-node.invariant.unchanged)

pub append_items-returns-in_err-at-2 : goal.append_items-returns-in_err-at-2
append_items-returns-in_err-at-2 g t c =
    let l = c.loop-node in
    let i = l.invariant in
    failed _ _ _ _ c.from_residual-in_err-at-2.result c.from_residual-in_err-at-2.ensures.0
    (still_unchanged c.args.end l.at c.args.out.now.items l.out.items i.after i.inside i.unchanged c.in_ok-at.at c.append_separator.new.out.items
    c.append_node.new.out.items _ c.in_ok-at.ensures.text.0 c.in_err-at-2.ensures)

pub append_items-loop-node-preserved : goal.append_items-loop-node-preserved
append_items-loop-node-preserved g t c =
    let l = c.loop-node in
    let i = l.invariant in
    let old = c.args.out.now.items in
    let separated = c.in_ok-at.ensures.text.0 in
    let written = c.in_ok-at-2.ensures.0 in
    let on = goes_on c.args.end l.at old l.out.items i.after i.inside i.unchanged c.in_ok-at.at c.in_ok-at-2.at c.append_separator.new.out.items c.append_node.new.out.items _ _ separated written in
    let less = rest_smaller _ _ _ _ c.in-Some.ensures.some in
    record {
      whole = item_step l.later _ _ _ (take l.at l.out.items) _ _ (93 ∷ [])
          (take c.args.end old ++ text (array (items_of (values_of (g.N.Reading.remaining c.args.items))))) separated written (search rules) i.whole;
      unchanged = on.0;
      inside = c.in_ok-at-2.ensures.1;
      after = on.1;
      fewer = grind (arith, less, i.fewer);
    }

pub append_items-returns : goal.append_items-returns
append_items-returns g t c =
    let i = c.loop-node.invariant in
    last c.args.end c.loop-node.at c.args.out.now.items c.loop-node.out.items c.append_few.new.out.items _
    (text (array (items_of (values_of (g.N.Reading.remaining c.args.items))))) c.append_few.result i.after i.unchanged
    (search rules) c.append_few.ensures.text

pub append_long-append_fields-requires : goal.append_long-append_fields-requires
append_long-append_fields-requires g t c κs within =
    let s = parts_smaller (g.N.Reading.tree c.args.node) (g.N.Reading.remaining c.parts.result) c.parts.ensures.parts in
    let e = c.decreases in
    (omega arith, (within.0, (within.1, omega arith)))

pub append_long-append_items-requires : goal.append_long-append_items-requires
append_long-append_items-requires g t c κs within =
    let s = parts_smaller (g.N.Reading.tree c.args.node) (g.N.Reading.remaining c.parts-in-Array.result) c.parts-in-Array.ensures.parts in
    let e = c.decreases in
    (omega arith, (within.0, (within.1, omega arith)))

pub append_long-append_scalar-requires-clause-scalar : goal.append_long-append_scalar-requires-clause-scalar
append_long-append_scalar-requires-clause-scalar g t c =
    let k = c.kind.ensures in
    some_scalar (g.N.Reading.tree c.args.node) (λ e. c.in_default.not-Doc (k ∙ e)) (λ e. c.in_default.not-Array (k ∙ e)) (λ e. c.in_default.not-CodeScope (k ∙ e))

pub append_long-returns-in-Doc : goal.append_long-returns-in-Doc
append_long-returns-in-Doc g t c =
    let e = text_of-doc (g.N.Reading.tree c.args.node) (g.N.Reading.remaining c.parts.result) (sym c.kind.ensures ∙ c.in-Doc.is) c.parts.ensures.parts in
    rw (← e) c.append_fields.ensures

pub append_long-returns-in-Array : goal.append_long-returns-in-Array
append_long-returns-in-Array g t c =
    let e = text_of-array (g.N.Reading.tree c.args.node) (g.N.Reading.remaining c.parts-in-Array.result) (sym c.kind.ensures ∙ c.in-Array.is) c.parts-in-Array.ensures.parts in
    rw (← e) c.append_items.ensures

pub append_node-returns-in-Some-Text : goal.append_node-returns-in-Some-Text
unfolding scalar_text
append_node-returns-in-Some-Text g t c =
    let i = c.in-Some-Text in
    rw (text_of_scalar (g.N.Reading.tree c.args.node) (string i.text.now) (ap (option_map view_of) (sym (i.is ∙ ap Some i.field-0-is)) ∙ c.leaf.ensures)) c.append_string.ensures

pub append_scope-append_node-requires : goal.append_scope-append_node-requires
append_scope-append_node-requires g t c κs within =
    let s = scope_smaller (g.N.Reading.tree c.args.node) (g.N.Reading.tree c.in-Some.scope) (ap (option_map g.N.Reading.tree) (sym c.in-Some.is) ∙ c.scope.ensures.scope) in
    let e = c.decreases in
    (omega arith, (within.0, (within.1, c.in_ok-at-2.ensures.capacity)))

pub append_scope-returns-in_err-at-2 : goal.append_scope-returns-in_err-at-2
append_scope-returns-in_err-at-2 g t c =
    failed _ _ _ _ c.from_residual-in_err-at-2.result c.from_residual-in_err-at-2.ensures.0
    (prefix c.args.end c.in_ok-at.at c.args.out.now.items _ c.append_few.new.out.items (omega arith) (c.in_err-at-2.ensures.text ∙ c.in_ok-at.ensures.0))

pub append_scope-returns-in_err-at-3 : goal.append_scope-returns-in_err-at-3
append_scope-returns-in_err-at-3 g t c =
    let two = chained c.args.end c.in_ok-at.at c.in_ok-at-2.at c.args.out.now.items _ _ _ _ c.in_ok-at.ensures.0 c.in_ok-at-2.ensures.text.0 in
    failed _ _ _ _ c.from_residual-in_err-at-3.result c.from_residual-in_err-at-3.ensures.0
    (prefix c.args.end c.in_ok-at-2.at c.args.out.now.items _ c.append_node.new.out.items (omega arith) (c.in_err-at-3.ensures ∙ two))

pub append_scope-returns : goal.append_scope-returns
append_scope-returns g t c =
    let whole = text_of-scope _ (g.N.Reading.tree c.args.node) (g.N.Reading.tree c.in-Some.scope)
    (ap (option_map view_of) (sym (c.in-Some-CodeScope.is ∙ ap Some c.in-Some-CodeScope.field-0-is)) ∙ c.leaf.ensures) (ap (option_map g.N.Reading.tree) (sym c.in-Some.is) ∙ c.scope.ensures.scope) in
    let two = chained c.args.end c.in_ok-at.at c.in_ok-at-2.at c.args.out.now.items _ _ _ _ c.in_ok-at.ensures.0 c.in_ok-at-2.ensures.text.0 in
    let all = chained c.args.end c.in_ok-at-2.at c.in_ok-at-3.at c.args.out.now.items _ _ _ _ two c.in_ok-at-3.ensures.0 in
    rw (← whole) (then c.args.end c.in_ok-at-3.at c.args.out.now.items _ c.append_few-2.new.out.items _ _ c.append_few-2.result (omega arith) all c.append_few-2.ensures.text)
