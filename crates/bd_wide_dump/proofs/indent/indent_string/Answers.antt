use Rattle.std.proofs.Common.{◌≡◌, ◌+◌, ◌++◌, List, [], ℕ, length, take, drop, subst, ◌∙◌, ap, arith}
use Rattle.bd_extjson_text.specs.Text.{text}
use Rattle.bd_extjson_text.proofs.BufferLemmas.{failed, lent, prefix}
use Rattle.bd_bson_view.specs.Raw.{value_tree}
use Rattle.bd_wide_dump.proofs.IndentLemmas.{over_fits, wrapped_done}
use Rattle.bd_wide_dump.proofs.indent.indent_string.Goals as goal

pub returns-in_err-to : goal.returns-in_err-to
returns-in_err-to c =
    failed _ _ _ _ c.from_residual-in_err-to.result c.from_residual-in_err-to.ensures.0
    (prefix c.args.end c.in_ok-at.at c.args.out.now.items _ c.append_node.new.out.items (omega arith) (c.in_err-to.ensures ∙ c.in_ok-at.ensures.text.0))

pub put_over-requires : goal.put_over-requires
put_over-requires c =
    let w = c.requires.wrapper in
    let put = c.in_ok-to.ensures in
    let fits = over_fits w.0 w.1 (text (value_tree c.args.node)) c.args.lead.now c.append_opening.new.out.items c.append_node.new.out.items [] c.in_ok-at.at c.in_ok-to.to c.in_ok-at.ensures.text.1 w.2 w.3 put.0 put.1 in
    omega (arith, fits, put.1, ap (λ (x : List ℕ). length x) c.as_mut_slice.ensures.value)

pub append_closing-requires : goal.append_closing-requires
append_closing-requires c =
    let put = c.in_ok-to.ensures in
    let old = c.append_node.new.out in
    let buffer = c.put_over.new.buffer in
    let same : length buffer ≡ length old.items = omega (arith, c.put_over.auto.buffer, c.as_mut_slice.ensures.len, old.ok.0) in
    rw (lent old.len buffer old.items same old.ok.0) (omega (arith, same, put.1))

pub returns : goal.returns
returns c =
    let w = c.requires.wrapper in
    let put = c.in_ok-to.ensures in
    let old = c.append_node.new.out in
    let buffer = c.put_over.new.buffer in
    let same : length buffer ≡ length old.items = omega (arith, c.put_over.auto.buffer, c.as_mut_slice.ensures.len, old.ok.0) in
    let lead = c.args.lead.now in
    let at : ℕ = c.in_ok-at.at in
    let P : List ℕ → Type 0 = λ x. buffer ≡ take at x ++ (lead ++ drop (at + length lead) x) in
    let over = lent old.len buffer old.items same old.ok.0 ∙ subst P c.as_mut_slice.ensures.value c.put_over.ensures in
    wrapped_done w.0 w.1 (text (value_tree c.args.node)) lead c.append_opening.new.out.items old.items _ at c.in_ok-to.to c.in_ok-at.ensures.text.1 w.2 w.3 put.0 put.1 over
    c.args.level c.args.out.now.items c.append_closing.new.out.items c.args.end c.append_closing.result (omega arith) c.in_ok-at.ensures.text.0 c.append_closing.ensures
