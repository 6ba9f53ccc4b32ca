use Rattle.std.proofs.Common.{◌++◌, List, ℕ, take, ap, sym, subst, ◌∙◌, arith}
use Rattle.bd_extjson_text.specs.Text.{text}
use Rattle.bd_extjson_text.proofs.BufferLemmas.{failed, prefix}
use Rattle.bd_bson_view.specs.Raw.{value_tree}
use Rattle.bd_wide_dump.specs.inside.Indents.{IsBinaryText, after_contents}
use Rattle.bd_wide_dump.proofs.IndentLemmas.{binary_done}
use Rattle.bd_wide_dump.proofs.indent.indent_binary.Goals as goal

pub returns-in_err-at-2 : goal.returns-in_err-at-2
returns-in_err-at-2 c =
    failed _ _ _ _ c.from_residual-in_err-at-2.result c.from_residual-in_err-at-2.ensures.0
    (prefix c.args.end c.put_before_contents-at.result c.args.out.now.items _ c.append_few-2.new.out.items (omega arith) (c.in_err-at-2.ensures.text ∙ c.put_before_contents-at.ensures.text))

pub returns : goal.returns
returns c =
    let b = c.requires.binary in
    let size : ℕ = c.in_ok-size.size in
    let whole = text (value_tree c.args.node) in
    let same = ap (λ (x : List ℕ). take size x) c.deref-2.ensures.value ∙ c.in_ok-size.ensures.0 ∙ ap (λ (x : List ℕ). x ++ whole) c.in_ok-at.ensures.text.0 in
    let strings = c.binary_strings.ensures.strings b.0 b.1 (subst (IsBinaryText b.0 b.1) (sym same) b.2) in
    let old = c.append_few-2.new.out.items in
    let at : ℕ = c.in_ok-at-2.at in
    let two = c.in_ok-at-2.ensures.text.0 ∙ ap (λ (x : List ℕ). take c.put_before_contents-at.result c.put_before_contents-at.new.out.items ++ x) strings.0 in
    let three = c.put_after_contents.ensures.text ∙ ap (λ (x : List ℕ). take at old ++ after_contents c.args.level x) strings.1 in (
      binary_done c.args.level b.0 b.1 whole c.args.out.now.items c.put_before_contents-at.new.out.items old c.put_after_contents.new.out.items c.args.end c.put_before_contents-at.result at
          c.put_after_contents.result b.2 c.put_before_contents-at.ensures.text two three,
      c.put_after_contents.ensures.within,
    )
