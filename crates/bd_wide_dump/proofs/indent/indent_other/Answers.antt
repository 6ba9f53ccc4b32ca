use Rattle.std.proofs.Common.{◌≤◌, ◌++◌, List, ℕ, take, ap, ◌∙◌, arith, length}
use Rattle.std.proofs.lemmas.List.{length-take-le}
use Rattle.bd_wide_dump.specs.WideText.{IsTextOf}
use Rattle.bd_wide_dump.proofs.IndentLemmas.{part_laid}
use Rattle.bd_wide_dump.proofs.indent.indent_other.Goals as goal

pub slice_bounds-append_pretty-end : goal.slice_bounds-append_pretty-end
slice_bounds-append_pretty-end c =
    let a = c.in_ok-size.ensures.text c.requires.value.0 c.requires.value.1 in
    let size : ℕ = c.in_ok-size.size in
    let within : size ≤ length c.deref.result.now = omega (arith, a.inside, ap (λ (x : List ℕ). length x) c.deref.ensures.value) in
    omega (arith, within, length-take-le size c.deref.result.now within)

pub returns-clause-text : goal.returns-clause-text
returns-clause-text c = λ tree value.
    let a = c.in_ok-size.ensures.text tree value in
    let same = ap (λ (x : List ℕ). take c.in_ok-size.size x) c.deref.ensures.value ∙ a.written ∙ ap (λ (x : List ℕ). x ++ a.text) c.in_ok-at.ensures.text.0 in
    part_laid c.args.level (IsTextOf c.args.format tree) _ a.text c.args.out.now.items c.append_pretty.new.buffer.items c.args.end c.append_pretty.result same a.is c.append_pretty.ensures
