use Rattle.std.proofs.Common.{◌++◌, ◌≡◌, List, ℕ, [], ◌∷◌, append_assoc, subst, ◌∙◌}
use Rattle.bd_extjson_text.specs.Buffer.{Appends}
use Rattle.bd_extjson_text.specs.Text.{quoted}
use Rattle.bd_extjson_text.proofs.BufferLemmas.{chained, failed, prefix, then}
use Rattle.bd_wide_dump.proofs.IndentLemmas.{line_before}
use Rattle.bd_wide_dump.proofs.indent.append_label.Goals as goal

regroup : (a n : List ℕ) → (a ++ (n ++ 58 ∷ [])) ++ 32 ∷ [] ≡ a ++ (n ++ 58 ∷ 32 ∷ [])
regroup a n = simp append_assoc

pub returns-in_err-at-2-clause-text : goal.returns-in_err-at-2-clause-text
returns-in_err-at-2-clause-text c =
    failed _ _ _ _ c.from_residual-in_err-at-2.result c.from_residual-in_err-at-2.ensures.0
    (prefix c.args.end c.in_ok-at.at c.args.out.now.items _ c.append_name.new.out.items c.requires (c.in_err-at-2.ensures.text ∙ c.in_ok-at.ensures.text.0))

pub returns-clause-text : goal.returns-clause-text
returns-clause-text c =
    let old = c.args.out.now.items in
    let line = line_before c.args.later c.args.level in
    let name = quoted c.args.name.now in
    let two = chained c.args.end c.in_ok-at.at c.in_ok-at-2.at old c.append_line.new.out.items c.append_name.new.out.items line (name ++ 58 ∷ []) c.in_ok-at.ensures.text.0 c.in_ok-at-2.ensures.text.0 in
    subst (λ (x : List ℕ). Appends old c.args.end c.append_separator.result c.append_separator.new.out.items x) (regroup line name)
    ((then) c.args.end c.in_ok-at-2.at old c.append_name.new.out.items c.append_separator.new.out.items (line ++ (name ++ 58 ∷ [])) (32 ∷ []) c.append_separator.result c.requires two c.append_separator.ensures.text)
