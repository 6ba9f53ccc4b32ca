use Rattle.std.proofs.Common.{◌+◌, List, ℕ, [], ◌∷◌, append-nil, subst, ◌∙◌, arith}
use Rattle.bd_extjson_text.specs.Buffer.{Appends}
use Rattle.bd_extjson_text.proofs.BufferLemmas.{chained, failed, prefix, then}
use Rattle.bd_wide_dump.specs.Pretty.{line_end}
use Rattle.bd_wide_dump.proofs.indent.append_opening.Goals as goal

pub returns-in_err-at-clause-text : goal.returns-in_err-at-clause-text
returns-in_err-at-clause-text c =
    failed _ _ _ _ c.from_residual.result c.from_residual.ensures.0
    (prefix c.args.end c.put-at.result c.args.out.now.items _ c.append_line_end.new.out.items (omega arith) (c.in_err-at.ensures.text ∙ c.put-at.ensures.text))

pub returns-clause-text : goal.returns-clause-text
returns-clause-text c =
    let old = c.args.out.now.items in
    let whole : List ℕ = 123 ∷ line_end (c.args.level + 1) in
    let two = chained c.args.end c.put-at.result c.in_ok-at.at old c.put-at.new.out.items c.append_line_end.new.out.items (123 ∷ []) (line_end (c.args.level + 1)) c.put-at.ensures.text c.in_ok-at.ensures.text.0 in
    subst (λ (x : List ℕ). Appends old c.args.end c.append_separator.result c.append_separator.new.out.items x) (append-nil whole)
    ((then) c.args.end c.in_ok-at.at old c.append_line_end.new.out.items c.append_separator.new.out.items whole [] c.append_separator.result (omega arith) two c.append_separator.ensures.text)
