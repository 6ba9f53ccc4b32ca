use Rattle.std.proofs.Common.{List, ℕ, [], append-nil, subst}
use Rattle.bd_extjson_text.specs.Buffer.{Appends}
use Rattle.bd_extjson_text.proofs.BufferLemmas.{then}
use Rattle.bd_wide_dump.proofs.IndentLemmas.{line_before}
use Rattle.bd_wide_dump.proofs.indent.append_item.Goals as goal

pub returns-clause-text : goal.returns-clause-text
returns-clause-text c =
    let old = c.args.out.now.items in
    let line = line_before c.args.later c.args.level in
    subst (λ (x : List ℕ). Appends old c.args.end c.append_separator.result c.append_separator.new.out.items x) (append-nil line)
    ((then) c.args.end c.in_ok-at.at old c.append_line.new.out.items c.append_separator.new.out.items line [] c.append_separator.result c.requires c.in_ok-at.ensures.text.0 c.append_separator.ensures.text)
