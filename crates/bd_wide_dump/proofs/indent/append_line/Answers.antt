use Rattle.bd_extjson_text.proofs.BufferLemmas.{then}
use Rattle.bd_wide_dump.proofs.indent.append_line.Goals as goal

pub returns-clause-text : goal.returns-clause-text
returns-clause-text c =
    (then) c.args.end c.in_ok-at.at c.args.out.now.items c.append_separator.new.out.items c.append_line_end.new.out.items _ _ c.append_line_end.result c.requires c.in_ok-at.ensures.text.0 c.append_line_end.ensures.text
