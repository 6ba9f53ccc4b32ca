use Rattle.std.proofs.Common.{rules, arith, ◌+◌, ◌-◌, length, sym, ap, ◌∙◌}
use Rattle.std.specs.List.{list_any}
use Rattle.std.proofs.lemmas.List.{length-drop}
use Rattle.bd_extjson_text.specs.Text.{needs_escape}
use Rattle.bd_extjson_text.proofs.BufferLemmas.{both_ends, none_of_ends}
use Rattle.bd_extjson_text.proofs.json_string.copy_ends.Goals as goal

pub returns-clause-copied : goal.returns-clause-copied
returns-clause-copied g c =
    let start = c.in-Some.ensures.cases in
    let back = c.in-Some-split_last_chunk.ensures.cases in
    both_ends c.args.end (length c.args.text.now - g.row.N) g.row.N (c.args.end + length c.args.text.now) c.put_known.result c.put_known-2.result
    c.args.text.now _ _ c.args.buffer.now c.put_known.new.buffer c.put_known-2.new.buffer
    (omega arith) (omega arith) (omega arith) (omega arith) (omega arith) start.0 back.1 (search rules) (search rules) (search rules) (omega (arith, c.put_known-2.ensures.end, back.2, ap length back.1, length-drop (length c.args.text.now - g.row.N) c.args.text.now))

pub returns-clause-plain : goal.returns-clause-plain
returns-clause-plain g c plain =
    let none = c.are_plain.ensures plain in
    none_of_ends needs_escape c.args.text.now (length c.args.text.now - g.row.N) g.row.N (omega arith)
    (ap (list_any needs_escape) (sym c.in-Some.ensures.cases.0) ∙ none.0) (ap (list_any needs_escape) (sym c.in-Some-split_last_chunk.ensures.cases.1) ∙ none.1)
