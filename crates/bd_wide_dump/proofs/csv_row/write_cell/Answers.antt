use Rattle.std.proofs.Common.{subst, [], Some, None, refl}
use Rattle.bd_value.specs.Tree.{doc, fields_of}
use Rattle.bd_path.specs.{Path.component_names, PathNames.names_of, Reach.Names}
use Rattle.bd_wide_dump.specs.{Csv.follow}
use Rattle.bd_wide_dump.specs.inside.Finds.{Finds}
use Rattle.bd_wide_dump.proofs.RowLemmas as w
use Rattle.bd_wide_dump.proofs.csv_row.write_cell.Goals as goal

pub follow-requires-clause-value : goal.follow-requires-clause-value
follow-requires-clause-value c = (doc (fields_of c.requires.0), w.whole_at c.args.bytes.now c.requires.0 c.requires.1)

pub returns-in_default-clause-text : goal.returns-in_default-clause-text
returns-in_default-clause-text c = λ d is.
    let bytes = c.args.bytes.now in
    let start = Some (doc (fields_of d)) in
    let found = subst (Finds bytes (follow start (component_names c.components.result.now))) c.in_default.is (c.follow.ensures (doc (fields_of d)) (w.whole_at bytes d is)) in
    w.missing_cell bytes (follow start (names_of c.args.path.now)) [] (subst (λ (names : Names). Finds bytes (follow start names) None) c.components.ensures found) refl

pub append_plain-requires-clause-value : goal.append_plain-requires-clause-value
append_plain-requires-clause-value c =
    let bytes = c.args.bytes.now in
    let d = c.requires.0 in
    w.found_value bytes _ c.in-Some.found (subst (Finds bytes _) c.in-Some.is (c.follow.ensures (doc (fields_of d)) (w.whole_at bytes d c.requires.1)))

pub returns-clause-text : goal.returns-clause-text
returns-clause-text c = λ d is.
    let bytes = c.args.bytes.now in
    let start = Some (doc (fields_of d)) in
    let found = subst (Finds bytes (follow start (component_names c.components.result.now))) c.in-Some.is (c.follow.ensures (doc (fields_of d)) (w.whole_at bytes d is)) in
    w.found_cell bytes (follow start (names_of c.args.path.now)) c.in-Some.found c.append_few.new.out.items c.append_plain.new.out.items c.in_ok-at.at c.append_plain.result
    (subst (λ (names : Names). Finds bytes (follow start names) (Some c.in-Some.found)) c.components.ensures found) c.in_ok-at.ensures.text.0 c.append_plain.ensures

pub returns-clause-within : goal.returns-clause-within
returns-clause-within c =
    let bytes = c.args.bytes.now in
    let d = c.requires.0 in
    w.cell_within bytes _ c.in-Some.found c.append_few.new.out.items c.append_plain.new.out.items c.in_ok-at.at c.append_plain.result
    (subst (Finds bytes _) c.in-Some.is (c.follow.ensures (doc (fields_of d)) (w.whole_at bytes d c.requires.1))) c.append_plain.ensures
