use Rattle.std.proofs.Common.{sym, subst, length, ◌≤◌, List, ℕ}
use Rattle.bd_value.specs.Limits.{longest_document}
use Rattle.bd_value.specs.Tree.{doc, fields_of}
use Rattle.bd_wide_dump.specs.{Fields.requested, Projected.projected}
use Rattle.bd_wide_dump.proofs.LineLemmas.{document_of, text_within}
use Rattle.bd_wide_dump.proofs.FieldsLemmas as f
use Rattle.bd_wide_dump.proofs.fields.append_projected.Goals as goal

pub append_fields-requires-clause-short : goal.append_fields-requires-clause-short
append_fields-requires-clause-short c = subst (λ (x : List ℕ). length x ≤ longest_document) (sym c.deref.ensures.value) c.in_ok-project.ensures.short

pub append_fields-requires-clause-elements : goal.append_fields-requires-clause-elements
append_fields-requires-clause-elements c =
    let d = document_of c.args.bytes.now (λ i. (c.type_inv.bytes i).fits) c.requires.sound in
    (f.same_elements (projected (requested c.args.paths.now) (fields_of d.0)) c.project.new.out.items c.deref.result.now (c.in_ok-project.ensures.elements d.0 d.1) c.deref.ensures.value).0

pub returns-clause-text : goal.returns-clause-text
returns-clause-text c =
    let d = document_of c.args.bytes.now (λ i. (c.type_inv.bytes i).fits) c.requires.sound in
    let there = f.same_elements (projected (requested c.args.paths.now) (fields_of d.0)) c.project.new.out.items c.deref.result.now (c.in_ok-project.ensures.elements d.0 d.1) c.deref.ensures.value in
    f.projected_text c.args.format c.append_fields.result (requested c.args.paths.now) c.args.bytes.now c.args.buffer.now.items c.append_fields.new.out.items c.args.end d.0 d.1
    there.0.fields there.1 (c.append_fields.ensures.text there.0)

pub returns-clause-within : goal.returns-clause-within
returns-clause-within c =
    let d = document_of c.args.bytes.now (λ i. (c.type_inv.bytes i).fits) c.requires.sound in
    let there = f.same_elements (projected (requested c.args.paths.now) (fields_of d.0)) c.project.new.out.items c.deref.result.now (c.in_ok-project.ensures.elements d.0 d.1) c.deref.ensures.value in
    text_within c.args.format c.append_fields.result (doc there.0.fields) c.args.buffer.now.items c.append_fields.new.out.items c.args.end (c.append_fields.ensures.text there.0)
