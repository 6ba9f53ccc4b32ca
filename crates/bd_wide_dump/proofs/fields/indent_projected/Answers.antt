use Rattle.std.proofs.Common.{sym, subst, length, ◌≤◌, List, ℕ}
use Rattle.bd_value.specs.Limits.{longest_document}
use Rattle.bd_value.specs.Tree.{Fields, doc, fields_of}
use Rattle.bd_wide_dump.specs.{Fields.requested, Projected.IsProjectedText, Projected.projected, WideText.IsTextOf}
use Rattle.bd_wide_dump.proofs.LineLemmas.{document_of}
use Rattle.bd_wide_dump.proofs.IndentLemmas.{laid_document, laid_within}
use Rattle.bd_wide_dump.proofs.FieldsLemmas as f
use Rattle.bd_wide_dump.proofs.fields.indent_projected.Goals as goal

pub indent_fields-requires-clause-short : goal.indent_fields-requires-clause-short
indent_fields-requires-clause-short c = subst (λ (x : List ℕ). length x ≤ longest_document) (sym c.deref.ensures.value) c.in_ok-project.ensures.short

pub indent_fields-requires-clause-elements : goal.indent_fields-requires-clause-elements
indent_fields-requires-clause-elements c =
    let d = document_of c.args.bytes.now (λ i. (c.type_inv.bytes i).fits) c.requires.sound in
    (f.same_elements (projected (requested c.args.paths.now) (fields_of d.0)) c.project.new.out.items c.deref.result.now (c.in_ok-project.ensures.elements d.0 d.1) c.deref.ensures.value).0

pub returns-clause-text : goal.returns-clause-text
returns-clause-text c =
    let d = document_of c.args.bytes.now (λ i. (c.type_inv.bytes i).fits) c.requires.sound in
    let there = f.same_elements (projected (requested c.args.paths.now) (fields_of d.0)) c.project.new.out.items c.deref.result.now (c.in_ok-project.ensures.elements d.0 d.1) c.deref.ensures.value in
    let Is : List ℕ → Type 0 = IsProjectedText c.args.format (requested c.args.paths.now) c.args.bytes.now in
    laid_document c.args.format there.0.fields c.args.buffer.now.items c.indent_fields.new.out.items c.args.end Is c.indent_fields.result
    (λ line is. (d.0, d.1, subst (λ (fs : Fields). IsTextOf c.args.format (doc fs) line) there.1 is)) (c.indent_fields.ensures.text there.0)

pub returns-clause-within : goal.returns-clause-within
returns-clause-within c =
    let d = document_of c.args.bytes.now (λ i. (c.type_inv.bytes i).fits) c.requires.sound in
    let there = f.same_elements (projected (requested c.args.paths.now) (fields_of d.0)) c.project.new.out.items c.deref.result.now (c.in_ok-project.ensures.elements d.0 d.1) c.deref.ensures.value in
    laid_within c.args.format there.0.fields c.args.buffer.now.items c.indent_fields.new.out.items c.args.end c.indent_fields.result (c.indent_fields.ensures.text there.0)
