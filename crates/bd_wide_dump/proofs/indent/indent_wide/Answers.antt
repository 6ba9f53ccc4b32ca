use Rattle.std.proofs.Common.{subst, List, ℕ}
use Rattle.bd_value.specs.Tree.{Fields, doc}
use Rattle.bd_wide_dump.specs.WideText.{IsTextOf, IsTextOfBytes}
use Rattle.bd_wide_dump.proofs.LineLemmas.{document_of, whole_elements}
use Rattle.bd_wide_dump.proofs.IndentLemmas.{laid_document, laid_within}
use Rattle.bd_wide_dump.proofs.indent.indent_wide.Goals as goal

pub indent_fields-requires-clause-short : goal.indent_fields-requires-clause-short
indent_fields-requires-clause-short c = (document_of c.args.bytes.now (λ i. (c.type_inv.bytes i).fits) c.requires.sound).1.short

pub indent_fields-requires-clause-elements : goal.indent_fields-requires-clause-elements
indent_fields-requires-clause-elements c =
    let d = document_of c.args.bytes.now (λ i. (c.type_inv.bytes i).fits) c.requires.sound in
    (whole_elements d.0 c.args.bytes.now d.1).0

pub returns-clause-text : goal.returns-clause-text
returns-clause-text c =
    let d = document_of c.args.bytes.now (λ i. (c.type_inv.bytes i).fits) c.requires.sound in
    let there = whole_elements d.0 c.args.bytes.now d.1 in
    let Is : List ℕ → Type 0 = IsTextOfBytes c.args.format c.args.bytes.now in
    laid_document c.args.format there.0.fields c.args.buffer.now.items c.indent_fields.new.out.items c.args.end Is c.indent_fields.result
    (λ line is. (d.0, d.1, subst (λ (fs : Fields). IsTextOf c.args.format (doc fs) line) there.1 is)) (c.indent_fields.ensures.text there.0)

pub returns-clause-within : goal.returns-clause-within
returns-clause-within c =
    let d = document_of c.args.bytes.now (λ i. (c.type_inv.bytes i).fits) c.requires.sound in
    let there = whole_elements d.0 c.args.bytes.now d.1 in
    laid_within c.args.format there.0.fields c.args.buffer.now.items c.indent_fields.new.out.items c.args.end c.indent_fields.result (c.indent_fields.ensures.text there.0)
