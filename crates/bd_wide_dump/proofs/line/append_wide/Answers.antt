use Rattle.bd_value.specs.Tree.{doc}
use Rattle.bd_wide_dump.proofs.LineLemmas.{document_of, whole_elements, text_is, text_within}
use Rattle.bd_wide_dump.proofs.line.append_wide.Goals as goal

pub append_fields-requires-clause-short : goal.append_fields-requires-clause-short
append_fields-requires-clause-short c = (document_of c.args.bytes.now (λ i. (c.type_inv.bytes i).fits) c.requires.sound).1.short

pub append_fields-requires-clause-elements : goal.append_fields-requires-clause-elements
append_fields-requires-clause-elements c =
    let d = document_of c.args.bytes.now (λ i. (c.type_inv.bytes i).fits) c.requires.sound in
    (whole_elements d.0 c.args.bytes.now d.1).0

pub returns-clause-text : goal.returns-clause-text
returns-clause-text c =
    let d = document_of c.args.bytes.now (λ i. (c.type_inv.bytes i).fits) c.requires.sound in
    text_is c.args.format c.append_fields.result c.args.bytes.now c.args.buffer.now.items c.append_fields.new.out.items c.args.end d.0 d.1
    (c.append_fields.ensures.text (whole_elements d.0 c.args.bytes.now d.1).0)

pub returns-clause-within : goal.returns-clause-within
returns-clause-within c =
    let d = document_of c.args.bytes.now (λ i. (c.type_inv.bytes i).fits) c.requires.sound in
    text_within c.args.format c.append_fields.result (doc (whole_elements d.0 c.args.bytes.now d.1).0.fields) c.args.buffer.now.items c.append_fields.new.out.items c.args.end
    (c.append_fields.ensures.text (whole_elements d.0 c.args.bytes.now d.1).0)
