use Rattle.std.proofs.Common.{ap, ◌∙◌}
use Rattle.bd_wide_dump.specs.Fields.{requested}
use Rattle.bd_wide_dump.specs.inside.Projects.{paths_of}
use Rattle.bd_wide_dump.proofs.LineLemmas.{document_of, whole_elements}
use Rattle.bd_wide_dump.proofs.FieldsLemmas as f
use Rattle.bd_wide_dump.proofs.fields.project.Goals as goal

pub append_elements-requires-clause-short : goal.append_elements-requires-clause-short
append_elements-requires-clause-short c = (document_of c.args.bytes.now (λ i. (c.type_inv.bytes i).fits) c.requires).1.short

pub append_elements-requires-clause-elements : goal.append_elements-requires-clause-elements
append_elements-requires-clause-elements c =
    let d = document_of c.args.bytes.now (λ i. (c.type_inv.bytes i).fits) c.requires in
    (whole_elements d.0 c.args.bytes.now d.1).0

pub returns-in-Ok-clause-elements : goal.returns-in-Ok-clause-elements
returns-in-Ok-clause-elements c = λ d is.
    f.projected_there (requested c.args.paths.now) (paths_of c.deref.result.now) c.args.bytes.now c.clear.new.self.items c.append_elements.new.out.items d is
    (ap paths_of c.deref.ensures.value ∙ c.in_ok-fields.ensures) c.clear.ensures.items c.in-Ok.ensures.framed
