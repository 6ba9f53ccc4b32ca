use Rattle.std.proofs.Common.{◌∙◌, subst}
use Rattle.bd_bson_view.proofs.SoundLemmas.{document_unique}
use Rattle.bd_bson_check.specs.Fault.{ReportsFault}
use Rattle.bd_bson_check.proofs.DumpLemmas.{document_faultless}
use Rattle.bd_bson_check.proofs.check.read_document.Goals as goal

pub returns-in_err-raw-clause-only : goal.returns-in_err-raw-clause-only
returns-in_err-raw-clause-only c = λ d is.
    let e = c.in_err-raw.field-0.0 in
    absurd (subst (λ f. ReportsFault c.args.number f e) (document_faultless c.args.base c.args.bytes.now d is) c.in_err-raw.ensures.first)

pub returns-in-Ok-clause-only : goal.returns-in-Ok-clause-only
returns-in-Ok-clause-only c = λ d is.
    c.in-Ok.ensures ∙ document_unique c.args.bytes.now _ d c.in_ok-raw.ensures.spelled is
