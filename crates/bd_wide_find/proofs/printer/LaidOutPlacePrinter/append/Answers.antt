use Rattle.std.proofs.Common.{ℕ, List, subst, sym}
use Rattle.std.proofs.lemmas.Result.{IfOk-weaker}
use Rattle.bd_wide_copy.specs.Dump.{IsCount, IsDocumentAt}
use Rattle.bd_wide_find.proofs.printer.LaidOutPlacePrinter.append.Goals as goal

pub document-document-requires-clause-inside : goal.document-document-requires-clause-inside
document-document-requires-clause-inside c =
    let (count, is, lt) = c.requires.document.1 in
    (count, subst (λ (bytes : List ℕ). IsCount bytes count) (sym c.bytes.ensures) is, lt)

pub returns-clause-text : goal.returns-clause-text
returns-clause-text c =
    let document = c.document-document.result.now in
    let here = subst (λ (bytes : List ℕ). IsDocumentAt bytes c.args.place document) c.bytes.ensures c.document-document.ensures.document in
    IfOk-weaker c.append_document.result _ _ (λ to h. (h.0, (document, here, h.1), h.2)) c.append_document.ensures.text
