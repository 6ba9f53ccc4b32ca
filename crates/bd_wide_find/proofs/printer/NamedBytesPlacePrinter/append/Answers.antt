use Rattle.std.proofs.Common.{ℕ, List, subst, sym}
use Rattle.bd_bson_dump.specs.Collection.{bytes_of}
use Rattle.bd_wide_copy.specs.Dump.{IsCount, IsDocumentAt}
use Rattle.bd_wide_find.proofs.PrinterLemmas.{bytes_appended}
use Rattle.bd_wide_find.proofs.printer.NamedBytesPlacePrinter.append.Goals as goal

pub document-requires-clause-inside : goal.document-requires-clause-inside
document-requires-clause-inside c =
    let (count, is, lt) = c.requires.document.1 in
    (count, subst (λ (bytes : List ℕ). IsCount bytes count) (sym c.bytes.ensures) is, lt)

pub returns-clause-text : goal.returns-clause-text
returns-clause-text c =
    bytes_appended c.args.buffer.now.items c.append_few.new.out.items c.args.end c.document.result.now (IsDocumentAt (bytes_of c.args.dump.now) c.args.place)
    (subst (λ (bytes : List ℕ). IsDocumentAt bytes c.args.place c.document.result.now) c.bytes.ensures c.document.ensures.document) c.append_few.result c.append_few.ensures.text
