use Rattle.bd_wide_copy.specs.Dump.{IsDocumentAt, bytes_of}
use Rattle.bd_wide_find.proofs.PrinterLemmas.{bytes_appended}
use Rattle.bd_wide_find.proofs.printer.WideBytesPlacePrinter.append.Goals as goal

pub returns-clause-text : goal.returns-clause-text
returns-clause-text c =
    bytes_appended c.args.buffer.now.items c.append_few.new.out.items c.args.end c.document.result.now (IsDocumentAt (bytes_of c.args.self.now.dump.now) c.args.place)
    c.document.ensures.document c.append_few.result c.append_few.ensures.text
