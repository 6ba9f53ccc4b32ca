use Rattle.bd_bson_dump.specs.Collection.{documents}
use Rattle.bd_cli_print.proofs.PrinterLemmas.{text_appended, text_unchanged}
use Rattle.bd_cli_print.proofs.printer.NamedPrinterPlacePrinter.append.Goals as goal

pub returns-clause-text : goal.returns-clause-text
returns-clause-text c =
    text_appended c.args.buffer.now.items c.append_few.new.out.items c.append_node.new.out.items c.args.end c.in_ok-end.end c.in_ok-end.ensures.text.0
    c.append_node.result (documents c.args.dump.now) c.args.place _ _ c.document.ensures.document c.value.ensures.document c.append_node.ensures

pub returns-clause-err : goal.returns-clause-err
returns-clause-err c =
    text_unchanged c.args.buffer.now.items c.append_few.new.out.items c.append_node.new.out.items c.args.end c.in_ok-end.end c.in_ok-end.ensures.text.0
    c.append_node.result _ c.requires.buffer c.in_ok-end.ensures.text.1 c.append_node.ensures
