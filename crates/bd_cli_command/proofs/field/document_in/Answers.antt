use Rattle.bd_cli_command.proofs.FieldLemmas.{document_is}
use Rattle.bd_cli_command.proofs.field.document_in.Goals as goal

pub returns-in-Doc : goal.returns-in-Doc
returns-in-Doc c = document_is c.args.value.now c.in-Doc.document c.in-Doc.is
