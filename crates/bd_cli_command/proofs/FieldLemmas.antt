-- Documents as values of fields.
use Rattle.std.proofs.Common.{◌≡◌, Some, sym, ap, ◌∙◌}
use Rattle.bd_value.specs.{Tree.AreParts, View.pairs, View.tree_of, declared.document.Document.Document, declared.document.Value.Value}
use Rattle.bd_value.specs.Tree.{Doc, doc, fields_of, pairs_of-fields_of}
use Rattle.bd_value.proofs.ViewLemmas.{tree_of-Doc}
use Rattle.bd_cli_command.specs.Field.{document_field}
use Rattle.bd_value.specs.declared.document.Value.TheVariants as values

pub document_is : (v : Value) (d : Document) → v ≡ values.Doc d → Some (pairs d) ≡ document_field (tree_of v)
document_is v d is =
    sym (ap document_field (ap tree_of is ∙ tree_of-Doc d) ∙ ap (λ (ps : Doc). Some ps) (pairs_of-fields_of (pairs d)))

-- a document of these pairs
pub parts_are : (d ps : Doc) → AreParts (doc (fields_of d)) ps → ps ≡ d
parts_are d ps are = are ∙ pairs_of-fields_of d
