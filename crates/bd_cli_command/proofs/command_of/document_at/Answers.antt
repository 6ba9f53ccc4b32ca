use Rattle.std.proofs.Common.{rules, ◌≡◌, ◌∙◌, []}
use Rattle.std.proofs.lemmas.Result.{IfOk-weaker}
use Rattle.bd_value.specs.{View.node_parts, View.pairs}
use Rattle.bd_cli_command.specs.{CommandOf.field_value, Field.document_field}
use Rattle.bd_cli_command.proofs.FieldLemmas.{parts_are}
use Rattle.bd_cli_command.proofs.command_of.document_at.Goals as goal

pub returns-in-Some : goal.returns-in-Some
returns-in-Some c =
    let same = parts_are (pairs c.in-Some.inner.now) (node_parts c.parts.result) c.parts.ensures.parts in
    let fact : pairs c.in-Some.inner.now ≡ field_value document_field [] c.args.field.now (pairs c.args.document.now) = search rules in
    IfOk-weaker c.to_document.result _ _ (λ d e. e ∙ same ∙ fact) c.to_document.ensures
