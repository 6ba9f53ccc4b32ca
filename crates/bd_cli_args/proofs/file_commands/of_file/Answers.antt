use Rattle.std.proofs.Common.{rules, ap₂, ◌∙◌}
use Rattle.std.proofs.lemmas.Result.{IfOk-weaker}
use Rattle.clap.specs.Simple.{with_rule}
use Rattle.bd_cli_args.proofs.file_commands.of_file.Goals as goal

pub returns : goal.returns
returns c = IfOk-weaker c.arg.result _ _
    (λ m h. (h.shape c.file_argument-file.ensures.1 ∙ ap₂ with_rule c.new.ensures.app c.file_argument-file.ensures.0, search rules)) c.arg.ensures
