use Rattle.std.proofs.Common.{◌∙◌, ap, List, ◌∷◌, [], codes}
use Rattle.std.proofs.lemmas.Result.{IfOk-weaker}
use Rattle.clap.proofs.WalkLemmas.{IfOk-both}
use Rattle.clap.specs.{Simple.App, Words.app_of}
use Rattle.bd_cli_args.specs.inside.FileCommands.{IsBuiltAs}
use Rattle.bd_cli_args.specs.WideLine.{with_flags, with_layout}
use Rattle.bd_cli_args.proofs.wide_line.with_layout.Goals as goal

pub returns : goal.returns
returns c =
    let flags = codes "noId" ∷ codes "noHeaderLine" ∷ codes "jsonArray" ∷ codes "pretty" ∷ [] in
    IfOk-weaker c.with_flags.result _ (IsBuiltAs (with_layout (app_of c.args.command)))
    (λ m h. (h.0 ∙ ap (λ (app : App). with_flags app flags) c.in_ok-with.ensures.app, h.1))
    (IfOk-both c.with_flags.result _ _ c.with_flags.ensures.app c.with_flags.ensures.local)
