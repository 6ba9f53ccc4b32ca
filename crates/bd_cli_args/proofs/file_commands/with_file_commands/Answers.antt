use Rattle.std.proofs.Common.{ap, ap₂, ◌∙◌, ◌||◌, ◌≡◌, ◌+◌, sym, List, ℕ, Bor, drop, map, get_or, length, ◌<◌}
use Rattle.std.proofs.lemmas.List.{at_drop_more}
use Rattle.clap.specs.{Simple.App, Simple.with_subcommand, Walk.Text, Words.app_of}
use Rattle.bd_cli_args.specs.FileCommands.{file_app, with_file_commands}
use Rattle.bd_cli_args.proofs.file_commands.with_file_commands.Goals as goal

-- one command is added, and the others remain
added : (app more whole : App) (names : List (Bor Text)) (i : ℕ) (name : Bor Text) → i < length names
    → more ≡ with_subcommand app (file_app (get_or names i name).now).top
    → with_file_commands app (map (λ name. name.now) (drop i names)) ≡ whole
    → with_file_commands more (map (λ name. name.now) (drop (i + 1) names)) ≡ whole
added app more whole names i name inside e is =
    rw e (sym (at_drop_more (λ (some : List (Bor Text)). with_file_commands app (map (λ name. name.now) some)) names i name inside) ∙ is)

pub loop-name-preserved : goal.loop-name-preserved
loop-name-preserved c = record {
  app =
      added (app_of c.loop-name.with) (app_of c.in_ok-with.with) _ c.args.names.now c.loop-name.name-index _ c.loop-name-test.true
      (c.in_ok-with.ensures.shape c.in_ok-command.ensures.1 ∙ ap (λ (a : App). with_subcommand (app_of c.loop-name.with) a.top) c.in_ok-command.ensures.0)
      c.loop-name.invariant.app;
  local = c.in_ok-with.ensures.globals ∙ ap₂ (λ a b. a || b) c.loop-name.invariant.local c.in_ok-command.ensures.1;
}
