use Rattle.std.proofs.Common.{ap, ap₂, ◌∙◌, ◌||◌, ◌≡◌, ◌+◌, sym, List, ℕ, Bool, Bor, drop, map, get_or, length, ◌<◌}
use Rattle.std.proofs.lemmas.List.{at_drop_more}
use Rattle.clap.specs.{Simple.App, Simple.with_rule, Walk.Text, Words.app_of}
use Rattle.bd_cli_args.specs.CommandLine.{option_rule, with_options}
use Rattle.bd_cli_args.proofs.command_line.with_options.Goals as goal

-- one option is added, and the others remain
added : (app more whole : App) (rows : List (Bor Text × Bool)) (i : ℕ) (row : Bor Text × Bool) → i < length rows
    → more ≡ with_rule app (option_rule (get_or rows i row).0.now (get_or rows i row).1)
    → with_options app (map (λ o. (o.0.now, o.1)) (drop i rows)) ≡ whole
    → with_options more (map (λ o. (o.0.now, o.1)) (drop (i + 1) rows)) ≡ whole
added app more whole rows i row inside e is =
    rw e (sym (at_drop_more (λ (os : List (Bor Text × Bool)). with_options app (map (λ o. (o.0.now, o.1)) os)) rows i row inside) ∙ is)

pub loop-name-preserved : goal.loop-name-preserved
loop-name-preserved c = record {
  app =
      added (app_of c.loop-name.with) (app_of c.in_ok-with.with) _ c.args.options.now c.loop-name.name-index _ c.loop-name-test.true
      (c.in_ok-with.ensures.shape c.option_argument.ensures.1 ∙ ap (with_rule (app_of c.loop-name.with)) c.option_argument.ensures.0)
      c.loop-name.invariant.app;
  local = c.in_ok-with.ensures.globals ∙ ap₂ (λ a b. a || b) c.loop-name.invariant.local c.option_argument.ensures.1;
}
