use Rattle.std.proofs.Common.{ap, ap₂, ◌∙◌, ◌||◌, ◌≡◌, ◌+◌, sym, List, ℕ, Bor, drop, map, get_or, length, ◌<◌}
use Rattle.std.proofs.lemmas.List.{at_drop_more}
use Rattle.clap.specs.{Simple.App, Simple.with_rule, Walk.Text, Words.app_of}
use Rattle.bd_cli_args.specs.WideLine.{flag_rule, with_flags}
use Rattle.bd_cli_args.proofs.wide_line.with_flags.Goals as goal

-- one flag is added, and the others remain
added : (app more whole : App) (names : List (Bor Text)) (i : ℕ) (name : Bor Text) → i < length names
    → more ≡ with_rule app (flag_rule (get_or names i name).now)
    → with_flags app (map (λ name. name.now) (drop i names)) ≡ whole
    → with_flags more (map (λ name. name.now) (drop (i + 1) names)) ≡ whole
added app more whole names i name inside e is =
    rw e (sym (at_drop_more (λ (some : List (Bor Text)). with_flags app (map (λ name. name.now) some)) names i name inside) ∙ is)

pub loop-name-preserved : goal.loop-name-preserved
loop-name-preserved c = record {
  app =
      added (app_of c.loop-name.with) (app_of c.in_ok-with.with) _ c.args.names.now c.loop-name.name-index _ c.loop-name-test.true
      (c.in_ok-with.ensures.shape c.flag_argument.ensures.1 ∙ ap (with_rule (app_of c.loop-name.with)) c.flag_argument.ensures.0)
      c.loop-name.invariant.app;
  local = c.in_ok-with.ensures.globals ∙ ap₂ (λ a b. a || b) c.loop-name.invariant.local c.flag_argument.ensures.1;
}
