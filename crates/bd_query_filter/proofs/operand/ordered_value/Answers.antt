use Rattle.std.proofs.Common.{Ok, sym, ap, ◌∙◌}
use Rattle.bd_query_filter.proofs.FilterOfLemmas.{ordered_is}
use Rattle.bd_query_filter.proofs.operand.ordered_value.Goals as goal

pub returns-in_ok-to_value-in_default : goal.returns-in_ok-to_value-in_default
returns-in_ok-to_value-in_default g c =
    ordered_is (g.N.Reading.tree c.args.operand) (λ e. c.in_default.not-Regex (c.kind.ensures ∙ e))
    (λ e. c.in_default.not-MinKey (c.kind.ensures ∙ e)) (λ e. c.in_default.not-MaxKey (c.kind.ensures ∙ e))
    ∙ ap (λ t. Ok t) (sym c.in_ok-to_value-in_default.ensures)
