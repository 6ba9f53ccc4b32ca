use Rattle.std.proofs.Common.{ℤ, ap, sym, rules, ◌∙◌, SFits, w32}
use Rattle.std.proofs.lemmas.Int.{to_z-of_z}
use Rattle.bd_wide_rank.specs.Rank.{code}
use Rattle.bd_wide_rank.specs.Table.{worths}
use Rattle.bd_wide_rank.specs.Worth.{worth_if}
use Rattle.bd_wide_rank.proofs.WorthLemmas.{zero_worth}
use Rattle.bd_wide_rank.proofs.table.Table.code_of_value.Goals as goal

pub returns-in-None : goal.returns-in-None
returns-in-None c =
    let fits : SFits w32 c.code-in-None.result = search rules in
    to_z-of_z w32 c.code-in-None.result fits ∙ c.code-in-None.ensures
    ∙ ap (λ (z : ℤ). code (worths c.args.self.now) z) (zero_worth ∙ ap worth_if (sym c.in-None.is ∙ c.number_in.ensures))
