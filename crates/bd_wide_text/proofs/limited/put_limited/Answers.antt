use Rattle.std.proofs.Common.{◌∙◌}
use Rattle.bd_wide_text.proofs.LimitedTextLemmas.{anew}
use Rattle.bd_wide_text.proofs.limited.put_limited.Goals as goal

pub returns-clause-appended : goal.returns-clause-appended
returns-clause-appended c =
    let is = c.put_kept.ensures.appended in
    (is.0, anew c.args.numeral.now c.one_of_two-kept.result c.limited-leading.result.1 c.limited-leading.result.2 is.0 (c.one_of_two-kept.ensures.nearest ∙ c.to_float.ensures) is.1, is.2)
