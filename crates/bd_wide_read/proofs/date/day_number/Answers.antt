use Rattle.std.proofs.Common.{◌≡◌, ◌∙◌, arith, ap, rules}
use Rattle.std.specs.Prelude.{unsigned_abs}
use Rattle.std.proofs.lemmas.Int.{to_z_pos}
use Rattle.std.specs.Int.{w8, w16}
use Rattle.bd_wide_read.proofs.DateLemmas.{day_back, day_is}
use Rattle.bd_wide_read.proofs.date.day_number.Goals as goal

pub returns-in-Ok-clause-value : goal.returns-in-Ok-clause-value
returns-in-Ok-clause-value c =
    let date = c.in-Ok.date in
    let parts = c.in-Ok.ensures.value in
    let month : date.month ≡ c.args.month = ap unsigned_abs (parts.1 ∙ to_z_pos w8 c.args.month (omega (arith, c.requires))) in
    let day : date.day ≡ c.args.day = ap unsigned_abs (parts.2 ∙ to_z_pos w8 c.args.day (omega (arith, c.requires))) in
    let same : c.from.result ≡ c.to_unix_epoch_day.result = search rules in
    day_is c.args.year c.args.month c.args.day date _ (parts.0 ∙ to_z_pos w16 c.args.year (omega (arith, c.requires))) month day
    (day_back c.to_unix_epoch_day.result c.from.result c.to_unix_epoch_day.ensures.bound same ∙ c.to_unix_epoch_day.ensures.value)
