use Rattle.std.proofs.Common.{◌/◌, ◌%◌, ◌∙◌, arith, refl}
use Rattle.std.specs.Int.{w64}
use Rattle.std.proofs.lemmas.Int.{to_z_pos}
use Rattle.bd_wide_dump.specs.RelaxedDate.{IsDatedText, dated_text, day_length}
use Rattle.bd_wide_dump.proofs.RelaxedLemmas.{known}
use Rattle.bd_wide_dump.proofs.relaxed.append_dated.Goals as goal

pub returns-clause-text : goal.returns-clause-text
returns-clause-text c =
    let day = c.in-Ok.day in
    let ms = c.args.milliseconds in
    known c.args.out.now.items c.args.end c.append_instant.new.out.items (λ text. IsDatedText ms text) (dated_text day (ms % day_length)) c.append_instant.result
    (day, c.in-Ok.ensures.value ∙ to_z_pos w64 (ms / day_length) (omega (arith, c.requires.0)), refl) c.append_instant.ensures
