use Rattle.std.proofs.Common.{◌/◌, ◌%◌, ◌∙◌, arith, refl}
use Rattle.std.specs.Int.{w64}
use Rattle.std.proofs.lemmas.Int.{to_z_pos}
use Rattle.bd_wide_dump.specs.Plain.{IsInstantText}
use Rattle.bd_wide_dump.specs.RelaxedDate.{day_length, instant_text}
use Rattle.bd_wide_dump.proofs.RelaxedLemmas.{known}
use Rattle.bd_wide_dump.proofs.plain.append_instant.Goals as goal

pub returns : goal.returns
returns c =
    let day = c.in-Ok.day in
    let ms = c.args.milliseconds in
    known c.args.out.now.items c.args.end c.append_plain_instant.new.out.items (IsInstantText ms) (instant_text day (ms % day_length)) c.append_plain_instant.result
    (day, c.in-Ok.ensures.value ∙ to_z_pos w64 (ms / day_length) (omega (arith, c.requires.0)), refl) c.append_plain_instant.ensures
