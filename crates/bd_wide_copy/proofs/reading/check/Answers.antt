use Rattle.bd_wide_copy.proofs.ReadingLemmas.{plain_sound}
use Rattle.bd_wide_copy.proofs.reading.check.Goals as goal

pub returns-in-Ok-clause-sound : goal.returns-in-Ok-clause-sound
returns-in-Ok-clause-sound c = plain_sound c.args.base c.args.document.now c.in-Ok.ensures
