use Rattle.std.proofs.Common.{◌+◌, ◌-◌, None, length, refl}
use Rattle.bd_bson_check.specs.FirstFault.{skip_document}
use Rattle.bd_bson_check.proofs.quick.is_sound.Goals as goal

pub returns-in-Some : goal.returns-in-Some
unfolding skip_document
returns-in-Some c = λ sound e. rw (c.in-Some.ensures.gives e, c.are_sound.ensures sound None (e - (length c.in-Some.field-0-1.now + 1))) refl
