use Rattle.bd_wide_copy.proofs.CopyLemmas.{copy_spelled, copy_short}
use Rattle.bd_wide_copy.proofs.laws.copies_are_spelled.Goals as goal

pub returns-clause-spelled : goal.returns-clause-spelled
returns-clause-spelled c = λ worth code fits d bytes new is h short. copy_spelled worth code fits d bytes new is h short

pub returns-clause-no_longer : goal.returns-clause-no_longer
returns-clause-no_longer c = λ worth code fits four d bytes new is h. copy_short worth code fits four d bytes new is h
