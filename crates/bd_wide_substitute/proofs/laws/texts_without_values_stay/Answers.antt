use Rattle.bd_wide_substitute.proofs.BothLemmas.{read_alike, unread_alike}
use Rattle.bd_wide_substitute.proofs.laws.texts_without_values_stay.Goals as goal

pub returns-clause-read : goal.returns-clause-read
returns-clause-read c = read_alike

pub returns-clause-unread : goal.returns-clause-unread
returns-clause-unread c = unread_alike
