use Rattle.bd_wide_substitute.proofs.BothLemmas.{read_once, read_or_unread, unread_once}
use Rattle.bd_wide_substitute.proofs.laws.texts_are_read_once.Goals as goal

pub returns-clause-read : goal.returns-clause-read
returns-clause-read c = read_once

pub returns-clause-unread : goal.returns-clause-unread
returns-clause-unread c = unread_once

pub returns-clause-apart : goal.returns-clause-apart
returns-clause-apart c = read_or_unread
