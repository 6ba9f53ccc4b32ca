use Rattle.bd_wide_cli.proofs.PlainFindLemmas.{never_unread, read_as_taken}
use Rattle.bd_wide_cli.proofs.laws.reads_as_bsonfind.Goals as goal

pub returns-clause-read : goal.returns-clause-read
returns-clause-read c = read_as_taken c.texts_without_values_stay.ensures.read c.texts_without_values_stay.ensures.unread

pub returns-clause-never_unread : goal.returns-clause-never_unread
returns-clause-never_unread c = never_unread c.texts_without_values_stay.ensures.read c.texts_without_values_stay.ensures.unread
