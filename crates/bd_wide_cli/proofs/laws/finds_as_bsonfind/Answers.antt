use Rattle.std.proofs.Common.{None}
use Rattle.bd_wide_cli.specs.Command.{query_text}
use Rattle.bd_wide_cli.proofs.PlainFindLemmas.{found_refused, found_taken, none_if_refused, none_if_taken}
use Rattle.bd_wide_cli.proofs.laws.finds_as_bsonfind.Goals as goal

pub returns-clause-taken : goal.returns-clause-taken
returns-clause-taken c = λ options w file requests scans output is.
    let stays = c.texts_without_values_stay.ensures.read in
    let stays_unread = c.texts_without_values_stay.ensures.unread in
    found_taken stays stays_unread options file (none_if_taken stays stays_unread options w requests) w requests scans output is.0 is.1

pub returns-clause-refused : goal.returns-clause-refused
returns-clause-refused c = λ options message file refused needs output is.
    let stays = c.texts_without_values_stay.ensures.read in
    let stays_unread = c.texts_without_values_stay.ensures.unread in
    found_refused stays stays_unread options file (none_if_refused stays stays_unread (query_text None options) (λ none. (needs none).0)) message refused
    (λ none. (needs none).1) output is.0 is.1
