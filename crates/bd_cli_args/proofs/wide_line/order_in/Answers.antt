use Rattle.std.proofs.Common.{ap, inr, sym, ◌∙◌, ◌≡◌, is_some, None, true, false, true≢false}
use Rattle.bd_cli_args.specs.CommandLine.{words_of}
use Rattle.bd_cli_args.specs.WideLine.{conflicts_in, line_app, ordered_by}
use Rattle.bd_cli_args.proofs.WideLineLemmas.{conflicts_by, explained_by, is_program, refused_too}
use Rattle.bd_cli_args.proofs.ProgramLemmas.{no_fault, order_read, order_there, refusal_none, refused_as, refused_taken, rows_read}
use Rattle.std.proofs.lemmas.Result.{IfOk-weaker}
use Rattle.bd_cli_args.proofs.wide_line.order_in.Goals as goal

pub returns-in-Err-clause-fault : goal.returns-in-Err-clause-fault
returns-in-Err-clause-fault c =
    refused_too (words_of c.args.words.now) c.explain_error.result
    (refused_as line_app ordered_by is_program _ (words_of c.args.words.now) c.in-Err.error c.explain_error.result c.in_ok-command.ensures.0 c.in-Err.ensures.kinds c.explain_error.ensures)

pub returns-in-Err-clause-taken : goal.returns-in-Err-clause-taken
returns-in-Err-clause-taken c taken _ =
    c.explain_error.ensures ∙ refused_taken line_app ordered_by _ (words_of c.args.words.now) c.in-Err.error c.in_ok-command.ensures.0 c.in-Err.ensures.passes taken

pub returns-then-conflicts-clause-fault : goal.returns-then-conflicts-clause-fault
returns-then-conflicts-clause-fault c =
    let words = words_of c.args.words.now in
    let sub = rows_read line_app ordered_by is_program _ words c.in-Ok.matches c.in-Some.inner.now c.in-Some.name.now c.in_ok-command.ensures.0 c.in-Ok.ensures.matches c.in-Some.ensures.name
    c.in-Some.ensures.rows in
    let none = refusal_none line_app ordered_by words (no_fault line_app ordered_by is_program _ words c.in_ok-command.ensures.0 c.in-Ok.ensures.kinds) in
    inr (explained_by words None true none (conflicts_by words c.in-Some.name.now _ true sub (sym c.conflicts.ensures ∙ c.if-conflicts.true)))

pub returns-then-conflicts-clause-taken : goal.returns-then-conflicts-clause-taken
returns-then-conflicts-clause-taken c taken alone =
    let words = words_of c.args.words.now in
    let sub = rows_read line_app ordered_by is_program _ words c.in-Ok.matches c.in-Some.inner.now c.in-Some.name.now c.in_ok-command.ensures.0 c.in-Ok.ensures.matches c.in-Some.ensures.name
    c.in-Some.ensures.rows in
    let both : conflicts_in words ≡ true = conflicts_by words c.in-Some.name.now _ true sub (sym c.conflicts.ensures ∙ c.if-conflicts.true) in
    absurd (true≢false (sym both ∙ alone))

pub order_named-requires : goal.order_named-requires
order_named-requires c =
    let words = words_of c.args.words.now in
    let order = order_read line_app ordered_by is_program _ words c.in-Ok.matches c.in-Some.inner.now c.in-Some.name.now c.in_ok-command.ensures.0 c.in-Ok.ensures.matches c.in-Some.ensures.name
    c.in-Some.ensures.rows in
    sym (ap is_some order) ∙ order_there line_app ordered_by is_program words (no_fault line_app ordered_by is_program _ words c.in_ok-command.ensures.0 c.in-Ok.ensures.kinds)

pub returns-clause-order : goal.returns-clause-order
returns-clause-order c =
    let order = order_read line_app ordered_by is_program _ (words_of c.args.words.now) c.in-Ok.matches c.in-Some.inner.now c.in-Some.name.now c.in_ok-command.ensures.0 c.in-Ok.ensures.matches
    c.in-Some.ensures.name c.in-Some.ensures.rows in
    IfOk-weaker c.order_named.result _ _ (λ o e. order ∙ e) c.order_named.ensures.order

pub returns-clause-only_taken : goal.returns-clause-only_taken
returns-clause-only_taken c =
    let words = words_of c.args.words.now in
    let sub = rows_read line_app ordered_by is_program _ words c.in-Ok.matches c.in-Some.inner.now c.in-Some.name.now c.in_ok-command.ensures.0 c.in-Ok.ensures.matches c.in-Some.ensures.name
    c.in-Some.ensures.rows in
    let none = refusal_none line_app ordered_by words (no_fault line_app ordered_by is_program _ words c.in_ok-command.ensures.0 c.in-Ok.ensures.kinds) in
    let accepted = explained_by words None false none (conflicts_by words c.in-Some.name.now _ false sub (sym c.conflicts.ensures ∙ c.if-conflicts.false)) in
    IfOk-weaker c.order_named.result _ _ (λ o _. accepted) c.order_named.ensures.order
