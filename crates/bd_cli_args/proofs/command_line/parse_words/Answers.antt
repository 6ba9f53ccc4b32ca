use Rattle.bd_cli_args.proofs.LineLemmas.{answered, file_escaped_taken, file_taken}
use Rattle.bd_cli_args.proofs.command_line.parse_words.Goals as goal

pub returns-clause-file : goal.returns-clause-file
returns-clause-file c name file order which plain other is =
    answered c.order_taken.result _ _ _ is (file_taken name file order which plain) other
    c.order_taken.ensures.order c.order_taken.ensures.fault

pub returns-clause-escaped : goal.returns-clause-escaped
returns-clause-escaped c name file order which other is =
    answered c.order_taken.result _ _ _ is (file_escaped_taken name file order which) other
    c.order_taken.ensures.order c.order_taken.ensures.fault
