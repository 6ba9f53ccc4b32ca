use Rattle.bd_wide_read.proofs.DecimalLemmas.{one_many, one_more, one_zero}
use Rattle.bd_wide_read.proofs.decimal128.with_digit.Goals as goal

pub returns-then-kept-lt-FULL-clause-value : goal.returns-then-kept-lt-FULL-clause-value
returns-then-kept-lt-FULL-clause-value c = one_more c.args.kept.number c.args.kept.zeros c.args.c c.requires.digit c.requires.limits c.if-kept-lt-FULL.true

pub returns-then-digit-ne0-clause-none : goal.returns-then-digit-ne0-clause-none
returns-then-digit-ne0-clause-none c = one_many c.args.kept.number c.args.kept.zeros c.args.c c.requires.digit c.if-kept-lt-FULL.false c.if-digit-ne0.true

pub returns-clause-value : goal.returns-clause-value
returns-clause-value c = one_zero c.args.kept.number c.args.kept.zeros c.args.c c.requires.digit c.if-digit-ne0.false
