use Rattle.bd_wide_text.proofs.DoubleLemmas as words
use Rattle.bd_wide_text.proofs.double.word.Goals as goal

pub returns-then-bits-eq0-clause-word : goal.returns-then-bits-eq0-clause-word
returns-then-bits-eq0-clause-word c = words.zero_word c.args.bits c.if-bits-eq0.true

pub returns-then-bits-eq-SIGN-clause-word : goal.returns-then-bits-eq-SIGN-clause-word
returns-then-bits-eq-SIGN-clause-word c = words.minus_zero_word c.args.bits c.if-bits-eq-SIGN.true

pub returns-then-bits-eq-INFINITE-clause-word : goal.returns-then-bits-eq-INFINITE-clause-word
returns-then-bits-eq-INFINITE-clause-word c = words.infinity_word c.args.bits c.if-bits-eq-INFINITE.true

pub returns-then-bits-clause-word : goal.returns-then-bits-clause-word
returns-then-bits-clause-word c = words.minus_infinity_word c.args.bits c.if-bits.true

pub returns-then-bits-gt-INFINITE-clause-word : goal.returns-then-bits-gt-INFINITE-clause-word
returns-then-bits-gt-INFINITE-clause-word c = words.nan_word c.args.bits c.if-bits-gt-INFINITE.true

pub returns-clause-number : goal.returns-clause-number
returns-clause-number c = words.sized c.args.bits c.ranges.bits.fits c.if-bits-eq0.false c.if-bits-eq-SIGN.false c.if-bits-eq-INFINITE.false c.if-bits.false c.if-bits-gt-INFINITE.false
