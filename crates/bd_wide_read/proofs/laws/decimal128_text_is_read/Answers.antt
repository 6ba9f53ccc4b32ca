use Rattle.bd_wide_read.proofs.DecimalTextLemmas.{decimal_is_read, decimal_read}
use Rattle.bd_wide_read.proofs.laws.decimal128_text_is_read.Goals as goal

pub returns-clause-read : goal.returns-clause-read
returns-clause-read c = decimal_is_read

pub returns-clause-once : goal.returns-clause-once
returns-clause-once c = decimal_read
