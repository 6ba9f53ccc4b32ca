use Rattle.std.proofs.Common.{◌∙◌, arith, sym}
use Rattle.bd_wide_number.proofs.CodeLemmas.{bits_code, nan_code, passed}
use Rattle.bd_wide_number.proofs.code.code_of_double.Goals as goal

pub returns-then-size-gt-INFINITE : goal.returns-then-size-gt-INFINITE
returns-then-size-gt-INFINITE c = nan_code c.args.bits c.if-size-gt-INFINITE.true

pub returns-else-size-gt-INFINITE : goal.returns-else-size-gt-INFINITE
returns-else-size-gt-INFINITE c =
    bits_code c.args.bits c.if-size-gt-INFINITE.false ∙ sym (passed _ _ _ (omega arith) c.signed.ensures)
