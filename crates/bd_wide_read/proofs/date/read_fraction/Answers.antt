use Rattle.std.proofs.Common.{sym, subst, refl}
use Rattle.std.specs.{Char.is_ascii_digit, List.AllPass}
use Rattle.bd_wide_read.proofs.DateLemmas.{digits_before, rest_within}
use Rattle.bd_wide_read.proofs.date.read_fraction.Goals as goal

pub overflow_sub-digits : goal.overflow_sub-digits
overflow_sub-digits c = rest_within _ _ (sym c.in_ok-rest-in-46.ensures)

pub thousandths-requires : goal.thousandths-requires
thousandths-requires c = subst (AllPass is_ascii_digit) (sym c.split_at.ensures.front) (digits_before _ _ _ (sym c.in_ok-rest-in-46.ensures) refl)
