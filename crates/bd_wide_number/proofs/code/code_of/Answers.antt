use Rattle.std.proofs.Common.{◌*◌, ◌∙◌, ap, of_z, pos, rules, SFits, sym, to_z, w64, ℕ, ℤ}
use Rattle.std.proofs.lemmas.Int.{to_z-of_z}
use Rattle.std.specs.Prelude.{int_lt, unsigned_abs}
use Rattle.bd_wide_number.specs.Value.{one, value_of, whole_value}
use Rattle.bd_wide_number.specs.Code.{double_code, double_part}
use Rattle.bd_wide_number.proofs.CodeLemmas.{same_passed}
use Rattle.bd_wide_number.proofs.code.code_of.Goals as goal

pub returns-in-Whole : goal.returns-in-Whole
unfolding value_of whole_value double_code one
returns-in-Whole c =
    let z = c.in-Whole.z in
    let fits : SFits w64 z = search rules in
    let given = to_z w64 (of_z w64 z) in
    rw c.in-Whole.is (c.double_part.ensures
    ∙ ap (λ (n : ℕ). double_part (int_lt given (pos 0)) (n * one)) c.unsigned_abs.ensures.value
    ∙ ap (λ (y : ℤ). double_part (int_lt y (pos 0)) (unsigned_abs y * one)) (to_z-of_z w64 z fits))

pub returns-in-Double : goal.returns-in-Double
unfolding value_of
returns-in-Double c = rw c.in-Double.is (same_passed _ (search rules) ∙ sym c.code_of_double.ensures)

pub returns-in-Decimal128 : goal.returns-in-Decimal128
unfolding value_of
returns-in-Decimal128 c = rw c.in-Decimal128.is c.decimal128_code.ensures
