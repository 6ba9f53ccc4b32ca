use Rattle.std.proofs.Common.{◌≡◌, ℕ, Bool, rules, sym, subst}
use Rattle.std.specs.Prelude.{true, unsigned_abs}
use Rattle.bd_wide_dump.specs.Plain.{IsInstantText, IsPlainDate}
use Rattle.bd_wide_dump.specs.RelaxedDate.{is_dated}
use Rattle.bd_wide_dump.proofs.RelaxedLemmas.{weaker}
use Rattle.bd_wide_dump.proofs.plain.append_date.Goals as goal

pub returns-then-is_dated : goal.returns-then-is_dated
returns-then-is_dated c =
    let z = c.args.milliseconds in
    let in_range : is_dated z ≡ true = search rules in
    let abs : c.unsigned_abs.result ≡ unsigned_abs z = search rules in
    weaker c.args.out.now.items c.args.end c.append_instant.new.out.items (IsInstantText c.unsigned_abs.result) (IsPlainDate (is_dated z) z) c.append_instant.result
    (λ text h.
    let P : ℕ → Type 0 = λ n. IsInstantText n text in
    let Q : Bool → Type 0 = λ b. IsPlainDate b z text in
    subst Q (sym in_range) (subst P abs h)) c.append_instant.ensures
