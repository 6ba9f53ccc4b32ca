use Rattle.std.proofs.Common.{◌≡◌, ◌*◌, ◌^◌, subst, sym, ℕ, IfSome, IfNone}
use Rattle.bd_wide_read.specs.declared.decimal128.Kept.{Kept}
use Rattle.bd_wide_read.specs.inside.Digits.{HasTooMany}
use Rattle.bd_wide_read.proofs.DecimalLemmas.{if_none, many_after, value_after, value_append}
use Rattle.bd_wide_read.proofs.decimal128.kept_digits.Goals as goal

pub returns-in_err-kept-clause-none : goal.returns-in_err-kept-clause-none
returns-in_err-kept-clause-none c = if_none _
    (subst HasTooMany (sym (value_append c.args.whole.now c.args.fraction.now 0)) (many_after c.args.fraction.now _ c.requires.fraction c.in_err-kept.ensures.none))

pub returns-clause-value : goal.returns-clause-value
returns-clause-value c =
    subst (λ (v : ℕ). IfSome c.with_digits-2.result (λ (k : Kept). k.number * 10 ^ k.zeros ≡ v))
    (value_after c.args.whole.now c.args.fraction.now _ c.in_ok-kept.ensures.value) c.with_digits-2.ensures.value

pub returns-clause-none : goal.returns-clause-none
returns-clause-none c =
    subst (λ (v : ℕ). IfNone c.with_digits-2.result (HasTooMany v))
    (value_after c.args.whole.now c.args.fraction.now _ c.in_ok-kept.ensures.value) c.with_digits-2.ensures.none
