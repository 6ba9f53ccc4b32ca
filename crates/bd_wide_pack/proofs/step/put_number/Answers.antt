use Rattle.std.proofs.Common.{subst, sym, ap, rules, SFits, w64, ◌∙◌}
use Rattle.std.proofs.lemmas.Int.{to_z-of_z}
use Rattle.std.specs.Prelude.{OnOk}
use Rattle.bd_wide_number.specs.declared.number.Number.{Number}
use Rattle.bd_wide_number.specs.declared.number.Number.TheVariants.{Whole}
use Rattle.bd_wide_pack.specs.inside.Mixed.{IsPut}
use Rattle.bd_wide_pack.proofs.step.put_number.Goals as goal

pub returns-in-Whole : goal.returns-in-Whole
returns-in-Whole c =
    let fits : SFits w64 c.in-Whole.z = search rules in
    let passed = ap Whole (to_z-of_z w64 c.in-Whole.z fits) in
    subst (λ (n : Number). OnOk c.put_whole.result (IsPut n c.args.name.now c.args.out.now.items c.put_whole.new.out.items)) (passed ∙ sym c.in-Whole.is) c.put_whole.ensures

pub returns-in-Double : goal.returns-in-Double
returns-in-Double c = subst (λ (n : Number). OnOk c.put_double.result (IsPut n c.args.name.now c.args.out.now.items c.put_double.new.out.items)) (sym c.in-Double.is) c.put_double.ensures

pub returns-in-Decimal128 : goal.returns-in-Decimal128
returns-in-Decimal128 c = subst (λ (n : Number). OnOk c.put_decimal128.result (IsPut n c.args.name.now c.args.out.now.items c.put_decimal128.new.out.items)) (sym c.in-Decimal128.is) c.put_decimal128.ensures
