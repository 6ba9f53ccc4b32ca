use Rattle.std.proofs.Common.{◌≡◌, Less, ap, sym, ◌∙◌, arith, refl, inr, ℤ}
use Rattle.std.specs.Ordering.{int_cmp}
use Rattle.bd_wide_rank.specs.Worth.{worth_of}
use Rattle.bd_wide_rank.specs.Key.{key_worth}
use Rattle.bd_wide_rank.specs.inside.Key.{IsKey}
use Rattle.bd_wide_rank.proofs.KeyLemmas.{above_or, double_worth, inner_key}
use Rattle.bd_wide_rank.proofs.RankLemmas.{is_less}
use Rattle.bd_wide_rank.proofs.positioned.narrowed.Goals as goal

pub bits_of-requires : goal.bits_of-requires
bits_of-requires c =
    inner_key c.args.bounds.low c.args.bounds.high c.args.key _ c.requires.between
    (omega (arith, c.if-key-bounds.false)) (omega (arith, c.if-key-bounds-2.false))

pub returns-in-Less-clause-between : goal.returns-in-Less-clause-between
returns-in-Less-clause-between c =
    let b = c.requires.between in
    let key = c.args.key in
    let good : IsKey key = inner_key c.args.bounds.low c.args.bounds.high key _ b (omega (arith, c.if-key-bounds.false)) (omega (arith, c.if-key-bounds-2.false)) in
    let same : worth_of _ ≡ key_worth key = double_worth key c.bits_of.result c.bits_of.ensures in
    let order : Less ≡ int_cmp (key_worth key) (worth_of c.args.number) = sym c.in-Less.is ∙ c.compare_numbers.ensures ∙ ap (λ (v : ℤ). int_cmp v (worth_of c.args.number)) same in
    record {
      some = omega (arith, c.if-key-bounds.false);
      low_key = good;
      high_key = b.high_key;
      order = omega (arith, c.if-key-bounds-2.false);
      above = is_less _ _ (sym order);
      below = b.below;
    }

pub returns-in_default : goal.returns-in_default
returns-in_default c =
    let b = c.requires.between in
    let key = c.args.key in
    let good : IsKey key = inner_key c.args.bounds.low c.args.bounds.high key _ b (omega (arith, c.if-key-bounds.false)) (omega (arith, c.if-key-bounds-2.false)) in
    let same : worth_of _ ≡ key_worth key = double_worth key c.bits_of.result c.bits_of.ensures in
    record {
      between = record {
        some = b.some;
        low_key = b.low_key;
        high_key = good;
        order = omega (arith, c.if-key-bounds.false);
        above = b.above;
        below = above_or _ key c.requires.none good
            (λ e. c.in_default.not-Less (c.compare_numbers.ensures ∙ ap (λ (v : ℤ). int_cmp v (worth_of c.args.number)) same ∙ e));
      };
      inside = (omega arith, omega (arith, c.if-key-bounds-2.false));
      narrower = λ l h. inr refl;
    }
