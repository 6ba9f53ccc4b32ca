use Rattle.std.proofs.Common.{◌≡◌, ◌≤◌, ◌%◌, arith, length, refl, rules}
use Rattle.std.proofs.Math.Nat.{pow-le-pow_right}
use Rattle.bd_wide_rank.proofs.LimbLemmas.{first, second, third, fourth, product}
use Rattle.bd_wide_rank.proofs.limbs.put_large.Goals as goal

pub scale_times-requires-clause-fits : goal.scale_times-requires-clause-fits
scale_times-requires-clause-fits c =
    let same : length c.put.new.limbs ≡ length c.args.limbs.now = search rules in
    rw (c.put.ensures, same) (first c.args.number c.args.twos c.args.fives 7450580596923828125 9223372036854775808 _ refl refl c.requires.fits)

pub pow-requires : goal.pow-requires
pow-requires c = let l : c.args.fives % 27 ≤ 26 = omega arith in omega (arith, pow-le-pow_right {n = 5} (omega arith) l)

pub scale-requires : goal.scale-requires
scale-requires c =
    let same : length c.scale_times.new.limbs ≡ length c.args.limbs.now = search rules in
    rw (c.scale_times.ensures, c.put.ensures, c.pow.ensures, same)
    (second c.args.number c.args.twos c.args.fives 7450580596923828125 9223372036854775808 _ refl refl c.requires.fits)

pub scale_times-requires-2-clause-fits : goal.scale_times-requires-2-clause-fits
scale_times-requires-2-clause-fits c =
    let same : length c.scale.new.limbs ≡ length c.args.limbs.now = search rules in
    rw (c.scale.ensures, c.scale_times.ensures, c.put.ensures, c.pow.ensures, same)
    (third c.args.number c.args.twos c.args.fives 7450580596923828125 9223372036854775808 _ refl refl c.requires.fits)

pub scale-requires-2 : goal.scale-requires-2
scale-requires-2 c =
    let same : length c.scale_times-2.new.limbs ≡ length c.args.limbs.now = search rules in
    rw (c.scale_times-2.ensures, c.scale.ensures, c.scale_times.ensures, c.put.ensures, c.pow.ensures, c.pow-2.ensures, same)
    (fourth c.args.number c.args.twos c.args.fives 7450580596923828125 9223372036854775808 _ refl refl c.requires.fits)

pub returns : goal.returns
returns c =
    rw (c.scale-2.ensures, c.scale_times-2.ensures, c.scale.ensures, c.scale_times.ensures, c.put.ensures, c.pow.ensures, c.pow-2.ensures)
    (product c.args.number c.args.twos c.args.fives 7450580596923828125 9223372036854775808 _ refl refl c.requires.fits)
