use Rattle.std.proofs.Common.{refl, arith, w8}
use Rattle.std.proofs.lemmas.Simd.{SwzOk-from_below}
use Rattle.bd_extjson_text.proofs.ScalarLemmas.{looked_up}
use Rattle.bd_extjson_text.proofs.scalar.digits_of.Goals as goal

pub swizzle : goal.swizzle
swizzle c = SwzOk-from_below w8 16 1 16 0 c.args.numbers refl (omega (arith, c.fits-numbers.0)) c.requires

pub returns : goal.returns
returns c = looked_up c.args.numbers c.fits-numbers.0 c.requires
