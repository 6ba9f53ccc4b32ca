use Rattle.bd_extjson_text.proofs.ScalarLemmas.{high_below, low_below, pairs_of}
use Rattle.bd_extjson_text.proofs.scalar.digit_pairs.Goals as goal

pub digits_of-high-requires : goal.digits_of-high-requires
digits_of-high-requires c = (high_below c.args.bytes c.fits-bytes.0 c.fits-bytes.1).1

pub digits_of-low-requires : goal.digits_of-low-requires
digits_of-low-requires c = (low_below c.args.bytes c.fits-bytes.0).1

pub returns-clause-digits : goal.returns-clause-digits
returns-clause-digits c = pairs_of c.args.bytes c.digits_of-high.result c.digits_of-low.result c.fits-bytes.0 c.digits_of-high.ensures c.digits_of-low.ensures
