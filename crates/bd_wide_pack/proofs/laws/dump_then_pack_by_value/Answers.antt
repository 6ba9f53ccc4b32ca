use Rattle.bd_wide_pack.proofs.SameValuesLemmas.{packed_alike}
use Rattle.bd_wide_pack.proofs.laws.dump_then_pack_by_value.Goals as goal

pub returns : goal.returns
returns c =
    packed_alike c.double_text_is_read.ensures.same c.double_text_is_read.ensures.nan c.decimal128_text_is_read.ensures.read c.decimal128_text_is_read.ensures.once
