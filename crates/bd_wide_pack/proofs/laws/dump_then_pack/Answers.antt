use Rattle.bd_wide_pack.proofs.RoundTripLemmas.{given_back, packed_once}
use Rattle.bd_wide_pack.proofs.laws.dump_then_pack.Goals as goal

pub returns-clause-packed : goal.returns-clause-packed
returns-clause-packed c =
    given_back c.double_text_is_read.ensures.same c.double_text_is_read.ensures.nan c.decimal128_text_is_read.ensures.read c.decimal128_text_is_read.ensures.once

pub returns-clause-once : goal.returns-clause-once
returns-clause-once c = packed_once c.numbers_differ.ensures c.texts_are_read_once.ensures.read
