use Rattle.std.proofs.Common.{take}
use Rattle.std.specs.Int.{w64}
use Rattle.std.proofs.lemmas.Int.{to_z-of_z}
use Rattle.bd_extjson_text.proofs.JsonStringLemmas.{fits_64}
use Rattle.bd_extjson_text.proofs.TextLemmas.{written-int64}
use Rattle.bd_extjson_text.proofs.scalar.put_int64.Goals as goal

pub returns-clause-appended : goal.returns-clause-appended
returns-clause-appended c =
    rw (c.put_known.ensures.appended, c.put_signed-at.ensures.appended, c.put_known-at.ensures.appended, to_z-of_z w64 c.args.n c.ranges.n)
    (written-int64 (take c.args.end c.args.buffer.now) c.args.n (fits_64 c.args.n c.ranges.n))
