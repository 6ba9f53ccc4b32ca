use Rattle.std.proofs.Common.{sym}
use Rattle.bd_wide_substitute.proofs.OriginLemmas.{uuid_long}
use Rattle.bd_wide_substitute.proofs.scan.uuid_count.Goals as goal

pub returns : goal.returns
returns c = sym (uuid_long c.args.bytes c.uuid_fits.ensures.length c.uuid_fits.ensures.bytes)
