use Rattle.bd_wide_copy.proofs.StartsLemmas.{plain_exactly}
use Rattle.bd_wide_copy.proofs.dump.WideDump.is_plain.Goals as goal

pub returns : goal.returns
returns c = let d = c.args.self.now in plain_exactly d.bytes.items d.starts.items d.fit d.begin d.plain d.plain_is d.short
