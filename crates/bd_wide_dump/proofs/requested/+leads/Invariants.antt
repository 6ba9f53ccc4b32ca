use Rattle.std.proofs.Common.{length}
use Rattle.bd_wide_dump.proofs.requested.+leads.Given as goal

abbrev pub decreases-leads : goal.decreases-leads
decreases-leads l = length l.names.now
