use Rattle.bd_wide.specs.inside.Rewritten.{holder_least}
use Rattle.bd_wide.proofs.rewrite.whole.Goals as goal

pub nested-requires : goal.nested-requires
unfolding holder_least
nested-requires g c = c.if-bytes-lt5.false
