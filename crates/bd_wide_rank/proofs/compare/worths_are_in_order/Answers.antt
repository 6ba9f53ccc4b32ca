use Rattle.bd_wide_rank.proofs.WorthLemmas.{in_order, shape_near}
use Rattle.bd_wide_rank.proofs.compare.worths_are_in_order.Goals as goal

pub returns-clause-less : goal.returns-clause-less
returns-clause-less c = (in_order _ _ (shape_near _ _ c.parts-first.ensures.is) (shape_near _ _ c.parts-second.ensures.is)).0

pub returns-clause-equal : goal.returns-clause-equal
returns-clause-equal c = (in_order _ _ (shape_near _ _ c.parts-first.ensures.is) (shape_near _ _ c.parts-second.ensures.is)).1
