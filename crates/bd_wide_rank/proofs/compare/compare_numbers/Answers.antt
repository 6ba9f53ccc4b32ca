use Rattle.std.proofs.Common.{◌∙◌}
use Rattle.bd_wide_number.specs.Value.{value_of}
use Rattle.bd_wide_rank.proofs.WorthLemmas.{shape_near, worths_compare}
use Rattle.bd_wide_rank.proofs.compare.compare_numbers.Goals as goal

pub returns-in-Double-Double : goal.returns-in-Double-Double
unfolding value_of
returns-in-Double-Double c = rw (c.in-Double-Double.is-0, c.in-Double-Double.is-1) c.compare_doubles.ensures

pub returns-in_default : goal.returns-in_default
returns-in_default c =
    c.compare_parts.ensures _ _ c.parts.ensures.is c.parts-in_default.ensures.is
    ∙ worths_compare _ _ (shape_near _ _ c.parts.ensures.is) (shape_near _ _ c.parts-in_default.ensures.is)
