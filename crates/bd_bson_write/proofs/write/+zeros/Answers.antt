use Rattle.std.proofs.Common.{arith, sym, ap, ◌∙◌}
use Rattle.bd_value.proofs.PartsLemmas as parted
use Rattle.bd_value.specs.Fits.{zero_in}
use Rattle.bd_bson_write.proofs.WritingLemmas as writes
use Rattle.bd_bson_write.proofs.write.+zeros.Goals as goal

pub contains_zero-zero_in_some-requires : goal.contains_zero-zero_in_some-requires
contains_zero-zero_in_some-requires g t c κs within =
    let s = parted.parts_smaller (g.N.Reading.tree c.args.node) (g.N.Reading.remaining c.parts.result) c.parts.ensures.parts in
    let e = c.decreases in
    (omega arith, within)

pub contains_zero-zero_in_some-requires-in-Array : goal.contains_zero-zero_in_some-requires-in-Array
contains_zero-zero_in_some-requires-in-Array g t c κs within =
    let s = parted.parts_smaller (g.N.Reading.tree c.args.node) (g.N.Reading.remaining c.parts-in-Array.result) c.parts-in-Array.ensures.parts in
    let e = c.decreases in
    (omega arith, within)

pub contains_zero-returns-in-Doc : goal.contains_zero-returns-in-Doc
contains_zero-returns-in-Doc g t c =
    let is = parted.doc_is (g.N.Reading.tree c.args.node) (g.N.Reading.remaining c.parts.result) (sym c.kind.ensures ∙ c.in-Doc.is) c.parts.ensures.parts in
    c.zero_in_some.ensures ∙ writes.zero_in_pairs (g.N.Reading.remaining c.parts.result) ∙ sym (ap zero_in is)

pub contains_zero-returns-in-Array : goal.contains_zero-returns-in-Array
contains_zero-returns-in-Array g t c =
    let is = parted.array_is (g.N.Reading.tree c.args.node) (g.N.Reading.remaining c.parts-in-Array.result) (sym c.kind.ensures ∙ c.in-Array.is) c.parts-in-Array.ensures.parts in
    c.zero_in_some-in-Array.ensures ∙ writes.zero_in_elements (g.N.Reading.remaining c.parts-in-Array.result) ∙ sym (ap zero_in is)
