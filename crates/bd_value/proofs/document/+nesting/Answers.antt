use Rattle.std.proofs.Common.{rules, arith, ◌≡◌, []}
use Rattle.bd_value.proofs.PartsLemmas as parted
use Rattle.bd_value.proofs.document.+nesting.Goals as goal

pub deepest-returns : goal.deepest-returns
deepest-returns g t c =
    let none : g.N.Reading.remaining c.loop-node.rest ≡ [] = search rules in
    let s = rw none at c.loop-node.invariant.so_far in
    omega (arith, s, c.loop-node.invariant.fits)

pub depth_of-deepest-requires : goal.depth_of-deepest-requires
depth_of-deepest-requires g t c κs within =
    let s = parted.parts_smaller (g.N.Reading.tree c.args.node) (g.N.Reading.remaining c.parts.result) c.parts.ensures.parts in
    let e = c.decreases in
    (omega arith, within)

pub depth_of-returns-in-Doc : goal.depth_of-returns-in-Doc
depth_of-returns-in-Doc g t c =
    let d = parted.parts_depth (g.N.Reading.tree c.args.node) (g.N.Reading.remaining c.parts.result) c.parts.ensures.parts in
    omega (arith, d, c.saturating_add.ensures, c.deepest.ensures)
