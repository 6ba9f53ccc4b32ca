use Rattle.std.proofs.Common.{◌∙◌, ap, sym, inl, inr, arith}
use Rattle.std.specs.Prelude.{option_map}
use Rattle.bd_value.specs.View.{view_of}
use Rattle.bd_value.proofs.FitsLemmas as fitting
use Rattle.bd_value.proofs.PartsLemmas.{parts_smaller}
use Rattle.bd_value.proofs.document.+fits.Goals as goal
use Rattle.bd_value.proofs.document.+fits.Goals.{node_fits-in-Some, node_fits-in_default-leaf}

pub node_fits-parts_fit-requires : goal.node_fits-parts_fit-requires
node_fits-parts_fit-requires g t c κs within =
    let s = parts_smaller (g.N.Reading.tree c.args.node) (g.N.Reading.remaining c.parts.result) c.parts.ensures.parts in
    let e = c.decreases in
    (omega arith, within)

pub node_fits-returns-in-Doc : goal.node_fits-returns-in-Doc
node_fits-returns-in-Doc g t c = fitting.parts_fit _ (g.N.Reading.tree c.args.node) (g.N.Reading.remaining c.parts.result) c.parts.ensures.parts c.parts_fit.ensures

pub node_fits-returns-in_default-scope : goal.node_fits-returns-in_default-scope
node_fits-returns-in_default-scope g t c =
    let tree = g.N.Reading.tree c.args.node in
    let scope = sym c.scope.ensures.scope ∙ ap (option_map g.N.Reading.tree) c.in_default-scope.is in
    elim c.match-leaf.branch [
      | node_fits-in-Some w ↦
          let scalar_leaf = sym c.leaf.ensures ∙ ap (option_map view_of) w.in-Some.is in
          fitting.leaf_fits _ tree (view_of w.in-Some.scalar_leaf) scalar_leaf scope w.scalar_fits.ensures
      | node_fits-in_default-leaf w ↦
          absurd (elim (fitting.no_leaf tree (sym c.leaf.ensures ∙ ap (option_map view_of) w.in_default-leaf.is)) [
            | inl is ↦ c.in_default.not-Doc (c.kind.ensures ∙ is)
            | inr is ↦ c.in_default.not-Array (c.kind.ensures ∙ is)
          ])
    ]
