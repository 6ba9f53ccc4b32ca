use Rattle.std.proofs.Common.{◌≡◌, false, [], ◌∷◌, length, option_map}
use Rattle.std.specs.Prelude.{IfSome}
use Rattle.bd_value.specs.Tree.{values_of, elements_in}
use Rattle.bd_path.specs.{inside.Sort.earlier_key, inside.Sort.earliest_key, Key.IsKeyAt, Key.IsKeyOf, Key.key_tree, declared.path_walk.Stop.TheVariants.Value}
use Rattle.bd_path.proofs.sort.earliest_end.Given as goal

-- the earliest so far, and that of those that remain, give the earliest of all
abbrev pub invariant-loop-next : goal.invariant-loop-next
invariant-loop-next g l = record {
  so_far : earlier_key l.dir (option_map (key_tree g.N.Reading.tree) l.earliest) (earliest_key l.dir (values_of (g.N.Reading.remaining l.remaining)))
      ≡ earliest_key l.dir (elements_in (g.N.Reading.tree l.fn.node));
  same_source : IfSome l.earliest (λ k. IsKeyOf g.N.Reading.source (g.N.Reading.source l.fn.node) k);
  at_stops : IfSome l.earliest (IsKeyAt false (Value (g.N.Reading.tree l.fn.node) ∷ []));
  source : g.N.Reading.rest_source l.remaining ≡ g.N.Reading.source l.fn.node;
}

abbrev pub decreases-loop-next : goal.decreases-loop-next
decreases-loop-next g l = length (g.N.Reading.remaining l.remaining)
