use Rattle.std.proofs.Common.{◌≡◌, false, ◌||◌, None, sym, ap, ◌∙◌, [], ◌∷◌}
use Rattle.bd_value.specs.{Tree.values_of, Tree.elements_in, Tree.leaf}
use Rattle.bd_value.specs.Tree as trees
use Rattle.bd_path.specs.{inside.Sort.earliest_key, Key.or_else}
use Rattle.bd_path.proofs.SortLemmas as first
use Rattle.bd_path.proofs.PathWalkLemmas as key
use Rattle.bd_path.proofs.sort.earliest_end.Goals as goal

pub returns-in-None : goal.returns-in-None
returns-in-None g c =
    let n = g.N.Reading.tree c.args.node in
    let array = sym c.kind.ensures ∙ c.in-Array.is in
    let none : None ≡ earliest_key c.args.dir (elements_in n) = rw (c.in-None.is, c.in_default-next.ensures.none) at c.loop-next.invariant.so_far in
    let empty = first.no_earliest c.args.dir (elements_in n) none in
    record {
      tree = ap (earliest_key c.args.dir) (sym (first.ends_of_array n array ∙ ap (λ es. or_else es (leaf trees.undefined ∷ [])) empty));
      same_source = tt;
      at_stops = ap (λ b. b || false) (key.empty_array n array empty);
    }

pub returns-in-Some-earliest-clause-at_stops : goal.returns-in-Some-earliest-clause-at_stops
returns-in-Some-earliest-clause-at_stops g c = rw c.in-Some-earliest.is at c.loop-next.invariant.at_stops

pub loop-next-preserved : goal.loop-next-preserved
loop-next-preserved g c = record {
  so_far = first.end_on c.args.dir _ _ (g.N.Reading.tree c.in-Some.next.1) _ (values_of (g.N.Reading.remaining c.in-Some.next.2)) _
      c.loop-next.invariant.so_far (ap values_of c.in-Some.ensures.some) c.earlier.ensures.tree;
  same_source = first.of_either _ _ _ _ c.earlier.ensures.either c.loop-next.invariant.same_source (c.in-Some.ensures.same_source ∙ c.loop-next.invariant.source);
  at_stops = first.of_either _ _ _ _ c.earlier.ensures.either c.loop-next.invariant.at_stops tt;
  source = c.in-Some.ensures.rest ∙ c.loop-next.invariant.source;
}
