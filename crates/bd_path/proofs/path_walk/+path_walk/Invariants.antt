use Rattle.std.proofs.Common.{◌≡◌, ◌<◌, ◌+◌, ◌*◌, drop, take}
use Rattle.std.specs.List.{list_any}
use Rattle.bd_value.specs.{Tree.fields_of, Tree.fields_size, Tree.items_of, Tree.tree_size, Tree.values_of, Tree.elements_in}
use Rattle.bd_path.specs.{Path.component_names, Reach.each_collecting, Reach.is_document, PathWalk.stopping, inside.PathWalk.TakesStops}
use Rattle.bd_path.proofs.path_walk.+path_walk.Given as goal

abbrev pub decreases-path_walk_from : goal.decreases-path_walk_from
decreases-path_walk_from g l = 2 * tree_size (g.N.Reading.tree l.node) + 1

abbrev pub decreases-path_walk_documents : goal.decreases-path_walk_documents
decreases-path_walk_documents g l = 2 * tree_size (g.N.Reading.tree l.node)

abbrev pub decreases-path_walk_index : goal.decreases-path_walk_index
decreases-path_walk_index g l = 2 * tree_size (g.N.Reading.tree l.node)

-- the stops of the documents before those that remain were processed
abbrev pub invariant-path_walk_documents-loop-i : goal.invariant-path_walk_documents-loop-i
invariant-path_walk_documents-loop-i g l = record {
  remaining : values_of (g.N.Reading.remaining l.remaining) ≡ drop l.i (elements_in (g.N.Reading.tree l.fn.node));
  so_far : TakesStops (g.G.Collector.amounts l.collector) (g.G.Collector.is_new l.collector) (g.N.Reading.source l.fn.node) l.fn.found l.found
      (each_collecting stopping (items_of (take l.i (elements_in (g.N.Reading.tree l.fn.node)))) (drop l.k (component_names l.path)));
  has : l.has_document ≡ list_any is_document (take l.i (elements_in (g.N.Reading.tree l.fn.node)));
  source : g.N.Reading.rest_source l.remaining ≡ g.N.Reading.source l.fn.node;
  smaller : fields_size (fields_of (g.N.Reading.remaining l.remaining)) < tree_size (g.N.Reading.tree l.fn.node);
}
