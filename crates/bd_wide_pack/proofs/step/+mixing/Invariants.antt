use Rattle.std.proofs.Common.{◌+◌, ◌*◌, ◌≡◌, ◌≤◌, length}
use Rattle.bd_value.specs.Tree.{fields_of, fields_size, tree_size}
use Rattle.bd_bson_view.specs.Raw.{value_tree, remaining_pairs, elements_source}
use Rattle.bd_wide_pack.specs.inside.Mixed.{Goes}
use Rattle.bd_wide_pack.proofs.step.+mixing.Given as goal

abbrev pub decreases-value : goal.decreases-value
decreases-value l = 4 * tree_size (value_tree l.whole) + 1

abbrev pub decreases-document : goal.decreases-document
decreases-document l = 4 * tree_size (value_tree l.whole)

abbrev pub decreases-array : goal.decreases-array
decreases-array l = 4 * tree_size (value_tree l.whole)

abbrev pub decreases-scoped : goal.decreases-scoped
decreases-scoped l = 4 * tree_size (value_tree l.whole)

abbrev pub decreases-elements : goal.decreases-elements
decreases-elements l = 4 * fields_size (fields_of (remaining_pairs l.wholes)) + 2

abbrev pub decreases-body : goal.decreases-body
decreases-body l = 4 * fields_size (fields_of (remaining_pairs l.wholes)) + 3

abbrev pub invariant-elements-loop-name : goal.invariant-elements-loop-name
invariant-elements-loop-name l = record {
  goes : Goes l.named (remaining_pairs l.fn.wholes) (remaining_pairs l.fn.texts) l.fn.numbers l.index (remaining_pairs l.whole_rest) (remaining_pairs l.text_rest) l.rest l.fn.out.items l.out.items;
  wholes_source : elements_source l.whole_rest ≡ l.sources.wholes.now;
  texts_source : elements_source l.text_rest ≡ l.sources.texts.now;
  smaller : fields_size (fields_of (remaining_pairs l.whole_rest)) ≤ fields_size (fields_of (remaining_pairs l.fn.wholes));
}

abbrev pub decreases-elements-loop-name : goal.decreases-elements-loop-name
decreases-elements-loop-name l = length (remaining_pairs l.whole_rest)
