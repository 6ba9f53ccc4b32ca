use Rattle.std.proofs.Common.{sym, ap, ◌∙◌}
use Rattle.bd_value.specs.Tree.{leaf, null, undefined}
use Rattle.bd_path.specs.Key.{key_tree}
use Rattle.bd_bson_view.specs.Raw.{value_tree}
use Rattle.bd_index.proofs.index.in_dump.Goals as goal

pub value_at-requires : goal.value_at-requires
value_at-requires c = (leaf null, c.null.ensures _)

pub value_at-requires-in-Undefined : goal.value_at-requires-in-Undefined
value_at-requires-in-Undefined c = (leaf undefined, c.undefined.ensures _)

pub returns-in-Null-clause-tree : goal.returns-in-Null-clause-tree
returns-in-Null-clause-tree c = c.value_at.ensures.value (leaf null) (c.null.ensures _) ∙ sym (ap (key_tree value_tree) c.in-Null.is)

pub returns-in-Undefined-clause-tree : goal.returns-in-Undefined-clause-tree
returns-in-Undefined-clause-tree c = c.value_at-in-Undefined.ensures.value (leaf undefined) (c.undefined.ensures _) ∙ sym (ap (key_tree value_tree) c.in-Undefined.is)
