use Rattle.std.proofs.Common.{◌≡◌, ◌+◌, ◌*◌, ◌≤◌, ◌++◌, ◌∷◌, [], length, take}
use Rattle.bd_value.specs.Tree.{doc, array, fields_of, items_of, tree_size, fields_size, values_of}
use Rattle.bd_extjson_text.specs.Text.{text, items_text, fields_text}
use Rattle.bd_extjson_text.proofs.TextLemmas.{to_come}
use Rattle.bd_extjson_text.proofs.text.+text.Given as goal

abbrev pub decreases-append_node : goal.decreases-append_node
decreases-append_node g l = 3 * tree_size (g.N.Reading.tree l.node) + 2

abbrev pub decreases-append_long : goal.decreases-append_long
decreases-append_long g l = 3 * tree_size (g.N.Reading.tree l.node) + 1

abbrev pub decreases-append_scope : goal.decreases-append_scope
decreases-append_scope g l = 3 * tree_size (g.N.Reading.tree l.node)

abbrev pub decreases-append_fields : goal.decreases-append_fields
decreases-append_fields g l = 3 * fields_size (fields_of (g.N.Reading.remaining l.fields))

-- a name adds nothing to the size, so the fields of an array's elements have the size of its items
abbrev pub decreases-append_items : goal.decreases-append_items
decreases-append_items g l = 3 * fields_size (fields_of (g.N.Reading.remaining l.items))

-- what is written and what remains are together the whole text
abbrev pub invariant-append_fields-loop-name : goal.invariant-append_fields-loop-name
invariant-append_fields-loop-name g l = record {
  whole : take l.at l.out.items ++ (to_come l.later 44 (fields_text (fields_of (g.N.Reading.remaining l.rest))) ++ 125 ∷ []) ≡ take l.end l.fn.out.items
      ++ text (doc (fields_of (g.N.Reading.remaining l.fn.fields)));
  unchanged : take l.end l.out.items ≡ take l.end l.fn.out.items;
  inside : l.at ≤ length l.out.items;
  after : l.end ≤ l.at;
  fewer : fields_size (fields_of (g.N.Reading.remaining l.rest)) ≤ fields_size (fields_of (g.N.Reading.remaining l.fn.fields));
}

abbrev pub decreases-append_fields-loop-name : goal.decreases-append_fields-loop-name
decreases-append_fields-loop-name g l = length (g.N.Reading.remaining l.rest)

abbrev pub invariant-append_items-loop-node : goal.invariant-append_items-loop-node
invariant-append_items-loop-node g l = record {
  whole : take l.at l.out.items ++ (to_come l.later 44 (items_text (items_of (values_of (g.N.Reading.remaining l.rest)))) ++ 93 ∷ [])
      ≡ take l.end l.fn.out.items ++ text (array (items_of (values_of (g.N.Reading.remaining l.fn.items))));
  unchanged : take l.end l.out.items ≡ take l.end l.fn.out.items;
  inside : l.at ≤ length l.out.items;
  after : l.end ≤ l.at;
  fewer : fields_size (fields_of (g.N.Reading.remaining l.rest)) ≤ fields_size (fields_of (g.N.Reading.remaining l.fn.items));
}

abbrev pub decreases-append_items-loop-node : goal.decreases-append_items-loop-node
decreases-append_items-loop-node g l = length (g.N.Reading.remaining l.rest)
