-- Worked projections. The first five are of the MongoDB manual, "Project Fields to Return from Query".
use Rattle.std.specs.Prelude.{ℕ, List, [], ◌∷◌, codes, pos}
use Rattle.bd_value.specs.Tree.{Tree, leaf, doc, array, code_scope, Items, no_items, item, fields_of, items_of, Doc}
use Rattle.bd_value.specs.Tree as trees
use Rattle.bd_path.specs.Reach.{Names}

-- an int32
abbrev pub int : ℕ → Tree
int n = leaf (trees.int32 (pos n))

-- a text
abbrev pub word : List ℕ → Tree
word s = leaf (trees.text s)

-- a document as a value
abbrev pub document : Doc → Tree
document d = doc (fields_of d)

-- an array
abbrev pub elements : List Tree → Tree
elements ts = array (items_of ts)

-- {item: "journal", status: "A", size: {h: 14, w: 21, uom: "cm"}, instock: [{warehouse: "A", qty: 5}]}
abbrev pub journal : Doc
journal = (codes "item", word (codes "journal")) ∷ (codes "status", word (codes "A"))
    ∷ (codes "size", document ((codes "h", int 14) ∷ (codes "w", int 21) ∷ (codes "uom", word (codes "cm")) ∷ []))
    ∷ (codes "instock", elements (document ((codes "warehouse", word (codes "A")) ∷ (codes "qty", int 5) ∷ []) ∷ [])) ∷ []

-- {a: [{b: 1, c: 2}, 3, [{b: 4}, [5]], {c: 6}], b: 7, a: 8, b: {b: 9}}
abbrev pub mixed : Doc
mixed = (
  codes "a",
  elements (document ((codes "b", int 1) ∷ (codes "c", int 2) ∷ []) ∷ int 3
      ∷ elements (document ((codes "b", int 4) ∷ []) ∷ elements (int 5 ∷ []) ∷ []) ∷ document ((codes "c", int 6) ∷ []) ∷ []),
)
    ∷ (codes "b", int 7) ∷ (codes "a", int 8) ∷ (codes "b", document ((codes "b", int 9) ∷ [])) ∷ []

-- {s: code with the scope {x: 1}}
abbrev pub scoped : Doc
scoped = (codes "s", code_scope (codes "f()") (fields_of ((codes "x", int 1) ∷ []))) ∷ []

-- paths, a document, and what remains of it on these paths
abbrev pub rows : List (List Names × Doc × Doc)
rows = (
  ((codes "item" ∷ []) ∷ (codes "status" ∷ []) ∷ []),
  journal,
  (codes "item", word (codes "journal")) ∷ (codes "status", word (codes "A")) ∷ [],
)
    ∷ (
      ((codes "item" ∷ []) ∷ (codes "size" ∷ codes "uom" ∷ []) ∷ []),
      journal,
      (codes "item", word (codes "journal")) ∷ (codes "size", document ((codes "uom", word (codes "cm")) ∷ [])) ∷ [],
    )
    ∷ (
      ((codes "size" ∷ codes "uom" ∷ []) ∷ (codes "size" ∷ codes "h" ∷ []) ∷ []),
      journal,
      (codes "size", document ((codes "h", int 14) ∷ (codes "uom", word (codes "cm")) ∷ [])) ∷ [],
    )
    ∷ (
      ((codes "status" ∷ []) ∷ (codes "instock" ∷ codes "qty" ∷ []) ∷ []),
      journal,
      (codes "status", word (codes "A")) ∷ (codes "instock", elements (document ((codes "qty", int 5) ∷ []) ∷ [])) ∷ [],
    )
    ∷ (
      ((codes "size" ∷ []) ∷ []),
      journal,
      (codes "size", document ((codes "h", int 14) ∷ (codes "w", int 21) ∷ (codes "uom", word (codes "cm")) ∷ [])) ∷ [],
    )
    -- no field is requested, or there is none of that name
    ∷ ([], journal, [])
    ∷ (((codes "color" ∷ []) ∷ (codes "size" ∷ codes "color" ∷ []) ∷ []), journal, (codes "size", document []) ∷ [])
    -- a value on the way is neither a document nor an array
    ∷ (((codes "item" ∷ codes "name" ∷ []) ∷ (codes "b" ∷ []) ∷ []), journal, [])
    ∷ (((codes "s" ∷ codes "x" ∷ []) ∷ []), scoped, [])
    -- all fields of a name, in arrays within arrays too; an index is a name
    ∷ (((codes "b" ∷ []) ∷ []), mixed, (codes "b", int 7) ∷ (codes "b", document ((codes "b", int 9) ∷ [])) ∷ [])
    ∷ (((codes "b" ∷ codes "b" ∷ []) ∷ []), mixed, (codes "b", document ((codes "b", int 9) ∷ [])) ∷ [])
    ∷ (
      ((codes "a" ∷ codes "b" ∷ []) ∷ []),
      mixed,
      (
        codes "a",
        elements (document ((codes "b", int 1) ∷ [])
            ∷ elements (document ((codes "b", int 4) ∷ []) ∷ elements [] ∷ []) ∷ document [] ∷ []),
      ) ∷ [],
    )
    ∷ (
      ((codes "a" ∷ codes "0" ∷ []) ∷ []),
      mixed,
      (codes "a", elements (document [] ∷ elements (document [] ∷ elements [] ∷ []) ∷ document [] ∷ [])) ∷ [],
    )
    -- a name that has a full stop is one name, and no path has it
    ∷ (((codes "a" ∷ codes "b" ∷ []) ∷ []), (codes "a.b", int 1) ∷ [], [])
    ∷ []
