-- The sort key of a document, and the order of two documents in a sort (MongoDB manual, "cursor.sort()").
use Rattle.std.specs.Prelude.{List, [], ◌∷◌, map, unwrap_or, if◌then◌else◌}
use Rattle.std.specs.{List.reduce, Ordering.is_lt, Ordering.ordering_reverse, Ordering.ordering_then}
use Rattle.std.specs.{declared.cmp.Ordering.Ordering, declared.cmp.Ordering.TheVariants.Equal}
use Rattle.bd_value.specs.{Order.cmp, Tree.Tree, Tree.leaf, Tree.null}
use Rattle.bd_path.specs.{Key.keys, PathNames.names_of}
use Rattle.bd_path.specs.{Reach.Names, declared.path.Path.Path, declared.sort.Dir.Dir}
use Rattle.bd_path.specs.{declared.sort.Dir.TheVariants.Up, declared.sort.Dir.TheVariants.Down}

-- the order of two keys in a direction of a sort: for 1 (Up) the comparison order, for -1 (Down) the reverse
abbrev pub dir_cmp : Dir → Tree → Tree → Ordering
dir_cmp Up a b = cmp a b
dir_cmp Down a b = ordering_reverse (cmp a b)

-- the one of two keys that comes first in the direction; of equal ones the first
abbrev pub earlier : Dir → Tree → Tree → Tree
earlier dir a b = if is_lt (dir_cmp dir b a) then b else a

-- the key by which a document is sorted: the least of its keys on the path for 1,
-- the greatest for -1 (MongoDB manual, "Sort"); of equal ones the first. It has at least one.
abbrev pub sort_key : Dir → Tree → Names → Tree
sort_key dir t path = unwrap_or (reduce (earlier dir) (keys t path)) (leaf null)

-- one path of a sort, and its direction
pub record SortPath : Type 0 where
  pub path : Names
  pub dir : Dir

-- the order of two documents in a sort: the first path on which their
-- sort keys differ decides; else they are equal
abbrev pub sort_cmp : List SortPath → Tree → Tree → Ordering
sort_cmp [] a b = Equal
sort_cmp (s ∷ ss) a b =
    ordering_then (dir_cmp s.dir (sort_key s.dir a s.path) (sort_key s.dir b s.path)) (sort_cmp ss a b)

-- the paths and directions of a sort in memory, in order
abbrev pub sort_paths : List (Path × Dir) → List SortPath
sort_paths sort = map (λ s. record { path = names_of s.0; dir = s.1 }) sort
