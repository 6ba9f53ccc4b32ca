-- The names and the text of a path in memory.
use Rattle.std.specs.Prelude.{ℕ, List, string_bytes}
use Rattle.bd_path.specs.{Path.component_names, Reach.Names, declared.path.Path.Path}

-- the names of a path in memory, from the top of a document down
abbrev pub names_of : Path → Names
names_of path = component_names path.components.items

-- the text of a path in memory, from which it was parsed
abbrev pub path_text : Path → List ℕ
path_text path = string_bytes path.text
