-- The path in a text: its names, or why there is none.
use Rattle.std.specs.Prelude.{ℕ, List, ◌==◌, nat_lt, length, map, string_bytes, Result, Ok, Err, if◌then◌else◌, codes, []}
use Rattle.std.specs.{List.list_any, List.slice_split, Str.bytes_eq}
use Rattle.bd_value.specs.Limits.{most_names}
use Rattle.bd_path.specs.{Reach.Names, declared.component.Component.Component, declared.path.PathFault.PathFault}
use Rattle.bd_path.specs.declared.path.PathFault.TheVariants.{EmptyComponent, TooLong, NoMemory}

-- the components of a path in dot notation (MongoDB manual): the parts between dots;
-- the empty text has one empty part
abbrev pub components_of : List ℕ → Names
components_of text = slice_split (λ c. c == 46) text

-- the names of components in memory, in order
abbrev pub component_names : List Component → Names
component_names components = map (λ c. string_bytes c.name) components

-- the names of the path in a text; or its fault:
-- more than 100 names, which is tried first, or an empty name
abbrev pub path_of : List ℕ → Result Names PathFault
path_of text = let names = components_of text in
    if nat_lt most_names (length names) then Err TooLong
    else if list_any (bytes_eq []) names then Err EmptyComponent
    else Ok names

-- the number of a path fault in a reply
abbrev pub path_fault_number : PathFault → ℕ
path_fault_number EmptyComponent = 1
path_fault_number TooLong = 2
path_fault_number NoMemory = 3

-- the message of a path fault
unfoldable pub path_fault_words : PathFault → List ℕ
path_fault_words EmptyComponent = codes "empty component"
path_fault_words TooLong = codes "too many components"
path_fault_words NoMemory = codes "no memory"
