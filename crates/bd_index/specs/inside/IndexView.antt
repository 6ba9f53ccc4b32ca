-- The dump of an index in memory: where the keys of its entries are in the bytes of the dump.
use Rattle.std.specs.Prelude.{◌≡◌, ℕ, List}
use Rattle.bd_bson_view.specs.Raw.{value_source, value_tree}
use Rattle.bd_index.specs.Entries.{KeyAt}
use Rattle.bd_index.specs.{declared.entry.FoundKey.FoundKey}

-- the entry of a found key: the value of the key, and its document number
abbrev pub found_entry : FoundKey → KeyAt
found_entry f = (value_tree f.key, f.place)

-- The found key is a view into these bytes.
abbrev pub IsFoundIn : List ℕ → FoundKey → Type 0
IsFoundIn bytes f = value_source f.key ≡ bytes
