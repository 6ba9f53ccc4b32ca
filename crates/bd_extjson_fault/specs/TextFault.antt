-- The fault of a text that is not a document: which rule it breaks, and at which byte.
use Rattle.std.specs.Prelude.{ℕ, ◌-◌, List, length, if◌then◌else◌, Option, Some, None, Ok, Err, unwrap_or}
use Rattle.std.specs.{Str.is_utf8, Str.Lossy.utf8_valid_len}
use Rattle.bd_value.specs.Limits.{most_brackets, most_levels}
use Rattle.bd_extjson_fault.specs.JsonSyntax.{Beyond, beyond_text}
use Rattle.bd_extjson_fault.specs.TreeFault.{opens_document, value_fault}
use Rattle.bd_extjson_fault.specs.declared.json_fault.JsonFault.{JsonFault}
use Rattle.bd_extjson_fault.specs.declared.json_fault.JsonFaultKind.{JsonFaultKind}
use Rattle.bd_extjson_fault.specs.declared.json_fault.JsonFaultKind.TheVariants as kinds
use Rattle.bd_extjson_fault.specs.declared.skip.Stop.{Stop}
use Rattle.bd_extjson_fault.specs.declared.skip.StopKind.{StopKind}
use Rattle.bd_extjson_fault.specs.declared.skip.StopKind.TheVariants as stops
use Rattle.bd_extjson_fault.specs.declared.tree_fault.TreeFault.{TreeFault}
use Rattle.bd_extjson_fault.specs.declared.tree_fault.TreeFaultKind.{TreeFaultKind}
use Rattle.bd_extjson_fault.specs.declared.tree_fault.TreeFaultKind.TheVariants as trees

-- the kind of a fault of the syntax, as it is reported
abbrev pub kind_of_stop : StopKind → JsonFaultKind
kind_of_stop stops.Syntax = kinds.Syntax
kind_of_stop stops.TooDeep = kinds.TooDeep
kind_of_stop stops.TrailingText = kinds.TrailingText

-- the kind of a fault of the tree, as it is reported
abbrev pub kind_in_tree : TreeFaultKind → JsonFaultKind
kind_in_tree trees.TooDeep = kinds.TooDeep
kind_in_tree trees.BadWrapper = kinds.BadWrapper
kind_in_tree trees.NotInProfile = kinds.NotInProfile
kind_in_tree trees.NumberRange = kinds.NumberRange
kind_in_tree trees.NulInName = kinds.NulInName

-- a fault of the syntax with its byte, counted from the start of a text of this length
abbrev pub stop_in : ℕ → Stop → JsonFault
stop_in size stop = record { kind = kind_of_stop stop.kind; at = size - stop.remaining }

-- a fault of the tree with its byte, counted from the start of a text of this length
abbrev pub fault_in : ℕ → TreeFault → JsonFault
fault_in size fault = record { kind = kind_in_tree fault.kind; at = size - fault.remaining }

-- for a text that is JSON: the first fault of its tree, and last that it is not a document, which has no offset
abbrev pub tree_or_none : List ℕ → Option TreeFault → Option JsonFault
tree_or_none text (Some fault) = Some (fault_in (length text) fault)
tree_or_none text None = if opens_document text then None else Some (record { kind = kinds.NotADocument; at = 0 })

-- the fault of a text by the result of its syntax: that of the syntax, else the first of its tree
abbrev pub fault_after : List ℕ → Beyond → Option JsonFault
fault_after text (Err stop) = Some (stop_in (length text) stop)
fault_after text (Ok rest) = tree_or_none text (value_fault most_brackets most_levels text)

-- The first fault of a text: a byte at which it is not UTF-8; then one at which it is not JSON; then the faults of its tree.
unfoldable pub first_fault_in : List ℕ → Option JsonFault
first_fault_in text = if is_utf8 text then fault_after text (beyond_text text)
    else Some (record { kind = kinds.Syntax; at = utf8_valid_len text })

-- the same; for a text without a fault, that it ends
abbrev pub text_fault : List ℕ → JsonFault
text_fault text = unwrap_or (first_fault_in text) (record { kind = kinds.Syntax; at = length text })
