-- Which command a document is, the first fault if it is none, and the rules for its fields.
use Rattle.std.specs.Prelude.{◌≡◌, ◌<◌, ◌⊎◌, ℕ, false, List, [], ◌∷◌, ◌++◌, length, take, slice_get, codes, Option}
use Rattle.std.specs.Prelude.{Some, None, Result, Ok, Err, if◌then◌else◌, is_some, option_and_then, unwrap_or}
use Rattle.std.specs.{Option.option_map_or, Option.option_or, List.list_all}
use Rattle.bd_value.specs.Tree.{first_of, Doc, Pair, Tree}
use Rattle.bd_cli_command.specs.declared.{command.CommandFault.CommandFault as Fault, field.CommandName.CommandName as Name}
use Rattle.bd_cli_command.specs.Command.{Command, FindCommand, any_way, creates_index, drops_index, explains, finds}
use Rattle.bd_cli_command.specs.Command.{gets_more, kills_cursor, resumes}
use Rattle.bd_cli_command.specs.Field.{command_fields, command_names, count_field, document_field, entry_of, fits_field}
use Rattle.bd_cli_command.specs.Field.{hint_field, required_fields, text_field, truth_field}

-- the command that the first name of a document names; None for any other name
abbrev pub first_command : Doc → Option Name
first_command [] = None
first_command (p ∷ ps) = entry_of p.0 command_names

-- the fault of a field, if any: the field occurred before, the command has no such field,
-- or its value is of another kind
abbrev pub pair_fault : Name → Doc → Pair → Option Fault
pair_fault command before p = if is_some (first_of p.0 before) then Some Fault.RepeatedField
    else option_map_or (λ kind. if fits_field kind p.1 then None else Some Fault.BadField)
    (entry_of p.0 (command_fields command)) (Some Fault.UnknownField)

-- the fault that a required field is missing, if one is
abbrev pub missing_fault : Name → Doc → Option Fault
missing_fault command d =
    if list_all (λ name. is_some (first_of name d)) (required_fields command) then None else Some Fault.MissingField

-- the first fault of fields, after those in `before`; a missing field comes last
abbrev pub pairs_fault : Name → Doc → Doc → Option Fault
pairs_fault command before [] = missing_fault command before
pairs_fault command before (p ∷ ps) =
    option_or (pair_fault command before p) (pairs_fault command (before ++ p ∷ []) ps)

-- the value of the first field of that name; `otherwise` if there is none
abbrev pub field_value : {A : Type 0} → (Tree → Option A) → A → List ℕ → Doc → A
field_value read otherwise name d = unwrap_or (option_and_then read (first_of name d)) otherwise

-- the search in the fields of a command; `filter` is the name of the field with the filter
abbrev pub find_in : List ℕ → Doc → FindCommand
find_in filter d = record {
  filter = field_value document_field [] filter d;
  sort = field_value document_field [] (codes "sort") d;
  skip = field_value count_field 0 (codes "skip") d;
  limit = field_value count_field 0 (codes "limit") d;
  hint = field_value hint_field any_way (codes "use") d;
}

-- the command in fields that have no fault
abbrev pub command_in : Name → Doc → Command
command_in Name.CreateIndex d =
    creates_index (field_value text_field [] (codes "createIndex") d) (field_value truth_field false (codes "sparse") d)
command_in Name.DropIndex d = drops_index (field_value text_field [] (codes "dropIndex") d)
command_in Name.Find d = finds (find_in (codes "find") d)
command_in Name.Resume d = resumes (field_value text_field [] (codes "resume") d) (find_in (codes "filter") d)
command_in Name.GetMore d =
    gets_more (field_value count_field 0 (codes "getMore") d) (field_value count_field 0 (codes "batch") d)
command_in Name.KillCursor d = kills_cursor (field_value count_field 0 (codes "killCursor") d)
command_in Name.Explain d = explains (find_in (codes "explain") d)

-- the command that a document describes, or its first fault: that of its first name, or of its fields
abbrev pub command_of : Doc → Result Command Fault
command_of d = option_map_or (λ name. option_map_or Err (pairs_fault name [] d) (Ok (command_in name d)))
    (first_command d) (Err Fault.UnknownCommand)

-- ---- the same by positions

-- No field before position `end` has a fault: each occurs once, belongs to the command,
-- and has a value of its kind.
abbrev pub FieldsKeepRules : Name → Doc → ℕ → Type 0
FieldsKeepRules command d end =
    (i : ℕ) (p : Pair) → i < end → slice_get d i ≡ Some p → pair_fault command (take i d) p ≡ None

-- This is the fault of the first field that has one.
abbrev pub FirstBreak : Name → Doc → Fault → Type 0
FirstBreak command d fault = (i : ℕ) × (p : Pair) × (slice_get d i ≡ Some p) × FieldsKeepRules command d i
    × (pair_fault command (take i d) p ≡ Some fault)

-- The first name is no command; or this is the first fault of its fields, of which a missing field comes last.
abbrev pub IsFaultOf : Doc → Fault → Type 0
IsFaultOf d fault = ((first_command d ≡ None) × (fault ≡ Fault.UnknownCommand))
    ⊎ ((command : Name) × (first_command d ≡ Some command) × (FirstBreak command d fault
    ⊎ (FieldsKeepRules command d (length d) × (missing_fault command d ≡ Some fault))))

-- The document is a command: its first name is one, no field has a fault, and none is missing.
abbrev pub IsCommandDocument : Doc → Type 0
IsCommandDocument d = (command : Name) × (first_command d ≡ Some command) × FieldsKeepRules command d (length d)
    × (missing_fault command d ≡ None)
