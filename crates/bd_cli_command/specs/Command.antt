-- What a command means, with texts as their bytes and documents as their pairs; and why a document is no command.
use Rattle.std.specs.Prelude.{ℕ, Bool, List, string_bytes, codes}
use Rattle.bd_value.specs.{Tree.Doc, View.pairs}
use Rattle.bd_cli_command.specs.declared.command.{Command.Command as CommandInMemory}
use Rattle.bd_cli_command.specs.declared.command.{FindCommand.FindCommand as FindInMemory}
use Rattle.bd_cli_command.specs.declared.{command.Hint.Hint as HintInMemory}
use Rattle.bd_cli_command.specs.declared.command.{CommandFault.CommandFault}

-- how documents are searched (`use`): by any index that serves, by a scan, or by the index on a path
pub data Hint : Type 0 where
  any_way : Hint
  by_scan : Hint
  by_index : List ℕ → Hint

-- a search: filter, sort, skip, limit, and by which index
pub record FindCommand : Type 0 where
  pub filter : Doc
  pub sort : Doc
  pub skip : ℕ
  pub limit : ℕ
  pub hint : Hint

-- a command to a session: an index has a path, and is sparse or not;
-- `getMore` has a cursor number and a batch size
pub data Command : Type 0 where
  creates_index : List ℕ → Bool → Command
  drops_index : List ℕ → Command
  finds : FindCommand → Command
  resumes : List ℕ → FindCommand → Command
  gets_more : ℕ → ℕ → Command
  kills_cursor : ℕ → Command
  explains : FindCommand → Command

-- the meaning of the field `use` in memory
abbrev pub hint_tree : HintInMemory → Hint
hint_tree HintInMemory.Auto = any_way
hint_tree HintInMemory.Scan = by_scan
hint_tree (HintInMemory.Index path) = by_index (string_bytes path)

-- the search of a command in memory
abbrev pub find_tree : FindInMemory → FindCommand
find_tree f = record {
  filter = pairs f.filter;
  sort = pairs f.sort;
  skip = f.skip;
  limit = f.limit;
  hint = hint_tree f.hint;
}

-- the command that a `Command` in memory represents
abbrev pub command_tree : CommandInMemory → Command
command_tree (CommandInMemory.CreateIndex path sparse) = creates_index (string_bytes path) sparse
command_tree (CommandInMemory.DropIndex path) = drops_index (string_bytes path)
command_tree (CommandInMemory.Find find) = finds (find_tree find)
command_tree (CommandInMemory.Resume token find) = resumes (string_bytes token) (find_tree find)
command_tree (CommandInMemory.GetMore id batch) = gets_more id batch
command_tree (CommandInMemory.KillCursor id) = kills_cursor id
command_tree (CommandInMemory.Explain find) = explains (find_tree find)

-- the number of a command fault in a reply; no reply reports out of memory
abbrev pub command_fault_number : CommandFault → ℕ
command_fault_number CommandFault.UnknownCommand = 1
command_fault_number CommandFault.MissingField = 2
command_fault_number CommandFault.UnknownField = 3
command_fault_number CommandFault.RepeatedField = 4
command_fault_number CommandFault.BadField = 5
command_fault_number CommandFault.NoMemory = 6

-- the message of a command fault
unfoldable pub command_fault_words : CommandFault → List ℕ
command_fault_words CommandFault.UnknownCommand = codes "unknown command"
command_fault_words CommandFault.MissingField = codes "missing field"
command_fault_words CommandFault.UnknownField = codes "unknown field"
command_fault_words CommandFault.RepeatedField = codes "repeated field"
command_fault_words CommandFault.BadField = codes "bad field"
command_fault_words CommandFault.NoMemory = codes "no memory"
