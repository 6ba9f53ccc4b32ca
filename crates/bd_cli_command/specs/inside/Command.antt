-- What a command means, with texts as their bytes and documents as their pairs; and why a document is no command.
use Rattle.bd_cli_command.specs.declared.{field.HintForm.HintForm}
use Rattle.bd_cli_command.specs.Command.{Hint, any_way, by_index, by_scan}

-- the meaning of the field `use`, with a borrowed path
abbrev pub hint_read : HintForm → Hint
hint_read HintForm.Auto = any_way
hint_read HintForm.Scan = by_scan
hint_read (HintForm.Index path) = by_index path.now
