use Rattle.bd_cli_find.proofs.UniqueLemmas.{found_once, found_some}
use Rattle.bd_cli_scan.proofs.{CheckLemmas.checked_once, CheckLemmas.checked_some, DumpLemmas.output_once, DumpLemmas.output_some}
use Rattle.bd_cli_files.proofs.PackLemmas.{packs_once, packed_once, packed_some}
use Rattle.bd_cursor_model.specs.Laws.{new_state}
use Rattle.bd_io_lines.specs.Lines.{commands_of, text_lines}
use Rattle.bd_cli_service.proofs.OneReplyLemmas.{texts_once}
use Rattle.bd_cli.proofs.laws.prints_one_thing.Goals as goal

pub returns : goal.returns
returns c = record {
  checked_one = checked_once;
  checked_some = checked_some;
  one = λ bytes fault s t p q. output_once bytes fault s t p q;
  some = λ bytes fits. output_some bytes fits;
  found_one = found_once;
  found_some = λ words bytes fits. found_some words bytes fits;
  packed_one = packed_once;
  lines_one = λ text ds es bad other p q. packs_once 1 (text_lines text) ds es bad other p q;
  packed_some = packed_some;
  served_one = λ bytes ds commands replies other s t p q. texts_once bytes ds new_state (commands_of commands) replies other s t p q;
}
