use Rattle.bd_wide_copy.specs.Dump.{bytes_of}
use Rattle.bd_wide_copy.proofs.FewLemmas.{few_numbers}
use Rattle.bd_wide_copy.proofs.dump.WideDump.has_few_numbers.Goals as goal

-- src/dump.rt:105:5
pub returns : goal.returns
returns c = λ ds table are. few_numbers ds (bytes_of c.args.self.now) table are c.args.self.now.short
