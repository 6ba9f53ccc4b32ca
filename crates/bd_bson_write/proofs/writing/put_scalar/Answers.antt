use Rattle.std.proofs.Common.{rules}
use Rattle.bd_bson_write.proofs.WritingLemmas.{are_names}
use Rattle.bd_bson_write.proofs.writing.put_scalar.Goals as goal

pub returns-in_ok-write_name-in-Regex-2-clause-spells : goal.returns-in_ok-write_name-in-Regex-2-clause-spells
returns-in_ok-write_name-in-Regex-2-clause-spells c =
    let r = c.in-Regex in
    let n = are_names r.pattern.now r.options.now (search rules) (search rules) (rw r.is at c.requires) in
    rw r.is n
