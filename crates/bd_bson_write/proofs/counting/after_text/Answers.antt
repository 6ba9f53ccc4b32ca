use Rattle.std.proofs.Common.{◌+◌, arith, length}
use Rattle.bd_bson_view.specs.{Spelling.string, Unique.string_length}
use Rattle.bd_bson_write.proofs.CountingLemmas.{remainder_of}
use Rattle.bd_bson_write.proofs.counting.after_text.Goals as goal

pub returns : goal.returns
returns c = remainder_of c.args.limit (length c.args.text.now + 5) (length (string c.args.text.now)) c.after_bytes.result (omega (arith, string_length c.args.text.now)) c.after_bytes.ensures
