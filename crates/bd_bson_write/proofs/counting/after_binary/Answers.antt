use Rattle.std.proofs.Common.{◌≡◌, ◌+◌, arith, length, rules}
use Rattle.bd_value.specs.Tree as trees
use Rattle.bd_bson_view.specs.Spelling.{scalar_bytes}
use Rattle.bd_bson_write.proofs.CountingLemmas.{remainder_of, old_binary_size, other_binary_size}
use Rattle.bd_bson_write.proofs.counting.after_binary.Goals as goal

pub returns-then-subtype-eq2 : goal.returns-then-subtype-eq2
returns-then-subtype-eq2 c =
    let is : c.args.subtype ≡ 2 = search rules in
    remainder_of c.args.limit (length c.args.payload.now + 9) (length (scalar_bytes (trees.binary c.args.subtype c.args.payload.now))) c.after_bytes.result
    (omega (arith, old_binary_size c.args.subtype c.args.payload.now is)) c.after_bytes.ensures

pub returns-else-subtype-eq2 : goal.returns-else-subtype-eq2
returns-else-subtype-eq2 c =
    remainder_of c.args.limit (length c.args.payload.now + 5) (length (scalar_bytes (trees.binary c.args.subtype c.args.payload.now))) c.after_bytes-else-subtype-eq2.result
    (omega (arith, other_binary_size c.args.subtype c.args.payload.now c.if-subtype-eq2.false)) c.after_bytes-else-subtype-eq2.ensures
