use Rattle.std.proofs.Common.{rules, arith, ◌≡◌, ◌+◌, ◌++◌, ℕ, length, length-append}
use Rattle.bd_bson_view.specs.{Spelling.number, Unique.number_length}
use Rattle.bd_bson_write.proofs.writing.data_length.Goals as goal

pub returns-then-subtype-eq2 : goal.returns-then-subtype-eq2
returns-then-subtype-eq2 c =
    let is : c.args.subtype ≡ 2 = search rules in
    let n : ℕ = length c.args.payload.now in
    let size : length (number n ++ c.args.payload.now) ≡ 4 + n = omega (arith, length-append (number n) c.args.payload.now, number_length n) in
    rw is (omega (arith, size), search rules)
