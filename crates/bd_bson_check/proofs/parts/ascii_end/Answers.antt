use Rattle.std.proofs.Common.{sym, ap, arith, ◌||◌, ◌==◌, nat_lt}
use lib.Count.{count_trailing_zeros}
use Rattle.bd_bson_view.proofs.VectorLemmas.{first_in_vector}
use Rattle.bd_bson_check.proofs.parts.ascii_end.Goals as goal

pub returns-then-found-ne0 : goal.returns-then-found-ne0
returns-then-found-ne0 c =
    let found = c.ascii_ends-found in
    sym (first_in_vector (λ b. b == 0 || nat_lt 127 b) c.args.bytes.now _ (omega arith) (omega (arith, found.ensures)) (ap (count_trailing_zeros 64) found.ensures))
