use Rattle.std.proofs.Common.{sym, ap, arith}
use Rattle.std.specs.Prelude.{◌==◌}
use Rattle.std.proofs.lemmas.List.Quantifiers.{position-Some}
use lib.Count.{count_trailing_zeros}
use Rattle.bd_bson_view.proofs.VectorLemmas.{first_in_vector}
use Rattle.bd_bson_view.proofs.raw_parts.first_zero.Goals as goal

pub returns-then-found-ne0-clause-offset : goal.returns-then-found-ne0-clause-offset
returns-then-found-ne0-clause-offset c =
    let found = c.zeros-found in
    sym (first_in_vector (λ b. b == 0) c.args.bytes.now _ (omega arith) (omega (arith, found.ensures)) (ap (count_trailing_zeros 64) found.ensures))

pub returns-then-found-ne0-clause-inside : goal.returns-then-found-ne0-clause-inside
returns-then-found-ne0-clause-inside c =
    let found = c.zeros-found in
    let at = first_in_vector (λ b. b == 0) c.args.bytes.now _ (omega arith) (omega (arith, found.ensures)) (ap (count_trailing_zeros 64) found.ensures) in
    (position-Some (λ b. b == 0) c.args.bytes.now _ 0 at).0
