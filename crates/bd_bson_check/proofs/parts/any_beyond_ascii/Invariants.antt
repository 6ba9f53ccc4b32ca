use Rattle.std.proofs.Common.{◌≡◌, take, nat_lt}
use Rattle.std.specs.List.{list_any}
use Rattle.bd_bson_check.proofs.parts.any_beyond_ascii.Given as goal

abbrev pub invariant-loop-b : goal.invariant-loop-b
invariant-loop-b l = l.any ≡ list_any (λ b. nat_lt 127 b) (take l.b-index l.bytes)
