use Rattle.std.proofs.Common.{◌≡◌, ◌++◌, map, take}
use Rattle.bd_wide_rank.specs.{Rank.code, Table.worths}
use Rattle.bd_wide_rank.specs.{Key.key_worth, Rows.between_worth}
use Rattle.bd_wide_rank.proofs.table.Table.codes.Given as goal

abbrev pub invariant-loop-key : goal.invariant-loop-key
invariant-loop-key l = l.codes.items ≡ map (λ k. code (worths l.self) (key_worth k)) (take l.key-index l.self.doubles.keys.items)

abbrev pub invariant-loop-number : goal.invariant-loop-number
invariant-loop-number l =
    l.codes.items ≡ map (λ k. code (worths l.self) (key_worth k)) l.self.doubles.keys.items
    ++ map (λ b. code (worths l.self) (between_worth b)) (take l.number-index l.self.others.numbers.items)
