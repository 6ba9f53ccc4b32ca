use Rattle.std.proofs.Common.{◌≤◌, ◌++◌, length, map, sym, ap, ◌∙◌}
use Rattle.std.proofs.lemmas.List.{take_all}
use Rattle.bd_wide_rank.specs.{Rank.code, Table.worths}
use Rattle.bd_wide_rank.specs.{Key.key_worth, Rows.between_worth}
use Rattle.bd_wide_rank.proofs.TableLemmas.{map_worths}
use Rattle.bd_wide_rank.proofs.table.Table.codes.Goals as goal

pub returns : goal.returns
returns c =
    let t = c.args.self.now in
    let numbers = t.others.numbers.items in
    let all : length numbers ≤ c.loop-number.number-index = rw (sym c.deref-number-items.ensures.value) c.loop-number-test.false in
    c.loop-number.invariant
    ∙ ap (λ bs. map (λ k. code (worths t) (key_worth k)) t.doubles.keys.items ++ map (λ b. code (worths t) (between_worth b)) bs) (take_all c.loop-number.number-index numbers all)
    ∙ sym (map_worths (code (worths t)) t)
