use Rattle.std.proofs.Common.{rules, sym, arith, Ordering}
use Rattle.std.specs.Ordering.{int_cmp}
use Rattle.std.proofs.lemmas.Cmp.{int_cmp_total}
use Rattle.std.proofs.lemmas.Fn.{always_returns_same}
use Rattle.std.proofs.lemmas.List.Sorted.{searchable_from_sorted}
use Rattle.bd_wide_rank.specs.declared.between.Between.{Between}
use Rattle.bd_wide_rank.specs.inside.Position.{position_worth}
use Rattle.bd_wide_rank.specs.Rows.{between_worth}
use Rattle.bd_wide_rank.proofs.RankLemmas.{found_rank, is_same, position_rank, rises, sorted}
use Rattle.bd_wide_rank.proofs.others.Others.searched_rank.Goals as goal

pub returns-in-Ok : goal.returns-in-Ok
returns-in-Ok c =
    let xs = c.args.self.now.numbers.items in
    let w = position_worth c.args.position in
    let ord : Between → Ordering = λ b. int_cmp (between_worth b) w in
    let found = rw c.deref.ensures.value at c.in-Ok.ensures.position ord (always_returns_same _ _ _ (λ a r h k. search rules)) in
    sym (found_rank between_worth w xs c.in-Ok.i (rw c.deref.ensures.value at c.in-Ok.ensures.bound) (rises between_worth xs c.requires.rising)
    (λ d. is_same _ _ (found d)))

pub returns-in-Err : goal.returns-in-Err
returns-in-Err c =
    let xs = c.args.self.now.numbers.items in
    let w = position_worth c.args.position in
    let ord : Between → Ordering = λ b. int_cmp (between_worth b) w in
    let found = rw c.deref.ensures.value at c.in-Err.ensures.position ord (always_returns_same _ _ _ (λ a r h k. search rules)) in
    let point = found (searchable_from_sorted int_cmp_total between_worth xs w (sorted between_worth xs (rises between_worth xs c.requires.rising))) in
    sym (position_rank between_worth w xs c.in-Err.i (rw c.deref.ensures.value at c.in-Err.ensures.bound) (λ k d h. point.0 k d (omega arith) h) point.1)
