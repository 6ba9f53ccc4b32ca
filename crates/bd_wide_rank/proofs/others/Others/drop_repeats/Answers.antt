use Rattle.std.proofs.Common.{Bool, rules, refl}
use Rattle.std.specs.Ordering.{is_lt}
use Rattle.std.proofs.lemmas.Cmp.{int_cmp_total, on_total}
use Rattle.std.proofs.lemmas.Fn.{always_returns_same, dedup_same}
use Rattle.std.proofs.lemmas.List.Sorted.{ranks_by}
use Rattle.std.proofs.lemmas.List.Kept.{IsStrictlySortedBy-dedup}
use Rattle.bd_wide_rank.specs.declared.between.Between.{Between}
use Rattle.bd_wide_rank.specs.Rows.{between_worth, between_worths}
use Rattle.bd_wide_rank.specs.inside.Rows.{between_cmp}
use Rattle.bd_wide_rank.proofs.RankLemmas.{same_moved, same_trans}
use Rattle.bd_wide_rank.proofs.RowLemmas.{are_alike, numbers_once}
use Rattle.bd_wide_rank.proofs.others.Others.drop_repeats.Goals as goal

pub returns-clause-same : goal.returns-clause-same
returns-clause-same c =
    let before = c.args.self.now.numbers.items in
    let sorted = c.sort_unstable_by.new.self.items in
    let once = c.dedup_by.new.self.items in
    same_trans (between_worths once) (between_worths sorted) (between_worths before)
    (numbers_once sorted once (dedup_same _ are_alike _ (λ x y b f' x' y' k. search rules) _ _ c.dedup_by.ensures.filtered))
    (same_moved between_worth before sorted c.sort_unstable_by.ensures.permutation)

pub returns-clause-rising : goal.returns-clause-rising
returns-clause-rising c =
    let lt : Between → Between → Bool = λ x y. is_lt (between_cmp x y) in
    let answers = always_returns_same _ _ _ (λ a r h k. search rules) in
    let sorted = c.sort_unstable_by.ensures.sorted lt (ranks_by int_cmp_total between_worth) answers in
    let once = dedup_same _ are_alike _ (λ x y b f' x' y' k. search rules) _ _ c.dedup_by.ensures.filtered in
    rw once (IsStrictlySortedBy-dedup (on_total between_worth int_cmp_total) {E = are_alike} (λ x y. refl) _ sorted)
