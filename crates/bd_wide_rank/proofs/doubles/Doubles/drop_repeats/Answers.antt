use Rattle.std.proofs.Common.{eqb}
use Rattle.std.proofs.lemmas.List.Filters.{dedup_is}
use Rattle.std.proofs.lemmas.Map.Keys.{IsStrictlyIncreasing-dedup}
use Rattle.bd_wide_rank.specs.Key.{key_worth}
use Rattle.bd_wide_rank.specs.Key.{key_worths}
use Rattle.bd_wide_rank.proofs.RankLemmas.{same_moved, same_trans}
use Rattle.bd_wide_rank.proofs.RowLemmas.{keys_once}
use Rattle.bd_wide_rank.proofs.doubles.Doubles.drop_repeats.Goals as goal

pub returns-clause-same : goal.returns-clause-same
returns-clause-same c =
    let before = c.args.self.now.keys.items in
    let sorted = c.sort_unstable.new.self.items in
    let once = c.dedup.new.self.items in
    same_trans (key_worths once) (key_worths sorted) (key_worths before)
    (keys_once sorted once (dedup_is eqb sorted once c.dedup.ensures.filtered))
    (same_moved key_worth before sorted c.sort_unstable.ensures.permutation)

pub returns-clause-rising : goal.returns-clause-rising
returns-clause-rising c =
    let sorted = c.sort_unstable.new.self.items in
    let once = c.dedup.new.self.items in
    rw (dedup_is eqb sorted once c.dedup.ensures.filtered) (IsStrictlyIncreasing-dedup sorted c.sort_unstable.ensures.sorted)
