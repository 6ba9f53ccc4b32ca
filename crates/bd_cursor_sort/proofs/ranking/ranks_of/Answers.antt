use Rattle.std.proofs.Common.{◌<◌, arith, length}
use Rattle.std.specs.Option.{option_map}
use Rattle.bd_cursor_sort.specs.inside.Ranking.{keyed_row}
use Rattle.bd_cursor_sort.proofs.RankingLemmas.{next_low, rank_more}
use Rattle.bd_cursor_sort.proofs.ranking.ranks_of.Goals as goal

pub loop-row-preserved : goal.loop-row-preserved
loop-row-preserved c =
    let x = c.row-item.result in
    let last = option_map keyed_row c.loop-row.last in
    let below : c.loop-row.row-index < length c.args.rows.now = omega arith in
    record {
      fact = rank_more c.args.dir c.loop-row.ranked.items _ c.loop-row.rank c.rank_after-rank.result last x c.args.rows.now c.loop-row.row-index _
          below c.row-item.is c.rank_after-rank.ensures c.in_ok-push.ensures.items c.loop-row.invariant.fact;
      low = omega (arith, c.rank_after-rank.ensures, next_low c.args.dir c.loop-row.rank last (keyed_row x), c.loop-row.invariant.low);
    }
