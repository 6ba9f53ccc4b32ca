use Rattle.std.proofs.Common.{◌≡◌, ◌∙◌, ◌++◌, ◌∷◌, [], None, ap, map, subst, sym}
use Rattle.std.proofs.lemmas.{List.take_all, Result.IfOk-weaker}
use Rattle.bd_bson_dump.specs.Collection.{documents}
use Rattle.bd_path.specs.{Sort.SortPath, PathNames.names_of}
use Rattle.bd_cursor_sort.specs.inside.Ranking.{AreRanked, keyed, keyed_row, ranks_from}
use Rattle.bd_cursor_sort.proofs.RankingLemmas.{ranked_in_hand, rows_long}
use Rattle.bd_cursor_sort.proofs.ranking.ranked_by.Goals as goal

pub ranks_of-requires : goal.ranks_of-requires
ranks_of-requires c =
    let ds = documents c.args.dump.now in
    let s : SortPath = record { path = names_of c.args.path.now; dir = c.args.dir } in
    let all : map keyed_row c.loop-one.rows.items ≡ map (keyed ds s) c.args.ranked.now = c.loop-one.invariant ∙ ap (map (keyed ds s)) (take_all _ c.args.ranked.now c.loop-one-test.false) in
    rw (c.deref.ensures.value, rows_long ds s c.args.ranked.now c.loop-one.rows.items c.sort_rows.new.rows.items all c.sort_rows.ensures.same) c.requires.fits_u32

pub returns : goal.returns
returns c =
    let ds = documents c.args.dump.now in
    let s : SortPath = record { path = names_of c.args.path.now; dir = c.args.dir } in
    let all : map keyed_row c.loop-one.rows.items ≡ map (keyed ds s) c.args.ranked.now = c.loop-one.invariant ∙ ap (map (keyed ds s)) (take_all _ c.args.ranked.now c.loop-one-test.false) in
    IfOk-weaker c.ranks_of.result _ _
    (λ v e ss ps are. subst (λ rs. AreRanked ds (ss ++ s ∷ []) ps rs) (sym (e ∙ ap (λ rows. ranks_from c.args.dir 0 None (map keyed_row rows)) c.deref.ensures.value))
    (ranked_in_hand ds ss s ps c.args.ranked.now c.loop-one.rows.items c.sort_rows.new.rows.items are all c.sort_rows.ensures.same c.sort_rows.ensures.rises))
    c.ranks_of.ensures
