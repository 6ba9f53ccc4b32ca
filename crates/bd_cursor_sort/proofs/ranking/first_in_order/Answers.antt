use Rattle.std.proofs.Common.{◌≡◌, ◌++◌, ◌∷◌, [], ◌∙◌, ◌+◌, ap, arith, length, sym, take}
use Rattle.std.proofs.{lemmas.List.map_more, lemmas.List.take_all, lemmas.Result.IfOk-weaker}
use Rattle.bd_path.specs.{Sort.SortPath, PathNames.names_of, Sort.sort_paths, declared.sort.Dir.Dir, declared.path.Path.Path}
use Rattle.bd_bson_dump.specs.Collection.{documents}
use Rattle.bd_cursor_sort.proofs.RankingLemmas.{first_of_ranked, ranked_below, ranked_long}
use Rattle.bd_cursor_sort.proofs.ranking.first_in_order.Goals as goal

pub loop-path-init : goal.loop-path-init
loop-path-init c = record { ranked = c.in_ok-ranked.ensures.ranked (documents c.args.dump.now); fits_u32 = c.in_ok-ranked.ensures.fits_u32 }

pub ranked_by-requires-clause-below : goal.ranked_by-requires-clause-below
ranked_by-requires-clause-below c = rw c.deref.ensures.value (ranked_below (length (documents c.args.dump.now)) c.loop-path.invariant.ranked c.requires)

pub ranked_by-requires-clause-fits_u32 : goal.ranked_by-requires-clause-fits_u32
ranked_by-requires-clause-fits_u32 c = rw (c.deref.ensures.value, ranked_long c.loop-path.invariant.ranked) c.loop-path.invariant.fits_u32

pub loop-path-preserved : goal.loop-path-preserved
loop-path-preserved c =
    let i = c.loop-path.path-index in
    let sort = c.args.sort.now in
    let x = c.loop-path-item.result in
    let f : Path × Dir → SortPath = λ s. record { path = names_of s.0; dir = s.1 } in
    let more : sort_paths (take (i + 1) sort) ≡ sort_paths (take i sort) ++ f x ∷ [] = map_more f sort i x (omega arith)
    ∙ ap (λ y. sort_paths (take i sort) ++ f y ∷ []) (sym c.loop-path-item.is) in
    record {
      ranked = rw more (c.in_ok-ranked-2.ensures (sort_paths (take i sort)) c.args.places.now (rw c.deref.ensures.value c.loop-path.invariant.ranked));
      fits_u32 = c.loop-path.invariant.fits_u32;
    }

pub returns : goal.returns
returns c =
    let whole : take c.loop-path.path-index c.args.sort.now ≡ c.args.sort.now = take_all c.loop-path.path-index c.args.sort.now c.loop-path-test.false in
    IfOk-weaker c.first_places_of.result _ _
    (λ v e. first_of_ranked (rw whole at c.loop-path.invariant.ranked) c.args.most _ (rw c.deref-2.ensures.value at e)) c.first_places_of.ensures
