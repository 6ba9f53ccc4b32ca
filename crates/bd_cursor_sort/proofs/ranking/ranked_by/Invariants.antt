use Rattle.std.proofs.Common.{◌≡◌, map, take}
use Rattle.bd_bson_dump.specs.Collection.{documents}
use Rattle.bd_path.specs.PathNames.{names_of}
use Rattle.bd_cursor_sort.specs.inside.Ranking.{keyed, keyed_row}
use Rattle.bd_cursor_sort.proofs.ranking.ranked_by.Given as goal

abbrev pub invariant-loop-one : goal.invariant-loop-one
invariant-loop-one l =
    map keyed_row l.rows.items ≡ map (keyed (documents l.dump) (record { path = names_of l.path; dir = l.dir })) (take l.one-index l.ranked)
