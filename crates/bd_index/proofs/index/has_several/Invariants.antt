use Rattle.std.proofs.Common.{◌≡◌, drop}
use Rattle.bd_bson_dump.specs.Collection.{documents}
use Rattle.bd_path.specs.PathNames.{names_of}
use Rattle.bd_index.specs.Entries.{is_multikey}
use Rattle.bd_index.proofs.index.has_several.Given as goal

-- the remaining documents decide
abbrev pub invariant-loop-i : goal.invariant-loop-i
invariant-loop-i l = is_multikey (names_of l.path) (drop l.i (documents l.dump)) ≡ is_multikey (names_of l.path) (documents l.dump)
