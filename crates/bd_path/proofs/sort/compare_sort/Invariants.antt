use Rattle.std.proofs.Common.{◌≡◌, drop}
use Rattle.bd_path.specs.Sort.{sort_cmp, sort_paths}
use Rattle.bd_path.proofs.sort.compare_sort.Given as goal

-- the rest of the sort decides
abbrev pub invariant-loop-path : goal.invariant-loop-path
invariant-loop-path g l = sort_cmp (sort_paths (drop l.path-index l.sort)) (g.M.Reading.tree l.a) (g.N.Reading.tree l.b) ≡ sort_cmp (sort_paths l.sort) (g.M.Reading.tree l.a) (g.N.Reading.tree l.b)
