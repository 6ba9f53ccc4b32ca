use Rattle.std.proofs.Common.{◌≡◌, ◌++◌, length, map}
use Rattle.bd_path.specs.PathNames.{path_text}
use Rattle.bd_wide_dump.specs.Fields.{paths_in, requested}
use Rattle.bd_wide_dump.proofs.RequestedLemmas.{ahead}
use Rattle.bd_wide_dump.proofs.requested.read_paths.Given as goal

abbrev pub invariant-loop-rest : goal.invariant-loop-rest
invariant-loop-rest l = record {
  paths : ahead (requested l.paths.items) (paths_in (map (λ text. text.now) l.rest)) ≡ paths_in (map (λ text. text.now) l.texts);
  texts : map path_text l.paths.items ++ map (λ text. text.now) l.rest ≡ map (λ text. text.now) l.texts;
}

abbrev pub decreases-loop-rest : goal.decreases-loop-rest
decreases-loop-rest l = length l.rest
