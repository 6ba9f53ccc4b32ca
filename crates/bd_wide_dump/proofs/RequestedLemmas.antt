-- The fields that a text requests.
use Rattle.std.proofs.Common.{◌≡◌, ℕ, List, [], ◌∷◌, ◌++◌, Option, Some, None, Result, Ok, Err, refl, sym, ap, ◌∙◌, append_assoc}
use Rattle.bd_path.specs.{Path.path_of, Reach.Names}
use Rattle.bd_path.specs.declared.path.PathFault.{PathFault}
use Rattle.bd_wide_dump.specs.Fields.{before_paths, paths_in}

-- these paths before others, if there are others
abbrev pub ahead : List Names → Option (List Names) → Option (List Names)
ahead done None = None
ahead done (Some paths) = Some (done ++ paths)

pub none_ahead : (paths : Option (List Names)) → ahead [] paths ≡ paths
none_ahead None = refl
none_ahead (Some paths) = refl

one_ahead : (done : List Names) (names : Names) (more : Option (List Names)) → ahead (done ++ names ∷ []) more ≡ ahead done (before_paths (Ok names) more)
one_ahead done names None = refl
one_ahead done names (Some paths) = ap (λ (x : List Names). Some x) (append_assoc done (names ∷ []) paths)

-- one more path
pub path_ahead : (done : List Names) (text : List ℕ) (texts : List (List ℕ)) (names : Names) (all : Option (List Names)) → path_of text ≡ Ok names
    → ahead done (paths_in (text ∷ texts)) ≡ all → ahead (done ++ names ∷ []) (paths_in texts) ≡ all
path_ahead done text texts names all is so_far =
    one_ahead done names (paths_in texts) ∙ ap (λ (r : Result Names PathFault). ahead done (before_paths r (paths_in texts))) (sym is) ∙ so_far

refused_ahead : (done : List Names) (fault : PathFault) (more : Option (List Names)) → ahead done (before_paths (Err fault) more) ≡ None
refused_ahead done fault None = refl
refused_ahead done fault (Some paths) = refl

-- a text that is no path
pub no_path : (done : List Names) (text : List ℕ) (texts : List (List ℕ)) (fault : PathFault) (all : Option (List Names)) → path_of text ≡ Err fault
    → ahead done (paths_in (text ∷ texts)) ≡ all → None ≡ all
no_path done text texts fault all is so_far =
    sym (ap (λ (r : Result Names PathFault). ahead done (before_paths r (paths_in texts))) is ∙ refused_ahead done fault (paths_in texts)) ∙ so_far
