-- Keys on a path that meets no array.
use Rattle.std.proofs.Common.{◌≡◌, ◌≢◌, ◌+◌, ℕ, false, List, [], ◌∷◌, drop, refl, sym, ap, ◌∙◌, suc, Some, None, add-one}
use Rattle.std.specs.Prelude.{slice_get}
use Rattle.bd_value.specs.{View.kind_of, Tree.first_of, Tree.Tree, Tree.array, Tree.doc, Tree.leaf, Tree.pairs_in}
use Rattle.bd_path.specs.{Key.all_keys, Key.key_collecting, Key.missing_key, Reach.Names, Reach.Collecting, Reach.collecting}
use Rattle.bd_path.proofs.PathWalkLemmas.{drop_at}
use Rattle.bd_value.specs.Tree as trees
use Rattle.bd_value.specs.declared.node.Kind.TheVariants as kinds
use Rattle.bd_path.proofs.ReachLemmas as down

through_field : {A : Type 0} (g : Collecting A) (t : Tree) (name : List ℕ) (rest : Names) (u : Tree) → first_of name (pairs_in t) ≡ Some u → collecting g t (name ∷ rest) ≡ collecting g u rest
through_field g (doc fs) name rest u e = down.found g (doc fs) u name rest refl e
through_field g _ name rest u e = absurd cc

no_value : {A : Type 0} (g : Collecting A) (t : Tree) (name : List ℕ) (rest : Names) → first_of name (pairs_in t) ≡ None → kind_of t ≢ kinds.Array → collecting g t (name ∷ rest) ≡ g.missing
no_value g (doc fs) name rest e h = down.lost g (doc fs) name rest refl e
no_value g (array ts) name rest e h = absurd (h refl)
no_value g _ name rest e h = refl

pub goes_on : (root t u : Tree) (names : Names) (i : ℕ) (name : List ℕ) → slice_get names i ≡ Some name → Some u ≡ first_of name (pairs_in t)
    → all_keys false root names ≡ all_keys false t (drop i names) → all_keys false root names ≡ all_keys false u (drop (i + 1) names)
goes_on root t u names i name there is h =
    rw add-one (h ∙ ap (all_keys false t) (drop_at names i name there) ∙ through_field (key_collecting (missing_key false)) t name (drop (suc i) names) u (sym is))

pub ends_there : (root t : Tree) (names : Names) (i : ℕ) (name : List ℕ) → slice_get names i ≡ Some name → None ≡ first_of name (pairs_in t)
    → kind_of t ≢ kinds.Array → all_keys false root names ≡ all_keys false t (drop i names) → all_keys false root names ≡ leaf trees.null ∷ []
ends_there root t names i name there is kind h =
    h ∙ ap (all_keys false t) (drop_at names i name there) ∙ no_value (key_collecting (missing_key false)) t name (drop (suc i) names) (sym is) kind
