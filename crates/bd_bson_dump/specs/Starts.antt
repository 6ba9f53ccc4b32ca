-- Documents that begin at given offsets of bytes.
use Rattle.std.specs.Prelude.{ℕ, List, [], ◌∷◌, drop}
use Rattle.std.specs.List.{AllByRecursion}
use Rattle.bd_value.specs.Tree.{Doc, pairs_in}
use Rattle.bd_value.specs.declared.node.Kind.TheVariants as kinds
use Rattle.bd_bson_view.specs.Sound.{Sound, Sound-prop, meaning}

-- At each of these offsets the bytes begin with a document, whatever follows it.
abbrev pub AreAt : List ℕ → List ℕ → Type 0
AreAt bytes starts = AllByRecursion (λ s. Sound kinds.Doc (drop s bytes)) starts

pub AreAt-prop : (bytes starts : List ℕ) → IsProp (AreAt bytes starts)
AreAt-prop bytes [] p q = λ i. tt
AreAt-prop bytes (s ∷ ss) p q = λ i. (Sound-prop kinds.Doc (drop s bytes) p.0 q.0 i, AreAt-prop bytes ss p.1 q.1 i)

-- the documents at these offsets, in the same order
abbrev pub documents_starting_at : (bytes starts : List ℕ) → AreAt bytes starts → List Doc
documents_starting_at bytes [] all = []
documents_starting_at bytes (s ∷ ss) all = pairs_in (meaning all.0) ∷ documents_starting_at bytes ss all.1
