-- Which lists of values are read back from their canonical text.
use Rattle.std.specs.Prelude.{◌≡◌, ℕ, List, [], ◌∷◌, false, None, IsUtf8}
use Rattle.bd_value.specs.{Tree.Tree, Tree.Doc}
use Rattle.bd_value.specs.{Fits.has_zero}
use Rattle.bd_extjson_wrapper.specs.Wrapper.{wrapper_of}
use Rattle.bd_extjson_pack.specs.Canonical.{IsCanonical}

-- Each of these values is read back from its canonical text.
abbrev pub AreCanonical : ℕ → List Tree → Type 0
AreCanonical depth_left [] = Unit {0}
AreCanonical depth_left (t ∷ ts) = IsCanonical depth_left t × AreCanonical depth_left ts

-- Each value is read back from its canonical text; each name is UTF-8 without a zero, and not a wrapper name.
abbrev pub AreCanonicalFields : ℕ → Doc → Type 0
AreCanonicalFields depth_left [] = Unit {0}
AreCanonicalFields depth_left (p ∷ ps) =
    (IsUtf8 p.0 × (has_zero p.0 ≡ false) × (wrapper_of p.0 ≡ None)) × IsCanonical depth_left p.1 × AreCanonicalFields depth_left ps
