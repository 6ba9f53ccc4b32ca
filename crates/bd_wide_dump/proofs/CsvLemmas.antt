-- Fields of CSV, byte by byte.
use Rattle.std.proofs.Common.{◌≡◌, ℕ, ◌≤◌, ◌==◌, Bool, true, false, List, [], ◌∷◌, ◌++◌, length, get_or, refl, ap, ◌∙◌}
use Rattle.std.specs.Prelude.{if◌then◌else◌}
use Rattle.std.proofs.lemmas.Bool.{eqb-true}
use Rattle.csv.specs.Writing.{default_writer, escaped}
use Rattle.bd_wide_dump.proofs.GoingLemmas.{first_and_rest, rest_of}

-- a byte between quotation marks
abbrev pub inside : ℕ → List ℕ
inside b = if b == 34 then 34 ∷ 34 ∷ [] else b ∷ []

by_byte : (is : Bool) (b : ℕ) (rest more : List ℕ) → (b == 34) ≡ is → (if is then 34 ∷ b ∷ rest else b ∷ rest) ++ more ≡ (if is then 34 ∷ 34 ∷ [] else b ∷ []) ++ (rest ++ more)
by_byte true b rest more h = ap (λ (x : ℕ). 34 ∷ x ∷ (rest ++ more)) (eqb-true b 34 h)
by_byte false b rest more h = refl

one_escaped : (b : ℕ) (rest more : List ℕ) → escaped default_writer (b ∷ rest) ++ more ≡ inside b ++ (escaped default_writer rest ++ more)
unfolding escaped
one_escaped b rest more = by_byte (b == 34) b (escaped default_writer rest) more refl

pub escaped_step : (xs more : List ℕ) (d : ℕ) → 1 ≤ length xs → escaped default_writer xs ++ more ≡ inside (get_or xs 0 d) ++ (escaped default_writer (rest_of xs) ++ more)
escaped_step xs more d some = ap (λ (x : List ℕ). escaped default_writer x ++ more) (first_and_rest xs d some) ∙ one_escaped (get_or xs 0 d) (rest_of xs) more

pub escaped_end : (xs : List ℕ) (more : List ℕ) → xs ≡ [] → escaped default_writer xs ++ more ≡ more
unfolding escaped
escaped_end xs more none = ap (λ (x : List ℕ). escaped default_writer x ++ more) none
