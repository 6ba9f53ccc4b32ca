use Rattle.std.proofs.Common.{◌≡◌, ◌<◌, ◌∙◌, ◌==◌, ℕ, List, [], ◌∷◌, length, refl, arith, ne_eqb}
use Rattle.std.specs.Float.Parse.{lowercases_to}
use Rattle.bd_wide_read.proofs.decimal128.is_word.Goals as goal

at_end : (rest words : List ℕ) → length words < 1 → (length rest == 0) ≡ lowercases_to rest words
at_end [] [] none = refl
at_end (c ∷ cs) [] none = ne_eqb (length (c ∷ cs)) 0 (λ e. omega arith)
at_end rest (w ∷ ws) none = absurd (omega arith)

pub returns : goal.returns
returns c = c.is_empty.ensures ∙ at_end c.loop-words.rest.now c.loop-words.words.now c.in_default.len_below ∙ c.loop-words.invariant
