-- The forms of a UUID: a text of 36 bytes is in hyphenated form or in none.
use Rattle.std.proofs.Common.{◌≡◌, ℕ, List, length, refl, sym, ap, ◌∙◌, Option, Some, None}
use Rattle.uuid.specs.Text.{parsed, parsed_hyphenated}

form_is : (text : List ℕ) → length text ≡ 36 → parsed text ≡ parsed_hyphenated text
form_is text e = rw e refl

pub no_uuid : (text : List ℕ) → length text ≡ 36 → ((u : List ℕ) → parsed text ≡ Some u → ⊥) → None ≡ parsed_hyphenated text
no_uuid text e none = go (parsed_hyphenated text) refl
  where
    go : (r : Option (List ℕ)) → parsed_hyphenated text ≡ r → None ≡ parsed_hyphenated text
    go None is = sym is
    go (Some u) is = absurd (none u (form_is text e ∙ is))
