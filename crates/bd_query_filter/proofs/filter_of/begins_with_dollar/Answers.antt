use Rattle.std.proofs.Common.{◌≡◌, ◌==◌, ◌∙◌, ℕ, Option, List, [], ◌∷◌, false, refl, ap, slice_get}
use Rattle.std.specs.Option.{option_map_or}
use Rattle.bd_query_filter.specs.NameKind.{begins_with_dollar}
use Rattle.bd_query_filter.proofs.filter_of.begins_with_dollar.Goals as goal

-- the first byte decides
of_first : (name : List ℕ) → option_map_or (λ byte. byte == 36) (slice_get name 0) false ≡ begins_with_dollar name
of_first [] = refl
of_first (byte ∷ bytes) = refl

decides : (name bytes : List ℕ) (first : Option ℕ) → bytes ≡ name → first ≡ slice_get bytes 0 → option_map_or (λ byte. byte == 36) first false ≡ begins_with_dollar name
decides name bytes first same is = ap (λ o. option_map_or (λ byte. byte == 36) o false) (is ∙ ap (λ l. slice_get l 0) same) ∙ of_first name

pub returns-in-Some : goal.returns-in-Some
returns-in-Some c = decides c.args.name.now c.as_bytes.result.now _ c.as_bytes.ensures.value c.in-Some.ensures.value

pub returns-in-None : goal.returns-in-None
returns-in-None c = decides c.args.name.now c.as_bytes.result.now _ c.as_bytes.ensures.value c.in-None.ensures.value
