-- What names mean, as far as it matters for the role of their values.
use Rattle.std.proofs.Common.{◌≡◌, ◌∙◌, ℕ, Bool, true, false, cond, Option, Some, None, option_map, List, [], ◌∷◌, map, refl, sym, ap}
use Rattle.std.specs.Prelude.{unwrap_or}
use Rattle.std.specs.{List.find, Str.bytes_eq}
use Rattle.bd_query_filter.specs.NameKind.{begins_with_dollar, is_omitted, known_operator, name_kind_of}
use Rattle.bd_query_filter.specs.declared.filter_of.{NameKind.NameKind}
use Rattle.bd_query_filter.specs.declared.filter_of.NameKind.TheVariants as name_kinds
use Rattle.bd_wide_query.specs.declared.role.Meaning.{Meaning}
use Rattle.bd_wide_query.specs.declared.role.Meaning.TheVariants as meanings
use Rattle.bd_wide_query.specs.inside.Role.{meaning_of}

-- ---- the table of operators

abbrev meant : List ℕ × NameKind → List ℕ × Meaning
meant row = (row.0, meaning_of row.1)

row_meant : (b : Bool) (row : List ℕ × NameKind) (x : Option (List ℕ × Meaning)) (y : Option (List ℕ × NameKind))
    → option_map (λ r. r.1) x ≡ option_map meaning_of (option_map (λ r. r.1) y)
    → option_map (λ r. r.1) (cond b (Some (meant row)) x) ≡ option_map meaning_of (option_map (λ r. r.1) (cond b (Some row) y))
row_meant true row x y e = refl
row_meant false row x y e = e

-- the meaning of the operator that is found
pub found_meant : (name : List ℕ) (rows : List (List ℕ × NameKind))
    → option_map (λ r. r.1) (find (λ r. bytes_eq r.0 name) (map meant rows)) ≡ option_map meaning_of (option_map (λ r. r.1) (find (λ r. bytes_eq r.0 name) rows))
found_meant name [] = refl
found_meant name (row ∷ rows) = row_meant (bytes_eq row.0 name) row (find (λ r. bytes_eq r.0 name) (map meant rows)) (find (λ r. bytes_eq r.0 name) rows) (found_meant name rows)

-- ---- the meaning of a name

operator_or : (o : Option NameKind) (omitted : Bool)
    → unwrap_or (option_map meaning_of o) meanings.Other ≡ meaning_of (unwrap_or o (cond omitted name_kinds.Omitted name_kinds.Unknown))
operator_or None true = refl
operator_or None false = refl
operator_or (Some w) omitted = refl

pub field_means : (name : List ℕ) (b : Bool) → b ≡ begins_with_dollar name → b ≡ false → meanings.Field ≡ meaning_of (name_kind_of name)
unfolding name_kind_of
field_means name b is not_one =
    ap (λ (x : Bool). meaning_of (cond x (unwrap_or (known_operator name) (cond (is_omitted name) name_kinds.Omitted name_kinds.Unknown)) name_kinds.Field)) (sym not_one ∙ is)

pub operator_means : (name : List ℕ) (b : Bool) (o : Option Meaning) → b ≡ begins_with_dollar name → b ≡ true → o ≡ option_map meaning_of (known_operator name)
    → unwrap_or o meanings.Other ≡ meaning_of (name_kind_of name)
unfolding name_kind_of
operator_means name b o is is_one known =
    ap (λ (x : Option Meaning). unwrap_or x meanings.Other) known ∙ operator_or (known_operator name) (is_omitted name)
    ∙ ap (λ (x : Bool). meaning_of (cond x (unwrap_or (known_operator name) (cond (is_omitted name) name_kinds.Omitted name_kinds.Unknown)) name_kinds.Field)) (sym is_one ∙ is)
