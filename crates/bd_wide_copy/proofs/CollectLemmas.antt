-- The numbers in bytes, element by element; and each takes six bytes or more.
use Rattle.std.proofs.Common.{◌≡◌, ℕ, zero, suc, ◌+◌, ◌-◌, ◌*◌, ◌≤◌, List, [], ◌++◌, length, take, drop, Option, Some, None, refl, sym, ap, ◌∙◌, subst, arith, append_assoc, append-nil, length-append, length-drop}
use Rattle.std.proofs.lemmas.{List.length-take-le, List.length-take}
use Rattle.bd_value.specs.declared.node.Kind.TheVariants as kinds
use Rattle.bd_bson_view.specs.declared.raw_parts.ElementType.{ElementType}
use Rattle.bd_bson_view.specs.declared.raw_parts.ElementType.TheVariants.{Kept, Double, Decimal128}
use Rattle.bd_bson_view.specs.declared.raw_parts.Holder.{Holder}
use Rattle.bd_bson_view.specs.declared.raw_parts.Holder.TheVariants as holders
use Rattle.bd_wide.specs.declared.element.Part.{Part}
use Rattle.bd_wide.specs.declared.element.Part.TheVariants as parts
use Rattle.bd_wide.specs.Rewritten.{first_element, least, part_of, scope_at}
use Rattle.bd_wide.proofs.LengthLemmas.{first_element_fits}
use Rattle.bd_wide_number.specs.declared.number.Number.{Number}
use Rattle.bd_wide.specs.Numbers.{number_at}
use Rattle.bd_wide_copy.specs.inside.Collected.{Extends, holder_least, listed, body_of, inside, scope_body, part_numbers, next_numbers, element_numbers, level_numbers, collected}

-- ---- six bytes or more

number_least : (type : ElementType) → part_of type ≡ Some parts.Number → 4 ≤ least type
unfolding part_of least
number_least Double is = omega arith
number_least Decimal128 is = omega arith
number_least (Kept kinds.Int32) is = omega arith
number_least (Kept kinds.Int64) is = omega arith
number_least (Kept kinds.Doc) is = absurd cc
number_least (Kept kinds.Array) is = absurd cc
number_least (Kept kinds.CodeScope) is = absurd cc
number_least (Kept _) is = absurd cc

body_le : (value : List ℕ) → length (body_of value) ≤ length value
body_le value = omega (arith, length-take-le (length value - 5) (drop 4 value), length-drop 4 value)

scope_le : (value : List ℕ) (at : Option ℕ) → length (scope_body value at) ≤ length value
scope_le value None = omega arith
scope_le value (Some at) = omega (arith, body_le (drop at value), length-drop at value)

inside_le : (holder : Holder) (value : List ℕ) → length (inside holder value) ≤ length value
unfolding inside
inside_le holders.Document value = body_le value
inside_le holders.Array value = body_le value
inside_le holders.CodeScope value = scope_le value (scope_at value)

listed_few : (number : Option Number) → length (listed number) ≤ 1
listed_few None = omega arith
listed_few (Some number) = omega arith

abbrev AreSmall : (List ℕ → List Number) → Type 0
AreSmall f = (bytes : List ℕ) → 6 * length (f bytes) ≤ length bytes

part_small : (nested : List ℕ → List Number) → AreSmall nested → (part : Option Part) (type : ElementType) (value : List ℕ) (k n : ℕ)
    → part_of type ≡ part → 2 ≤ k → least type ≤ n → length value ≤ n → 6 * length (part_numbers nested part type value) ≤ k + n
part_small nested small None type value k n is two low le = omega arith
part_small nested small (Some parts.Number) type value k n is two low le = omega (arith, two, low, number_least type is, listed_few (number_at type value))
part_small nested small (Some (parts.Values holder)) type value k n is two low le = omega (arith, le, small (inside holder value), inside_le holder value)

next_small : (nested after : List ℕ → List Number) → AreSmall nested → AreSmall after → (bytes : List ℕ) (first : Option (ElementType × ℕ × ℕ)) → first_element bytes ≡ first
    → 6 * length (next_numbers nested after bytes first) ≤ length bytes
next_small nested after small later bytes None is = omega arith
next_small nested after small later bytes (Some x) is =
    let f = first_element_fits bytes x is in
    let rest : List ℕ = drop x.1 bytes in
    let value : List ℕ = take x.2 rest in
    let one = part_small nested small (part_of x.0) x.0 value x.1 x.2 refl f.0 f.1 (omega (arith, length-take x.2 rest)) in
    omega (
      arith,
      f.2,
      one,
      later (drop x.2 rest),
      length-append (part_numbers nested (part_of x.0) x.0 value) (after (drop x.2 rest)),
      length-drop x.2 rest,
      length-drop x.1 bytes,
    )

elements_small : (nested : List ℕ → List Number) → AreSmall nested → (steps : ℕ) → AreSmall (element_numbers nested steps)
unfolding element_numbers
elements_small nested small zero bytes = omega arith
elements_small nested small (suc n) bytes = next_small nested (element_numbers nested n) small (elements_small nested small n) bytes (first_element bytes) refl

levels_small : (levels : ℕ) → AreSmall (level_numbers levels)
unfolding level_numbers
levels_small zero bytes = omega arith
levels_small (suc levels) bytes = elements_small (level_numbers levels) (levels_small levels) (length bytes) bytes

pub collected_small : (bytes : List ℕ) → 6 * length (collected bytes) ≤ length bytes
unfolding collected
collected_small bytes = omega (arith, levels_small 200 (inside holders.Document bytes), inside_le holders.Document bytes)

-- ---- the loop

-- the numbers so far, with those of the rest, are those before and those of all
abbrev pub Comes : (List ℕ → List Number) → List Number → List Number → List Number → List ℕ → Type 0
Comes nested old all now rest = (steps : ℕ) × (length rest ≤ steps) × (old ++ all ≡ now ++ element_numbers nested steps rest)

pub begins : (old : List Number) (levels : ℕ) (bytes : List ℕ) → (levels ≡ 0 → ⊥) → Comes (level_numbers (levels - 1)) old (level_numbers levels bytes) old bytes
unfolding level_numbers
begins old zero bytes some = absurd (some refl)
begins old (suc levels) bytes some = (length bytes, omega arith, ap (λ (l : ℕ). old ++ element_numbers (level_numbers l) (length bytes) bytes) (omega arith))

ends_at : (nested : List ℕ → List Number) (steps : ℕ) (rest : List ℕ) → first_element rest ≡ None → element_numbers nested steps rest ≡ []
unfolding element_numbers
ends_at nested zero rest is = refl
ends_at nested (suc n) rest is = ap (next_numbers nested (element_numbers nested n) rest) is

pub ends : (nested : List ℕ → List Number) (old all now : List Number) (rest : List ℕ) → None ≡ first_element rest → Comes nested old all now rest → now ≡ old ++ all
ends nested old all now rest is comes = sym (comes.2 ∙ ap (λ (x : List Number). now ++ x) (ends_at nested comes.0 rest (sym is)) ∙ append-nil now)

steps_on : (nested : List ℕ → List Number) (steps : ℕ) (rest : List ℕ) (x : ElementType × ℕ × ℕ) → first_element rest ≡ Some x → length rest ≤ steps
    → (n : ℕ) × (length (drop x.2 (drop x.1 rest)) ≤ n)
    × (element_numbers nested steps rest ≡ part_numbers nested (part_of x.0) x.0 (take x.2 (drop x.1 rest)) ++ element_numbers nested n (drop x.2 (drop x.1 rest)))
unfolding element_numbers
steps_on nested zero rest x is le = absurd (omega (arith, le, (first_element_fits rest x is).0, (first_element_fits rest x is).2))
steps_on nested (suc n) rest x is le = (
  n,
  omega (arith, le, (first_element_fits rest x is).0, (first_element_fits rest x is).2, length-drop x.2 (drop x.1 rest), length-drop x.1 rest),
  ap (next_numbers nested (element_numbers nested n) rest) is,
)

-- one element more, whose part and value these are, and whose numbers were added
pub goes_on : (nested : List ℕ → List Number) (old all now later : List Number) (rest more value after : List ℕ) (type : ElementType) (k n : ℕ) (part : Option Part)
    → Comes nested old all now rest → Some (type, k, n) ≡ first_element rest → more ≡ drop k rest → value ≡ take n more → after ≡ drop n more
    → part ≡ part_of type → later ≡ now ++ part_numbers nested part type value → Comes nested old all later after
goes_on nested old all now later rest more value after type k n part comes is p q r s added =
    let on = steps_on nested comes.0 rest (type, k, n) (sym is) comes.1 in
    let here : List ℕ = drop n (drop k rest) in
    let same : after ≡ here = r ∙ ap (drop n) p in
    let numbers : part_numbers nested part type value ≡ part_numbers nested (part_of type) type (take n (drop k rest)) =
    ap (λ (o : Option Part). part_numbers nested o type value) s ∙ ap (part_numbers nested (part_of type) type) (q ∙ ap (take n) p) in (
      on.0,
      subst (λ (x : List ℕ). length x ≤ on.0) (sym same) on.1,
      comes.2 ∙ ap (λ (x : List Number). now ++ x) on.2
          ∙ sym (append_assoc now (part_numbers nested (part_of type) type (take n (drop k rest))) (element_numbers nested on.0 here))
          ∙ ap (λ (x : List Number). (now ++ x) ++ element_numbers nested on.0 here) (sym numbers)
          ∙ ap (λ (x : List Number). x ++ element_numbers nested on.0 here) (sym added)
          ∙ ap (λ (x : List ℕ). later ++ element_numbers nested on.0 x) (sym same),
    )

-- no levels, no numbers
pub no_levels : (old : List Number) (levels : ℕ) (bytes : List ℕ) → levels ≡ 0 → old ≡ old ++ level_numbers levels bytes
unfolding level_numbers
no_levels old levels bytes is = sym (ap (λ (l : ℕ). old ++ level_numbers l bytes) is ∙ append-nil old)

-- numbers that were added to stay the first ones
pub extends_more : (old mid new more : List Number) → Extends old mid → new ≡ mid ++ more → Extends old new
extends_more old mid new more e is = (e.0 ++ more, is ∙ ap (λ (x : List Number). x ++ more) e.1 ∙ append_assoc old e.0 more)

-- a value that contains values has at least that many bytes
pub holder_fits : (type : ElementType) (holder : Holder) (value : List ℕ) → part_of type ≡ Some (parts.Values holder) → least type ≤ length value → holder_least holder ≤ length value
unfolding part_of least holder_least
holder_fits Double holder value is le = absurd cc
holder_fits Decimal128 holder value is le = absurd cc
holder_fits (Kept kinds.Int32) holder value is le = absurd cc
holder_fits (Kept kinds.Int64) holder value is le = absurd cc
holder_fits (Kept kinds.Doc) holders.Document value is le = le
holder_fits (Kept kinds.Doc) holders.Array value is le = absurd cc
holder_fits (Kept kinds.Doc) holders.CodeScope value is le = absurd cc
holder_fits (Kept kinds.Array) holders.Document value is le = absurd cc
holder_fits (Kept kinds.Array) holders.Array value is le = le
holder_fits (Kept kinds.Array) holders.CodeScope value is le = absurd cc
holder_fits (Kept kinds.CodeScope) holders.Document value is le = absurd cc
holder_fits (Kept kinds.CodeScope) holders.Array value is le = absurd cc
holder_fits (Kept kinds.CodeScope) holders.CodeScope value is le = le
holder_fits (Kept _) holder value is le = absurd cc

-- a document has at least five bytes
pub document_fits : (value : List ℕ) → 5 ≤ length value → holder_least holders.Document ≤ length value
unfolding holder_least
document_fits value le = le
