-- Runs of unchanged elements, whose bytes are written at once.
use Rattle.std.proofs.Common.{◌≡◌, ℕ, ◌-◌, List, [], ◌++◌, length, take, drop, Some, None, refl, sym, ap, ◌∙◌, arith, append_assoc, append-nil, length-append, take_at, subst}
use Rattle.std.proofs.lemmas.List.{take-append-drop}
use Rattle.bd_bson_view.specs.declared.raw_parts.ElementType.{ElementType}
use Rattle.bd_wide.specs.Rewritten.{Writes, Nested, first_element, part_of, IsElement}
use Rattle.bd_wide.proofs.RewriteLemmas.{Comes, stepped, part_of_element}

-- the bytes of a run before the rest
abbrev pub before : List ℕ → List ℕ → List ℕ
before run rest = take (length run - length rest) run

before_itself : (bytes : List ℕ) → before bytes bytes ≡ []
before_itself bytes = let none : length bytes - length bytes ≡ 0 = omega arith in ap (λ n. take n bytes) none

pub run_begins : (bytes : List ℕ) → bytes ≡ before bytes bytes ++ bytes
run_begins bytes = ap (λ x. x ++ bytes) (sym (before_itself bytes))

pub nothing_before : (run rest out : List ℕ) → length run - length rest ≡ 0 → out ≡ out ++ take (length run - length rest) run
nothing_before run rest out none = sym (append-nil out) ∙ ap (λ n. out ++ take n run) (sym none)

-- a run begins once everything before it is written
pub comes_anew : (Is : Writes) (nested : Nested) (bytes rest old out : List ℕ)
    → Comes Is nested bytes rest old out → Comes Is nested bytes rest old (out ++ before rest rest)
comes_anew Is nested bytes rest old out comes =
    subst (λ x. Comes Is nested bytes rest old x) (sym (append-nil out) ∙ ap (λ x. out ++ x) (sym (before_itself rest))) comes

pub comes_flushed : (Is : Writes) (nested : Nested) (bytes rest old out now run : List ℕ)
    → Comes Is nested bytes rest old (out ++ before run rest) → now ≡ out ++ before run rest → Comes Is nested bytes rest old now
comes_flushed Is nested bytes rest old out now run comes is = subst (λ x. Comes Is nested bytes rest old x) (sym is) comes

-- an element that is not examined extends the run
pub stays_as_it_is : (Is : Writes) (nested : Nested) (t : ElementType) (head value : List ℕ) → None ≡ part_of t → IsElement Is nested t head value (head ++ value)
stays_as_it_is Is nested t head value none = part_of_element Is nested t None head value (head ++ value) none refl

element_parts : (rest : List ℕ) (k n : ℕ) → rest ≡ (take k rest ++ take n (drop k rest)) ++ drop n (drop k rest)
element_parts rest k n = sym (append_assoc (take k rest) (take n (drop k rest)) (drop n (drop k rest)) ∙ ap (λ x. take k rest ++ x) (take-append-drop n (drop k rest)) ∙ take-append-drop k rest)

longer_run : (run rest one remaining : List ℕ) → run ≡ before run rest ++ rest → rest ≡ one ++ remaining → run ≡ (before run rest ++ one) ++ remaining
longer_run run rest one remaining whole is = whole ∙ ap (λ x. before run rest ++ x) is ∙ sym (append_assoc (before run rest) one remaining)

before_splits : (run all remaining : List ℕ) → run ≡ all ++ remaining → before run remaining ≡ all
before_splits run all remaining is =
    let size : length run - length remaining ≡ length all = omega (arith, ap (λ xs. length xs) is, length-append all remaining) in
    ap (λ x. take (length run - length remaining) x) is ∙ take_at all remaining (length run - length remaining) (sym size)

pub run_goes_on : (Is : Writes) (nested : Nested) (bytes old out run rest head more value remaining : List ℕ) (t : ElementType) (k n : ℕ)
    → Comes Is nested bytes rest old (out ++ before run rest) → run ≡ before run rest ++ rest → Some (t, k, n) ≡ first_element rest → None ≡ part_of t
    → head ≡ take k rest → more ≡ drop k rest → value ≡ take n more → remaining ≡ drop n more
    → Comes Is nested bytes remaining old (out ++ before run remaining) × (run ≡ before run remaining ++ remaining)
run_goes_on Is nested bytes old out run rest head more value remaining t k n comes whole is stays p q r s =
    let one : List ℕ = take k rest ++ take n (drop k rest) in
    let after : List ℕ = drop n (drop k rest) in
    let all : run ≡ (before run rest ++ one) ++ after = longer_run run rest one after whole (element_parts rest k n) in
    let splits : before run after ≡ before run rest ++ one = before_splits run (before run rest ++ one) after all in
    let next = stepped Is nested bytes old (out ++ before run rest) ((out ++ before run rest) ++ one) rest (take k rest) (drop k rest) (take n (drop k rest)) after t k n
    comes is refl refl refl refl (one, stays_as_it_is Is nested t (take k rest) (take n (drop k rest)) stays, refl) in
    let same : after ≡ remaining = sym (s ∙ ap (drop n) q) in
    let written : (out ++ before run rest) ++ one ≡ out ++ before run after = append_assoc out (before run rest) one ∙ ap (λ x. out ++ x) (sym splits) in
    subst (λ (l : List ℕ). Comes Is nested bytes l old (out ++ before run l) × (run ≡ before run l ++ l)) same
    (subst (λ (x : List ℕ). Comes Is nested bytes after old x) written next, all ∙ ap (λ x. x ++ after) (sym splits))

-- the run and the rest are written together
pub run_written : (out run rest now : List ℕ) → run ≡ before run rest ++ rest → now ≡ out ++ run → now ≡ (out ++ before run rest) ++ rest
run_written out run rest now whole is = is ∙ ap (λ x. out ++ x) whole ∙ sym (append_assoc out (before run rest) rest)
