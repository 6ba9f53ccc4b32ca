-- How many bytes a value has where its bytes are there.
use Rattle.std.proofs.Common.{◌≡◌, ℕ, ◌+◌, ◌≤◌, List, [], ◌∷◌, ◌++◌, length, drop, Option, Some, None, refl, sym, ap, ◌∙◌, arith, append_assoc, length-append, drop_at, true, false, nat_lt, ◌||◌, if◌then◌else◌}
use Rattle.std.proofs.lemmas.{Bool.Decides.nat_tests}
use Rattle.bd_value.specs.{View.scalar_kind}
use Rattle.bd_value.specs.Tree as trees
use Rattle.bd_value.specs.Tree.{Scalar}
use Rattle.bd_bson_view.specs.declared.raw_parts.ElementType.TheVariants.{Kept}
use Rattle.bd_bson_view.specs.Spelling.{IsName, IsScalar}
use Rattle.bd_bson_view.specs.Sizes.{number_of}
use Rattle.bd_bson_view.specs.Unique.{regex_whole, zero_offset, scalar_size}
use Rattle.bd_bson_view.proofs.ValueAtLemmas as values
use Rattle.bd_wide.specs.Rewritten.{◌>>=◌, fixed, counted, first_zero, two_texts, size_at}

-- ---- how many bytes a value has

pub zero_there : (name rest : List ℕ) → IsName name → first_zero (name ++ 0 ∷ rest) ≡ Some (length name)
zero_there name rest h =
    let at = zero_offset name rest h.1 in
    let some : nat_lt (length name) (length (name ++ 0 ∷ rest)) ≡ true = grind (arith, nat_tests, length-append name (0 ∷ rest)) in
    rw (at, some) refl

pub fixed_there : (n : ℕ) (v r : List ℕ) → n ≡ length v → fixed n (v ++ r) ≡ Some (length v)
fixed_there n v r same =
    let some : nat_lt (length (v ++ r)) n ≡ false = grind (arith, nat_tests, length-append v r) in
    rw some (ap Some same)

pub counted_there : (least others : ℕ) (v r : List ℕ) → 4 ≤ length v → least ≤ number_of (v ++ r) → number_of (v ++ r) + others ≡ length v → counted least others (v ++ r) ≡ Some (length v)
counted_there least others v r four some same =
    let enough : (nat_lt (length (v ++ r)) 4 || nat_lt (number_of (v ++ r)) least) ≡ false = grind (arith, nat_tests, length-append v r) in
    ap (λ b. if b then None else fixed (number_of (v ++ r) + others) (v ++ r)) enough ∙ fixed_there (number_of (v ++ r) + others) v r same

two_there : (p o r : List ℕ) → IsName p → IsName o → two_texts ((p ++ 0 ∷ (o ++ 0 ∷ [])) ++ r) ≡ Some (length p + 1 + (length o + 1))
unfolding two_texts
two_there p o r first second =
    let after : drop (length p + 1) (p ++ 0 ∷ (o ++ 0 ∷ r)) ≡ o ++ 0 ∷ r =
    ap (drop (length p + 1)) (sym (append_assoc p (0 ∷ []) (o ++ 0 ∷ r))) ∙ drop_at (p ++ 0 ∷ []) (o ++ 0 ∷ r) (length p + 1) (length-append p (0 ∷ [])) in
    ap (λ (x : List ℕ). first_zero x >>= λ k. first_zero (drop (k + 1) x) >>= λ m. Some (k + 1 + (m + 1))) (regex_whole p o r)
    ∙ ap (λ (f : Option ℕ). f >>= λ k. first_zero (drop (k + 1) (p ++ 0 ∷ (o ++ 0 ∷ r))) >>= λ m. Some (k + 1 + (m + 1))) (zero_there p (o ++ 0 ∷ r) first)
    ∙ ap (λ (f : Option ℕ). f >>= λ m. Some (length p + 1 + (m + 1))) (ap first_zero after ∙ zero_there o r second)

pub scalar_there : (a : Scalar) (v r : List ℕ) → IsScalar a v → size_at (Kept (scalar_kind a)) (v ++ r) ≡ Some (length v)
unfolding size_at
scalar_there (trees.boolean b) v r h = fixed_there 1 v r (scalar_size (trees.boolean b) v r h)
scalar_there (trees.int32 z) v r h = fixed_there 4 v r (scalar_size (trees.int32 z) v r h)
scalar_there (trees.int64 z) v r h = fixed_there 8 v r (scalar_size (trees.int64 z) v r h)
scalar_there (trees.date z) v r h = fixed_there 8 v r (scalar_size (trees.date z) v r h)
scalar_there (trees.timestamp s i) v r h = fixed_there 8 v r (scalar_size (trees.timestamp s i) v r h)
scalar_there (trees.object_id id) v r h = fixed_there 12 v r (scalar_size (trees.object_id id) v r h)
scalar_there (trees.text s) v r h =
    let size = scalar_size (trees.text s) v r h in
    let some = (values.scalar_reads (trees.text s) v r h).some in counted_there 1 4 v r (omega (arith, size)) some (omega (arith, size))
scalar_there (trees.symbol s) v r h =
    let size = scalar_size (trees.symbol s) v r h in
    let some = (values.scalar_reads (trees.symbol s) v r h).some in counted_there 1 4 v r (omega (arith, size)) some (omega (arith, size))
scalar_there (trees.code s) v r h =
    let size = scalar_size (trees.code s) v r h in
    let some = (values.scalar_reads (trees.code s) v r h).some in counted_there 1 4 v r (omega (arith, size)) some (omega (arith, size))
scalar_there (trees.db_pointer s id) v r h =
    let size = scalar_size (trees.db_pointer s id) v r h in
    let some = (values.scalar_reads (trees.db_pointer s id) v r h).0.some in counted_there 1 16 v r (omega (arith, size)) some (omega (arith, size))
scalar_there (trees.binary k s) v r h =
    let size = scalar_size (trees.binary k s) v r h in counted_there 0 5 v r (omega (arith, size)) (omega arith) (omega (arith, size))
scalar_there (trees.regex p o) v r h =
    let size : length (p ++ 0 ∷ (o ++ 0 ∷ [])) ≡ length p + 1 + (length o + 1) = omega (arith, length-append p (0 ∷ (o ++ 0 ∷ [])), length-append o (0 ∷ [])) in
    rw h.1 (two_there p o r h.0.0 h.0.1 ∙ ap Some (sym size))
scalar_there _ v r h = rw h.1 refl
