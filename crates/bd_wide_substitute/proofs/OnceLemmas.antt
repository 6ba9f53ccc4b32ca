-- The pieces of a text: two divisions of it differ in empty pieces alone.
use Rattle.std.proofs.Common.{◌≡◌, ℕ, suc, ◌+◌, ◌-◌, ◌==◌, nat_lt, length, true, false, cond, List, [], ◌∷◌, ◌++◌, refl, sym, ap, ◌∙◌, subst, inl, inr, arith, Option, Some, None, Result, Ok}
use Rattle.std.proofs.lemmas.Bool.{eqb-true, lt-leb}
use Rattle.std.proofs.lemmas.List.{append_cancel_right}
use Rattle.bd_wide_number.specs.declared.number.Number.TheVariants.{Double}
use Rattle.bd_wide_read.specs.DoubleText.{number_bits}
use Rattle.bd_wide_read.specs.declared.fault.TextFault.{TextFault}
use Rattle.bd_wide_substitute.specs.declared.wrapped.ValueType.{ValueType}
use Rattle.bd_wide_substitute.specs.declared.wrapped.WideValue.{WideValue}
use Rattle.bd_wide_substitute.specs.declared.wrapped.WideValue.TheVariants as wides
use Rattle.bd_wide_substitute.specs.Substitutes.{ArePieces, BeginsValue, Filler, IsBare, IsBefore, IsDouble, IsMeant, IsRun, Piece, Wrapper, all_values, byte_within, same, value, values_in, whole, after, after_string, all_numbers, filled, is_of_number, numbers_in, origin, original, with_fillers, wrapper_at, wrapper_inside}
use Rattle.bd_wide_substitute.proofs.MeaningLemmas.{double_is, meant_once}

-- ---- the first piece of a text

-- what follows a piece that stays, by the first byte of a text and the others
abbrev next : ℕ → List ℕ → List ℕ
next c cs = cond (c == 34) (after_string cs) (cond (is_of_number c) (after is_of_number (c ∷ cs)) cs)

first_is : {c d : ℕ} {cs ds : List ℕ} → c ∷ cs ≡ d ∷ ds → c ≡ d
first_is e = cc

others_are : {c d : ℕ} {cs ds : List ℕ} → c ∷ cs ≡ d ∷ ds → cs ≡ ds
others_are e = cc

-- bytes of numbers before others
run_then : (bytes rest : List ℕ) → after is_of_number bytes ≡ [] → after is_of_number (bytes ++ rest) ≡ after is_of_number rest
run_then [] rest e = refl
run_then (c ∷ cs) rest e =
    elim (is_of_number c) as (λ b. cond b (after is_of_number cs) (c ∷ cs) ≡ [] → cond b (after is_of_number (cs ++ rest)) (c ∷ (cs ++ rest)) ≡ after is_of_number rest) [
      | true ↦ λ h. run_then cs rest h
      | false ↦ λ h. absurd cc
    ] e

run_first : (c : ℕ) (cs : List ℕ) → after is_of_number (c ∷ cs) ≡ [] → is_of_number c ≡ true
run_first c cs e =
    elim (is_of_number c) as (λ b. cond b (after is_of_number cs) (c ∷ cs) ≡ [] → b ≡ true) [
      | true ↦ λ h. refl
      | false ↦ λ h. absurd cc
    ] e

-- one byte is not two
apart : (c d : ℕ) → c ≡ d → is_of_number c ≡ true → is_of_number d ≡ false → ⊥
apart c d e h k = let f : true ≡ false = sym h ∙ ap is_of_number e ∙ k in cc

no_quote : (c : ℕ) → is_of_number c ≡ true → (c == 34) ≡ false
no_quote c h =
    elim (c == 34) as (λ b. (c == 34) ≡ b → b ≡ false) [
      | true ↦ λ e. absurd (apart c 34 (eqb-true c 34 e) h refl)
      | false ↦ λ e. refl
    ] refl

next_of_number : (c : ℕ) (cs : List ℕ) → is_of_number c ≡ true → next c cs ≡ after is_of_number (c ∷ cs)
next_of_number c cs h = rw (no_quote c h) (rw h refl)

stays_to : (c : ℕ) (cs rest : List ℕ) → IsBefore (same (c ∷ cs)) rest → rest ≡ next c (cs ++ rest)
stays_to c cs rest (inl h) =
    let e : after_string (cs ++ rest) ≡ rest = ap (λ x. after_string (x ++ rest)) (others_are h.1) ∙ h.2 in
    let f : after_string (cs ++ rest) ≡ next c (cs ++ rest) = ap (λ x. next x (cs ++ rest)) (sym (first_is h.1)) in
    sym e ∙ f
stays_to c cs rest (inr (inl h)) =
    sym (h.0.1) ∙ sym (run_then (c ∷ cs) rest h.0.0) ∙ sym (next_of_number c (cs ++ rest) (run_first c cs h.0.0))
stays_to c cs rest (inr (inr h)) =
    let e : c ≡ h.0 = first_is h.1 in
    let quote : (c == 34) ≡ false = elim (c == 34) as (λ b. (c == 34) ≡ b → b ≡ false) [ true ↦ λ is. absurd (h.2 (sym e ∙ eqb-true c 34 is)) | false ↦ λ is. refl ] refl in
    let plain : is_of_number c ≡ false = ap is_of_number e ∙ h.3 in
    let whole : next c (cs ++ rest) ≡ cs ++ rest = rw quote (rw plain refl) in
    ap (λ x. x ++ rest) (sym (others_are h.1)) ∙ sym whole

no_brace : (c : ℕ) → c ≡ 34 → c ≡ 123 → ⊥
no_brace c e f = omega (arith, e, f)

nothing : {A : Type 0} {a : A} → None ≡ Some a → ⊥
nothing e = cc

-- the bytes of a wrapper begin with a brace
brace : (c : ℕ) (cs : List ℕ) (n : WideValue) (rest : List ℕ) → BeginsValue (c ∷ cs) n rest → c ≡ 123
brace c cs n rest h =
    elim (c == 123) as (λ b. (c == 123) ≡ b → cond b (wrapper_inside cs) None ≡ Some (h.0, Some (h.1, rest)) → c ≡ 123) [
      | true ↦ λ e k. eqb-true c 123 e
      | false ↦ λ e k. absurd cc
    ] refl h.2

no_wrapper : (c : ℕ) (cs rest : List ℕ) (n : WideValue) (more : List ℕ) → IsBefore (same (c ∷ cs)) rest → BeginsValue (c ∷ (cs ++ rest)) n more → ⊥
no_wrapper c cs rest n more (inl h) k = no_brace c (first_is h.1) (brace c (cs ++ rest) n more k)
no_wrapper c cs rest n more (inr (inl h)) k = apart c 123 (brace c (cs ++ rest) n more k) (run_first c cs h.0.0) refl
no_wrapper c cs rest n more (inr (inr h)) k =
    h.4 n more (subst (λ x. BeginsValue x n more) (ap (λ x. x ++ rest) h.1) k)

no_double : (c : ℕ) (cs rest bytes : List ℕ) (bits : ℕ) (more : List ℕ) → IsBefore (same (c ∷ cs)) rest → c ∷ (cs ++ rest) ≡ bytes ++ more → IsDouble bits bytes → IsRun bytes more → ⊥
no_double c cs rest [] bits more before is bare run = let e : false ≡ true = bare.0 in cc
no_double c cs rest (d ∷ ds) bits more before is bare run = go before
  where
    first : c ≡ d
    first = first_is is

    of_number : is_of_number c ≡ true
    of_number = ap is_of_number first ∙ run_first d ds run.0

    same_rest : rest ≡ more
    same_rest = stays_to c cs rest before ∙ next_of_number c (cs ++ rest) of_number ∙ ap (after is_of_number) is ∙ run_then (d ∷ ds) more run.0 ∙ run.1

    same_bytes : c ∷ cs ≡ d ∷ ds
    same_bytes = append_cancel_right (c ∷ cs) (d ∷ ds) more (ap (λ x. (c ∷ cs) ++ x) (sym same_rest) ∙ is)

    go : IsBefore (same (c ∷ cs)) rest → ⊥
    go (inl h) = apart c 34 (first_is h.1) of_number refl
    go (inr (inl h)) = h.1 bits (subst (λ x. IsDouble bits x) (sym same_bytes) bare)
    go (inr (inr h)) = apart c h.0 (first_is h.1) of_number h.3

no_number : (c : ℕ) (cs rest bytes : List ℕ) (n : WideValue) (more : List ℕ) → IsBefore (same (c ∷ cs)) rest → c ∷ (cs ++ rest) ≡ bytes ++ more → IsBefore (value bytes n) more → ⊥
no_number c cs rest bytes n more before is (inl h) = no_wrapper c cs rest n more before (subst (λ x. BeginsValue x n more) (sym is) h)
no_number c cs rest bytes n more before is (inr h) = no_double c cs rest bytes h.0.0 more before is h.0.2 h.1

empty_parts : (a b : List ℕ) → [] ≡ a ++ b → (a ≡ []) × (b ≡ [])
empty_parts [] b e = (refl, sym e)
empty_parts (c ∷ cs) b e = absurd cc

no_empty_number : (bytes : List ℕ) (n : WideValue) (rest : List ℕ) → [] ≡ bytes ++ rest → IsBefore (value bytes n) rest → ⊥
no_empty_number bytes n rest e (inl h) = let k : BeginsValue [] n rest = subst (λ x. BeginsValue x n rest) (sym e) h in nothing k.2
no_empty_number bytes n rest e (inr h) = let k : IsDouble h.0.0 [] = subst (λ x. IsDouble h.0.0 x) (empty_parts bytes rest e).0 h.0.2 in let f : false ≡ true = k.0 in cc

-- ---- all pieces

-- the pieces are the same but for empty ones
pub record AreAlike (ps qs : List Piece) : Type 0 where
  pub texts : (s : Filler) → with_fillers s ps ≡ with_fillers s qs
  pub numbers : all_numbers ps ≡ all_numbers qs
  pub values : all_values ps ≡ all_values qs
  pub origins : (at : ℕ) → origin ps at ≡ origin qs at

wrapper_is : (a b : Wrapper) (r : Option Wrapper) → r ≡ Some a → r ≡ Some b → a ≡ b
wrapper_is a b r e f = let both : Some a ≡ Some b = sym e ∙ f in cc

string_is : (a b : List ℕ × List ℕ) → Some a ≡ Some b → a ≡ b
string_is a b e = cc

abbrev good : WideValue → Result WideValue TextFault
good n = Ok n

value_is : (n x : WideValue) → good n ≡ good x → n ≡ x
value_is n x e = cc

-- two wrappers at the start of one text
wrapper_once : (source : List ℕ) (n x : WideValue) (rest more : List ℕ) → BeginsValue source n rest → BeginsValue source x more → (rest ≡ more) × (n ≡ x)
wrapper_once source n x rest more h k =
    let both : (h.0, Some (h.1, rest)) ≡ (k.0, Some (k.1, more)) = wrapper_is (h.0, Some (h.1, rest)) (k.0, Some (k.1, more)) (wrapper_at source) h.2 k.2 in
    let type : h.0 ≡ k.0 = ap (λ (w : Wrapper). w.0) both in
    let string : (h.1, rest) ≡ (k.1, more) = string_is (h.1, rest) (k.1, more) (ap (λ (w : Wrapper). w.1) both) in
    let contents : h.1 ≡ k.1 = ap (λ (p : List ℕ × List ℕ). p.0) string in
    let meant : IsMeant k.0 k.1 (Ok n) = subst (λ (t : ValueType). IsMeant t k.1 (Ok n)) type (subst (λ (x : List ℕ). IsMeant h.0 x (Ok n)) contents h.3) in
    (ap (λ (p : List ℕ × List ℕ). p.1) string, value_is n x (meant_once k.0 k.1 (Ok n) (Ok x) meant k.3))

-- a run begins with no brace
bare_first : (bytes : List ℕ) (bits : ℕ) (rest : List ℕ) (n : WideValue) (more : List ℕ) → IsDouble bits bytes → IsRun bytes rest → BeginsValue (bytes ++ rest) n more → ⊥
bare_first [] bits rest n more bare run k = let e : false ≡ true = bare.0 in cc
bare_first (c ∷ cs) bits rest n more bare run k = apart c 123 (brace c (cs ++ rest) n more k) (run_first c cs run.0) refl

run_rest : (bytes rest : List ℕ) → IsRun bytes rest → after is_of_number (bytes ++ rest) ≡ rest
run_rest bytes rest run = run_then bytes rest run.0 ∙ run.1

-- two values at the start of one text
number_once : (bytes others rest more : List ℕ) (n x : WideValue) → bytes ++ rest ≡ others ++ more → IsBefore (value bytes n) rest → IsBefore (value others x) more → (rest ≡ more) × (n ≡ x)
number_once bytes others rest more n x is (inl h) (inl k) = wrapper_once (others ++ more) n x rest more (subst (λ (t : List ℕ). BeginsValue t n rest) is h) k
number_once bytes others rest more n x is (inl h) (inr k) = absurd (bare_first others k.0.0 more n rest k.0.2 k.1 (subst (λ (t : List ℕ). BeginsValue t n rest) is h))
number_once bytes others rest more n x is (inr h) (inl k) = absurd (bare_first bytes h.0.0 rest x more h.0.2 h.1 (subst (λ (t : List ℕ). BeginsValue t x more) (sym is) k))
number_once bytes others rest more n x is (inr h) (inr k) =
    let rests : rest ≡ more = sym (run_rest bytes rest h.1) ∙ ap (after is_of_number) is ∙ run_rest others more k.1 in
    let one : bytes ≡ others = append_cancel_right bytes others more (ap (λ (t : List ℕ). bytes ++ t) (sym rests) ∙ is) in
    let bits : h.0.0 ≡ k.0.0 = double_is h.0.0 k.0.0 (number_bits others) (ap number_bits (sym one) ∙ h.0.2.1) k.0.2.1 in
    (rests, h.0.1 ∙ ap (λ (b : ℕ). wides.Number (Double b)) bits ∙ sym k.0.1)

-- two pieces at the start of one text
pub piece_once : (p q : Piece) (rest more : List ℕ) → (p ≡ same [] → ⊥) → (q ≡ same [] → ⊥) → original p ++ rest ≡ original q ++ more → IsBefore p rest → IsBefore q more → (rest ≡ more) × (p ≡ q)
piece_once (same []) q rest more some others is h k = absurd (some refl)
piece_once p (same []) rest more some others is h k = absurd (others refl)
piece_once (same (c ∷ cs)) (value bytes n) rest more some others is h k = absurd (no_number c cs rest bytes n more h is k)
piece_once (value bytes n) (same (c ∷ cs)) rest more some others is h k = absurd (no_number c cs more bytes n rest k (sym is) h)
piece_once (same (c ∷ cs)) (same (d ∷ ds)) rest more some others is h k =
    let rests : rest ≡ more = stays_to c cs rest h ∙ (λ i. next (first_is is i) (others_are is i)) ∙ sym (stays_to d ds more k) in
    (rests, ap same (append_cancel_right (c ∷ cs) (d ∷ ds) more (ap (λ (t : List ℕ). (c ∷ cs) ++ t) (sym rests) ∙ is)))
piece_once (value bytes n) (value twos x) rest more some others is h k =
    let both = number_once bytes twos rest more n x is h k in
    let one : bytes ≡ twos = append_cancel_right bytes twos more (ap (λ (t : List ℕ). bytes ++ t) (sym both.0) ∙ is) in
    (both.0, λ i. value (one i) (both.1 i))

pub none_empty : (p : Piece) (rest : List ℕ) → (p ≡ same [] → ⊥) → [] ≡ original p ++ rest → IsBefore p rest → ⊥
none_empty (same []) rest some is h = some refl
none_empty (same (c ∷ cs)) rest some is h = let e : [] ≡ c ∷ (cs ++ rest) = is in cc
none_empty (value bytes n) rest some is h = no_empty_number bytes n rest is h

-- an empty piece moves no byte
empty_first : (qs : List Piece) (at : ℕ) → origin (same [] ∷ qs) at ≡ origin qs at
empty_first qs at =
    let is_beyond : nat_lt at 0 ≡ false = lt-leb (suc at) 0 (omega arith) in
    let rest_count : at - 0 ≡ at = omega arith in
    rw (is_beyond, rest_count) (omega arith)

-- nothing becomes nothing
pub empty_origin : (qs : List Piece) (at : ℕ) → ArePieces [] qs → origin qs at ≡ 0
empty_origin [] at are = refl
empty_origin (same [] ∷ qs) at are = empty_first qs at ∙ empty_origin qs at (subst (λ (t : List ℕ). ArePieces t qs) (sym are.1) are.3)
empty_origin (same (c ∷ cs) ∷ qs) at are = absurd (let e : [] ≡ c ∷ (cs ++ are.0) = are.1 in cc)
empty_origin (value bytes n ∷ qs) at are = absurd (no_empty_number bytes n are.0 are.1 are.2)

empty_alike : (qs : List Piece) → ArePieces [] qs → AreAlike [] qs
empty_alike [] are = record { texts = λ s. refl; numbers = refl; values = refl; origins = λ at. refl }
empty_alike (same [] ∷ qs) are = let h = empty_alike qs (subst (λ (t : List ℕ). ArePieces t qs) (sym are.1) are.3) in record { texts = h.texts; numbers = h.numbers; values = h.values; origins = λ at. h.origins at ∙ sym (empty_first qs at) }
empty_alike (same (c ∷ cs) ∷ qs) are = absurd (let e : [] ≡ c ∷ (cs ++ are.0) = are.1 in cc)
empty_alike (value bytes n ∷ qs) are = absurd (no_empty_number bytes n are.0 are.1 are.2)

joined_alike : (p q : Piece) (ps qs : List Piece) → p ≡ q → AreAlike ps qs → AreAlike (p ∷ ps) (q ∷ qs)
joined_alike p q ps qs e h = record {
  texts = λ s. λ i. filled s (e i) ++ h.texts s i;
  numbers = λ i. numbers_in (e i) ++ h.numbers i;
  values = λ i. values_in (e i) ++ h.values i;
  origins = λ at. λ i. cond (nat_lt at (length (filled whole (e i)))) (byte_within (e i) at) (length (original (e i)) + h.origins (at - length (filled whole (e i))) i);
}

-- If the pieces after a first one are the same as all that are there, so are those from it on.
after_first : (p : Piece) (ps : List Piece) (rest source : List ℕ) → (p ≡ same [] → ⊥) → source ≡ original p ++ rest → IsBefore p rest → ((qs : List Piece) → ArePieces rest qs → AreAlike ps qs)
    → (qs : List Piece) → ArePieces source qs → AreAlike (p ∷ ps) qs
after_first p ps rest source some is before on [] are = absurd (none_empty p rest some (sym are ∙ is) before)
after_first p ps rest source some is before on (same [] ∷ qs) are = let h = after_first p ps rest source some is before on qs (subst (λ (t : List ℕ). ArePieces t qs) (sym are.1) are.3) in record { texts = h.texts; numbers = h.numbers; values = h.values; origins = λ at. h.origins at ∙ sym (empty_first qs at) }
after_first p ps rest source some is before on (same (d ∷ ds) ∷ qs) are =
    let first = piece_once p (same (d ∷ ds)) rest are.0 some not_empty (sym is ∙ are.1) before are.2 in
    joined_alike p (same (d ∷ ds)) ps qs first.1 (on qs (subst (λ (t : List ℕ). ArePieces t qs) (sym first.0) are.3))
  where
    not_empty : same (d ∷ ds) ≡ same [] → ⊥
    not_empty e = cc
after_first p ps rest source some is before on (value bytes n ∷ qs) are =
    let first = piece_once p (value bytes n) rest are.0 some not_empty (sym is ∙ are.1) before are.2 in
    joined_alike p (value bytes n) ps qs first.1 (on qs (subst (λ (t : List ℕ). ArePieces t qs) (sym first.0) are.3))
  where
    not_empty : value bytes n ≡ same [] → ⊥
    not_empty e = cc

-- two divisions of one text
pub alike : (ps qs : List Piece) (source : List ℕ) → ArePieces source ps → ArePieces source qs → AreAlike ps qs
alike [] qs source are others = empty_alike qs (subst (λ (t : List ℕ). ArePieces t qs) are others)
alike (same [] ∷ ps) qs source are others = let h = alike ps qs are.0 are.3 (subst (λ (t : List ℕ). ArePieces t qs) are.1 others) in record { texts = h.texts; numbers = h.numbers; values = h.values; origins = λ at. empty_first ps at ∙ h.origins at }
alike (same (c ∷ cs) ∷ ps) qs source are others = after_first (same (c ∷ cs)) ps are.0 source (λ e. cc) are.1 are.2 (λ rs h. alike ps rs are.0 are.3 h) qs others
alike (value bytes n ∷ ps) qs source are others = after_first (value bytes n) ps are.0 source (λ e. cc) are.1 are.2 (λ rs h. alike ps rs are.0 are.3 h) qs others

-- the pieces of a text after the first that is not empty
pub after_one : (p : Piece) (rest source : List ℕ) → (p ≡ same [] → ⊥) → source ≡ original p ++ rest → IsBefore p rest
    → (qs : List Piece) → ArePieces source qs → (rs : List Piece) × ArePieces rest rs × ((at : ℕ) → origin qs at ≡ origin (p ∷ rs) at)
after_one p rest source some is before [] are = absurd (none_empty p rest some (sym are ∙ is) before)
after_one p rest source some is before (same [] ∷ qs) are =
    let h = after_one p rest source some is before qs (subst (λ (t : List ℕ). ArePieces t qs) (sym are.1) are.3) in
    (h.0, h.1, λ at. empty_first qs at ∙ h.2 at)
after_one p rest source some is before (same (d ∷ ds) ∷ qs) are =
    let first = piece_once p (same (d ∷ ds)) rest are.0 some (λ e. cc) (sym is ∙ are.1) before are.2 in
    (qs, subst (λ (t : List ℕ). ArePieces t qs) (sym first.0) are.3, λ at. ap (λ (q : Piece). origin (q ∷ qs) at) (sym first.1))
after_one p rest source some is before (value bytes n ∷ qs) are =
    let first = piece_once p (value bytes n) rest are.0 some (λ e. cc) (sym is ∙ are.1) before are.2 in
    (qs, subst (λ (t : List ℕ). ArePieces t qs) (sym first.0) are.3, λ at. ap (λ (q : Piece). origin (q ∷ qs) at) (sym first.1))
