use Rattle.std.proofs.Common.{◌≡◌, ℕ, ◌<◌, true, cond, min, List, [], ◌∷◌, length, Some, None, option_map, Result, Ok, Err, refl, sym, ap, ◌∙◌, arith}
use Rattle.std.specs.{Result.OkIff, Result.result_unwrap_or, Str.all_ascii_digits, Str.Parse.digits_value}
use Rattle.std.proofs.lemmas.Str.Parse.{numerals_by_value, tells_all_ascii_digits, parse_digits}
use Rattle.bd_path.specs.Reach.{is_index}
use Rattle.bd_path.proofs.component.index_of.Goals as goal

are_digits : (name : List ℕ) → is_index name ≡ true → all_ascii_digits name ≡ true
are_digits [] is = refl
are_digits (c ∷ []) is = grind arith
are_digits (c ∷ d ∷ cs) is = grind arith

some_digit : (name : List ℕ) → is_index name ≡ true → 0 < length name
some_digit [] is = absurd cc
some_digit (c ∷ cs) is = omega arith

-- the number read, if it fits, and the greatest number if it does not
least_beyond : (v : ℕ) → ¬ (v < 18446744073709551616) → 18446744073709551615 ≡ min v 18446744073709551615
least_beyond v h = grind arith

least_of : {E : Type 0} (r : Result ℕ E) (P : Type 0) (v : ℕ) → (v < 18446744073709551616 → P) → (P → v < 18446744073709551616) → OkIff r P v
    → result_unwrap_or r 18446744073709551615 ≡ min v 18446744073709551615
least_of (Ok x) P v f g h = h.1 ∙ (let l = g h.0 in omega arith)
least_of (Err e) P v f g h = least_beyond v (λ lt. h (f lt))

pub returns : goal.returns
returns c =
    let name = c.args.name.now in
    let is : true ≡ is_index name = c.if-not-is_index.ensures ∙ ap is_index c.as_bytes.ensures.value in
    let digits = parse_digits (numerals_by_value (λ ds. all_ascii_digits ds ≡ true) tells_all_ascii_digits) 64 name c.parse.result c.parse.ensures.value.0 (are_digits name (sym is)) in
    let least = least_of c.parse.result _ (digits_value 10 name) (λ lt. (some_digit name (sym is), lt)) (λ p. p.1) digits in
    rw (c.unwrap_or.ensures, least) (ap (λ b. option_map (λ (i : ℕ). min i 18446744073709551615) (cond b (Some (digits_value 10 name)) None)) is)
