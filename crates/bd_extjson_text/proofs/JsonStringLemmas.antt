-- Strings: bytes that need no escape are written as they are, such as digits and the symbols of bytes.
use Rattle.std.proofs.Common.{◌≡◌, ℕ, suc, ◌+◌, ◌-◌, ◌<◌, ◌≤◌, Bool, true, false, cond, List, [], ◌∷◌, ◌++◌, length, take, drop, get_or, Some, None, refl, sym, ap, ap₂}
use Rattle.std.proofs.Common.{◌∙◌, subst, arith, add-one, drop-cons, append-nil, append_assoc, length-drop, ◌^◌, ℤ, pos, negsuc, decimal, zero, ◌*◌, ◌/◌, ◌%◌, replicate}
use Rattle.std.proofs.Common.{slice_index, Option, inl, inr, eqb, ltb, not, bit_or, map}
use Rattle.std.specs.Prelude.{nat_lt, option_map, ◌||◌}
use Rattle.std.specs.Fmt.{signed_decimal}
use Rattle.std.specs.Int.{w32, w64}
use Rattle.std.specs.Int.RustNames.{FitsSigned}
use Rattle.std.specs.Int.Signed.{mag}
use Rattle.std.specs.List.{position, position_or_len, list_any}
use Rattle.std.specs.Str.Parse.{AllDigits}
use Rattle.std.proofs.Math.ListN.{drop_of_length-le}
use Rattle.std.proofs.lemmas.List.{take_all, length-drop}
use Rattle.std.proofs.lemmas.List.Quantifiers.{position-Some}
use Rattle.std.proofs.lemmas.Str.Parse.{digit_from_value}
use Rattle.std.proofs.lemmas.Fmt.{decimal_is_IsNumeral}
use Rattle.std.proofs.lemmas.Int.{ints}
use Rattle.std.proofs.lemmas.Bool.{or_parts, cases_lt}
use Rattle.std.proofs.lemmas.Bool.Decides.{nat_tests}
use Rattle.std.proofs.lemmas.Grind.{common_steps, flat_map-append}
use Rattle.base64.specs.Engines.{standard}
use Rattle.base64.specs.Rfc4648.{encode_symbols, padding_len}
use Rattle.hex.specs.Hex.{IsBytes, encode_with, lower_digits}
use Rattle.bd_extjson_text.specs.Text.{needs_escape, escape_byte, escaped, base64_text, hex_text}
use Rattle.std.specs.List.{prefix_len}
use Rattle.std.proofs.{lemmas.List.Sums.prefix_len-le-length, lemmas.List.length-map}
use Rattle.std.proofs.lemmas.Simd.{length-chunk, trailing_mask_l, mask_l-mod, zip2_splat, zip2_of_maps, map-map, run_in_chunk_fails, none_from_empty_mask}
use lib.Count.{count_trailing_zeros}
use lib.Lanes.{zip2, chunk, mask_l, top}

pub escape_byte-plain : (b : ℕ) → needs_escape b ≡ false → escape_byte b ≡ b ∷ []
unfolding escape_byte
escape_byte-plain b h = grind (arith, common_steps)

-- digits are written as they are in a JSON string
pub escaped-digits : (ds : List ℕ) → AllDigits 10 ds → escaped ds ≡ ds
escaped-digits [] h = refl
escaped-digits (d ∷ ds) h =
    let inside = digit_from_value d h.0 in
    let plain : needs_escape d ≡ false = grind (arith, common_steps) in
    rw (escape_byte-plain d plain) (ap (λ (l : List ℕ). d ∷ l) (escaped-digits ds h.1))

-- bytes that need no escape are written as they are in a JSON string
pub escaped-plain : (xs : List ℕ) → list_any needs_escape xs ≡ false → escaped xs ≡ xs
escaped-plain [] h = refl
escaped-plain (b ∷ bs) h =
    let parts = or_parts (needs_escape b) (list_any needs_escape bs) h in
    rw (escape_byte-plain b parts.0) (ap (λ (l : List ℕ). b ∷ l) (escaped-plain bs parts.1))

escaped-from_run : (xs : List ℕ) → escaped xs ≡ take (position_or_len needs_escape xs) xs ++ escaped (drop (position_or_len needs_escape xs) xs)
escaped-from_run [] = refl
escaped-from_run (b ∷ bs) = one (needs_escape b) refl (escaped-from_run bs)
  where
    one : (v : Bool) → needs_escape b ≡ v → escaped bs ≡ take (position_or_len needs_escape bs) bs ++ escaped (drop (position_or_len needs_escape bs) bs)
        → escaped (b ∷ bs) ≡ take (position_or_len needs_escape (b ∷ bs)) (b ∷ bs) ++ escaped (drop (position_or_len needs_escape (b ∷ bs)) (b ∷ bs))
    one true e more = rw e refl
    one false e more =
        let next : 1 + position_or_len needs_escape bs ≡ suc (position_or_len needs_escape bs) = omega arith in
        rw (e, next, escape_byte-plain b e) (ap (λ (l : List ℕ). b ∷ l) more)

-- ---- copying in runs

found : (m n i : ℕ) → cond (nat_lt m n) (Some m) None ≡ Some i → m ≡ i
found m n i e = grind (arith, nat_tests, e)

not_found : (m n : ℕ) → cond (nat_lt m n) (Some m) None ≡ None → n ≤ m
not_found m n e = grind (arith, nat_tests, e)

pub escaped-to_end : (xs : List ℕ) → position needs_escape xs ≡ None → escaped xs ≡ xs
escaped-to_end xs e =
    let beyond = not_found (position_or_len needs_escape xs) (length xs) e in
    escaped-from_run xs ∙ rw (take_all (position_or_len needs_escape xs) xs beyond, drop_of_length-le xs beyond) (append-nil xs)

-- a run and the escape after it are written, and the rest of the n bytes remains
pub run_step : (xs out total : List ℕ) (i n : ℕ) → position needs_escape xs ≡ Some i → length xs ≡ n → out ++ escaped xs ≡ total
    → ((out ++ take i xs) ++ escape_byte (get_or xs i 0)) ++ escaped (take (n - (i + 1)) (drop (i + 1) xs)) ≡ total
run_step xs out total i n e len so_far =
    let inside = (position-Some needs_escape xs i 0 e).0 in
    let at = found (position_or_len needs_escape xs) (length xs) i e in
    let run : escaped xs ≡ take i xs ++ escaped (drop i xs) = subst (λ (k : ℕ). escaped xs ≡ take k xs ++ escaped (drop k xs)) at (escaped-from_run xs) in
    let here : escaped (drop i xs) ≡ escape_byte (get_or xs i 0) ++ escaped (drop (i + 1) xs) = rw (add-one, drop-cons xs i 0) refl in
    let short : length (drop (i + 1) xs) ≤ n - (i + 1) = omega (arith, length-drop (i + 1) xs) in
    rw (take_all (n - (i + 1)) (drop (i + 1) xs) short) (simp append_assoc (ap (λ (l : List ℕ). out ++ l) (sym (run ∙ ap (λ (l : List ℕ). take i xs ++ l) here)) ∙ so_far))

-- ---- numbers

-- an int32 is within 63 bits and a sign
pub fits_32 : (z : ℤ) → FitsSigned w32 z → mag z < 2 ^ 63
fits_32 (pos n) fits = omega (arith, ints)
fits_32 (negsuc n) fits = omega (arith, ints)

-- an int64 is within 63 bits and a sign
pub fits_64 : (z : ℤ) → FitsSigned w64 z → mag z < 2 ^ 63
fits_64 (pos n) fits = omega (arith, ints)
fits_64 (negsuc n) fits = omega (arith, ints)

-- an int32 is an int64 too
pub wider : (z : ℤ) → FitsSigned w32 z → FitsSigned w64 z
wider (pos n) fits = record { sfits = omega (arith, ints) }
wider (negsuc n) fits = record { sfits = omega (arith, ints) }

escaped-decimal : (n : ℕ) → n < 2 ^ 64 → escaped (decimal n) ≡ decimal n
escaped-decimal n small = escaped-digits (decimal n) (decimal_is_IsNumeral n small).0.1

pub escaped-signed_decimal : (z : ℤ) → mag z < 2 ^ 63 → escaped (signed_decimal z) ≡ signed_decimal z
unfolding escape_byte
escaped-signed_decimal (pos n) small = escaped-decimal n (omega arith)
escaped-signed_decimal (negsuc n) small = ap (λ (l : List ℕ). 45 ∷ l) (escaped-decimal (suc n) (omega arith))

-- ---- the symbols of bytes

-- a symbol of a table without bytes that need an escape
symbol-plain : (t : List ℕ) (i : ℕ) → list_any needs_escape t ≡ false → i < length t → needs_escape (slice_index t i) ≡ false
symbol-plain [] i plain inside = absurd (omega arith)
symbol-plain (b ∷ bs) zero plain inside = (or_parts (needs_escape b) (list_any needs_escape bs) plain).0
symbol-plain (b ∷ bs) (suc i) plain inside = symbol-plain bs i (or_parts (needs_escape b) (list_any needs_escape bs) plain).1 (omega arith)

-- it is written as it is before any text that is
symbol-escaped : (t : List ℕ) (i : ℕ) (xs : List ℕ) → list_any needs_escape t ≡ false → i < length t → escaped xs ≡ xs → escaped (slice_index t i ∷ xs) ≡ slice_index t i ∷ xs
symbol-escaped t i xs plain inside more = rw (escape_byte-plain (slice_index t i) (symbol-plain t i plain inside), more) refl

escaped-encode_with : (bs : List ℕ) → IsBytes bs → escaped (encode_with lower_digits bs) ≡ encode_with lower_digits bs
unfolding encode_with
escaped-encode_with [] fits = refl
escaped-encode_with (b ∷ bs) fits =
    let byte : b < 256 = fits 0 in
    let high : b / 16 < 16 = omega arith in
    let low : b % 16 < 16 = omega arith in
    symbol-escaped lower_digits (b / 16) (slice_index lower_digits (b % 16) ∷ encode_with lower_digits bs) refl high
    (symbol-escaped lower_digits (b % 16) (encode_with lower_digits bs) refl low (escaped-encode_with bs (λ i. fits (suc i))))

pub escaped-hex_text : (bs : List ℕ) → IsBytes bs → escaped (hex_text bs) ≡ hex_text bs
unfolding hex_text
escaped-hex_text bs fits = escaped-encode_with bs fits

abbrev table : List ℕ
table = standard.encode_table

one : (i : ℕ) (xs : List ℕ) → i < 64 → escaped xs ≡ xs → escaped (slice_index table i ∷ xs) ≡ slice_index table i ∷ xs
one i xs inside more = symbol-escaped table i xs refl inside more

two : (i j : ℕ) (xs : List ℕ) → i < 64 → j < 64 → escaped xs ≡ xs → escaped (slice_index table i ∷ slice_index table j ∷ xs) ≡ slice_index table i ∷ slice_index table j ∷ xs
two i j xs first second more = one i (slice_index table j ∷ xs) first (one j xs second more)

escaped-symbols : (bs : List ℕ) → IsBytes bs → escaped (encode_symbols table bs) ≡ encode_symbols table bs
unfolding encode_symbols
escaped-symbols [] fits = refl
escaped-symbols (a ∷ []) fits =
    let fa : a < 256 = fits 0 in
    two (a / 4) (a % 4 * 16) [] (omega arith) (omega arith) refl
escaped-symbols (a ∷ b ∷ []) fits =
    let fa : a < 256 = fits 0 in
    let fb : b < 256 = fits 1 in
    two (a / 4) (a % 4 * 16 + b / 16) (slice_index table (b % 16 * 4) ∷ []) (omega arith) (omega arith) (one (b % 16 * 4) [] (omega arith) refl)
escaped-symbols (a ∷ b ∷ c ∷ rest) fits =
    let fa : a < 256 = fits 0 in
    let fb : b < 256 = fits 1 in
    let fc : c < 256 = fits 2 in
    two (a / 4) (a % 4 * 16 + b / 16) (slice_index table (b % 16 * 4 + c / 64) ∷ slice_index table (c % 64) ∷ encode_symbols table rest) (omega arith) (omega arith)
    (two (b % 16 * 4 + c / 64) (c % 64) (encode_symbols table rest) (omega arith) (omega arith) (escaped-symbols rest (λ i. fits (suc (suc (suc i))))))

escaped-padding : (n : ℕ) → escaped (replicate n 61) ≡ replicate n 61
unfolding escape_byte
escaped-padding zero = refl
escaped-padding (suc n) = ap (λ (l : List ℕ). 61 ∷ l) (escaped-padding n)

pub escaped-base64_text : (bs : List ℕ) → IsBytes bs → escaped (base64_text bs) ≡ base64_text bs
unfolding base64_text
escaped-base64_text bs fits =
    flat_map-append escape_byte (encode_symbols table bs) (replicate (padding_len (length bs)) 61)
    ∙ ap₂ (λ (a b : List ℕ). a ++ b) (escaped-symbols bs fits) (escaped-padding (padding_len (length bs)))

pub one_byte : (b : ℕ) → b < 256 → IsBytes (b ∷ [])
one_byte b fits zero = fits
one_byte b fits (suc i) = omega arith

module _ (p : ℕ → Bool) where
  step : (x : ℕ) (xs : List ℕ) → p x ≡ false → position p (x ∷ xs) ≡ option_map suc (position p xs)
  step x xs e = grind (arith, common_steps, e)

  same : (o : Option ℕ) → option_map (λ k. 0 + k) o ≡ o
  same None = refl
  same (Some k) = ap Some (omega arith)

  twice : (n : ℕ) (o : Option ℕ) → option_map suc (option_map (λ k. n + k) o) ≡ option_map (λ k. suc n + k) o
  twice n None = refl
  twice n (Some k) = ap Some (omega arith)

  -- none of the first bytes passes, so the first that does is found after them
  after : (n : ℕ) (text : List ℕ) → n ≤ length text → ((k : ℕ) → k < n → p (get_or text k 0) ≡ false) → position p text ≡ option_map (λ k. n + k) (position p (drop n text))
  after zero text le quiet = sym (same (position p text))
  after (suc n) [] le quiet = absurd (omega arith)
  after (suc n) (x ∷ text) le quiet =
      step x text (quiet 0 (omega arith)) ∙ ap (option_map suc) (after n text (omega arith) (λ k lt. quiet (suc k) (omega arith))) ∙ twice n (position p (drop n text))

  -- and so by its offset in the rest of the text
  pub found_after : (n : ℕ) (text rest : List ℕ) (found : Option ℕ) → n ≤ length text → ((k : ℕ) → k < n → p (get_or text k 0) ≡ false) → rest ≡ drop n text → found ≡ position p rest
      → option_map (λ k. n + k) found ≡ position p text
  found_after n text rest found le quiet is at = rw (at, is) (sym (after n text le quiet))

-- ---- the test, lane by lane

tested : (a b c : Bool) → top 7 (bit_or (bit_or (cond a 255 0) (cond b 255 0)) (cond c 255 0)) ≡ ((a || b) || c)
tested true true true = refl
tested true true false = refl
tested true false true = refl
tested true false false = refl
tested false true true = refl
tested false true false = refl
tested false false true = refl
tested false false false = refl

each_tested : (v : List ℕ) → map (λ x. top 7 (bit_or (bit_or (cond (eqb x 34) 255 0) (cond (eqb x 92) 255 0)) (cond (ltb x 32) 255 0))) v ≡ map needs_escape v
each_tested [] = refl
each_tested (x ∷ v) = ap₂ (λ b bs. b ∷ bs) (tested (eqb x 34) (eqb x 92) (ltb x 32)) (each_tested v)

abbrev equal : ℕ → ℕ → ℕ
equal a b = cond (eqb a b) 255 0

abbrev below : ℕ → ℕ → ℕ
below a b = cond (ltb a b) 255 0

pub stops_mask : (n : ℕ) (v : List ℕ) → n ≤ 64 → length v ≡ n → mask_l (map (top 7) (zip2 bit_or
    (zip2 bit_or (zip2 equal v (replicate n 34)) (zip2 equal v (replicate n 92))) (zip2 below v (replicate n 32)))) % 2 ^ 64 ≡ mask_l (map needs_escape v)
stops_mask n v few long =
    let quotes = zip2_splat equal v n 34 long in
    let slashes = zip2_splat equal v n 92 long in
    let controls = zip2_splat below v n 32 long in
    let both = zip2_of_maps bit_or _ _ v quotes slashes in
    let all = zip2_of_maps bit_or _ _ v both controls in
    ap (λ ms. mask_l ms % 2 ^ 64) (ap (map (top 7)) all ∙ map-map (top 7) _ v ∙ each_tested v) ∙ mask_l-mod (map needs_escape v) 64 (omega (arith, length-map v needs_escape, long))

-- if no lane has a bit, no byte passes
pub unmasked : (p : ℕ → Bool) (v : List ℕ) → mask_l (map p v) ≡ 0 → list_any p v ≡ false
unmasked p [] none = refl
unmasked p (x ∷ v) none = one (p x) refl none (unmasked p v)
  where
    one : (b : Bool) → p x ≡ b → cond b 1 0 + 2 * mask_l (map p v) ≡ 0 → (mask_l (map p v) ≡ 0 → list_any p v ≡ false) → (p x || list_any p v) ≡ false
    one true e none more = absurd (omega (arith, none))
    one false e none more = rw e (more (omega (arith, none)))

-- ---- bytes before the first that stops

-- The first n bytes of the text need no escape in JSON.
abbrev pub IsQuiet : List ℕ → ℕ → Type 0
IsQuiet text n = (k : ℕ) → k < n → needs_escape (get_or text k 0) ≡ false

module _ (text : List ℕ) (i : ℕ) (depth_left : i + 32 ≤ length text) (before : IsQuiet text i) where
  pub all_quiet : mask_l (map needs_escape (chunk i 32 text)) ≡ 0 → IsQuiet text (i + 32)
  all_quiet none k lt = elim (cases_lt k i) [
    | inl less ↦ before k less
    | inr more ↦ none_from_empty_mask needs_escape text i 32 0 depth_left none k (omega (arith, more)) lt
  ]

  -- the first byte that stops is one of the chunk, and those before it are quiet
  pub stops_within : (r : ℕ) → 0 < mask_l (map needs_escape (chunk i 32 text)) → r ≡ count_trailing_zeros 64 (mask_l (map needs_escape (chunk i 32 text))) → (r ≤ 32) × IsQuiet text (i + r)
  stops_within r some counted =
      let long = length-chunk i 32 text depth_left in
      let first : r ≡ prefix_len (λ x. not (needs_escape x)) (chunk i 32 text) = counted ∙ trailing_mask_l needs_escape 64 (chunk i 32 text) (omega (arith, long)) some in
      let quiet : IsQuiet text (i + r) = λ k lt. elim (cases_lt k i) [
        | inl less ↦ before k less
        | inr more ↦ run_in_chunk_fails needs_escape text i 32 r 0 depth_left first k (omega (arith, more)) lt
      ] in
      (omega (arith, first, prefix_len-le-length (λ x. not (needs_escape x)) (chunk i 32 text), long), quiet)
