-- Two digits for each byte, looked up and written sixteen at a time.
use Rattle.std.proofs.Common.{◌≡◌, ℕ, zero, suc, ◌+◌, ◌/◌, ◌%◌, ◌^◌, ◌<◌, ◌≤◌, List, [], ◌∷◌, ◌++◌, map, length, take, get_or, replicate, slice_index, bit_and}
use Rattle.std.proofs.Common.{refl, sym, ap, ap₂, ◌∙◌, arith, w8, Fits}
use Rattle.std.proofs.lemmas.List.{get_or-map, length-map, ext_get_or, length-take-le, take-take}
use Rattle.std.proofs.Math.Seq.{take-append-add}
use Rattle.std.proofs.lemmas.Nat.{and_le_r, and_mask}
use Rattle.std.proofs.lemmas.Simd.{Each1-all, Each1-get_or, Each1-weaker, Each1-zip2, Each2-splat, below_from_Fits, get_or-swz_l_below, length-swz_l, length-zip2, map-map, swz_l, zip2_splat}
use lib.Lanes.{zip2, Each1}
use Rattle.hex.specs.Hex.{encode_with, lower_digits}
use Rattle.bd_extjson_text.specs.Text.{hex_text}

-- the digits that a vector of numbers is looked up as
pub looked_up : (numbers : List ℕ) → length numbers ≡ 16 → Each1 (λ n. n < 16) numbers → swz_l w8 16 lower_digits 0 numbers ≡ map (slice_index lower_digits) numbers
looked_up numbers long below =
    ext_get_or 0 _ _ (length-swz_l w8 16 lower_digits 0 numbers ∙ sym (length-map numbers (slice_index lower_digits))) (λ i h.
    let within : i < length numbers = omega (arith, length-swz_l w8 16 lower_digits 0 numbers) in
    let small : get_or numbers i 0 < 16 = Each1-get_or (λ n. n < 16) numbers i 0 within below in
    get_or-swz_l_below w8 16 lower_digits 0 numbers i within small
    ∙ ap (λ k. get_or lower_digits k 0) (omega arith)
    ∙ sym (get_or-map (slice_index lower_digits) numbers i 0 0 within))

abbrev pub down : ℕ → ℕ → ℕ
down a b = a / 2 ^ b

-- the high and the low four bits of bytes are below 16
pub high_below : (bytes : List ℕ) → length bytes ≡ 16 → Each1 (Fits w8) bytes → (length (zip2 down bytes (replicate 16 4)) ≡ 16) × Each1 (λ n. n < 16) (zip2 down bytes (replicate 16 4))
high_below bytes long fits =
    let small = Each1-weaker (λ a. a < 256) (λ a. down a 4 < 16) (λ a h. omega arith) bytes (below_from_Fits w8 bytes fits) in
    (length-zip2 down bytes (replicate 16 4) long ∙ long, Each1-zip2 down (λ n. n < 16) bytes (replicate 16 4) (Each2-splat (λ a b. down a b < 16) bytes 16 4 small))

pub low_below : (bytes : List ℕ) → length bytes ≡ 16 → (length (zip2 bit_and bytes (replicate 16 15)) ≡ 16) × Each1 (λ n. n < 16) (zip2 bit_and bytes (replicate 16 15))
low_below bytes long =
    let small = Each1-all (λ a. bit_and a 15 < 16) (λ a. omega (arith, and_le_r a 15)) bytes in
    (length-zip2 bit_and bytes (replicate 16 15) long ∙ long, Each1-zip2 bit_and (λ n. n < 16) bytes (replicate 16 15) (Each2-splat (λ a b. bit_and a b < 16) bytes 16 15 small))

-- what is proved for any lanes holds for a list of n
abbrev pub ForLanes : ℕ → (List ℕ → Type 0) → Type 0
ForLanes zero P = P []
ForLanes (suc n) P = (x : ℕ) → ForLanes n (λ l. P (x ∷ l))

by_lanes : (n : ℕ) (P : List ℕ → Type 0) → ForLanes n P → (xs : List ℕ) → length xs ≡ n → P xs
by_lanes zero P h [] e = h
by_lanes zero P h (x ∷ xs) e = absurd (omega arith)
by_lanes (suc n) P h [] e = absurd (omega arith)
by_lanes (suc n) P h (x ∷ xs) e = by_lanes n (λ l. P (x ∷ l)) (h x) xs (omega arith)

-- the lanes of two vectors of sixteen, in turn
abbrev pub in_turn : List ℕ → List ℕ
in_turn l =
    get_or l 0 0 ∷ get_or l 16 0 ∷ get_or l 1 0 ∷ get_or l 17 0 ∷ get_or l 2 0 ∷ get_or l 18 0 ∷ get_or l 3 0 ∷ get_or l 19 0
    ∷ get_or l 4 0 ∷ get_or l 20 0 ∷ get_or l 5 0 ∷ get_or l 21 0 ∷ get_or l 6 0 ∷ get_or l 22 0 ∷ get_or l 7 0 ∷ get_or l 23 0
    ∷ get_or l 8 0 ∷ get_or l 24 0 ∷ get_or l 9 0 ∷ get_or l 25 0 ∷ get_or l 10 0 ∷ get_or l 26 0 ∷ get_or l 11 0 ∷ get_or l 27 0
    ∷ get_or l 12 0 ∷ get_or l 28 0 ∷ get_or l 13 0 ∷ get_or l 29 0 ∷ get_or l 14 0 ∷ get_or l 30 0 ∷ get_or l 15 0 ∷ get_or l 31 0 ∷ []

abbrev digit : ℕ → ℕ
digit n = slice_index lower_digits n

in_turn-digits : (bytes : List ℕ) → length bytes ≡ 16 → in_turn (map (λ b. digit (b / 16)) bytes ++ map (λ b. digit (b % 16)) bytes) ≡ encode_with lower_digits bytes
unfolding encode_with
in_turn-digits bytes long =
    by_lanes 16 (λ l. in_turn (map (λ b. digit (b / 16)) l ++ map (λ b. digit (b % 16)) l) ≡ encode_with lower_digits l) (λ a b c d e f g h i j k l m n o p. refl) bytes long

map_same : (f g : ℕ → ℕ) → ((x : ℕ) → f x ≡ g x) → (xs : List ℕ) → map f xs ≡ map g xs
map_same f g e [] = refl
map_same f g e (x ∷ xs) = ap₂ (λ (a : ℕ) (l : List ℕ). a ∷ l) (e x) (map_same f g e xs)

-- the digits of the high and the low four bits, in turn, are those of the bytes
pub pairs_of : (bytes high low : List ℕ) → length bytes ≡ 16 → high ≡ map digit (zip2 down bytes (replicate 16 4)) → low ≡ map digit (zip2 bit_and bytes (replicate 16 15))
    → in_turn (high ++ low) ≡ hex_text bytes
unfolding hex_text
pairs_of bytes high low long first second =
    let highs : high ≡ map (λ b. digit (b / 16)) bytes = first ∙ ap (map digit) (zip2_splat down bytes 16 4 long) ∙ map-map digit (λ b. down b 4) bytes in
    let lows : low ≡ map (λ b. digit (b % 16)) bytes =
    second ∙ ap (map digit) (zip2_splat bit_and bytes 16 15 long) ∙ map-map digit (λ b. bit_and b 15) bytes
    ∙ map_same (λ b. digit (bit_and b 15)) (λ b. digit (b % 16)) (λ b. ap digit (and_mask b 4)) bytes in
    ap₂ (λ (a b : List ℕ). in_turn (a ++ b)) highs lows ∙ in_turn-digits bytes long

-- the digits of an id precede those of the bytes after it
id_before : (id rest : List ℕ) → length id ≡ 12 → take 24 (hex_text (id ++ rest)) ≡ hex_text id
unfolding hex_text encode_with
id_before id rest long = by_lanes 12 (λ l. take 24 (encode_with lower_digits (l ++ rest)) ≡ encode_with lower_digits l) (λ a b c d e f g h i j k l. refl) id long

-- the digits of an id are the first of those that were written after a text
pub id_written : (end e : ℕ) (old new digits id rest : List ℕ) → end ≤ length old → end + 24 ≤ e → take e new ≡ take end old ++ digits → digits ≡ hex_text (id ++ rest) → length id ≡ 12
    → take (end + 24) new ≡ take end old ++ hex_text id
id_written end e old new digits id rest inside fits put are long =
    let size : length (take end old) ≡ end = length-take-le end old inside in
    sym (take-take (end + 24) e new fits) ∙ ap (λ (l : List ℕ). take (end + 24) l) put
    ∙ ap (λ (n : ℕ). take (n + 24) (take end old ++ digits)) (sym size) ∙ take-append-add (take end old) digits 24
    ∙ ap (λ (l : List ℕ). take end old ++ l) (ap (λ (l : List ℕ). take 24 l) are ∙ id_before id rest long)
