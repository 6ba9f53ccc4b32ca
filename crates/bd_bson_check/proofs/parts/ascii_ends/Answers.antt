use Rattle.std.proofs.Common.{◌≡◌, ℕ, ◌+◌, ◌%◌, ◌<◌, leb, Bool, List, [], ◌∷◌, map, Fits, w8, refl, ap, ap₂, ◌∙◌, arith, ◌||◌, ◌==◌, nat_lt}
use Rattle.std.proofs.lemmas.{Bool.Decides.nat_tests, List.length-map, Simd.bitmask_splat, Simd.zip2_splat, Simd.map-map}
use lib.Lanes.{Each1, mask_l}
use Rattle.bd_bson_check.proofs.parts.ascii_ends.Goals as goal

-- after adding 128 modulo 256, zero and the bytes that are not ASCII are at most 128
further : (x : ℕ) → x < 256 → leb ((x + 128) % 256) 128 ≡ (x == 0 || nat_lt 127 x)
further x fits = grind (arith, nat_tests)

each_further : (xs : List ℕ) → Each1 (Fits w8) xs → map (λ x. leb ((x + 128) % 256) 128) xs ≡ map (λ x. x == 0 || nat_lt 127 x) xs
each_further [] fits = refl
each_further (x ∷ xs) fits = ap₂ (λ (b : Bool) (bs : List Bool). b ∷ bs) (further x fits.0.fits) (each_further xs fits.1)

pub returns : goal.returns
returns c =
    let v = c.args.bytes in
    let long = c.fits-bytes.0 in
    let moved = map (λ (x : ℕ). (x + 128) % 256) v in
    rw (zip2_splat (λ (a b : ℕ). (a + b) % 256) v 16 128 long)
    (bitmask_splat w8 leb moved 16 128 (length-map v (λ (x : ℕ). (x + 128) % 256) ∙ long) (omega arith)
    ∙ ap mask_l (map-map (λ (x : ℕ). leb x 128) (λ (x : ℕ). (x + 128) % 256) v ∙ each_further v c.fits-bytes.1))
