-- Numbers of different types or bits differ.
use Rattle.std.proofs.Common.{◌≡◌, ℕ, suc, ◌+◌, ◌*◌, ◌<◌, List, [], ◌∷◌, length, refl, sym, ap, ap₂, ◌∙◌, arith}
use Rattle.bd_bson_view.specs.Spelling.{NumberKind, as_double, as_int32, as_int64, as_decimal128, number_type, number_size}
use Rattle.bd_wide_dump.specs.Raw.{spelled, byte_of, raw}
use Rattle.bd_wide_dump.specs.WideText.{AreBytes}

same_bytes : (v w : List ℕ) → AreBytes v → AreBytes w → length v ≡ length w → spelled v ≡ spelled w → v ≡ w
same_bytes [] [] f g long is = refl
same_bytes [] (b ∷ w) f g long is = absurd (omega arith)
same_bytes (a ∷ v) [] f g long is = absurd (omega arith)
same_bytes (a ∷ v) (b ∷ w) f g long is =
    let low : a < 256 = f 0 in
    let high : b < 256 = g 0 in
    let first : a ≡ b = omega arith in
    let more : spelled v ≡ spelled w = omega arith in
    ap₂ (λ (x : ℕ) (xs : List ℕ). x ∷ xs) first (same_bytes v w (λ i. f (suc i)) (λ i. g (suc i)) (omega arith) more)

byte_fits : (k : NumberKind) → byte_of (number_type k) < 256
byte_fits as_double = omega arith
byte_fits as_int32 = omega arith
byte_fits as_int64 = omega arith
byte_fits as_decimal128 = omega arith

same_kind : (k j : NumberKind) → byte_of (number_type k) ≡ byte_of (number_type j) → k ≡ j
same_kind as_double as_double h = refl
same_kind as_int32 as_int32 h = refl
same_kind as_int64 as_int64 h = refl
same_kind as_decimal128 as_decimal128 h = refl
same_kind _ _ h = absurd (omega arith)

module _ (k j : NumberKind) (v w : List ℕ) where
  both : raw (number_type k) v ≡ raw (number_type j) w → byte_of (number_type k) + 256 * spelled v ≡ byte_of (number_type j) + 256 * spelled w
  unfolding raw
  both h = cc

  pub raw_same : AreBytes v → AreBytes w → length v ≡ number_size k → length w ≡ number_size j → raw (number_type k) v ≡ raw (number_type j) w → (k ≡ j) × (v ≡ w)
  raw_same f g sized size is =
      let e = both is in
      let low = byte_fits k in
      let high = byte_fits j in
      let same : k ≡ j = same_kind k j (omega arith) in
      let more : spelled v ≡ spelled w = omega arith in
      (same, same_bytes v w f g (sized ∙ ap number_size same ∙ sym size) more)
