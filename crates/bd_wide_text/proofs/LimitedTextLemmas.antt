-- A number of 17 digits at most as text, and the digits that are limited.
use Rattle.std.proofs.Common.{◌≡◌, ◌≢◌, ◌<◌, ◌≤◌, ℕ, ◌+◌, ◌-◌, ◌*◌, ◌/◌, ◌%◌, ◌^◌, Bool, true, false, cond, pos, negsuc, List, [], ◌∷◌, ◌++◌, length, take, drop, get_or, refl, sym, ap, ◌∙◌, subst, inl, inr, arith, codes, ltb, length-append, append-nil, append_assoc}
use Rattle.std.proofs.lemmas.Bool.{cases_lt}
use Rattle.std.proofs.lemmas.Fmt.{decimal_is_IsNumeral, decimal_digit, decimal_nonempty, decimal_step, first_decimal, length-decimal-le}
use Rattle.std.proofs.lemmas.Int.Digits.{digits_value-lt}
use Rattle.std.proofs.lemmas.List.{take_all, take-replicate}
use Rattle.std.proofs.Math.Nat.{mul-one, mul_assoc, mul-le-mul_left, mul-le-mul_right, pow-le-pow_right, sub-zero}
use borrow.Author.Tests.{lt-ltb, le-ltb}
use Rattle.std.specs.Fmt.{decimal}
use Rattle.std.specs.Str.Parse.{AllDigits, digits_value}
use Rattle.std.specs.Float.{binary64}
use Rattle.std.specs.Float.Ieee.{round, neg}
use lib.Dec.{lit<}
use lib.Pow.{pow-add}
use Rattle.fast_float.specs.Text.{Parts, digits_of, tens_up, tens_down, nearest}
use Rattle.fast_float.proofs.Patterns.{neg-round}
use Rattle.fast_float.proofs.ExactLemmas.{ten_to_pos}
use Rattle.fast_float.proofs.Rows.{AllDigits-append, IsFront, front as leading_bounds, front_large, value_below}
use Rattle.bd_wide_text.specs.Double.{AreSignificant, nearest_double, laid_out, padded}
use Rattle.bd_wide_text.specs.Layout.{mantissa, zeros}
use Rattle.bd_wide_text.specs.inside.Limited.{AreTooMany, IsLimited, IsLimitedTo, IsLaidOutAs}
use Rattle.bd_wide_text.specs.inside.LaidOutAnew.{IsLaidOutAnew}
use Rattle.bd_wide_text.proofs.LayoutLemmas.{same_tens, last_of}

-- ---- the digits of a number that does not end in 0

last_digit : (n : ℕ) → n % 10 ≢ 0 → n < 2 ^ 64 → 48 < get_or (decimal n) (length (decimal n) - 1) 0
last_digit n some fits = elim (cases_lt n 10) [
  | inl one ↦ subst (λ (ds : List ℕ). 48 < get_or ds (length ds - 1) 0) (sym (decimal_digit n one)) (let above : 48 < 48 + n = omega arith in above)
  | inr more ↦
      let end : 48 < 48 + n % 10 = omega arith in
      subst (λ (ds : List ℕ). 48 < get_or ds (length ds - 1) 0) (sym (decimal_step n more fits)) (rw (last_of (decimal (n / 10)) ((48 + n % 10) ∷ []) (omega arith)) end)
]

significant : (n z kept : ℕ) → n * 10 ^ z ≡ kept → n % 10 ≢ 0 → n ≤ 10 ^ 17 → AreSignificant (decimal n)
significant n z kept same some most =
    record {
      all = (decimal_is_IsNumeral n (omega arith)).0.1;
      first = first_decimal n (omega arith) (omega arith);
      last = last_digit n some (omega arith);
      few = length-decimal-le 17 n (omega arith) (omega arith) (omega arith);
    }

-- ---- its worth

module _ (n z kept up down : ℕ) (same : n * 10 ^ z ≡ kept) (fits : n < 2 ^ 64) where
  scaled : n * 10 ^ (z + up) ≡ kept * 10 ^ up
  scaled = ap (λ x. n * x) (pow-add 10 z up) ∙ sym (mul_assoc n (10 ^ z) (10 ^ up)) ∙ ap (λ x. x * 10 ^ up) same

  value : digits_value 10 (decimal n) ≡ n
  value = (decimal_is_IsNumeral n fits).1

  worth_up : (e : ℕ) → length (decimal n) + z + up ≡ e + 1 + down → (s : Bool) → nearest_double s (decimal n) (pos e) ≡ round binary64 s (kept * 10 ^ up) (10 ^ down)
  unfolding nearest_double
  worth_up e is s =
      ap (λ w. round binary64 s (w * 10 ^ (e + 1)) (10 ^ length (decimal n))) value
      ∙ same_tens s n (e + 1) (length (decimal n)) (z + up) down (omega arith) ∙ ap (λ w. round binary64 s w (10 ^ down)) scaled

  worth_down : (k : ℕ) → length (decimal n) + z + up + k ≡ down → (s : Bool) → nearest_double s (decimal n) (negsuc k) ≡ round binary64 s (kept * 10 ^ up) (10 ^ down)
  unfolding nearest_double
  worth_down k is s =
      ap (λ w. round binary64 s w (10 ^ (k + length (decimal n)))) (value ∙ sym (mul-one n))
      ∙ same_tens s n 0 (k + length (decimal n)) (z + up) down (omega arith) ∙ ap (λ w. round binary64 s w (10 ^ down)) scaled

-- ---- the text of what is kept

module _ (ds : List ℕ) (n z kept up down : ℕ) (is : ds ≡ decimal n) (same : n * 10 ^ z ≡ kept) (last : n % 10 ≢ 0) (most : kept ≤ 10 ^ 17) where
  below : n ≤ 10 ^ 17
  below = let least : n * 1 ≤ n * 10 ^ z = mul-le-mul_left n (ten_to_pos z) in omega arith

  sig : AreSignificant ds
  sig = subst AreSignificant (sym is) (significant n z kept same last below)

  pub kept_long : (0 < length ds) × (length ds ≤ 17)
  kept_long = (subst (λ (t : List ℕ). 0 < length t) (sym is) (decimal_nonempty n (omega (arith, below))), sig.few)

  pub kept_up : down < length ds + z + up → IsLaidOutAs kept up down (laid_out ds (pos (length ds + z + up - down - 1)))
  kept_up more =
      let e = length ds + z + up - down - 1 in
      let long : length ds ≡ length (decimal n) = ap (λ t. length t) is in
      (ds, pos e, sig, λ s. ap (λ t. nearest_double s t (pos e)) is ∙ worth_up n z kept up down same (omega (arith, below)) e (omega arith) s, refl)

  pub kept_down : length ds + z + up ≤ down → IsLaidOutAs kept up down (laid_out ds (negsuc (down - (length ds + z + up))))
  kept_down less =
      let k = down - (length ds + z + up) in
      let long : length ds ≡ length (decimal n) = ap (λ t. length t) is in
      (ds, negsuc k, sig, λ s. ap (λ t. nearest_double s t (negsuc k)) is ∙ worth_down n z kept up down same (omega (arith, below)) k (omega arith) s, refl)

-- ---- layouts

pub six_zeros : (n : ℕ) → n ≤ 6 → take n (48 ∷ 48 ∷ 48 ∷ 48 ∷ 48 ∷ 48 ∷ []) ≡ zeros n
six_zeros n few = take-replicate n 6 48 few

-- a number below 10 ^ 10 has at most ten digits
pub short_power : (text made : List ℕ) (n : ℕ) → text ≡ made → made ≡ decimal n → n < 10 ^ 10 → length text ≤ 10
short_power text made n is written few = omega (arith, ap (λ t. length t) is, ap (λ t. length t) written, length-decimal-le 10 n (omega arith) few (omega arith))

-- three parts are appended, one after the other
pub three : (a b c d x y z : List ℕ) → b ≡ a ++ x → c ≡ b ++ y → d ≡ c ++ z → d ≡ a ++ (x ++ (y ++ z))
three a b c d x y z p q r = r ∙ ap (λ t. t ++ z) (q ∙ ap (λ t. t ++ y) p) ∙ append_assoc (a ++ x) y z ∙ append_assoc a x (y ++ z)

pub laid_up : (ds x : List ℕ) (e : ℕ) → 5 < e → x ≡ decimal e → mantissa (ds ++ []) ++ (codes "E+" ++ padded x) ≡ laid_out ds (pos e)
unfolding laid_out
laid_up ds x e far is = rw (lt-ltb 5 e far) (λ i. mantissa (append-nil ds i) ++ (codes "E+" ++ padded (is i)))

pub laid_broken : (ds : List ℕ) (e : ℕ) → e ≤ 5 → e + 1 < length ds → take (e + 1) ds ++ (codes "." ++ drop (e + 1) ds) ≡ laid_out ds (pos e)
unfolding laid_out
laid_broken ds e near more = rw (le-ltb 5 e near, lt-ltb (e + 1) (length ds) more) refl

pub laid_whole : (ds zs : List ℕ) (e : ℕ) → e ≤ 5 → length ds ≤ e + 1 → zs ≡ zeros (e + 1 - length ds) → ds ++ (zs ++ codes ".0") ≡ laid_out ds (pos e)
unfolding laid_out
laid_whole ds zs e near less is = rw (le-ltb 5 e near, le-ltb (e + 1) (length ds) less) (λ i. ds ++ (is i ++ codes ".0"))

pub laid_down : (ds x : List ℕ) (k : ℕ) → 3 < k → x ≡ decimal (k + 1) → mantissa (ds ++ []) ++ (codes "E-" ++ padded x) ≡ laid_out ds (negsuc k)
unfolding laid_out
laid_down ds x k far is = rw (lt-ltb 3 k far) (λ i. mantissa (append-nil ds i) ++ (codes "E-" ++ padded (is i)))

pub laid_near : (ds zs : List ℕ) (k : ℕ) → k ≤ 3 → zs ≡ zeros k → codes "0." ++ (zs ++ ds) ≡ laid_out ds (negsuc k)
unfolding laid_out
laid_near ds zs k near is = rw (le-ltb 3 k near) (λ i. codes "0." ++ (is i ++ ds))

-- ---- what is limited

limited_of : (p : Parts) (leading remaining up down : ℕ) → IsFront (digits_of p) leading remaining (ltb 0 remaining) → 0 < remaining → up ≡ remaining + tens_up p → down ≡ tens_down p
    → IsLimitedTo leading up down (nearest binary64 false p)
limited_of p leading remaining up down is more above below =
    let tens = 10 ^ tens_up p in
    let next = rw (lt-ltb 0 remaining more) at is.to in
    let power : (w : ℕ) → w * 10 ^ up ≡ w * 10 ^ remaining * tens = λ w. ap (λ k. w * 10 ^ k) above ∙ ap (λ x. w * x) (pow-add 10 remaining (tens_up p)) ∙ sym (mul_assoc w (10 ^ remaining) tens) in
    record {
      number = digits_of p * tens;
      from = subst (λ (x : ℕ). x ≤ digits_of p * tens) (sym (power leading)) (mul-le-mul_right tens is.from);
      to = subst (λ (x : ℕ). digits_of p * tens ≤ x) (sym (power (leading + 1))) (mul-le-mul_right tens next);
      nearest = ap (λ k. round binary64 false (digits_of p * tens) (10 ^ k)) below;
    }

-- p has the digits w and f and the exponent x; leading and power are read from them
module _ (p : Parts) (w f x : List ℕ) (zeros leading power : ℕ) (w_is : w ≡ p.whole) (f_is : f ≡ p.fraction) (x_is : x ≡ p.exponent) (wd : AllDigits 10 w) (fd : AllDigits 10 f) (xd : AllDigits 10 x) (many : AreTooMany (p.whole ++ p.fraction) zeros) (few : length p.whole + length p.fraction + length p.exponent ≤ 25) (leading_is : leading ≡ digits_value 10 (take 17 (drop zeros (w ++ f)))) (power_is : power ≡ digits_value 10 (take (length x) (drop 0 (x ++ [])))) where
  abbrev ds : List ℕ
  ds = p.whole ++ p.fraction

  abbrev remaining : ℕ
  remaining = length w + length f - zeros - 17

  same : w ++ f ≡ ds
  same = (λ i. w_is i ++ f_is i)

  all : AllDigits 10 ds
  all = subst (AllDigits 10) same (AllDigits-append w f wd fd)

  long : length ds ≡ length w + length f
  long = omega (arith, length-append p.whole p.fraction, ap (λ t. length t) w_is, ap (λ t. length t) f_is)

  read : leading ≡ digits_value 10 (take 17 (drop zeros ds))
  read = leading_is ∙ ap (λ t. digits_value 10 (take 17 (drop zeros t))) same

  bounds : (10 ^ 16 ≤ leading) × (leading < 10 ^ 17)
  bounds =
      let within : zeros + 17 ≤ length ds = omega (arith, many.long) in (
        subst (λ (n : ℕ). 10 ^ 16 ≤ n) (sym read) (front_large ds zeros 17 (omega arith) within many.first),
        subst (λ (n : ℕ). n < 10 ^ 17) (sym read) (value_below ds zeros 17 all),
      )

  is_leading : IsFront (digits_of p) leading remaining (ltb 0 remaining)
  is_leading = leading_bounds ds zeros 17 remaining leading all (omega (arith, long, many.long)) (subst (λ (n : ℕ). digits_value 10 (take n ds) ≡ 0) (sym (sub-zero zeros)) many.zeros_are) read

  worth : power ≡ digits_value 10 x
  worth = power_is ∙ (λ i. digits_value 10 (take (length x) (append-nil x i))) ∙ ap (digits_value 10) (take_all (length x) x (omega arith))

  small_power : power < 10 ^ 7
  small_power =
      let most : 10 ^ length x ≤ 10 ^ 7 = pow-le-pow_right (lit< tt) {j = 7} (omega (arith, few, many.long, length-append p.whole p.fraction, ap (λ t. length t) x_is)) in
      omega (arith, worth, digits_value-lt 10 x xd)

  lengths : (0 < remaining) × (remaining < 100) × (length f < 100) × (length f ≡ length p.fraction)
  lengths =
      let at : length f ≡ length p.fraction = ap (λ t. length t) f_is in
      (omega (arith, long, many.long), omega (arith, long, few, length-append p.whole p.fraction), omega (arith, few), at)

  pub sums_fit : (length f + power < 2 ^ 64) × (remaining + power < 2 ^ 64)
  sums_fit = (omega (arith, lengths, small_power), omega (arith, lengths, small_power))

  pub limited_down : p.exponent_negative ≡ true → IsLimited p leading remaining (length f + power)
  limited_down sign =
      let up : tens_up p ≡ 0 = ap (λ b. cond b 0 (digits_value 10 p.exponent)) sign in
      let down : tens_down p ≡ length p.fraction + digits_value 10 p.exponent = ap (λ b. length p.fraction + cond b (digits_value 10 p.exponent) 0) sign in
      let exponent : power ≡ digits_value 10 p.exponent = worth ∙ ap (digits_value 10) x_is in
      record {
        digits = bounds;
        powers = (omega (arith, lengths), omega (arith, lengths, small_power));
        limited = limited_of p leading remaining remaining (length f + power) is_leading lengths.0 (omega arith) (omega (arith, lengths.3));
      }

  pub limited_up : p.exponent_negative ≡ false → IsLimited p leading (remaining + power) (length f)
  limited_up sign =
      let up : tens_up p ≡ digits_value 10 p.exponent = ap (λ b. cond b 0 (digits_value 10 p.exponent)) sign in
      let down : tens_down p ≡ length p.fraction = ap (λ b. length p.fraction + cond b (digits_value 10 p.exponent) 0) sign ∙ omega arith in
      let exponent : power ≡ digits_value 10 p.exponent = worth ∙ ap (digits_value 10) x_is in
      record {
        digits = bounds;
        powers = (omega (arith, lengths, small_power), omega (arith, lengths));
        limited = limited_of p leading remaining (remaining + power) (length f) is_leading lengths.0 (omega arith) (omega (arith, lengths.3));
      }

both_signs : (a c b d : ℕ) → round binary64 false a c ≡ round binary64 false b d → (s : Bool) → round binary64 s a c ≡ round binary64 s b d
both_signs a c b d e false = e
both_signs a c b d e true = sym (neg-round binary64 a c) ∙ ap neg e ∙ neg-round binary64 b d

pub anew : (p : Parts) (kept up down : ℕ) (new : List ℕ) → round binary64 false (kept * 10 ^ up) (10 ^ down) ≡ nearest binary64 false p → IsLaidOutAs kept up down new → IsLaidOutAnew p new
anew p kept up down new close is = inr (is.0, is.1, is.2, λ s. is.3 s ∙ both_signs _ _ _ _ close s, is.4)
