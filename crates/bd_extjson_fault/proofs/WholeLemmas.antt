-- The bytes before a fault are whole characters: the byte before it, or the byte at it, is of ASCII.
use Rattle.std.proofs.Common.{◌≡◌, ◌≤◌, ◌<◌, ◌==◌, ◌∙◌, ◌++◌, sym, refl, ◌||◌, ◌⊎◌, inl, inr, if◌then◌else◌, ℕ, zero, suc, Bool, true, false, List, [], ◌∷◌, length, take, drop, get_or, ap, Ok, Err, IsAscii, IsUtf8, append_assoc, append-nil, length-append, le_refl, arith}
use Rattle.std.specs.Prelude.{Result, codes, nat_lt}
use Rattle.std.specs.Char.{digit_value, is_digit}
use Rattle.std.specs.Str.{IsCharBoundary}
use Rattle.std.proofs.Math.Seq.{get_or-append_seam, take-append_seam}
use Rattle.std.proofs.lemmas.{Bool.and_parts, Bool.Decides.nat_tests}
use Rattle.std.proofs.lemmas.Str.{IsUtf8-append, IsUtf8-from_ascii, IsUtf8-nil, IsUtf8-take}
use Rattle.bd_value.specs.Limits.{most_brackets}
use Rattle.json.specs.Text.{is_high_surrogate, is_low_surrogate}
use Rattle.bd_extjson_fault.specs.declared.skip.Stop.{Stop}
use Rattle.bd_extjson_fault.specs.declared.skip.StopKind.{StopKind}
use Rattle.bd_extjson_fault.specs.declared.skip.StopKind.TheVariants.{Syntax, TooDeep, TrailingText}
use Rattle.bd_extjson_fault.specs.JsonSyntax.{Beyond, ◌>>=◌, syntax_at, begins, beyond_if, beyond_all, beyond_white, is_white, beyond_word, is_decimal, beyond_digits, beyond_natural, beyond_fraction, beyond_exponent, beyond_number, beyond_hex, beyond_unit, beyond_low, beyond_units, is_short_escape, beyond_escape, beyond_character, beyond_items, beyond_string, beyond_name, beyond_next, beyond_parts, beyond_group, beyond_array, beyond_member, beyond_object, beyond_scalar, beyond_unnested, beyond_nested, beyond_value, beyond_text}
use Rattle.bd_extjson_fault.proofs.OffsetLemmas.{stop_at}
use Rattle.bd_extjson_fault.proofs.OffsetNumberLemmas.{whole_part}
use Rattle.bd_extjson_fault.proofs.OffsetStringLemmas.{Unit4, first, second, third, fourth, Answered, same_number, character_piece, is_quote, quoted, colon, named}
use Rattle.bd_extjson_fault.proofs.OffsetValueLemmas.{Next, after_part, parts_after, is_bracket, unnested_deep, unnested_flat, nested_flat, either_bracket, last}
use Rattle.bd_extjson_fault.proofs.GoOnLemmas.{plain}

-- the last byte is of ASCII; of no bytes, as the first argument says
unfoldable pub tail : Bool → List ℕ → Bool
tail before [] = before
tail before (b ∷ text) = tail (nat_lt b 128) text

tail_append : (d : Bool) (x y : List ℕ) → tail d (x ++ y) ≡ tail (tail d x) y
unfolding tail
tail_append d [] y = refl
tail_append d (b ∷ x) y = tail_append (nat_lt b 128) x y

tail_any : (d : Bool) (x : List ℕ) → tail false x ≡ true → tail d x ≡ true
unfolding tail
tail_any d [] e = absurd cc
tail_any d (b ∷ x) e = e

tail_empty : (d : Bool) → tail d [] ≡ d
unfolding tail
tail_empty d = refl

tail_one : (d : Bool) (b : ℕ) → tail d (b ∷ []) ≡ nat_lt b 128
unfolding tail
tail_one d b = refl

-- no byte comes, or one of ASCII
abbrev pub small : List ℕ → Bool
small [] = true
small (b ∷ text) = nat_lt b 128

-- the bytes up to the rest of the text
pub record Upto (d : Bool) (text rest : List ℕ) : Type 0 where
  pub taken : List ℕ
  pub split : text ≡ taken ++ rest
  pub ends : tail d taken ≡ true

-- the bytes up to the fault
pub record Before (d : Bool) (text : List ℕ) (stop : Stop) : Type 0 where
  pub taken : List ℕ
  pub rest : List ℕ
  pub split : text ≡ taken ++ rest
  pub remaining : stop.remaining ≡ length rest
  pub ends : (small rest ≡ true) ⊎ (tail d taken ≡ true)

-- where an item ends, or its fault is
abbrev pub Ended : {A : Type 0} → (A → List ℕ) → Bool → List ℕ → Result A Stop → Type 0
Ended after_of d text (Ok x) = Upto d text (after_of x)
Ended after_of d text (Err stop) = Before d text stop

abbrev pub Same : List ℕ → List ℕ
Same x = x

-- after bytes that end in ASCII
tail_passed : {A : Type 0} (after_of : A → List ℕ) (d : Bool) (text taken rest : List ℕ) (answer : Result A Stop) → text ≡ taken ++ rest → tail d taken ≡ true
    → Ended after_of true rest answer → Ended after_of d text answer
tail_passed after_of d text taken rest (Ok x) e ends u = record {
  taken = taken ++ u.taken;
  split = e ∙ ap (λ x. taken ++ x) u.split ∙ sym (append_assoc taken u.taken (after_of x));
  ends = tail_append d taken u.taken ∙ ap (λ c. tail c u.taken) ends ∙ u.ends;
}
tail_passed after_of d text taken rest (Err stop) e ends b = record {
  taken = taken ++ b.taken;
  rest = b.rest;
  split = e ∙ ap (λ x. taken ++ x) b.split ∙ sym (append_assoc taken b.taken b.rest);
  remaining = b.remaining;
  ends = go b.ends;
}
  where
    go : (small b.rest ≡ true) ⊎ (tail true b.taken ≡ true) → (small b.rest ≡ true) ⊎ (tail d (taken ++ b.taken) ≡ true)
    go (inl s) = inl s
    go (inr t) = inr (tail_append d taken b.taken ∙ ap (λ c. tail c b.taken) ends ∙ t)

-- after any bytes
passing_any : {A : Type 0} (after_of : A → List ℕ) (d : Bool) (text taken rest : List ℕ) (answer : Result A Stop) → text ≡ taken ++ rest
    → Ended after_of false rest answer → Ended after_of d text answer
passing_any after_of d text taken rest (Ok x) e u = record {
  taken = taken ++ u.taken;
  split = e ∙ ap (λ x. taken ++ x) u.split ∙ sym (append_assoc taken u.taken (after_of x));
  ends = tail_append d taken u.taken ∙ tail_any (tail d taken) u.taken u.ends;
}
passing_any after_of d text taken rest (Err stop) e b = record {
  taken = taken ++ b.taken;
  rest = b.rest;
  split = e ∙ ap (λ x. taken ++ x) b.split ∙ sym (append_assoc taken b.taken b.rest);
  remaining = b.remaining;
  ends = go b.ends;
}
  where
    go : (small b.rest ≡ true) ⊎ (tail false b.taken ≡ true) → (small b.rest ≡ true) ⊎ (tail d (taken ++ b.taken) ≡ true)
    go (inl s) = inl s
    go (inr t) = inr (tail_append d taken b.taken ∙ tail_any (tail d taken) b.taken t)

nothing : (text : List ℕ) → Upto true text text
nothing text = record { taken = []; split = refl; ends = tail_empty true }

-- a fault at the first byte
at_first : (text : List ℕ) (kind : StopKind) → Before true text (stop_at kind text)
at_first text kind = record { taken = []; rest = text; split = refl; remaining = refl; ends = inr (tail_empty true) }

at_small : (d : Bool) (text : List ℕ) → small text ≡ true → Before d text (stop_at Syntax text)
at_small d text s = record { taken = []; rest = text; split = refl; remaining = refl; ends = inl s }

one : (d : Bool) (b : ℕ) (text : List ℕ) → nat_lt b 128 ≡ true → Upto d (b ∷ text) text
one d b text e = record { taken = b ∷ []; split = refl; ends = tail_one d b ∙ e }

after : {A B : Type 0} (after_of : A → List ℕ) (leaves : B → List ℕ) (d : Bool) (text : List ℕ) (g : A → Result B Stop) (answer : Result A Stop) → Ended after_of d text answer
    → ((x : A) → Ended leaves true (after_of x) (g x)) → Ended leaves d text (answer >>= g)
after after_of leaves d text g (Ok x) u next = tail_passed leaves d text u.taken (after_of x) (g x) u.split u.ends (next x)
after after_of leaves d text g (Err stop) b next = b

-- the reader ends its item after a byte of ASCII, and so with its faults
abbrev Ends : (List ℕ → Beyond) → Type 0
Ends item = (text : List ℕ) → Ended Same true text (item text)

after_both : (f g : List ℕ → Beyond) → Ends f → Ends g → Ends (λ x. f x >>= g)
after_both f g first second text = after Same Same true text g (f text) (first text) second

-- ---- bytes of one kind

-- bytes of ASCII alone are of that kind
abbrev Tests : (ℕ → Bool) → Type 0
Tests is = (b : ℕ) → is b ≡ true → nat_lt b 128 ≡ true

white_tests : Tests is_white
white_tests b e = grind (arith, nat_tests, e)

decimal_tests : Tests is_decimal
decimal_tests b e = grind (arith, nat_tests, e)

one_tests : (n : ℕ) → n < 128 → Tests (λ b. b == n)
one_tests n lt b e = grind (arith, nat_tests, e, lt)

two_tests : (n m : ℕ) → n < 128 → m < 128 → Tests (λ b. b == n || b == m)
two_tests n m p q b e = go (b == n) refl (b == m) refl e
  where
    go : (x : Bool) → (b == n) ≡ x → (y : Bool) → (b == m) ≡ y → x || y ≡ true → nat_lt b 128 ≡ true
    go true is y also e = one_tests n p b is
    go false is true also e = one_tests m q b also
    go false is false also e = absurd cc

run_by : (is : ℕ → Bool) (b : ℕ) (text : List ℕ) (x : Bool) → Tests is → is b ≡ x → Upto true text (beyond_all is text) → Upto true (b ∷ text) (beyond_all is (b ∷ text))
unfolding beyond_all
run_by is b text true tests e u = rw e (tail_passed Same true (b ∷ text) (b ∷ []) text (Ok (beyond_all is text)) refl (tail_one true b ∙ tests b e) u)
run_by is b text false tests e u = rw e (nothing (b ∷ text))

run_upto : (is : ℕ → Bool) → Tests is → (text : List ℕ) → Upto true text (beyond_all is text)
unfolding beyond_all
run_upto is tests [] = nothing []
run_upto is tests (b ∷ text) = run_by is b text (is b) tests refl (run_upto is tests text)

white_ends : {A : Type 0} (after_of : A → List ℕ) (item : List ℕ → Result A Stop) → ((text : List ℕ) → Ended after_of true text (item text))
    → (text : List ℕ) → Ended after_of true text (item (beyond_white text))
white_ends after_of item ends text =
    let u = run_upto is_white white_tests text in
    tail_passed after_of true text u.taken (beyond_white text) (item (beyond_white text)) u.split u.ends (ends (beyond_white text))

-- ---- words and numbers

word_by : (c : ℕ) (word : List ℕ) (b : ℕ) (text : List ℕ) (x : Bool) → (b == c) ≡ x → nat_lt c 128 ≡ true → Ended Same true text (beyond_word word text)
    → Ended Same true (b ∷ text) (beyond_word (c ∷ word) (b ∷ text))
unfolding beyond_word
word_by c word b text true is low u = rw is (tail_passed Same true (b ∷ text) (b ∷ []) text (beyond_word word text) refl (tail_one true b ∙ ap (λ n. nat_lt n 128) (same_number b c is) ∙ low) u)
word_by c word b text false is low u = rw is (at_first (b ∷ text) Syntax)

word_ends : (word : List ℕ) → plain word ≡ true → Ends (beyond_word word)
unfolding beyond_word plain
word_ends [] p text = nothing text
word_ends (c ∷ word) p [] = at_first [] Syntax
word_ends (c ∷ word) p (b ∷ text) =
    let h = and_parts (nat_lt c 128) (plain word) p in
    word_by c word b text (b == c) refl h.0 (word_ends word h.1 text)

if_ends : (is : ℕ → Bool) (item : List ℕ → Beyond) → Tests is → Ends item → Ends (λ x. item (beyond_if is x))
if_ends is item tests ends text = go text (begins is text) refl
  where
    go : (t : List ℕ) (x : Bool) → begins is t ≡ x → Ended Same true t (item (beyond_if is t))
    go [] true at = absurd cc
    go (b ∷ t) true at = rw at (tail_passed Same true (b ∷ t) (b ∷ []) t (item t) refl (tail_one true b ∙ tests b at) (ends t))
    go t false at = rw at (ends t)

digits_end : Ends beyond_digits
unfolding beyond_digits
digits_end text = go (begins is_decimal text) refl
  where
    go : (x : Bool) → begins is_decimal text ≡ x → Ended Same true text (beyond_digits text)
    go true is = rw is (run_upto is_decimal decimal_tests text)
    go false is = rw is (at_first text Syntax)

natural_ends : Ends beyond_natural
unfolding beyond_natural
natural_ends text = go text (begins (λ b. b == 48) text) refl
  where
    go : (t : List ℕ) (x : Bool) → begins (λ b. b == 48) t ≡ x → Ended Same true t (beyond_natural t)
    go [] true is = absurd cc
    go (b ∷ t) true is = rw is (one true b t (one_tests 48 (omega arith) b is))
    go t false is = rw is (digits_end t)

optional_ends : (is : ℕ → Bool) (item : List ℕ → Beyond) → Tests is → Ends item → Ends (λ x. if begins is x then item (drop 1 x) else Ok x)
optional_ends is item tests ends text = go text (begins is text) refl
  where
    go : (t : List ℕ) (x : Bool) → begins is t ≡ x → Ended Same true t (if begins is t then item (drop 1 t) else Ok t)
    go [] true at = absurd cc
    go (b ∷ t) true at = rw at (tail_passed Same true (b ∷ t) (b ∷ []) t (item t) refl (tail_one true b ∙ tests b at) (ends t))
    go t false at = rw at (nothing t)

abbrev after_sign : List ℕ → Beyond
after_sign text = beyond_digits (beyond_if (λ b. b == 43 || b == 45) text)

fraction_ends : Ends beyond_fraction
unfolding beyond_fraction
fraction_ends = optional_ends (λ b. b == 46) beyond_digits (one_tests 46 (omega arith)) digits_end

exponent_ends : Ends beyond_exponent
unfolding beyond_exponent
exponent_ends = optional_ends (λ b. b == 101 || b == 69) after_sign (two_tests 101 69 (omega arith) (omega arith))
    (if_ends (λ b. b == 43 || b == 45) beyond_digits (two_tests 43 45 (omega arith) (omega arith)) digits_end)

number_ends : Ends beyond_number
unfolding beyond_number
number_ends = after_both (λ x. whole_part x >>= beyond_fraction) beyond_exponent
    (after_both whole_part beyond_fraction (if_ends (λ b. b == 45) beyond_natural (one_tests 45 (omega arith)) natural_ends) fraction_ends) exponent_ends

-- ---- strings

hex_small : (b : ℕ) → is_digit b 16 ≡ true → nat_lt b 128 ≡ true
hex_small b e = go (nat_lt b 128) refl
  where
    go : (x : Bool) → nat_lt b 128 ≡ x → nat_lt b 128 ≡ true
    go true is = is
    go false is =
        let p : nat_lt b 48 ≡ false = grind (arith, nat_tests, is) in
        let q : nat_lt b 58 ≡ false = grind (arith, nat_tests, is) in
        let r : nat_lt b 65 ≡ false = grind (arith, nat_tests, is) in
        let s : nat_lt b 91 ≡ false = grind (arith, nat_tests, is) in
        let t : nat_lt b 97 ≡ false = grind (arith, nat_tests, is) in
        let u : nat_lt b 123 ≡ false = grind (arith, nat_tests, is) in
        let none : is_digit b 16 ≡ false = rw (p, q, r, s, t, u) refl in
        absurd cc

before_same : (d : Bool) (text : List ℕ) (s stop : Stop) → s ≡ stop → Before d text s → Before d text stop
before_same d text s stop e b = rw (sym e) b

hex_before : (k : Unit4 → Result Unit4 Stop) → ((v : ℕ) (rest : List ℕ) (s : Stop) → k (v, rest) ≡ Err s → Before true rest s)
    → (text : List ℕ) (stop : Stop) → (beyond_hex text >>= k) ≡ Err stop → Before true text stop
unfolding beyond_hex
hex_before k next [] stop e = let same : stop_at Syntax [] ≡ stop = cc in before_same true [] (stop_at Syntax []) stop same (at_first [] Syntax)
hex_before k next (b ∷ text) stop e = go (is_digit b 16) refl e
  where
    go : (x : Bool) → is_digit b 16 ≡ x → (beyond_hex (b ∷ text) >>= k) ≡ Err stop → Before true (b ∷ text) stop
    go true is e = tail_passed Same true (b ∷ text) (b ∷ []) text (Err stop) refl (tail_one true b ∙ hex_small b is) (next (digit_value b) text stop (rw is at e))
    go false is e =
        let f : ◌≡◌ {A = Result Unit4 Stop} (syntax_at (b ∷ text)) (Err stop) = rw is at e in
        let same : stop_at Syntax (b ∷ text) ≡ stop = cc in
        before_same true (b ∷ text) (stop_at Syntax (b ∷ text)) stop same (at_first (b ∷ text) Syntax)

four_before : (text : List ℕ) (stop : Stop) → (beyond_hex text >>= first) ≡ Err stop → Before true text stop
four_before = hex_before first (λ a. hex_before (second a) (λ b. hex_before (third a b) (λ c. hex_before (fourth a b c) (λ d rest s e. absurd cc))))

at_backslash : (x : List ℕ) (stop : Stop) → ◌≡◌ {A = Beyond} (syntax_at (92 ∷ x)) (Err stop) → Before false (92 ∷ x) stop
at_backslash x stop e = let same : stop_at Syntax (92 ∷ x) ≡ stop = cc in before_same false (92 ∷ x) (stop_at Syntax (92 ∷ x)) stop same (at_small false (92 ∷ x) refl)

second_before : (x : List ℕ) (answer : Result Unit4 Stop) (stop : Stop) → beyond_low (92 ∷ x) answer ≡ Err stop → Before false (92 ∷ x) stop
unfolding beyond_low
second_before x (Ok v) stop e = go (is_low_surrogate v.0) refl e
  where
    go : (b : Bool) → is_low_surrogate v.0 ≡ b → beyond_low (92 ∷ x) (Ok v) ≡ Err stop → Before false (92 ∷ x) stop
    go true low e = let f : ◌≡◌ {A = Beyond} (Ok v.1) (Err stop) = rw low at e in absurd cc
    go false low e = at_backslash x stop (rw low at e)
second_before x (Err s) stop e = go (s.remaining == 0) refl e
  where
    go : (b : Bool) → (s.remaining == 0) ≡ b → beyond_low (92 ∷ x) (Err s) ≡ Err stop → Before false (92 ∷ x) stop
    go true end e =
        let f : ◌≡◌ {A = Beyond} (Err s) (Err stop) = rw end at e in
        let same : s ≡ stop = cc in
        let last : s.remaining ≡ 0 = grind (arith, nat_tests, end) in
        record {
          taken = 92 ∷ x;
          rest = [];
          split = sym (append-nil (92 ∷ x));
          remaining = ap (λ s. s.remaining) (sym same) ∙ last;
          ends = inl refl;
        }
    go false end e = at_backslash x stop (rw end at e)

answered_before : (x : List ℕ) (u : Unit4) (stop : Stop) (b : Bool) → is_high_surrogate u.0 ≡ b → (c : Bool) → is_low_surrogate u.0 ≡ c
    → Answered (92 ∷ x) u ≡ Err stop → Before false (92 ∷ x) stop
answered_before x u stop true high c low e = second_before x (beyond_unit u.1) stop (rw high at e)
answered_before x u stop false high true low e = at_backslash x stop (rw (high, low) at e)
answered_before x u stop false high false low e = let f : ◌≡◌ {A = Beyond} (Ok u.1) (Err stop) = rw (high, low) at e in absurd cc

units_before : (x : List ℕ) (stop : Stop) → beyond_units (92 ∷ 117 ∷ x) ≡ Err stop → Before false (92 ∷ 117 ∷ x) stop
unfolding beyond_units beyond_unit beyond_word tail
units_before x stop e = go (beyond_hex x >>= first) refl e
  where
    go : (answer : Result Unit4 Stop) → (beyond_hex x >>= first) ≡ answer → (answer >>= Answered (92 ∷ 117 ∷ x)) ≡ Err stop → Before false (92 ∷ 117 ∷ x) stop
    go (Err s) is e =
        let same : s ≡ stop = cc in
        tail_passed Same false (92 ∷ 117 ∷ x) (92 ∷ 117 ∷ []) x (Err stop) refl refl (four_before x stop (is ∙ ap Err same))
    go (Ok u) is e = answered_before (117 ∷ x) u stop (is_high_surrogate u.0) refl (is_low_surrogate u.0) refl e

after_backslash : (b : ℕ) (rest : List ℕ) (stop : Stop) → (b == 92) ≡ true → ◌≡◌ {A = Beyond} (syntax_at rest) (Err stop) → Before false (b ∷ rest) stop
after_backslash b rest stop is e =
    let same : stop_at Syntax rest ≡ stop = cc in
    tail_passed Same false (b ∷ rest) (b ∷ []) rest (Err stop) refl (tail_one false b ∙ one_tests 92 (omega arith) b is) (before_same true rest (stop_at Syntax rest) stop same (at_first rest Syntax))

escape_before : (b c : ℕ) (text : List ℕ) (stop : Stop) → (b == 92) ≡ true → (x : Bool) → (c == 117) ≡ x → (y : Bool) → is_short_escape c ≡ y
    → beyond_character (b ∷ c ∷ text) ≡ Err stop → Before false (b ∷ c ∷ text) stop
unfolding beyond_character beyond_escape
escape_before b c text stop is true u y short e = rw (same_number b 92 is, same_number c 117 u) (units_before text stop (rw (same_number b 92 is, same_number c 117 u) at e))
escape_before b c text stop is false u true short e = let f : ◌≡◌ {A = Beyond} (Ok text) (Err stop) = rw (is, u, short) at e in absurd cc
escape_before b c text stop is false u false short e = after_backslash b (c ∷ text) stop is (rw (is, u, short) at e)

low_small : (b : ℕ) → nat_lt b 32 ≡ true → nat_lt b 128 ≡ true
low_small b e = grind (arith, nat_tests, e)

character_by : (b : ℕ) (text : List ℕ) (stop : Stop) (x : Bool) → (b == 92) ≡ x → (y : Bool) → nat_lt b 32 ≡ y → beyond_character (b ∷ text) ≡ Err stop
    → Before false (b ∷ text) stop
unfolding beyond_character beyond_escape
character_by b [] stop true is y low e = after_backslash b [] stop is (rw is at e)
character_by b (c ∷ text) stop true is y low e = escape_before b c text stop is (c == 117) refl (is_short_escape c) refl e
character_by b text stop false is true low e =
    let f : ◌≡◌ {A = Beyond} (syntax_at (b ∷ text)) (Err stop) = rw (is, low) at e in
    let same : stop_at Syntax (b ∷ text) ≡ stop = cc in
    before_same false (b ∷ text) (stop_at Syntax (b ∷ text)) stop same (at_small false (b ∷ text) (low_small b low))
character_by b text stop false is false low e = let f : ◌≡◌ {A = Beyond} (Ok text) (Err stop) = rw (is, low) at e in absurd cc

character_before : (text : List ℕ) (stop : Stop) → beyond_character text ≡ Err stop → Before false text stop
unfolding beyond_character
character_before [] stop e = let same : stop_at Syntax [] ≡ stop = cc in before_same false [] (stop_at Syntax []) stop same (at_small false [] refl)
character_before (b ∷ text) stop e = character_by b text stop (b == 92) refl (nat_lt b 32) refl e

abbrev Loop : ℕ → Type 0
Loop n = (text : List ℕ) → length text ≤ n → Ended Same false text (beyond_items is_quote beyond_character n text)

loop_step : (n : ℕ) (text : List ℕ) (answer : Beyond) → length text ≤ suc n → beyond_character text ≡ answer → Loop n
    → Ended Same false text (answer >>= beyond_items is_quote beyond_character n)
loop_step n text (Err s) le is more = character_before text s is
loop_step n text (Ok mid) le is more =
    let p = character_piece text mid is in
    let size : length text ≡ suc (length (p.more ++ mid)) = ap length p.split in
    passing_any Same false text (p.first ∷ p.more) mid (beyond_items is_quote beyond_character n mid) p.split (more mid (omega (arith, le, size, length-append p.more mid)))

loop_by : (n : ℕ) (text : List ℕ) (x : Bool) → length text ≤ suc n → begins is_quote text ≡ x → Loop n
    → Ended Same false text (beyond_items is_quote beyond_character (suc n) text)
unfolding beyond_items
loop_by n [] true le is more = absurd cc
loop_by n (b ∷ text) true le is more = rw is (one false b text (one_tests 34 (omega arith) b is))
loop_by n text false le is more = rw is (loop_step n text (beyond_character text) le refl more)

loop_ends : (n : ℕ) → Loop n
unfolding beyond_items
loop_ends zero [] le = at_small false [] refl
loop_ends zero (b ∷ text) le = absurd (omega (arith, le))
loop_ends (suc n) text le = loop_by n text (begins is_quote text) le refl (loop_ends n)

string_ends : Ends beyond_string
unfolding beyond_string
string_ends text = passing_any Same true text [] text (beyond_items is_quote beyond_character (length text) text) refl (loop_ends (length text) text (le_refl (length text)))

quoted_ends : Ends quoted
unfolding plain
quoted_ends = after_both (beyond_word (codes "\"")) beyond_string (word_ends (codes "\"") refl) string_ends

colon_ends : Ends colon
unfolding plain
colon_ends = white_ends Same (beyond_word (codes ":")) (word_ends (codes ":") refl)

name_ends : Ends beyond_name
unfolding beyond_name
name_ends = white_ends Same named (after_both quoted colon quoted_ends colon_ends)

-- ---- values

abbrev rest_of : Next → List ℕ
rest_of next = next.1

after_ends : (closes : ℕ → Bool) → Tests closes → (text : List ℕ) → Ended rest_of true text (after_part closes text)
unfolding plain
after_ends closes tests text = go text (begins closes text) refl
  where
    go : (t : List ℕ) (x : Bool) → begins closes t ≡ x → Ended rest_of true t (after_part closes t)
    go [] true is = absurd cc
    go (b ∷ t) true is = rw is (one true b t (tests b is))
    go t false is = rw is (after Same rest_of true t (λ rest. Ok (true, rest)) (beyond_word (codes ",") t) (word_ends (codes ",") refl t) nothing)

next_ends : (closes : ℕ → Bool) → Tests closes → (text : List ℕ) → Ended rest_of true text (beyond_next closes text)
unfolding beyond_next
next_ends closes tests = white_ends rest_of (after_part closes) (after_ends closes tests)

more_ends : (closes : ℕ → Bool) (part : List ℕ → Beyond) (n : ℕ) → Ends (beyond_parts closes part n) → (next : Next) → Ended Same true next.1 (parts_after closes part n next)
more_ends closes part n more next = go next.0 refl
  where
    go : (x : Bool) → next.0 ≡ x → Ended Same true next.1 (parts_after closes part n next)
    go true is = rw is (more next.1)
    go false is = rw is (nothing next.1)

parts_end : (closes : ℕ → Bool) (part : List ℕ → Beyond) (n : ℕ) → Tests closes → Ends part → Ends (beyond_parts closes part n)
unfolding beyond_parts
parts_end closes part zero tests ends text = at_first text Syntax
parts_end closes part (suc n) tests ends text =
    after rest_of Same true text (parts_after closes part n) (part text >>= beyond_next closes)
    (after Same rest_of true text (beyond_next closes) (part text) (ends text) (next_ends closes tests))
    (more_ends closes part n (parts_end closes part n tests ends))

close_upto : (closes : ℕ → Bool) (text : List ℕ) → Tests closes → begins closes text ≡ true → Upto true text (drop 1 text)
close_upto closes [] tests is = absurd cc
close_upto closes (b ∷ text) tests is = one true b text (tests b is)

group_ends : (closes : ℕ → Bool) (part : List ℕ → Beyond) → Tests closes → Ends part → Ends (beyond_group closes part)
unfolding beyond_group
group_ends closes part tests ends text = go (begins closes (beyond_white text)) refl
  where
    go : (x : Bool) → begins closes (beyond_white text) ≡ x → Ended Same true text (beyond_group closes part text)
    go true is =
        let u = run_upto is_white white_tests text in
        rw is (tail_passed Same true text u.taken (beyond_white text) (Ok (drop 1 (beyond_white text))) u.split u.ends (close_upto closes (beyond_white text) tests is))
    go false is = rw is (parts_end closes part (suc (length text)) tests ends text)

object_ends : (value : List ℕ → Beyond) → Ends value → Ends (beyond_object value)
object_ends value ends = group_ends (λ b. b == 125) (beyond_member value) (one_tests 125 (omega arith)) (after_both beyond_name value name_ends ends)

array_ends : (value : List ℕ → Beyond) → Ends value → Ends (beyond_array value)
array_ends value ends = group_ends (λ b. b == 93) value (one_tests 93 (omega arith)) ends

-- an item after its first byte
passing_ends : (item : List ℕ → Beyond) (b : ℕ) (inner : List ℕ → Beyond) → nat_lt b 128 ≡ true → Ends inner → ((text : List ℕ) → item (b ∷ text) ≡ inner text)
    → (text : List ℕ) → Ended Same true (b ∷ text) (item (b ∷ text))
passing_ends item b inner low ends is text = rw (is text) (tail_passed Same true (b ∷ text) (b ∷ []) text (inner text) refl (tail_one true b ∙ low) (ends text))

scalar_by : (b : ℕ) (text : List ℕ) (p : Bool) → (b == 34) ≡ p → (q : Bool) → (b == 116) ≡ q → (r : Bool) → (b == 102) ≡ r → (s : Bool) → (b == 110) ≡ s
    → Ended Same true (b ∷ text) (beyond_scalar (b ∷ text))
unfolding beyond_scalar plain
scalar_by b text true a q c r d s e = passing_ends beyond_scalar b beyond_string (one_tests 34 (omega arith) b a) string_ends (λ t. rw a refl) text
scalar_by b text false a true c r d s e =
    passing_ends beyond_scalar b (beyond_word (codes "rue")) (one_tests 116 (omega arith) b c) (word_ends (codes "rue") refl) (λ t. rw (a, c) refl) text
scalar_by b text false a false c true d s e =
    passing_ends beyond_scalar b (beyond_word (codes "alse")) (one_tests 102 (omega arith) b d) (word_ends (codes "alse") refl) (λ t. rw (a, c, d) refl) text
scalar_by b text false a false c false d true e =
    passing_ends beyond_scalar b (beyond_word (codes "ull")) (one_tests 110 (omega arith) b e) (word_ends (codes "ull") refl) (λ t. rw (a, c, d, e) refl) text
scalar_by b text false a false c false d false e = rw (a, c, d, e) (number_ends (b ∷ text))

scalar_ends : Ends beyond_scalar
unfolding beyond_scalar
scalar_ends [] = at_first [] Syntax
scalar_ends (b ∷ text) = scalar_by b text (b == 34) refl (b == 116) refl (b == 102) refl (b == 110) refl

unnested_ends : Ends beyond_unnested
unnested_ends text = go text (begins is_bracket text) refl
  where
    go : (t : List ℕ) (x : Bool) → begins is_bracket t ≡ x → Ended Same true t (beyond_unnested t)
    go [] true is = absurd cc
    go (b ∷ t) true is = rw (unnested_deep b t is) (at_first (b ∷ t) TooDeep)
    go t false is = rw (unnested_flat t is) (scalar_ends t)

nested_ends : (value : List ℕ → Beyond) → Ends value → Ends (beyond_nested value)
nested_ends value ends [] = rw (nested_flat value [] refl) (scalar_ends [])
nested_ends value ends (b ∷ text) = go (b == 123) refl (b == 91) refl
  where
    go : (x : Bool) → (b == 123) ≡ x → (y : Bool) → (b == 91) ≡ y → Ended Same true (b ∷ text) (beyond_nested value (b ∷ text))
    go true o y a = passing_ends (beyond_nested value) b (beyond_object value) (one_tests 123 (omega arith) b o) (object_ends value ends) (λ t. rw o refl) text
    go false o true a = passing_ends (beyond_nested value) b (beyond_array value) (one_tests 91 (omega arith) b a) (array_ends value ends) (λ t. rw (o, a) refl) text
    go false o false a = rw (nested_flat value (b ∷ text) (either_bracket (b == 123) (b == 91) o a)) (scalar_ends (b ∷ text))

value_ends : (level : ℕ) → Ends (beyond_value level)
unfolding beyond_value
value_ends zero = white_ends Same beyond_unnested unnested_ends
value_ends (suc level) = white_ends Same (beyond_nested (beyond_value level)) (nested_ends (beyond_value level) (value_ends level))

-- ---- the whole text

last_before : (text : List ℕ) (stop : Stop) → last text ≡ Err stop → Before true text stop
last_before text stop e = go (length text == 0) refl e
  where
    go : (x : Bool) → (length text == 0) ≡ x → last text ≡ Err stop → Before true text stop
    go true is e = let f : ◌≡◌ {A = Beyond} (Ok []) (Err stop) = rw is at e in absurd cc
    go false is e =
        let f : ◌≡◌ {A = Beyond} (Err (stop_at TrailingText text)) (Err stop) = rw is at e in
        let same : stop_at TrailingText text ≡ stop = cc in
        before_same true text (stop_at TrailingText text) stop same (at_first text TrailingText)

text_by : (text : List ℕ) (stop : Stop) (answer : Beyond) → Ended Same true text answer → (answer >>= λ rest. last (beyond_white rest)) ≡ Err stop → Before true text stop
text_by text stop (Ok rest) u e =
    let w = run_upto is_white white_tests rest in
    tail_passed Same true text u.taken rest (Err stop) u.split u.ends
    (tail_passed Same true rest w.taken (beyond_white rest) (Err stop) w.split w.ends (last_before (beyond_white rest) stop e))
text_by text stop (Err s) b e = let same : s ≡ stop = cc in before_same true text s stop same b

text_before : (text : List ℕ) (stop : Stop) → beyond_text text ≡ Err stop → Before true text stop
unfolding beyond_text
text_before text stop e = text_by text stop (beyond_value most_brackets text) (value_ends most_brackets text) e

-- ---- whole characters

plain_ascii : (text : List ℕ) → plain text ≡ true → IsAscii text
unfolding plain
plain_ascii [] p i = omega arith
plain_ascii (b ∷ text) p zero = let low = (and_parts (nat_lt b 128) (plain text) p).0 in grind (arith, nat_tests, low)
plain_ascii (b ∷ text) p (suc i) = plain_ascii text (and_parts (nat_lt b 128) (plain text) p).1 i

pub plain_utf8 : (text : List ℕ) → plain text ≡ true → IsUtf8 text
plain_utf8 text p = IsUtf8-from_ascii text (plain_ascii text p)

low_byte : (b : ℕ) → nat_lt b 128 ≡ true → b < 128
low_byte b e = grind (arith, nat_tests, e)

one_utf8 : (b : ℕ) → nat_lt b 128 ≡ true → IsUtf8 (b ∷ [])
unfolding plain
one_utf8 b e = plain_utf8 (b ∷ []) (rw e refl)

-- a text may be split before a byte of ASCII
prefix_is_utf8 : (before : List ℕ) (b : ℕ) (rest : List ℕ) → nat_lt b 128 ≡ true → IsUtf8 (before ++ (b ∷ rest)) → IsUtf8 before
prefix_is_utf8 before b rest e utf8 =
    let at : get_or (before ++ (b ∷ rest)) (length before) 0 ≡ b = get_or-append_seam before b rest 0 in
    let low : b < 128 = low_byte b e in
    let boundary : IsCharBoundary (before ++ (b ∷ rest)) (length before) =
    (omega (arith, length-append before (b ∷ rest)), λ lt high. absurd (omega (arith, at, low, high))) in
    rw (sym (take-append_seam before (b ∷ rest))) (IsUtf8-take (before ++ (b ∷ rest)) (length before) utf8 boundary)

-- the last of some bytes
abbrev Last : List ℕ → Type 0
Last text = (prefix : List ℕ) × (b : ℕ) × (text ≡ prefix ++ (b ∷ [])) × (nat_lt b 128 ≡ true)

tail_last : (d : Bool) (text : List ℕ) → tail d text ≡ true → ((text ≡ []) × (d ≡ true)) ⊎ Last text
unfolding tail
tail_last d [] e = inl (refl, e)
tail_last d (b ∷ text) e = go (tail_last (nat_lt b 128) text e)
  where
    go : ((text ≡ []) × (nat_lt b 128 ≡ true)) ⊎ Last text → ((b ∷ text ≡ []) × (d ≡ true)) ⊎ Last (b ∷ text)
    go (inl h) = inr ([], b, ap (λ x. b ∷ x) h.0, h.1)
    go (inr h) = inr (b ∷ h.0, h.1, ap (λ x. b ∷ x) h.2, h.3)

of_prefix_utf8 : (taken rest : List ℕ) → IsUtf8 (taken ++ rest) → (small rest ≡ true) ⊎ (tail true taken ≡ true) → IsUtf8 taken
of_prefix_utf8 taken [] utf8 (inl s) = rw (sym (append-nil taken)) utf8
of_prefix_utf8 taken (b ∷ rest) utf8 (inl s) = prefix_is_utf8 taken b rest s utf8
of_prefix_utf8 taken rest utf8 (inr t) = go (tail_last true taken t)
  where
    go : ((taken ≡ []) × (true ≡ true)) ⊎ Last taken → IsUtf8 taken
    go (inl h) = rw h.0 IsUtf8-nil
    go (inr h) =
        let whole : taken ++ rest ≡ h.0 ++ (h.1 ∷ rest) = ap (λ x. x ++ rest) h.2 ∙ append_assoc h.0 (h.1 ∷ []) rest in
        let all : IsUtf8 (h.0 ++ (h.1 ∷ rest)) = rw (sym whole) utf8 in
        rw h.2 (IsUtf8-append h.0 (h.1 ∷ []) (prefix_is_utf8 h.0 h.1 rest h.3 all) (one_utf8 h.1 h.3))

-- the bytes before the fault, as many as come before its rest
pub before_utf8 : (text before rest : List ℕ) (stop : Stop) → IsUtf8 text → beyond_text text ≡ Err stop → text ≡ before ++ rest → stop.remaining ≡ length rest → IsUtf8 before
before_utf8 text before rest stop utf8 e split remaining =
    let b = text_before text stop e in
    let sizes : length (b.taken ++ b.rest) ≡ length (before ++ rest) = ap length (sym b.split ∙ split) in
    let size : length b.taken ≡ length before = omega (arith, sizes, remaining, b.remaining, length-append b.taken b.rest, length-append before rest) in
    let same : b.taken ≡ before =
    sym (take-append_seam b.taken b.rest) ∙ ap (λ x. take (length b.taken) x) (sym b.split ∙ split) ∙ ap (λ n. take n (before ++ rest)) size ∙ take-append_seam before rest in
    rw (sym same) (of_prefix_utf8 b.taken b.rest (rw (sym b.split) utf8) b.ends)
