-- How a string can continue before its fault.
use Rattle.std.proofs.Common.{◌≡◌, ◌≤◌, ◌<◌, ◌+◌, ◌*◌, ◌==◌, ◌∙◌, ◌++◌, sym, refl, ◌⊎◌, inl, inr, ℕ, zero, suc, Bool, true, false, List, [], ◌∷◌, length, drop, ap, Ok, Err, append_assoc, append-nil, length-append, le_refl, arith}
use Rattle.std.specs.Prelude.{Result, codes, nat_lt, nat_le}
use Rattle.std.specs.Char.{digit_value, is_digit}
use Rattle.std.proofs.lemmas.{Bool.Decides.nat_tests}
use Rattle.json.specs.Text.{is_high_surrogate, is_low_surrogate}
use Rattle.bd_extjson_fault.specs.declared.skip.Stop.{Stop}
use Rattle.bd_extjson_fault.specs.declared.skip.StopKind.TheVariants.{Syntax}
use Rattle.bd_extjson_fault.specs.FaultOffset.{begins_ud, SplitsSurrogate}
use Rattle.bd_extjson_fault.specs.JsonSyntax.{Beyond, ◌>>=◌, syntax_at, begins, beyond_all, beyond_word, beyond_hex, beyond_unit, beyond_low, beyond_units, is_short_escape, beyond_escape, beyond_character, beyond_items, beyond_string, beyond_name}
use Rattle.bd_extjson_fault.proofs.OffsetLemmas.{Gives, Always, stop_at, bind_ok, firm_piece, word_split, word_firm}
use Rattle.bd_extjson_fault.proofs.OffsetStringLemmas.{Unit4, first, second, third, fourth, hex_of, Answered, same_number, character_piece, Items, items_on, items_close, is_quote, quoted, quoted_piece, colon, named}
use Rattle.bd_extjson_fault.proofs.GoOnLemmas.{plain, plain_nil, plain_append, Goes, Completed, Completes, onward, instead, starts_beyond, some_byte, begins_start, then_completes, white_completes, word_completes}

-- ---- escapes

record Value (b v : ℕ) : Type 0 where
  is : digit_value b ≡ v
  small : v < 16

value_of : (b : ℕ) (other : List ℕ) (u : Unit4) → beyond_hex (b ∷ other) ≡ Ok u → Value b u.0
unfolding beyond_hex
value_of b other u e = go (is_digit b 16) refl e
  where
    go : (x : Bool) → is_digit b 16 ≡ x → beyond_hex (b ∷ other) ≡ Ok u → Value b u.0
    go true is e =
        let f : ◌≡◌ {A = Result Unit4 Stop} (Ok (digit_value b, other)) (Ok u) = rw is at e in
        let same : ◌≡◌ {A = Unit4} (digit_value b, other) u = cc in
        let number : digit_value b ≡ u.0 = ap (λ x. x.0) same in
        let test : nat_lt u.0 16 ≡ true = ap (λ n. nat_lt n 16) (sym number) ∙ is in
        record { is = number; small = grind (arith, nat_tests, test) }
    go false is e = let f : ◌≡◌ {A = Result Unit4 Stop} (syntax_at (b ∷ other)) (Ok u) = rw is at e in absurd cc

hex_stop : (text : List ℕ) (stop : Stop) → beyond_hex text ≡ Err stop → stop.remaining ≡ length text
unfolding beyond_hex
hex_stop [] stop e = let f : stop_at Syntax [] ≡ stop = cc in ap (λ s. s.remaining) (sym f)
hex_stop (b ∷ text) stop e = go (is_digit b 16) refl e
  where
    go : (x : Bool) → is_digit b 16 ≡ x → beyond_hex (b ∷ text) ≡ Err stop → stop.remaining ≡ length (b ∷ text)
    go true is e = let f : ◌≡◌ {A = Result Unit4 Stop} (Ok (digit_value b, text)) (Err stop) = rw is at e in absurd cc
    go false is e =
        let f : ◌≡◌ {A = Result Unit4 Stop} (syntax_at (b ∷ text)) (Err stop) = rw is at e in
        let same : stop_at Syntax (b ∷ text) ≡ stop = cc in
        ap (λ s. s.remaining) (sym same)

zero_digit : (other : List ℕ) → beyond_hex (48 ∷ other) ≡ Ok (0, other)
unfolding beyond_hex
zero_digit other = refl

record Range (from to v : ℕ) : Type 0 where
  least : 53248 + from * 256 ≤ v
  below : v < 53248 + to * 256
  some : to ≤ 16

high_range : (v : ℕ) → is_high_surrogate v ≡ true → Range 8 12 v
high_range v e = record { least = grind (arith, nat_tests, e); below = grind (arith, nat_tests, e); some = omega arith }

low_range : (v : ℕ) → is_low_surrogate v ≡ true → Range 12 16 v
low_range v e = record { least = grind (arith, nat_tests, e); below = grind (arith, nat_tests, e); some = omega arith }

-- the first two digits of a surrogate
lead : (a b va vb w v from to : ℕ) (more : List ℕ) → Value a va → Value b vb → w < 256 → v ≡ va * 4096 + vb * 256 + w → Range from to v
    → begins_ud from to (92 ∷ 117 ∷ a ∷ b ∷ more) ≡ true
lead a b va vb w v from to more x y small is r =
    let d : va ≡ 13 = omega (arith, x.small, y.small, small, is, r.least, r.below, r.some) in
    let e : from ≤ vb = omega (arith, small, is, r.least, d) in
    let f : vb < to = omega (arith, is, r.below, d) in
    let p : (digit_value a == 13) ≡ true = rw (x.is ∙ d) refl in
    let q : nat_le from (digit_value b) ≡ true = rw y.is (grind (arith, nat_tests, e)) in
    let s : nat_lt (digit_value b) to ≡ true = rw y.is (grind (arith, nat_tests, f)) in
    rw (p, q, s) refl

-- an escape of a low surrogate
abbrev low_escape : List ℕ
low_escape = 92 ∷ 117 ∷ 100 ∷ 99 ∷ 48 ∷ 48 ∷ []

low_unit : (other : List ℕ) → beyond_unit (92 ∷ 117 ∷ 100 ∷ 99 ∷ 48 ∷ 48 ∷ other) ≡ Ok (56320, other)
unfolding beyond_unit beyond_word beyond_hex
low_unit other = refl

-- digits that are not all there
finish : (x rest digits zeros : List ℕ) (v : ℕ) (stop : Stop) → x ≡ digits ++ rest → stop.remaining ≡ length rest → plain zeros ≡ true
    → ((other : List ℕ) → beyond_unit (92 ∷ 117 ∷ (digits ++ (zeros ++ other))) ≡ Ok (v, other))
    → (is_low_surrogate v ≡ true → SplitsSurrogate (92 ∷ 117 ∷ digits))
    → Completed (Gives beyond_character) (λ x. x) Always 48 (92 ∷ 117 ∷ x) stop
unfolding beyond_character beyond_escape beyond_units beyond_low plain
finish x rest digits zeros v stop e remaining p unit splits = record {
  before = 92 ∷ 117 ∷ digits;
  rest = rest;
  split = ap (λ t. 92 ∷ 117 ∷ t) e;
  remaining = remaining;
  goes = go (is_high_surrogate v) refl (is_low_surrogate v) refl;
}
  where
    go : (h : Bool) → is_high_surrogate v ≡ h → (l : Bool) → is_low_surrogate v ≡ l
        → SplitsSurrogate (92 ∷ 117 ∷ digits) ⊎ Goes (Gives beyond_character) (λ x. x) Always 48 (92 ∷ 117 ∷ x) (92 ∷ 117 ∷ digits)
    go true h l low = inr (record {
      added = zeros ++ low_escape;
      plainly = plain_append zeros low_escape p refl;
      starts = λ other next. inl refl;
      passes = λ other next. rw (append_assoc zeros low_escape other, unit (92 ∷ 117 ∷ 100 ∷ 99 ∷ 48 ∷ 48 ∷ other), h, low_unit other) refl;
    })
    go false h true low = inl (splits low)
    go false h false low = inr (record {
      added = zeros;
      plainly = p;
      starts = λ other next. inl refl;
      passes = λ other next. rw (unit other, h, low) refl;
    })

no_digit : (x : List ℕ) (stop : Stop) → beyond_hex x ≡ Err stop → Completed (Gives beyond_character) (λ x. x) Always 48 (92 ∷ 117 ∷ x) stop
unfolding beyond_unit beyond_word beyond_hex plain
no_digit x stop e = finish x x [] (48 ∷ 48 ∷ 48 ∷ 48 ∷ []) 0 stop refl (hex_stop x stop e) refl (λ other. refl) (λ s. absurd cc)

never_one : (va : ℕ) → va < 16 → is_low_surrogate (va * 4096 + 0 * 256 + 0 * 16 + 0) ≡ true → ⊥
never_one va small s = let r = low_range (va * 4096 + 0 * 256 + 0 * 16 + 0) s in omega (arith, small, r.least, r.below)

one_digit : (x : List ℕ) (a : Unit4) (stop : Stop) → beyond_hex x ≡ Ok a → beyond_hex a.1 ≡ Err stop
    → Completed (Gives beyond_character) (λ x. x) Always 48 (92 ∷ 117 ∷ x) stop
unfolding beyond_unit beyond_word plain
one_digit x a stop ea e =
    let ha = hex_of x a ea in
    let va = value_of ha.byte [] (a.0, []) (ha.passes []) in
    finish x a.1 (ha.byte ∷ []) (48 ∷ 48 ∷ 48 ∷ []) (a.0 * 4096 + 0 * 256 + 0 * 16 + 0) stop ha.split (hex_stop a.1 stop e) refl
    (λ other. rw (ha.passes (48 ∷ 48 ∷ 48 ∷ other), zero_digit (48 ∷ 48 ∷ other), zero_digit (48 ∷ other), zero_digit other) refl)
    (λ s. absurd (never_one a.0 va.small s))

two_digits : (x : List ℕ) (a b : Unit4) (stop : Stop) → beyond_hex x ≡ Ok a → beyond_hex a.1 ≡ Ok b → beyond_hex b.1 ≡ Err stop
    → Completed (Gives beyond_character) (λ x. x) Always 48 (92 ∷ 117 ∷ x) stop
unfolding beyond_unit beyond_word plain
two_digits x a b stop ea eb e =
    let ha = hex_of x a ea in
    let hb = hex_of a.1 b eb in
    let va = value_of ha.byte [] (a.0, []) (ha.passes []) in
    let vb = value_of hb.byte [] (b.0, []) (hb.passes []) in
    finish x b.1 (ha.byte ∷ hb.byte ∷ []) (48 ∷ 48 ∷ []) (a.0 * 4096 + b.0 * 256 + 0 * 16 + 0) stop (ha.split ∙ ap (λ t. ha.byte ∷ t) hb.split) (hex_stop b.1 stop e) refl
    (λ other. rw (ha.passes (hb.byte ∷ 48 ∷ 48 ∷ other), hb.passes (48 ∷ 48 ∷ other), zero_digit (48 ∷ other), zero_digit other) refl)
    (λ s. (
      [],
      92 ∷ 117 ∷ ha.byte ∷ hb.byte ∷ [],
      refl,
      inl (
        lead ha.byte hb.byte a.0 b.0 0 (a.0 * 4096 + b.0 * 256 + 0 * 16 + 0) 12 16 [] va vb (omega arith) (omega arith)
            (low_range (a.0 * 4096 + b.0 * 256 + 0 * 16 + 0) s),
        omega arith,
      ),
    ))

three_digits : (x : List ℕ) (a b c : Unit4) (stop : Stop) → beyond_hex x ≡ Ok a → beyond_hex a.1 ≡ Ok b → beyond_hex b.1 ≡ Ok c → beyond_hex c.1 ≡ Err stop
    → Completed (Gives beyond_character) (λ x. x) Always 48 (92 ∷ 117 ∷ x) stop
unfolding beyond_unit beyond_word plain
three_digits x a b c stop ea eb ec e =
    let ha = hex_of x a ea in
    let hb = hex_of a.1 b eb in
    let hc = hex_of b.1 c ec in
    let va = value_of ha.byte [] (a.0, []) (ha.passes []) in
    let vb = value_of hb.byte [] (b.0, []) (hb.passes []) in
    let vc = value_of hc.byte [] (c.0, []) (hc.passes []) in
    finish x c.1 (ha.byte ∷ hb.byte ∷ hc.byte ∷ []) (48 ∷ []) (a.0 * 4096 + b.0 * 256 + c.0 * 16 + 0) stop
    (ha.split ∙ ap (λ t. ha.byte ∷ t) (hb.split ∙ ap (λ t. hb.byte ∷ t) hc.split)) (hex_stop c.1 stop e) refl
    (λ other. rw (ha.passes (hb.byte ∷ hc.byte ∷ 48 ∷ other), hb.passes (hc.byte ∷ 48 ∷ other), hc.passes (48 ∷ other), zero_digit other) refl)
    (λ s. (
      [],
      92 ∷ 117 ∷ ha.byte ∷ hb.byte ∷ hc.byte ∷ [],
      refl,
      inl (
        lead ha.byte hb.byte a.0 b.0 (c.0 * 16) (a.0 * 4096 + b.0 * 256 + c.0 * 16 + 0) 12 16 (hc.byte ∷ []) va vb (omega (arith, vc.small)) (omega arith)
            (low_range (a.0 * 4096 + b.0 * 256 + c.0 * 16 + 0) s),
        omega arith,
      ),
    ))

after_third : (x : List ℕ) (a b c : Unit4) (stop : Stop) → beyond_hex x ≡ Ok a → beyond_hex a.1 ≡ Ok b → beyond_hex b.1 ≡ Ok c → (d : Result Unit4 Stop) → beyond_hex c.1 ≡ d
    → (d >>= fourth a.0 b.0 c.0) ≡ Err stop → Completed (Gives beyond_character) (λ x. x) Always 48 (92 ∷ 117 ∷ x) stop
after_third x a b c stop ea eb ec (Ok d) ed e = absurd cc
after_third x a b c stop ea eb ec (Err s) ed e = let same : s ≡ stop = cc in three_digits x a b c stop ea eb ec (ed ∙ ap Err same)

after_second : (x : List ℕ) (a b : Unit4) (stop : Stop) → beyond_hex x ≡ Ok a → beyond_hex a.1 ≡ Ok b → (c : Result Unit4 Stop) → beyond_hex b.1 ≡ c
    → (c >>= third a.0 b.0) ≡ Err stop → Completed (Gives beyond_character) (λ x. x) Always 48 (92 ∷ 117 ∷ x) stop
after_second x a b stop ea eb (Ok c) ec e = after_third x a b c stop ea eb ec (beyond_hex c.1) refl e
after_second x a b stop ea eb (Err s) ec e = let same : s ≡ stop = cc in two_digits x a b stop ea eb (ec ∙ ap Err same)

after_first : (x : List ℕ) (a : Unit4) (stop : Stop) → beyond_hex x ≡ Ok a → (b : Result Unit4 Stop) → beyond_hex a.1 ≡ b
    → (b >>= second a.0) ≡ Err stop → Completed (Gives beyond_character) (λ x. x) Always 48 (92 ∷ 117 ∷ x) stop
after_first x a stop ea (Ok b) eb e = after_second x a b stop ea eb (beyond_hex b.1) refl e
after_first x a stop ea (Err s) eb e = let same : s ≡ stop = cc in one_digit x a stop ea (eb ∙ ap Err same)

digits_complete : (x : List ℕ) (stop : Stop) → (a : Result Unit4 Stop) → beyond_hex x ≡ a → (a >>= first) ≡ Err stop
    → Completed (Gives beyond_character) (λ x. x) Always 48 (92 ∷ 117 ∷ x) stop
digits_complete x stop (Ok a) ea e = after_first x a stop ea (beyond_hex a.1) refl e
digits_complete x stop (Err s) ea e = let same : s ≡ stop = cc in no_digit x stop (ea ∙ ap Err same)

-- the bytes of an escape of a surrogate
record Four (x : List ℕ) (u : Unit4) : Type 0 where
  size : length x ≡ 4 + length u.1
  begun : is_high_surrogate u.0 ≡ true → begins_ud 8 12 (92 ∷ 117 ∷ x) ≡ true

four_of : (x : List ℕ) (u : Unit4) → (beyond_hex x >>= first) ≡ Ok u → Four x u
four_of x u e =
    let a = bind_ok (beyond_hex x) first u e in
    let b = bind_ok (beyond_hex (a.0).1) (second (a.0).0) u a.2 in
    let c = bind_ok (beyond_hex (b.0).1) (third (a.0).0 (b.0).0) u b.2 in
    let d = bind_ok (beyond_hex (c.0).1) (fourth (a.0).0 (b.0).0 (c.0).0) u c.2 in
    let ha = hex_of x a.0 a.1 in
    let hb = hex_of (a.0).1 b.0 b.1 in
    let hc = hex_of (b.0).1 c.0 c.1 in
    let hd = hex_of (c.0).1 d.0 d.1 in
    let va = value_of ha.byte [] ((a.0).0, []) (ha.passes []) in
    let vb = value_of hb.byte [] ((b.0).0, []) (hb.passes []) in
    let vc = value_of hc.byte [] ((c.0).0, []) (hc.passes []) in
    let vd = value_of hd.byte [] ((d.0).0, []) (hd.passes []) in
    let all : ◌≡◌ {A = Result Unit4 Stop} (Ok ((a.0).0 * 4096 + (b.0).0 * 256 + (c.0).0 * 16 + (d.0).0, (d.0).1)) (Ok u) = d.2 in
    let same : ◌≡◌ {A = Unit4} ((a.0).0 * 4096 + (b.0).0 * 256 + (c.0).0 * 16 + (d.0).0, (d.0).1) u = cc in
    let number : u.0 ≡ (a.0).0 * 4096 + (b.0).0 * 256 + (c.0).0 * 16 + (d.0).0 = ap (λ x. x.0) (sym same) in
    let split : x ≡ ha.byte ∷ hb.byte ∷ hc.byte ∷ hd.byte ∷ u.1 =
    ha.split ∙ ap (λ x. ha.byte ∷ x) (hb.split ∙ ap (λ x. hb.byte ∷ x) (hc.split ∙ ap (λ x. hc.byte ∷ x) (hd.split ∙ ap (λ x. hd.byte ∷ x.1) same))) in
    let long : length x ≡ length (ha.byte ∷ hb.byte ∷ hc.byte ∷ hd.byte ∷ u.1) = ap length split in
    record {
      size = omega (arith, long);
      begun = λ s. ap (λ t. begins_ud 8 12 (92 ∷ 117 ∷ t)) split
          ∙ lead ha.byte hb.byte (a.0).0 (b.0).0 ((c.0).0 * 16 + (d.0).0) u.0 8 12 (hc.byte ∷ hd.byte ∷ u.1) va vb (omega (arith, vc.small, vd.small)) (omega (arith, number))
          (high_range u.0 s);
    }

-- how much of an escape there is before its end
hex_short : (k : Unit4 → Result Unit4 Stop) (n : ℕ) → ((v : ℕ) (r : List ℕ) (s : Stop) → k (v, r) ≡ Err s → suc (length r) ≤ s.remaining + n)
    → (text : List ℕ) (stop : Stop) → (beyond_hex text >>= k) ≡ Err stop → length text ≤ stop.remaining + n
unfolding beyond_hex
hex_short k n short [] stop e = omega arith
hex_short k n short (b ∷ text) stop e = go (is_digit b 16) refl e
  where
    go : (x : Bool) → is_digit b 16 ≡ x → (beyond_hex (b ∷ text) >>= k) ≡ Err stop → length (b ∷ text) ≤ stop.remaining + n
    go true is e = short (digit_value b) text stop (rw is at e)
    go false is e =
        let f : ◌≡◌ {A = Result Unit4 Stop} (syntax_at (b ∷ text)) (Err stop) = rw is at e in
        let same : stop_at Syntax (b ∷ text) ≡ stop = cc in
        let size : length (b ∷ text) ≡ stop.remaining = ap (λ s. s.remaining) same in
        omega (arith, size)

next_short : (n m : ℕ) (r : List ℕ) (s : Stop) → length r ≤ s.remaining + n → m ≡ suc n → suc (length r) ≤ s.remaining + m
next_short n m r s le is = omega (arith, le, is)

four_short : (text : List ℕ) (stop : Stop) → (beyond_hex text >>= first) ≡ Err stop → length text ≤ stop.remaining + 3
four_short = hex_short first 3 (λ a ra s e. next_short 2 3 ra s (hex_short (second a) 2 (λ b rb s e. next_short 1 2 rb s
    (hex_short (third a b) 1 (λ c rc s e. next_short 0 1 rc s (hex_short (fourth a b c) 0 (λ d rd s e. absurd cc) rc s e) refl) rb s e) refl) ra s e) refl)

word_short : (word text : List ℕ) (stop : Stop) → beyond_word word text ≡ Err stop → length text ≤ stop.remaining + length word
unfolding beyond_word
word_short [] text stop e = absurd cc
word_short (c ∷ word) [] stop e = omega arith
word_short (c ∷ word) (b ∷ text) stop e = go (b == c) refl (word_short word text stop) e
  where
    go : (x : Bool) → (b == c) ≡ x → (beyond_word word text ≡ Err stop → length text ≤ stop.remaining + length word) → beyond_word (c ∷ word) (b ∷ text) ≡ Err stop
        → length (b ∷ text) ≤ stop.remaining + length (c ∷ word)
    go true is more e = let le = more (rw is at e) in omega (arith, le)
    go false is more e =
        let f : ◌≡◌ {A = Beyond} (syntax_at (b ∷ text)) (Err stop) = rw is at e in
        let same : stop_at Syntax (b ∷ text) ≡ stop = cc in
        let size : length (b ∷ text) ≡ stop.remaining = ap (λ s. s.remaining) same in
        omega (arith, size)

unit_short : (text : List ℕ) (stop : Stop) → beyond_unit text ≡ Err stop → length text ≤ stop.remaining + 5
unfolding beyond_unit
unit_short text stop e = go (beyond_word (codes "\\u") text) refl e
  where
    go : (r : Beyond) → beyond_word (codes "\\u") text ≡ r → (r >>= λ digits. beyond_hex digits >>= first) ≡ Err stop → length text ≤ stop.remaining + 5
    go (Err s) is e =
        let same : s ≡ stop = cc in
        let le = word_short (codes "\\u") text stop (is ∙ ap Err same) in
        omega (arith, le)
    go (Ok rest) is e =
        let size : length text ≡ length (92 ∷ 117 ∷ rest) = ap length (word_split (codes "\\u") text rest is) in
        let le = four_short rest stop e in
        omega (arith, size, le)

-- ---- characters

zero_character : (other : List ℕ) → beyond_character (48 ∷ other) ≡ Ok other
unfolding beyond_character
zero_character other = refl

-- another character at the place of the fault
replaced : (text : List ℕ) (stop : Stop) → ◌≡◌ {A = Beyond} (syntax_at text) (Err stop) → Completed (Gives beyond_character) (λ x. x) Always 48 text stop
unfolding plain
replaced text stop e = instead (Gives beyond_character) (λ x. x) Always 48 text [] Syntax stop refl (cc) (λ other next. zero_character other)

second_complete : (x : List ℕ) (u : Unit4) (stop : Stop) → (beyond_hex x >>= first) ≡ Ok u → is_high_surrogate u.0 ≡ true → (answer : Result Unit4 Stop)
    → beyond_unit u.1 ≡ answer → beyond_low (92 ∷ 117 ∷ x) answer ≡ Err stop → Completed (Gives beyond_character) (λ x. x) Always 48 (92 ∷ 117 ∷ x) stop
unfolding beyond_low
second_complete x u stop is high (Ok v) given e = go (is_low_surrogate v.0) refl e
  where
    go : (b : Bool) → is_low_surrogate v.0 ≡ b → beyond_low (92 ∷ 117 ∷ x) (Ok v) ≡ Err stop → Completed (Gives beyond_character) (λ x. x) Always 48 (92 ∷ 117 ∷ x) stop
    go true low e = let f : ◌≡◌ {A = Beyond} (Ok v.1) (Err stop) = rw low at e in absurd cc
    go false low e = replaced (92 ∷ 117 ∷ x) stop (rw low at e)
second_complete x u stop is high (Err s) given e = go (s.remaining == 0) refl e
  where
    go : (b : Bool) → (s.remaining == 0) ≡ b → beyond_low (92 ∷ 117 ∷ x) (Err s) ≡ Err stop → Completed (Gives beyond_character) (λ x. x) Always 48 (92 ∷ 117 ∷ x) stop
    go true end e =
        let f : ◌≡◌ {A = Beyond} (Err s) (Err stop) = rw end at e in
        let same : s ≡ stop = cc in
        let last : s.remaining ≡ 0 = grind (arith, nat_tests, end) in
        let four = four_of x u is in
        let short = unit_short u.1 s given in
        record {
          before = 92 ∷ 117 ∷ x;
          rest = [];
          split = ap (λ t. 92 ∷ 117 ∷ t) (sym (append-nil x));
          remaining = ap (λ s. s.remaining) (sym same) ∙ last;
          goes = inl ([], 92 ∷ 117 ∷ x, refl, inr (four.begun high, omega (arith, four.size), omega (arith, four.size, short, last)));
        }
    go false end e = replaced (92 ∷ 117 ∷ x) stop (rw end at e)

answered_complete : (x : List ℕ) (u : Unit4) (stop : Stop) → (beyond_hex x >>= first) ≡ Ok u → (b : Bool) → is_high_surrogate u.0 ≡ b → (c : Bool)
    → is_low_surrogate u.0 ≡ c → Answered (92 ∷ 117 ∷ x) u ≡ Err stop → Completed (Gives beyond_character) (λ x. x) Always 48 (92 ∷ 117 ∷ x) stop
answered_complete x u stop is true high c low e = second_complete x u stop is high (beyond_unit u.1) refl (rw high at e)
answered_complete x u stop is false high true low e = replaced (92 ∷ 117 ∷ x) stop (rw (high, low) at e)
answered_complete x u stop is false high false low e = let f : ◌≡◌ {A = Beyond} (Ok u.1) (Err stop) = rw (high, low) at e in absurd cc

units_complete : (x : List ℕ) (stop : Stop) → beyond_units (92 ∷ 117 ∷ x) ≡ Err stop → Completed (Gives beyond_character) (λ x. x) Always 48 (92 ∷ 117 ∷ x) stop
unfolding beyond_units beyond_unit beyond_word
units_complete x stop e = go (beyond_hex x >>= first) refl e
  where
    go : (answer : Result Unit4 Stop) → (beyond_hex x >>= first) ≡ answer → (answer >>= Answered (92 ∷ 117 ∷ x)) ≡ Err stop
        → Completed (Gives beyond_character) (λ x. x) Always 48 (92 ∷ 117 ∷ x) stop
    go (Err s) is e = let same : s ≡ stop = cc in digits_complete x stop (beyond_hex x) refl (is ∙ ap Err same)
    go (Ok u) is e = answered_complete x u stop is (is_high_surrogate u.0) refl (is_low_surrogate u.0) refl e

-- a short escape after a backslash
escaped : (b : ℕ) (rest : List ℕ) (stop : Stop) → (b == 92) ≡ true → ◌≡◌ {A = Beyond} (syntax_at rest) (Err stop)
    → Completed (Gives beyond_character) (λ x. x) Always 48 (b ∷ rest) stop
unfolding beyond_character beyond_escape plain
escaped b rest stop is e =
    let same : stop_at Syntax rest ≡ stop = cc in
    record {
      before = b ∷ [];
      rest = rest;
      split = refl;
      remaining = ap (λ s. s.remaining) (sym same);
      goes = inr (record { added = 110 ∷ []; plainly = refl; starts = λ other next. inl refl; passes = λ other next. rw is refl });
    }

escape_complete : (b c : ℕ) (text : List ℕ) (stop : Stop) → (b == 92) ≡ true → (x : Bool) → (c == 117) ≡ x → (y : Bool) → is_short_escape c ≡ y
    → beyond_character (b ∷ c ∷ text) ≡ Err stop → Completed (Gives beyond_character) (λ x. x) Always 48 (b ∷ c ∷ text) stop
unfolding beyond_character beyond_escape
escape_complete b c text stop is true u y short e = rw (same_number b 92 is, same_number c 117 u) (units_complete text stop (rw (same_number b 92 is, same_number c 117 u) at e))
escape_complete b c text stop is false u true short e = let f : ◌≡◌ {A = Beyond} (Ok text) (Err stop) = rw (is, u, short) at e in absurd cc
escape_complete b c text stop is false u false short e = escaped b (c ∷ text) stop is (rw (is, u, short) at e)

character_by : (b : ℕ) (text : List ℕ) (stop : Stop) (x : Bool) → (b == 92) ≡ x → (y : Bool) → nat_lt b 32 ≡ y → beyond_character (b ∷ text) ≡ Err stop
    → Completed (Gives beyond_character) (λ x. x) Always 48 (b ∷ text) stop
unfolding beyond_character beyond_escape
character_by b [] stop true is y low e = escaped b [] stop is (rw is at e)
character_by b (c ∷ text) stop true is y low e = escape_complete b c text stop is (c == 117) refl (is_short_escape c) refl e
character_by b text stop false is true low e = replaced (b ∷ text) stop (rw (is, low) at e)
character_by b text stop false is false low e = let f : ◌≡◌ {A = Beyond} (Ok text) (Err stop) = rw (is, low) at e in absurd cc

character_completes : Completes beyond_character Always 48
unfolding beyond_character
character_completes [] stop e = replaced [] stop e
character_completes (b ∷ text) stop e = character_by b text stop (b == 92) refl (nat_lt b 32) refl e

-- ---- strings and names

-- a character and the closing quotation mark
closed : (x other : List ℕ) → begins is_quote x ≡ false → beyond_character x ≡ Ok (34 ∷ other) → Items is_quote beyond_character x (Ok other)
closed x other free h m le =
    let p = character_piece x (34 ∷ other) h in
    let size : length x ≡ length (p.first ∷ (p.more ++ (34 ∷ other))) = ap length p.split in
    ap (λ t. beyond_items is_quote beyond_character m t) p.split
    ∙ items_on is_quote beyond_character p.first p.more (34 ∷ other) (Ok other) m (ap (begins is_quote) (sym p.split) ∙ free) (p.passes (34 ∷ other))
    (omega (arith, le, size)) (λ n le. items_close is_quote beyond_character 34 other n refl le)

no_character : beyond_character [] ≡ syntax_at []
unfolding beyond_character
no_character = refl

loop_step : (n : ℕ) (text : List ℕ) (stop : Stop) (answer : Beyond) → length text ≤ suc n → begins is_quote text ≡ false → beyond_character text ≡ answer
    → (answer >>= beyond_items is_quote beyond_character n) ≡ Err stop
    → ((mid : List ℕ) → length mid ≤ n → beyond_items is_quote beyond_character n mid ≡ Err stop → Completed (Items is_quote beyond_character) (λ x. x) Always 48 mid stop)
    → Completed (Items is_quote beyond_character) (λ x. x) Always 48 text stop
unfolding plain
loop_step n text stop (Err s) le free is e more =
    let same : s ≡ stop = cc in
    onward (Gives beyond_character) (Items is_quote beyond_character) (λ x. x) (λ x. x) Always Always 48 48 text [] text (34 ∷ []) stop refl refl
    (λ other next. tt) (λ x s. s) (λ x other s next h. closed x other (begins_start is_quote 48 text x refl free s) h)
    (character_completes text stop (is ∙ ap Err same))
loop_step n text stop (Ok mid) le free is e more =
    let p = character_piece text mid is in
    let size : length text ≡ suc (length (p.more ++ mid)) = ap length p.split in
    onward (Items is_quote beyond_character) (Items is_quote beyond_character) (λ x. x) (λ x. x) Always Always 48 48 text (p.first ∷ p.more) mid [] stop p.split refl
    (λ other next. tt) (starts_beyond 48 48 text (p.first ∷ p.more) mid p.split (some_byte p.first p.more))
    (λ x other s next h m le. items_on is_quote beyond_character p.first p.more x (Ok other) m (ap (begins is_quote) (sym p.split) ∙ free) (p.passes x) le h)
    (more mid (omega (arith, le, size, length-append p.more mid)) e)

loop_by : (n : ℕ) (text : List ℕ) (stop : Stop) (x : Bool) → length text ≤ suc n → begins is_quote text ≡ x
    → beyond_items is_quote beyond_character (suc n) text ≡ Err stop
    → ((mid : List ℕ) → length mid ≤ n → beyond_items is_quote beyond_character n mid ≡ Err stop → Completed (Items is_quote beyond_character) (λ x. x) Always 48 mid stop)
    → Completed (Items is_quote beyond_character) (λ x. x) Always 48 text stop
unfolding beyond_items
loop_by n text stop true le is e more = let f : ◌≡◌ {A = Beyond} (Ok (drop 1 text)) (Err stop) = rw is at e in absurd cc
loop_by n text stop false le is e more = loop_step n text stop (beyond_character text) le is refl (rw is at e) more

loop_completes : (n : ℕ) (text : List ℕ) (stop : Stop) → length text ≤ n → beyond_items is_quote beyond_character n text ≡ Err stop
    → Completed (Items is_quote beyond_character) (λ x. x) Always 48 text stop
unfolding beyond_items plain
loop_completes zero [] stop le e =
    instead (Items is_quote beyond_character) (λ x. x) Always 48 [] (34 ∷ []) Syntax stop refl (cc) (λ other next. closed (48 ∷ 34 ∷ other) other refl (zero_character (34 ∷ other)))
loop_completes zero (b ∷ text) stop le e = absurd (omega (arith, le))
loop_completes (suc n) text stop le e = loop_by n text stop (begins is_quote text) le refl e (λ mid le e. loop_completes n mid stop le e)

pub string_completes : Completes beyond_string Always 48
unfolding beyond_string
string_completes text stop e = onward (Items is_quote beyond_character) (Gives beyond_string) (λ x. x) (λ x. x) Always Always 48 48 text [] text [] stop refl plain_nil
    (λ other next. tt) (λ x s. s) (λ x other s next h. h (length x) (le_refl (length x))) (loop_completes (length text) text stop (le_refl (length text)) e)

no_string : (other : List ℕ) → beyond_string (34 ∷ other) ≡ Ok other
unfolding beyond_string beyond_items
no_string other = refl

no_word : (c : ℕ) → beyond_word (c ∷ []) [] ≡ syntax_at []
unfolding beyond_word
no_word c = refl

no_quoted : quoted [] ≡ syntax_at []
unfolding beyond_word
no_quoted = refl

just_colon : (other : List ℕ) → colon (58 ∷ other) ≡ Ok other
unfolding beyond_word beyond_all
just_colon other = refl

quoted_completes : Completes quoted Always 34
unfolding plain
quoted_completes = then_completes (beyond_word (codes "\"")) beyond_string (λ rest. Always) Always Always 48 34 (34 ∷ []) refl (no_word 34) (word_firm (codes "\""))
    (λ rest. tt) (λ rest x s. tt) (λ other next. tt) (λ other next. no_string other) (word_completes (codes "\"") 34 [] refl refl) string_completes

colon_completes : Completes colon Always 58
unfolding plain
colon_completes = white_completes (beyond_word (codes ":")) (λ x. x) Always 58 refl (word_completes (codes ":") 58 [] refl refl)

named_completes : Completes named Always 34
unfolding plain
named_completes = then_completes quoted colon (λ rest. Always) Always Always 58 34 (58 ∷ []) refl no_quoted (firm_piece quoted quoted_piece)
    (λ rest. tt) (λ rest x s. tt) (λ other next. tt) (λ other next. just_colon other) quoted_completes colon_completes

pub name_completes : Completes beyond_name Always 34
unfolding beyond_name
name_completes = white_completes named (λ x. x) Always 34 refl named_completes

pub no_name : beyond_name [] ≡ syntax_at []
unfolding beyond_name beyond_word beyond_all
no_name = refl
