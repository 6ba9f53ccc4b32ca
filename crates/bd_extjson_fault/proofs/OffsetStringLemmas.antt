-- Where a string stops.
use Rattle.std.proofs.Common.{◌≡◌, ◌≤◌, ◌+◌, ◌*◌, ◌==◌, ◌∙◌, ◌++◌, sym, refl, ◌||◌, inl, inr, if◌then◌else◌, ℕ, zero, suc, Bool, true, false, List, [], ◌∷◌, length, drop, ap, Ok, Err, append_assoc, length-append, le_refl, arith}
use Rattle.std.specs.Prelude.{Result, codes, nat_lt}
use Rattle.std.specs.Char.{digit_value, is_digit}
use Rattle.std.proofs.lemmas.{Bool.Decides.nat_tests}
use Rattle.json.specs.Text.{is_high_surrogate, is_low_surrogate}
use Rattle.bd_extjson_fault.specs.declared.skip.Stop.{Stop}
use Rattle.bd_extjson_fault.specs.declared.skip.StopKind.TheVariants.{Syntax}
use Rattle.bd_extjson_fault.specs.FaultOffset.{begins_surrogate}
use Rattle.bd_extjson_fault.specs.JsonSyntax.{Beyond, ◌>>=◌, syntax_at, begins, beyond_white, beyond_word, beyond_hex, beyond_unit, beyond_low, beyond_units, is_short_escape, beyond_escape, beyond_character, beyond_items, beyond_string, beyond_name}
use Rattle.bd_extjson_fault.proofs.OffsetLemmas.{begins_same, Gives, Decided, Passed, Piece, Pieces, Always, Firms, Errs, lift, there, here, at_end, stop_at, loose, bind_ok, then_errs, then_piece, firm_piece, white_errs, white_firm, word_errs, word_firm, word_piece, word_split}

-- ---- escapes

hex_errs : {B : Type 0} (k : (ℕ × List ℕ) → Result B Stop) → ((v : ℕ) → Errs (λ x. k (v, x))) → Errs (λ x. beyond_hex x >>= k)
unfolding beyond_hex
hex_errs k next [] stop e = at_end (Gives (λ x. beyond_hex x >>= k)) Syntax [] stop e
hex_errs k next (b ∷ text) stop e = go (is_digit b 16) refl e
  where
    go : (x : Bool) → is_digit b 16 ≡ x → (beyond_hex (b ∷ text) >>= k) ≡ Err stop → Decided (Gives (λ x. beyond_hex x >>= k)) (b ∷ text) stop
    go true is e = lift (Gives (λ x. k (digit_value b, x))) (Gives (λ x. beyond_hex x >>= k)) (b ∷ text) (b ∷ []) text stop refl
        (λ other s same h. rw is h) (next (digit_value b) text stop (rw is at e))
    go false is e = here (Gives (λ x. beyond_hex x >>= k)) Syntax b text stop (rw is at e) (λ other. rw is refl)

abbrev pub Unit4 : Type 0
Unit4 = ℕ × List ℕ

abbrev pub fourth : ℕ → ℕ → ℕ → Unit4 → Result Unit4 Stop
fourth a b c d = Ok (a * 4096 + b * 256 + c * 16 + d.0, d.1)

abbrev pub third : ℕ → ℕ → Unit4 → Result Unit4 Stop
third a b c = beyond_hex c.1 >>= fourth a b c.0

abbrev pub second : ℕ → Unit4 → Result Unit4 Stop
second a b = beyond_hex b.1 >>= third a b.0

abbrev pub first : Unit4 → Result Unit4 Stop
first a = beyond_hex a.1 >>= second a.0

no_err : (a b c d : ℕ) → Errs (λ x. fourth a b c (d, x))
no_err a b c d text stop e = absurd cc

four_errs : Errs (λ x. beyond_hex x >>= first)
four_errs = hex_errs first (λ a. hex_errs (second a) (λ b. hex_errs (third a b) (λ c. hex_errs (fourth a b c) (λ d. no_err a b c d))))

unit_errs : Errs beyond_unit
unfolding beyond_unit
unit_errs = then_errs (beyond_word (codes "\\u")) (λ x. beyond_hex x >>= first) (word_errs (codes "\\u")) (loose (beyond_word (codes "\\u")) (word_firm (codes "\\u"))) four_errs

pub record HexOf (text : List ℕ) (u : Unit4) : Type 0 where
  pub byte : ℕ
  pub split : text ≡ byte ∷ u.1
  pub passes : (other : List ℕ) → beyond_hex (byte ∷ other) ≡ Ok (u.0, other)

pub hex_of : (text : List ℕ) (u : Unit4) → beyond_hex text ≡ Ok u → HexOf text u
unfolding beyond_hex
hex_of [] u e = absurd cc
hex_of (b ∷ text) u e = go (is_digit b 16) refl e
  where
    go : (x : Bool) → is_digit b 16 ≡ x → beyond_hex (b ∷ text) ≡ Ok u → HexOf (b ∷ text) u
    go true is e =
        let f : ◌≡◌ {A = Result Unit4 Stop} (Ok (digit_value b, text)) (Ok u) = rw is at e in
        let same : ◌≡◌ {A = Unit4} (digit_value b, text) u = cc in
        record { byte = b; split = ap (λ x. b ∷ x.1) same; passes = λ other. rw is (ap (λ x. Ok (x.0, other)) same) }
    go false is e = let f : ◌≡◌ {A = Result Unit4 Stop} (syntax_at (b ∷ text)) (Ok u) = rw is at e in absurd cc

-- the bytes of an escape of four digits, whatever follows
pub record UnitOf (text : List ℕ) (u : ℕ × List ℕ) : Type 0 where
  pub digits : List ℕ
  pub split : text ≡ 92 ∷ 117 ∷ (digits ++ u.1)
  pub passes : (other : List ℕ) → beyond_unit (92 ∷ 117 ∷ (digits ++ other)) ≡ Ok (u.0, other)

pub unit_of : (text : List ℕ) (u : ℕ × List ℕ) → beyond_unit text ≡ Ok u → UnitOf text u
unfolding beyond_unit beyond_word
unit_of text u e =
    let w = bind_ok (beyond_word (codes "\\u") text) (λ x. beyond_hex x >>= first) u e in
    let a = bind_ok (beyond_hex w.0) first u w.2 in
    let b = bind_ok (beyond_hex (a.0).1) (second (a.0).0) u a.2 in
    let c = bind_ok (beyond_hex (b.0).1) (third (a.0).0 (b.0).0) u b.2 in
    let d = bind_ok (beyond_hex (c.0).1) (fourth (a.0).0 (b.0).0 (c.0).0) u c.2 in
    let ha = hex_of w.0 a.0 a.1 in
    let hb = hex_of (a.0).1 b.0 b.1 in
    let hc = hex_of (b.0).1 c.0 c.1 in
    let hd = hex_of (c.0).1 d.0 d.1 in
    let all : ◌≡◌ {A = Result Unit4 Stop} (Ok ((a.0).0 * 4096 + (b.0).0 * 256 + (c.0).0 * 16 + (d.0).0, (d.0).1)) (Ok u) = d.2 in
    let same : ◌≡◌ {A = Unit4} ((a.0).0 * 4096 + (b.0).0 * 256 + (c.0).0 * 16 + (d.0).0, (d.0).1) u = cc in
    record {
      digits = ha.byte ∷ hb.byte ∷ hc.byte ∷ hd.byte ∷ [];
      split = word_split (codes "\\u") text w.0 w.1 ∙ ap (λ x. 92 ∷ 117 ∷ x) (ha.split ∙ ap (λ x. ha.byte ∷ x)
          (hb.split ∙ ap (λ x. hb.byte ∷ x) (hc.split ∙ ap (λ x. hc.byte ∷ x) (hd.split ∙ ap (λ x. hd.byte ∷ x.1) same))));
      passes = λ other. rw (ha.passes (hb.byte ∷ hc.byte ∷ hd.byte ∷ other), hb.passes (hc.byte ∷ hd.byte ∷ other), hc.passes (hd.byte ∷ other), hd.passes other)
          (ap (λ x. Ok (x.0, other)) same);
    }

some_length : (b : ℕ) (text : List ℕ) → (length (b ∷ text) == 0) ≡ false
some_length b text = grind (arith, nat_tests)

-- a lone surrogate, which some bytes after it make one
lone : (x : List ℕ) (u : ℕ × List ℕ) (stop : Stop) (more rest : List ℕ) (p : UnitOf (92 ∷ 117 ∷ x) u) → beyond_unit (92 ∷ 117 ∷ x) ≡ Ok u
    → u.1 ≡ more ++ rest → is_high_surrogate u.0 || is_low_surrogate u.0 ≡ true → ◌≡◌ {A = Beyond} (syntax_at (92 ∷ 117 ∷ x)) (Err stop)
    → ((other : List ℕ) → beyond_units (92 ∷ 117 ∷ (p.digits ++ (more ++ other))) ≡ syntax_at (92 ∷ 117 ∷ (p.digits ++ (more ++ other))))
    → Decided (Gives beyond_character) (92 ∷ 117 ∷ x) stop
unfolding beyond_character beyond_escape
lone x u stop more rest p is after surrogate e stays =
    let same : stop_at Syntax (92 ∷ 117 ∷ x) ≡ stop = cc in
    let split : ◌≡◌ {A = List ℕ} (92 ∷ 117 ∷ x) (92 ∷ 117 ∷ ((p.digits ++ more) ++ rest)) =
    p.split ∙ ap (λ t. 92 ∷ 117 ∷ (p.digits ++ t)) after ∙ ap (λ t. 92 ∷ 117 ∷ t) (sym (append_assoc p.digits more rest)) in
    let begins : begins_surrogate (92 ∷ 117 ∷ x) ≡ true = rw is surrogate in
    inr (record {
      before = [];
      first = 92;
      more = 117 ∷ (p.digits ++ more);
      rest = rest;
      kind = Syntax;
      split = split;
      reported = sym same ∙ ap (stop_at Syntax) split;
      short = inr (ap begins_surrogate (sym split) ∙ begins);
      stays = λ other. rw (append_assoc p.digits more other) (stays other);
    })

pair_err : (x : List ℕ) (u : ℕ × List ℕ) (stop : Stop) → beyond_unit (92 ∷ 117 ∷ x) ≡ Ok u → is_high_surrogate u.0 ≡ true
    → (answer : Result (ℕ × List ℕ) Stop) → beyond_unit u.1 ≡ answer → beyond_low (92 ∷ 117 ∷ x) answer ≡ Err stop
    → Decided (Gives beyond_character) (92 ∷ 117 ∷ x) stop
unfolding beyond_low beyond_units
pair_err x u stop is high (Ok v) second e = go (is_low_surrogate v.0) refl e
  where
    p : UnitOf (92 ∷ 117 ∷ x) u
    p = unit_of (92 ∷ 117 ∷ x) u is

    q : UnitOf u.1 v
    q = unit_of u.1 v second

    go : (b : Bool) → is_low_surrogate v.0 ≡ b → beyond_low (92 ∷ 117 ∷ x) (Ok v) ≡ Err stop → Decided (Gives beyond_character) (92 ∷ 117 ∷ x) stop
    go true low e = let f : ◌≡◌ {A = Beyond} (Ok v.1) (Err stop) = rw low at e in absurd cc
    go false low e = lone x u stop (92 ∷ 117 ∷ q.digits) v.1 p is q.split (rw high refl) (rw low at e)
        (λ other. rw (p.passes (92 ∷ 117 ∷ (q.digits ++ other)), high, q.passes other, low) refl)
pair_err x u stop is high (Err s) second e = go (s.remaining == 0) refl e (unit_errs u.1 s second)
  where
    p : UnitOf (92 ∷ 117 ∷ x) u
    p = unit_of (92 ∷ 117 ∷ x) u is

    go : (b : Bool) → (s.remaining == 0) ≡ b → beyond_low (92 ∷ 117 ∷ x) (Err s) ≡ Err stop → Decided (Gives beyond_unit) u.1 s
        → Decided (Gives beyond_character) (92 ∷ 117 ∷ x) stop
    go true end e d =
        let f : ◌≡◌ {A = Beyond} (Err s) (Err stop) = rw end at e in
        let same : s ≡ stop = cc in
        let last : s.remaining ≡ 0 = grind (arith, nat_tests, end) in
        inl (ap (λ s. s.remaining) (sym same) ∙ last)
    go false end e (inl last) = let f : (s.remaining == 0) ≡ true = rw last refl in absurd cc
    go false end e (inr d) = lone x u stop (d.before ++ (d.first ∷ d.more)) d.rest p is
        (d.split ∙ sym (append_assoc d.before (d.first ∷ d.more) d.rest)) (rw high refl) (rw end at e)
        (λ other. rw (append_assoc d.before (d.first ∷ d.more) other, p.passes (d.before ++ (d.first ∷ (d.more ++ other))), high, d.stays other, some_length d.first (d.more ++ other)) refl)

abbrev pub Answered : List ℕ → ℕ × List ℕ → Beyond
Answered from u = if is_high_surrogate u.0 then beyond_low from (beyond_unit u.1) else (if is_low_surrogate u.0 then syntax_at from else Ok u.1)

answered_err : (x : List ℕ) (u : ℕ × List ℕ) (stop : Stop) → beyond_unit (92 ∷ 117 ∷ x) ≡ Ok u → (b : Bool) → is_high_surrogate u.0 ≡ b
    → (c : Bool) → is_low_surrogate u.0 ≡ c → Answered (92 ∷ 117 ∷ x) u ≡ Err stop → Decided (Gives beyond_character) (92 ∷ 117 ∷ x) stop
unfolding beyond_units
answered_err x u stop is true high c low e = pair_err x u stop is high (beyond_unit u.1) refl (rw high at e)
answered_err x u stop is false high true low e =
    let p = unit_of (92 ∷ 117 ∷ x) u is in
    lone x u stop [] u.1 p is refl (rw (high, low) refl) (rw (high, low) at e) (λ other. rw (p.passes other, high, low) refl)
answered_err x u stop is false high false low e = let f : ◌≡◌ {A = Beyond} (Ok u.1) (Err stop) = rw (high, low) at e in absurd cc

-- a digit that is none, in the escape
digits_err : (x : List ℕ) (stop : Stop) → (beyond_hex x >>= first) ≡ Err stop → Decided (Gives beyond_character) (92 ∷ 117 ∷ x) stop
unfolding beyond_unit beyond_word beyond_units beyond_character beyond_escape
digits_err x stop e = lift (Gives (λ x. beyond_hex x >>= first)) (Gives beyond_character) (92 ∷ 117 ∷ x) (92 ∷ 117 ∷ []) x stop refl
    (λ other s same h. rw h refl) (four_errs x stop e)

units_err : (x : List ℕ) (stop : Stop) → beyond_units (92 ∷ 117 ∷ x) ≡ Err stop → Decided (Gives beyond_character) (92 ∷ 117 ∷ x) stop
unfolding beyond_units beyond_unit beyond_word
units_err x stop e = go (beyond_unit (92 ∷ 117 ∷ x)) refl e
  where
    go : (answer : Result (ℕ × List ℕ) Stop) → beyond_unit (92 ∷ 117 ∷ x) ≡ answer → beyond_units (92 ∷ 117 ∷ x) ≡ Err stop
        → Decided (Gives beyond_character) (92 ∷ 117 ∷ x) stop
    go (Err s) is e =
        let f : ◌≡◌ {A = Beyond} (Err s) (Err stop) = rw is at e in
        let same : s ≡ stop = cc in
        digits_err x stop (is ∙ ap Err same)
    go (Ok u) is e = answered_err x u stop is (is_high_surrogate u.0) refl (is_low_surrogate u.0) refl (rw is at e)

-- ---- characters

pub same_number : (b c : ℕ) → (b == c) ≡ true → b ≡ c
same_number b c is = grind (arith, nat_tests, is)

escape_err : (b c : ℕ) (text : List ℕ) (stop : Stop) → (b == 92) ≡ true → (x : Bool) → (c == 117) ≡ x → (y : Bool) → is_short_escape c ≡ y
    → beyond_character (b ∷ c ∷ text) ≡ Err stop → Decided (Gives beyond_character) (b ∷ c ∷ text) stop
unfolding beyond_character beyond_escape
escape_err b c text stop is true u y short e = rw (same_number b 92 is, same_number c 117 u) (units_err text stop (rw (same_number b 92 is, same_number c 117 u) at e))
escape_err b c text stop is false u true short e = let f : ◌≡◌ {A = Beyond} (Ok text) (Err stop) = rw (is, u, short) at e in absurd cc
escape_err b c text stop is false u false short e = there (Gives beyond_character) Syntax (b ∷ []) c text stop (rw (is, u, short) at e) (λ other. rw (is, u, short) refl)

plain_err : (b : ℕ) (text : List ℕ) (stop : Stop) → (b == 92) ≡ false → (x : Bool) → nat_lt b 32 ≡ x → beyond_character (b ∷ text) ≡ Err stop
    → Decided (Gives beyond_character) (b ∷ text) stop
unfolding beyond_character
plain_err b text stop is true low e = here (Gives beyond_character) Syntax b text stop (rw (is, low) at e) (λ other. rw (is, low) refl)
plain_err b text stop is false low e = let f : ◌≡◌ {A = Beyond} (Ok text) (Err stop) = rw (is, low) at e in absurd cc

character_by : (b : ℕ) (text : List ℕ) (stop : Stop) (x : Bool) → (b == 92) ≡ x → beyond_character (b ∷ text) ≡ Err stop
    → Decided (Gives beyond_character) (b ∷ text) stop
unfolding beyond_character beyond_escape
character_by b [] stop true is e = at_end (Gives beyond_character) Syntax (b ∷ []) stop (rw is at e)
character_by b (c ∷ text) stop true is e = escape_err b c text stop is (c == 117) refl (is_short_escape c) refl e
character_by b text stop false is e = plain_err b text stop is (nat_lt b 32) refl e

character_errs : Errs beyond_character
unfolding beyond_character
character_errs [] stop e = at_end (Gives beyond_character) Syntax [] stop e
character_errs (b ∷ text) stop e = character_by b text stop (b == 92) refl e

pair_piece : (x rest : List ℕ) (u : ℕ × List ℕ) → beyond_unit (92 ∷ 117 ∷ x) ≡ Ok u → is_high_surrogate u.0 ≡ true → (answer : Result (ℕ × List ℕ) Stop)
    → beyond_unit u.1 ≡ answer → beyond_low (92 ∷ 117 ∷ x) answer ≡ Ok rest → Piece beyond_character (λ x. x) (92 ∷ 117 ∷ x) rest
unfolding beyond_low beyond_units beyond_character beyond_escape
pair_piece x rest u is high (Ok v) second e = go (is_low_surrogate v.0) refl e
  where
    go : (b : Bool) → is_low_surrogate v.0 ≡ b → beyond_low (92 ∷ 117 ∷ x) (Ok v) ≡ Ok rest → Piece beyond_character (λ x. x) (92 ∷ 117 ∷ x) rest
    go true low e =
        let p = unit_of (92 ∷ 117 ∷ x) u is in
        let q = unit_of u.1 v second in
        let f : ◌≡◌ {A = Beyond} (Ok v.1) (Ok rest) = rw low at e in
        let same : v.1 ≡ rest = cc in
        record {
          first = 92;
          more = 117 ∷ (p.digits ++ (92 ∷ 117 ∷ q.digits));
          split = p.split ∙ ap (λ t. 92 ∷ 117 ∷ (p.digits ++ t)) (q.split ∙ ap (λ t. 92 ∷ 117 ∷ (q.digits ++ t)) same)
              ∙ ap (λ t. 92 ∷ 117 ∷ t) (sym (append_assoc p.digits (92 ∷ 117 ∷ q.digits) rest));
          passes = λ other. rw (append_assoc p.digits (92 ∷ 117 ∷ q.digits) other, p.passes (92 ∷ 117 ∷ (q.digits ++ other)), high, q.passes other, low) refl;
        }
    go false low e = let f : ◌≡◌ {A = Beyond} (syntax_at (92 ∷ 117 ∷ x)) (Ok rest) = rw low at e in absurd cc
pair_piece x rest u is high (Err s) second e = go (s.remaining == 0) refl e
  where
    go : (b : Bool) → (s.remaining == 0) ≡ b → beyond_low (92 ∷ 117 ∷ x) (Err s) ≡ Ok rest → Piece beyond_character (λ x. x) (92 ∷ 117 ∷ x) rest
    go true end e = let f : ◌≡◌ {A = Beyond} (Err s) (Ok rest) = rw end at e in absurd cc
    go false end e = let f : ◌≡◌ {A = Beyond} (syntax_at (92 ∷ 117 ∷ x)) (Ok rest) = rw end at e in absurd cc

answered_piece : (x rest : List ℕ) (u : ℕ × List ℕ) → beyond_unit (92 ∷ 117 ∷ x) ≡ Ok u → (b : Bool) → is_high_surrogate u.0 ≡ b
    → (c : Bool) → is_low_surrogate u.0 ≡ c → Answered (92 ∷ 117 ∷ x) u ≡ Ok rest → Piece beyond_character (λ x. x) (92 ∷ 117 ∷ x) rest
unfolding beyond_units beyond_character beyond_escape
answered_piece x rest u is true high c low e = pair_piece x rest u is high (beyond_unit u.1) refl (rw high at e)
answered_piece x rest u is false high true low e = let f : ◌≡◌ {A = Beyond} (syntax_at (92 ∷ 117 ∷ x)) (Ok rest) = rw (high, low) at e in absurd cc
answered_piece x rest u is false high false low e =
    let p = unit_of (92 ∷ 117 ∷ x) u is in
    let f : ◌≡◌ {A = Beyond} (Ok u.1) (Ok rest) = rw (high, low) at e in
    let same : u.1 ≡ rest = cc in
    record {
      first = 92;
      more = 117 ∷ p.digits;
      split = p.split ∙ ap (λ t. 92 ∷ 117 ∷ (p.digits ++ t)) same;
      passes = λ other. rw (p.passes other, high, low) refl;
    }

units_piece : (x rest : List ℕ) → beyond_units (92 ∷ 117 ∷ x) ≡ Ok rest → Piece beyond_character (λ x. x) (92 ∷ 117 ∷ x) rest
unfolding beyond_units
units_piece x rest e =
    let u = bind_ok (beyond_unit (92 ∷ 117 ∷ x)) (Answered (92 ∷ 117 ∷ x)) rest e in
    answered_piece x rest u.0 u.1 (is_high_surrogate (u.0).0) refl (is_low_surrogate (u.0).0) refl u.2

escape_piece : (b c : ℕ) (text rest : List ℕ) → (b == 92) ≡ true → (x : Bool) → (c == 117) ≡ x → (y : Bool) → is_short_escape c ≡ y
    → beyond_character (b ∷ c ∷ text) ≡ Ok rest → Piece beyond_character (λ x. x) (b ∷ c ∷ text) rest
unfolding beyond_character beyond_escape
escape_piece b c text rest is true u y short e = rw (same_number b 92 is, same_number c 117 u) (units_piece text rest (rw (same_number b 92 is, same_number c 117 u) at e))
escape_piece b c text rest is false u true short e =
    let f : ◌≡◌ {A = Beyond} (Ok text) (Ok rest) = rw (is, u, short) at e in
    let same : text ≡ rest = cc in
    record { first = b; more = c ∷ []; split = ap (λ t. b ∷ c ∷ t) same; passes = λ other. rw (is, u, short) refl }
escape_piece b c text rest is false u false short e = let f : ◌≡◌ {A = Beyond} (syntax_at (c ∷ text)) (Ok rest) = rw (is, u, short) at e in absurd cc

character_piece_by : (b : ℕ) (text rest : List ℕ) (x : Bool) → (b == 92) ≡ x → (y : Bool) → nat_lt b 32 ≡ y → beyond_character (b ∷ text) ≡ Ok rest
    → Piece beyond_character (λ x. x) (b ∷ text) rest
unfolding beyond_character beyond_escape
character_piece_by b [] rest true is y low e = let f : ◌≡◌ {A = Beyond} (syntax_at []) (Ok rest) = rw is at e in absurd cc
character_piece_by b (c ∷ text) rest true is y low e = escape_piece b c text rest is (c == 117) refl (is_short_escape c) refl e
character_piece_by b text rest false is true low e = let f : ◌≡◌ {A = Beyond} (syntax_at (b ∷ text)) (Ok rest) = rw (is, low) at e in absurd cc
character_piece_by b text rest false is false low e =
    let f : ◌≡◌ {A = Beyond} (Ok text) (Ok rest) = rw (is, low) at e in
    let same : text ≡ rest = cc in
    record { first = b; more = []; split = ap (λ t. b ∷ t) same; passes = λ other. rw (is, low) refl }

pub character_piece : Pieces beyond_character
unfolding beyond_character
character_piece [] rest e = absurd cc
character_piece (b ∷ text) rest e = character_piece_by b text rest (b == 92) refl (nat_lt b 32) refl e

-- ---- items up to a closing byte

-- what items give with enough steps
abbrev pub Items : (ℕ → Bool) → (List ℕ → Beyond) → List ℕ → Beyond → Type 0
Items closes item text answer = (n : ℕ) → length text ≤ n → beyond_items closes item n text ≡ answer

items_stop : (closes : ℕ → Bool) (item : List ℕ → Beyond) (text : List ℕ) (stop : Stop) (n : ℕ) → item [] ≡ syntax_at [] → begins closes text ≡ false
    → length text ≤ n → item text ≡ Err stop → beyond_items closes item n text ≡ Err stop
unfolding beyond_items
items_stop closes item [] stop zero none free le e = sym none ∙ e
items_stop closes item (b ∷ text) stop zero none free le e = absurd (omega (arith, le))
items_stop closes item text stop (suc n) none free le e = rw (free, e) refl

pub items_on : (closes : ℕ → Bool) (item : List ℕ → Beyond) (first : ℕ) (more other : List ℕ) (answer : Beyond) (n : ℕ) → closes first ≡ false
    → item (first ∷ (more ++ other)) ≡ Ok other → length (first ∷ (more ++ other)) ≤ n → Items closes item other answer
    → beyond_items closes item n (first ∷ (more ++ other)) ≡ answer
unfolding beyond_items
items_on closes item first more other answer zero free passes le h = absurd (omega (arith, le))
items_on closes item first more other answer (suc n) free passes le h = rw (free, passes) (h n (omega (arith, le, length-append more other)))

items_step : (closes : ℕ → Bool) (item : List ℕ → Beyond) (n : ℕ) (text : List ℕ) (stop : Stop) (answer : Beyond) → item [] ≡ syntax_at [] → Errs item → Pieces item
    → length text ≤ suc n → begins closes text ≡ false → item text ≡ answer → (answer >>= beyond_items closes item n) ≡ Err stop
    → ((mid : List ℕ) → length mid ≤ n → beyond_items closes item n mid ≡ Err stop → Decided (Items closes item) mid stop)
    → Decided (Items closes item) text stop
items_step closes item n text stop (Err s) none fails passes le free is e more =
    let same : s ≡ stop = cc in
    lift (Gives item) (Items closes item) text [] text stop refl
    (λ other s same h m le. items_stop closes item other s m none (begins_same closes other text same ∙ free) le h) (fails text stop (is ∙ ap Err same))
items_step closes item n text stop (Ok mid) none fails passes le free is e more =
    let p = passes text mid is in
    let size : length text ≡ suc (length (p.more ++ mid)) = ap length p.split in
    lift (Items closes item) (Items closes item) text (p.first ∷ p.more) mid stop p.split
    (λ other s same h m le. items_on closes item p.first p.more other (Err s) m (ap (begins closes) (sym p.split) ∙ free) (p.passes other) le h)
    (more mid (omega (arith, le, size, length-append p.more mid)) e)

items_err_by : (closes : ℕ → Bool) (item : List ℕ → Beyond) (n : ℕ) (text : List ℕ) (stop : Stop) (x : Bool) → item [] ≡ syntax_at [] → Errs item → Pieces item
    → length text ≤ suc n → begins closes text ≡ x → beyond_items closes item (suc n) text ≡ Err stop
    → ((mid : List ℕ) → length mid ≤ n → beyond_items closes item n mid ≡ Err stop → Decided (Items closes item) mid stop)
    → Decided (Items closes item) text stop
unfolding beyond_items
items_err_by closes item n text stop true none fails passes le is e more = let f : ◌≡◌ {A = Beyond} (Ok (drop 1 text)) (Err stop) = rw is at e in absurd cc
items_err_by closes item n text stop false none fails passes le is e more =
    items_step closes item n text stop (item text) none fails passes le is refl (rw is at e) more

items_err : (closes : ℕ → Bool) (item : List ℕ → Beyond) (n : ℕ) (text : List ℕ) (stop : Stop) → item [] ≡ syntax_at [] → Errs item → Pieces item
    → length text ≤ n → beyond_items closes item n text ≡ Err stop → Decided (Items closes item) text stop
unfolding beyond_items
items_err closes item zero [] stop none fails passes le e = at_end (Items closes item) Syntax [] stop e
items_err closes item zero (b ∷ text) stop none fails passes le e = absurd (omega (arith, le))
items_err closes item (suc n) text stop none fails passes le e = items_err_by closes item n text stop (begins closes text) none fails passes le refl e
    (λ mid le e. items_err closes item n mid stop none fails passes le e)

pub items_close : (closes : ℕ → Bool) (item : List ℕ → Beyond) (b : ℕ) (text : List ℕ) (n : ℕ) → closes b ≡ true → length (b ∷ text) ≤ n
    → beyond_items closes item n (b ∷ text) ≡ Ok text
unfolding beyond_items
items_close closes item b text zero is le = absurd (omega (arith, le))
items_close closes item b text (suc n) is le = rw is refl

items_go : (closes : ℕ → Bool) (item : List ℕ → Beyond) (n : ℕ) (text rest : List ℕ) (answer : Beyond) → Pieces item → begins closes text ≡ false
    → item text ≡ answer → (answer >>= beyond_items closes item n) ≡ Ok rest
    → ((mid : List ℕ) → beyond_items closes item n mid ≡ Ok rest → Passed (Items closes item) (λ x. x) Always mid rest)
    → Passed (Items closes item) (λ x. x) Always text rest
items_go closes item n text rest (Err s) passes free is e more = absurd cc
items_go closes item n text rest (Ok mid) passes free is e more =
    let p = passes text mid is in
    let q = more mid e in
    record {
      taken = (p.first ∷ p.more) ++ q.taken;
      split = p.split ∙ ap (λ x. p.first ∷ (p.more ++ x)) q.split ∙ ap (λ x. p.first ∷ x) (sym (append_assoc p.more q.taken rest));
      passes = λ other always m le. rw (append_assoc p.more q.taken other)
          (items_on closes item p.first p.more (q.taken ++ other) (Ok other) m (ap (begins closes) (sym p.split) ∙ free) (p.passes (q.taken ++ other))
          (rw (append_assoc p.more q.taken other) at le) (q.passes other tt));
    }

items_ok_by : (closes : ℕ → Bool) (item : List ℕ → Beyond) (n : ℕ) (text rest : List ℕ) (x : Bool) → Pieces item → begins closes text ≡ x
    → beyond_items closes item (suc n) text ≡ Ok rest
    → ((mid : List ℕ) → beyond_items closes item n mid ≡ Ok rest → Passed (Items closes item) (λ x. x) Always mid rest)
    → Passed (Items closes item) (λ x. x) Always text rest
unfolding beyond_items
items_ok_by closes item n [] rest true passes is e more = absurd cc
items_ok_by closes item n (b ∷ text) rest true passes is e more =
    let f : ◌≡◌ {A = Beyond} (Ok text) (Ok rest) = rw is at e in
    let same : text ≡ rest = cc in
    record { taken = b ∷ []; split = ap (λ t. b ∷ t) same; passes = λ other always m le. items_close closes item b other m is le }
items_ok_by closes item n text rest false passes is e more = items_go closes item n text rest (item text) passes is refl (rw is at e) more

items_ok : (closes : ℕ → Bool) (item : List ℕ → Beyond) (n : ℕ) (text rest : List ℕ) → Pieces item → beyond_items closes item n text ≡ Ok rest
    → Passed (Items closes item) (λ x. x) Always text rest
unfolding beyond_items
items_ok closes item zero text rest passes e = absurd cc
items_ok closes item (suc n) text rest passes e = items_ok_by closes item n text rest (begins closes text) passes refl e
    (λ mid e. items_ok closes item n mid rest passes e)

-- ---- strings and names

-- whether a byte is a quotation mark
abbrev pub is_quote : ℕ → Bool
is_quote b = b == 34

no_character : beyond_character [] ≡ syntax_at []
unfolding beyond_character
no_character = refl

pub string_errs : Errs beyond_string
unfolding beyond_string
string_errs text stop e = lift (Items is_quote beyond_character) (Gives beyond_string) text [] text stop refl (λ other s same h. h (length other) (le_refl (length other)))
    (items_err is_quote beyond_character (length text) text stop no_character character_errs character_piece (le_refl (length text)) e)

pub string_firm : Firms beyond_string
unfolding beyond_string
string_firm text rest e =
    let p = items_ok is_quote beyond_character (length text) text rest character_piece e in
    record { taken = p.taken; split = p.split; passes = λ other always. p.passes other tt (length (p.taken ++ other)) (le_refl (length (p.taken ++ other))) }

-- a string with its quotation marks
abbrev pub quoted : List ℕ → Beyond
quoted text = beyond_word (codes "\"") text >>= beyond_string

-- a colon, with white space around it
abbrev pub colon : List ℕ → Beyond
colon text = beyond_word (codes ":") (beyond_white text)

-- a name and what follows it
abbrev pub named : List ℕ → Beyond
named text = quoted text >>= colon

quoted_errs : Errs quoted
quoted_errs = then_errs (beyond_word (codes "\"")) beyond_string (word_errs (codes "\"")) (loose (beyond_word (codes "\"")) (word_firm (codes "\""))) string_errs

pub quoted_piece : Pieces quoted
quoted_piece = then_piece (beyond_word (codes "\"")) beyond_string (word_piece 34 []) string_firm

colon_errs : Errs colon
colon_errs = white_errs (beyond_word (codes ":")) (word_errs (codes ":"))

colon_firm : Firms colon
colon_firm = white_firm (beyond_word (codes ":")) (word_piece 58 [])

pub name_errs : Errs beyond_name
unfolding beyond_name
name_errs = white_errs named (then_errs quoted colon quoted_errs (loose quoted (firm_piece quoted quoted_piece)) colon_errs)

-- a name with its colon is firm
pub name_firm : Firms beyond_name
unfolding beyond_name
name_firm = white_firm named (then_piece quoted colon quoted_piece colon_firm)
