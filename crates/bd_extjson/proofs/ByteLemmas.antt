-- What the lexer of the kit makes of a byte, of white space, and of a text that is split.
use Rattle.std.proofs.Common.{◌≡◌, ◌<◌, ◌==◌, ◌||◌, ◌&&◌, ◌+◌, refl, sym, ap, ◌∙◌, subst, not, ℕ, Bool, true, false, List, [], ◌∷◌, ◌++◌, length, get_or}
use Rattle.std.proofs.Common.{arith}
use Rattle.std.proofs.Common.{append_assoc, append-nil, length-append}
use Rattle.std.specs.Str.{IsCharBoundary}
use Rattle.std.specs.Prelude.{IsUtf8, if◌then◌else◌}
use Rattle.std.proofs.Math.Seq.{take-append_seam, drop-append_seam}
use Rattle.std.proofs.lemmas.Bool.{eqb-true, false≢true, true≢false}
use Rattle.std.proofs.lemmas.Bool.Decides.{nat_tests}
use Rattle.std.proofs.lemmas.Str.{IsUtf8-append, IsUtf8-nil, IsUtf8-take, IsUtf8-drop, IsCharBoundary-after_ascii, IsCharBoundary-before_ascii, IsCharBoundary-end}
use Rattle.json.specs.Word.{is_operator, is_space, ends_word}
use Rattle.json.specs.Token.{Token}
use Rattle.json.specs.Lex.{space, other, class, between, lex, Place, punctuate, begins_colon}
use Rattle.bd_extjson_fault.specs.JsonSyntax.{begins, beyond_all, beyond_white, is_white}

-- the tokens of a text from a place on
abbrev pub tokens_from : Place → List ℕ → List Token
tokens_from p text = punctuate p (lex between text)

-- ---- a byte, by what it means to the lexer

-- P holds of a byte if it holds of one byte, and of the byte if it is not that one
pub unless : (P : ℕ → Type 0) (n x : ℕ) → P n → ((x == n) ≡ false → P x) → P x
unless P n x here there = go (x == n) refl
  where
    go : (b : Bool) → (x == n) ≡ b → P x
    go true e = subst P (sym (eqb-true x n e)) here
    go false e = there e

-- a byte of a word
pub record Other (x : ℕ) : Type 0 where
  pub kind : class x ≡ other
  pub no_colon : (x == 58) ≡ false

-- P holds of a byte if it holds of each byte that has a meaning outside strings, of white space, and of the bytes of words
pub cases_byte : (P : ℕ → Type 0) (x : ℕ) → P 34 → P 92 → P 123 → P 125 → P 91 → P 93 → P 58 → P 44 → (is_white x ≡ true → P x) → (Other x → P x) → P x
cases_byte P x q b o c ob cb col comma is_sp is_ot =
    unless P 34 x q (λ e1. unless P 92 x b (λ e2. unless P 123 x o (λ e3. unless P 125 x c (λ e4. unless P 91 x ob (λ e5. unless P 93 x cb (λ e6.
    unless P 58 x col (λ e7. unless P 44 x comma (λ e8. go e1 e2 e3 e4 e5 e6 e7 e8 (is_space x) refl))))))))
  where
    go : (x == 34) ≡ false → (x == 92) ≡ false → (x == 123) ≡ false → (x == 125) ≡ false → (x == 91) ≡ false → (x == 93) ≡ false → (x == 58) ≡ false → (x == 44) ≡ false
        → (s : Bool) → is_space x ≡ s → P x
    go e1 e2 e3 e4 e5 e6 e7 e8 true e = is_sp e
    go e1 e2 e3 e4 e5 e6 e7 e8 false e = is_ot (record {
      kind = rw (e1, e2, e3, e4, e5, e6, e7, e8, e) refl;
      no_colon = e7;
    })

-- white space of the second pass is white space of the lexer
white_space : (x : ℕ) → is_white x ≡ true → class x ≡ space
white_space x =
    let P : ℕ → Type 0 = λ y. is_white y ≡ true → class y ≡ space in
    unless P 32 x (λ e. refl) (λ e1. unless P 9 x (λ e. refl) (λ e2. unless P 10 x (λ e. refl) (λ e3. unless P 13 x (λ e. refl) (λ e4 e. absurd (false≢true (rw (e1, e2, e3, e4) at e))))))

-- ---- a text that is split

-- the text is the prefix and the rest, and both are UTF-8 if it is
abbrev pub Split : List ℕ → List ℕ → List ℕ → Type 0
Split text prefix rest = (text ≡ prefix ++ rest) × (IsUtf8 text → IsUtf8 prefix × IsUtf8 rest)

-- a text that is split twice
pub split_then : (a b c f g : List ℕ) → Split a f b → Split b g c → Split a (f ++ g) c
split_then a b c f g p q = (
  p.0 ∙ ap (λ l. f ++ l) q.0 ∙ sym (append_assoc f g c),
  λ u. (let r = p.1 u in let s = q.1 r.1 in (IsUtf8-append f g r.0 s.0, s.1)),
)

-- a text is split at its start
split_none : (a : List ℕ) → Split a [] a
split_none a = (refl, λ u. (IsUtf8-nil, u))

get_seam : (prefix rest : List ℕ) (c d : ℕ) → get_or (prefix ++ c ∷ rest) (length prefix) d ≡ c
get_seam [] rest c d = refl
get_seam (x ∷ prefix) rest c d = get_seam prefix rest c d

split_at : (prefix rest : List ℕ) → (IsUtf8 (prefix ++ rest) → IsCharBoundary (prefix ++ rest) (length prefix)) → Split (prefix ++ rest) prefix rest
split_at prefix rest bound = (
  refl,
  λ u. (
    subst IsUtf8 (take-append_seam prefix rest) (IsUtf8-take (prefix ++ rest) (length prefix) u (bound u)),
    subst IsUtf8 (drop-append_seam prefix rest) (IsUtf8-drop (prefix ++ rest) (length prefix) u (bound u)),
  ),
)

ends_ascii : (c : ℕ) (rest : List ℕ) → ends_word (c ∷ rest) ≡ true → c < 128
ends_ascii c rest e = grind (arith, nat_tests, e)

-- a text is split where a word ends
pub split_word : (prefix rest : List ℕ) → ends_word rest ≡ true → Split (prefix ++ rest) prefix rest
split_word prefix [] e = split_at prefix [] (λ u. subst (IsCharBoundary (prefix ++ [])) (ap length (append-nil prefix)) (IsCharBoundary-end (prefix ++ [])))
split_word prefix (c ∷ rest) e = split_at prefix (c ∷ rest) (λ u.
    IsCharBoundary-before_ascii (prefix ++ c ∷ rest) (length prefix) (omega (arith, length-append prefix (c ∷ rest))) (omega (arith, get_seam prefix rest c 0, ends_ascii c rest e)))

-- a text is split after an ASCII byte
pub split_ascii : (text prefix rest : List ℕ) (c : ℕ) → c < 128 → text ≡ prefix ++ c ∷ rest → Split text (prefix ++ c ∷ []) rest
split_ascii text prefix rest c small e =
    let regrouped : (prefix ++ c ∷ []) ++ rest ≡ prefix ++ c ∷ rest = append_assoc prefix (c ∷ []) rest in
    let long : length (prefix ++ c ∷ []) ≡ length prefix + 1 = length-append prefix (c ∷ []) in
    subst (λ t. Split t (prefix ++ c ∷ []) rest) (regrouped ∙ sym e) (split_at (prefix ++ c ∷ []) rest (λ u.
    subst (IsCharBoundary ((prefix ++ c ∷ []) ++ rest)) (sym long)
    (IsCharBoundary-after_ascii ((prefix ++ c ∷ []) ++ rest) (length prefix) u (omega (arith, ap length regrouped, length-append prefix (c ∷ rest)))
    (omega (arith, ap (λ t. get_or t (length prefix) 0) regrouped, get_seam prefix rest c 0)))))

-- a text is split after its first byte, which is ASCII
pub split_one : (c : ℕ) (t : List ℕ) → c < 128 → Split (c ∷ t) (c ∷ []) t
split_one c t small = split_ascii (c ∷ t) [] t c small refl

-- ---- white space

-- white space at the start of a text, which any text may follow
pub record White (text rest : List ℕ) : Type 0 where
  pub prefix : List ℕ
  pub split : Split text prefix rest
  pub skips : (any : List ℕ) → lex between (prefix ++ any) ≡ lex between any
  pub ends : (any : List ℕ) → ends_word any ≡ true → ends_word (prefix ++ any) ≡ true
  pub stays : (any : List ℕ) → beyond_white (prefix ++ any) ≡ beyond_white any

white_small : (x : ℕ) → is_white x ≡ true → x < 128
white_small x e = grind (arith, nat_tests, e)

white_ends : (x : ℕ) → is_white x ≡ true → is_operator x || is_space x ≡ true
white_ends x =
    let P : ℕ → Type 0 = λ y. is_white y ≡ true → is_operator y || is_space y ≡ true in
    unless P 32 x (λ e. refl) (λ e1. unless P 9 x (λ e. refl) (λ e2. unless P 10 x (λ e. refl) (λ e3. unless P 13 x (λ e. refl) (λ e4 e. absurd (false≢true (rw (e1, e2, e3, e4) at e))))))

-- the second pass skips white space
pub white_passed : (text : List ℕ) → White text (beyond_white text)
unfolding beyond_all lex
white_passed [] = record { prefix = []; split = split_none []; skips = λ any. refl; ends = λ any e. e; stays = λ any. refl }
white_passed (x ∷ xs) = go (is_white x) refl (white_passed xs)
  where
    go : (b : Bool) → is_white x ≡ b → White xs (beyond_white xs) → White (x ∷ xs) (if b then beyond_white xs else x ∷ xs)
    go true e w = record {
      prefix = x ∷ w.prefix;
      split = split_then (x ∷ xs) xs (beyond_white xs) (x ∷ []) w.prefix (split_one x xs (white_small x e)) w.split;
      skips = λ any. rw (white_space x e) (w.skips any);
      ends = λ any f. white_ends x e;
      stays = λ any. rw e (w.stays any);
    }
    go false e w = record { prefix = []; split = split_none (x ∷ xs); skips = λ any. refl; ends = λ any f. f; stays = λ any. refl }

-- white space gives no token
pub white_tokens : (p : Place) (text : List ℕ) → tokens_from p text ≡ tokens_from p (beyond_white text)
white_tokens p text = let w = white_passed text in ap (tokens_from p) w.split.0 ∙ ap (punctuate p) (w.skips (beyond_white text))

-- no white space is after white space
pub white_stops : (text : List ℕ) → begins is_white (beyond_white text) ≡ false
unfolding beyond_all
white_stops [] = refl
white_stops (x ∷ xs) = go (is_white x) refl (white_stops xs)
  where
    go : (b : Bool) → is_white x ≡ b → begins is_white (beyond_white xs) ≡ false → begins is_white (if b then beyond_white xs else x ∷ xs) ≡ false
    go true e h = h
    go false e h = e

colon_first : (text : List ℕ) → begins is_white text ≡ false → begins_colon (lex between text) ≡ begins (λ b. b == 58) text
unfolding lex
colon_first [] h = refl
colon_first (x ∷ xs) h = cases_byte P x (λ e. refl) (λ e. refl) (λ e. refl) (λ e. refl) (λ e. refl) (λ e. refl) (λ e. refl) (λ e. refl)
    (λ w e. absurd (true≢false (sym w ∙ e))) (λ o e. rw (o.kind, o.no_colon) refl) h
  where
    P : ℕ → Type 0
    P y = is_white y ≡ false → begins_colon (lex between (y ∷ xs)) ≡ (y == 58)

-- the lexer finds a colon next exactly if one is after white space
pub colon_next : (text : List ℕ) → begins_colon (lex between text) ≡ begins (λ b. b == 58) (beyond_white text)
colon_next text = let w = white_passed text in
    ap begins_colon (ap (lex between) w.split.0 ∙ w.skips (beyond_white text)) ∙ colon_first (beyond_white text) (white_stops text)

-- a word ends here, and no colon follows
abbrev pub is_end : List ℕ → Bool
is_end text = ends_word text && not (begins (λ b. b == 58) (beyond_white text))
