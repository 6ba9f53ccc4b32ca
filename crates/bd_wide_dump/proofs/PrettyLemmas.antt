-- Texts of JSON on many lines, byte by byte.
use Rattle.std.proofs.Common.{◌≡◌, ℕ, zero, suc, ◌+◌, ◌-◌, ◌==◌, ◌<◌, ◌≤◌, Bool, true, false, List, [], ◌∷◌, ◌++◌, length, take, drop, get_or, replicate, refl, sym, ap, ◌∙◌, add-one, drop-cons, append_assoc, arith}
use Rattle.std.specs.Prelude.{if◌then◌else◌, nat_lt, ◌||◌}
use Rattle.std.proofs.Math.Seq.{take-add}
use Rattle.std.proofs.lemmas.List.{drop-drop, take-replicate}
use Rattle.std.proofs.lemmas.Bool.{eqb-true, or_parts}
use Rattle.bd_extjson_text.specs.Text.{needs_escape}
use Rattle.bd_extjson_text.proofs.BufferLemmas.{lent_text}
use Rattle.bd_wide_dump.specs.Pretty.{opens, closes, next_place, open_after, line_end, gap, laid_byte, laid_out, indented, unless_space, squeezed}
use Rattle.bd_wide_dump.specs.declared.pretty.Position.{Position}
use Rattle.bd_wide_dump.specs.declared.pretty.Position.TheVariants.{Outside, Inside, Escape}
use Rattle.bd_wide_dump.specs.inside.Tokens.{Reaches}

at_most : (a b : Bool) (n : ℕ) → (if a then n + 1 else (if b then n - 1 else n)) ≤ n + 1
at_most true b n = omega arith
at_most false true n = omega arith
at_most false false n = omega arith

pub open_bound : (n b : ℕ) → open_after Outside n b ≤ n + 1
open_bound n b = at_most (opens b) (closes b) n

pub begins : (text : List ℕ) → indented text ≡ laid_out Outside 0 0 text
unfolding indented
begins text = refl

-- ---- only white space between tokens is more

tabs_squeezed : (n : ℕ) (text : List ℕ) → squeezed Outside (replicate n 9 ++ text) ≡ squeezed Outside text
tabs_squeezed zero text = refl
tabs_squeezed (suc n) text = tabs_squeezed n text

line_squeezed : (n : ℕ) (text : List ℕ) → squeezed Outside (line_end n ++ text) ≡ squeezed Outside text
line_squeezed n text = tabs_squeezed n text

gap_squeezed : (n before after : ℕ) (text : List ℕ) → squeezed Outside (gap n before after ++ text) ≡ squeezed Outside text
gap_squeezed n before after text = by (opens before) (closes after) (before == 44) (before == 58)
  where
    by : (a b c d : Bool) → squeezed Outside ((if a then (if b then [] else line_end n) else (if b then line_end (n - 1) else (if c then line_end n else (if d then 32 ∷ [] else [])))) ++ text) ≡ squeezed Outside text
    by true true c d = refl
    by true false c d = line_squeezed n text
    by false true c d = line_squeezed (n - 1) text
    by false false true d = line_squeezed n text
    by false false false true = refl
    by false false false false = refl

-- a byte that is laid out has the place after it that it had
laid_squeezed : (position : Position) (n before b : ℕ) (text : List ℕ) → squeezed position (laid_byte position n before b ++ text) ≡ unless_space position b ++ squeezed (next_place position b) text
laid_squeezed Outside n before b text = ap (squeezed Outside) (append_assoc (gap n before b) (b ∷ []) text) ∙ gap_squeezed n before b (b ∷ text)
laid_squeezed Inside n before b text = refl
laid_squeezed Escape n before b text = refl

all_squeezed : (position : Position) (n before : ℕ) (text : List ℕ) → squeezed position (laid_out position n before text) ≡ squeezed position text
all_squeezed position n before [] = refl
all_squeezed position n before (b ∷ text) =
    laid_squeezed position n before b (laid_out (next_place position b) (open_after position n b) b text)
    ∙ ap (λ (x : List ℕ). unless_space position b ++ x) (all_squeezed (next_place position b) (open_after position n b) b text)

pub indented_squeezed : (text : List ℕ) → squeezed Outside (indented text) ≡ squeezed Outside text
unfolding indented
indented_squeezed text = all_squeezed Outside 0 0 text

-- ---- tokens

-- The position is in a string.
abbrev pub IsInString : Position → Type 0
IsInString Outside = ⊥
IsInString _ = Unit {0}

pub in_string : (p : Position) → (p ≡ Outside → ⊥) → IsInString p
in_string Outside other = absurd (other refl)
in_string Inside other = tt
in_string Escape other = tt

-- in a string the byte before makes no difference
before_any : (p : Position) → IsInString p → (n a b : ℕ) (xs : List ℕ) → laid_out p n a xs ≡ laid_out p n b xs
before_any Outside h n a b xs = absurd h
before_any Inside h n a b [] = refl
before_any Inside h n a b (x ∷ xs) = refl
before_any Escape h n a b [] = refl
before_any Escape h n a b (x ∷ xs) = refl

-- after a byte of a string either it is the quotation mark at the end, or the position is still in the string
after_byte : (p : Position) → IsInString p → (n x : ℕ) (xs : List ℕ) → laid_out (next_place p x) n x xs ≡ laid_out (next_place p x) n 34 xs
after_byte Outside h n x xs = absurd h
after_byte Escape h n x xs = before_any Inside tt n x 34 xs
after_byte Inside h n x xs = by (x == 34) (x == 92) refl
  where
    by : (a b : Bool) → (x == 34) ≡ a → laid_out (if a then Outside else (if b then Escape else Inside)) n x xs ≡ laid_out (if a then Outside else (if b then Escape else Inside)) n 34 xs
    by true b e = ap (λ y. laid_out Outside n y xs) (eqb-true x 34 e)
    by false true e = before_any Escape tt n x 34 xs
    by false false e = before_any Inside tt n x 34 xs

-- a byte of a string is laid out as it is
byte_step : (p : Position) → IsInString p → (n a x : ℕ) (xs : List ℕ) → laid_out p n a (x ∷ xs) ≡ x ∷ laid_out (next_place p x) n x xs
byte_step Outside h n a x xs = absurd h
byte_step Inside h n a x xs = refl
byte_step Escape h n a x xs = refl

take_one : (k : ℕ) (xs : List ℕ) → k < length xs → take (k + 1) xs ≡ take k xs ++ get_or xs k 0 ∷ []
take_one k xs lt = take-add k 1 xs ∙ ap (λ (l : List ℕ). take k xs ++ take 1 l) (drop-cons xs k 0 lt)

pub reach_start : (text : List ℕ) → Reaches text 0 Inside
reach_start text n before = before_any Inside tt n before 34 text

pub reach_step : (text : List ℕ) (k : ℕ) (p : Position) → IsInString p → k < length text → Reaches text k p → Reaches text (k + 1) (next_place p (get_or text k 0))
reach_step text k p h lt so_far n before =
    let x : ℕ = get_or text k 0 in
    let here : drop k text ≡ x ∷ drop (k + 1) text = rw add-one (drop-cons text k 0 lt) in
    let rest : List ℕ = laid_out (next_place p x) n 34 (drop (k + 1) text) in
    so_far n before ∙ ap (λ (l : List ℕ). take k text ++ laid_out p n 34 l) here
    ∙ ap (λ (l : List ℕ). take k text ++ l) (byte_step p h n 34 x (drop (k + 1) text) ∙ ap (λ (l : List ℕ). x ∷ l) (after_byte p h n x (drop (k + 1) text)))
    ∙ sym (append_assoc (take k text) (x ∷ []) rest) ∙ ap (λ (l : List ℕ). l ++ rest) (sym (take_one k text lt))

stays : (x : ℕ) → needs_escape x ≡ false → next_place Inside x ≡ Inside
stays x plain =
    let parts = or_parts (x == 34 || x == 92) (nat_lt x 32) plain in
    let both = or_parts (x == 34) (x == 92) parts.0 in
    rw (both.0, both.1) refl

run_laid : (r : ℕ) (xs : List ℕ) → r ≤ length xs → ((i : ℕ) → i < r → needs_escape (get_or xs i 0) ≡ false) → (n b : ℕ)
    → laid_out Inside n b xs ≡ take r xs ++ laid_out Inside n 34 (drop r xs)
run_laid zero xs le plain n b = before_any Inside tt n b 34 xs
run_laid (suc r) [] le plain n b = absurd (omega (arith, le))
run_laid (suc r) (x ∷ xs) le plain n b =
    ap (λ p. x ∷ laid_out p n x xs) (stays x (plain 0 (omega arith))) ∙ ap (λ (l : List ℕ). x ∷ l) (run_laid r xs (omega (arith, le)) (λ i lt. plain (suc i) (omega (arith, lt))) n x)

-- bytes of a string that need no escape are laid out as they are
pub reach_run : (text part : List ℕ) (k r : ℕ) → part ≡ drop k text → r ≤ length part → ((i : ℕ) → i < r → needs_escape (get_or part i 0) ≡ false)
    → Reaches text k Inside → Reaches text (k + r) Inside
reach_run text part k r is le plain so_far n before =
    let rest : List ℕ = laid_out Inside n 34 (drop (k + r) text) in
    so_far n before ∙ ap (λ (l : List ℕ). take k text ++ laid_out Inside n 34 l) (sym is)
    ∙ ap (λ (l : List ℕ). take k text ++ l) (run_laid r part le plain n 34)
    ∙ ap (λ (l : List ℕ). take k text ++ (take r l ++ laid_out Inside n 34 (drop r l))) is
    ∙ ap (λ (l : List ℕ). take k text ++ (take r (drop k text) ++ laid_out Inside n 34 l)) (drop-drop r k text)
    ∙ sym (append_assoc (take k text) (take r (drop k text)) rest) ∙ ap (λ (l : List ℕ). l ++ rest) (sym (take-add k r text))

-- ---- blocks

-- the first bytes of a line end and tabs
pub tabs_of : (t m : ℕ) → t ≤ 31 → m ≡ suc t → take m (10 ∷ replicate 31 9) ≡ line_end t
tabs_of t m few is = ap (λ (i : ℕ). take i (10 ∷ replicate 31 9)) is ∙ ap (λ (l : List ℕ). 10 ∷ l) (take-replicate t 31 9 few)

-- a block was written into the buffer of a vector
pub block_put : (len end k : ℕ) (buffer items printed text : List ℕ) → length buffer ≡ length items → len ≡ length items → printed ≡ items
    → take (end + k) buffer ≡ take end printed ++ take k text → take (end + k) (take len (buffer ++ drop (length buffer) items)) ≡ take end items ++ take k text
block_put len end k buffer items printed text same all is put =
    lent_text len (end + k) buffer items (take end items ++ take k text) same all (put ∙ ap (λ (l : List ℕ). take end l ++ take k text) is)
