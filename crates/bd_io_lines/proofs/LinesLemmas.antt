-- Lemmas on lines of a text.
use Rattle.std.proofs.Common.{rules, ◌≡◌, ◌<◌, ◌≤◌, ◌+◌, ℕ, List, [], ◌∷◌, ◌++◌, length, Bool, cond, true, false, refl, sym, ap, ◌∙◌, subst, append_assoc, append-nil, arith, inl, inr, take_at}
use Rattle.std.proofs.lemmas.List.Splits.{slice_split-cons_yes, slice_split-cons_no, slice_split_none, length-slice_split}
use Rattle.std.proofs.lemmas.List.Sums.{sum_by-append}
use Rattle.std.proofs.lemmas.List.Elements.{All-append, All-cons, All-nil, All-take}
use Rattle.std.specs.List.{All, count_by, onto_first}
use Rattle.bd_value.specs.Limits.{longest_command}
use Rattle.bd_io_lines.specs.Lines.{AreShort, AreWhole, IsLine, IsPart, commands_of, is_empty_line, is_newline, not_empty, text_lines}

-- a line with more bytes of it is a line
pub line_grows : (line more : List ℕ) → IsLine line → IsLine more → IsLine (line ++ more)
line_grows line more first rest = All-append (λ b. is_newline b ≡ false) line more first rest

-- a prefix of a line is a line
pub line_prefix : (line more : List ℕ) → IsLine (line ++ more) → IsLine line
line_prefix line more all =
    subst IsLine (take_at line more (length line) refl) (All-take (λ b. is_newline b ≡ false) (length line) (line ++ more) all)

pub both_empty : (xs ys : List ℕ) → xs ++ ys ≡ [] → (xs ≡ []) × (ys ≡ [])
both_empty [] ys e = (refl, e)
both_empty (x ∷ xs) ys e = absurd (search (rules, e))

-- ---- commands

onto_more : (b : ℕ) (parts rest : List (List ℕ)) → 0 < length parts → onto_first b (parts ++ rest) ≡ onto_first b parts ++ rest
onto_more b [] rest some = absurd (omega arith)
onto_more b (part ∷ parts) rest some = refl

some_part : (text : List ℕ) → 0 < length (text_lines text)
some_part text = let e = length-slice_split is_newline text in omega (arith, e)

lines_step : (b : ℕ) (prefix rest : List ℕ) (c : Bool) → is_newline b ≡ c → text_lines (prefix ++ 10 ∷ rest) ≡ text_lines prefix ++ text_lines rest
    → text_lines (b ∷ (prefix ++ 10 ∷ rest)) ≡ text_lines (b ∷ prefix) ++ text_lines rest
lines_step b prefix rest true is e =
    slice_split-cons_yes is_newline b (prefix ++ 10 ∷ rest) is ∙ ap (λ x. [] ∷ x) e ∙ ap (λ x. x ++ text_lines rest) (sym (slice_split-cons_yes is_newline b prefix is))
lines_step b prefix rest false is e =
    slice_split-cons_no is_newline b (prefix ++ 10 ∷ rest) is ∙ ap (λ x. onto_first b x) e ∙ onto_more b (text_lines prefix) (text_lines rest) (some_part prefix)
    ∙ ap (λ x. x ++ text_lines rest) (sym (slice_split-cons_no is_newline b prefix is))

-- the lines before a newline and those after it
pub lines_apart : (prefix rest : List ℕ) → text_lines (prefix ++ 10 ∷ rest) ≡ text_lines prefix ++ text_lines rest
lines_apart [] rest = slice_split-cons_yes is_newline 10 rest refl
lines_apart (b ∷ prefix) rest = lines_step b prefix rest (is_newline b) refl (lines_apart prefix rest)

not_empty_apart : (xs ys : List (List ℕ)) → not_empty (xs ++ ys) ≡ not_empty xs ++ not_empty ys
unfolding not_empty
not_empty_apart [] ys = refl
not_empty_apart (line ∷ xs) ys =
    ap (λ l. cond (is_empty_line line) l (line ∷ l)) (not_empty_apart xs ys)
    ∙ elim (is_empty_line line) as (λ c. cond c (not_empty xs ++ not_empty ys) (line ∷ (not_empty xs ++ not_empty ys)) ≡ cond c (not_empty xs) (line ∷ not_empty xs) ++ not_empty ys)
    [ true ↦ refl | false ↦ refl ]

no_commands : not_empty ([] ∷ []) ≡ []
unfolding not_empty
no_commands = refl

commands_apart : (prefix rest : List ℕ) → commands_of (prefix ++ 10 ∷ rest) ≡ commands_of prefix ++ commands_of rest
commands_apart prefix rest = ap not_empty (lines_apart prefix rest) ∙ not_empty_apart (text_lines prefix) (text_lines rest)

-- a newline at the end adds no command
commands_ended : (prefix : List ℕ) → commands_of (prefix ++ 10 ∷ []) ≡ commands_of prefix
commands_ended prefix = commands_apart prefix [] ∙ ap (λ x. commands_of prefix ++ x) no_commands ∙ append-nil (commands_of prefix)

-- commands after whole lines
pub commands_after : (whole rest : List ℕ) → AreWhole whole → commands_of (whole ++ rest) ≡ commands_of whole ++ commands_of rest
commands_after whole rest (inl none) = rw none (ap (λ x. x ++ commands_of rest) (sym no_commands))
commands_after whole rest (inr (prefix, is)) = rw (is, append_assoc prefix (10 ∷ []) rest, commands_ended prefix) (commands_apart prefix rest)

-- one more line
pub commands_line : (whole line : List ℕ) → AreWhole whole → IsLine line → commands_of (whole ++ line) ≡ commands_of whole ++ not_empty (line ∷ [])
commands_line whole line ends is = commands_after whole line ends ∙ ap (λ x. commands_of whole ++ not_empty x) (slice_split_none is_newline line is)

pub commands_whole_line : (whole line : List ℕ) → AreWhole whole → IsLine line → commands_of (whole ++ (line ++ 10 ∷ [])) ≡ commands_of whole ++ not_empty (line ∷ [])
commands_whole_line whole line ends is =
    commands_after whole (line ++ 10 ∷ []) ends ∙ ap (λ x. commands_of whole ++ x) (commands_ended line)
    ∙ ap (λ x. commands_of whole ++ not_empty x) (slice_split_none is_newline line is)

-- ---- long lines

pub no_long_line : AreShort []
no_long_line = All-cons (λ line. length line ≤ longest_command) [] [] (omega arith) (All-nil (λ line. length line ≤ longest_command))

short_prefix : (prefix rest : List ℕ) → AreShort (prefix ++ 10 ∷ rest) → AreShort prefix
short_prefix prefix rest all =
    let lines : List (List ℕ) = text_lines prefix ++ text_lines rest in
    let short : All (λ line. length line ≤ longest_command) lines = subst (λ l. All (λ line. length line ≤ longest_command) l) (lines_apart prefix rest) all in
    subst (λ l. All (λ line. length line ≤ longest_command) l) (take_at (text_lines prefix) (text_lines rest) (length (text_lines prefix)) refl)
    (All-take (λ line. length line ≤ longest_command) (length (text_lines prefix)) lines short)

short_apart : (prefix rest : List ℕ) → AreShort prefix → AreShort rest → AreShort (prefix ++ 10 ∷ rest)
short_apart prefix rest first second =
    subst (λ l. All (λ line. length line ≤ longest_command) l) (sym (lines_apart prefix rest))
    (All-append (λ line. length line ≤ longest_command) (text_lines prefix) (text_lines rest) first second)

pub short_after : (whole rest : List ℕ) → AreWhole whole → AreShort whole → AreShort rest → AreShort (whole ++ rest)
short_after whole rest (inl none) first second = rw none second
short_after whole rest (inr (prefix, is)) first second =
    rw (is, append_assoc prefix (10 ∷ []) rest) (short_apart prefix rest (short_prefix prefix [] (subst AreShort is first)) second)

pub short_line : (line : List ℕ) → IsPart line → AreShort line
short_line line part =
    subst (λ l. All (λ x. length x ≤ longest_command) l) (sym (slice_split_none is_newline line part.0))
    (All-cons (λ x. length x ≤ longest_command) line [] part.1 (All-nil (λ x. length x ≤ longest_command)))

pub short_whole_line : (line : List ℕ) → IsPart line → AreShort (line ++ 10 ∷ [])
short_whole_line line part = short_apart line [] (short_line line part) no_long_line

-- ---- newlines

count_more : (xs ys : List ℕ) → count_by is_newline (xs ++ ys) ≡ count_by is_newline xs + count_by is_newline ys
count_more xs ys = sum_by-append (λ b. cond (is_newline b) 1 0) xs ys

count_line : (line : List ℕ) → IsLine line → count_by is_newline line ≡ 0
count_line line is =
    let one : length (text_lines line) ≡ 1 = ap (λ (l : List (List ℕ)). length l) (slice_split_none is_newline line is) in
    let all = length-slice_split is_newline line in omega (arith, one, all)

pub newlines_of_line : (whole line : List ℕ) → IsLine line → count_by is_newline (whole ++ line) ≤ count_by is_newline whole
newlines_of_line whole line is = let e = count_more whole line in let f = count_line line is in omega (arith, e, f)

pub newlines_more : (prefix whole more : List ℕ) → count_by is_newline prefix ≤ count_by is_newline whole → count_by is_newline prefix ≤ count_by is_newline (whole ++ more)
newlines_more prefix whole more le = let e = count_more whole more in omega (arith, e, le)
