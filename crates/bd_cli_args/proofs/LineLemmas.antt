-- Accepted command lines have a command; `dump`, `check`, `pack` and `serve` with one file are accepted.
use Rattle.std.proofs.Common.{ap₂, subst, ◌⊎◌, inl, inr, ◌≡◌, ◌∙◌, Bool, true, false, refl, sym, ap, List, [], ◌∷◌, codes, Option, Some, None}
use Rattle.std.proofs.Common.{true≢false, ℕ, Result, Ok, Err, IfOk, IfErr, slice_get, unwrap_or, option_and_then, option_map, if◌then◌else◌}
use Rattle.std.proofs.Common.{◌==◌, ◌<◌, ◌^◌, arith}
use Rattle.std.specs.{Map.lookup, Str.bytes_eq}
use Rattle.std.specs.Str.Parse.{ParsesUnsigned, digits_value, without_leading_plus, IsNumeral}
use Rattle.std.specs.{Option.option_map_or, Option.option_or}
use Rattle.std.proofs.lemmas.{Slice.Eq.bytes_eq-Decides, Bool.and_parts, Bool.cond_both}
use Rattle.std.proofs.Math.Bool.{and-false}
use Rattle.clap.specs.Simple.{Shape}
use Rattle.clap.specs.declared.error.kind.ErrorKind.TheVariants.{MissingSubcommand, UnknownArgument, InvalidSubcommand}
use Rattle.clap.specs.{Kinds.or_else}
use Rattle.clap.specs.{Walk.Row}
use Rattle.clap.specs.{Walk.Text, Walk.first_of, Walk.nothing_held, Walk.rows_after}
use Rattle.clap.specs.{Faults.fault_of, Faults.level_fault, Takes.takes}
use Rattle.clap.specs.{Words.ReadsOne, ValueTests.is_unsigned_in, declared.builder.value_parser.ValueParser.TheVariants.Unsigned}
use Rattle.clap.proofs.ValueTestLemmas.{accepts-Accepts, Accepts-accepts}
use Rattle.clap.proofs.{OnLiterals.clap_on_literals, WalkLemmas.first_value-rows, WalkLemmas.one_text-rows}
use Rattle.bd_cli_args.specs.CommandLine.{OrderView, GivesOrder, meant, check, dump, pack, serve, fault_for, find_app, find_options_in}
use Rattle.bd_cli_args.specs.FileCommands.{explain_refusal, file_app}
use Rattle.bd_cli_args.specs.CommandLine.{commands, is_help_line, is_serve_of_input, line_app, order_of, ordered_by, parser_refusal, serves_input, IsFileCommand, is_file_word}
use Rattle.bd_cli_args.specs.CommandLine.{number_read}
use Rattle.bd_cli_args.specs.inside.CommandLine.{is_serve_input_line}
use Rattle.bd_cli_args.specs.declared.order.WordsFault.TheVariants.{NoMemory, Usage}
use Rattle.bd_cli_args.specs.{declared.order.Order.Order, declared.order.WordsFault.WordsFault}
use Rattle.bd_cli_args.proofs.ProgramLemmas.{EachShape, HasOrders, IsProgram, file_given, file_orders, refusal_none, refused, shape_in}

-- a command that takes only a file, as it is built
abbrev pub file_shape : Text → Shape
file_shape name = shape_in line_app (file_app name)

pub is_program : IsProgram line_app ordered_by
unfolding EachShape
is_program = record {
  simple = refl;
  free = refl;
  plain = refl;
  requires_one = λ rows c. refused MissingSubcommand c;
  each = (
    of_file (codes "dump") dump (λ rows. refl),
    (of_file (codes "check") check (λ rows. refl), (of_file (codes "pack") pack (λ rows. refl), (of_file (codes "serve") serve (λ rows. refl), (finds, tt)))),
  );
}
  where
    of_file : (name : Text) (says : Text → OrderView) → ((rows : List Row) → ordered_by name rows ≡ option_map says (first_of (codes "file") rows)) → HasOrders line_app ordered_by (file_shape name)
    of_file name says is = file_orders line_app ordered_by (file_shape name) (λ rows. says) refl (λ rows c. file_given _ _ c) is

    finds : HasOrders line_app ordered_by (shape_in line_app find_app)
    finds = file_orders line_app ordered_by (shape_in line_app find_app) (λ rows file. OrderView.find file (find_options_in rows)) refl (λ rows c. file_given _ _ c) (λ rows. refl)

-- the word `help` is not a command, whatever follows
pub help_fault : (rest : List Text) → fault_of line_app (codes "help" ∷ rest) ≡ UnknownArgument ∷ InvalidSubcommand ∷ []
unfolding clap_on_literals
help_fault rest = refl

help_not_taken : (rest : List Text) → takes line_app (codes "help" ∷ rest) ≡ false
unfolding clap_on_literals
help_not_taken rest = and-false _

help_words : (words : List Text) → is_help_line words ≡ true → (rest : List Text) × (words ≡ codes "help" ∷ rest)
help_words [] e = let f : ⊥ = cc in absurd f
help_words (w ∷ rest) e = (rest, ap (λ x. x ∷ rest) ((bytes_eq-Decides w (codes "help")).0 e))

-- how arguments are reported, by the parser's refusal and by whether they are `serve` of standard input
pub explained_by : (words : List Text) (refusal : Option WordsFault) (is_of_input : Bool) → parser_refusal words ≡ refusal → serves_input words ≡ is_of_input
    → fault_for words ≡ option_or refusal (if is_of_input then Some Usage else None)
explained_by words refusal is_of_input refused served =
    ap₂ (λ (r : Option WordsFault) (b : Bool). option_or r (if b then Some Usage else None)) refused served

pub served_as : (words : List Text) (order : OrderView) (is_of_input : Bool) → order_of words ≡ Some order → is_serve_of_input order ≡ is_of_input
    → serves_input words ≡ is_of_input
served_as words order is_of_input is e = ap (λ o. option_map_or is_serve_of_input o false) is ∙ e

pub help_line_explained : (words : List Text) → is_help_line words ≡ true → fault_for words ≡ Some Usage
help_line_explained words e =
    let h = help_words words e in
    explained_by words (Some Usage) (serves_input words)
    (ap parser_refusal h.1 ∙ ap (λ ks. option_map explain_refusal (slice_get ks 0)) (help_fault h.0)) refl

pub help_line_refused : (words : List Text) → is_help_line words ≡ true → takes line_app words ≡ true → ⊥
help_line_refused words e taken =
    let h = help_words words e in
    true≢false (sym taken ∙ (ap (takes line_app) h.1 ∙ help_not_taken h.0))

-- ---- the arguments in their plainest form

abbrev pub IsTaken : List Text → OrderView → Type 0
IsTaken words order = (fault_of line_app words ≡ []) × (order_of words ≡ Some order)

-- ---- how a refusal is reported

-- arguments without a fault are refused only if memory runs out
pub only_memory : (words : List Text) (f : WordsFault) → fault_for words ≡ None → (f ≡ NoMemory) ⊎ (fault_for words ≡ Some f) → f ≡ NoMemory
only_memory words f is (inl memory) = memory
only_memory words f is (inr explained) =
    let none : None ≡ Some f = sym is ∙ explained in
    let bad : ⊥ = cc in absurd bad

-- ---- from the matches that the code reads to the command

-- what the getters read from the matches
pub ruleset readings = (first_value-rows, one_text-rows)

-- whatever the command, without a FILE there is no order
no_order : (o : Option (Text → OrderView)) → option_and_then (λ order. option_map order None) o ≡ None
no_order None = refl
no_order (Some order) = refl

-- without FILE there is no command
pub no_file : (name : Text) (rows : List Row) → first_of (codes "file") rows ≡ None → ordered_by name rows ≡ None
no_file name rows e = rw e (no_order (lookup (bytes_eq name) (commands rows)))

same_order : (words : List Text) (a b : OrderView) → order_of words ≡ Some a → order_of words ≡ Some b → a ≡ b
same_order words a b e f = ap (λ o. unwrap_or o a) (sym e ∙ f)

pub orders_when : (r : Result Order WordsFault) (words : List Text) (order : OrderView) → order_of words ≡ Some order
    → IfOk r (λ o. order_of words ≡ Some (meant o)) → IfErr r (λ f. f ≡ NoMemory) → GivesOrder r order
orders_when (Ok o) words order is ok err = same_order words (meant o) order ok is
orders_when (Err f) words order is ok err = err

-- accepted arguments are answered by their command, or memory ran out
pub answered : (r : Result Order WordsFault) (words line : List Text) (order : OrderView) → words ≡ line
    → IsTaken line order → is_serve_of_input order ≡ false → IfOk r (λ o. order_of words ≡ Some (meant o))
    → IfErr r (λ f. (f ≡ NoMemory) ⊎ (fault_for words ≡ Some f)) → GivesOrder r order
answered (Ok o) words line order is taken other ok err = orders_when (Ok o) words order (ap order_of is ∙ taken.1) ok err
answered (Err f) words line order is taken other ok err =
    let refusal = refusal_none line_app ordered_by words (ap (fault_of line_app) is ∙ taken.0) in
    only_memory words f (explained_by words None false refusal (served_as words order false (ap order_of is ∙ taken.1) other)) err

-- ---- commands that take only a file

-- the arguments of such a command contain its file
abbrev Takes : Text → List Text → Text → Type 0
Takes name words file =
    (level_fault (file_shape name) [] nothing_held words false [] ≡ [])
    × (first_of (codes "file") (rows_after (file_shape name).rules [] words) ≡ Some file)

file_short : (name : Text) (x : ℕ) (xs : List ℕ) → (x == 45) ≡ true → is_file_word (x ∷ xs) ≡ true → Takes name ((x ∷ xs) ∷ []) (x ∷ xs)
unfolding clap_on_literals
file_short name x [] is e = (simp is refl, simp is refl)
file_short name x (y ∷ ys) is e = let f : ⊥ = true≢false (sym (rw is at e)) in absurd f

file_word : (name : Text) (x : ℕ) (xs : List ℕ) (b : Bool) → (x == 45) ≡ b → is_file_word (x ∷ xs) ≡ true → Takes name ((x ∷ xs) ∷ []) (x ∷ xs)
unfolding clap_on_literals
file_word name x xs false is e = (simp is refl, simp is refl)
file_word name x xs true is e = file_short name x xs is e

file_plain : (name file : Text) → is_file_word file ≡ true → Takes name (file ∷ []) file
unfolding clap_on_literals
file_plain name [] e = (refl, refl)
file_plain name (x ∷ xs) e = file_word name x xs (x == 45) refl e

file_escaped : (name file : Text) → Takes name (codes "--" ∷ file ∷ []) file
unfolding clap_on_literals
file_escaped name file = (refl, refl)

-- the arguments after the first one belong to the command
abbrev Enters : Text → (Text → OrderView) → List Text → Type 0
Enters name order words =
    (fault_of line_app (name ∷ words) ≡ or_else (level_fault (file_shape name) [] nothing_held words false []) [])
    × (order_of (name ∷ words) ≡ option_map order (first_of (codes "file") (rows_after (file_shape name).rules [] words)))

enters : (name : Text) (order : Text → OrderView) → IsFileCommand name order → (file : Text) → Enters name order (file ∷ []) × Enters name order (codes "--" ∷ file ∷ [])
unfolding clap_on_literals
enters name order (inl e) file = rw (e.0, e.1) ((refl, refl), (refl, refl))
enters name order (inr (inl e)) file = rw (e.0, e.1) ((refl, refl), (refl, refl))
enters name order (inr (inr (inl e))) file = rw (e.0, e.1) ((refl, refl), (refl, refl))
enters name order (inr (inr (inr e))) file = rw (e.0, e.1) ((refl, refl), (refl, refl))

taken : (name file : Text) (order : Text → OrderView) (words : List Text) → Enters name order words → Takes name words file → IsTaken (name ∷ words) (order file)
taken name file order words enters takes = (enters.0 ∙ ap (λ ks. or_else ks []) takes.0, enters.1 ∙ ap (option_map order) takes.1)

pub file_taken : (name file : Text) (order : Text → OrderView) → IsFileCommand name order → is_file_word file ≡ true
    → IsTaken (name ∷ file ∷ []) (order file)
file_taken name file order which plain = taken name file order (file ∷ []) (enters name order which file).0 (file_plain name file plain)

pub file_escaped_taken : (name file : Text) (order : Text → OrderView) → IsFileCommand name order
    → IsTaken (name ∷ codes "--" ∷ file ∷ []) (order file)
file_escaped_taken name file order which =
    taken name file order (codes "--" ∷ file ∷ []) (enters name order which file).1 (file_escaped name file)

-- ---- `serve` of standard input

-- the result for arguments that the parser reads as `serve` of standard input
abbrev IsOfInput : List Text → Type 0
IsOfInput words = (serves_input words ≡ true) × (fault_for words ≡ Some Usage)

taken_of_input : (words : List Text) → IsTaken words (serve (codes "-")) → IsOfInput words
taken_of_input words taken =
    let served = served_as words (serve (codes "-")) true taken.1 refl in
    (served, explained_by words None true (refusal_none line_app ordered_by words taken.0) served)

pub line_of_input : (words : List Text) → is_serve_input_line words ≡ true → IsOfInput words
line_of_input (a ∷ b ∷ []) e =
    let h = and_parts _ _ e in
    let command = (bytes_eq-Decides a (codes "serve")).0 h.0 in
    let file = (bytes_eq-Decides b (codes "-")).0 h.1 in
    subst IsOfInput (sym (ap₂ (λ (x y : Text). x ∷ y ∷ []) command file))
    (taken_of_input (codes "serve" ∷ codes "-" ∷ []) (file_taken (codes "serve") (codes "-") serve (inr (inr (inr (refl, refl)))) refl))
line_of_input (a ∷ b ∷ c ∷ []) e =
    let h = and_parts _ _ e in
    let more = and_parts _ _ h.1 in
    let command = (bytes_eq-Decides a (codes "serve")).0 h.0 in
    let escape = (bytes_eq-Decides b (codes "--")).0 more.0 in
    let file = (bytes_eq-Decides c (codes "-")).0 more.1 in
    subst IsOfInput (sym (ap₂ (λ (x : Text) (rest : List Text). x ∷ rest) command (ap₂ (λ (x y : Text). x ∷ y ∷ []) escape file)))
    (taken_of_input (codes "serve" ∷ codes "--" ∷ codes "-" ∷ []) (file_escaped_taken (codes "serve") (codes "-") serve (inr (inr (inr (refl, refl))))))
line_of_input _ e = let bad : ⊥ = cc in absurd bad

-- the text is a number below 2^32
abbrev pub IsSmall : List ℕ → Type 0
IsSmall t = IsNumeral 10 (without_leading_plus t) × (digits_value 10 (without_leading_plus t) < 2 ^ 32)

pub small_yes : (t : List ℕ) → IsSmall t → is_unsigned_in 0 4294967295 t ≡ true
small_yes t h = Accepts-accepts false (Unsigned 0 4294967295) t (h.0, omega (arith, h.1), omega arith, omega (arith, h.1))

small_back : (t : List ℕ) → is_unsigned_in 0 4294967295 t ≡ true → IsSmall t
small_back t e = let a = accepts-Accepts false (Unsigned 0 4294967295) t e in (a.0, omega (arith, a.3))

read_some : {E : Type 0} (t : List ℕ) (r : Result ℕ E) (n : ℕ) → ParsesUnsigned 32 10 t r → r ≡ Ok n → number_read t ≡ Some n
read_some t (Ok k) n h e =
    let same : k ≡ n = cc in
    rw (small_yes t h.0) (ap (λ m. Some m) (sym h.1 ∙ same))
read_some t (Err e) n h is = absurd cc

read_none : {E : Type 0} (t : List ℕ) (r : Result ℕ E) (e : E) → ParsesUnsigned 32 10 t r → r ≡ Err e → number_read t ≡ None
read_none t (Ok k) e h is = absurd cc
read_none t (Err d) e h is = cond_both (is_unsigned_in 0 4294967295 t) (Some (digits_value 10 (without_leading_plus t))) None (λ o. o ≡ None)
    (λ fits. absurd (h (small_back t fits))) (λ other. refl)

pub number_is : (E : Type 0) (gives : List ℕ → Result ℕ E → Type 0) → ((t : List ℕ) (r : Result ℕ E) → gives t r → ParsesUnsigned 32 10 t r) → (o : Option (List ℕ)) (r : Option ℕ)
    → (o ≡ None → r ≡ None) → ((t : List ℕ) → o ≡ Some t → ReadsOne gives t r) → option_and_then number_read o ≡ r
number_is E gives parses None r none value = sym (none refl)
number_is E gives parses (Some t) (Some n) none value = let done : Result ℕ E = Ok n in read_some t done n (parses t done (value t refl)) refl
number_is E gives parses (Some t) None none value =
    let v = value t refl in
    let failed : Result ℕ E = Err v.0 in
    read_none t failed v.0 (parses t failed v.1) refl
