-- A program whose commands take a file: accepted command lines have a command.
use Rattle.std.proofs.Common.{ap₂, subst, ◌⊎◌, inl, inr, ◌≡◌, ◌∙◌, ◌||◌, ◌&&◌, Bool, cond, true, false, not, refl, sym, ap, List, [], ◌∷◌, codes, Option, Some, None}
use Rattle.std.proofs.Common.{Box, find, slice_get, unwrap_or, IfSome, is_some, option_and_then, option_map}
use Rattle.std.specs.List.{list_all}
use Rattle.std.specs.{Prelude.⊤, Option.option_map_or, Box.box_value}
use Rattle.std.proofs.lemmas.{Bool.and_parts}
use Rattle.clap.specs.Simple.{App, HasMatchesOf, Shape, argument_words, built, built_leaf, entered, inherited, marked_built, on_top, subcommand_rows, with_leaf_noted, is_simple}
use Rattle.clap.specs.Simple.{label_of, names_of, rows_at, subcommand_of, subcommand_rows_of}
use Rattle.clap.specs.declared.error.kind.ErrorKind.TheVariants.{OutOfMemory, MissingRequiredArgument}
use Rattle.clap.specs.declared.parser.matches.ArgMatches.TheViews.{out-ArgMatches, out-SubCommand}
use Rattle.clap.specs.{Kinds.HasKind, Kinds.IsAmong, Kinds.Kinds, Kinds.check_kinds, Values.kind_of, Matches.found_of, Matches.subcommand_name_of}
use Rattle.clap.specs.{declared.parser.matches.SubCommand.SubCommand, declared.error.Error.Error, declared.parser.matches.ArgMatches.ArgMatches, Walk.Row, Walk.rows_of}
use Rattle.clap.specs.{Walk.Text, Walk.answers_to, Walk.finished, Walk.first_of, Walk.nothing_held, Walk.rows_after, Walk.walk, Faults.check_fault, Faults.entered_fault}
use Rattle.clap.specs.{Faults.fault_of, Faults.is_simple_and_free, Faults.level_fault, Takes.is_given, Takes.takes, declared.error.kind.ErrorKind.ErrorKind}
use Rattle.bd_cli_args.specs.FileCommands.{explain_refusal, order_by, refusal_by}
use Rattle.bd_cli_args.specs.declared.order.WordsFault.TheVariants.{NoMemory}
use Rattle.bd_cli_args.specs.declared.order.WordsFault.{WordsFault}
use Rattle.bd_cli_args.proofs.FaultLemmas.{SameExplained, given_first, is_plain, level-sound, same-entered, same-fault}

-- a refusal is no acceptance
pub refused : (k : ErrorKind) → k ∷ [] ≡ [] → ⊥
refused k e = cc

-- each of the commands has the property
unfoldable pub EachShape : (Shape → Type 0) → List Shape → Type 0
EachShape P [] = ⊤
EachShape P (s ∷ rest) = P s × EachShape P rest

pub found_shape : (P : Shape → Type 0) (p : Shape → Bool) (shapes : List Shape) → EachShape P shapes → IfSome (find p shapes) P
unfolding EachShape
found_shape P p [] each = tt
found_shape P p (s ∷ rest) each = elim (p s) as (λ b. IfSome (cond b (Some s) (find p rest)) P) [ true ↦ each.0 | false ↦ found_shape P p rest each.1 ]

-- without a refusal a required FILE is given
pub file_given : (given rest : Bool) → check_kinds false false (not given || rest) ≡ [] → given ≡ true
file_given true rest e = refl
file_given false rest e = absurd (refused MissingRequiredArgument e)

some_mapped : {X Y : Type 0} (f : X → Y) (o : Option X) → is_some o ≡ true → is_some (option_map f o) ≡ true
some_mapped f None e = let bad : ⊥ = cc in absurd bad
some_mapped f (Some x) e = refl

-- a command of a program, as it is built
abbrev pub shape_in : App → App → Shape
shape_in line app = built_leaf (inherited (on_top with_leaf_noted (on_top marked_built line)).top app.top)

-- ---- how a refusal is reported

pub first_explained : (kinds : Kinds) (k : ErrorKind) → SameExplained kinds → IsAmong k kinds → option_map explain_refusal (slice_get kinds 0) ≡ Some (explain_refusal k)
first_explained [] k same a = absurd a
first_explained (x ∷ xs) k same (inl is) = ap (λ y. Some (explain_refusal y)) (sym is)
first_explained (x ∷ xs) k same (inr more) = ap (λ f. Some f) (sym (same k more))

-- ---- from the matches that the code reads to the command

pub names_read : {Z : Type 0} (s : Option (Box SubCommand Z)) → option_map (λ b. (out-SubCommand (box_value b)).name.now) s ≡ option_map (λ p. p.0) (subcommand_rows s)
names_read None = refl
names_read (Some b) = refl

pub pair_read : (o : Option (Text × List Row)) (name : Text) (rows : List Row) → Some name ≡ option_map (λ p. p.0) o → Some rows ≡ option_map (λ p. p.1) o → o ≡ Some (name, rows)
pair_read None name rows n r = let bad : ⊥ = cc in absurd bad
pair_read (Some p) name rows n r =
    let n' : name ≡ p.0 = ap (λ o. unwrap_or o name) n in
    let r' : rows ≡ p.1 = ap (λ o. unwrap_or o rows) r in
    ap₂ (λ (a : Text) (b : List Row). Some (a, b)) (sym n') (sym r')

module _ {V : Type 0} (line : App) (ordered : Text → List Row → Option V) where
  -- arguments of the command without a fault mean something
  abbrev pub HasOrders : Shape → Type 0
  HasOrders s = (words : List Text) → level_fault s [] nothing_held words false [] ≡ [] → is_some (ordered s.name (rows_after s.rules [] words)) ≡ true

  -- if a command requires FILE, FILE is given
  pub file_orders : (s : Shape) (says : List Row → Text → V) → is_plain s ≡ true → ((rows : List Row) → check_fault s rows false ≡ [] → is_given (codes "file") rows ≡ true)
      → ((rows : List Row) → ordered s.name rows ≡ option_map (says rows) (first_of (codes "file") rows)) → HasOrders s
  file_orders s says plain given is words e =
      let rows = rows_after s.rules [] words in
      let level = (level-sound s [] words false [] plain tt).leaves e in
      ap is_some (is rows) ∙ some_mapped (says rows) (first_of (codes "file") rows) (given_first (codes "file") rows level.0 (given rows level.2))

  -- the command line is simple, requires one of its commands, and each of them means something
  pub record IsProgram : Type 0 where
    pub simple : is_simple line ≡ true
    pub free : is_simple_and_free line ≡ true
    pub plain : (is_plain (built line).top && list_all is_plain (built line).subs) ≡ true
    pub requires_one : (rows : List Row) → check_fault (built line).top rows false ≡ [] → ⊥
    pub each : EachShape HasOrders (built line).subs

  -- arguments without a fault mean something
  pub order_there : IsProgram → (words : List Text) → fault_of line words ≡ [] → is_some (order_by line ordered words) ≡ true
  order_there p words e =
      let both = and_parts (is_plain top) (list_all is_plain (built line).subs) p.plain in
      let stop = (walk top.rules names nothing_held (argument_words line words)).stopped in
      let level = level-sound top names (argument_words line words) (is_some (entered (built line) stop)) (entered_fault (built line) stop) both.0 (same-entered (built line) stop both.1) in
      let checks = level.leaves e in
      at_stop stop checks.1 checks.2
    where
      top : Shape
      top = (built line).top

      names : List (Text × List Text)
      names = names_of (built line)

      rows : List Row
      rows = finished top.rules (walk top.rules names nothing_held (argument_words line words)).held

      at_shape : (p : Text × List Text) (o : Option Shape) → IfSome o HasOrders → option_map_or (λ s. level_fault s [] nothing_held p.1 false []) o [] ≡ []
          → check_fault top rows (is_some (option_map (λ s. rows_at s p.1) o)) ≡ []
          → is_some (option_and_then (λ q. ordered q.0 q.1) (option_map (λ s. rows_at s p.1) o)) ≡ true
      at_shape q None orders e c = absurd (p.requires_one rows c)
      at_shape q (Some s) orders e c = orders q.1 e

      at_stop : (stop : Option (Text × List Text)) → entered_fault (built line) stop ≡ [] → check_fault top rows (is_some (entered (built line) stop)) ≡ []
          → is_some (option_and_then (λ q. ordered q.0 q.1) (entered (built line) stop)) ≡ true
      at_stop None e c = absurd (p.requires_one rows c)
      at_stop (Some q) e c = at_shape q (find (λ s. answers_to q.0 (label_of s)) (built line).subs)
          (found_shape HasOrders (λ s. answers_to q.0 (label_of s)) (built line).subs p.each) e c

  -- arguments without a fault are not refused
  pub refusal_none : (words : List Text) → fault_of line words ≡ [] → refusal_by line words ≡ None
  refusal_none words is = ap (λ ks. option_map explain_refusal (slice_get ks 0)) is

  -- ---- the clauses of the parse

  -- an error of the parser is reported as its refusal, or as out of memory
  pub refused_as : IsProgram → (a : App) (words : List Text) (e : Error) (f : WordsFault) → a ≡ line → (is_simple_and_free a ≡ true → HasKind (fault_of a words) e)
      → f ≡ explain_refusal (kind_of e) → (f ≡ NoMemory) ⊎ (refusal_by line words ≡ Some f)
  refused_as p a words e f is h explained =
      subst (λ (x : WordsFault). (x ≡ NoMemory) ⊎ (refusal_by line words ≡ Some x)) (sym explained)
      (by_kind (subst (λ (x : App). is_simple_and_free x ≡ true → HasKind (fault_of x words) e) is h p.free))
    where
      by_kind : HasKind (fault_of line words) e → (explain_refusal (kind_of e) ≡ NoMemory) ⊎ (refusal_by line words ≡ Some (explain_refusal (kind_of e)))
      by_kind (inl memory) = inl (ap explain_refusal memory)
      by_kind (inr among) = inr (first_explained (fault_of line words) (kind_of e) (same-fault (built line) (argument_words line words) p.plain) among)

  -- accepted arguments have no error but out of memory
  pub refused_taken : (a : App) (words : List Text) (e : Error) → a ≡ line → (takes a words ≡ true → kind_of e ≡ OutOfMemory) → takes line words ≡ true
      → explain_refusal (kind_of e) ≡ NoMemory
  refused_taken a words e is h taken = ap explain_refusal (h (ap (λ (x : App). takes x words) is ∙ taken))

  -- arguments that were parsed have no fault
  pub no_fault : IsProgram → (a : App) (words : List Text) → a ≡ line → (is_simple_and_free a ≡ true → fault_of a words ≡ []) → fault_of line words ≡ []
  no_fault p a words is h = subst (λ (x : App). is_simple_and_free x ≡ true → fault_of x words ≡ []) is h p.free

  -- the name and the rows that the code reads are those of the arguments
  pub rows_read : IsProgram → (a : App) (words : List Text) (m inner : ArgMatches) (name : Text) → a ≡ line → HasMatchesOf a words m → Some name ≡ subcommand_name_of m
      → Some (rows_of (found_of inner)) ≡ option_map (λ p. p.1) (subcommand_rows_of m) → subcommand_of line words ≡ Some (name, rows_of (found_of inner))
  rows_read p a words m inner name is has named rows =
      let sub : subcommand_rows_of m ≡ subcommand_of line words = (subst (λ (x : App). HasMatchesOf x words m) is has p.simple).1 in
      sym sub ∙ pair_read (subcommand_rows_of m) name (rows_of (found_of inner)) (named ∙ names_read (out-ArgMatches m).subcommand) rows

  -- they determine the command
  pub order_read : IsProgram → (a : App) (words : List Text) (m inner : ArgMatches) (name : Text) → a ≡ line → HasMatchesOf a words m → Some name ≡ subcommand_name_of m
      → Some (rows_of (found_of inner)) ≡ option_map (λ p. p.1) (subcommand_rows_of m) → order_by line ordered words ≡ ordered name (rows_of (found_of inner))
  order_read p a words m inner name is has named rows =
      ap (option_and_then (λ p. ordered p.0 p.1)) (rows_read p a words m inner name is has named rows)
