-- How a refused parse is reported, and what one without a fault returns: each row has a value. The word `help` names no subcommand.
use Rattle.std.proofs.Common.{◌≡◌, ◌<◌, ◌+◌, ◌&&◌, ◌||◌, ℕ, Bool, cond, true, false, zero, suc, refl, arith, List, [], ◌∷◌, ◌++◌, length, drop, Option, Some, None, inl}
use Rattle.std.proofs.Common.{inr, nat_lt, length-append, not, ap, codes, find, fold, is_some, slice_get, encode_utf8, option_and_then, IfSome, min, ◌==◌}
use Rattle.std.specs.Prelude.{⊤}
use Rattle.std.specs.{List.list_all, List.list_any, Option.option_map_or, Str.bytes_eq, Str.chars}
use Rattle.std.proofs.lemmas.Bool.{and_parts}
use Rattle.clap.specs.Kinds.{Kinds, or_else, range_kinds, IsAmong, check_kinds, request_kinds, value_kinds, values_kinds}
use Rattle.clap.specs.Walk.{Held, Names, Outcome, Row, Rule, Step, Text, Waiting, Walk, done, waits, plain, refused, option, trailing, value, action_of}
use Rattle.clap.specs.Walk.{after_flag, after_step, arg_by_id, arg_by_index, arg_by_long, arg_by_short, at_row, attached_value, bundle, bundle_met, bundle_step, count_of}
use Rattle.clap.specs.Walk.{default_rows, finished, first_of, flag_met, has_row, is_empty, is_pending, long_met, long_or_other, more_values, most_values, new_count}
use Rattle.clap.specs.Walk.{nothing_held, option_met, option_word, plain_word, reacted, reading_by, settled, short_met, short_or_plain, subcommand_met}
use Rattle.clap.specs.Walk.{subcommand_or_other, takes_several, takes_values, to_positional, used, used_as, used_by_id, values_or_missing, walk, walk_from, walked}
use Rattle.clap.specs.Walk.{with_count, with_default, with_values, without, word_met, answers_to, rows_after, settled_rows, walked_from}
use Rattle.clap.specs.Faults.{bundle_fault, bundle_step_fault, flag_word_fault, flags_fault, long_fault, option_fault, other_fault, positional_fault, react_fault}
use Rattle.clap.specs.Faults.{settle_fault, short_fault, step_fault, turn_fault, use_fault, walk_fault, word_fault, action_fault, built_fault, check_fault, count_fault}
use Rattle.clap.specs.Faults.{default_fault, defaults_fault, entered_fault, given_default_fault, level_fault, repeat_fault, set_fault, stray_fault, values_fault}
use Rattle.clap.specs.declared.builder.action.ArgAction.TheVariants.{Set, Append, SetTrue, SetFalse, Count, Help, HelpShort, HelpLong, Version}
use Rattle.clap.specs.declared.parser.matches.ValueSource.TheVariants.{DefaultValue, CommandLine}
use Rattle.clap.specs.{Lexer.long_of, Lexer.short_of, Values.is_request, Values.refused_kind, Facts.unwrap_or_range, Facts.explicit_source, Facts.parser_of_value}
use Rattle.clap.specs.{Matches.count_text, Takes.is_given, Simple.Shape, Simple.App, Simple.entered, Simple.label_of, Simple.names_of}
use Rattle.clap.specs.{declared.builder.action.ArgAction.ArgAction, declared.builder.value_parser.Reading.Reading, declared.parser.matches.ValueSource.ValueSource}
use Rattle.clap.specs.{ValueTests.accepts, declared.builder.value_parser.ValueParser.ValueParser, declared.error.kind.ErrorKind.ErrorKind}
use Rattle.bd_cli_args.specs.FileCommands.{explain_refusal}
use Rattle.clap.specs.declared.error.kind.ErrorKind.TheVariants as kind

left_nil : (a b : Kinds) → or_else a b ≡ [] → a ≡ []
left_nil [] b e = refl
left_nil (k ∷ ks) b e = e

-- ---- rows

abbrev pub AllFilled : List Row → Type 0
AllFilled [] = ⊤
AllFilled (r ∷ rs) = (0 < length r.values) × AllFilled rs

filled-append : (xs ys : List Row) → AllFilled xs → AllFilled ys → AllFilled (xs ++ ys)
filled-append [] ys a b = b
filled-append (x ∷ xs) ys a b = (a.0, filled-append xs ys a.1 b)

at_row-filled : (id : Text) (change : Row → List Row) (missing rows : List Row) → ((r : Row) → AllFilled (change r)) → AllFilled missing → AllFilled rows
    → AllFilled (at_row id change missing rows)
at_row-filled id change missing [] ch mi h = mi
at_row-filled id change missing (r ∷ rs) ch mi h =
    elim (bytes_eq r.id id) as (λ b. AllFilled (cond b (change r ++ rs) (r ∷ at_row id change missing rs))) [
      | true ↦ filled-append (change r) rs (ch r) h.1
      | false ↦ (h.0, at_row-filled id change missing rs ch mi h.1)
    ]

more-filled : (xs ys : List Text) → 0 < length ys → 0 < length (xs ++ ys)
more-filled xs ys lt = rw (length-append xs ys) (omega arith)

without-filled : (id : Text) (rows : List Row) → AllFilled rows → AllFilled (without id rows)
without-filled id rows h = at_row-filled id (λ _. []) [] rows (λ _. tt) tt h

with_values-filled : (id : Text) (how : Reading) (s : ValueSource) (values : List Text) (rows : List Row) → 0 < length values → AllFilled rows
    → AllFilled (with_values id how s values rows)
with_values-filled id how s values rows lt h =
    at_row-filled id (more_values s values) _ rows (λ r. (more-filled r.values values lt, tt)) (lt, tt) h

with_count-filled : (id : Text) (how : Reading) (s : ValueSource) (n : ℕ) (rows : List Row) → AllFilled rows → AllFilled (with_count id how s n rows)
with_count-filled id how s n rows h =
    let one : 0 < 1 = omega arith in
    at_row-filled id (new_count s n) _ rows (λ r. (more-filled r.values (count_text n ∷ []) one, tt)) (one, tt) h

used_as-filled : (x : ArgAction) (id : Text) (how : Reading) (values : List Text) (rows : List Row) → (is_request x ≡ false → 0 < length values) → AllFilled rows
    → AllFilled (used_as x id how values rows)
used_as-filled Set id how values rows some h = with_values-filled id how CommandLine values (without id rows) (some refl) (without-filled id rows h)
used_as-filled SetTrue id how values rows some h = with_values-filled id how CommandLine values (without id rows) (some refl) (without-filled id rows h)
used_as-filled SetFalse id how values rows some h = with_values-filled id how CommandLine values (without id rows) (some refl) (without-filled id rows h)
used_as-filled Append id how values rows some h = with_values-filled id how CommandLine values rows (some refl) h
used_as-filled Count id how [] rows some h = with_count-filled id how CommandLine (min (count_of id rows + 1) 255) (without id rows) (without-filled id rows h)
used_as-filled Count id how (v ∷ vs) rows some h = with_values-filled id how CommandLine (v ∷ vs) (without id rows) (some refl) (without-filled id rows h)
used_as-filled _ id how values rows some h = h

-- ---- how a refusal is reported

-- all kinds are reported as the first
abbrev pub SameExplained : Kinds → Type 0
SameExplained [] = ⊤
SameExplained (k ∷ ks) = (x : ErrorKind) → IsAmong x ks → explain_refusal x ≡ explain_refusal k

one : (k : ErrorKind) → SameExplained (k ∷ [])
one k x a = absurd a

same-or_else : (a b : Kinds) → SameExplained a → SameExplained b → SameExplained (or_else a b)
same-or_else [] b sa sb = sb
same-or_else (k ∷ ks) b sa sb = sa

same-cond : (c : Bool) (a b : Kinds) → SameExplained a → SameExplained b → SameExplained (cond c a b)
same-cond true a b sa sb = sa
same-cond false a b sa sb = sb

-- ---- a use of an argument

same-value : (i : Bool) (p : ValueParser) (t : Text) → SameExplained (value_kinds i p t)
same-value i p t = same-cond (accepts i p t) [] (refused_kind p ∷ []) tt (one (refused_kind p))

same-values : (i : Bool) (p : ValueParser) (ts : List Text) → SameExplained (values_kinds i p ts)
same-values i p [] = tt
same-values i p (t ∷ ts) = same-or_else (value_kinds i p t) (values_kinds i p ts) (same-value i p t) (same-values i p ts)

same-count : (a : Rule) (values : List Text) (rows : List Row) → SameExplained (count_fault a values rows)
same-count a [] rows = same-value a.ignore_case (parser_of_value a.parser) (count_text (min (count_of a.id rows + 1) 255))
same-count a (v ∷ vs) rows = same-values a.ignore_case (parser_of_value a.parser) (v ∷ vs)

same-set : (again : Bool) (a : Rule) (values : List Text) (rows : List Row) → SameExplained (set_fault again a values rows)
same-set again a values rows =
    same-or_else (repeat_fault again a.id rows) (values_fault a values)
    (same-cond (has_row a.id rows && not again) (kind.ArgumentConflict ∷ []) [] (one kind.ArgumentConflict) tt) (same-values a.ignore_case (parser_of_value a.parser) values)

same-request : (x : ArgAction) → SameExplained (request_kinds x)
same-request Help = one kind.DisplayHelp
same-request HelpShort = one kind.DisplayHelp
same-request HelpLong = one kind.DisplayHelp
same-request Version = one kind.DisplayVersion
same-request _ = tt

same-action : (x : ArgAction) (again : Bool) (a : Rule) (values : List Text) (rows : List Row) → SameExplained (action_fault x again a values rows)
same-action Set again a values rows = same-set again a values rows
same-action SetTrue again a values rows = same-set again a values rows
same-action SetFalse again a values rows = same-set again a values rows
same-action Append again a values rows = same-values a.ignore_case (parser_of_value a.parser) values
same-action Count again a values rows = same-count a values rows
same-action _ again a values rows = λ x none. absurd none

same-range : (least most n : ℕ) → SameExplained (range_kinds least most n)
same-range least most n =
    same-cond (nat_lt 0 least && n == 0) _ _ (one kind.InvalidValue) (same-cond (least == most) _ _
    (same-cond (least == n) _ _ tt (one kind.WrongNumberOfValues))
    (same-cond (nat_lt n least) _ _ (one kind.TooFewValues) (same-cond (nat_lt most n) _ _ (one kind.TooManyValues) tt)))

same-use : (again : Bool) (a : Rule) (values : List Text) (rows : List Row) → SameExplained (use_fault again a values rows)
same-use again a values rows =
    same-or_else (range_kinds (unwrap_or_range a.range).start_inclusive (most_values a) (length values)) _
    (same-range (unwrap_or_range a.range).start_inclusive (most_values a) (length values)) (same-action (action_of a) again a (values_or_missing a values) rows)

-- a use of the argument without a fault has a value, or adds no row
abbrev fills : Rule → Bool
fills a = is_request (action_of a) || nat_lt 0 (unwrap_or_range a.range).start_inclusive || nat_lt 0 (length a.missing)

used-filled : (again : Bool) (a : Rule) (values : List Text) (rows : List Row) → fills a ≡ true → use_fault again a values rows ≡ [] → AllFilled rows
    → AllFilled (used a values rows)
used-filled again a (v ∷ vs) rows fill e h = used_as-filled (action_of a) a.id (reading_by a) (v ∷ vs) rows (λ no. omega arith) h
used-filled again a [] rows fill e h = used_as-filled (action_of a) a.id (reading_by a) a.missing rows
    (λ no. cases (nat_lt 0 (unwrap_or_range a.range).start_inclusive) refl (left_nil _ _ e) (rw no at fill)) h
  where
    cases : (n : Bool) → nat_lt 0 (unwrap_or_range a.range).start_inclusive ≡ n → range_kinds (unwrap_or_range a.range).start_inclusive (most_values a) 0 ≡ []
        → (n || nat_lt 0 (length a.missing)) ≡ true → 0 < length a.missing
    cases true is_n ranged fill = let f : ⊥ = grind arith in absurd f
    cases false is_n ranged fill = grind arith

found-passes : {X : Type 0} (keeps p : X → Bool) (xs : List X) → list_all keeps xs ≡ true → IfSome (find p xs) (λ x. keeps x ≡ true)
found-passes keeps p [] all = tt
found-passes keeps p (x ∷ xs) all =
    let both : (keeps x ≡ true) × (list_all keeps xs ≡ true) = grind arith in
    elim (p x) as (λ b. IfSome (cond b (Some x) (find p xs)) (λ y. keeps y ≡ true)) [
      | true ↦ both.0
      | false ↦ found-passes keeps p xs both.1
    ]

-- all refusals of a step are reported as one fault; if it is not refused, P holds
pub record Sound (kinds : Kinds) (P : Type 0) : Type 0 where
  pub explained : SameExplained kinds
  pub leaves : kinds ≡ [] → P

nothing : {P : Type 0} → P → Sound [] P
nothing p = record { explained = tt; leaves = λ e. p }

single : {P : Type 0} (k : ErrorKind) → Sound (k ∷ []) P
single k = record { explained = one k; leaves = λ e. let f : ⊥ = cc in absurd f }

in_turn : {P Q : Type 0} (a b : Kinds) → Sound a P → (P → Sound b Q) → Sound (or_else a b) Q
in_turn [] b first more = more (first.leaves refl)
in_turn (k ∷ ks) b first more = record { explained = first.explained; leaves = λ e. let f : ⊥ = cc in absurd f }

kept_on : {P Q : Type 0} {kinds : Kinds} → Sound kinds P → (P → Q) → Sound kinds Q
kept_on s more = record { explained = s.explained; leaves = λ e. more (s.leaves e) }

itself : (kinds : Kinds) → SameExplained kinds → Sound kinds (kinds ≡ [])
itself kinds same = record { explained = same; leaves = λ e. e }

used-sound : (again : Bool) (a : Rule) (values : List Text) (rows : List Row) → fills a ≡ true → AllFilled rows → Sound (use_fault again a values rows) (AllFilled (used a values rows))
used-sound again a values rows fill h = record { explained = same-use again a values rows; leaves = λ e. used-filled again a values rows fill e h }

same-stray : (s : Shape) → SameExplained (stray_fault s)
same-stray s = same-cond s.is_leaf (kind.UnknownArgument ∷ []) (kind.UnknownArgument ∷ kind.InvalidSubcommand ∷ []) (one kind.UnknownArgument)
    (λ x a. elim a [ inl e ↦ ap explain_refusal e | inr none ↦ absurd none ])

-- ---- the scan of the arguments

module _ (c : List Rule) (again : Bool) (fill : list_all fills c ≡ true) where
  by_id-sound : (o : Option Rule) (values : List Text) (rows : List Row) → IfSome o (λ a. fills a ≡ true) → AllFilled rows
      → Sound (option_map_or (λ a. use_fault again a values rows) o []) (AllFilled (used_by_id o values rows))
  by_id-sound None values rows fa h = nothing h
  by_id-sound (Some a) values rows fa h = used-sound again a values rows fa h

  pending-sound : (p : Option (Text × List Text)) (rows : List Row) → AllFilled rows
      → Sound (option_map_or (λ p. option_map_or (λ a. use_fault again a p.1 rows) (arg_by_id c p.0) []) p []) (AllFilled (settled_rows c p rows))
  pending-sound None rows h = nothing h
  pending-sound (Some p) rows h = by_id-sound (arg_by_id c p.0) p.1 rows (found-passes fills (λ a. bytes_eq a.id p.0) c fill) h

  settled-sound : (h : Held) → AllFilled h.rows → Sound (settle_fault c again h) (AllFilled (settled c h).rows)
  settled-sound h rows = pending-sound h.pending h.rows rows

  reacted-sound : (a : Rule) (values : List Text) (h : Held) → fills a ≡ true → AllFilled h.rows → Sound (react_fault c again a values h) (AllFilled (reacted c a values h).rows)
  reacted-sound a values h fa rows = in_turn (settle_fault c again h) _ (settled-sound h rows) (used-sound again a values (settled c h).rows fa)

  option-sound : (a : Rule) (v : Option Text) (h : Held) → fills a ≡ true → AllFilled h.rows → Sound (option_fault c again a v h) (AllFilled (option_met c a v h).0.rows)
  option-sound a (Some v) h fa rows = reacted-sound a (v ∷ []) h fa rows
  option-sound a None h fa rows = settled-sound h rows

  flag-sound : (a : Rule) (v : Option Text) (h : Held) → fills a ≡ true → AllFilled h.rows
      → Sound (cond (is_some v) (kind.TooManyValues ∷ []) (react_fault c again a [] h)) (AllFilled (flag_met c a v h).0.rows)
  flag-sound a (Some v) h fa rows = single kind.TooManyValues
  flag-sound a None h fa rows = reacted-sound a [] h fa rows

  long-sound : (o : Option Rule) (v : Option Text) (h : Held) → IfSome o (λ a. fills a ≡ true) → AllFilled h.rows
      → Sound (long_fault c again o v h) (AllFilled (long_met c o v h).0.rows)
  long-sound None v h fa rows = single kind.UnknownArgument
  long-sound (Some a) v h fa rows =
      elim (takes_values a) as (λ b. Sound (cond b (option_fault c again a v h) (cond (is_some v) (kind.TooManyValues ∷ []) (react_fault c again a [] h)))
      (AllFilled (cond b (option_met c a v h) (flag_met c a v h)).0.rows)) [
        | true ↦ option-sound a v h fa rows
        | false ↦ flag-sound a v h fa rows
      ]

  short-sound : (o : Option Rule) (rest : Text) (h : Held) (then : Held → Held × Outcome) (fault : Held → Kinds) → IfSome o (λ a. fills a ≡ true)
      → ((h : Held) → AllFilled h.rows → Sound (fault h) (AllFilled (then h).0.rows)) → AllFilled h.rows
      → Sound (short_fault c again o rest h fault) (AllFilled (short_met c o rest h then).0.rows)
  short-sound None rest h then fault fa more rows = single kind.UnknownArgument
  short-sound (Some a) rest h then fault fa more rows =
      elim (takes_values a) as (λ b. Sound (cond b (option_fault c again a (attached_value rest) h) (or_else (react_fault c again a [] h) (fault (reacted c a [] h))))
      (AllFilled (cond b (option_met c a (attached_value rest) h) (then (reacted c a [] h))).0.rows)) [
        | true ↦ option-sound a (attached_value rest) h fa rows
        | false ↦ in_turn (react_fault c again a [] h) _ (reacted-sound a [] h fa rows) (more (reacted c a [] h))
      ]

  bundle_step-sound : (o : Option ℕ) (flags : Text) (skip : ℕ) (so_far : Outcome) (h : Held) (then : Text → ℕ → Outcome → Held → Held × Outcome)
      (fault : Text → ℕ → Held → Kinds)
      → ((flags : Text) (skip : ℕ) (so_far : Outcome) (h : Held) → AllFilled h.rows → Sound (fault flags skip h) (AllFilled (then flags skip so_far h).0.rows))
      → AllFilled h.rows → Sound (bundle_step_fault c again o flags skip h fault) (AllFilled (bundle_step c o flags skip so_far h then).0.rows)
  bundle_step-sound None flags skip so_far h then fault more rows = nothing rows
  bundle_step-sound (Some x) flags zero so_far h then fault more rows =
      let rest = drop (length (encode_utf8 x)) flags in
      short-sound (arg_by_short c x) rest h (then rest 0 done) (fault rest 0) (found-passes fills _ c fill) (more rest 0 done) rows
  bundle_step-sound (Some x) flags (suc skip) so_far h then fault more rows = more (drop (length (encode_utf8 x)) flags) skip so_far h rows

  bundle-sound : (k : ℕ) (flags : Text) (skip : ℕ) (so_far : Outcome) (h : Held) → AllFilled h.rows
      → Sound (flags_fault c again k flags skip h) (AllFilled (bundle_met c k flags skip so_far h).0.rows)
  unfolding bundle_met flags_fault
  bundle-sound zero flags skip so_far h rows = nothing rows
  bundle-sound (suc k) flags skip so_far h rows =
      bundle_step-sound (slice_get (chars flags) 0) flags skip so_far h (bundle_met c k) (flags_fault c again k) (bundle-sound k) rows

  option_word-filled : (o : Option Rule) (id word : Text) (h : Held) → AllFilled h.rows → AllFilled (option_word o id word h).0.rows
  option_word-filled None id word h rows = rows
  option_word-filled (Some a) id word h rows = rows

  plain-filled : (waiting : Waiting) (word : Text) (h : Held) → AllFilled h.rows → AllFilled (plain_word c waiting word h).0.rows
  plain-filled (option id) word h rows = option_word-filled (arg_by_id c id) id word h rows
  plain-filled _ word h rows = rows

  after-filled : (waiting : Waiting) (word : Text) (h : Held) (o : Outcome) → AllFilled h.rows → AllFilled (after_flag c waiting word h o).0.rows
  after-filled waiting word h done rows = rows
  after-filled waiting word h (waits id) rows = rows
  after-filled waiting word h plain rows = plain-filled waiting word h rows
  after-filled waiting word h refused rows = plain-filled waiting word h rows

  short_word-sound : (waiting : Waiting) (word : Text) (o : Option Text) (h : Held) → AllFilled h.rows
      → Sound (option_map_or (λ flags. bundle_fault c again flags h) o []) (AllFilled (short_or_plain c waiting word o h).0.rows)
  short_word-sound waiting word None h rows = nothing (plain-filled waiting word h rows)
  short_word-sound waiting word (Some flags) h rows =
      kept_on (bundle-sound (length flags) flags h.skip plain (record h { skip = 0 }) rows) (after-filled waiting word (bundle c flags h).0 (bundle c flags h).1)

  flag_word-sound : (waiting : Waiting) (word : Text) (o : Option (Text × Option Text)) (h : Held) → AllFilled h.rows
      → Sound (flag_word_fault c again o word h) (AllFilled (long_or_other c waiting word o h).0.rows)
  flag_word-sound waiting word None h rows = short_word-sound waiting word (short_of word) h rows
  flag_word-sound waiting word (Some p) h rows =
      let met = long_met c (arg_by_long c p.0) p.1 h in
      kept_on (long-sound (arg_by_long c p.0) p.1 h (found-passes fills _ c fill) rows) (after-filled waiting word met.0 met.1)

  positional-sound : (o : Option Rule) (word : Text) (w : Walk) (h : Held) (stray : Kinds) → SameExplained stray → AllFilled h.rows
      → Sound (option_map_or (λ a. positional_fault c again a h) o stray) (AllFilled (to_positional c o word w h).held.rows)
  positional-sound None word w h stray same rows = record { explained = same; leaves = λ e. rows }
  positional-sound (Some a) word w h stray same rows =
      elim (is_pending a h.pending && takes_several a) as (λ b. Sound (cond b [] (settle_fault c again h)) (AllFilled (cond b h (settled c h)).rows)) [
        | true ↦ nothing rows
        | false ↦ settled-sound h rows
      ]

module _ (s : Shape) (names : Names) (no_help : s.disable_help_subcommand ≡ true) (fill : list_all fills s.rules ≡ true) where
  other-sound : (met : Option Text) (waiting : Waiting) (position : ℕ) (word : Text) (h : Held) → AllFilled h.rows
      → Sound (other_fault s met word h) (AllFilled (subcommand_or_other s.rules met waiting position word h).0.rows)
  other-sound (Some name) waiting position word h rows =
      rw no_help (elim (bytes_eq name (codes "help")) as (λ b. Sound (cond (b && false) (kind.DisplayHelp ∷ kind.InvalidSubcommand ∷ []) []) (AllFilled h.rows)) [
        | true ↦ nothing rows
        | false ↦ nothing rows
      ])
  other-sound None waiting position word h rows =
      elim (bytes_eq word (45 ∷ 45 ∷ [])) as (λ b. Sound (cond b [] (flag_word_fault s.rules s.args_override_self (long_of word) word h))
      (AllFilled (cond b (h, trailing position) (long_or_other s.rules waiting word (long_of word) h)).0.rows)) [
        | true ↦ nothing rows
        | false ↦ flag_word-sound s.rules s.args_override_self fill waiting word (long_of word) h rows
      ]

  word-sound : (is_trailing : Bool) (waiting : Waiting) (position : ℕ) (word : Text) (h : Held) → AllFilled h.rows
      → Sound (word_fault s names is_trailing waiting word h) (AllFilled (word_met s.rules names is_trailing waiting position word h).0.rows)
  word-sound true waiting position word h rows = nothing rows
  word-sound false waiting position word h rows = other-sound (subcommand_met names waiting word) waiting position word h rows

  step-sound : (word : Text) (w : Walk) (h : Held) (step : Step) → AllFilled h.rows
      → Sound (step_fault s w.position h step) (AllFilled (after_step s.rules word w h step).held.rows)
  step-sound word w h value rows =
      positional-sound s.rules s.args_override_self fill (arg_by_index s.rules w.position) word w h (stray_fault s) (same-stray s) rows
  step-sound word w h _ rows = nothing rows

  turn-sound : (stopped : Option (Text × List Text)) (w : Walk) (word : Text) → w.stopped ≡ stopped → AllFilled w.held.rows
      → Sound (turn_fault s names w word) (AllFilled (walked_from s.rules names stopped w word).held.rows)
  turn-sound (Some p) w word is rows = let over : is_some w.stopped ≡ true = rw is refl in rw over (nothing rows)
  turn-sound None w word is rows =
      let met = word_met s.rules names w.is_trailing w.waiting w.position word w.held in
      let goes_on : is_some w.stopped ≡ false = rw is refl in
      rw goes_on (in_turn (word_fault s names w.is_trailing w.waiting word w.held) (step_fault s w.position met.0 met.1)
      (word-sound w.is_trailing w.waiting w.position word w.held rows) (step-sound word w met.0 met.1))

  walk-sound : (w : Walk) (words : List Text) → AllFilled w.held.rows
      → Sound (walk_fault s names w words) (AllFilled (fold (walked s.rules names) w words).held.rows)
  unfolding walked walk_fault
  walk-sound w [] rows = nothing rows
  walk-sound w (word ∷ rest) rows = in_turn (turn_fault s names w word) _ (turn-sound w.stopped w word refl rows) (walk-sound (walked s.rules names w word) rest)

-- ---- after the scan

default-filled : (id : Text) (how : Reading) (values : List Text) (rows : List Row) → AllFilled rows → AllFilled (default_rows id how values rows)
default-filled id how [] rows h = h
default-filled id how (v ∷ vs) rows h = with_values-filled id how DefaultValue (v ∷ vs) rows (omega arith) h

with_default-filled : (rows : List Row) (a : Rule) → AllFilled rows → AllFilled (with_default rows a)
with_default-filled rows a h =
    elim (has_row a.id rows) as (λ b. AllFilled (cond b rows (default_rows a.id (reading_by a) a.defaults rows))) [
      | true ↦ h
      | false ↦ default-filled a.id (reading_by a) a.defaults rows h
    ]

defaults-filled : (c : List Rule) (rows : List Row) → AllFilled rows → AllFilled (fold with_default rows c)
defaults-filled [] rows h = h
defaults-filled (a ∷ c) rows h = defaults-filled c (with_default rows a) (with_default-filled rows a h)

same-default : (rows : List Row) (a : Rule) → SameExplained (default_fault rows a)
same-default rows a = same-cond (has_row a.id rows || is_empty a.defaults) [] (given_default_fault a a.defaults) tt
    (same-or_else (request_kinds (action_of a)) (values_fault a a.defaults) (same-request (action_of a)) (same-values a.ignore_case (parser_of_value a.parser) a.defaults))

same-defaults : (rows : List Row) (c : List Rule) → SameExplained (defaults_fault rows c)
unfolding defaults_fault
same-defaults rows [] = tt
same-defaults rows (a ∷ rest) = same-or_else (default_fault rows a) _ (same-default rows a) (same-defaults (with_default rows a) rest)

same-checks : (a b c : Bool) → SameExplained (check_kinds a b c)
same-checks a b c = same-cond a _ _ (one kind.DisplayHelpOnMissingArgumentOrSubcommand)
    (same-cond b _ _ (one kind.MissingSubcommand) (same-cond c _ _ (one kind.MissingRequiredArgument) tt))

same-check : (s : Shape) (rows : List Row) (has : Bool) → SameExplained (check_fault s rows has)
same-check s rows has =
    same-checks (not has && (s.arg_required_else_help && not (list_any (λ r. explicit_source r.source) rows))) (not has && s.subcommand_required)
    (not (s.subcommand_negates_reqs && has) && list_any (λ a. a.required && not (is_given a.id rows)) s.rules)

-- a level at which the word `help` names no subcommand, and each use of an argument has a value
abbrev pub is_plain : Shape → Bool
is_plain s = s.disable_help_subcommand && list_all fills s.rules

-- one level of a command line: all its faults are reported as one,
-- and without a fault each argument has a value
pub level-sound : (s : Shape) (names : Names) (words : List Text) (has : Bool) (below : Kinds) → is_plain s ≡ true → SameExplained below
    → Sound (level_fault s names nothing_held words has below)
    (AllFilled (rows_after s.rules names words) × (below ≡ []) × (check_fault s (rows_after s.rules names words) has ≡ []))
level-sound s names words has below meets same =
    let both = and_parts s.disable_help_subcommand (list_all fills s.rules) meets in
    let end = (walk s.rules names nothing_held words).held in
    in_turn (walk_fault s names (walk_from nothing_held) words) _ (walk-sound s names both.0 both.1 (walk_from nothing_held) words tt) (λ walked.
    in_turn below _ (itself below same) (λ entered.
    in_turn (settle_fault s.rules s.args_override_self end) _ (settled-sound s.rules s.args_override_self both.1 end walked) (λ rows.
    in_turn (defaults_fault (settled s.rules end).rows s.rules) _
    (kept_on (itself _ (same-defaults (settled s.rules end).rows s.rules)) (λ e. defaults-filled s.rules (settled s.rules end).rows rows)) (λ filled.
    kept_on (itself _ (same-check s (finished s.rules end) has)) (λ checked. (filled, entered, checked))))))

-- all faults of a subcommand are reported as one
pub same-entered : (a : App) (stop : Option (Text × List Text)) → list_all is_plain a.subs ≡ true → SameExplained (entered_fault a stop)
same-entered a None meets = tt
same-entered a (Some p) meets =
    found (find (λ s. answers_to p.0 (label_of s)) a.subs) (found-passes is_plain (λ s. answers_to p.0 (label_of s)) a.subs meets)
  where
    found : (o : Option Shape) → IfSome o (λ s. is_plain s ≡ true) → SameExplained (option_map_or (λ s. level_fault s [] nothing_held p.1 false []) o [])
    found None meets = tt
    found (Some s) meets = (level-sound s [] p.1 false [] meets tt).explained

-- all faults of a command line are reported as one
pub same-fault : (a : App) (words : List Text) → (is_plain a.top && list_all is_plain a.subs) ≡ true → SameExplained (built_fault a nothing_held words)
same-fault a words meets =
    let both = and_parts (is_plain a.top) (list_all is_plain a.subs) meets in
    let stop = (walk a.top.rules (names_of a) nothing_held words).stopped in
    (level-sound a.top (names_of a) words (is_some (entered a stop)) (entered_fault a stop) both.0 (same-entered a stop both.1)).explained

-- ---- each given argument has a value

first_value_there : (values : List Text) → 0 < length values → is_some (slice_get values 0) ≡ true
first_value_there [] lt = absurd (omega arith)
first_value_there (v ∷ vs) lt = refl

-- a given argument has a first value
pub given_first : (id : Text) (rows : List Row) → AllFilled rows → is_given id rows ≡ true → is_some (first_of id rows) ≡ true
given_first id [] h e = let f : ⊥ = cc in absurd f
given_first id (r ∷ rs) h e =
    (elim (bytes_eq r.id id) as (λ b. option_map_or (λ (r : Row). explicit_source r.source) (cond b (Some r) (find (λ r. bytes_eq r.id id) rs)) false ≡ true
    → is_some (option_and_then (λ (r : Row). slice_get r.values 0) (cond b (Some r) (find (λ r. bytes_eq r.id id) rs))) ≡ true) [
      | true ↦ λ e. first_value_there r.values h.0
      | false ↦ λ e. given_first id rs h.1 e
    ]) e
