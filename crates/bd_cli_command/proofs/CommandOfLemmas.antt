-- Lemmas on the fields of a document, a position at a time, and on its first fault.
use Rattle.std.proofs.Common.{◌≡◌, ◌≤◌, ◌<◌, ◌+◌, ℕ, zero, suc, List, [], ◌∷◌, ◌++◌, take, drop, length, Bool, true, false, cond, ltb, Option, Some, None, Ok, Err, inl, inr, refl, sym, ap, ap₂, subst}
use Rattle.std.proofs.Common.{◌∙◌, arith, add-one}
use Rattle.std.proofs.{lemmas.Bool.ltb-true, lemmas.Bool.ltb-false, lemmas.List.drop_all, lemmas.List.take_all, lemmas.Option.slice_get_within}
use Rattle.std.specs.Prelude.{◌⊎◌, ◌↔◌, slice_get, is_some, if◌then◌else◌}
use Rattle.std.specs.{List.list_all, Option.option_map_or, Option.option_or, Str.bytes_eq}
use Rattle.bd_value.specs.Tree.{first_of, Doc, Pair, Tree}
use Rattle.bd_cli_command.specs.{Command.Command, declared.command.CommandFault.CommandFault, declared.field.CommandName.CommandName, declared.field.FieldKind.FieldKind}
use Rattle.bd_cli_command.specs.Field.{command_fields, entry_of, fits_field, required_fields}
use Rattle.bd_cli_command.specs.CommandOf.{FieldsKeepRules, FirstBreak, IsCommandDocument, IsFaultOf, command_in, command_of}
use Rattle.bd_cli_command.specs.CommandOf.{first_command, missing_fault, pair_fault, pairs_fault}
use Rattle.bd_value.proofs.ViewLemmas as lookup

-- a pair of a prefix
pub at_prefix : (d : Doc) (i n : ℕ) (p : Pair) → i < n → slice_get d i ≡ Some p → slice_get (take n d) i ≡ Some p
at_prefix [] i n p lt is = absurd cc
at_prefix (q ∷ d) zero zero p lt is = let f : ⊥ = omega (arith, lt) in absurd f
at_prefix (q ∷ d) (suc i) zero p lt is = let f : ⊥ = omega (arith, lt) in absurd f
at_prefix (q ∷ d) zero (suc n) p lt is = is
at_prefix (q ∷ d) (suc i) (suc n) p lt is = at_prefix d i n p (omega (arith, lt)) is

-- a prefix, with the next pair
pub prefix_with : (d : Doc) (i : ℕ) (p : Pair) → slice_get d i ≡ Some p → take (i + 1) d ≡ take i d ++ p ∷ []
prefix_with [] i p is = absurd cc
prefix_with (q ∷ d) zero p is = cc
prefix_with (q ∷ d) (suc i) p is =
    let e : take (i + 1) d ≡ take (suc i) d = rw add-one refl in
    rw add-one (ap (λ (ps : Doc). q ∷ ps) (sym e ∙ prefix_with d i p is))

-- ---- whether a name is before a position

module _ (name : List ℕ) (d : Doc) (i n : ℕ) (p : Pair) (lt : i < n) (at : slice_get d i ≡ Some p)
    (so_far : first_of name (drop i (take n d)) ≡ first_of name (take n d)) where
  pub name_skipped : false ≡ bytes_eq p.0 name → first_of name (drop (i + 1) (take n d)) ≡ first_of name (take n d)
  name_skipped other = lookup.skipped name (take n d) i p _ (at_prefix d i n p lt at) so_far other

  pub name_found : true ≡ bytes_eq p.0 name → true ≡ is_some (first_of name (take n d))
  name_found same = sym (ap (λ (o : Option Tree). is_some o) (lookup.found name (take n d) i p _ (at_prefix d i n p lt at) so_far same))

-- ---- the first fault

pub there : (d : Doc) (i : ℕ) → i < length d → (p : Pair) × (slice_get d i ≡ Some p)
there [] i lt = let f : ⊥ = omega (arith, lt) in absurd f
there (q ∷ d) zero lt = (q, refl)
there (q ∷ d) (suc i) lt = there d i (omega (arith, lt))

module _ (command : CommandName) (d : Doc) (i : ℕ) (total fault : Option CommandFault) (lt : i < length d)
    (so_far : pairs_fault command (take i d) (drop i d) ≡ total)
    (here : (p : Pair) → slice_get d i ≡ Some p → fault ≡ pair_fault command (take i d) p) where
  one_more : option_or fault (pairs_fault command (take (i + 1) d) (drop (i + 1) d)) ≡ total
  one_more =
      let p = (there d i lt).0 in
      let at = (there d i lt).1 in
      ap (λ (f : Option CommandFault). option_or f (pairs_fault command (take (i + 1) d) (drop (i + 1) d))) (here p at)
      ∙ ap (λ (before : Doc). option_or (pair_fault command (take i d) p) (pairs_fault command before (drop (i + 1) d))) (prefix_with d i p at)
      ∙ sym (ap (pairs_fault command (take i d)) (lookup.next_at d i p at)) ∙ so_far

  pub fault_later : fault ≡ None → pairs_fault command (take (i + 1) d) (drop (i + 1) d) ≡ total
  fault_later none = sym (ap (λ (f : Option CommandFault). option_or f (pairs_fault command (take (i + 1) d) (drop (i + 1) d))) none) ∙ one_more

  pub fault_here : (f : CommandFault) → fault ≡ Some f → Some f ≡ total
  fault_here f is = sym (ap (λ (o : Option CommandFault). option_or o (pairs_fault command (take (i + 1) d) (drop (i + 1) d))) is) ∙ one_more

pub fault_of_all : (command : CommandName) (d : Doc) (i : ℕ) (total : Option CommandFault) → length d ≤ i → pairs_fault command (take i d) (drop i d) ≡ total
    → missing_fault command d ≡ total
fault_of_all command d i total le so_far =
    sym (ap₂ (pairs_fault command) (take_all i d le) (drop_all i d le)) ∙ so_far

-- there is only one pair at a position
here_alone : (command : CommandName) (d : Doc) (i : ℕ) (p : Pair) → slice_get d i ≡ Some p → (q : Pair) → slice_get d i ≡ Some q
    → pair_fault command (take i d) p ≡ pair_fault command (take i d) q
here_alone command d i p at q also = let same : p ≡ q = cc in ap (pair_fault command (take i d)) same

-- no rule of fields refuses a document as out of memory
abbrev value_fault : Option FieldKind → Tree → Option CommandFault
value_fault kind t = option_map_or (λ kind. if fits_field kind t then None else Some CommandFault.BadField) kind (Some CommandFault.UnknownField)

value_not_wanting : (kind : Option FieldKind) (t : Tree) → value_fault kind t ≡ Some CommandFault.NoMemory → ⊥
value_not_wanting None t is = cc
value_not_wanting (Some kind) t is = go (fits_field kind t) is
  where
    go : (y : Bool) → cond y None (Some CommandFault.BadField) ≡ Some CommandFault.NoMemory → ⊥
    go true e = cc
    go false e = cc

pub never_wanting : (command : CommandName) (before ps : Doc) → pairs_fault command before ps ≡ Some CommandFault.NoMemory → ⊥
never_wanting command before [] is = go (list_all (λ name. is_some (first_of name before)) (required_fields command)) is
  where
    go : (y : Bool) → cond y None (Some CommandFault.MissingField) ≡ Some CommandFault.NoMemory → ⊥
    go true e = cc
    go false e = cc
never_wanting command before (p ∷ ps) is = go (never_wanting command (before ++ p ∷ []) ps) (first_of p.0 before) is
  where
    rest : (o : Option CommandFault) → (o ≡ Some CommandFault.NoMemory → ⊥) → (pairs_fault command (before ++ p ∷ []) ps ≡ Some CommandFault.NoMemory → ⊥)
        → option_or o (pairs_fault command (before ++ p ∷ []) ps) ≡ Some CommandFault.NoMemory → ⊥
    rest None other later e = later e
    rest (Some f) other later e = other e

    go : (pairs_fault command (before ++ p ∷ []) ps ≡ Some CommandFault.NoMemory → ⊥)
        → (o : Option Tree) → option_or (cond (is_some o) (Some CommandFault.RepeatedField) (value_fault (entry_of p.0 (command_fields command)) p.1)) (pairs_fault command (before ++ p ∷ []) ps)
        ≡ Some CommandFault.NoMemory → ⊥
    go later (Some t) e = cc
    go later None e = rest (value_fault (entry_of p.0 (command_fields command)) p.1) (value_not_wanting (entry_of p.0 (command_fields command)) p.1) later e

-- ---- the first fault is that of the first position that has one

module _ (command : CommandName) (d : Doc) where
  one_more_keeps : (i : ℕ) (p : Pair) → slice_get d i ≡ Some p → FieldsKeepRules command d i → pair_fault command (take i d) p ≡ None → FieldsKeepRules command d (i + 1)
  one_more_keeps i p at good keeps j q lt is = go (ltb j i) refl
    where
      go : (y : Bool) → ltb j i ≡ y → pair_fault command (take j d) q ≡ None
      go true e = good j q (ltb-true j i e) is
      go false e =
          let same : j ≡ i = omega (arith, lt, ltb-false j i e) in
          let at_i : slice_get d i ≡ Some q = ap (slice_get d) (sym same) ∙ is in
          ap (λ k. pair_fault command (take k d) q) same ∙ here_alone command d i q at_i p at ∙ keeps

  -- the next field, if the fields before it have no fault
  step : (i : ℕ) (total : Option CommandFault) → i < length d → FieldsKeepRules command d i → pairs_fault command (take i d) (drop i d) ≡ total
      → (FieldsKeepRules command d (i + 1) × (pairs_fault command (take (i + 1) d) (drop (i + 1) d) ≡ total))
      ⊎ ((f : CommandFault) × (Some f ≡ total) × FirstBreak command d f)
  step i total lt good is = go (pair_fault command (take i d) p) refl
    where
      p : Pair
      p = (there d i lt).0

      at : slice_get d i ≡ Some p
      at = (there d i lt).1

      go : (o : Option CommandFault) → pair_fault command (take i d) p ≡ o
          → (FieldsKeepRules command d (i + 1) × (pairs_fault command (take (i + 1) d) (drop (i + 1) d) ≡ total))
          ⊎ ((f : CommandFault) × (Some f ≡ total) × FirstBreak command d f)
      go None e = inl (one_more_keeps i p at good e, fault_later command d i total (pair_fault command (take i d) p) lt is (here_alone command d i p at) e)
      go (Some f) e = inr (
        f,
        fault_here command d i total (pair_fault command (take i d) p) lt is (here_alone command d i p at) f e,
        (i, p, at, good, e),
      )

  abbrev FieldsBreak : CommandFault → Type 0
  FieldsBreak f = FirstBreak command d f ⊎ (FieldsKeepRules command d (length d) × (missing_fault command d ≡ Some f))

  -- all fields are valid, and the fault is that of what is missing; or it is the first fault of a field
  abbrev Ends : Option CommandFault → Type 0
  Ends total = (FieldsKeepRules command d (length d) × (missing_fault command d ≡ total)) ⊎ ((f : CommandFault) × (Some f ≡ total) × FirstBreak command d f)

  found : (k i : ℕ) (total : Option CommandFault) → i + k ≡ length d → FieldsKeepRules command d i → pairs_fault command (take i d) (drop i d) ≡ total → Ends total
  found zero i total size good is = inl ((λ j p lt at. good j p (omega (arith, lt, size)) at), fault_of_all command d i total (omega (arith, size)) is)
  found (suc k) i total size good is = go (found k (i + 1) total (omega (arith, size))) (step i total (omega (arith, size)) good is)
    where
      go : (FieldsKeepRules command d (i + 1) → pairs_fault command (take (i + 1) d) (drop (i + 1) d) ≡ total → Ends total)
          → (FieldsKeepRules command d (i + 1) × (pairs_fault command (take (i + 1) d) (drop (i + 1) d) ≡ total))
          ⊎ ((f : CommandFault) × (Some f ≡ total) × FirstBreak command d f) → Ends total
      go later (inl more) = later more.0 more.1
      go later (inr broken) = inr broken

  ends_so : (total : Option CommandFault) → pairs_fault command [] d ≡ total → Ends total
  ends_so total is = found (length d) 0 total (omega arith) (λ i p lt at. let f : ⊥ = omega (arith, lt) in absurd f) is

  -- fields without a fault are skipped
  kept_passed : (i : ℕ) → i ≤ length d → FieldsKeepRules command d i → pairs_fault command (take i d) (drop i d) ≡ pairs_fault command [] d
  kept_passed zero le good = refl
  kept_passed (suc i) le good =
      let lt : i < length d = omega (arith, le) in
      let p = (there d i lt).0 in
      let at = (there d i lt).1 in
      let before = kept_passed i (omega (arith, le)) (λ j q less is. good j q (omega (arith, less)) is) in
      ap (λ n. pairs_fault command (take n d) (drop n d)) (sym (add-one i))
      ∙ fault_later command d i (pairs_fault command [] d) (pair_fault command (take i d) p) lt before (here_alone command d i p at) (good i p (omega arith) at)

  all_kept : FieldsKeepRules command d (length d) → missing_fault command d ≡ pairs_fault command [] d
  all_kept good = fault_of_all command d (length d) (pairs_fault command [] d) (omega arith) (kept_passed (length d) (omega arith) good)

  fields_refused : (f : CommandFault) → FieldsBreak f → pairs_fault command [] d ≡ Some f
  fields_refused f (inl b) =
      let lt = slice_get_within d b.0 b.1 b.2 in
      sym (fault_here command d b.0 (pairs_fault command [] d) (pair_fault command (take b.0 d) b.1) lt
      (kept_passed b.0 (omega (arith, lt)) b.3) (here_alone command d b.0 b.1 b.2) f b.4)
  fields_refused f (inr (good, missing)) = sym (all_kept good) ∙ missing

  fields_reported : (f : CommandFault) → pairs_fault command [] d ≡ Some f → FieldsBreak f
  fields_reported f is = go (ends_so (Some f) is)
    where
      go : Ends (Some f) → FieldsBreak f
      go (inl kept) = inr kept
      go (inr (g, same, b)) = let e : g ≡ f = cc in inl (subst (FirstBreak command d) e b)

  fields_kept : pairs_fault command [] d ≡ None → FieldsKeepRules command d (length d) × (missing_fault command d ≡ None)
  fields_kept is = go (ends_so None is)
    where
      go : Ends None → FieldsKeepRules command d (length d) × (missing_fault command d ≡ None)
      go (inl kept) = kept
      go (inr (g, same, b)) = absurd cc

-- ---- the document

pub fields_taken_are : (command : CommandName) (d : Doc) → Some command ≡ first_command d → None ≡ pairs_fault command [] d → IsCommandDocument d
fields_taken_are command d is none = let kept = fields_kept command d (sym none) in (command, sym is, kept.0, kept.1)

-- the command of a document, or its fault, decides
of_document : (d : Doc) → ((c : Command) × (command_of d ≡ Ok c) × IsCommandDocument d) ⊎ ((f : CommandFault) × (command_of d ≡ Err f) × IsFaultOf d f)
of_document d = go (first_command d) refl
  where
    go : (o : Option CommandName) → first_command d ≡ o
        → ((c : Command) × (command_of d ≡ Ok c) × IsCommandDocument d) ⊎ ((f : CommandFault) × (command_of d ≡ Err f) × IsFaultOf d f)
    go None e = inr (CommandFault.UnknownCommand, rw e refl, inl (e, refl))
    go (Some command) e = fields (pairs_fault command [] d) refl
      where
        fields : (o : Option CommandFault) → pairs_fault command [] d ≡ o
            → ((c : Command) × (command_of d ≡ Ok c) × IsCommandDocument d) ⊎ ((f : CommandFault) × (command_of d ≡ Err f) × IsFaultOf d f)
        fields None a = inl (command_in command d, rw e rw a refl, fields_taken_are command d (sym e) (sym a))
        fields (Some f) a = inr (f, rw e rw a refl, inr (command, e, fields_reported command d f a))

fault_refused : (d : Doc) (f : CommandFault) → IsFaultOf d f → command_of d ≡ Err f
fault_refused d f (inl (none, is)) = rw none (ap Err (sym is))
fault_refused d f (inr (command, is, h)) = rw is rw (fields_refused command d f h) refl

pub commands_keep_rules : (d : Doc) → ((c : Command) × (command_of d ≡ Ok c)) ↔ IsCommandDocument d
commands_keep_rules d = (kept, suffice)
  where
    kept : (c : Command) × (command_of d ≡ Ok c) → IsCommandDocument d
    kept taken = go (of_document d)
      where
        go : ((c : Command) × (command_of d ≡ Ok c) × IsCommandDocument d) ⊎ ((f : CommandFault) × (command_of d ≡ Err f) × IsFaultOf d f) → IsCommandDocument d
        go (inl (c, is, h)) = h
        go (inr (f, is, h)) = let e = taken.1 in absurd cc

    suffice : IsCommandDocument d → (c : Command) × (command_of d ≡ Ok c)
    suffice h =
        let none = sym (all_kept h.0 d h.2) ∙ h.3 in
        (command_in h.0 d, rw h.1 rw none refl)

pub faults_break_rules : (d : Doc) (f : CommandFault) → (command_of d ≡ Err f) ↔ IsFaultOf d f
faults_break_rules d f = (fact, fault_refused d f)
  where
    fact : command_of d ≡ Err f → IsFaultOf d f
    fact refused = go (of_document d)
      where
        go : ((c : Command) × (command_of d ≡ Ok c) × IsCommandDocument d) ⊎ ((g : CommandFault) × (command_of d ≡ Err g) × IsFaultOf d g) → IsFaultOf d f
        go (inl (c, is, h)) = absurd cc
        go (inr (g, is, h)) = let e : g ≡ f = cc in subst (IsFaultOf d) e h
