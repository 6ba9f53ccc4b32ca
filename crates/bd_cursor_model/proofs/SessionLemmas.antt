-- What a series of calls does to one cursor.
use Rattle.std.proofs.Common.{map, ◌≡◌, ◌+◌, ◌-◌, ◌<◌, ◌≤◌, ◌==◌, nat_lt, not, ℕ, Bool, true, false, cond, List, [], ◌∷◌, ◌++◌, length, get_or, take, drop, Option, Some, None, inl, inr}
use Rattle.std.proofs.Common.{refl, sym, ap, ◌∙◌, subst, arith, min}
use Rattle.std.proofs.lemmas.Bool.{cases_eq, cond_both, eqb-true, eqb-false, eq-eqb, ne_eqb, not-false, not-true}
use Rattle.std.proofs.{lemmas.Slice.Eq.bytes_eq-Decides, lemmas.List.drop_min, lemmas.List.length-take, lemmas.List.get_or-take, lemmas.List.get_or_default, lemmas.List.take-append-drop}
use Rattle.std.specs.{Option.IfSome, Option.is_some, Option.option_or, Str.bytes_eq, List.cons_option, List.filter_map}
use Rattle.bd_value.specs.Limits.{greatest_count, most_indexes}
use Rattle.bd_cursor_model.specs.Session.{remaining_after, given_by, Call, GivenBatch, PositionedToken, OpenCursor, Query, Reply, State, batch_of, changed_by, cursor_of, digest_after, drop_call}
use Rattle.bd_cursor_model.specs.Session.{explain_call, find_call, foreign_token, gave, has_index, is_full, kill_call, no_cursor, killed, make_call, most_given, moved, next_call}
use Rattle.bd_cursor_model.specs.Session.{next_reply, open_reply, opened, out_of_range, reply, resume_call, state_after, token_after, token_place, with_moved, with_open, without}
use Rattle.bd_cursor_model.specs.Laws.{GivesInTurn, IsFair, IsPositionAfter, TokensFollow, answered_calls, attempt_replies, batch_in, batch_to, batches_to, new_state, replies, sizes_to, state_after_all, state_after_attempts}
use Rattle.bd_cursor_model.specs.Answer.{answer, batches, is_empty, rest}
use Rattle.bd_cursor_model.proofs.AnswerLemmas.{rest_follows}

-- look-up of a cursor
cursor_of_append : (id : ℕ) (cs ds : List OpenCursor) → cursor_of id (cs ++ ds) ≡ option_or (cursor_of id cs) (cursor_of id ds)
cursor_of_append id [] ds = refl
cursor_of_append id (c ∷ cs) ds = elim (c.id == id) as (λ b. cond b (Some c) (cursor_of id (cs ++ ds)) ≡ option_or (cond b (Some c) (cursor_of id cs)) (cursor_of id ds)) [
  | true ↦ refl
  | false ↦ cursor_of_append id cs ds
]

same_without_last : (id : ℕ) (cs : List OpenCursor) (d : OpenCursor) → (d.id ≡ id → ⊥) → cursor_of id (cs ++ d ∷ []) ≡ cursor_of id cs
same_without_last id cs d ne =
    cursor_of_append id cs (d ∷ []) ∙ rw (ne_eqb d.id id ne) (elim (cursor_of id cs) as (λ o. option_or o None ≡ o) [ None ↦ refl | Some c ↦ refl ])

last_is : (id : ℕ) (cs : List OpenCursor) (d : OpenCursor) → cursor_of id cs ≡ None → d.id ≡ id → cursor_of id (cs ++ d ∷ []) ≡ Some d
last_is id cs d none e = cursor_of_append id cs (d ∷ []) ∙ rw (none, eq-eqb d.id id e) refl

without_it : (id : ℕ) (cs : List OpenCursor) → cursor_of id (without id cs) ≡ None
without_it id [] = refl
without_it id (c ∷ cs) = cond_both (not (c.id == id)) (c ∷ without id cs) (without id cs) (λ ds. cursor_of id ds ≡ None)
    (λ e. let f = not-true (c.id == id) e in rw f (without_it id cs)) (λ e. without_it id cs)

module _ (id i : ℕ) (ne : i ≡ id → ⊥) where
  differs : (c : OpenCursor) → (c.id == i) ≡ true → (c.id == id) ≡ false
  differs c e = ne_eqb c.id id (λ k. ne (sym (eqb-true c.id i e) ∙ k))

  without_other : (cs : List OpenCursor) → cursor_of id (without i cs) ≡ cursor_of id cs
  without_other [] = refl
  without_other (c ∷ cs) = cond_both (not (c.id == i)) (c ∷ without i cs) (without i cs) (λ ds. cursor_of id ds ≡ cursor_of id (c ∷ cs))
      (λ e. ap (cond (c.id == id) (Some c)) (without_other cs)) (λ e. without_other cs ∙ sym (rw (differs c (not-false (c.id == i) e)) refl))

  moved_other : (n : ℕ) (cs : List OpenCursor) → cursor_of id (with_moved i n cs) ≡ cursor_of id cs
  moved_other n [] = refl
  moved_other n (c ∷ cs) = cond_both (c.id == i) (moved c n ∷ cs) (c ∷ with_moved i n cs) (λ ds. cursor_of id ds ≡ cursor_of id (c ∷ cs))
      (λ e. rw (differs c e) refl) (λ e. ap (cond (c.id == id) (Some c)) (moved_other n cs))

moved_it : (id n : ℕ) (cs : List OpenCursor) (c : OpenCursor) → cursor_of id cs ≡ Some c → cursor_of id (with_moved id n cs) ≡ Some (moved c n)
moved_it id n [] c h = absurd (let g : ⊥ = cc in g)
moved_it id n (b ∷ bs) c h = cond_both (b.id == id) (moved b n ∷ bs) (b ∷ with_moved id n bs) (λ ds. cursor_of id ds ≡ Some (moved c n))
    (λ f. let same : Some b ≡ Some c = rw f at h in let e : b ≡ c = cc in rw f (ap (λ d. Some (moved d n)) e))
    (λ f. let later : cursor_of id bs ≡ Some c = rw f at h in rw f (moved_it id n bs c later))

-- ---- one call

abbrev opened_in : Reply → Option ℕ
opened_in (opened id) = Some id
opened_in _ = None

-- the call requests no batch of any open cursor
abbrev RequestsNone : State → Call → Type 0
RequestsNone s call = (id : ℕ) (c : OpenCursor) → cursor_of id s.cursors ≡ Some c → (cs : List Call) → sizes_to id (call ∷ cs) ≡ sizes_to id cs

-- a call that is refused, or that concerns indexes, leaves the cursors unchanged
pub data Step (s : State) : Call → Reply → State → Type 0 where
  keeps : {call : Call} {r : Reply} {t : State} → batch_in r ≡ [] → opened_in r ≡ None → t.cursors ≡ s.cursors → t.next_id ≡ s.next_id → RequestsNone s call → Step s call r t
  finds : {q : Query} {hint : Option (List ℕ)} → Step s (find_call q hint) (opened s.next_id) (with_open s q.digest None (answer q.selection))
  resumes : {q : Query} {hint : Option (List ℕ)} {t : PositionedToken} → t.digest ≡ q.digest → Step s (resume_call q hint t) (opened s.next_id) (with_open s q.digest (Some t) (rest q.selection t.position))
  gives : {id n : ℕ} {c : OpenCursor} → cursor_of id s.cursors ≡ Some c → nat_lt greatest_count n ≡ false
      → Step s (next_call id n) (gave (batch_of c n)) (changed_by (gave (batch_of c n)) (next_call id n) s)
  kills : {id : ℕ} {c : OpenCursor} → cursor_of id s.cursors ≡ Some c → Step s (kill_call id) killed (changed_by killed (kill_call id) s)

abbrev StepBy : State → Call → Reply → Type 0
StepBy s call r = Step s call r (changed_by r call s)

either : {s : State} {call : Call} {x y : Reply} → StepBy s call x → StepBy s call y → (b : Bool) → StepBy s call (cond b x y)
either h k true = h
either h k false = k

open_step : (s : State) (call : Call) (hint : Option (List ℕ)) → RequestsNone s call → StepBy s call (opened s.next_id) → StepBy s call (open_reply s hint)
open_step s call hint none granted = either (either (keeps refl refl refl refl none) granted (is_full s)) (keeps refl refl refl refl none) (has_index s.indexes hint)

is_other : (id i : ℕ) (cs : List OpenCursor) (c : OpenCursor) → cursor_of i cs ≡ None → cursor_of id cs ≡ Some c → (i == id) ≡ false
is_other id i cs c none h = ne_eqb i id (λ e. let g : ⊥ = (let k = ap (λ j. cursor_of j cs) e in cc) in g)

next_step : (s : State) (i n : ℕ) (o : Option OpenCursor) → cursor_of i s.cursors ≡ o → (b : Bool) → nat_lt greatest_count n ≡ b → StepBy s (next_call i n) (next_reply o n)
next_step s i n None e b f = keeps refl refl refl refl (λ id c h cs. rw (is_other id i s.cursors c e h) refl)
next_step s i n (Some d) e true f = subst (λ b. StepBy s (next_call i n) (cond b out_of_range (gave (batch_of d n)))) (sym f)
    (keeps refl refl refl refl (λ id c h cs. rw f (cond_both (i == id) (sizes_to id cs) (sizes_to id cs) (λ ns. ns ≡ sizes_to id cs) (λ _. refl) (λ _. refl))))
next_step s i n (Some d) e false f = subst (λ b. StepBy s (next_call i n) (cond b out_of_range (gave (batch_of d n)))) (sym f) (gives e f)

kill_step : (s : State) (i : ℕ) (o : Option OpenCursor) → cursor_of i s.cursors ≡ o → StepBy s (kill_call i) (cond (is_some o) killed no_cursor)
kill_step s i None e = keeps refl refl refl refl (λ id c h cs. rw (is_other id i s.cursors c e h) refl)
kill_step s i (Some d) e = kills e

step : (s : State) (call : Call) → StepBy s call (reply s call)
step s (find_call q hint) = open_step s (find_call q hint) hint (λ id c h cs. refl) finds
step s (resume_call q hint t) = go (bytes_eq t.digest q.digest) refl
  where
    none : RequestsNone s (resume_call q hint t)
    none id c h cs = refl

    go : (b : Bool) → bytes_eq t.digest q.digest ≡ b → StepBy s (resume_call q hint t) (cond b (cond (nat_lt t.position.last q.selection.count) (open_reply s hint) token_place) foreign_token)
    go true e = either (open_step s (resume_call q hint t) hint none (resumes ((bytes_eq-Decides t.digest q.digest).0 e))) (keeps refl refl refl refl none) (nat_lt t.position.last q.selection.count)
    go false e = keeps refl refl refl refl none
step s (next_call i n) = next_step s i n (cursor_of i s.cursors) refl (nat_lt greatest_count n) refl
step s (kill_call i) = kill_step s i (cursor_of i s.cursors) refl
step s (make_call i counts) = either (keeps refl refl refl refl none)
    (either (keeps refl refl refl refl none) (keeps refl refl refl refl none) (nat_lt (length s.indexes) most_indexes)) (has_index s.indexes (Some i.path))
  where
    none : RequestsNone s (make_call i counts)
    none id c h cs = refl
step s (drop_call path) = either (keeps refl refl refl refl (λ id c h cs. refl)) (keeps refl refl refl refl (λ id c h cs. refl)) (has_index s.indexes (Some path))
step s (explain_call hint explanation) = either (keeps refl refl refl refl (λ id c h cs. refl)) (keeps refl refl refl refl (λ id c h cs. refl)) (has_index s.indexes hint)

ids_grow : (s : State) (call : Call) (r : Reply) (t : State) → Step s call r t → s.next_id ≤ t.next_id
ids_grow s call r t (keeps b o e n z) = omega (arith, n)
ids_grow s call r t _ = omega arith

-- ---- one cursor at a call

-- a call leaves a cursor as it is, takes a batch of it, or ends it
pub data Effect (id : ℕ) (call : Call) (r : Reply) (t : State) : Option OpenCursor → Type 0 where
  kept : {o : Option OpenCursor} → batch_to id call r ≡ [] → cursor_of id t.cursors ≡ o
      → ((c : OpenCursor) → o ≡ Some c → (cs : List Call) → sizes_to id (call ∷ cs) ≡ sizes_to id cs) → Effect id call r t o
  took : {c : OpenCursor} (n : ℕ) → batch_to id call r ≡ batch_of c n ∷ []
      → cursor_of id t.cursors ≡ cond (is_empty (drop n c.remaining)) None (Some (moved c n))
      → ((cs : List Call) → sizes_to id (call ∷ cs) ≡ n ∷ sizes_to id cs) → Effect id call r t (Some c)
  ended : {c : OpenCursor} → batch_to id call r ≡ [] → cursor_of id t.cursors ≡ None → ((cs : List Call) → sizes_to id (call ∷ cs) ≡ []) → Effect id call r t (Some c)

none_to : (id : ℕ) (call : Call) (r : Reply) → batch_in r ≡ [] → batch_to id call r ≡ []
none_to id (next_call i n) r e = cond_both (i == id) (batch_in r) [] (λ bs. bs ≡ []) (λ _. e) (λ _. refl)
none_to id call r e = refl

next_same : (id n : ℕ) (s : State) (c : OpenCursor) → cursor_of id s.cursors ≡ Some c → nat_lt greatest_count n ≡ false
    → let r = gave (batch_of c n) in Effect id (next_call id n) r (changed_by r (next_call id n) s) (cursor_of id s.cursors)
next_same id n s c h few = let r = gave (batch_of c n) in
    subst (λ o. Effect id (next_call id n) r (changed_by r (next_call id n) s) o) (sym h) (took n (rw self refl) (split (is_empty (drop n c.remaining))) (λ cs. rw (self, few) refl))
  where
    self : (id == id) ≡ true
    self = eq-eqb id id refl

    split : (b : Bool) → cursor_of id (cond b (without id s.cursors) (with_moved id n s.cursors)) ≡ cond b None (Some (moved c n))
    split true = without_it id s.cursors
    split false = moved_it id n s.cursors c h

next_other : (id i n : ℕ) (s : State) (c : OpenCursor) → (i == id) ≡ false
    → let r = gave (batch_of c n) in Effect id (next_call i n) r (changed_by r (next_call i n) s) (cursor_of id s.cursors)
next_other id i n s c ne = kept (rw ne refl) (cond_both (is_empty (drop n c.remaining)) (without i s.cursors) (with_moved i n s.cursors) (λ ds. cursor_of id ds ≡ cursor_of id s.cursors)
    (λ _. without_other id i (eqb-false i id ne) s.cursors) (λ _. moved_other id i (eqb-false i id ne) n s.cursors)) (λ d h cs. rw ne refl)

kill_same : (id : ℕ) (s : State) (c : OpenCursor) → cursor_of id s.cursors ≡ Some c → Effect id (kill_call id) killed (changed_by killed (kill_call id) s) (cursor_of id s.cursors)
kill_same id s c h = subst (λ o. Effect id (kill_call id) killed (changed_by killed (kill_call id) s) o) (sym h) (ended refl (without_it id s.cursors) (λ cs. rw (eq-eqb id id refl) refl))

-- the effect on a cursor that the call does not open
effect : (id : ℕ) (s : State) (call : Call) (r : Reply) (t : State) → (s.next_id ≤ id → id < t.next_id → ⊥) → Step s call r t → Effect id call r t (cursor_of id s.cursors)
effect id s call r t old (keeps b o e n z) = kept (none_to id call r b) (ap (cursor_of id) e) (z id)
effect id s call r t old finds = kept refl (same_without_last id s.cursors _ (λ e. old (omega arith) (omega arith))) (λ c h cs. refl)
effect id s call r t old (resumes e) = kept refl (same_without_last id s.cursors _ (λ e. old (omega arith) (omega arith))) (λ c h cs. refl)
effect id s call r t old (gives {id = i} {n = n} {c = c} h few) = elim (cases_eq i id) [
  | inl e ↦ (let g = gave (batch_of c n) in subst (λ j. Effect j (next_call i n) g (changed_by g (next_call i n) s) (cursor_of j s.cursors)) e (next_same i n s c h few))
  | inr ne ↦ next_other id i n s c (ne_eqb i id ne)
]
effect id s call r t old (kills {id = i} {c = c} h) = elim (cases_eq i id) [
  | inl e ↦ subst (λ j. Effect j (kill_call i) killed (changed_by killed (kill_call i) s) (cursor_of j s.cursors)) e (kill_same i s c h)
  | inr ne ↦ kept refl (without_other id i ne s.cursors) (λ d k cs. rw (ne_eqb i id ne) refl)
]

-- a cursor with an earlier number, at a call
at_call : (id : ℕ) (s : State) (call : Call) (o : Option OpenCursor) → id < s.next_id → cursor_of id s.cursors ≡ o → Effect id call (reply s call) (state_after s call) o
at_call id s call o l h = subst (λ x. Effect id call (reply s call) (state_after s call) x) h (effect id s call (reply s call) (state_after s call) (λ a b. absurd (omega arith)) (step s call))

still_below : (id : ℕ) (s : State) (call : Call) → id < s.next_id → id < (state_after s call).next_id
still_below id s call l = let g = ids_grow s call (reply s call) (state_after s call) (step s call) in omega arith

absent_run : (id : ℕ) (s : State) (calls : List Call) → id < s.next_id → cursor_of id s.cursors ≡ None → batches_to id calls (replies s calls) ≡ []
absent_run id s [] l h = refl
absent_run id s (k ∷ ks) l h = go (absent_run id (state_after s k) ks (still_below id s k l)) (at_call id s k None l h)
  where
    go : (cursor_of id (state_after s k).cursors ≡ None → batches_to id ks (replies (state_after s k) ks) ≡ []) → Effect id k (reply s k) (state_after s k) None
        → batch_to id k (reply s k) ++ batches_to id ks (replies (state_after s k) ks) ≡ []
    go more (kept a e z) = rw a (more e)

-- ---- the token of a cursor means what remains

drop_taken : (n : ℕ) (ps : List ℕ) → drop (length (take n ps)) ps ≡ drop n ps
drop_taken n ps = ap (λ k. drop k ps) (length-take n ps) ∙ drop_min n ps

none_taken : (n : ℕ) (ps : List ℕ) → take n ps ≡ [] → drop n ps ≡ ps
none_taken n ps e = ap (λ zs. zs ++ drop n ps) (sym e) ∙ take-append-drop n ps

position_taken : (most old n : ℕ) (ps : List ℕ) (z : ℕ) (zs : List ℕ) → take n ps ≡ z ∷ zs
    → IsPositionAfter most old (length (z ∷ zs)) ps (record { given = min most (old + length (z ∷ zs)); last = get_or (z ∷ zs) (length zs) 0 })
position_taken most old n ps z zs e =
    let l = length-take n ps in
    let k : length (take n ps) ≡ length (z ∷ zs) = ap (λ (ys : List ℕ). length ys) e in
    let within : length (z ∷ zs) ≤ length ps = omega arith in
    let one : length (z ∷ zs) - 1 ≡ length zs = omega arith in (
      omega arith,
      within,
      refl,
      λ d. ap (λ ys. get_or ys (length zs) 0) (sym e) ∙ get_or-take n ps (length zs) 0 (omega arith)
          ∙ get_or_default ps (length zs) 0 d (omega arith) ∙ ap (λ i. get_or ps i d) (sym one),
    )

remaining_moves : (q : Query) → IsFair q → (digest : List ℕ) (t : Option PositionedToken) (n : ℕ)
    → remaining_after q.selection (token_after digest t (take n (remaining_after q.selection t))) ≡ drop n (remaining_after q.selection t)
remaining_moves q fair digest t n = go (take n ps) refl
  where
    ps : List ℕ
    ps = remaining_after q.selection t

    go : (zs : List ℕ) → take n ps ≡ zs → remaining_after q.selection (token_after digest t zs) ≡ drop n ps
    go [] f = sym (none_taken n ps f)
    go (z ∷ zs) f =
        rest_follows q.selection fair.0 most_given fair.1 t (length (z ∷ zs)) _ (position_taken most_given (given_by t) n ps z zs f)
        ∙ ap (λ (ys : List ℕ). drop (length ys) ps) (sym f) ∙ drop_taken n ps

-- and has the digest of its request
token_digest : (digest : List ℕ) (t : Option PositionedToken) (ps : List ℕ) → digest_after digest (token_after digest t ps) ≡ digest_after digest t
token_digest digest t [] = refl
token_digest digest t (p ∷ ps) = refl

leaves : (q : Query) (digest : List ℕ) (t : Option PositionedToken) (ps : List ℕ) → digest_after digest t ≡ q.digest → remaining_after q.selection t ≡ ps
    → IfSome t (λ t. (t.digest ≡ q.digest) × (rest q.selection t.position ≡ ps))
leaves q digest None ps h e = tt
leaves q digest (Some t) ps h e = (h, e)

-- a cursor of a request, which has what remains after its token
record IsAtWork (q : Query) (c : OpenCursor) : Type 0 where
  remaining : c.remaining ≡ remaining_after q.selection c.token
  digest : digest_after c.digest c.token ≡ q.digest

goes_on : (q : Query) (c : OpenCursor) (n : ℕ) → IsFair q → IsAtWork q c → IsAtWork q (moved c n)
goes_on q c n fair i = record {
  remaining = subst (λ ps. drop n ps ≡ remaining_after q.selection (token_after c.digest c.token (take n ps))) (sym i.remaining) (sym (remaining_moves q fair c.digest c.token n));
  digest = token_digest c.digest c.token (take n c.remaining) ∙ i.digest;
}

-- the batches that it returns over any calls
gives_in_turn : (q : Query) (id : ℕ) (s : State) (c : OpenCursor) (calls : List Call) → IsFair q → id < s.next_id → cursor_of id s.cursors ≡ Some c → IsAtWork q c
    → GivesInTurn q id c.remaining calls (batches_to id calls (replies s calls))
gives_in_turn q id s c [] fair l h i = (refl, tt)
gives_in_turn q id s c (k ∷ ks) fair l h i = go (λ d e j. gives_in_turn q id (state_after s k) d ks fair l' e j) (at_call id s k (Some c) l h)
  where
    l' : id < (state_after s k).next_id
    l' = still_below id s k l

    bs : List GivenBatch
    bs = batches_to id ks (replies (state_after s k) ks)

    go : ((d : OpenCursor) → cursor_of id (state_after s k).cursors ≡ Some d → IsAtWork q d → GivesInTurn q id d.remaining ks bs) → Effect id k (reply s k) (state_after s k) (Some c)
        → GivesInTurn q id c.remaining (k ∷ ks) (batch_to id k (reply s k) ++ bs)
    go more (kept a e z) = rw (a, z c refl ks) (more c e i)
    go more (took n a e z) = rw (a, z ks, drop_taken n c.remaining) (let t = split (is_empty (drop n c.remaining)) e in
        (ap (λ zs. take n c.remaining ∷ zs) t.0, (leaves q c.digest (moved c n).token (drop n c.remaining) next.digest (sym next.remaining), t.1)))
      where
        next : IsAtWork q (moved c n)
        next = goes_on q c n fair i

        split : (b : Bool) → cursor_of id (state_after s k).cursors ≡ cond b None (Some (moved c n))
            → (map (λ (b : GivenBatch). b.places) bs ≡ cond b [] (batches (drop n c.remaining) (sizes_to id ks))) × TokensFollow q (drop n c.remaining) bs
        split true f = let none = absent_run id (state_after s k) ks l' f in (ap (map (λ (b : GivenBatch). b.places)) none, subst (λ zs. TokensFollow q (drop n c.remaining) zs) (sym none) tt)
        split false f = more (moved c n) f next
    go more (ended a e z) = rw (a, z ks) (let none = absent_run id (state_after s k) ks l' e in (ap (map (λ (b : GivenBatch). b.places)) none, subst (λ zs. TokensFollow q c.remaining zs) (sym none) tt))

-- ---- what is opened

-- ids of open cursors are below the next one
abbrev AllBelow : State → Type 0
AllBelow s = (id : ℕ) → s.next_id ≤ id → cursor_of id s.cursors ≡ None

below_after : (s : State) (k : Call) → AllBelow s → AllBelow (state_after s k)
below_after s k h id l =
    go (subst (λ o. Effect id k (reply s k) (state_after s k) o) (h id (omega (arith, ids_grow s k (reply s k) (state_after s k) (step s k))))
    (effect id s k (reply s k) (state_after s k) (λ a b. absurd (omega arith)) (step s k)))
  where
    go : Effect id k (reply s k) (state_after s k) None → cursor_of id (state_after s k).cursors ≡ None
    go (kept a e z) = e

below_run : (s : State) (ks : List Call) → AllBelow s → AllBelow (state_after_all s ks)
below_run s [] h = h
below_run s (k ∷ ks) h = below_run (state_after s k) ks (below_after s k h)

-- one more cursor, and what it returns
begins : (q : Query) (t : Option PositionedToken) (earlier later : List Call) (id : ℕ) → IsFair q → digest_after q.digest t ≡ q.digest →
    let s = state_after_all new_state earlier in
    s.next_id ≡ id → GivesInTurn q id (remaining_after q.selection t) later (batches_to id later (replies (with_open s q.digest t (remaining_after q.selection t)) later))
begins q t earlier later id fair of e =
    let s = state_after_all new_state earlier in
    let c : OpenCursor = record { id = s.next_id; digest = q.digest; token = t; remaining = remaining_after q.selection t } in
    gives_in_turn q id (with_open s q.digest t (remaining_after q.selection t)) c later fair (omega (arith, e))
    (last_is id s.cursors c (below_run new_state earlier (λ i l. refl) id (omega (arith, e))) e) (record { remaining = refl; digest = of })

-- the batches of a cursor that `find` opened are its answer in turn, whatever calls come before and between
pub find_gives : (earlier later : List Call) (q : Query) (hint : Option (List ℕ)) (id : ℕ) → IsFair q → let s = state_after_all new_state earlier in
    reply s (find_call q hint) ≡ opened id → GivesInTurn q id (answer q.selection) later (batches_to id later (replies (state_after s (find_call q hint)) later))
find_gives earlier later q hint id fair =
    let s = state_after_all new_state earlier in
    go (reply s (find_call q hint)) (state_after s (find_call q hint)) (step s (find_call q hint))
  where
    go : (r : Reply) (t : State) → Step (state_after_all new_state earlier) (find_call q hint) r t → r ≡ opened id → GivesInTurn q id (answer q.selection) later (batches_to id later (replies t later))
    go r t (keeps b o e n z) is = absurd (let f : ⊥ = (let g = ap opened_in is in cc) in f)
    go r t finds is = begins q None earlier later id fair refl cc

-- the batches of a cursor that `resume` opened are the rest after the token in turn,
-- whatever calls come before and between
pub resume_gives : (earlier later : List Call) (q : Query) (hint : Option (List ℕ)) (m : PositionedToken) (id : ℕ) → IsFair q → let s = state_after_all new_state earlier in
    reply s (resume_call q hint m) ≡ opened id → GivesInTurn q id (rest q.selection m.position) later (batches_to id later (replies (state_after s (resume_call q hint m)) later))
resume_gives earlier later q hint m id fair =
    let s = state_after_all new_state earlier in
    go (reply s (resume_call q hint m)) (state_after s (resume_call q hint m)) (step s (resume_call q hint m))
  where
    go : (r : Reply) (t : State) → Step (state_after_all new_state earlier) (resume_call q hint m) r t → r ≡ opened id
        → GivesInTurn q id (rest q.selection m.position) later (batches_to id later (replies t later))
    go r t (keeps b o e n z) is = absurd (let f : ⊥ = (let g = ap opened_in is in cc) in f)
    go r t (resumes same) is = begins q (Some m) earlier later id fair same cc

-- ---- calls that were refused because memory ran out

pub no_trace : (s : State) (attempts : List (Call × Bool)) → (state_after_attempts s attempts ≡ state_after_all s (answered_calls attempts))
    × (filter_map (λ r. r) (attempt_replies s attempts) ≡ replies s (answered_calls attempts))
no_trace s [] = (refl, refl)
no_trace s (a ∷ later) =
    let calls = answered_calls later in
    elim a.1 as (λ b. (state_after_attempts (cond b s (state_after s a.0)) later ≡ state_after_all s (cons_option (cond b None (Some a.0)) calls))
    × (filter_map (λ r. r) (cond b None (Some (reply s a.0)) ∷ attempt_replies (cond b s (state_after s a.0)) later) ≡ replies s (cons_option (cond b None (Some a.0)) calls))) [
      | true ↦ no_trace s later
      | false ↦ (let rest = no_trace (state_after s a.0) later in (rest.0, ap (λ rs. reply s a.0 ∷ rs) rest.1))
    ]
