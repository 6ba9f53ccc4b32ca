-- The cursors of a session: how one is opened, found by its number, changed and removed; its indexes.
use Rattle.std.proofs.Common.{◌≡◌, ℕ, Bool, true, false, cond, List, [], ◌∷◌, Result, Ok, Err, map, refl, sym, ap, ◌∙◌, subst, filter, ◌-◌, ◌<◌, ◌≤◌, ◌==◌, length, get_or, arith, zero, suc}
use Rattle.std.proofs.Common.{Some, None, slice_get, slice_set}
use Rattle.std.proofs.{lemmas.Bool.eq-eqb, lemmas.Bool.ne_eqb, lemmas.Bool.le-ltb, lemmas.Bool.cond_both, lemmas.Option.slice_get-map, lemmas.Option.slice_get_read}
use Rattle.bd_value.specs.Limits.{greatest_count}
use Rattle.bd_cursor_model.specs.Session.{Call, IndexKey, Reply, State, reply, state_after, OpenCursor, batch_of, cursor_of, gave, moved, next_reply, with_moved, without}
use Rattle.bd_cursor_request.specs.declared.results.Refused.{Refused}
use Rattle.bd_cursor.specs.SessionView.{IsRefusedCall, Steps, dump_of, state_of, open_cursor}
use Rattle.bd_cursor.specs.{declared.session.Session.Session, declared.cursor.Cursor.Cursor}
use Rattle.bd_bson_dump.specs.declared.collection.Dump.{Dump}
use Rattle.std.specs.Prelude.{option_map}

pub with_index_keys : (s : State) (is js : List IndexKey) → is ≡ js → record s { indexes = is } ≡ record s { indexes = js }
with_index_keys s is js e = ap (λ (xs : List IndexKey). (let t : State = record s { indexes = xs } in t)) e

-- the images of the members that pass
pub map_kept : {A B : Type 0} (f : A → B) (test : B → Bool) (xs : List A) → map f (filter (λ x. test (f x)) xs) ≡ filter test (map f xs)
map_kept f test [] = refl
map_kept f test (x ∷ xs) =
    let kept = filter (λ x. test (f x)) xs in
    elim (test (f x)) as (λ b. map f (cond b (x ∷ kept) kept) ≡ cond b (f x ∷ filter test (map f xs)) (filter test (map f xs))) [
      | true ↦ ap (λ ys. f x ∷ ys) (map_kept f test xs)
      | false ↦ map_kept f test xs
    ]

-- a step of one session is a step of another over the same dump in the same state
pub steps_from : {A : Type 0} (as_reply : A → Reply) (call : Call) (a b : Session) (result : Result A Refused) (new : Session) → state_of a ≡ state_of b → dump_of a ≡ dump_of b
    → Steps as_reply call a result new → Steps as_reply call b result new
steps_from as_reply call a b (Ok v) new same dump step = record {
  replies = ap (λ s. reply s call) (sym same) ∙ step.replies;
  moves = step.moves ∙ ap (λ s. state_after s call) same;
  dump = step.dump ∙ dump;
}
steps_from as_reply call a b (Err why) new same dump step = record {
  because = subst (λ s. IsRefusedCall (reply s call) why) same step.because;
  stays = step.stays ∙ same;
  dump = step.dump ∙ dump;
}

-- ---- cursors

module _ (dump : Dump) where
  pub none_before : (id : ℕ) (cs : List Cursor) (i : ℕ) → length cs ≤ i → ((k : ℕ) (d : Cursor) → k < i → (get_or cs k d).id ≡ id → ⊥) → cursor_of id (map (open_cursor dump) cs) ≡ None
  none_before id [] i l none = refl
  none_before id (c ∷ cs) i l none = rw (ne_eqb c.id id (none 0 c (omega arith))) (none_before id cs (i - 1) (omega arith) (λ k d m. none (suc k) d (omega arith)))

  pub cursor_at : (id : ℕ) (cs : List Cursor) (i : ℕ) (e : Cursor) → i < length cs → ((k : ℕ) (d : Cursor) → k < i → (get_or cs k d).id ≡ id → ⊥)
      → (get_or cs i e).id ≡ id → cursor_of id (map (open_cursor dump) cs) ≡ slice_get (map (open_cursor dump) cs) i
  cursor_at id [] i e l none here = absurd (omega arith)
  cursor_at id (c ∷ cs) zero e l none here = rw (eq-eqb c.id id here) refl
  cursor_at id (c ∷ cs) (suc i) e l none here = rw (ne_eqb c.id id (none 0 c (omega arith))) (cursor_at id cs i e (omega arith) (λ k d m. none (suc k) d (omega arith)) here)

  pub moved_at : (id n : ℕ) (cs : List Cursor) (i : ℕ) (e : Cursor) (d : OpenCursor) → i < length cs
      → ((k : ℕ) (d : Cursor) → k < i → (get_or cs k d).id ≡ id → ⊥) → (get_or cs i e).id ≡ id → cursor_of id (map (open_cursor dump) cs) ≡ Some d
      → with_moved id n (map (open_cursor dump) cs) ≡ slice_set (map (open_cursor dump) cs) i (moved d n)
  moved_at id n [] i e d l none here h = absurd (omega arith)
  moved_at id n (c ∷ cs) zero e d l none here h =
      let is : Some (open_cursor dump c) ≡ Some d = rw (eq-eqb c.id id here) at h in
      let same : open_cursor dump c ≡ d = cc in
      rw (eq-eqb c.id id here) (ap (λ (x : OpenCursor). moved x n ∷ map (open_cursor dump) cs) same)
  moved_at id n (c ∷ cs) (suc i) e d l none here h =
      let ne = ne_eqb c.id id (none 0 c (omega arith)) in
      rw ne (ap (λ xs. open_cursor dump c ∷ xs) (moved_at id n cs i e d (omega arith) (λ k d m. none (suc k) d (omega arith)) here (rw ne at h)))

  pub get_some : (cs : List Cursor) (i : ℕ) (c : Cursor) → i < length cs → c ≡ get_or cs i c → slice_get (map (open_cursor dump) cs) i ≡ Some (open_cursor dump c)
  get_some cs i c l e = slice_get-map (open_cursor dump) cs i ∙ ap (option_map (open_cursor dump)) (slice_get_read cs (length cs) i c refl l e)

without_moved : (id n : ℕ) (cs : List OpenCursor) → without id (with_moved id n cs) ≡ without id cs
without_moved id n [] = refl
without_moved id n (c ∷ cs) = cond_both (c.id == id) (moved c n ∷ cs) (c ∷ with_moved id n cs) (λ ds. without id ds ≡ without id (c ∷ cs))
    (λ f. rw f refl) (λ f. rw f (ap (λ xs. c ∷ xs) (without_moved id n cs)))

-- the list after a batch, by whether it ends the cursor
pub after_batch : (id n : ℕ) (cs : List OpenCursor) (end : Bool) → cond end (without id (with_moved id n cs)) (with_moved id n cs) ≡ cond end (without id cs) (with_moved id n cs)
after_batch id n cs true = without_moved id n cs
after_batch id n cs false = refl

pub gave_batch : (id n : ℕ) (cs : List OpenCursor) (c : OpenCursor) → cursor_of id cs ≡ Some c → n ≤ greatest_count → next_reply (cursor_of id cs) n ≡ gave (batch_of c n)
gave_batch id n cs c h l = rw (h, le-ltb greatest_count n l) refl
