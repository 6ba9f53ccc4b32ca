-- The requested places, and their batch from a session.
use Rattle.std.proofs.Common.{◌≡◌, ◌≤◌, ◌<◌, ◌+◌, ◌-◌, ◌*◌, ℕ, Bool, true, false, cond, List, [], ◌∷◌, ◌++◌, length, get_or, take, drop, Option, Some, None, Result, Ok, Err, filter, refl, sym, ap}
use Rattle.std.proofs.Common.{◌∙◌, subst, arith, inl, inr, ◌==◌}
use Rattle.std.proofs.{lemmas.Bool.leb-true, lemmas.Bool.le-ltb, lemmas.List.Sums.count_by-le-length, lemmas.List.Sums.length-filter, lemmas.List.FromFn.length-range_with_len}
use Rattle.std.proofs.lemmas.List.{drop_all, take_all, length-append, length-drop, length-take}
use Rattle.std.proofs.lemmas.List.Elements.{All-drop, All-filter, All-take}
use Rattle.std.specs.Prelude.{MatchOption, nat_lt, option_map}
use Rattle.std.specs.{List.All, List.range_with_len, Str.bytes_eq}
use Rattle.bd_value.specs.{Limits.greatest_count, Tree.Doc}
use Rattle.bd_cursor_model.specs.Answer.{Selection, Position, answer, at_most, before, limited, insert, insert_all, is_empty, matching, ordered, rest}
use Rattle.bd_cursor_model.specs.Session.{Call, GivenBatch, OpenCursor, Query, Reply, State, batch_of, changed_by, cursor_of, find_call, foreign_token, gave, has_index, next_call, opened, reply, resume_call}
use Rattle.bd_cursor_model.specs.Session.{token_after, token_place, with_open}
use Rattle.bd_cursor_model.proofs.{AnswerLemmas.ordered_in, OrderLemmas.in_at}
use Rattle.bd_bson_check.specs.Dump.{AreJoined}
use Rattle.bd_bson_check.proofs.DumpLemmas.{document_frame, frame_inside}
use Rattle.bd_cursor.specs.SessionView.{IsRefusedCall, Steps, given_batch, hint_of, path_named, position_of, positioned_token, state_of}
use Rattle.bd_cursor.specs.declared.session.Session.{Session}
use Rattle.bd_cursor_request.specs.{Refused.plain, Refused.reason_of, declared.results.Batch.Batch, declared.results.Refused.Refused, declared.token.Token.Token}
use Rattle.bd_cli_find.specs.Find.{remaining_over, cursor_for, places_from}
use Rattle.bd_cli_find.specs.inside.Find.{AwaitsFirst, IsBatchOf, IsFirstBatch, IsOpenedOn, IsReady, before_first, index_way}
use Rattle.bd_cursor.specs.{Access.way_of, declared.access.Choice.Choice}
use Rattle.bd_cli_find.specs.Options.{fits_batch}
use Rattle.bd_cursor_request.specs.declared.results.Refused.TheVariants as reasons

-- ---- a dump has no more documents than a batch may have

-- each document has at least five bytes
pub five_each : (ds : List Doc) (bytes : List ℕ) → AreJoined ds bytes → length ds * 5 ≤ length bytes
five_each [] bytes e = omega arith
five_each (d ∷ ds) bytes (prefix, rest, document, joined, limited) =
    let five : 5 ≤ length prefix = (frame_inside (prefix ++ []) (length prefix) (document_frame d prefix [] document)).0 in
    omega (arith, five, five_each ds rest joined, ap length limited, length-append prefix rest)

-- ---- which places, and how many

insert_length : (lt : ℕ → ℕ → Bool) (p : ℕ) (qs : List ℕ) → length (insert lt p qs) ≡ length qs + 1
insert_length lt p [] = omega arith
insert_length lt p (q ∷ qs) = go (lt p q) (insert_length lt p qs)
  where
    go : (b : Bool) → length (insert lt p qs) ≡ length qs + 1 → length (cond b (p ∷ (q ∷ qs)) (q ∷ insert lt p qs)) ≡ length (q ∷ qs) + 1
    go true h = omega arith
    go false h = omega (arith, h)

insert_all_length : (lt : ℕ → ℕ → Bool) (kept ps : List ℕ) → length (insert_all lt kept ps) ≡ length kept + length ps
insert_all_length lt kept [] = omega arith
insert_all_length lt kept (p ∷ ps) = omega (arith, insert_all_length lt (insert lt p kept) ps, insert_length lt p kept)

-- the requested places are places of documents, and there are at most that many
abbrev pub AreFew : ℕ → List ℕ → Type 0
AreFew n ps = All (λ p. p < n) ps × (length ps ≤ n)

few_filtered : (n : ℕ) (test : ℕ → Bool) (ps : List ℕ) → AreFew n ps → AreFew n (filter test ps)
few_filtered n test ps few =
    (All-filter test (λ p. p < n) ps few.0, (let fewer = few.1 in omega (arith, fewer, length-filter test ps, count_by-le-length test ps)))

few_dropped : (n k : ℕ) (ps : List ℕ) → AreFew n ps → AreFew n (drop k ps)
few_dropped n k ps few = (All-drop (λ p. p < n) k ps few.0, (let fewer = few.1 in omega (arith, fewer, length-drop k ps)))

few_limited : (n limit given : ℕ) (ps : List ℕ) → AreFew n ps → AreFew n (limited limit given ps)
few_limited n limit given ps few = go (limit == 0)
  where
    go : (b : Bool) → AreFew n (cond b ps (take (limit - given) ps))
    go true = few
    go false = (All-take (λ p. p < n) (limit - given) ps few.0, (let fewer = few.1 in omega (arith, fewer, length-take (limit - given) ps)))

few_ordered : (a : Selection) → AreFew a.count (ordered a)
few_ordered a = (
  λ k d lt. (ordered_in a (get_or (ordered a) k d) (in_at (ordered a) k d lt)).0,
  omega (
    arith,
    insert_all_length (before a.by) [] (matching a),
    length-filter a.matches_at (range_with_len 0 a.count),
    count_by-le-length a.matches_at (range_with_len 0 a.count),
    length-range_with_len 0 a.count,
  ),
)

few_answered : (a : Selection) → AreFew a.count (answer a)
few_answered a = few_limited a.count a.limit 0 (drop a.skip (ordered a)) (few_dropped a.count a.skip (ordered a) (few_ordered a))

few_remaining : (a : Selection) (m : Position) → AreFew a.count (rest a m)
few_remaining a m =
    few_limited a.count a.limit m.given (filter (before a.by m.last) (ordered a)) (few_filtered a.count (before a.by m.last) (ordered a) (few_ordered a))

pub led_few : (q : Query) (token : Option Token) (ps : List ℕ) → places_from q token ≡ Ok ps → AreFew q.selection.count ps
led_few q None ps e = let same : answer q.selection ≡ ps = cc in subst (AreFew q.selection.count) same (few_answered q.selection)
led_few q (Some t) ps e = go (bytes_eq t.digest q.digest) (nat_lt t.last q.selection.count) e
  where
    go : (same place : Bool) → cond same (cond place (Ok (rest q.selection (position_of t))) (Err (plain reasons.TokenPlace)))
        (Err (plain reasons.ForeignToken)) ≡ Ok ps → AreFew q.selection.count ps
    go true true e = let is : rest q.selection (position_of t) ≡ ps = cc in subst (AreFew q.selection.count) is (few_remaining q.selection (position_of t))
    go true false e = absurd cc
    go false place e = absurd cc

-- ---- opening the first cursor

only_memory : (id : ℕ) (why : Refused) → IsRefusedCall (opened id) why → why ≡ reasons.NoMemory
only_memory id reasons.NoMemory h = refl
only_memory id why h = absurd (let f : ⊥ = first_of (cc, assumption) in f)

only_foreign : (why : Refused) → IsRefusedCall foreign_token why → why ≡ reasons.ForeignToken
only_foreign reasons.ForeignToken h = refl
only_foreign why h = absurd (let f : ⊥ = first_of (cc, assumption) in f)

only_place : (why : Refused) → IsRefusedCall token_place why → why ≡ reasons.TokenPlace
only_place reasons.TokenPlace h = refl
only_place why h = absurd (let f : ⊥ = first_of (cc, assumption) in f)

module _ (q : Query) (hint : Option (List ℕ)) (old new : Session) (first : AwaitsFirst (state_of old) hint) where
  -- the machine's reply, which is the same in the first state
  first_reply : (call : Call) (r : Reply) → reply (before_first first.index_keys) call ≡ r → reply (state_of old) call ≡ r
  first_reply call r is = ap (λ s. reply s call) first.is_unopened ∙ is

  -- a call that is granted opens the first cursor
  opens : (token : Option Token) (ps : List ℕ) (call : Call) → places_from q token ≡ Ok ps → reply (state_of old) call ≡ opened 1
      → ((s : State) → changed_by (opened 1) call s ≡ with_open s q.digest (option_map positioned_token token) ps)
      → (result : Result ℕ Refused) → Steps opened call old result new → IsOpenedOn q token hint (state_of new) result
  opens token ps call led is opening (Ok id) step =
      let one : opened 1 ≡ opened id = sym is ∙ step.replies in
      let same : 1 ≡ id = cc in
      let state : state_of new ≡ with_open (before_first first.index_keys) q.digest (option_map positioned_token token) ps =
      step.moves ∙ ap (λ r. changed_by r call (state_of old)) is ∙ opening (state_of old) ∙ ap (λ s. with_open s q.digest (option_map positioned_token token) ps) first.is_unopened in
      let there = subst (λ i. cursor_of i (with_open (before_first first.index_keys) q.digest (option_map positioned_token token) ps).cursors ≡ Some (cursor_for i q token ps)) same refl in
      (ps, led, ap (λ (s : State). cursor_of id s.cursors) state ∙ there, ap (λ (s : State). has_index s.indexes hint) state ∙ first.is_there)
  opens token ps call led is opening (Err why) step = inl (only_memory 1 why (subst (λ r. IsRefusedCall r why) is step.because))

  pub find_opens : (result : Result ℕ Refused) → Steps opened (find_call q hint) old result new → IsOpenedOn q None hint (state_of new) result
  find_opens = opens None (answer q.selection) (find_call q hint) refl (first_reply (find_call q hint) (opened 1) (rw first.is_there refl)) (λ s. refl)

  pub resume_opens : (t : Token) (result : Result ℕ Refused) → Steps opened (resume_call q hint (positioned_token t)) old result new → IsOpenedOn q (Some t) hint (state_of new) result
  resume_opens t = go (bytes_eq t.digest q.digest) refl (nat_lt t.last q.selection.count) refl
    where
      call : Call
      call = resume_call q hint (positioned_token t)

      -- the token is refused
      turned_away : (r : Reply) (why : Refused) → ((other : Refused) → IsRefusedCall r other → other ≡ why) → ((id : ℕ) → r ≡ opened id → ⊥) → places_from q (Some t) ≡ Err (reason_of why)
          → reply (state_of old) call ≡ r → (result : Result ℕ Refused) → Steps opened call old result new → IsOpenedOn q (Some t) hint (state_of new) result
      turned_away r why only none led is (Ok id) step = absurd (none id (sym is ∙ step.replies))
      turned_away r why only none led is (Err other) step = inr (led ∙ ap (λ w. Err (reason_of w)) (sym (only other (subst (λ x. IsRefusedCall x other) is step.because))))

      go : (same : Bool) → bytes_eq t.digest q.digest ≡ same → (place : Bool) → nat_lt t.last q.selection.count ≡ place
          → (result : Result ℕ Refused) → Steps opened call old result new → IsOpenedOn q (Some t) hint (state_of new) result
      go true e true f = opens (Some t) (rest q.selection (position_of t)) call (rw (e, f) refl) (first_reply call (opened 1) (rw (e, f, first.is_there) refl)) (λ s. refl)
      go true e false f = turned_away token_place reasons.TokenPlace only_place (λ id k. let g : ⊥ = cc in g) (rw (e, f) refl) (first_reply call token_place (rw (e, f) refl))
      go false e place f = turned_away foreign_token reasons.ForeignToken only_foreign (λ id k. let g : ⊥ = cc in g) (rw e refl) (first_reply call foreign_token (rw e refl))

-- the index that a choice by a name or by none names
pub hint_is : (index : Option (List ℕ)) (choice : Choice) → way_of choice ≡ index_way index → hint_of choice ≡ index
hint_is None choice is = ap path_named is
hint_is (Some path) choice is = ap path_named is

-- the cursor is ready to return a batch
pub opened_ready : (q : Query) (token : Option Token) (index : Option (List ℕ)) (s : State) (id : ℕ) → q.selection.count ≤ greatest_count → IsOpenedOn q token index s (Ok id) → IsReady s id q.selection.count
opened_ready q token index s id le (ps, led, there, kept) =
    let few = led_few q token ps led in
    record {
      cursor = cursor_for id q token ps;
      is_there = there;
      inside = few.0;
      few = omega (arith, few.1);
    }

-- ---- its first batch

abbrev pub IsMost : Option ℕ → ℕ → Type 0
IsMost size most = MatchOption size (most ≡ greatest_count) (λ n. most ≡ n)

most_fits : (size : Option ℕ) (n : ℕ) → IsMost size n → fits_batch size ≡ true → n ≤ greatest_count
most_fits None n m fits = omega (arith, m)
most_fits (Some k) n m fits = omega (arith, m, leb-true k greatest_count fits)

pub taken_is : (size : Option ℕ) (n : ℕ) (ps : List ℕ) → IsMost size n → length ps ≤ greatest_count → take n ps ≡ at_most size ps
taken_is None n ps m le = take_all n ps (omega (arith, m, le))
taken_is (Some k) n ps m le = ap (λ i. take i ps) m

pub remaining_is : (size : Option ℕ) (n : ℕ) (ps : List ℕ) → IsMost size n → length ps ≤ greatest_count → drop n ps ≡ remaining_over size ps
remaining_is None n ps m le = drop_all n ps (omega (arith, m, le))
remaining_is (Some k) n ps m le = ap (λ i. drop i ps) m

pub given_is : (s : State) (id n : ℕ) (c : OpenCursor) (size : Option ℕ) (b : GivenBatch) → IsMost size n → fits_batch size ≡ true → cursor_of id s.cursors ≡ Some c
    → reply s (next_call id n) ≡ gave b → b ≡ batch_of c n
given_is s id n c size b most fits there r =
    let small : nat_lt greatest_count n ≡ false = le-ltb greatest_count n (most_fits size n most fits) in
    let g : gave (batch_of c n) ≡ gave b = (rw (there, small) at r) in
    cc

pub batch_given : (s : State) (id n : ℕ) (count : ℕ) (size : Option ℕ) (b : GivenBatch) → IsReady s id count → IsMost size n → fits_batch size ≡ true
    → reply s (next_call id n) ≡ gave b → (c : OpenCursor) → cursor_of id s.cursors ≡ Some c → IsBatchOf size c b
batch_given s id n count size b ready most fits r c there =
    let same : ready.cursor ≡ c = (let e = sym ready.is_there ∙ there in cc) in
    let few : length c.remaining ≤ greatest_count = subst (λ (x : OpenCursor). length x.remaining ≤ greatest_count) same ready.few in
    let is = given_is s id n c size b most fits there r in
    let places = taken_is size n c.remaining most few in
    record {
      places = ap (λ (x : GivenBatch). x.places) is ∙ places;
      ends = ap (λ (x : GivenBatch). x.ends) is ∙ ap is_empty (remaining_is size n c.remaining most few);
      token = ap (λ (x : GivenBatch). x.token) is ∙ ap (token_after c.digest c.token) places;
    }

-- the documents of a first batch have the property that those of the dump have
module _ (Has : ℕ → Type 0) (q : Query) (token : Option Token) (has : (place : ℕ) → place < q.selection.count → Has place) where
  all_have : (ps : List ℕ) → All (λ p. p < q.selection.count) ps → All Has ps
  all_have ps inside = λ i d lt. has (get_or ps i d) (inside i d lt)

  limited_have : (size : Option ℕ) (ps : List ℕ) → All (λ p. p < q.selection.count) ps → All Has (at_most size ps)
  limited_have None ps inside = all_have ps inside
  limited_have (Some k) ps inside = all_have (take k ps) (All-take (λ p. p < q.selection.count) k ps inside)

  -- The places of a batch have what each place of the dump has.
  pub batch_has : (size : Option ℕ) (batch : Batch) → IsFirstBatch size q token (Ok batch) → All Has (given_batch batch).places
  batch_has size batch (ps, led, is) = subst (All Has) (sym is.places) (limited_have size ps (led_few q token ps led).0)
