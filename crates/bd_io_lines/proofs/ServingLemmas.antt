-- Lemmas on replies to the commands of a device.
use Rattle.std.proofs.Common.{rules, ◌≡◌, ◌<◌, ◌≤◌, ◌+◌, ℕ, List, [], ◌∷◌, ◌++◌, length, Bool, true, false, cond, Option, refl, sym, ap, ◌∙◌, subst, append_assoc, append-nil, arith, inl, inr}
use Rattle.std.proofs.Common.{length-append}
use Rattle.bd_io_device.proofs.DevicesLemmas.{write_fails_after, takes_both, takes_none}
use Rattle.bd_io_device.specs.{Devices.greatest, declared.reading.Limits.Limits, declared.reading.ReadFault.ReadFault}
use Rattle.bd_io_device.specs.Devices.{AreReads, WriteFailsWithin, Reader, TakesText, Writer, between}
use Rattle.bd_io_lines.specs.{declared.serving.ServeFault.ServeFault, LineBuffer.Buffered}
use Rattle.bd_io_lines.specs.LineBuffer.{FailsToReadLine, FindsNoLine, GivesBeforeLast, GivesBytes, IsCause, IsLazy, ReadsLine, StopsReading}
use Rattle.bd_io_lines.specs.Serving.{IsReadInTime, RepliesInTurn, ServesAll, ServesBefore, RunsOutAt, StopsServing, StopsUnread}
use Rattle.bd_io_lines.specs.Lines.{AreShort, AreWhole, IsFirstLine, commands_of, is_empty_line, not_empty}
use Rattle.std.specs.Prelude.{◌⊎◌}
use Rattle.bd_io_lines.proofs.LinesLemmas.{commands_line, no_long_line, short_after, short_line, short_whole_line, commands_whole_line, newlines_more, newlines_of_line}
use Rattle.bd_io_lines.proofs.LineBufferLemmas.{before_last_then, fails_after, gives_none, gives_then}
use Rattle.bd_io_lines.specs.declared.serving.ServeFault.TheVariants as serves

-- ---- replies

not_empty_none : (line : List ℕ) → is_empty_line line ≡ true → not_empty (line ∷ []) ≡ []
unfolding not_empty
not_empty_none line is = ap (λ c. cond c [] (line ∷ [])) is

not_empty_one : (line : List ℕ) → is_empty_line line ≡ false → not_empty (line ∷ []) ≡ line ∷ []
unfolding not_empty
not_empty_one line is = ap (λ c. cond c [] (line ∷ [])) is

pub replied_none : {S : Type 0} (replies : S → List ℕ → List ℕ → S → Type 0) (s : S) (line : List ℕ) → is_empty_line line ≡ true
    → RepliesInTurn replies s (not_empty (line ∷ [])) [] s
replied_none {S} replies s line is = subst (λ l. RepliesInTurn replies s l [] s) (sym (not_empty_none line is)) (refl, refl)

pub replied_one : {S : Type 0} (replies : S → List ℕ → List ℕ → S → Type 0) (s t : S) (line reply : List ℕ) → is_empty_line line ≡ false
    → replies s line reply t → RepliesInTurn replies s (not_empty (line ∷ [])) (reply ++ 10 ∷ []) t
replied_one {S} replies s t line reply is one =
    subst (λ l. RepliesInTurn replies s l (reply ++ 10 ∷ []) t) (sym (not_empty_one line is)) (reply, t, [], one, (refl, refl), refl)

pub nothing_replied : {S : Type 0} (replies : S → List ℕ → List ℕ → S → Type 0) (s : S) → RepliesInTurn replies s (commands_of []) [] s
unfolding not_empty
nothing_replied {S} replies s = (refl, refl)

-- replies to commands, and replies to the commands after them
pub replied_then : {S : Type 0} (replies : S → List ℕ → List ℕ → S → Type 0) (s t u : S) (done more : List (List ℕ)) (first second : List ℕ)
    → RepliesInTurn replies s done first t → RepliesInTurn replies t more second u → RepliesInTurn replies s (done ++ more) (first ++ second) u
replied_then {S} replies s t u [] more first second (e, none) rest =
    let P : S → List ℕ → Type 0 = λ a x. RepliesInTurn replies a more (x ++ second) u in
    subst (λ x. P s x) (sym none) (subst (λ a. P a []) e rest)
replied_then {S} replies s t u (command ∷ done) more first second (reply, mid, texts, one, others, is) rest = (
  reply,
  mid,
  texts ++ second,
  one,
  replied_then replies mid t u done more texts second others rest,
  ap (λ x. x ++ second) is ∙ append_assoc reply (10 ∷ texts) second,
)

-- ---- the loop

-- the loop invariant: whole lines that have their replies, and what is buffered after them
pub record Serving {R S : Type 0} (state : R → Reader) (gives : R → Option (List ℕ) → R → Type 0) (replies : S → List ℕ → List ℕ → S → Type 0)
    (limits : Limits) (lines : Buffered) (old new : R) (before after : Writer) (s t : S) : Type 0 where
  pub whole : List ℕ
  pub text : List ℕ
  pub ends : lines.ended ≡ false → AreWhole whole
  pub short : AreShort whole
  pub reads : GivesBytes state gives limits lines.remaining lines.ended (whole ++ lines.rest) old new
  pub in_time : IsReadInTime gives whole (whole ++ lines.rest) old new
  pub replied : RepliesInTurn replies s (commands_of whole) text t
  pub written : TakesText (between before after) text

-- one more line is taken
pub shrinks : (remaining less : ℕ) (buffered given line rest : List ℕ) (ended : Bool) → less + length given ≡ remaining → IsFirstLine (buffered ++ given) line rest ended
    → less + length rest < remaining + length buffered
shrinks remaining less buffered given line rest ended capacity (part, inl split) =
    let size = ap length split in omega (arith, capacity, size, length-append buffered given, length-append line (10 ∷ rest))
shrinks remaining less buffered given line rest ended capacity (part, inr (is, some, none, e)) =
    let size = ap length is in let no = ap length none in omega (arith, capacity, size, some, no, length-append buffered given)

in_time_now : {R : Type 0} {gives : R → Option (List ℕ) → R → Type 0} (whole buffered given : List ℕ) (n : ℕ) (old mid new : R) → AreReads gives n old (whole ++ buffered) mid
    → IsReadInTime gives whole (whole ++ buffered) old mid → IsLazy gives buffered given mid new → IsReadInTime gives whole (whole ++ (buffered ++ given)) old new
in_time_now {R} {gives} whole buffered given n old mid new are before (inl (none, same)) =
    subst (λ r. IsReadInTime gives whole (whole ++ (buffered ++ given)) old r) (sym same)
    (subst (λ x. IsReadInTime gives whole x old mid) (sym (ap (λ x. whole ++ (buffered ++ x)) none ∙ ap (λ x. whole ++ x) (append-nil buffered))) before)
in_time_now {R} {gives} whole buffered given n old mid new are before (inr (prefix, is, last)) = inr (
  whole ++ (buffered ++ prefix),
  newlines_of_line whole (buffered ++ prefix) is,
  subst (λ x. GivesBeforeLast gives x old (whole ++ (buffered ++ given)) new) (append_assoc whole buffered prefix)
      (subst (λ x. GivesBeforeLast gives ((whole ++ buffered) ++ prefix) old x new) (append_assoc whole buffered given)
      (before_last_then n old mid new (whole ++ buffered) prefix given are last)),
)

in_time_after : {R : Type 0} {gives : R → Option (List ℕ) → R → Type 0} (whole more given : List ℕ) (old new : R) → IsReadInTime gives whole given old new
    → IsReadInTime gives (whole ++ more) given old new
in_time_after {R} {gives} whole more given old new (inl none) = inl none
in_time_after {R} {gives} whole more given old new (inr (prefix, few, last)) = inr (prefix, newlines_more prefix whole more few, last)

module _ {R S : Type 0} (state : R → Reader) (gives : R → Option (List ℕ) → R → Type 0) (replies : S → List ℕ → List ℕ → S → Type 0) where
  pub begins : (limits : Limits) (lines : Buffered) (old : R) (before : Writer) (s : S) → lines.remaining ≡ limits → (state old).calls ≤ greatest
      → lines.ended ≡ false → lines.rest ≡ [] → Serving state gives replies limits lines old old before before s s
  begins limits lines old before s remaining fit is none = subst (λ l. Serving state gives replies l lines old old before before s s) remaining record {
    whole = [];
    text = [];
    ends = λ _. inl refl;
    short = no_long_line;
    reads = subst (λ b. GivesBytes state gives lines.remaining lines.remaining b lines.rest old old) (sym is)
        (subst (λ x. GivesBytes state gives lines.remaining lines.remaining false x old old) (sym none) (gives_none lines.remaining old fit));
    in_time = inl (none, refl);
    replied = nothing_replied replies s;
    written = takes_none before;
  }

module _ {R S : Type 0} {state : R → Reader} {gives : R → Option (List ℕ) → R → Type 0} {replies : S → List ℕ → List ℕ → S → Type 0}
    {limits : Limits} {lines : Buffered} {old mid : R} {before now : Writer} {s t : S} (so_far : Serving state gives replies limits lines old mid before now s t) where
  gave : lines.ended ≡ false → GivesBytes state gives limits lines.remaining false (so_far.whole ++ lines.rest) old mid
  gave going = subst (λ b. GivesBytes state gives limits lines.remaining b (so_far.whole ++ lines.rest) old mid) going so_far.reads

  -- the text of all replies, and that it was written
  abbrev Served : R → Type 0
  Served new = (text : List ℕ) × ServesAll state gives replies limits old new s text t × TakesText (between before now) text

  serves_by : (remaining : Limits) (new : R) → GivesBytes state gives limits remaining true so_far.whole old new → Served new
  serves_by remaining new reads = (
    so_far.text,
    record { remaining = remaining; given = so_far.whole; short = so_far.short; reads = reads; replied = so_far.replied },
    so_far.written,
  )

  -- the end was found before, or now
  pub serves_end : (next : Buffered) (new : R) → (lines.ended ≡ true) ⊎ (lines.ended ≡ false) → (lines.ended ≡ true → new ≡ mid)
      → FindsNoLine state gives lines next mid new → Served new
  serves_end next new (inl over) same none = serves_by lines.remaining new (subst (λ r. GivesBytes state gives limits lines.remaining true so_far.whole old r) (sym (same over))
      (subst (λ x. GivesBytes state gives limits lines.remaining true x old mid) (ap (λ x. so_far.whole ++ x) none.none.0 ∙ append-nil so_far.whole)
      (subst (λ b. GivesBytes state gives limits lines.remaining b (so_far.whole ++ lines.rest) old mid) over so_far.reads)))
  serves_end next new (inr going) same none = serves_by next.remaining new (subst (λ x. GivesBytes state gives limits next.remaining true x old new)
      (append-nil (so_far.whole ++ lines.rest) ∙ ap (λ x. so_far.whole ++ x) none.none.0 ∙ append-nil so_far.whole) (gives_then (gave going) (none.reads going)))

  -- reading failed
  pub stops_unread : (new : R) (fault : ReadFault) → lines.ended ≡ false → FailsToReadLine state gives lines.remaining lines.rest mid new fault
      → (text : List ℕ) × StopsUnread state gives replies limits old new s text t fault × TakesText (between before now) text
  stops_unread new fault going fails =
      let first = gave going in
      let rest = lines.rest ++ fails.given in
      let apart : (so_far.whole ++ lines.rest) ++ fails.given ≡ so_far.whole ++ rest = append_assoc so_far.whole lines.rest fails.given in
      let both = subst (λ x. (stops : StopsReading state gives limits x old new fault) × IsCause gives limits stops.turns rest x old new fault) apart
      (fails_after rest first fails.stops fails.cause) in (
        so_far.text,
        record {
          whole = so_far.whole;
          rest = rest;
          ends = so_far.ends going;
          short = so_far.short;
          stops = both.0;
          cause = both.1;
          in_time = in_time_now so_far.whole lines.rest fails.given first.turns old mid new first.reads so_far.in_time fails.lazy;
          replied = so_far.replied;
        },
        so_far.written,
      )

  module _ (going : lines.ended ≡ false) {next : Buffered} {new : R} (reads : ReadsLine state gives lines next mid new) where
    gave_all : GivesBytes state gives limits next.remaining next.ended (so_far.whole ++ (lines.rest ++ reads.given)) old new
    gave_all = subst (λ x. GivesBytes state gives limits next.remaining next.ended x old new) (append_assoc so_far.whole lines.rest reads.given)
        (gives_then (gave going) reads.reads)

    in_time_all : IsReadInTime gives so_far.whole (so_far.whole ++ (lines.rest ++ reads.given)) old new
    in_time_all =
        let first = gave going in in_time_now so_far.whole lines.rest reads.given first.turns old mid new first.reads so_far.in_time reads.lazy

    -- the line is a command
    serves_before : is_empty_line next.line ≡ false → ServesBefore state gives replies limits old new s next.line so_far.text t
    serves_before is = record {
      whole = so_far.whole;
      rest = lines.rest ++ reads.given;
      after = next.rest;
      remaining = next.remaining;
      ended = next.ended;
      ends = so_far.ends going;
      short = so_far.short;
      reads = gave_all;
      in_time = in_time_all;
      line = reads.line;
      is_command = is;
      replied = so_far.replied;
    }

    module _ (later : Writer) (u : S) (text : List ℕ) (replied : RepliesInTurn replies t (not_empty (next.line ∷ [])) text u) (written : TakesText (between now later) text) where
      grows_by : (more : List ℕ) → lines.rest ++ reads.given ≡ more ++ next.rest → (next.ended ≡ false → AreWhole (so_far.whole ++ more)) → AreShort more
          → commands_of (so_far.whole ++ more) ≡ commands_of so_far.whole ++ not_empty (next.line ∷ []) → Serving state gives replies limits next old new before later s u
      grows_by more split ends short commands =
          let all : so_far.whole ++ (lines.rest ++ reads.given) ≡ (so_far.whole ++ more) ++ next.rest =
          ap (λ x. so_far.whole ++ x) split ∙ sym (append_assoc so_far.whole more next.rest) in
          record {
            whole = so_far.whole ++ more;
            text = so_far.text ++ text;
            ends = ends;
            short = short_after so_far.whole more (so_far.ends going) so_far.short short;
            reads = subst (λ x. GivesBytes state gives limits next.remaining next.ended x old new) all gave_all;
            in_time = subst (λ x. IsReadInTime gives (so_far.whole ++ more) x old new) all
                (in_time_after so_far.whole more (so_far.whole ++ (lines.rest ++ reads.given)) old new in_time_all);
            replied = subst (λ x. RepliesInTurn replies s x (so_far.text ++ text) u) (sym commands)
                (replied_then replies s t u (commands_of so_far.whole) (not_empty (next.line ∷ [])) so_far.text text so_far.replied replied);
            written = takes_both before now later so_far.text text so_far.written written;
          }

      goes_by : IsFirstLine (lines.rest ++ reads.given) next.line next.rest next.ended → Serving state gives replies limits next old new before later s u
      goes_by (part, inl split) =
          grows_by (next.line ++ 10 ∷ []) (split ∙ sym (append_assoc next.line (10 ∷ []) next.rest))
          (λ _. inr (so_far.whole ++ next.line, sym (append_assoc so_far.whole next.line (10 ∷ []))))
          (short_whole_line next.line part) (commands_whole_line so_far.whole next.line (so_far.ends going) part.0)
      goes_by (part, inr (is, some, none, end)) =
          grows_by next.line (is ∙ sym (append-nil next.line) ∙ ap (λ x. next.line ++ x) (sym none)) (λ not. absurd (search (rules, not, end)))
          (short_line next.line part) (commands_line so_far.whole next.line (so_far.ends going) part.0)

      pub goes_on : Serving state gives replies limits next old new before later s u
      goes_on = goes_by reads.line

    pub stops_answer : (stays : S → S → Type 0) (later : Writer) (u : S) (fault : ServeFault) → (fault ≡ serves.NoMemory) ⊎ (fault ≡ serves.Unwritten)
        → (fault ≡ serves.NoMemory → (is_empty_line next.line ≡ false) × (later ≡ now) × RunsOutAt stays replies t next.line u)
        → (fault ≡ serves.Unwritten → (is_empty_line next.line ≡ false)
        × ((reply : List ℕ) × replies t next.line reply u × WriteFailsWithin (between now later) (reply ++ 10 ∷ [])))
        → StopsServing state gives replies limits old new (between before later) s u stays fault
    stops_answer stays later u fault (inl is) out_of_memory failed_write =
        let e = out_of_memory is in
        subst (λ f. StopsServing state gives replies limits old new (between before later) s u stays f) (sym is)
        (so_far.text, (next.line, t, serves_before e.0, e.2), subst (λ w. TakesText (between before w) so_far.text) (sym e.1) so_far.written)
    stops_answer stays later u fault (inr is) out_of_memory failed_write =
        let e = failed_write is in
        subst (λ f. StopsServing state gives replies limits old new (between before later) s u stays f) (sym is)
        (so_far.text, e.1.0 ++ 10 ∷ [], (next.line, e.1.0, t, serves_before e.0, e.1.1, refl), write_fails_after before now later so_far.text (e.1.0 ++ 10 ∷ []) so_far.written e.1.2)
