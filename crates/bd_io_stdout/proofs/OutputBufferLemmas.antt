-- Lemmas on what was written: what the device has of it, and what is still buffered.
use Rattle.std.proofs.Common.{◌≡◌, ℕ, List, [], ◌++◌, take, drop, Option, None, Some, refl, sym, ap, ◌∙◌, subst, append_assoc, append-nil, take-append-drop, ◌⊎◌}
use Rattle.std.specs.{Prelude.◌≢◌, Prelude.Result, Prelude.Ok, Prelude.Err, Prelude.OnErr, Prelude.OnOk, Prelude.true, Prelude.false, Result.is_err}
use Rattle.bd_io_device.proofs.DevicesLemmas.{write_fails_first as first_write_fails, write_fails_second, takes_both, takes_none}
use Rattle.bd_io_device.specs.Devices.{AreWrites, WriteFailsWithin, TakesText, no_write, more_writes, over}
use Rattle.bd_io_device.specs.declared.output.Output.{Ghosts as Output}
use Rattle.bd_io_stdout.specs.OutputBuffer.{AreTaken, WriteFails, TakesAllBytes, none_taken, more_taken, Buffers, HandsOn}
use Rattle.bd_io_stdout.specs.{declared.output_buffer.WriteState.WriteState, OutputBuffer.BufferState}
use Rattle.bd_io_stdout.specs.declared.output_buffer.WriteState.TheVariants.{Intact, Lost, Reported}

pub is_intact : (write_state : WriteState) → (write_state ≢ Intact → ⊥) → write_state ≡ Intact
is_intact Intact none = refl
is_intact Lost none = absurd (none (λ e. let bad : ⊥ = cc in bad))
is_intact Reported none = absurd (none (λ e. let bad : ⊥ = cc in bad))

-- the writes in a row took a prefix of the bytes
taken_of : {S : Type 0} {takes : S → List ℕ → Option ℕ → S → Type 0} {bytes : List ℕ} (s t : S) (rest : List ℕ) → AreWrites takes bytes s rest t
    → (taken : List ℕ) × (bytes ≡ taken ++ rest) × AreTaken takes s taken t
taken_of {S} {takes} {bytes} s t rest (no_write v) = ([], refl, none_taken s)
taken_of {S} {takes} {bytes} s t rest (more_writes v w x before n writes last some) =
    let (taken, split, all) = taken_of v w before writes in
    let more : before ≡ take n before ++ drop n before = sym (take-append-drop n before) in
    (taken ++ take n before, split ∙ (ap (λ l. taken ++ l) more ∙ sym (append_assoc taken (take n before) (drop n before))), more_taken v w x taken before n all last some)

taken_append : {S : Type 0} {takes : S → List ℕ → Option ℕ → S → Type 0} (s t u : S) (first second : List ℕ) → AreTaken takes s first t → AreTaken takes t second u
    → AreTaken takes s (first ++ second) u
taken_append {S} {takes} s t u first second a (none_taken v) = rw (append-nil first) a
taken_append {S} {takes} s t u first second a (more_taken v w x taken text n all last some) =
    let P : List ℕ → Type 0 = λ l. AreTaken takes s l x in
    let one : AreTaken takes s ((first ++ taken) ++ take n text) x = more_taken s w x (first ++ taken) text n (taken_append s v w first taken a all) last some in
    subst P (append_assoc first taken (take n text)) one

module _ {D : Type 0} (o : Output D) where
  pub TakesAllBytes-nil : (s : D) → TakesAllBytes o s [] s
  TakesAllBytes-nil s = record { contents = takes_none (o.state s); writes = none_taken s }

  -- writes in a row with nothing remaining took all of the bytes
  pub TakesAllBytes-writes : (s t : D) (bytes : List ℕ) → TakesText (over o.state s t) bytes → AreWrites o.write_takes bytes s [] t → TakesAllBytes o s bytes t
  TakesAllBytes-writes s t bytes contents writes =
      let (taken, split, all) = taken_of s t [] writes in
      let P : List ℕ → Type 0 = λ l. AreTaken o.write_takes s l t in
      record { contents = contents; writes = subst P (sym (split ∙ append-nil taken)) all }

  pub TakesAllBytes-trans : (s t u : D) (first second : List ℕ) → TakesAllBytes o s first t → TakesAllBytes o t second u → TakesAllBytes o s (first ++ second) u
  TakesAllBytes-trans s t u first second a b = record {
    contents = takes_both (o.state s) (o.state t) (o.state u) first second a.contents b.contents;
    writes = taken_append s t u first second a.writes b.writes;
  }

  -- writes in a row of which the last failed: the device took a prefix of the bytes
  pub WriteFails-writes : (s t : D) (bytes : List ℕ) → WriteFailsWithin (over o.state s t) bytes
      → ((rest : List ℕ) × (last : D) × AreWrites o.write_takes bytes s rest last × (rest ≢ []) × (o.write_takes last rest None t ⊎ o.write_takes last rest (Some 0) t))
      → WriteFails o s bytes t
  WriteFails-writes s t bytes contents (rest, last, writes, some, failed) =
      let (taken, split, all) = taken_of s last rest writes in
      record { contents = contents; writes = (taken, rest, [], last, split ∙ ap (λ l. taken ++ l) (sym (append-nil rest)), all, some, failed) }

  -- a failure within the bytes is one within these and more bytes after them
  pub WriteFails-more : (s t : D) (bytes more : List ℕ) → WriteFails o s bytes t → WriteFails o s (bytes ++ more) t
  WriteFails-more s t bytes more b =
      let (taken, text, later, last, is, all, some, failed) = b.writes in
      record {
        contents = first_write_fails (o.state s) (o.state t) bytes more b.contents;
        writes = (taken, text, later ++ more, last, ap (λ l. l ++ more) is ∙ (append_assoc taken (text ++ later) more ∙ ap (λ l. taken ++ l) (append_assoc text later more)), all, some, failed);
      }

  -- a failure after first bytes that the device took is one within all of them
  pub WriteFails-after : (s t u : D) (first bytes : List ℕ) → TakesAllBytes o s first t → WriteFails o t bytes u → WriteFails o s (first ++ bytes) u
  WriteFails-after s t u first bytes a b =
      let (taken, text, later, last, is, all, some, failed) = b.writes in
      record {
        contents = write_fails_second (o.state s) (o.state t) (o.state u) first bytes a.contents b.contents;
        writes = (first ++ taken, text, later, last, ap (λ l. first ++ l) is ∙ sym (append_assoc first taken (text ++ later)), taken_append s t last first taken a.writes all, some, failed);
      }

pub on_ok : {X E : Type 0} (r : Result X E) (P Q R : Type 0) → OnOk r P → OnOk r Q → (P → Q → R) → OnOk r R
on_ok (Ok x) P Q R p q f = f p q
on_ok (Err e) P Q R p q f = _

pub on_err : {X E : Type 0} (r : Result X E) (P Q R : Type 0) → OnErr r P → OnErr r Q → (P → Q → R) → OnErr r R
on_err (Ok x) P Q R p q f = _
on_err (Err e) P Q R p q f = f p q

pub in_ok : {X E : Type 0} (r : Result X E) (P : Type 0) → is_err r ≡ false → OnOk r P → P
in_ok (Ok x) P is p = p
in_ok (Err e) P is p = let bad : ⊥ = cc in absurd bad

pub in_err : {X E : Type 0} (r : Result X E) (P : Type 0) → is_err r ≡ true → OnErr r P → P
in_err (Ok x) P is p = let bad : ⊥ = cc in absurd bad
in_err (Err e) P is p = p

-- parts of equal views
module _ {D : Type 0} {s t : BufferState D} where
  pub same_waiting : s ≡ t → s.waiting ≡ t.waiting
  same_waiting is = ap (λ v. v.waiting) is

  pub same_device : s ≡ t → s.device ≡ t.device
  same_device is = ap (λ v. v.device) is

  pub same_write_state : s ≡ t → s.write_state ≡ t.write_state
  same_write_state is = ap (λ v. v.write_state) is

module _ {D : Type 0} (o : Output D) where
  -- the bytes are buffered
  pub buffers_waiting : (old new : BufferState D) (bytes : List ℕ) → new.device ≡ old.device → new.waiting ≡ old.waiting ++ bytes → Buffers o old bytes new
  buffers_waiting old new bytes device waiting =
      let same : TakesAllBytes o old.device [] new.device = subst (λ d. TakesAllBytes o old.device [] d) (sym device) (TakesAllBytes-nil o old.device) in
      ([], sym waiting, same)

  -- nothing was written
  pub buffers_none : (old new : BufferState D) → new.device ≡ old.device → new.waiting ≡ old.waiting → Buffers o old [] new
  buffers_none old new device waiting = buffers_waiting old new [] device (waiting ∙ sym (append-nil old.waiting))

  -- the device took them
  pub buffers_written : (old new : BufferState D) (bytes : List ℕ) → old.waiting ≡ [] → new.waiting ≡ [] → TakesAllBytes o old.device bytes new.device
      → Buffers o old bytes new
  buffers_written old new bytes before after taken =
      (bytes, ap (λ l. l ++ bytes) before ∙ (sym (append-nil bytes) ∙ ap (λ l. bytes ++ l) (sym after)), taken)

  pub buffers_after : (old mid new : BufferState D) (bytes : List ℕ) → Buffers o old [] mid → Buffers o mid bytes new → Buffers o old bytes new
  buffers_after old mid new bytes (first, split, a) (second, rest, b) =
      let start : old.waiting ≡ first ++ mid.waiting = sym (append-nil old.waiting) ∙ split in
      let joined = ap (λ l. l ++ bytes) start ∙ (append_assoc first mid.waiting bytes ∙ (ap (λ l. first ++ l) rest ∙ sym (append_assoc first second new.waiting))) in
      (first ++ second, joined, TakesAllBytes-trans o old.device mid.device new.device first second a b)

  -- the bytes were not buffered, so the buffer was flushed
  pub buffers_handed : (old buffered handed : BufferState D) → buffered.device ≡ old.device → buffered.waiting ≡ old.waiting → Buffers o buffered [] handed → Buffers o old [] handed
  buffers_handed old buffered handed device waiting rest = buffers_after old buffered handed [] (buffers_none old buffered device waiting) rest

  -- the device took all that was buffered
  pub takes_all : (old new : BufferState D) → Buffers o old [] new → new.waiting ≡ [] → TakesAllBytes o old.device old.waiting new.device
  takes_all old new (handed, split, taken) none =
      let is : old.waiting ≡ handed = sym (append-nil old.waiting) ∙ (split ∙ (ap (λ l. handed ++ l) none ∙ append-nil handed)) in
      subst (λ l. TakesAllBytes o old.device l new.device) (sym is) taken

  -- nothing was buffered
  pub hands_none : (old new : BufferState D) → new.write_state ≡ old.write_state → new.device ≡ old.device → new.waiting ≡ old.waiting → HandsOn o old new
  hands_none old new write_state device waiting = record {
    intact = λ e. (sym write_state ∙ e, buffers_none old new device waiting);
    write_failed = λ e not. absurd (not (write_state ∙ e));
    after_loss = λ _. (write_state, device);
  }

  pub hands_all : (old new : BufferState D) → old.write_state ≡ Intact → new.write_state ≡ Intact → new.waiting ≡ [] → TakesAllBytes o old.device old.waiting new.device
      → HandsOn o old new
  hands_all old new before after none taken = record {
    intact = λ _. (before, (old.waiting, append-nil old.waiting ∙ (sym (append-nil old.waiting) ∙ ap (λ l. old.waiting ++ l) (sym none)), taken));
    write_failed = λ _ not. absurd (not after);
    after_loss = λ not. absurd (not before);
  }

  pub hands_broken : (old new : BufferState D) → old.write_state ≡ Intact → new.write_state ≡ Lost → WriteFails o old.device old.waiting new.device → HandsOn o old new
  hands_broken old new before after write_fails = record {
    intact = λ e. let bad : Lost ≡ Intact = sym after ∙ e in absurd cc;
    write_failed = λ _ _. (after, write_fails);
    after_loss = λ not. absurd (not before);
  }

  -- a write of the buffered bytes failed, so the bytes after them were not written either
  pub write_fails_first : (old mid : BufferState D) (bytes : List ℕ) (end : D) → mid.device ≡ old.device → mid.waiting ≡ old.waiting
      → WriteFails o mid.device mid.waiting end → WriteFails o old.device (old.waiting ++ bytes) end
  write_fails_first old mid bytes end device waiting write_fails =
      let one = subst (λ d. WriteFails o d mid.waiting end) device write_fails in
      let two = subst (λ l. WriteFails o old.device l end) waiting one in
      WriteFails-more o old.device end old.waiting bytes two

  -- a write of the bytes themselves failed
  pub write_fails_later : (old mid : BufferState D) (bytes : List ℕ) (end : D) → Buffers o old [] mid → mid.waiting ≡ [] → WriteFails o mid.device bytes end
      → WriteFails o old.device (old.waiting ++ bytes) end
  write_fails_later old mid bytes end buffers none write_fails =
      WriteFails-after o old.device mid.device end old.waiting bytes (takes_all old mid buffers none) write_fails
