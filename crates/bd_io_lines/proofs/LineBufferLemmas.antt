-- Lemmas on reading the next line of a device.
use Rattle.std.proofs.Common.{rules, ◌≡◌, ◌<◌, ◌≤◌, ◌+◌, ℕ, List, [], ◌∷◌, ◌++◌, length, Bool, true, false, Option, Some, None, refl, sym, ap, ◌∙◌, subst, append_assoc, append-nil, arith, inl, inr}
use Rattle.std.proofs.Common.{length-append}
use Rattle.std.proofs.{Math.Nat.add-suc, lemmas.Bool.cases_Bool}
use Rattle.std.proofs.KnownBytes.{Consumes-trans, Consumes-nil, Consumes-kept}
use Rattle.std.specs.Prelude.{◌⊎◌}
use Rattle.std.specs.Io.KnownBytes.{Consumes, IsAtEnd, Keeps}
use Rattle.bd_value.specs.Limits.{longest_command}
use Rattle.bd_io_device.specs.{Devices.after_more, Devices.greatest, declared.reading.Limits.Limits, declared.reading.ReadFault.ReadFault}
use Rattle.bd_io_device.specs.Devices.{AreReads, zero_reads, Reader}
use Rattle.bd_io_device.proofs.DevicesLemmas.{reads_none, reads_more, reads_append}
use Rattle.bd_io_lines.specs.{Lines.IsLine, Lines.IsPart, Lines.IsWholeLine, LineBuffer.Buffered, inside.LineBuffer.StopsLine}
use Rattle.bd_io_lines.specs.LineBuffer.{EndsByOneRead, FailsToReadLine, FindsNoLine, ReadsLine, GivesBeforeLast, GivesBytes, IsCause, IsLazy, LastRead, ReadsTo, StopsReading}
use Rattle.bd_io_lines.proofs.LinesLemmas.{line_grows, both_empty}
use Rattle.bd_io_device.specs.declared.reading.ReadFault.TheVariants as reads

-- one read: it gives no bytes at the end, and at least one before it
pub reads_one : {R : Type 0} (gives : R → Option (List ℕ) → R → Type 0) (ended : Bool) (old new : R) (given : List ℕ) → gives old (Some given) new
    → (ended ≡ true → given ≡ []) → (ended ≡ false → 0 < length given) → ReadsTo gives ended 1 old given new
reads_one {R} gives true old new given one none some =
    (0, old, refl, reads_none old given (none refl), subst (λ (l : List ℕ). gives old (Some l) new) (none refl) one)
reads_one {R} gives false old new given one none some = reads_more 0 old old new [] given given (zero_reads old) one (some refl) refl

pub reads_then : {R : Type 0} (gives : R → Option (List ℕ) → R → Type 0) (ended : Bool) (n m : ℕ) (old mid new : R) (prefix rest : List ℕ)
    → AreReads gives n old prefix mid → ReadsTo gives ended m mid rest new → ReadsTo gives ended (n + m) old (prefix ++ rest) new
reads_then {R} gives true n m old mid new prefix rest first (k, last, e, second, none) =
    (n + k, last, ap (λ i. n + i) e ∙ add-suc n k, reads_append n k old mid last prefix rest first second, none)
reads_then {R} gives false n m old mid new prefix rest first second = reads_append n m old mid new prefix rest first second

pub adds_calls : (a b c n m : ℕ) → b ≡ after_more a n → c ≡ after_more b m → c ≡ after_more a (n + m)
adds_calls a b c n m first second = search (rules, first, second)

-- reads, and then reads of which the last is listed separately
pub one_read_then : {R : Type 0} {gives : R → Option (List ℕ) → R → Type 0} (n : ℕ) (old mid new : R) (first prefix part : List ℕ)
    → AreReads gives n old first mid → EndsByOneRead gives prefix part mid new → EndsByOneRead gives (first ++ prefix) part old new
one_read_then {R} {gives} n old mid new first prefix part are (turns, last, more, one) =
    (n + turns, last, reads_append n turns old mid last first prefix are more, one)

-- why a line was not read, by a reader that gave bytes before
pub cause_then : {R : Type 0} {gives : R → Option (List ℕ) → R → Type 0} (limits middle : Limits) (n turns : ℕ) (old mid new : R) (before bytes rest : List ℕ) (fault : ReadFault)
    → AreReads gives n old before mid → middle.bytes + length before ≡ limits.bytes → middle.turns + n ≡ limits.turns
    → IsCause gives middle turns bytes rest mid new fault → IsCause gives limits (n + turns) bytes (before ++ rest) old new fault
cause_then {R} {gives} limits middle n turns old mid new before bytes rest reads.Device are capacity turned (part, fits) = (part, omega (arith, capacity, fits, length-append before rest))
cause_then {R} {gives} limits middle n turns old mid new before bytes rest reads.TooLong are capacity turned (inl (long, fits)) = inl (long, omega (arith, capacity, fits, length-append before rest))
cause_then {R} {gives} limits middle n turns old mid new before bytes rest reads.TooLong are capacity turned (inr (begun, prefix, part, split, is, splits, few, more, one)) =
    inr (
      begun,
      before ++ prefix,
      part,
      split,
      is,
      ap (λ x. before ++ x) splits ∙ sym (append_assoc before prefix part),
      omega (arith, capacity, few, length-append before prefix),
      omega (arith, capacity, more, length-append before rest),
      one_read_then n old mid new before prefix part are one,
    )
cause_then {R} {gives} limits middle n turns old mid new before bytes rest reads.TooManyTurns are capacity turned (part, fits) = (part, omega (arith, capacity, fits, length-append before rest))
cause_then {R} {gives} limits middle n turns old mid new before bytes rest reads.NoMemory are capacity turned (inl whole, fits) = (inl whole, omega (arith, capacity, fits, length-append before rest))
cause_then {R} {gives} limits middle n turns old mid new before bytes rest reads.NoMemory are capacity turned (inr (part, few), fits) =
    (inr (part, omega (arith, turned, few)), omega (arith, capacity, fits, length-append before rest))

-- the loop invariant: the bytes given are the line so far and what is buffered after it
pub record SoFar {R : Type 0} (state : R → Reader) (gives : R → Option (List ℕ) → R → Type 0) (before after : Buffered) (old new : R) : Type 0 where
  pub given : List ℕ
  pub reads : GivesBytes state gives before.remaining after.remaining after.ended given old new
  pub same : before.rest ++ given ≡ after.line ++ after.rest
  pub lazy : IsLazy gives before.rest given old new

-- the bytes before the last read, if more bytes were read before them
pub before_last_then : {R : Type 0} {gives : R → Option (List ℕ) → R → Type 0} (n : ℕ) (old mid new : R) (first prefix given : List ℕ)
    → AreReads gives n old first mid → GivesBeforeLast gives prefix mid given new → GivesBeforeLast gives (first ++ prefix) old (first ++ given) new
before_last_then {R} {gives} n old mid new first prefix given are (part, split, one) =
    (part, ap (λ x. first ++ x) split ∙ sym (append_assoc first prefix part), one_read_then n old mid new first prefix part are one)

-- after a part of a line, no read was made once the line had its newline
lazy_then : {R : Type 0} {gives : R → Option (List ℕ) → R → Type 0} (n : ℕ) (old mid new : R) (head prefix line rest : List ℕ) → head ++ prefix ≡ line
    → AreReads gives n old prefix mid → IsLazy gives head prefix old mid → IsLazy gives line rest mid new → IsLazy gives head (prefix ++ rest) old new
lazy_then {R} {gives} n old mid new head prefix line rest e are before (inl (none, same)) =
    subst (λ r. IsLazy gives head (prefix ++ rest) old r) (sym same)
    (subst (λ x. IsLazy gives head x old mid) (sym (ap (λ x. prefix ++ x) none ∙ append-nil prefix)) before)
lazy_then {R} {gives} n old mid new head prefix line rest e are before (inr (more, is, last)) = inr (
  prefix ++ more,
  subst IsLine (sym (ap (λ x. x ++ more) e) ∙ append_assoc head prefix more) is,
  before_last_then n old mid new prefix more rest are last,
)

module _ {R : Type 0} {state : R → Reader} {gives : R → Option (List ℕ) → R → Type 0} where
  pub gives_none : (limits : Limits) (old : R) → (state old).calls ≤ greatest → GivesBytes state gives limits limits false [] old old
  gives_none limits old fit = record {
    turns = 0;
    gave = Consumes-nil (state old).remaining;
    reads = zero_reads old;
    capacity = search rules;
    turned = search rules;
    calls = search (rules, fit);
    no_failure = refl;
    end = λ e. absurd (search (rules, e));
  }

  pub gives_then : {limits middle remaining : Limits} {ended : Bool} {old mid new : R} {prefix rest : List ℕ}
      → GivesBytes state gives limits middle false prefix old mid → GivesBytes state gives middle remaining ended rest mid new
      → GivesBytes state gives limits remaining ended (prefix ++ rest) old new
  gives_then {limits} {middle} {remaining} {ended} {old} {mid} {new} {prefix} {rest} a b = record {
    turns = a.turns + b.turns;
    gave = Consumes-trans (state old).remaining (state mid).remaining (state new).remaining prefix rest a.gave b.gave;
    reads = reads_then gives ended a.turns b.turns old mid new prefix rest a.reads b.reads;
    capacity = let x = a.capacity in let y = b.capacity in omega (arith, x, y, length-append prefix rest);
    turned = let x = a.turned in let y = b.turned in omega (arith, x, y);
    calls = adds_calls (state old).calls (state mid).calls (state new).calls a.turns b.turns a.calls b.calls;
    no_failure = b.no_failure ∙ a.no_failure;
    end = b.end;
  }

  last_then : (limits middle : Limits) (old mid new : R) (prefix rest : List ℕ) (fault : ReadFault) → GivesBytes state gives limits middle false prefix old mid
      → (n : ℕ) → (a : ℕ) → AreReads gives a old prefix mid → middle.turns + a ≡ limits.turns → (state mid).calls ≡ after_more (state old).calls a
      → LastRead state gives middle n mid rest new fault → LastRead state gives limits (a + n) old (prefix ++ rest) new fault
  last_then limits middle old mid new prefix rest reads.Device g n a first turned calls (last, second, none, failures) =
      (last, reads_append a n old mid last prefix rest first second, none, failures ∙ ap (λ i. after_more i 1) g.no_failure)
  last_then limits middle old mid new prefix rest reads.TooLong g n a first turned calls (second, no_failure) =
      (reads_append a n old mid new prefix rest first second, no_failure ∙ g.no_failure)
  last_then limits middle old mid new prefix rest reads.TooManyTurns g n a first turned calls (second, no_failure, all, called) = (
    reads_append a n old mid new prefix rest first second,
    no_failure ∙ g.no_failure,
    omega (arith, turned, all),
    let e : middle.turns + a ≡ a + middle.turns = omega arith in
        subst (λ i. (state new).calls ≡ after_more (state old).calls i) (sym e ∙ turned) (adds_calls (state old).calls (state mid).calls (state new).calls a middle.turns calls called),
  )
  last_then limits middle old mid new prefix rest reads.NoMemory g n a first turned calls (second, no_failure) =
      (reads_append a n old mid new prefix rest first second, no_failure ∙ g.no_failure)

  pub stops_then : {limits middle : Limits} {old mid new : R} {prefix rest : List ℕ} {fault : ReadFault}
      → GivesBytes state gives limits middle false prefix old mid → StopsReading state gives middle rest mid new fault
      → StopsReading state gives limits (prefix ++ rest) old new fault
  stops_then {limits} {middle} {old} {mid} {new} {prefix} {rest} {fault} a b = record {
    turns = a.turns + b.turns;
    within = let x = a.turned in let y = b.within in omega (arith, x, y);
    gave = Consumes-trans (state old).remaining (state mid).remaining (state new).remaining prefix rest a.gave b.gave;
    reads = last_then limits middle old mid new prefix rest fault a b.turns a.turns a.reads a.turned a.calls b.reads;
    calls = let x = a.turned in let y = b.calls in let z = a.calls in search (rules, x, y, z);
  }

  -- after bytes that were given reading failed, and why
  pub fails_after : {limits middle : Limits} {old mid new : R} {prefix rest : List ℕ} {fault : ReadFault} (bytes : List ℕ)
      → GivesBytes state gives limits middle false prefix old mid → (b : StopsReading state gives middle rest mid new fault) → IsCause gives middle b.turns bytes rest mid new fault
      → (stops : StopsReading state gives limits (prefix ++ rest) old new fault) × IsCause gives limits stops.turns bytes (prefix ++ rest) old new fault
  unfolding stops_then
  fails_after {limits} {middle} {old} {mid} {new} {prefix} {rest} {fault} bytes a b cause =
      (stops_then a b, cause_then limits middle a.turns b.turns old mid new prefix bytes rest fault a.reads a.capacity a.turned cause)

  -- after a part of a line the reader failed
  fails_then : {limits middle : Limits} {old mid new : R} {head prefix line : List ℕ} {fault : ReadFault}
      → GivesBytes state gives limits middle false prefix old mid → head ++ prefix ≡ line → IsLazy gives head prefix old mid
      → FailsToReadLine state gives middle line mid new fault → FailsToReadLine state gives limits head old new fault
  fails_then {limits} {middle} {old} {mid} {new} {head} {prefix} {line} {fault} a e lazy b =
      let both = fails_after (head ++ (prefix ++ b.given)) a b.stops (subst (λ x. IsCause gives middle b.stops.turns x b.given mid new fault) (sym (ap (λ x. x ++ b.given) e) ∙ append_assoc head prefix b.given) b.cause) in
      record {
        given = prefix ++ b.given;
        stops = both.0;
        cause = both.1;
        lazy = lazy_then a.turns old mid new head prefix line b.given e a.reads lazy b.lazy;
      }

  -- n reads gave these bytes, and no further read was made
  stops_by : {limits : Limits} {old new : R} {given : List ℕ} {fault : ReadFault} (turns : ℕ) → turns ≤ limits.turns → Consumes (state old).remaining (state new).remaining given
      → LastRead state gives limits turns old given new fault → (state new).calls ≡ after_more (state old).calls turns → StopsReading state gives limits given old new fault
  stops_by turns within gave last calls = record { turns = turns; within = within; gave = gave; reads = last; calls = search (rules, within, calls) }

  -- the read failed
  pub fails_device : (limits : Limits) (old new : R) (head : List ℕ) → 0 < limits.turns → IsPart head → Keeps (state old).remaining (state new).remaining
      → gives old None new → (state new).calls ≡ after_more (state old).calls 1 → (state new).failures ≡ after_more (state old).failures 1
      → FailsToReadLine state gives limits head old new reads.Device
  fails_device limits old new head some part kept none calls failures = record {
    given = [];
    stops = record {
      turns = 0;
      within = omega arith;
      gave = Consumes-kept (state old).remaining (state old).remaining (state new).remaining [] (Consumes-nil (state old).remaining) kept;
      reads = (old, zero_reads old, none, failures);
      calls = search (rules, some, calls);
    };
    cause = (subst IsPart (sym (append-nil head)) part, omega arith);
    lazy = inr ([], subst IsLine (sym (append-nil head)) part.0, ([], refl, (0, old, zero_reads old, inr (refl, none))));
  }

  -- the read gave more than the limit
  pub fails_limit : (limits : Limits) (old new : R) (head last : List ℕ) → 0 < limits.turns → IsPart head → Consumes (state old).remaining (state new).remaining last
      → gives old (Some last) new → (state new).calls ≡ after_more (state old).calls 1 → (state new).failures ≡ (state old).failures
      → limits.bytes < length last → FailsToReadLine state gives limits head old new reads.TooLong
  fails_limit limits old new head last some part took one calls no_failure more = record {
    given = last;
    stops = stops_by 1 (omega (arith, some)) took (reads_more 0 old old new [] last last (zero_reads old) one (omega (arith, more)) refl, no_failure) calls;
    cause = inr (head, [], last, refl, part, refl, omega arith, more, (0, old, zero_reads old, inl one));
    lazy = inr ([], subst IsLine (sym (append-nil head)) part.0, (last, refl, (0, old, zero_reads old, inl one)));
  }

  -- memory ran out before the read
  pub fails_capacity : (limits : Limits) (old : R) (head : List ℕ) → 0 < limits.turns → (state old).calls ≤ greatest → IsPart head
      → FailsToReadLine state gives limits head old old reads.NoMemory
  unfolding stops_by
  fails_capacity limits old head some fit part = record {
    given = [];
    stops = stops_by 0 (omega arith) (Consumes-nil (state old).remaining) (zero_reads old, refl) (search (rules, fit));
    cause = (inr (subst IsPart (sym (append-nil head)) part, some), omega arith);
    lazy = inl (refl, refl);
  }

  -- the bytes that the read gave were taken
  pub gives_one : (limits remaining : Limits) (ended : Bool) (old new : R) (given : List ℕ) → Consumes (state old).remaining (state new).remaining given
      → gives old (Some given) new → (state new).calls ≡ after_more (state old).calls 1 → (state new).failures ≡ (state old).failures
      → remaining.bytes + length given ≡ limits.bytes → remaining.turns + 1 ≡ limits.turns → (ended ≡ true → IsAtEnd (state new).remaining)
      → (ended ≡ true → given ≡ []) → (ended ≡ false → 0 < length given) → GivesBytes state gives limits remaining ended given old new
  gives_one limits remaining ended old new given took one calls no_failure capacity turned end none some = record {
    turns = 1;
    gave = took;
    reads = reads_one gives ended old new given one none some;
    capacity = capacity;
    turned = turned;
    calls = calls;
    no_failure = no_failure;
    end = end;
  }

  module _ {before lines : Buffered} {old mid : R} (so_far : SoFar state gives before lines old mid) (going : lines.ended ≡ false) (whole : IsLine lines.line) where
    gave : GivesBytes state gives before.remaining lines.remaining false so_far.given old mid
    gave = subst (λ b. GivesBytes state gives before.remaining lines.remaining b so_far.given old mid) going so_far.reads

    -- a newline ends the line
    pub reads_line : (after : Buffered) (part : List ℕ) → IsLine part → after.line ≡ lines.line ++ part → lines.rest ≡ part ++ 10 ∷ after.rest
        → after.remaining ≡ lines.remaining → after.ended ≡ false → length after.line ≤ longest_command → ReadsLine state gives before after old mid
    reads_line after part is grown split remaining ended short = record {
      given = so_far.given;
      reads = subst (λ l. GivesBytes state gives before.remaining l after.ended so_far.given old mid) (sym remaining)
          (subst (λ b. GivesBytes state gives before.remaining lines.remaining b so_far.given old mid) (sym ended) gave);
      line = (
        (subst IsLine (sym grown) (line_grows lines.line part whole is), short),
        inl (so_far.same ∙ ap (λ x. lines.line ++ x) split ∙ sym (append_assoc lines.line part (10 ∷ after.rest))
            ∙ ap (λ x. x ++ 10 ∷ after.rest) (sym grown)),
      );
      lazy = so_far.lazy;
    }

    -- the line is too long
    line_too_long : (part rest : List ℕ) → IsLine part → lines.rest ≡ part ++ rest → longest_command < length lines.line + length part
        → FailsToReadLine state gives before.remaining before.rest old mid reads.TooLong
    line_too_long part rest is split long = record {
      given = so_far.given;
      stops = stops_by gave.turns (let x = gave.turned in omega (arith, x)) gave.gave (gave.reads, gave.no_failure) gave.calls;
      cause = inl (
        (
          lines.line ++ part,
          rest,
          so_far.same ∙ ap (λ x. lines.line ++ x) split ∙ sym (append_assoc lines.line part rest),
          line_grows lines.line part whole is,
          omega (arith, long, length-append lines.line part),
        ),
        let x = gave.capacity in omega (arith, x),
      );
      lazy = so_far.lazy;
    }

    -- what is buffered is a part of the line
    is_part : IsLine lines.rest → length lines.line + length lines.rest ≤ longest_command → IsPart (before.rest ++ so_far.given)
    is_part is short = subst IsPart (sym so_far.same) (line_grows lines.line lines.rest whole is, omega (arith, short, length-append lines.line lines.rest))

    -- no further read is allowed
    line_too_many : IsLine lines.rest → length lines.line + length lines.rest ≤ longest_command → lines.remaining.turns ≡ 0
        → FailsToReadLine state gives before.remaining before.rest old mid reads.TooManyTurns
    line_too_many is short none =
        let all : gave.turns ≡ before.remaining.turns = let x = gave.turned in omega (arith, x, none) in
        record {
          given = so_far.given;
          stops = stops_by gave.turns (omega (arith, all)) gave.gave
              (gave.reads, gave.no_failure, all, subst (λ i. (state mid).calls ≡ after_more (state old).calls i) all gave.calls) gave.calls;
          cause = (is_part is short, let x = gave.capacity in omega (arith, x));
          lazy = so_far.lazy;
        }

    -- memory ran out for a whole line, or another read is allowed
    line_no_memory : IsWholeLine (before.rest ++ so_far.given) ⊎ (IsPart (before.rest ++ so_far.given) × (gave.turns < before.remaining.turns))
        → FailsToReadLine state gives before.remaining before.rest old mid reads.NoMemory
    unfolding stops_by gave
    line_no_memory why = record {
      given = so_far.given;
      stops = stops_by gave.turns (let x = gave.turned in omega (arith, x)) gave.gave (gave.reads, gave.no_failure) gave.calls;
      cause = (why, let x = gave.capacity in omega (arith, x));
      lazy = so_far.lazy;
    }

    pub line_stops : (fault : ReadFault) → StopsLine lines.line lines.rest lines.remaining.turns fault
        → FailsToReadLine state gives before.remaining before.rest old mid fault
    line_stops reads.TooLong (part, rest, is, split, long) = line_too_long part rest is split long
    line_stops reads.TooManyTurns (is, short, none) = line_too_many is short none
    line_stops reads.Device never = absurd never
    line_stops reads.NoMemory (inl (part, more, is, split, short)) = line_no_memory (inl (
      lines.line ++ part,
      more,
      (line_grows lines.line part whole is, omega (arith, short, length-append lines.line part)),
      so_far.same ∙ ap (λ x. lines.line ++ x) split ∙ sym (append_assoc lines.line part (10 ∷ more)),
    ))
    line_stops reads.NoMemory (inr (is, short, some)) =
        line_no_memory (inr (is_part is short, let x = gave.turned in omega (arith, x, some)))

    module _ (is : IsLine lines.rest) where
      head_is : IsLine (before.rest ++ so_far.given)
      head_is = subst IsLine (sym so_far.same) (line_grows lines.line lines.rest whole is)

      -- so no newline was buffered at first
      module _ (all : List ℕ) (grown : all ≡ lines.line ++ lines.rest) where
        pub line_grown : IsLine all
        line_grown = subst IsLine (sym grown) (line_grows lines.line lines.rest whole is)

        pub line_fails : (new : R) (fault : ReadFault) → FailsToReadLine state gives lines.remaining all mid new fault
            → FailsToReadLine state gives before.remaining before.rest old new fault
        line_fails new fault fails = fails_then gave (so_far.same ∙ sym grown) so_far.lazy fails

      pub line_goes_on : (after : Buffered) → after.line ≡ lines.line ++ lines.rest → (new : R)
          → GivesBytes state gives lines.remaining after.remaining after.ended after.rest mid new → gives mid (Some after.rest) new → SoFar state gives before after old new
      line_goes_on after grown new more one = record {
        given = so_far.given ++ after.rest;
        reads = gives_then gave more;
        same = sym (append_assoc before.rest so_far.given after.rest) ∙ ap (λ x. x ++ after.rest) (so_far.same ∙ sym grown);
        lazy = inr (so_far.given, head_is, (after.rest, refl, (gave.turns, mid, gave.reads, inl one)));
      }

  pub starts : (lines : Buffered) (old : R) → (state old).calls ≤ greatest → lines.ended ≡ false → lines.line ≡ [] → SoFar state gives lines lines old old
  starts lines old fit is empty = record {
    given = [];
    reads = subst (λ b. GivesBytes state gives lines.remaining lines.remaining b [] old old) (sym is) (gives_none lines.remaining old fit);
    same = append-nil lines.rest ∙ ap (λ x. x ++ lines.rest) (sym empty);
    lazy = inl (refl, refl);
  }

  finds_nothing : {before after : Buffered} {old new : R} → after.ended ≡ true → after.line ≡ [] → after.rest ≡ [] → SoFar state gives before after old new
      → (before.rest ≡ []) × GivesBytes state gives before.remaining after.remaining true [] old new
  finds_nothing {before} {after} {old} {new} is empty drained so_far =
      let none : before.rest ++ so_far.given ≡ [] = so_far.same ∙ ap (λ x. x ++ after.rest) empty ∙ drained in
      let both = both_empty before.rest so_far.given none in
      let gave = subst (λ b. GivesBytes state gives before.remaining after.remaining b so_far.given old new) is so_far.reads in
      (both.0, subst (λ x. GivesBytes state gives before.remaining after.remaining true x old new) both.1 gave)

  pub finds_no_line : (before after : Buffered) (old new : R) → after.ended ≡ true → after.line ≡ [] → after.rest ≡ []
      → (before.ended ≡ true → after.rest ≡ before.rest) → (before.ended ≡ false → SoFar state gives before after old new)
      → FindsNoLine state gives before after old new
  finds_no_line before after old new is empty drained same so_far = record {
    none = (elim (cases_Bool before.ended) [ inl was ↦ sym (same was) ∙ drained | inr was ↦ (finds_nothing is empty drained (so_far was)).0 ], empty);
    ended = is;
    reads = λ was. (finds_nothing is empty drained (so_far was)).1;
  }
