-- Documents that a device gives one at a time.
use Rattle.std.proofs.Common.{◌≡◌, ◌≤◌, ◌<◌, ◌⊎◌, inl, inr, ltb, ℕ, ◌+◌, ◌-◌, List, [], ◌∷◌, ◌++◌, length, take, drop, take_at, drop_at, Bool, cond, true, false, Option}
use Rattle.std.proofs.Common.{Some, None, Ok, Err, suc, pred, refl, sym, ap, ap₂, ◌∙◌, subst, arith, append-nil, append_assoc, length-append, rules, IfSome, ◌||◌}
use Rattle.std.proofs.lemmas.{Bool.le-ltb, Bool.lt-ltb, Bool.Decides.nat_tests}
use Rattle.std.specs.{Io.KnownBytes.Consumes, Io.KnownBytes.IsAtEnd, Io.KnownBytes.prepend_known, Io.StartsWith}
use Rattle.bd_value.specs.Limits.{longest_document}
use lib.Seq.{take-append-le}
use Rattle.bd_bson_check.specs.declared.fault.FaultKind.TheVariants.{ShortLength, BadLength}
use Rattle.bd_bson_check.specs.{declared.fault.FaultKind.FaultKind, Dump.stated_length, Dump.frame_length}
use Rattle.bd_bson_stream.specs.Stream.{IsFrame, AreFrames, IsCutShort, IsWithinOne, HasNoFrame, CountsReads, FailsToRead, GrowsFor, BuffersAsMuch, BuffersNone, IsReason, ReadsToFault}
use Rattle.bd_bson_stream.specs.{declared.doc_buffer.DocBuffer.DocBuffer, declared.doc_buffer.DocFault.DocFault}
use Rattle.bd_bson_check.proofs.DumpLemmas.{frame_good, frame_inside, document_frame, Stuck}
use Rattle.std.proofs.KnownBytes.{Consumes-trans}
use Rattle.bd_io_device.specs.{Devices.after_more, Devices.AreReads, Devices.Reader, Devices.ReadsUntil, Devices.FailsToFill, Devices.FillsBuffer, Devices.over}
use Rattle.bd_io_device.specs.declared.reading.{Limits.Limits, ReadFault.ReadFault}
use Rattle.bd_io_device.proofs.DevicesLemmas.{reads_append}
use Rattle.bd_io_device.specs.declared.reading.ReadFault.TheVariants as reads
use Rattle.bd_bson_stream.specs.declared.doc_buffer.DocFault.TheVariants as faults

-- ---- the length at the start of a document

pub stated_unchanged : (head rest : List ℕ) → 4 ≤ length head → stated_length (head ++ rest) ≡ stated_length head
stated_unchanged head rest long = let e : take 4 (head ++ rest) ≡ take 4 head = take-append-le 4 head rest long in rw e refl

pub frame_short : (bytes : List ℕ) → 0 < length bytes → length bytes < 4 → frame_length bytes ≡ Err ShortLength
frame_short [] some few = absurd (omega arith)
frame_short (b ∷ bytes) some few = rw (lt-ltb _ _ few) refl

-- a length that is not that of a document at the start of n bytes
abbrev IsBad : ℕ → ℕ → Type 0
IsBad stated size = (stated < 5) ⊎ (longest_document < stated) ⊎ (size < stated)

bad : (stated size : ℕ) → IsBad stated size → (ltb stated 5 || ltb longest_document stated || ltb size stated) ≡ true
bad stated size (inl low) = grind (arith, nat_tests)
bad stated size (inr (inl high)) = grind (arith, nat_tests)
bad stated size (inr (inr less)) = grind (arith, nat_tests)

frame_bad : (bytes : List ℕ) → 4 ≤ length bytes → IsBad (stated_length bytes) (length bytes) → frame_length bytes ≡ Err BadLength
frame_bad [] long is = absurd (omega arith)
frame_bad (b ∷ bytes) long is =
    let l : ltb (length (b ∷ bytes)) 4 ≡ false = le-ltb _ _ long in
    rw (l, bad (stated_length (b ∷ bytes)) (length (b ∷ bytes)) is) refl

-- ---- bytes that begin with no length of a document

-- the bytes that follow the given ones, if known
no_frame : (old new : Option (List ℕ)) (given : List ℕ) (kind : FaultKind) → Consumes old new given
    → ((rest : List ℕ) → IfSome new (λ xs. rest ≡ xs) → frame_length (given ++ rest) ≡ Err kind) → frame_length (given ++ []) ≡ Err kind → HasNoFrame [] old kind
no_frame None new given kind gave is alone = (given ++ [], _, alone)
no_frame (Some xs) None given kind gave is alone = absurd gave
no_frame (Some xs) (Some ys) given kind gave is alone = (given ++ ys, sym gave, is ys refl)

pub has_short_length : (old new : Option (List ℕ)) (given : List ℕ) → Consumes old new given → IsAtEnd new → 0 < length given → length given < 4 → HasNoFrame [] old ShortLength
has_short_length old None given gave end some few =
    let alone = frame_short (given ++ []) (omega (arith, length-append given [])) (omega (arith, length-append given [])) in
    has_short old given gave alone
  where
    has_short : (old : Option (List ℕ)) (given : List ℕ) → Consumes old None given → frame_length (given ++ []) ≡ Err ShortLength → HasNoFrame [] old ShortLength
    has_short None given gave alone = (given ++ [], _, alone)
    has_short (Some xs) given gave alone = absurd gave
has_short_length old (Some ys) given gave end some few =
    let alone = frame_short (given ++ []) (omega (arith, length-append given [])) (omega (arith, length-append given [])) in
    no_frame old (Some ys) given ShortLength gave (λ rest is. rw (is ∙ end) alone) alone

pub has_bad_length : (old new : Option (List ℕ)) (given : List ℕ) → Consumes old new given → length given ≡ 4 → (stated_length given < 5)
    ⊎ (longest_document < stated_length given) → HasNoFrame [] old BadLength
has_bad_length old new given gave size is = no_frame old new given BadLength gave (λ rest known. after rest) (after [])
  where
    out : (stated size : ℕ) → (stated < 5) ⊎ (longest_document < stated) → IsBad stated size
    out stated size (inl low) = inl low
    out stated size (inr high) = inr (inl high)

    after : (rest : List ℕ) → frame_length (given ++ rest) ≡ Err BadLength
    after rest =
        let stated = stated_unchanged given rest (omega arith) in
        frame_bad (given ++ rest) (omega (arith, length-append given rest)) (rw stated (out (stated_length given) (length (given ++ rest)) is))

pub frame_out : (given : List ℕ) → length given ≡ 4 → (stated_length given < 5) ⊎ (longest_document < stated_length given) → frame_length given ≡ Err BadLength
frame_out given size is = frame_bad given (omega arith) (out_of (stated_length given) (length given) is)
  where
    out_of : (stated size : ℕ) → (stated < 5) ⊎ (longest_document < stated) → IsBad stated size
    out_of stated size (inl low) = inl low
    out_of stated size (inr high) = inr (inl high)

-- ---- after the four bytes of a length

abbrev pub IsHead : List ℕ → Type 0
IsHead head = (length head ≡ 4) × (5 ≤ stated_length head) × (stated_length head ≤ longest_document)

pub frame_cut_short : (head given : List ℕ) → IsHead head → length given + 4 < stated_length head → frame_length (head ++ given) ≡ Err BadLength
frame_cut_short head given is less =
    let stated = stated_unchanged head given (let z = is.0 in omega arith) in
    frame_bad (head ++ given) (let z = is.0 in omega (arith, length-append head given)) (inr (inr (let z = is.0 in omega (arith, length-append head given))))

pub has_length_cut_short : (head : List ℕ) (old new : Option (List ℕ)) (given : List ℕ) → IsHead head → Consumes old new given → IsAtEnd new → length given + 4 < stated_length head
    → HasNoFrame head old BadLength
has_length_cut_short head None new given is gave end less = (head ++ given, _, frame_cut_short head given is less)
has_length_cut_short head (Some xs) None given is gave end less = absurd gave
has_length_cut_short head (Some xs) (Some ys) given is gave end less =
    let all : xs ≡ given = gave ∙ ap (λ z. given ++ z) end ∙ append-nil given in
    (head ++ xs, refl, subst (λ z. frame_length (head ++ z) ≡ Err BadLength) (sym all) (frame_cut_short head given is less))

-- a buffer that its bytes fill
pub whole_capacity : (n len : ℕ) (block rest all : List ℕ) → take n block ≡ all → length block ≡ len → take n (take len (block ++ rest)) ≡ all
whole_capacity n len block rest all prefix size = ap (take n) (take_at block rest len size) ∙ prefix

pub is_frame : (bytes head given : List ℕ) → bytes ≡ head ++ given → IsHead head → length given + 4 ≡ stated_length head → IsFrame bytes
is_frame bytes head given e is size =
    let stated = stated_unchanged head given (let z = is.0 in omega arith) in
    let all : length (head ++ given) ≡ stated_length head = let z = is.0 in omega (arith, length-append head given) in
    rw e (frame_good (head ++ given) (length (head ++ given)) (stated ∙ sym all) (let z = is.1 in omega arith) (let z = is.2 in omega arith) (omega arith))

pub is_cut_short : (head given : List ℕ) → IsHead head → length given < stated_length head - 4 → IsCutShort (head ++ given)
is_cut_short head given is less =
    let stated = stated_unchanged head given (let z = is.0 in omega arith) in
    inr (rw stated is.1, rw stated is.2, rw stated (let z = is.0 in omega (arith, length-append head given)))

pub within_head : (head given : List ℕ) → IsHead head → length given ≤ stated_length head - 4 → IsWithinOne (head ++ given)
within_head head given is fits =
    let stated = stated_unchanged head given (let z = is.0 in omega arith) in
    inr (rw stated is.1, rw stated is.2, rw stated (let z = is.0 in let m = is.1 in omega (arith, length-append head given)))

-- ---- the head and what is after it

-- if the bytes are known and the head was given, they are the head and the rest
pub joined_gave : (old mid new : Option (List ℕ)) (head all : List ℕ) → Consumes old mid head → Consumes (prepend_known head mid) new all → Consumes old new all
joined_gave None mid new head all gave rest = _
joined_gave (Some xs) None new head all gave rest = absurd gave
joined_gave (Some xs) (Some ys) new head all gave rest = subst (λ (z : List ℕ). Consumes (Some z) new all) (sym gave) rest

pub joined_no_frame : (old mid : Option (List ℕ)) (head : List ℕ) (kind : FaultKind) → Consumes old mid head → HasNoFrame head mid kind → HasNoFrame [] old kind
joined_no_frame None mid head kind gave h = (h.0, _, h.2)
joined_no_frame (Some xs) None head kind gave h = absurd gave
joined_no_frame (Some xs) (Some ys) head kind gave h = (h.0, h.1 ∙ sym gave, h.2)

-- ---- a document by its length, and what follows

frame_stated : (bytes : List ℕ) (n : ℕ) → frame_length bytes ≡ Ok (Some n) → stated_length bytes ≡ n
frame_stated [] n is = absurd cc
frame_stated (b ∷ bytes) n is =
    stated_of (ltb (length (b ∷ bytes)) 4) (ltb (stated_length (b ∷ bytes)) 5 || ltb longest_document (stated_length (b ∷ bytes))
    || ltb (length (b ∷ bytes)) (stated_length (b ∷ bytes))) (stated_length (b ∷ bytes)) n is
  where
    stated_of : (s t : Bool) (m n : ℕ) → cond s (Err ShortLength) (cond t (Err BadLength) (Ok (Some m))) ≡ Ok (Some n) → m ≡ n
    stated_of true t m n is = absurd cc
    stated_of false true m n is = absurd cc
    stated_of false false m n is = cc

-- a document's length counts its own bytes, whatever follows
pub frame_on : (frame rest : List ℕ) → IsFrame frame → frame_length (frame ++ rest) ≡ Ok (Some (length frame))
frame_on frame rest is =
    let inside = frame_inside frame (length frame) is in
    let stated : stated_length (frame ++ rest) ≡ length frame = stated_unchanged frame rest (omega (arith, inside.0)) ∙ frame_stated frame (length frame) is in
    frame_good (frame ++ rest) (length frame) stated inside.0 inside.2 (omega (arith, length-append frame rest))

-- a document, or a part of one, does not go beyond its end
pub frame_within : (bytes : List ℕ) → IsFrame bytes → IsWithinOne bytes
frame_within bytes is =
    let inside = frame_inside bytes (length bytes) is in
    let stated = frame_stated bytes (length bytes) is in
    inr (omega (arith, stated, inside.0), omega (arith, stated, inside.2), omega (arith, stated))

-- bytes that are fewer than a document are within one
pub cut_short_within : (bytes : List ℕ) → IsCutShort bytes → IsWithinOne bytes
cut_short_within bytes (inl few) = inl (omega (arith, few))
cut_short_within bytes (inr splits) = inr (splits.0, splits.1, let c = splits.2 in omega (arith, c))

-- no document is at the start of a part of one
pub cut_short_stuck : (part : List ℕ) → IsCutShort part → Stuck part
unfolding Stuck
cut_short_stuck part (inl few) d prefix rest is e =
    let inside = frame_inside part (length prefix) (ap frame_length e ∙ document_frame d prefix rest is) in
    absurd (omega (arith, inside.0, inside.1))
cut_short_stuck part (inr splits) d prefix rest is e =
    let frame = ap frame_length e ∙ document_frame d prefix rest is in
    let inside = frame_inside part (length prefix) frame in
    let stated = frame_stated part (length prefix) frame in
    absurd (let c = splits.2 in omega (arith, inside.1, stated, c))

-- ---- documents by their lengths, one after the other

pub frames_more : (frames : List (List ℕ)) (prefix frame : List ℕ) → AreFrames frames prefix → IsFrame frame → AreFrames (frames ++ frame ∷ []) (prefix ++ frame)
frames_more [] prefix frame are is = ([], is, refl, ap (λ xs. xs ++ frame) are ∙ sym (append-nil frame))
frames_more (f ∷ frames) prefix frame are is =
    (are.0 ++ frame, are.1, frames_more frames are.0 frame are.2 is, ap (λ xs. xs ++ frame) are.3 ∙ append_assoc f are.0 frame)

not_cut_short : (frame rest part : List ℕ) → IsFrame frame → IsCutShort part → part ≡ frame ++ rest → ⊥
not_cut_short frame rest part is (inl few) e =
    let inside = frame_inside part (length frame) (ap frame_length e ∙ frame_on frame rest is) in
    absurd (omega (arith, inside.0, inside.1))
not_cut_short frame rest part is (inr splits) e =
    let on = ap frame_length e ∙ frame_on frame rest is in
    let inside = frame_inside part (length frame) on in
    let stated = frame_stated part (length frame) on in
    let c = splits.2 in
    absurd (omega (arith, inside.1, stated, c))

same_frame : (f g x y : List ℕ) → IsFrame f → IsFrame g → f ++ x ≡ g ++ y → (f ≡ g) × (x ≡ y)
same_frame f g x y p q h =
    let n : length f ≡ length g = let e = sym (frame_on f x p) ∙ ap frame_length h ∙ frame_on g y q in cc in (
      sym (take_at f x (length f) refl) ∙ ap (take (length f)) h ∙ take_at g y (length f) (sym n),
      sym (drop_at f x (length f) refl) ∙ ap (drop (length f)) h ∙ drop_at g y (length f) (sym n),
    )

-- bytes are documents by their lengths and a part of one more in one way
pub frames_once : (fs gs : List (List ℕ)) (a b x y : List ℕ) → AreFrames fs a → AreFrames gs b → IsCutShort x → IsCutShort y → a ++ x ≡ b ++ y → a ≡ b
frames_once [] [] a b x y p q splits short h = p ∙ sym q
frames_once [] (g ∷ gs) a b x y p q splits short h =
    absurd (not_cut_short g (q.0 ++ y) x q.1 splits (sym (ap (λ v. v ++ x) p) ∙ h ∙ ap (λ v. v ++ y) q.3 ∙ append_assoc g q.0 y))
frames_once (f ∷ fs) [] a b x y p q splits short h =
    absurd (not_cut_short f (p.0 ++ x) y p.1 short (sym (ap (λ v. v ++ y) q) ∙ sym h ∙ ap (λ v. v ++ x) p.3 ∙ append_assoc f p.0 x))
frames_once (f ∷ fs) (g ∷ gs) a b x y p q splits short h =
    let same = same_frame f g (p.0 ++ x) (q.0 ++ y) p.1 q.1 (sym (append_assoc f p.0 x) ∙ sym (ap (λ v. v ++ x) p.3) ∙ h ∙ ap (λ v. v ++ y) q.3 ∙ append_assoc g q.0 y) in
    let others = frames_once fs gs p.0 q.0 x y p.2 q.2 splits short same.1 in
    p.3 ∙ ap₂ (λ (u v : List ℕ). u ++ v) same.0 others ∙ sym q.3

-- known bytes begin with the given ones
pub begins : (old new : Option (List ℕ)) (bytes : List ℕ) → Consumes old new bytes → IfSome old (λ xs. StartsWith xs bytes)
begins None new bytes gave = tt
begins (Some xs) None bytes gave = absurd gave
begins (Some xs) (Some ys) bytes gave = ap (take (length bytes)) gave ∙ take_at bytes ys (length bytes) refl

-- a buffer that is overwritten has the same length
pub unchanged_capacity : (len : ℕ) (block rest : List ℕ) → length block ≡ len → length (take len (block ++ rest)) ≡ length block
unchanged_capacity len block rest size = ap length (take_at block rest len size)

-- the length that the buffer needs for the document of a head
pub grown_for : (before after size : ℕ) (head given : List ℕ) → IsHead head → size ≡ stated_length head → BuffersAsMuch before after size
    → GrowsFor before after (head ++ given)
grown_for before after size head given is stated grown =
    inr (let z = is.0 in omega (arith, length-append head given), rw (stated_unchanged head given (let z = is.0 in omega arith), sym stated) grown)

-- reads of a head and of what follows it, counted by the reads that remain
pub reads_joined : {R : Type 0} {gives : R → Option (List ℕ) → R → Type 0} (first second third : ℕ) (s t u : R) (head given all : List ℕ)
    → second ≤ first → third ≤ second → AreReads gives (first - second) s head t → AreReads gives (second - third) t given u → all ≡ head ++ given
    → AreReads gives (first - third) s all u
reads_joined {R} {gives} first second third s t u head given all less fewer one two is =
    let together : (first - second) + (second - third) ≡ first - third = omega (arith, less, fewer) in
    subst (λ l. AreReads gives (first - third) s l u) (sym is)
    (subst (λ n. AreReads gives n s (head ++ given) u) together (reads_append (first - second) (second - third) s t u head given one two))

-- the reads into a buffer that was not filled, or was filled
pub found_end : {R : Type 0} {gives : R → Option (List ℕ) → R → Type 0} {size turns : ℕ} {old new : R} {bytes : List ℕ} → length bytes < size
    → FillsBuffer gives size turns old bytes new → ReadsUntil gives turns old bytes (Some []) new
found_end {R} {gives} {size} {turns} {old} {new} {bytes} less (inl (full, reads)) = absurd (omega (arith, less, full))
found_end {R} {gives} {size} {turns} {old} {new} {bytes} less (inr (few, until)) = until

pub filled_capacity : {R : Type 0} {gives : R → Option (List ℕ) → R → Type 0} {size turns : ℕ} {old new : R} {bytes : List ℕ} → length bytes ≡ size
    → FillsBuffer gives size turns old bytes new → AreReads gives turns old bytes new
filled_capacity {R} {gives} {size} {turns} {old} {new} {bytes} full (inl (is, reads)) = reads
filled_capacity {R} {gives} {size} {turns} {old} {new} {bytes} full (inr (few, until)) = absurd (omega (arith, few, full))

module _ {R : Type 0} (state : R → Reader) (gives : R → Option (List ℕ) → R → Type 0) where
  -- what the reader gave of a part of a document that lacks `size` bytes after its head, and why it gave no more
  module _ (head : List ℕ) (size : ℕ) (before : DocBuffer) (limits : Limits) (old new : R)
      (capacity : limits.bytes + length head ≡ before.remaining.bytes) (turns : limits.turns ≡ before.remaining.turns)
      (splits : (given : List ℕ) → length given < size → IsCutShort (head ++ given))
      (within : (given : List ℕ) → length given ≤ size → IsWithinOne (head ++ given)) where
    pub record Gave (fault : ReadFault) : Type 0 where
      pub given : List ℕ
      pub gave : Consumes (state old).remaining (state new).remaining given
      pub reason : IsReason state gives before old new head given (faults.Read fault)

    -- a buffer for the rest of a document that was not filled says why the document was not read
    pub gave_before : (fault : ReadFault) → FailsToFill gives state limits size old new fault
        → (fault ≡ reads.Device → (state new).failures ≡ after_more (state old).failures 1)
        → (¬ (fault ≡ reads.Device) → (state new).failures ≡ (state old).failures)
        → (fault ≡ reads.TooManyTurns → (state new).calls ≡ after_more (state old).calls limits.turns) → Gave fault
    gave_before reads.Device (n, given, most, until, gave, less, short) failed no_failure called = record {
      given = given;
      gave = gave;
      reason = (splits given less, omega (arith, capacity, short, length-append head given), failed refl, (n, until));
    }
    gave_before reads.TooLong (n, given, last, most, until, gave, short, long, fits) failed no_failure called = record {
      given = given ++ last;
      gave = gave;
      reason = (
        given,
        last,
        refl,
        splits given (let some : 0 < length last = omega (arith, short, long) in omega (arith, some, fits)),
        omega (arith, capacity, short, length-append head given),
        omega (arith, capacity, long, length-append head given),
        within (given ++ last) (omega (arith, fits, length-append given last)),
        no_failure (λ e. absurd cc),
        (n, until),
      );
    }
    gave_before reads.TooManyTurns (given, each, gave, less, short) failed no_failure called = record {
      given = given;
      gave = gave;
      reason = (
        splits given less,
        omega (arith, capacity, short, length-append head given),
        subst (λ n. AreReads gives n old given new) turns each,
        called refl ∙ ap (λ n. after_more (state old).calls n) turns,
        no_failure (λ e. absurd cc),
      );
    }
    gave_before reads.NoMemory never failed no_failure called = absurd never

  -- the head was read, and the rest was not
  module _ (head : List ℕ) (before mid after : DocBuffer) (old middle new : R) (gave : Consumes (state old).remaining (state middle).remaining head)
      (read : AreReads gives (before.remaining.turns - mid.remaining.turns) old head middle) (counted : CountsReads before mid (over state old middle))
      (no_failure : (state middle).failures ≡ (state old).failures) (unchanged : BuffersNone before mid) (same : length mid.buffer.items ≡ length before.buffer.items) where
    until_after : (turns : ℕ) (given : List ℕ) (answer : Option (List ℕ)) → ReadsUntil gives turns middle given answer new
        → ReadsUntil gives (suc ((before.remaining.turns - mid.remaining.turns) + pred turns)) old (head ++ given) answer new
    until_after turns given answer (n, last, is, reads, ends) = (
      (before.remaining.turns - mid.remaining.turns) + n,
      last,
      ap (λ m. suc ((before.remaining.turns - mid.remaining.turns) + pred m)) is,
      reads_append _ _ old middle last head given read reads,
      ends,
    )

    stops_after : (given : List ℕ) → ReadsToFault gives head middle given new → ReadsToFault gives [] old (head ++ given) new
    stops_after given (turns, inl (splits, until)) = (_, inl (splits, until_after turns given (Some []) until))
    stops_after given (turns, inr (four, reads)) = (_, inr (four, reads_append _ _ old middle new head given read reads))

    reason_after : (given : List ℕ) (fault : DocFault) → IsReason state gives mid middle new head given fault → IsReason state gives before old new [] (head ++ given) fault
    reason_after given (faults.Frame f) is = (
      is.0 ∙ unchanged.offset,
      is.1 ∙ unchanged.number,
      joined_no_frame (state old).remaining (state middle).remaining head f.kind gave is.2,
      is.3,
      rw unchanged.capacity at is.4,
      is.5 ∙ no_failure,
      is.6,
      stops_after given is.7,
    )
    reason_after given (faults.Read reads.Device) is =
        (is.0, rw unchanged.capacity at is.1, is.2 ∙ ap (λ n. after_more n 1) no_failure, (_, until_after _ given None is.3.1))
    reason_after given (faults.Read reads.TooLong) is = (
      head ++ is.0,
      is.1,
      ap (λ xs. head ++ xs) is.2 ∙ sym (append_assoc head is.0 is.1),
      is.3,
      rw unchanged.capacity at is.4,
      rw unchanged.capacity at is.5,
      is.6,
      is.7 ∙ no_failure,
      (_, until_after _ is.0 (Some is.1) is.8.1),
    )
    reason_after given (faults.Read reads.TooManyTurns) is = (
      is.0,
      rw unchanged.capacity at is.1,
      let all : (before.remaining.turns - mid.remaining.turns) + mid.remaining.turns ≡ before.remaining.turns = let c = counted.0 in omega (arith, c) in
          subst (λ n. AreReads gives n old (head ++ given) new) all (reads_append _ _ old middle new head given read is.2),
      let c = counted.0 in let d = counted.1 in let e = is.3 in search rules,
      is.4 ∙ no_failure,
    )
    reason_after given (faults.Read reads.NoMemory) is =
        (is.0, rw unchanged.capacity at is.1, is.2 ∙ no_failure, is.3, (_, reads_append _ _ old middle new head given read is.4.1))
    reason_after given faults.Failed is = is

    pub fails_after : (fault : DocFault) → FailsToRead state gives head mid after middle new fault → FailsToRead state gives [] before after old new fault
    fails_after fault fails = record {
      given = head ++ fails.given;
      gave = Consumes-trans (state old).remaining (state middle).remaining (state new).remaining head fails.given gave fails.gave;
      unchanged = record {
        offset = fails.unchanged.offset ∙ unchanged.offset;
        number = fails.unchanged.number ∙ unchanged.number;
        capacity = fails.unchanged.capacity ∙ unchanged.capacity;
        empty = fails.unchanged.empty;
      };
      counted = let c = counted.0 in let d = counted.1 in let e = fails.counted in search rules;
      grown = rw same at fails.grown;
      reason = reason_after fails.given fault fails.reason;
    }
