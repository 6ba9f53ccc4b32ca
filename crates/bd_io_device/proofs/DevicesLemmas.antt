-- Lemmas on runs of reads and of writes.
use Rattle.std.proofs.Common.{◌≡◌, ℕ, suc, append-nil, ◌+◌, ◌-◌, ◌<◌, ◌≤◌, List, [], ◌∷◌, ◌++◌, length, take, drop, Option, Some, refl, sym, ap, ◌∙◌, subst, add-one, arith}
use Rattle.std.proofs.Common.{append_assoc, take-append-drop, length-append, length-take, Result, Ok, Err, le_refl, take_at, drop_at, length-take-le}
use Rattle.std.proofs.{Math.Nat.add-suc, Math.Nat.add-zero, lemmas.List.take_rest, KnownBytes.Appends-nil, KnownBytes.Appends-trans, KnownBytes.Consumes-trans, lemmas.Slice.take-put_mid_below}
use Rattle.std.specs.{Io.KnownBytes.Consumes, Prelude.IfOk}
use Rattle.bd_io_device.specs.Devices.{AreReads, zero_reads, more_reads, AreWrites, more_writes}
use Rattle.bd_io_device.specs.Devices.{after_more, between, WriteFailsAfter, WriteFailsWithin, TakesText, Writer}
use borrow.Rule.Slice.PartMut.{put_mid, post_of}
use lib.Seq.{take-add, take-append-le}

-- before the first read nothing was given
pub reads_none : {S : Type 0} {gives : S → Option (List ℕ) → S → Type 0} (s : S) (bytes : List ℕ) → bytes ≡ [] → AreReads gives 0 s bytes s
reads_none {S} {gives} s bytes e = let P : List ℕ → Type 0 = λ l. AreReads gives 0 s l s in subst P (sym e) (zero_reads s)

-- one more read that gave bytes, after some reads
pub reads_more : {S : Type 0} {gives : S → Option (List ℕ) → S → Type 0} (n : ℕ) (s t u : S) (prefix part all : List ℕ)
    → AreReads gives n s prefix t → gives t (Some part) u → 0 < length part → all ≡ prefix ++ part → AreReads gives (n + 1) s all u
reads_more {S} {gives} n s t u prefix part all reads last some e =
    let P : ℕ → List ℕ → Type 0 = λ m l. AreReads gives m s l u in
    let one : AreReads gives (suc n) s (prefix ++ part) u = more_reads n s t u prefix part reads last some in
    let two : AreReads gives (suc n) s all u = subst (P (suc n)) (sym e) one in
    rw add-one two

-- reads, and the reads after them, are reads in a row
pub reads_append : {S : Type 0} {gives : S → Option (List ℕ) → S → Type 0} (n m : ℕ) (s t u : S) (prefix rest : List ℕ)
    → AreReads gives n s prefix t → AreReads gives m t rest u → AreReads gives (n + m) s (prefix ++ rest) u
reads_append {S} {gives} n m s t u prefix rest first (zero_reads v) =
    rw (append-nil prefix, add-zero n) first
reads_append {S} {gives} n m s t u prefix rest first (more_reads k w v x middle part second last some) =
    let one : AreReads gives (suc (n + k)) s ((prefix ++ middle) ++ part) x =
    more_reads (n + k) s v x (prefix ++ middle) part (reads_append n k s w v prefix middle first second) last some in
    let two : AreReads gives (suc (n + k)) s (prefix ++ (middle ++ part)) x =
    subst (λ l. AreReads gives (suc (n + k)) s l x) (append_assoc prefix middle part) one in
    subst (λ i. AreReads gives i s (prefix ++ (middle ++ part)) x) (sym (add-suc n k)) two

-- each read gave at least one byte
pub reads_at_least : {S : Type 0} {gives : S → Option (List ℕ) → S → Type 0} (n : ℕ) (s t : S) (bytes : List ℕ) → AreReads gives n s bytes t → n ≤ length bytes
reads_at_least {S} {gives} n s t bytes (zero_reads v) = omega arith
reads_at_least {S} {gives} n s t bytes (more_reads k w v x prefix part first last some) =
    let h = reads_at_least k w v prefix first in omega (arith, h, length-append prefix part)

-- if two runs take bytes from a device in turn, one run takes all of them
pub Consumes-more : (a b c : Option (List ℕ)) (prefix part all : List ℕ) → Consumes a b prefix → Consumes b c part → all ≡ prefix ++ part → Consumes a c all
Consumes-more a b c prefix part all p q e = subst (Consumes a c) (sym e) (Consumes-trans a b c prefix part p q)

-- a part that fits into the rest of the limit stays within it
pub length-within : (limit n : ℕ) (bytes buffer : List ℕ) → n ≤ limit - length bytes → length bytes ≤ limit → length (bytes ++ take n buffer) ≤ limit
length-within limit n bytes buffer fits within = omega (arith, length-append {A = ℕ}, length-take {A = ℕ})

-- one more write after others: the rest is `&rest[n..]`
pub writes_more : {S : Type 0} {takes : S → List ℕ → Option ℕ → S → Type 0} {bytes : List ℕ} (s t u : S) (rest : List ℕ) (n : ℕ)
    → AreWrites takes bytes s rest t → takes t rest (Some n) u → 0 < n → AreWrites takes bytes s (take (length rest - n) (drop n rest)) u
writes_more {S} {takes} {bytes} s t u rest n writes last some =
    let P : List ℕ → Type 0 = λ l. AreWrites takes bytes s l u in
    let one : AreWrites takes bytes s (drop n rest) u = more_writes s t u rest n writes last some in
    subst P (sym (take_rest rest n)) one

pub append-moves : (all done rest : List ℕ) (n : ℕ) → all ≡ done ++ rest → all ≡ (done ++ take n rest) ++ take (length rest - n) (drop n rest)
append-moves all done rest n e =
    e ∙ ap (λ l. done ++ l) (sym (take-append-drop n rest)) ∙ sym (append_assoc done (take n rest) (drop n rest)) ∙ ap (λ l. (done ++ take n rest) ++ l) (sym (take_rest rest n))

-- ---- texts that a writer takes one after the other

pub prefix_none : (prefix rest : List ℕ) → prefix ++ rest ≡ [] → prefix ≡ []
prefix_none [] rest none = refl
prefix_none (x ∷ prefix) rest none = absurd cc

rest_none : (prefix rest : List ℕ) → prefix ++ rest ≡ [] → rest ≡ []
rest_none [] rest none = none
rest_none (x ∷ prefix) rest none = absurd cc

-- a writer that was not called took the empty text
pub takes_none : (same : Writer) → TakesText (between same same) []
takes_none same = (Appends-nil same.contents, refl, λ none. refl)

-- a writer that took two texts, one after the other, took them joined
pub takes_both : (old mid new : Writer) (first second : List ℕ) → TakesText (between old mid) first → TakesText (between mid new) second → TakesText (between old new) (first ++ second)
takes_both old mid new first second a b = (
  Appends-trans old.contents mid.contents new.contents first second a.0 b.0,
  b.1 ∙ a.1,
  λ none. b.2 (rest_none first second none) ∙ a.2 (prefix_none first second none),
)

-- a writer that failed within the first of two texts failed within both texts joined
pub write_fails_first : (old new : Writer) (first second : List ℕ) → WriteFailsWithin (between old new) first → WriteFailsWithin (between old new) (first ++ second)
write_fails_first old new first second (prefix, rest, split, some, contents, failed) =
    (prefix, rest ++ second, ap (λ x. x ++ second) split ∙ append_assoc prefix rest second, λ none. some (prefix_none rest second none), contents, failed)

-- a writer that took the first of two texts and failed within the second failed within both texts joined
pub write_fails_second : (old mid new : Writer) (first second : List ℕ) → TakesText (between old mid) first → WriteFailsWithin (between mid new) second → WriteFailsWithin (between old new) (first ++ second)
write_fails_second old mid new first second a (prefix, rest, split, some, contents, failed) = (
  first ++ prefix,
  rest,
  ap (λ x. first ++ x) split ∙ sym (append_assoc first prefix rest),
  some,
  Appends-trans old.contents mid.contents new.contents first prefix a.0 contents,
  failed ∙ ap (λ n. after_more n 1) a.1,
)

-- a writer that took one text and failed within the next failed after the first
pub write_fails_after : (old mid new : Writer) (whole text : List ℕ) → TakesText (between old mid) whole → WriteFailsWithin (between mid new) text → WriteFailsAfter (between old new) whole text
write_fails_after old mid new whole text a (prefix, rest, split, some, contents, failed) =
    (prefix, rest, split, some, Appends-trans old.contents mid.contents new.contents whole prefix a.0 contents, failed ∙ ap (λ n. after_more n 1) a.1)

-- no write of an empty text fails
pub no_write_fails : (old new : Writer) (whole text : List ℕ) → WriteFailsAfter (between old new) whole text → text ≡ [] → ⊥
no_write_fails old new whole text (prefix, rest, split, some, contents, failed) none = some (rest_none prefix rest (sym split ∙ none))

-- the bytes of a buffer before an offset, and those that a read put there
pub grown : (a k n : ℕ) (xs ys : List ℕ) → a ≤ length xs → n ≤ length ys → take (a + n) (put_mid a k xs ys) ≡ take a xs ++ take n ys
grown a k n xs ys within fits =
    let all : List ℕ = put_mid a k xs ys in
    let after : List ℕ = post_of a k xs in
    let prefix : take a all ≡ take a xs = take-put_mid_below a k xs ys a (le_refl a) within in
    let rest : drop a all ≡ ys ++ after = drop_at (take a xs) (ys ++ after) a (length-take-le a xs within) in
    let part : take n (drop a all) ≡ take n ys = ap (take n) rest ∙ take-append-le n ys after fits in
    let split : take (a + n) all ≡ take a all ++ take n (drop a all) = take-add a n all in
    let one : take a all ++ take n (drop a all) ≡ take a xs ++ take n (drop a all) = ap (λ l. l ++ take n (drop a all)) prefix in
    let two : take a xs ++ take n (drop a all) ≡ take a xs ++ take n ys = ap (λ l. take a xs ++ l) part in
    split ∙ one ∙ two

-- a buffer with four bytes at its start, and what a read put after them
pub after_head : (k n : ℕ) (head rest ys : List ℕ) → length head ≡ 4 → n ≤ length ys → take (4 + n) (put_mid 4 k (head ++ rest) ys) ≡ head ++ take n ys
after_head k n head rest ys size fits =
    grown 4 k n (head ++ rest) ys (omega (arith, length-append head rest)) fits ∙ ap (λ xs. xs ++ take n ys) (take_at head rest 4 size)

pub both_of : {X E : Type 0} (r : Result X E) (P Q R S : X → Type 0) → IfOk r P → IfOk r Q → IfOk r R → ((x : X) → P x → Q x → R x → S x) → IfOk r S
both_of (Ok x) P Q R S p q r f = f x p q r
both_of (Err e) P Q R S p q r f = _
