-- Text that is written into a buffer: the first bytes after a write, and that those before it are unchanged.
use Rattle.std.proofs.Common.{◌≡◌, ℕ, ◌+◌, ◌-◌, ◌<◌, ◌≤◌, Bool, false, List, [], ◌∷◌, ◌++◌, length, take, drop, refl, sym, ap, ap₂, ◌∙◌, arith, append_assoc, append-nil, drop-drop}
use Rattle.std.proofs.Math.Seq.{take-append-add, take-append_seam}
use Rattle.std.proofs.lemmas.List.{take-take, take_all, drop_all, length-take, length-take-le, length-drop, length-append, take-append-drop}
use Rattle.std.proofs.lemmas.Slice.{take-put_mid}
use Rattle.std.specs.Prelude.{Result, Ok, Err, IsErr}
use Rattle.bd_extjson_text.specs.Buffer.{Appends}
use Rattle.std.specs.List.{list_any}
use Rattle.std.proofs.lemmas.List.Folds.{list_any-append}
use Rattle.std.proofs.lemmas.Bool.{or_parts}
use borrow.Rule.Slice.PartMut.{put_mid}

-- the first bytes of a text and what follows it, up to beyond the text
beyond : (end k : ℕ) (old x : List ℕ) → end ≤ length old → take (end + k) (take end old ++ x) ≡ take end old ++ take k x
beyond end k old x inside =
    let long : length (take end old) ≡ end = length-take-le end old inside in
    ap (λ n. take (n + k) (take end old ++ x)) (sym long) ∙ take-append-add (take end old) x k

-- bytes that are unchanged up to an offset are unchanged up to each offset before it
pub splits : (end e : ℕ) (a b : List ℕ) → end ≤ e → take e a ≡ take e b → take end a ≡ take end b
splits end e a b before same = sym (take-take end e a before) ∙ ap (λ (l : List ℕ). take end l) same ∙ take-take end e b before

-- what was written ends after the bytes before it
pub rises : (end e : ℕ) (old x new : List ℕ) → end ≤ length old → take e new ≡ take end old ++ x → end ≤ e
rises end e old x new inside put =
    let long : length (take end old) ≡ end = length-take-le end old inside in
    let sizes : length (take e new) ≡ length (take end old) + length x = ap length put ∙ length-append (take end old) x in
    omega (arith, length-take e new)

-- the bytes before what was written are unchanged
pub prefix : (end e : ℕ) (old x new : List ℕ) → end ≤ length old → take e new ≡ take end old ++ x → take end new ≡ take end old
prefix end e old x new inside put =
    let long : length (take end old) ≡ end = length-take-le end old inside in
    sym (take-take end e new (rises end e old x new inside put)) ∙ ap (λ (l : List ℕ). take end l) put ∙ ap (λ n. take n (take end old ++ x)) (sym long) ∙ take-append_seam (take end old) x

-- a text after another
pub chained : (end e1 e2 : ℕ) (old mid new x y : List ℕ) → take e1 mid ≡ take end old ++ x → take e2 new ≡ take e1 mid ++ y → take e2 new ≡ take end old ++ (x ++ y)
chained end e1 e2 old mid new x y first second = second ∙ ap (λ (l : List ℕ). l ++ y) first ∙ append_assoc (take end old) x y

-- the first byte of a longer text is written
pub begun : (end e b : ℕ) (old new rest : List ℕ) → take e new ≡ take end old ++ b ∷ [] → take e new ++ rest ≡ take end old ++ b ∷ rest
begun end e b old new rest put = ap (λ (l : List ℕ). l ++ rest) put ∙ append_assoc (take end old) (b ∷ []) rest

-- the first byte is written, if there is space for it
pub opened : (end e b : ℕ) (old new rest : List ℕ) → end < length old → take e new ≡ take end old ++ b ∷ [] → e ≡ end + 1 → length new ≡ length old
    → (take e new ++ rest ≡ take end old ++ b ∷ rest) × (take end new ≡ take end old) × (e ≤ length new) × (end ≤ e)
opened end e b old new rest buffer put is size = (begun end e b old new rest put, prefix end e old (b ∷ []) new (omega arith) put, omega arith, omega arith)

module _ (end at : ℕ) (start out : List ℕ) (after : end ≤ at) (inside : at ≤ length out) (unchanged : take end out ≡ take end start) where
  -- a text is written later in the buffer, and then nothing
  pub still_unchanged : (e : ℕ) (mid new x : List ℕ) → take e mid ≡ take at out ++ x → take e new ≡ take e mid → take end new ≡ take end start
  still_unchanged e mid new x put same = splits end at new out after (prefix at e out x new inside (same ∙ put)) ∙ unchanged

  -- two texts are written later in the buffer
  pub goes_on : (e1 e2 : ℕ) (mid new x y : List ℕ) → take e1 mid ≡ take at out ++ x → take e2 new ≡ take e1 mid ++ y → (take end new ≡ take end start) × (end ≤ e2)
  goes_on e1 e2 mid new x y first second =
      let both = chained at e1 e2 out mid new x y first second in
      let more = rises at e2 out (x ++ y) new inside both in
      (splits end at new out after (prefix at e2 out (x ++ y) new inside both) ∙ unchanged, omega arith)

-- if a part of the buffer is overwritten, only the first bytes are text
pub put_prefix : (end k m : ℕ) (buffer ys text : List ℕ) → end ≤ length buffer → k ≤ length ys → take k ys ≡ text
    → take (end + k) (put_mid end m buffer ys) ≡ take end buffer ++ text
put_prefix end k m buffer ys text inside few is =
    sym (take-take (end + k) (end + length ys) (put_mid end m buffer ys) (omega arith)) ∙ ap (λ (l : List ℕ). take (end + k) l) (take-put_mid end m buffer ys (end + length ys) (omega arith) inside)
    ∙ beyond end k buffer ys inside ∙ ap (λ (l : List ℕ). take end buffer ++ l) is

-- what was written is a prefix of what was copied
pub leaf_prefix : (k m : ℕ) (ys d text rest : List ℕ) → ys ≡ take m d → d ≡ text ++ rest → k ≡ length text → k ≤ m → take k ys ≡ text
leaf_prefix k m ys d text rest copied is long few =
    ap (λ (l : List ℕ). take k l) copied ∙ take-take k m d few ∙ ap (λ (l : List ℕ). take k l) is ∙ ap (λ n. take n (text ++ rest)) long ∙ take-append_seam text rest

-- a buffer of the size of what was written contains nothing else
pub all_written : (new text d : List ℕ) (size : ℕ) → length d ≤ size → new ≡ text ++ drop size d → new ≡ text
all_written new text d size short is = is ∙ rw (drop_all size d short) (append-nil text)

-- the contents of a vector after its buffer was lent
pub lent : (len : ℕ) (buffer items : List ℕ) → length buffer ≡ length items → len ≡ length items → take len (buffer ++ drop (length buffer) items) ≡ buffer
lent len buffer items same all =
    ap (λ (l : List ℕ). take len (buffer ++ l)) (drop_all (length buffer) items (omega arith)) ∙ ap (λ (l : List ℕ). take len l) (append-nil buffer) ∙ take_all len buffer (omega arith)

-- and so the text in it
pub lent_text : (len e : ℕ) (buffer items x : List ℕ) → length buffer ≡ length items → len ≡ length items → take e buffer ≡ x → take e (take len (buffer ++ drop (length buffer) items)) ≡ x
lent_text len e buffer items x same all is = ap (λ (l : List ℕ). take e l) (lent len buffer items same all) ∙ is

-- a text is its first and its last bytes, if these overlap
pub both_ends : (end between size n e1 e2 : ℕ) (text first last r0 r1 r2 : List ℕ) → end ≤ length r0 → between ≤ size → size ≤ length text → n ≡ end + length text → between + size ≡ length text
    → first ≡ take size text → last ≡ drop between text → take e1 r1 ≡ take end r0 ++ first → e1 ≡ end + length first → take e2 r2 ≡ take (end + between) r1 ++ last → e2 ≡ end + between + length last
    → take n r2 ≡ take end r0 ++ text
both_ends end between size n e1 e2 text first last r0 r1 r2 inside near fits is sum prefix back put1 end1 put2 end2 =
    let long1 : length first ≡ size = ap length prefix ∙ length-take-le size text fits in
    let long2 : length last ≡ length text - between = ap length back ∙ length-drop between text in
    let all : n ≡ e2 = omega arith in
    let unchanged : take (end + between) r1 ≡ take end r0 ++ take between text =
    sym (take-take (end + between) e1 r1 (omega arith)) ∙ ap (λ (l : List ℕ). take (end + between) l) put1 ∙ beyond end between r0 first inside
    ∙ ap (λ (l : List ℕ). take end r0 ++ take between l) prefix ∙ ap (λ (l : List ℕ). take end r0 ++ l) (take-take between size text near) in
    ap (λ k. take k r2) all ∙ put2 ∙ ap₂ (λ (a b : List ℕ). a ++ b) unchanged back ∙ append_assoc (take end r0) (take between text) (drop between text)
    ∙ ap (λ (l : List ℕ). take end r0 ++ l) (take-append-drop between text)

-- on an error the text is unchanged
pub failed : {E : Type 0} (end : ℕ) (old new bytes : List ℕ) (r : Result ℕ E) → IsErr r → take end new ≡ take end old → Appends old end r new bytes
failed end old new bytes (Ok e) is unchanged = absurd cc
failed end old new bytes (Err e) is unchanged = unchanged

-- a text is written after another, or fails
pub then : {E : Type 0} (end at : ℕ) (old mid new x y : List ℕ) (r : Result ℕ E) → end ≤ length old → take at mid ≡ take end old ++ x → Appends mid at r new y → Appends old end r new (x ++ y)
then end at old mid new x y (Ok e) inside first second = (chained end at e old mid new x y first second.0, second.1)
then end at old mid new x y (Err e) inside first second = prefix end at old x new inside (second ∙ first)

-- the last of a text is written later in the buffer, or fails
pub last : {E : Type 0} (end at : ℕ) (start out new x whole : List ℕ) (r : Result ℕ E) → end ≤ at → take end out ≡ take end start → take at out ++ x ≡ take end start ++ whole
    → Appends out at r new x → Appends start end r new whole
last end at start out new x whole (Ok e) after unchanged is written = (written.0 ∙ is, written.1)
last end at start out new x whole (Err e) after unchanged is written = splits end at new out after written ∙ unchanged

-- if no byte of two texts passes, none of the texts joined passes
pub none_of_two : (p : ℕ → Bool) (xs ys zs : List ℕ) → zs ≡ xs ++ ys → list_any p xs ≡ false → list_any p ys ≡ false → list_any p zs ≡ false
none_of_two p xs ys zs is one two = ap (list_any p) is ∙ list_any-append p xs ys ∙ rw (one, two) refl

-- nor does one of a text of whose first and last bytes, which are all of it, none does
pub none_of_ends : (p : ℕ → Bool) (text : List ℕ) (between size : ℕ) → between ≤ size → list_any p (take size text) ≡ false → list_any p (drop between text) ≡ false → list_any p text ≡ false
none_of_ends p text between size near low high =
    let k = size - between in
    let there : between + k ≡ size = omega arith in
    let parts = sym (list_any-append p (take k (drop between text)) (drop k (drop between text))) ∙ ap (list_any p) (take-append-drop k (drop between text)) ∙ high in
    let back : drop k (drop between text) ≡ drop size text = rw drop-drop (ap (λ n. drop n text) there) in
    none_of_two p (take size text) (drop size text) text (sym (take-append-drop size text)) low (ap (list_any p) (sym back) ∙ (or_parts _ _ parts).1)
