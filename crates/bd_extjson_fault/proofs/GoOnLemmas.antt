-- How a text can continue before its fault: bytes that complete the item, and what may come before and after them.
use Rattle.std.proofs.Common.{◌≡◌, ◌==◌, ◌∙◌, ◌++◌, sym, refl, ◌||◌, ◌&&◌, ◌⊎◌, inl, inr, if◌then◌else◌, ℕ, Bool, true, false, List, [], ◌∷◌, length, drop, ap, Ok, Err, Some, append_assoc}
use Rattle.std.specs.Prelude.{Result, nat_lt}
use Rattle.bd_extjson_fault.specs.declared.skip.Stop.{Stop}
use Rattle.bd_extjson_fault.specs.declared.skip.StopKind.{StopKind}
use Rattle.bd_extjson_fault.specs.declared.skip.StopKind.TheVariants.{Syntax}
use Rattle.bd_extjson_fault.specs.FaultOffset.{SplitsSurrogate}
use Rattle.bd_extjson_fault.specs.JsonSyntax.{Beyond, ◌>>=◌, syntax_at, begins, beyond_all, beyond_if, beyond_white, is_white, beyond_word, is_decimal, beyond_digits, beyond_natural, beyond_fraction, beyond_exponent, beyond_number}
use Rattle.bd_extjson_fault.proofs.OffsetLemmas.{first_of, begins_same, begins_fits, ends, Fits, Gives, Passed, Always, stop_at, no_more, word_passes, run_of, run_ends}
use Rattle.bd_extjson_fault.proofs.OffsetNumberLemmas.{whole_part, whole_oks, fraction_oks}
use Rattle.bd_extjson_fault.proofs.OffsetLemmas.{then_oks}

-- bytes of ASCII
unfoldable pub plain : List ℕ → Bool
plain [] = true
plain (b ∷ text) = nat_lt b 128 && plain text

-- no bytes are plain
pub plain_nil : plain [] ≡ true
unfolding plain
plain_nil = refl

both : (p q : Bool) → p ≡ true → q ≡ true → p && q ≡ true
both p q a b = rw (a, b) refl

parts_of : (p q : Bool) → p && q ≡ true → (p ≡ true) × (q ≡ true)
parts_of true true e = (refl, refl)
parts_of true false e = absurd cc
parts_of false q e = absurd cc

pub plain_append : (text more : List ℕ) → plain text ≡ true → plain more ≡ true → plain (text ++ more) ≡ true
unfolding plain
plain_append [] more p q = q
plain_append (b ∷ text) more p q =
    let h = parts_of (nat_lt b 128) (plain text) p in
    both (nat_lt b 128) (plain (text ++ more)) h.0 (plain_append text more h.1 q)

-- the second text begins as the first, or with that byte
abbrev pub Starts : ℕ → List ℕ → List ℕ → Type 0
Starts start text other = (first_of other ≡ first_of text) ⊎ (first_of other ≡ Some start)

abbrev pub Ends : List ℕ → Type 0
Ends other = ends other ≡ true

-- bytes that make the bytes before a whole item, whatever follows of those that may
pub record Goes {A : Type 0} (says : List ℕ → Result A Stop → Type 0) (give : List ℕ → A) (Next : List ℕ → Type 0) (start : ℕ) (text before : List ℕ) : Type 0 where
  pub added : List ℕ
  pub plainly : plain added ≡ true
  pub starts : (other : List ℕ) → Next other → Starts start text (before ++ (added ++ other))
  pub passes : (other : List ℕ) → Next other → says (before ++ (added ++ other)) (Ok (give other))

-- the bytes before the fault continue to a whole item, or end in an escape of a surrogate
pub record Completed {A : Type 0} (says : List ℕ → Result A Stop → Type 0) (give : List ℕ → A) (Next : List ℕ → Type 0) (start : ℕ) (text : List ℕ) (stop : Stop) : Type 0 where
  pub before : List ℕ
  pub rest : List ℕ
  pub split : text ≡ before ++ rest
  pub remaining : stop.remaining ≡ length rest
  pub goes : SplitsSurrogate before ⊎ Goes says give Next start text before

-- An item whose fault is after this many bytes can be completed, and then this holds of what may follow.
abbrev pub Completes : (List ℕ → Beyond) → (List ℕ → Type 0) → ℕ → Type 0
Completes item Next start = (text : List ℕ) (stop : Stop) → item text ≡ Err stop → Completed (Gives item) (λ x. x) Next start text stop

pub splits_beyond : (taken before : List ℕ) → SplitsSurrogate before → SplitsSurrogate (taken ++ before)
splits_beyond taken before splits = (taken ++ splits.0, splits.1, ap (λ x. taken ++ x) splits.2 ∙ sym (append_assoc taken splits.0 splits.1), splits.3)

shape : (taken before added extra other : List ℕ) → (taken ++ before) ++ ((added ++ extra) ++ other) ≡ taken ++ (before ++ (added ++ (extra ++ other)))
shape taken before added extra other = append_assoc taken before ((added ++ extra) ++ other) ∙ ap (λ x. taken ++ (before ++ x)) (append_assoc added extra other)

-- a fault further on, after whose completion other bytes may have to come
pub onward : {A B : Type 0} (inner : List ℕ → Result A Stop → Type 0) (outer : List ℕ → Result B Stop → Type 0) (give : List ℕ → A) (gives : List ℕ → B)
    (Next More : List ℕ → Type 0) (start begin : ℕ) (text taken rest extra : List ℕ) (stop : Stop) → text ≡ taken ++ rest → plain extra ≡ true
    → ((other : List ℕ) → More other → Next (extra ++ other))
    → ((x : List ℕ) → Starts start rest x → Starts begin text (taken ++ x))
    → ((x other : List ℕ) → Starts start rest x → More other → inner x (Ok (give (extra ++ other))) → outer (taken ++ x) (Ok (gives other)))
    → Completed inner give Next start rest stop → Completed outer gives More begin text stop
onward inner outer give gives Next More start begin text taken rest extra stop e p nexts starts step c = record {
  before = taken ++ c.before;
  rest = c.rest;
  split = e ∙ ap (λ x. taken ++ x) c.split ∙ sym (append_assoc taken c.before c.rest);
  remaining = c.remaining;
  goes = go c.goes;
}
  where
    go : SplitsSurrogate c.before ⊎ Goes inner give Next start rest c.before → SplitsSurrogate (taken ++ c.before) ⊎ Goes outer gives More begin text (taken ++ c.before)
    go (inl splits) = inl (splits_beyond taken c.before splits)
    go (inr g) = inr (record {
      added = g.added ++ extra;
      plainly = plain_append g.added extra g.plainly p;
      starts = λ other more. rw (shape taken c.before g.added extra other)
          (starts (c.before ++ (g.added ++ (extra ++ other))) (g.starts (extra ++ other) (nexts other more)));
      passes = λ other more. rw (shape taken c.before g.added extra other)
          (step (c.before ++ (g.added ++ (extra ++ other))) other (g.starts (extra ++ other) (nexts other more)) more (g.passes (extra ++ other) (nexts other more)));
    })

-- a fault at the first byte, where another item could begin
pub instead : {A : Type 0} (says : List ℕ → Result A Stop → Type 0) (give : List ℕ → A) (Next : List ℕ → Type 0) (start : ℕ) (text more : List ℕ) (kind : StopKind) (stop : Stop)
    → plain (start ∷ more) ≡ true → stop ≡ stop_at kind text → ((other : List ℕ) → Next other → says (start ∷ (more ++ other)) (Ok (give other)))
    → Completed says give Next start text stop
instead says give Next start text more kind stop p e passes = record {
  before = [];
  rest = text;
  split = refl;
  remaining = ap (λ s. s.remaining) e;
  goes = inr (record { added = start ∷ more; plainly = p; starts = λ other next. inr refl; passes = passes });
}

pub starts_beyond : (start begin : ℕ) (text taken rest : List ℕ) → text ≡ taken ++ rest → ¬ (taken ≡ []) → (x : List ℕ) → Starts start rest x
    → Starts begin text (taken ++ x)
starts_beyond start begin text [] rest e some x s = absurd (some refl)
starts_beyond start begin text (b ∷ taken) rest e some x s = inl (sym (ap first_of e))

pub some_byte : (b : ℕ) (taken : List ℕ) → ¬ (b ∷ taken ≡ [])
some_byte b taken e = absurd cc

pub begins_start : (is : ℕ → Bool) (start : ℕ) (text x : List ℕ) → is start ≡ false → begins is text ≡ false → Starts start text x → begins is x ≡ false
begins_start is start text x none free (inl e) = begins_same is x text e ∙ free
begins_start is start text x none free (inr e) = begins_same is x (start ∷ []) e ∙ none

pub end_begins : (is : ℕ → Bool) (other : List ℕ) → is 93 ≡ false → is 125 ≡ false → Ends other → begins is other ≡ false
end_begins is other bracket brace e = begins_fits is [] other bracket brace (inr e) refl

pub ends_fit : (rest x : List ℕ) → Starts 93 rest x → Fits rest x
ends_fit rest x (inl e) = inl e
ends_fit rest [] (inr e) = absurd cc
ends_fit rest (b ∷ x) (inr e) = let same : b ≡ 93 = cc in inr (rw same refl)

-- an item that is no empty text has some bytes
pub some_taken : (item : List ℕ → Beyond) (Next : List ℕ → Type 0) (text rest : List ℕ) (p : Passed (Gives item) (λ x. x) Next text rest)
    → item [] ≡ syntax_at [] → Next [] → ¬ (p.taken ≡ [])
some_taken item Next text rest p none next e =
    let given : item (p.taken ++ []) ≡ Ok [] = p.passes [] next in
    let taken : item ([] ++ []) ≡ Ok [] = rw e at given in
    absurd cc

-- ---- items after one another

-- two items one after the other are completed as the one with the fault is
pub then_completes : (f g : List ℕ → Beyond) (P : List ℕ → List ℕ → Type 0) (Next More : List ℕ → Type 0) (start begin : ℕ) (whole : List ℕ)
    → plain whole ≡ true → f [] ≡ syntax_at [] → ((text rest : List ℕ) → f text ≡ Ok rest → Passed (Gives f) (λ x. x) (P rest) text rest)
    → ((rest : List ℕ) → P rest []) → ((rest x : List ℕ) → Starts start rest x → P rest x)
    → ((other : List ℕ) → More other → Next (whole ++ other)) → ((other : List ℕ) → More other → g (whole ++ other) ≡ Ok other)
    → Completes f Next begin → Completes g More start → Completes (λ x. f x >>= g) More begin
then_completes f g P Next More start begin whole p none oks nil fit nexts given first second text stop e = go (f text) refl e
  where
    go : (r : Beyond) → f text ≡ r → (r >>= g) ≡ Err stop → Completed (Gives (λ x. f x >>= g)) (λ x. x) More begin text stop
    go (Ok rest) is e =
        let q = oks text rest is in
        onward (Gives g) (Gives (λ x. f x >>= g)) (λ x. x) (λ x. x) More More start begin text q.taken rest [] stop q.split plain_nil (λ other more. more)
        (starts_beyond start begin text q.taken rest q.split (some_taken f (P rest) text rest q none (nil rest)))
        (λ x other s more h. rw (q.passes x (fit rest x s)) h) (second rest stop e)
    go (Err s) is e =
        let same : s ≡ stop = cc in
        onward (Gives f) (Gives (λ x. f x >>= g)) (λ x. x) (λ x. x) Next More begin begin text [] text whole stop refl p nexts (λ x s. s)
        (λ x other s more h. rw h (given other more)) (first text stop (is ∙ ap Err same))

pub starts_white : (start : ℕ) (text taken : List ℕ) → text ≡ taken ++ beyond_white text → (x : List ℕ) → Starts start (beyond_white text) x → Starts start text (taken ++ x)
starts_white start text [] e x (inl s) = inl (s ∙ ap first_of (sym e))
starts_white start text [] e x (inr s) = inr s
starts_white start text (b ∷ taken) e x s = inl (sym (ap first_of e))

-- white space before an item
pub white_completes : {A : Type 0} (item : List ℕ → Result A Stop) (give : List ℕ → A) (Next : List ℕ → Type 0) (start : ℕ) → is_white start ≡ false
    → ((text : List ℕ) (stop : Stop) → item text ≡ Err stop → Completed (Gives item) give Next start text stop)
    → (text : List ℕ) (stop : Stop) → item (beyond_white text) ≡ Err stop → Completed (Gives (λ x. item (beyond_white x))) give Next start text stop
white_completes item give Next start black completes text stop e =
    let r = run_of is_white text in
    onward (Gives item) (Gives (λ x. item (beyond_white x))) give give Next Next start start text r.taken (beyond_white text) [] stop r.split plain_nil (λ other next. next)
    (starts_white start text r.taken r.split)
    (λ x other s next h. rw (r.passes x (begins_start is_white start (beyond_white text) x black (run_ends is_white text) s)) h)
    (completes (beyond_white text) stop e)

-- ---- words

word_more : (c : ℕ) (word : List ℕ) (b : ℕ) (text : List ℕ) (stop : Stop) (x : Bool) → (b == c) ≡ x → plain (c ∷ word) ≡ true
    → ((d : ℕ) (more : List ℕ) → word ≡ d ∷ more → beyond_word word text ≡ Err stop → Completed (Gives (beyond_word word)) (λ x. x) Always d text stop)
    → beyond_word (c ∷ word) (b ∷ text) ≡ Err stop → Completed (Gives (beyond_word (c ∷ word))) (λ x. x) Always c (b ∷ text) stop
unfolding beyond_word
word_more c [] b text stop true is p more e = let f : ◌≡◌ {A = Beyond} (Ok text) (Err stop) = rw is at e in absurd cc
word_more c (d ∷ word) b text stop true is p more e =
    onward (Gives (beyond_word (d ∷ word))) (Gives (beyond_word (c ∷ d ∷ word))) (λ x. x) (λ x. x) Always Always d c (b ∷ text) (b ∷ []) text [] stop refl plain_nil
    (λ other next. tt) (starts_beyond d c (b ∷ text) (b ∷ []) text refl (some_byte b [])) (λ x other s next h. rw is h) (more d word refl (rw is at e))
word_more c word b text stop false is p more e =
    let f : ◌≡◌ {A = Beyond} (syntax_at (b ∷ text)) (Err stop) = rw is at e in
    instead (Gives (beyond_word (c ∷ word))) (λ x. x) Always c (b ∷ text) word Syntax stop p (cc) (λ other next. word_passes (c ∷ word) other)

plain_tail : (b : ℕ) (text : List ℕ) → plain (b ∷ text) ≡ true → plain text ≡ true
unfolding plain
plain_tail b text p = (parts_of (nat_lt b 128) (plain text) p).1

-- a word is completed by its other bytes
pub word_completes : (word : List ℕ) (c : ℕ) (more : List ℕ) → word ≡ c ∷ more → plain word ≡ true → Completes (beyond_word word) Always c
unfolding beyond_word
word_completes [] c more is p text stop e = absurd cc
word_completes (d ∷ word) c more is p [] stop e =
    let same : d ≡ c = cc in
    rw (sym same) (instead (Gives (beyond_word (d ∷ word))) (λ x. x) Always d [] word Syntax stop p (cc) (λ other next. word_passes (d ∷ word) other))
word_completes (d ∷ word) c more is p (b ∷ text) stop e =
    let same : d ≡ c = cc in
    rw (sym same) (word_more d word b text stop (b == d) refl p (λ c more is e. word_completes word c more is (plain_tail d word p) text stop e) e)

-- ---- numbers

digits_stop : (text : List ℕ) (stop : Stop) → beyond_digits text ≡ Err stop → stop ≡ stop_at Syntax text
unfolding beyond_digits
digits_stop text stop e = go (begins is_decimal text) refl e
  where
    go : (x : Bool) → begins is_decimal text ≡ x → beyond_digits text ≡ Err stop → stop ≡ stop_at Syntax text
    go true is e = let f : ◌≡◌ {A = Beyond} (Ok (beyond_all is_decimal text)) (Err stop) = rw is at e in absurd cc
    go false is e = let f : ◌≡◌ {A = Beyond} (syntax_at text) (Err stop) = rw is at e in cc

zero_digits : (other : List ℕ) → Ends other → beyond_digits (48 ∷ other) ≡ Ok other
unfolding beyond_digits beyond_all
zero_digits other end = rw (no_more is_decimal other (end_begins is_decimal other refl refl end)) refl

digits_complete : Completes beyond_digits Ends 48
unfolding plain
digits_complete text stop e = instead (Gives beyond_digits) (λ x. x) Ends 48 text [] Syntax stop refl (digits_stop text stop e) zero_digits

natural_stop : (text : List ℕ) (stop : Stop) → beyond_natural text ≡ Err stop → stop ≡ stop_at Syntax text
unfolding beyond_natural
natural_stop text stop e = go (begins (λ b. b == 48) text) refl e
  where
    go : (x : Bool) → begins (λ b. b == 48) text ≡ x → beyond_natural text ≡ Err stop → stop ≡ stop_at Syntax text
    go true is e = let f : ◌≡◌ {A = Beyond} (Ok (drop 1 text)) (Err stop) = rw is at e in absurd cc
    go false is e = digits_stop text stop (rw is at e)

natural_complete : Completes beyond_natural Ends 48
unfolding plain beyond_natural
natural_complete text stop e = instead (Gives beyond_natural) (λ x. x) Ends 48 text [] Syntax stop refl (natural_stop text stop e) (λ other end. refl)

-- an optional byte before an item
if_completes : (is : ℕ → Bool) (item : List ℕ → Beyond) (start : ℕ) → is start ≡ false → Completes item Ends start → Completes (λ x. item (beyond_if is x)) Ends start
if_completes is item start none completes text stop e = go text (begins is text) refl e
  where
    go : (t : List ℕ) (x : Bool) → begins is t ≡ x → item (beyond_if is t) ≡ Err stop → Completed (Gives (λ x. item (beyond_if is x))) (λ x. x) Ends start t stop
    go [] true at e = absurd cc
    go (b ∷ t) true at e = onward (Gives item) (Gives (λ x. item (beyond_if is x))) (λ x. x) (λ x. x) Ends Ends start start (b ∷ t) (b ∷ []) t [] stop refl plain_nil
        (λ other end. end) (starts_beyond start start (b ∷ t) (b ∷ []) t refl (some_byte b [])) (λ x other s end h. rw at h) (completes t stop (rw at at e))
    go t false at e = onward (Gives item) (Gives (λ x. item (beyond_if is x))) (λ x. x) (λ x. x) Ends Ends start start t [] t [] stop refl plain_nil
        (λ other end. end) (λ x s. s) (λ x other s end h. rw (begins_start is start t x none at s) h) (completes t stop (rw at at e))

-- an item after a byte, if that byte comes first
optional_completes : (is : ℕ → Bool) (item : List ℕ → Beyond) (start begin : ℕ) → Completes item Ends start
    → Completes (λ x. if begins is x then item (drop 1 x) else Ok x) Ends begin
optional_completes is item start begin completes [] stop e = absurd cc
optional_completes is item start begin completes (b ∷ text) stop e = go (is b) refl e
  where
    go : (x : Bool) → is b ≡ x → (if is b then item text else Ok (b ∷ text)) ≡ Err stop
        → Completed (Gives (λ x. if begins is x then item (drop 1 x) else Ok x)) (λ x. x) Ends begin (b ∷ text) stop
    go true at e = onward (Gives item) (Gives (λ x. if begins is x then item (drop 1 x) else Ok x)) (λ x. x) (λ x. x) Ends Ends start begin (b ∷ text) (b ∷ []) text [] stop refl plain_nil
        (λ other end. end) (starts_beyond start begin (b ∷ text) (b ∷ []) text refl (some_byte b [])) (λ x other s end h. rw at h) (completes text stop (rw at at e))
    go false at e = let f : ◌≡◌ {A = Beyond} (Ok (b ∷ text)) (Err stop) = rw at at e in absurd cc

abbrev after_sign : List ℕ → Beyond
after_sign text = beyond_digits (beyond_if (λ b. b == 43 || b == 45) text)

fraction_complete : Completes beyond_fraction Ends 93
unfolding beyond_fraction
fraction_complete = optional_completes (λ b. b == 46) beyond_digits 48 93 digits_complete

exponent_complete : Completes beyond_exponent Ends 93
unfolding beyond_exponent
exponent_complete = optional_completes (λ b. b == 101 || b == 69) after_sign 48 93 (if_completes (λ b. b == 43 || b == 45) beyond_digits 48 refl digits_complete)

pub no_fraction : (other : List ℕ) → Ends other → beyond_fraction other ≡ Ok other
unfolding beyond_fraction
no_fraction other end = rw (end_begins (λ b. b == 46) other refl refl end) refl

pub no_exponent : (other : List ℕ) → Ends other → beyond_exponent other ≡ Ok other
unfolding beyond_exponent
no_exponent other end = rw (end_begins (λ b. b == 101 || b == 69) other refl refl end) refl

no_whole : whole_part [] ≡ syntax_at []
unfolding beyond_natural beyond_digits
no_whole = refl

abbrev fits_none : (rest : List ℕ) → Fits rest []
fits_none rest = inr refl

pub number_complete : Completes beyond_number Ends 48
unfolding beyond_number
number_complete = then_completes (λ x. whole_part x >>= beyond_fraction) beyond_exponent Fits Ends Ends 93 48 [] plain_nil (rw no_whole refl)
    (then_oks whole_part beyond_fraction whole_oks fraction_oks) fits_none ends_fit (λ other end. end) no_exponent
    (then_completes whole_part beyond_fraction Fits Ends Ends 93 48 [] plain_nil no_whole whole_oks fits_none ends_fit (λ other end. end) no_fraction
    (if_completes (λ b. b == 45) beyond_natural 48 refl natural_complete) fraction_complete)
    exponent_complete
