-- Where a text stops: what the bytes up to there decide of the result of an item.
use Rattle.std.proofs.Common.{◌≡◌, ◌==◌, ◌∙◌, ◌++◌, sym, refl, ◌||◌, ◌⊎◌, inl, inr, ℕ, Bool, true, false, List, [], ◌∷◌, length, ap, Ok, Err, Option, Some, None, append_assoc, arith}
use Rattle.std.specs.Prelude.{Result}
use Rattle.std.proofs.lemmas.{Bool.Decides.nat_tests}
use Rattle.bd_extjson_fault.specs.declared.skip.Stop.{Stop}
use Rattle.bd_extjson_fault.specs.declared.skip.StopKind.{StopKind}
use Rattle.bd_extjson_fault.specs.declared.skip.StopKind.TheVariants.{Syntax}
use Rattle.bd_extjson_fault.specs.FaultOffset.{begins_surrogate}
use Rattle.bd_extjson_fault.specs.JsonSyntax.{Beyond, ◌>>=◌, begins, beyond_all, beyond_white, beyond_word, is_white}

-- ---- the first byte

-- the first byte of a text, if it has one
abbrev pub first_of : List ℕ → Option ℕ
first_of [] = None
first_of (b ∷ text) = Some b

-- texts with the same first byte begin alike
pub begins_same : (is : ℕ → Bool) (x y : List ℕ) → first_of x ≡ first_of y → begins is x ≡ begins is y
begins_same is [] [] e = refl
begins_same is [] (c ∷ y) e = absurd cc
begins_same is (b ∷ x) [] e = absurd cc
begins_same is (b ∷ x) (c ∷ y) e = let same : b ≡ c = cc in ap is same

pub same_first : (before : List ℕ) (first : ℕ) (x y : List ℕ) → first_of (before ++ (first ∷ x)) ≡ first_of (before ++ (first ∷ y))
same_first [] first x y = refl
same_first (b ∷ before) first x y = refl

pub same_taken : (taken x y : List ℕ) → first_of x ≡ first_of y → first_of (taken ++ x) ≡ first_of (taken ++ y)
same_taken [] x y e = e
same_taken (b ∷ taken) x y e = refl

-- a byte that can follow each value: a closing bracket, or none
abbrev pub ends : List ℕ → Bool
ends [] = true
ends (b ∷ text) = b == 93 || b == 125

-- one text begins as the other, or with what can follow each value
abbrev pub Fits : List ℕ → List ℕ → Type 0
Fits text other = (first_of other ≡ first_of text) ⊎ (ends other ≡ true)

closing : (is : ℕ → Bool) (b : ℕ) → is 93 ≡ false → is 125 ≡ false → b == 93 || b == 125 ≡ true → is b ≡ false
closing is b bracket brace e = go (b == 93) refl (b == 125) refl e
  where
    go : (x : Bool) → (b == 93) ≡ x → (y : Bool) → (b == 125) ≡ y → x || y ≡ true → is b ≡ false
    go true p y q e = let same : b ≡ 93 = grind (arith, nat_tests, p) in rw same bracket
    go false p true q e = let same : b ≡ 125 = grind (arith, nat_tests, q) in rw same brace
    go false p false q e = absurd cc

-- a text that ends or goes to a bracket begins with no other byte, and so does one that fits it
pub begins_fits : (is : ℕ → Bool) (text other : List ℕ) → is 93 ≡ false → is 125 ≡ false → Fits text other → begins is text ≡ false
    → begins is other ≡ false
begins_fits is text other bracket brace (inl e) none = begins_same is other text e ∙ none
begins_fits is text [] bracket brace (inr e) none = refl
begins_fits is text (b ∷ other) bracket brace (inr e) none = closing is b bracket brace e

pub fits_taken : (taken text other : List ℕ) → Fits text other → Fits (taken ++ text) (taken ++ other)
fits_taken [] text other fits = fits
fits_taken (b ∷ taken) text other fits = inl refl

-- what fits a text fits it after the bytes that were taken
pub fits_beyond : (whole taken text other : List ℕ) → whole ≡ taken ++ text → Fits text other → Fits whole (taken ++ other)
fits_beyond whole taken text other e fits = rw e (fits_taken taken text other fits)

-- ---- an item is decided

-- a fault of this kind, at the first of these bytes
abbrev pub stop_at : StopKind → List ℕ → Stop
stop_at kind text = record { kind = kind; remaining = length text }

-- An item gives the answer for a text, with what follows the text.
abbrev pub Gives : {A : Type 0} → (List ℕ → Result A Stop) → List ℕ → Result A Stop → Type 0
Gives item text answer = item text ≡ answer

-- the fault is decided by the bytes up to its first one, or up to the end of an escape of a surrogate there
pub record Settled {A : Type 0} (says : List ℕ → Result A Stop → Type 0) (text : List ℕ) (stop : Stop) : Type 0 where
  pub before : List ℕ
  pub first : ℕ
  pub more : List ℕ
  pub rest : List ℕ
  pub kind : StopKind
  pub split : text ≡ before ++ (first ∷ (more ++ rest))
  pub reported : stop ≡ stop_at kind (first ∷ (more ++ rest))
  pub short : (more ≡ []) ⊎ (begins_surrogate (first ∷ (more ++ rest)) ≡ true)
  pub stays : (other : List ℕ) → says (before ++ (first ∷ (more ++ other))) (Err (stop_at kind (first ∷ (more ++ other))))

-- the same, or the fault is at the end of the text
abbrev pub Decided : {A : Type 0} → (List ℕ → Result A Stop → Type 0) → List ℕ → Stop → Type 0
Decided says text stop = (stop.remaining ≡ 0) ⊎ Settled says text stop

-- the bytes of an item, which are one before other texts too
pub record Passed {A : Type 0} (says : List ℕ → Result A Stop → Type 0) (give : List ℕ → A) (Next : List ℕ → Type 0) (text rest : List ℕ) : Type 0 where
  pub taken : List ℕ
  pub split : text ≡ taken ++ rest
  pub passes : (other : List ℕ) → Next other → says (taken ++ other) (Ok (give other))

-- a fault further on
pub lift : {A B : Type 0} (inner : List ℕ → Result A Stop → Type 0) (outer : List ℕ → Result B Stop → Type 0) (text taken rest : List ℕ) (stop : Stop)
    → text ≡ taken ++ rest
    → ((other : List ℕ) (s : Stop) → first_of other ≡ first_of rest → inner other (Err s) → outer (taken ++ other) (Err s))
    → Decided inner rest stop → Decided outer text stop
lift inner outer text taken rest stop e step (inl end) = inl end
lift inner outer text taken rest stop e step (inr d) = inr (record {
  before = taken ++ d.before;
  first = d.first;
  more = d.more;
  rest = d.rest;
  kind = d.kind;
  split = e ∙ ap (λ x. taken ++ x) d.split ∙ sym (append_assoc taken d.before (d.first ∷ (d.more ++ d.rest)));
  reported = d.reported;
  short = d.short;
  stays = λ other. rw (append_assoc taken d.before (d.first ∷ (d.more ++ other)))
      (step (d.before ++ (d.first ∷ (d.more ++ other))) (stop_at d.kind (d.first ∷ (d.more ++ other)))
      (same_first d.before d.first (d.more ++ other) (d.more ++ d.rest) ∙ ap first_of (sym d.split)) (d.stays other));
})

-- a fault at this byte
pub there : {A : Type 0} (says : List ℕ → Result A Stop → Type 0) (kind : StopKind) (before : List ℕ) (first : ℕ) (rest : List ℕ) (stop : Stop)
    → ◌≡◌ {A = Result A Stop} (Err (stop_at kind (first ∷ rest))) (Err stop)
    → ((other : List ℕ) → says (before ++ (first ∷ other)) (Err (stop_at kind (first ∷ other)))) → Decided says (before ++ (first ∷ rest)) stop
there says kind before first rest stop e stays = inr (record {
  before = before;
  first = first;
  more = [];
  rest = rest;
  kind = kind;
  split = refl;
  reported = cc;
  short = inl refl;
  stays = stays;
})

-- a fault at the first byte
pub here : {A : Type 0} (says : List ℕ → Result A Stop → Type 0) (kind : StopKind) (first : ℕ) (rest : List ℕ) (stop : Stop)
    → ◌≡◌ {A = Result A Stop} (Err (stop_at kind (first ∷ rest))) (Err stop)
    → ((other : List ℕ) → says (first ∷ other) (Err (stop_at kind (first ∷ other)))) → Decided says (first ∷ rest) stop
here says kind first rest stop e stays = there says kind [] first rest stop e stays

-- a fault at the end of a text says nothing of a longer one
pub at_end : {A : Type 0} (says : List ℕ → Result A Stop → Type 0) (kind : StopKind) (text : List ℕ) (stop : Stop)
    → ◌≡◌ {A = Result A Stop} (Err (stop_at kind [])) (Err stop) → Decided says text stop
at_end says kind text stop e = let same : stop ≡ stop_at kind [] = cc in inl (ap (λ s. s.remaining) same)

-- ---- items after one another

-- A fault before the end of a text stays, whatever follows it.
abbrev pub Errs : {A : Type 0} → (List ℕ → Result A Stop) → Type 0
Errs item = (text : List ℕ) (stop : Stop) → item text ≡ Err stop → Decided (Gives item) text stop

-- What was read of a text stays, if what follows does not continue it.
abbrev pub Oks : (List ℕ → Beyond) → Type 0
Oks item = (text rest : List ℕ) → item text ≡ Ok rest → Passed (Gives item) (λ x. x) (Fits rest) text rest

-- whatever follows
abbrev pub Always : List ℕ → Type 0
Always text = Unit {0}

-- A fault stays, and so does what was read, if what follows does not continue it.
abbrev pub Firms : (List ℕ → Beyond) → Type 0
Firms item = (text rest : List ℕ) → item text ≡ Ok rest → Passed (Gives item) (λ x. x) Always text rest

-- what is firm keeps what was read
pub loose : (item : List ℕ → Beyond) → Firms item → Oks item
loose item firm text rest e =
    let p = firm text rest e in
    record { taken = p.taken; split = p.split; passes = λ other fits. p.passes other tt }

-- faults of two items one after the other stay
pub then_errs : {B : Type 0} (f : List ℕ → Beyond) (g : List ℕ → Result B Stop) → Errs f → Oks f → Errs g → Errs (λ x. f x >>= g)
then_errs {B} f g fails passes next text stop e = go (f text) refl e
  where
    go : (r : Beyond) → f text ≡ r → (r >>= g) ≡ Err stop → Decided (Gives (λ x. f x >>= g)) text stop
    go (Ok rest) is e =
        let p = passes text rest is in
        lift (Gives g) (Gives (λ x. f x >>= g)) text p.taken rest stop p.split
        (λ other s same h. rw (p.passes other (inl same)) h) (next rest stop e)
    go (Err s) is e =
        let same : s ≡ stop = cc in
        lift (Gives f) (Gives (λ x. f x >>= g)) text [] text stop refl
        (λ other s same h. rw h refl) (fails text stop (is ∙ ap Err same))

-- what two items one after the other read stays
pub then_oks : (f g : List ℕ → Beyond) → Oks f → Oks g → Oks (λ x. f x >>= g)
then_oks f g passes next text rest e = go (f text) refl e
  where
    go : (r : Beyond) → f text ≡ r → (r >>= g) ≡ Ok rest → Passed (Gives (λ x. f x >>= g)) (λ x. x) (Fits rest) text rest
    go (Ok mid) is e =
        let p = passes text mid is in
        let q = next mid rest e in
        record {
          taken = p.taken ++ q.taken;
          split = p.split ∙ ap (λ x. p.taken ++ x) q.split ∙ sym (append_assoc p.taken q.taken rest);
          passes = λ other fits. rw (append_assoc p.taken q.taken other, p.passes (q.taken ++ other) (fits_beyond mid q.taken rest other q.split fits)) (q.passes other fits);
        }
    go (Err s) is e = absurd cc

pub then_firm : (f g : List ℕ → Beyond) → Firms f → Firms g → Firms (λ x. f x >>= g)
then_firm f g passes next text rest e = go (f text) refl e
  where
    go : (r : Beyond) → f text ≡ r → (r >>= g) ≡ Ok rest → Passed (Gives (λ x. f x >>= g)) (λ x. x) Always text rest
    go (Ok mid) is e =
        let p = passes text mid is in
        let q = next mid rest e in
        record {
          taken = p.taken ++ q.taken;
          split = p.split ∙ ap (λ x. p.taken ++ x) q.split ∙ sym (append_assoc p.taken q.taken rest);
          passes = λ other fits. rw (append_assoc p.taken q.taken other, p.passes (q.taken ++ other) tt) (q.passes other tt);
        }
    go (Err s) is e = absurd cc

-- ---- bytes of one kind

-- the bytes of one kind at the start, which are all before each text that does not begin with such a byte
pub record Run (is : ℕ → Bool) (text : List ℕ) : Type 0 where
  pub taken : List ℕ
  pub split : text ≡ taken ++ beyond_all is text
  pub passes : (other : List ℕ) → begins is other ≡ false → beyond_all is (taken ++ other) ≡ other

pub no_more : (is : ℕ → Bool) (text : List ℕ) → begins is text ≡ false → beyond_all is text ≡ text
unfolding beyond_all
no_more is [] e = refl
no_more is (b ∷ text) e = rw e refl

pub run_more : (is : ℕ → Bool) (b : ℕ) (text : List ℕ) → is b ≡ true → beyond_all is (b ∷ text) ≡ beyond_all is text
unfolding beyond_all
run_more is b text e = rw e refl

run_by : (is : ℕ → Bool) (b : ℕ) (text : List ℕ) (x : Bool) → is b ≡ x → Run is text → Run is (b ∷ text)
unfolding beyond_all
run_by is b text true e r = record {
  taken = b ∷ r.taken;
  split = rw e (ap (λ x. b ∷ x) r.split);
  passes = λ other none. rw e (r.passes other none);
}
run_by is b text false e r = record { taken = []; split = rw e refl; passes = λ other none. no_more is other none }

-- each text begins with a run of such bytes, perhaps an empty one
pub run_of : (is : ℕ → Bool) (text : List ℕ) → Run is text
unfolding beyond_all
run_of is [] = record { taken = []; split = refl; passes = λ other e. no_more is other e }
run_of is (b ∷ text) = run_by is b text (is b) refl (run_of is text)

run_ends_by : (is : ℕ → Bool) (b : ℕ) (text : List ℕ) (x : Bool) → is b ≡ x → begins is (beyond_all is text) ≡ false
    → begins is (beyond_all is (b ∷ text)) ≡ false
unfolding beyond_all
run_ends_by is b text true e more = rw e more
run_ends_by is b text false e more = rw e e

-- after a run of bytes none of them follows
pub run_ends : (is : ℕ → Bool) (text : List ℕ) → begins is (beyond_all is text) ≡ false
unfolding beyond_all
run_ends is [] = refl
run_ends is (b ∷ text) = run_ends_by is b text (is b) refl (run_ends is text)

-- white space before an item
pub white_errs : {A : Type 0} (item : List ℕ → Result A Stop) → Errs item → Errs (λ x. item (beyond_white x))
white_errs item fails text stop e =
    let r = run_of is_white text in
    lift (Gives item) (Gives (λ x. item (beyond_white x))) text r.taken (beyond_white text) stop r.split
    (λ other s same h. rw (r.passes other (begins_same is_white other (beyond_white text) same ∙ run_ends is_white text)) h)
    (fails (beyond_white text) stop e)

pub white_oks : (item : List ℕ → Beyond) → Oks item → Oks (λ x. item (beyond_white x))
white_oks item passes text rest e =
    let r = run_of is_white text in
    let p = passes (beyond_white text) rest e in
    record {
      taken = r.taken ++ p.taken;
      split = r.split ∙ ap (λ x. r.taken ++ x) p.split ∙ sym (append_assoc r.taken p.taken rest);
      passes = λ other fits.
          let none : begins is_white (p.taken ++ other) ≡ false = begins_fits is_white (p.taken ++ rest) (p.taken ++ other) refl refl (fits_taken p.taken rest other fits)
          (ap (begins is_white) (sym p.split) ∙ run_ends is_white text) in
          rw (append_assoc r.taken p.taken other, r.passes (p.taken ++ other) none) (p.passes other fits);
    }

pub white_twice : (text : List ℕ) → beyond_white (beyond_white text) ≡ beyond_white text
white_twice text = no_more is_white (beyond_white text) (run_ends is_white text)

-- ---- items of at least one byte, which end by themselves

-- the item is these bytes, whatever follows
pub record Piece {A : Type 0} (item : List ℕ → Result A Stop) (give : List ℕ → A) (text rest : List ℕ) : Type 0 where
  pub first : ℕ
  pub more : List ℕ
  pub split : text ≡ first ∷ (more ++ rest)
  pub passes : (other : List ℕ) → item (first ∷ (more ++ other)) ≡ Ok (give other)

abbrev pub Pieces : (List ℕ → Beyond) → Type 0
Pieces item = (text rest : List ℕ) → item text ≡ Ok rest → Piece item (λ x. x) text rest

-- an item that takes a piece of the text is firm
pub firm_piece : (item : List ℕ → Beyond) → Pieces item → Firms item
firm_piece item piece text rest e =
    let p = piece text rest e in
    record { taken = p.first ∷ p.more; split = p.split; passes = λ other always. p.passes other }

pub then_piece : (f g : List ℕ → Beyond) → Pieces f → Firms g → Pieces (λ x. f x >>= g)
then_piece f g passes next text rest e = go (f text) refl e
  where
    go : (r : Beyond) → f text ≡ r → (r >>= g) ≡ Ok rest → Piece (λ x. f x >>= g) (λ x. x) text rest
    go (Ok mid) is e =
        let p = passes text mid is in
        let q = next mid rest e in
        record {
          first = p.first;
          more = p.more ++ q.taken;
          split = p.split ∙ ap (λ x. p.first ∷ (p.more ++ x)) q.split ∙ ap (λ x. p.first ∷ x) (sym (append_assoc p.more q.taken rest));
          passes = λ other. rw (append_assoc p.more q.taken other, p.passes (q.taken ++ other)) (q.passes other tt);
        }
    go (Err s) is e = absurd cc

pub white_firm : (item : List ℕ → Beyond) → Pieces item → Firms (λ x. item (beyond_white x))
white_firm item piece text rest e =
    let r = run_of is_white text in
    let p = piece (beyond_white text) rest e in
    record {
      taken = r.taken ++ (p.first ∷ p.more);
      split = r.split ∙ ap (λ x. r.taken ++ x) p.split ∙ sym (append_assoc r.taken (p.first ∷ p.more) rest);
      passes = λ other always.
          let none : is_white p.first ≡ false = ap (begins is_white) (sym p.split) ∙ run_ends is_white text in
          rw (append_assoc r.taken (p.first ∷ p.more) other, r.passes (p.first ∷ (p.more ++ other)) none) (p.passes other);
    }

-- if two steps succeed, each does
pub bind_ok : {A B : Type 0} (r : Result A Stop) (k : A → Result B Stop) (y : B) → (r >>= k) ≡ Ok y → (x : A) × (r ≡ Ok x) × (k x ≡ Ok y)
bind_ok (Ok x) k y e = (x, refl, e)
bind_ok (Err s) k y e = absurd cc

-- ---- words

same_byte : (c : ℕ) → (c == c) ≡ true
same_byte c = grind (arith, nat_tests)

word_err_by : (c : ℕ) (word : List ℕ) (b : ℕ) (text : List ℕ) (stop : Stop) (x : Bool) → (b == c) ≡ x
    → (beyond_word word text ≡ Err stop → Decided (Gives (beyond_word word)) text stop)
    → beyond_word (c ∷ word) (b ∷ text) ≡ Err stop → Decided (Gives (beyond_word (c ∷ word))) (b ∷ text) stop
unfolding beyond_word
word_err_by c word b text stop true is more e = lift (Gives (beyond_word word)) (Gives (beyond_word (c ∷ word))) (b ∷ text) (b ∷ []) text stop refl
    (λ other s same h. rw is h) (more (rw is at e))
word_err_by c word b text stop false is more e = here (Gives (beyond_word (c ∷ word))) Syntax b text stop (rw is at e) (λ other. rw is refl)

-- the fault of a word stays
pub word_errs : (word : List ℕ) → Errs (beyond_word word)
unfolding beyond_word
word_errs [] text stop e = absurd cc
word_errs (c ∷ word) [] stop e = at_end (Gives (beyond_word (c ∷ word))) Syntax [] stop e
word_errs (c ∷ word) (b ∷ text) stop e = word_err_by c word b text stop (b == c) refl (word_errs word text stop) e

pub word_passes : (word rest : List ℕ) → beyond_word word (word ++ rest) ≡ Ok rest
unfolding beyond_word
word_passes [] rest = refl
word_passes (c ∷ word) rest = rw (same_byte c) (word_passes word rest)

word_split_by : (c : ℕ) (word : List ℕ) (b : ℕ) (text rest : List ℕ) (x : Bool) → (b == c) ≡ x → (beyond_word word text ≡ Ok rest → text ≡ word ++ rest)
    → beyond_word (c ∷ word) (b ∷ text) ≡ Ok rest → b ∷ text ≡ c ∷ (word ++ rest)
unfolding beyond_word
word_split_by c word b text rest true is more e =
    let same : b ≡ c = grind (arith, nat_tests, is) in
    let rest_same : text ≡ word ++ rest = more (rw is at e) in
    cc
word_split_by c word b text rest false is more e = let f = rw is at e in absurd cc

-- a text with a word is the word and the rest
pub word_split : (word text rest : List ℕ) → beyond_word word text ≡ Ok rest → text ≡ word ++ rest
unfolding beyond_word
word_split [] text rest e = cc
word_split (c ∷ word) [] rest e = absurd cc
word_split (c ∷ word) (b ∷ text) rest e = word_split_by c word b text rest (b == c) refl (word_split word text rest) e

pub word_piece : (c : ℕ) (word : List ℕ) → Pieces (beyond_word (c ∷ word))
word_piece c word text rest e = record { first = c; more = word; split = word_split (c ∷ word) text rest e; passes = word_passes (c ∷ word) }

-- a word is firm
pub word_firm : (word : List ℕ) → Firms (beyond_word word)
word_firm word text rest e = record { taken = word; split = word_split word text rest e; passes = λ other always. word_passes word other }
