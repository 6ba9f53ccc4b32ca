-- How a value can continue before its fault.
use Rattle.std.proofs.Common.{◌≡◌, ◌≤◌, ◌<◌, ◌==◌, ◌∙◌, ◌++◌, sym, refl, ◌||◌, ◌⊎◌, inl, inr, ℕ, zero, suc, Bool, true, false, List, [], ◌∷◌, length, drop, ap, Ok, Err, append_assoc, append-nil, length-append, arith}
use Rattle.std.specs.Prelude.{Result, codes}
use Rattle.bd_value.specs.Limits.{most_brackets}
use Rattle.bd_extjson_fault.specs.declared.skip.Stop.{Stop}
use Rattle.bd_extjson_fault.specs.declared.skip.StopKind.TheVariants.{Syntax, TooDeep, TrailingText}
use Rattle.bd_extjson_fault.specs.FaultOffset.{SplitsSurrogate}
use Rattle.bd_extjson_fault.specs.JsonSyntax.{Beyond, ◌>>=◌, syntax_at, begins, beyond_all, beyond_white, is_white, beyond_word, beyond_string, beyond_natural, beyond_number, beyond_name, beyond_next, beyond_parts, beyond_group, beyond_array, beyond_member, beyond_object, beyond_scalar, beyond_unnested, beyond_nested, beyond_value, beyond_text, opens_object, opens_array}
use Rattle.bd_extjson_fault.proofs.PassingLemmas.{value_scalar}
use Rattle.bd_extjson_fault.proofs.OffsetLemmas.{first_of, Fits, Gives, Passed, Always, stop_at, run_of, run_ends}
use Rattle.bd_extjson_fault.proofs.OffsetStringLemmas.{name_firm}
use Rattle.bd_extjson_fault.proofs.OffsetValueLemmas.{Next, after_part, next_of, Parts, Reads, parts_after, parts_on, parts_end, shorter, parts_white, group_parts, member_reads, is_letter, scalar_number, is_bracket, unnested_deep, unnested_flat, nested_flat, either_bracket, value_reads, last}
use Rattle.bd_extjson_fault.proofs.GoOnLemmas.{plain, plain_nil, Starts, Ends, Goes, Completed, Completes, onward, instead, starts_beyond, starts_white, some_byte, begins_start, some_taken, then_completes, white_completes, word_completes, number_complete, no_fraction, no_exponent}
use Rattle.bd_extjson_fault.proofs.GoOnStringLemmas.{string_completes, name_completes, no_name}

-- a closing bracket
pub record Closes (closes : ℕ → Bool) (close : ℕ) : Type 0 where
  pub is : closes close ≡ true
  pub ends : close == 93 || close == 125 ≡ true
  pub black : is_white close ≡ false
  pub plainly : plain (close ∷ []) ≡ true

-- ---- after a part

word_stop : (c : ℕ) (text : List ℕ) (stop : Stop) → beyond_word (c ∷ []) text ≡ Err stop → stop ≡ stop_at Syntax text
unfolding beyond_word
word_stop c [] stop e = cc
word_stop c (b ∷ text) stop e = go (b == c) refl e
  where
    go : (x : Bool) → (b == c) ≡ x → beyond_word (c ∷ []) (b ∷ text) ≡ Err stop → stop ≡ stop_at Syntax (b ∷ text)
    go true is e = let f : ◌≡◌ {A = Beyond} (Ok text) (Err stop) = rw is at e in absurd cc
    go false is e = let f : ◌≡◌ {A = Beyond} (syntax_at (b ∷ text)) (Err stop) = rw is at e in cc

comma_stop : (text : List ℕ) (stop : Stop) (answer : Beyond) → beyond_word (codes ",") text ≡ answer → ◌≡◌ {A = Result Next Stop} (answer >>= λ rest. Ok (true, rest)) (Err stop)
    → stop ≡ stop_at Syntax text
comma_stop text stop (Ok rest) is e = absurd cc
comma_stop text stop (Err s) is e = let same : s ≡ stop = cc in word_stop 44 text stop (is ∙ ap Err same)

after_stop : (closes : ℕ → Bool) (text : List ℕ) (stop : Stop) → after_part closes text ≡ Err stop → stop ≡ stop_at Syntax text
after_stop closes text stop e = go (begins closes text) refl e
  where
    go : (x : Bool) → begins closes text ≡ x → after_part closes text ≡ Err stop → stop ≡ stop_at Syntax text
    go true is e = let f : ◌≡◌ {A = Result Next Stop} (Ok (false, drop 1 text)) (Err stop) = rw is at e in absurd cc
    go false is e = comma_stop text stop (beyond_word (codes ",") text) refl (rw is at e)

abbrev closing : List ℕ → Next
closing other = (false, other)

after_completes : (closes : ℕ → Bool) (close : ℕ) → Closes closes close → (text : List ℕ) (stop : Stop) → after_part closes text ≡ Err stop
    → Completed (Gives (after_part closes)) closing Always close text stop
after_completes closes close c text stop e =
    instead (Gives (after_part closes)) closing Always close text [] Syntax stop c.plainly (after_stop closes text stop e) (λ other next. rw c.is refl)

next_completes : (closes : ℕ → Bool) (close : ℕ) → Closes closes close → (text : List ℕ) (stop : Stop) → beyond_next closes text ≡ Err stop
    → Completed (Gives (beyond_next closes)) closing Always close text stop
unfolding beyond_next
next_completes closes close c = white_completes (after_part closes) closing Always close c.black (after_completes closes close c)

next_close : (closes : ℕ → Bool) (close : ℕ) (other : List ℕ) → Closes closes close → beyond_next closes (close ∷ other) ≡ Ok (false, other)
unfolding beyond_next beyond_all
next_close closes close other c = rw (c.black, c.is) refl

close_fits : (closes : ℕ → Bool) (close : ℕ) (mid x : List ℕ) → Closes closes close → Starts close mid x → Fits mid x
close_fits closes close mid x c (inl e) = inl e
close_fits closes close mid [] c (inr e) = absurd cc
close_fits closes close mid (b ∷ x) c (inr e) = let same : b ≡ close = cc in inr (rw same c.ends)

-- ---- parts

some_append : (item : List ℕ → Beyond) (Next : List ℕ → Type 0) (text rest more : List ℕ) (p : Passed (Gives item) (λ x. x) Next text rest)
    → item [] ≡ syntax_at [] → Next [] → ¬ (p.taken ++ more ≡ [])
some_append item Next text rest more p none next e = some_taken item Next text rest p none next (prefix p.taken more e)
  where
    prefix : (x y : List ℕ) → x ++ y ≡ [] → x ≡ []
    prefix [] y e = refl
    prefix (b ∷ x) y e = absurd cc

-- a reader of parts, each of which can be completed
pub record Fills (part : List ℕ → Beyond) (start : ℕ) : Type 0 where
  pub reads : Reads part
  pub none : part [] ≡ syntax_at []
  pub completes : (text : List ℕ) (stop : Stop) → part text ≡ Err stop → Completed (Gives part) (λ x. x) Ends start text stop

parts_next : (closes : ℕ → Bool) (close : ℕ) (part : List ℕ → Beyond) (start n : ℕ) (text mid : List ℕ) (stop : Stop) (answer : Result Next Stop) → Closes closes close
    → Fills part start → length text < suc n → part text ≡ Ok mid → beyond_next closes mid ≡ answer → (answer >>= parts_after closes part n) ≡ Err stop
    → ((rest : List ℕ) → length rest < n → beyond_parts closes part n rest ≡ Err stop → Completed (Parts closes part) (λ x. x) Always start rest stop)
    → Completed (Parts closes part) (λ x. x) Always start text stop
parts_next closes close part start n text mid stop (Err s) c fills lt given is e more =
    let p = fills.reads.oks text mid given in
    let same : s ≡ stop = cc in
    onward (Gives (beyond_next closes)) (Parts closes part) closing (λ x. x) Always Always close start text p.taken mid [] stop p.split plain_nil (λ other next. tt)
    (starts_beyond close start text p.taken mid p.split (some_taken part (Fits mid) text mid p fills.none (inr refl)))
    (λ x other s next h m lt. parts_end closes part (p.taken ++ x) x other false m lt (p.passes x (close_fits closes close mid x c s)) h refl)
    (next_completes closes close c mid stop (is ∙ ap Err same))
parts_next closes close part start n text mid stop (Ok next) c fills lt given is e more = go next.0 refl e
  where
    go : (x : Bool) → next.0 ≡ x → parts_after closes part n next ≡ Err stop → Completed (Parts closes part) (λ x. x) Always start text stop
    go false last e = let f : ◌≡◌ {A = Beyond} (Ok next.1) (Err stop) = rw last at e in absurd cc
    go true goes e =
        let p = fills.reads.oks text mid given in
        let q = next_of closes mid next is in
        let split : text ≡ p.taken ++ (q.taken ++ next.1) = p.split ∙ ap (λ x. p.taken ++ x) q.split in
        let less : length next.1 < length (p.taken ++ (q.taken ++ next.1)) = shorter p.taken q.taken next.1 q.some in
        let size : length text ≡ length (p.taken ++ (q.taken ++ next.1)) = ap length split in
        onward (Parts closes part) (Parts closes part) (λ x. x) (λ x. x) Always Always start start text (p.taken ++ q.taken) next.1 [] stop
        (split ∙ sym (append_assoc p.taken q.taken next.1)) plain_nil (λ other next. tt)
        (starts_beyond start start text (p.taken ++ q.taken) next.1 (split ∙ sym (append_assoc p.taken q.taken next.1))
        (some_append part (Fits mid) text mid q.taken p fills.none (inr refl)))
        (λ x other s always h m lt. rw (append_assoc p.taken q.taken x)
        (parts_on closes part (p.taken ++ (q.taken ++ x)) (q.taken ++ x) x next.0 (Ok other) m (rw (append_assoc p.taken q.taken x) at lt)
        (shorter p.taken q.taken x q.some) (p.passes (q.taken ++ x) (inl (q.begun x next.1 ∙ ap first_of (sym q.split))))
        (q.passes x) goes h))
        (more next.1 (omega (arith, lt, less, size)) (rw goes at e))

parts_by : (closes : ℕ → Bool) (close : ℕ) (part : List ℕ → Beyond) (start n : ℕ) (text : List ℕ) (stop : Stop) (answer : Beyond) → Closes closes close
    → Fills part start → length text < suc n → part text ≡ answer → (answer >>= beyond_next closes >>= parts_after closes part n) ≡ Err stop
    → ((rest : List ℕ) → length rest < n → beyond_parts closes part n rest ≡ Err stop → Completed (Parts closes part) (λ x. x) Always start rest stop)
    → Completed (Parts closes part) (λ x. x) Always start text stop
parts_by closes close part start n text stop (Err s) c fills lt is e more =
    let same : s ≡ stop = cc in
    onward (Gives part) (Parts closes part) (λ x. x) (λ x. x) Ends Always start start text [] text (close ∷ []) stop refl c.plainly (λ other next. c.ends)
    (λ x s. s) (λ x other s next h m lt. parts_end closes part x (close ∷ other) other false m lt h (next_close closes close other c) refl)
    (fills.completes text stop (is ∙ ap Err same))
parts_by closes close part start n text stop (Ok mid) c fills lt is e more =
    parts_next closes close part start n text mid stop (beyond_next closes mid) c fills lt is refl e more

parts_complete : (closes : ℕ → Bool) (close : ℕ) (part : List ℕ → Beyond) (start n : ℕ) (text : List ℕ) (stop : Stop) → Closes closes close → Fills part start
    → length text < n → beyond_parts closes part n text ≡ Err stop → Completed (Parts closes part) (λ x. x) Always start text stop
unfolding beyond_parts
parts_complete closes close part start zero text stop c fills lt e = absurd (omega (arith, lt))
parts_complete closes close part start (suc n) text stop c fills lt e = parts_by closes close part start n text stop (part text) c fills lt refl e
    (λ rest lt e. parts_complete closes close part start n rest stop c fills lt e)

-- ---- brackets

group_by : (closes : ℕ → Bool) (close : ℕ) (part : List ℕ → Beyond) (start : ℕ) (text : List ℕ) (stop : Stop) (x : Bool) → Closes closes close → Fills part start
    → closes start ≡ false → is_white start ≡ false → begins closes (beyond_white text) ≡ x → beyond_group closes part text ≡ Err stop
    → Completed (Gives (beyond_group closes part)) (λ x. x) Always start text stop
unfolding beyond_group
group_by closes close part start text stop true c fills free black is e =
    let f : ◌≡◌ {A = Beyond} (Ok (drop 1 (beyond_white text))) (Err stop) = rw is at e in absurd cc
group_by closes close part start text stop false c fills free black is e =
    let r = run_of is_white text in
    let size : length text ≡ length (r.taken ++ beyond_white text) = ap length r.split in
    let le : length (beyond_white text) ≤ length text = omega (arith, size, length-append r.taken (beyond_white text)) in
    onward (Parts closes part) (Gives (beyond_group closes part)) (λ x. x) (λ x. x) Always Always start start text r.taken (beyond_white text) [] stop r.split plain_nil
    (λ other next. tt) (starts_white start text r.taken r.split)
    (λ x other s next h. group_parts closes part (r.taken ++ x) x (Ok other) fills.reads
    (r.passes x (begins_start is_white start (beyond_white text) x black (run_ends is_white text) s))
    (begins_start closes start (beyond_white text) x free is s) (omega (arith, length-append r.taken x)) h)
    (parts_complete closes close part start (suc (length text)) (beyond_white text) stop c fills (omega (arith, le))
    (parts_white closes part (length text) text fills.reads ∙ rw is at e))

-- ---- values

zero_number : (other : List ℕ) → Ends other → beyond_number (48 ∷ other) ≡ Ok other
unfolding beyond_number beyond_natural
zero_number other end = rw (no_fraction other end, no_exponent other end) refl

zero_scalar : (other : List ℕ) → Ends other → beyond_scalar (48 ∷ other) ≡ Ok other
zero_scalar other end = scalar_number (48 ∷ other) refl ∙ zero_number other end

zero_white : (other : List ℕ) → beyond_white (48 ∷ other) ≡ 48 ∷ other
unfolding beyond_all
zero_white other = refl

zero_value : (level : ℕ) (other : List ℕ) → Ends other → beyond_value level (48 ∷ other) ≡ Ok other
zero_value level other end =
    value_scalar level (48 ∷ other) (ap opens_object (zero_white other)) (ap opens_array (zero_white other)) ∙ ap beyond_scalar (zero_white other) ∙ zero_scalar other end

member_fills : (level : ℕ) → Fills (beyond_value level) 48 → Fills (beyond_member (beyond_value level)) 34
unfolding plain
member_fills level fills = record {
  reads = member_reads (beyond_value level) fills.reads;
  none = rw no_name refl;
  completes = then_completes beyond_name (beyond_value level) (λ rest. Always) Always Ends 48 34 (48 ∷ []) refl no_name name_firm (λ rest. tt) (λ rest x s. tt)
      (λ other end. tt) (λ other end. zero_value level other end) name_completes fills.completes;
}

brace : Closes (λ b. b == 125) 125
unfolding plain
brace = record { is = refl; ends = refl; black = refl; plainly = refl }

bracket : Closes (λ b. b == 93) 93
unfolding plain
bracket = record { is = refl; ends = refl; black = refl; plainly = refl }

object_completes : (level : ℕ) → Fills (beyond_value level) 48 → Completes (beyond_object (beyond_value level)) Always 34
object_completes level fills text stop e =
    group_by (λ b. b == 125) 125 (beyond_member (beyond_value level)) 34 text stop (begins (λ b. b == 125) (beyond_white text)) brace (member_fills level fills) refl refl refl e

array_completes : (level : ℕ) → Fills (beyond_value level) 48 → Completes (beyond_array (beyond_value level)) Always 48
array_completes level fills text stop e =
    group_by (λ b. b == 93) 93 (beyond_value level) 48 text stop (begins (λ b. b == 93) (beyond_white text)) bracket fills refl refl refl e

-- an item after its first byte
passing_completes : (item : List ℕ → Beyond) (b : ℕ) (inner : List ℕ → Beyond) (start : ℕ) → Completes inner Always start → ((text : List ℕ) → item (b ∷ text) ≡ inner text)
    → (text : List ℕ) (stop : Stop) → item (b ∷ text) ≡ Err stop → Completed (Gives item) (λ x. x) Ends 48 (b ∷ text) stop
passing_completes item b inner start completes is text stop e =
    onward (Gives inner) (Gives item) (λ x. x) (λ x. x) Always Ends start 48 (b ∷ text) (b ∷ []) text [] stop refl plain_nil (λ other end. tt)
    (starts_beyond start 48 (b ∷ text) (b ∷ []) text refl (some_byte b [])) (λ x other s end h. is x ∙ h) (completes text stop (sym (is text) ∙ e))

record Form (b : ℕ) : Type 0 where
  inner : List ℕ → Beyond
  start : ℕ
  completes : (text : List ℕ) (stop : Stop) → inner text ≡ Err stop → Completed (Gives inner) (λ x. x) Always start text stop
  is : (text : List ℕ) → beyond_scalar (b ∷ text) ≡ inner text

form_by : (b : ℕ) (p : Bool) → (b == 34) ≡ p → (q : Bool) → (b == 116) ≡ q → (r : Bool) → (b == 102) ≡ r → (s : Bool) → (b == 110) ≡ s
    → Form b ⊎ (p || q || r || s ≡ false)
unfolding beyond_scalar plain
form_by b true a q c r d s e = inl (record { inner = beyond_string; start = 48; completes = string_completes; is = λ text. rw a refl })
form_by b false a true c r d s e =
    inl (record { inner = beyond_word (codes "rue"); start = 114; completes = word_completes (codes "rue") 114 (117 ∷ 101 ∷ []) refl refl; is = λ text. rw (a, c) refl })
form_by b false a false c true d s e =
    inl (record { inner = beyond_word (codes "alse"); start = 97; completes = word_completes (codes "alse") 97 (108 ∷ 115 ∷ 101 ∷ []) refl refl; is = λ text. rw (a, c, d) refl })
form_by b false a false c false d true e =
    inl (record { inner = beyond_word (codes "ull"); start = 117; completes = word_completes (codes "ull") 117 (108 ∷ 108 ∷ []) refl refl; is = λ text. rw (a, c, d, e) refl })
form_by b false a false c false d false e = inr refl

form_of : (b : ℕ) → Form b ⊎ (is_letter b ≡ false)
form_of b = form_by b (b == 34) refl (b == 116) refl (b == 102) refl (b == 110) refl

no_scalar : beyond_scalar [] ≡ syntax_at []
unfolding beyond_scalar
no_scalar = refl

scalar_completes : Completes beyond_scalar Ends 48
unfolding plain
scalar_completes [] stop e =
    let f : ◌≡◌ {A = Beyond} (syntax_at []) (Err stop) = sym no_scalar ∙ e in
    instead (Gives beyond_scalar) (λ x. x) Ends 48 [] [] Syntax stop refl (cc) zero_scalar
scalar_completes (b ∷ text) stop e = go (form_of b)
  where
    go : Form b ⊎ (is_letter b ≡ false) → Completed (Gives beyond_scalar) (λ x. x) Ends 48 (b ∷ text) stop
    go (inl f) = passing_completes beyond_scalar b f.inner f.start f.completes f.is text stop e
    go (inr none) = onward (Gives beyond_number) (Gives beyond_scalar) (λ x. x) (λ x. x) Ends Ends 48 48 (b ∷ text) [] (b ∷ text) [] stop refl refl
        (λ other end. end) (λ x s. s) (λ x other s end h. scalar_number x (begins_start is_letter 48 (b ∷ text) x refl none s) ∙ h)
        (number_complete (b ∷ text) stop (sym (scalar_number (b ∷ text) none) ∙ e))

flat_completes : (item : List ℕ → Beyond) → ((text : List ℕ) → begins is_bracket text ≡ false → item text ≡ beyond_scalar text) → (text : List ℕ) (stop : Stop)
    → begins is_bracket text ≡ false → item text ≡ Err stop → Completed (Gives item) (λ x. x) Ends 48 text stop
flat_completes item is text stop none e = onward (Gives beyond_scalar) (Gives item) (λ x. x) (λ x. x) Ends Ends 48 48 text [] text [] stop refl plain_nil
    (λ other end. end) (λ x s. s) (λ x other s end h. is x (begins_start is_bracket 48 text x refl none s) ∙ h) (scalar_completes text stop (sym (is text none) ∙ e))

unnested_completes : Completes beyond_unnested Ends 48
unfolding plain
unnested_completes text stop e = go text (begins is_bracket text) refl e
  where
    go : (t : List ℕ) (x : Bool) → begins is_bracket t ≡ x → beyond_unnested t ≡ Err stop → Completed (Gives beyond_unnested) (λ x. x) Ends 48 t stop
    go [] true is e = absurd cc
    go (b ∷ t) true is e =
        let f : ◌≡◌ {A = Beyond} (Err (stop_at TooDeep (b ∷ t))) (Err stop) = sym (unnested_deep b t is) ∙ e in
        instead (Gives beyond_unnested) (λ x. x) Ends 48 (b ∷ t) [] TooDeep stop refl (cc) (λ other end. unnested_flat (48 ∷ other) refl ∙ zero_scalar other end)
    go t false is e = flat_completes beyond_unnested unnested_flat t stop is e

nested_completes : (level : ℕ) → Fills (beyond_value level) 48 → Completes (beyond_nested (beyond_value level)) Ends 48
nested_completes level fills [] stop e = flat_completes (beyond_nested (beyond_value level)) (nested_flat (beyond_value level)) [] stop refl e
nested_completes level fills (b ∷ text) stop e = go (b == 123) refl (b == 91) refl
  where
    go : (x : Bool) → (b == 123) ≡ x → (y : Bool) → (b == 91) ≡ y → Completed (Gives (beyond_nested (beyond_value level))) (λ x. x) Ends 48 (b ∷ text) stop
    go true o y a = passing_completes (beyond_nested (beyond_value level)) b (beyond_object (beyond_value level)) 34 (object_completes level fills) (λ t. rw o refl) text stop e
    go false o true a = passing_completes (beyond_nested (beyond_value level)) b (beyond_array (beyond_value level)) 48 (array_completes level fills) (λ t. rw (o, a) refl) text stop e
    go false o false a = flat_completes (beyond_nested (beyond_value level)) (nested_flat (beyond_value level)) (b ∷ text) stop (either_bracket (b == 123) (b == 91) o a) e

no_value : (level : ℕ) → beyond_value level [] ≡ syntax_at []
unfolding beyond_all
no_value level = value_scalar level [] refl refl ∙ no_scalar

pub value_fills : (level : ℕ) → Fills (beyond_value level) 48
unfolding beyond_value
value_fills zero = record {
  reads = value_reads zero;
  none = no_value zero;
  completes = white_completes beyond_unnested (λ x. x) Ends 48 refl unnested_completes;
}
value_fills (suc level) = record {
  reads = value_reads (suc level);
  none = no_value (suc level);
  completes = white_completes (beyond_nested (beyond_value level)) (λ x. x) Ends 48 refl (nested_completes level (value_fills level));
}

-- ---- the whole text

-- the bytes before the fault begin some text that has none, or end in an escape of a surrogate
pub record Begins (text : List ℕ) (stop : Stop) : Type 0 where
  pub before : List ℕ
  pub rest : List ℕ
  pub split : text ≡ before ++ rest
  pub remaining : stop.remaining ≡ length rest
  pub goes : SplitsSurrogate before ⊎ ((added : List ℕ) × (plain added ≡ true) × (beyond_text (before ++ added) ≡ Ok []))

no_white : beyond_white [] ≡ []
unfolding beyond_all
no_white = refl

last_stop : (text : List ℕ) (stop : Stop) → last text ≡ Err stop → stop.remaining ≡ length text
last_stop text stop e = go (length text == 0) refl e
  where
    go : (x : Bool) → (length text == 0) ≡ x → last text ≡ Err stop → stop.remaining ≡ length text
    go true is e = let f : ◌≡◌ {A = Beyond} (Ok []) (Err stop) = rw is at e in absurd cc
    go false is e =
        let f : ◌≡◌ {A = Beyond} (Err (stop_at TrailingText text)) (Err stop) = rw is at e in
        let same : stop_at TrailingText text ≡ stop = cc in
        ap (λ s. s.remaining) (sym same)

run_fits : (rest taken : List ℕ) → rest ≡ taken ++ beyond_white rest → Fits rest taken
run_fits rest [] e = inr refl
run_fits rest (b ∷ taken) e = inl (sym (ap first_of e))

-- a value up to the end, and the white space after it
whole : (before white : List ℕ) → beyond_value most_brackets before ≡ Ok white → beyond_white white ≡ [] → beyond_text before ≡ Ok []
unfolding beyond_text
whole before white e none = rw (e, none) refl

-- white space after a value, and then another byte
trailing : (text rest : List ℕ) (stop : Stop) → beyond_value most_brackets text ≡ Ok rest → last (beyond_white rest) ≡ Err stop → Begins text stop
unfolding plain
trailing text rest stop given e =
    let p = (value_reads most_brackets).oks text rest given in
    let r = run_of is_white rest in
    let none : beyond_white r.taken ≡ [] = ap beyond_white (sym (append-nil r.taken)) ∙ r.passes [] refl in
    record {
      before = p.taken ++ r.taken;
      rest = beyond_white rest;
      split = p.split ∙ ap (λ x. p.taken ++ x) r.split ∙ sym (append_assoc p.taken r.taken (beyond_white rest));
      remaining = last_stop (beyond_white rest) stop e;
      goes = inr (
        [],
        refl,
        ap beyond_text (append-nil (p.taken ++ r.taken))
            ∙ whole (p.taken ++ r.taken) r.taken (p.passes r.taken (run_fits rest r.taken r.split)) none,
      );
    }

complete : (text : List ℕ) (stop : Stop) → Completed (Gives (beyond_value most_brackets)) (λ x. x) Ends 48 text stop → Begins text stop
complete text stop c = record { before = c.before; rest = c.rest; split = c.split; remaining = c.remaining; goes = go c.goes }
  where
    go : SplitsSurrogate c.before ⊎ Goes (Gives (beyond_value most_brackets)) (λ x. x) Ends 48 text c.before
        → SplitsSurrogate c.before ⊎ ((added : List ℕ) × (plain added ≡ true) × (beyond_text (c.before ++ added) ≡ Ok []))
    go (inl splits) = inl splits
    go (inr g) =
        let given : beyond_value most_brackets (c.before ++ (g.added ++ [])) ≡ Ok [] = g.passes [] refl in
        inr (g.added, g.plainly, ap (λ x. beyond_text (c.before ++ x)) (sym (append-nil g.added)) ∙ whole (c.before ++ (g.added ++ [])) [] given no_white)

pub text_begins : (text : List ℕ) (stop : Stop) → beyond_text text ≡ Err stop → Begins text stop
unfolding beyond_text
text_begins text stop e = go (beyond_value most_brackets text) refl e
  where
    go : (r : Beyond) → beyond_value most_brackets text ≡ r → (r >>= λ x. last (beyond_white x)) ≡ Err stop → Begins text stop
    go (Ok rest) is e = trailing text rest stop is e
    go (Err s) is e =
        let same : s ≡ stop = cc in
        complete text stop ((value_fills most_brackets).completes text stop (is ∙ ap Err same))
