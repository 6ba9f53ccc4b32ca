-- Where a value stops.
use Rattle.std.proofs.Common.{◌≡◌, ◌≤◌, ◌<◌, ◌==◌, ◌∙◌, ◌++◌, sym, refl, ◌||◌, ◌⊎◌, inl, inr, if◌then◌else◌, ℕ, zero, suc, Bool, true, false, List, [], ◌∷◌, length, drop, ap, Ok, Err, append_assoc, length-append, arith}
use Rattle.std.specs.Prelude.{Result, codes}
use Rattle.std.proofs.lemmas.{Bool.Decides.nat_tests}
use Rattle.bd_value.specs.Limits.{most_brackets}
use Rattle.bd_extjson_fault.specs.declared.skip.Stop.{Stop}
use Rattle.bd_extjson_fault.specs.declared.skip.StopKind.TheVariants.{Syntax, TooDeep, TrailingText}
use Rattle.bd_extjson_fault.specs.JsonSyntax.{Beyond, ◌>>=◌, begins, beyond_white, is_white, beyond_word, beyond_string, beyond_digits, beyond_natural, beyond_number, beyond_name, beyond_next, beyond_parts, beyond_group, beyond_array, beyond_member, beyond_object, beyond_scalar, beyond_unnested, beyond_nested, beyond_value, beyond_text}
use Rattle.bd_extjson_fault.proofs.OffsetLemmas.{first_of, begins_same, same_taken, Fits, begins_fits, fits_beyond, Gives, Decided, Passed, Piece, Always, Firms, Errs, Oks, lift, here, at_end, stop_at, loose, bind_ok, then_errs, then_oks, white_errs, white_oks, white_twice, Run, run_of, run_ends, word_errs, word_firm, word_split}
use Rattle.bd_extjson_fault.proofs.OffsetNumberLemmas.{number_errs, number_oks}
use Rattle.bd_extjson_fault.proofs.OffsetStringLemmas.{string_errs, string_firm, name_errs, name_firm}

-- ---- after a part

-- what follows a part of an array or of an object: another part, or the end
abbrev pub Next : Type 0
Next = Bool × List ℕ

abbrev pub comma : List ℕ → Result Next Stop
comma text = beyond_word (codes ",") text >>= λ rest. Ok (true, rest)

-- what follows a part, by which byte is the closing bracket
abbrev pub after_part : (ℕ → Bool) → List ℕ → Result Next Stop
after_part closes text = if begins closes text then Ok (false, drop 1 text) else comma text

no_err : Errs {A = Next} (λ rest. Ok (true, rest))
no_err text stop e = absurd cc

comma_errs : Errs comma
comma_errs = then_errs (beyond_word (codes ",")) (λ rest. Ok (true, rest)) (word_errs (codes ",")) (loose (beyond_word (codes ",")) (word_firm (codes ","))) no_err

after_errs : (closes : ℕ → Bool) → Errs (after_part closes)
after_errs closes text stop e = go (begins closes text) refl e
  where
    go : (x : Bool) → begins closes text ≡ x → after_part closes text ≡ Err stop → Decided (Gives (after_part closes)) text stop
    go true is e = let f : ◌≡◌ {A = Result Next Stop} (Ok (false, drop 1 text)) (Err stop) = rw is at e in absurd cc
    go false is e = lift (Gives comma) (Gives (after_part closes)) text [] text stop refl
        (λ other s same h. rw (begins_same closes other text same ∙ is) h) (comma_errs text stop (rw is at e))

next_errs : (closes : ℕ → Bool) → Errs (beyond_next closes)
unfolding beyond_next
next_errs closes = white_errs (after_part closes) (after_errs closes)

after_by : (closes : ℕ → Bool) (b : ℕ) (text : List ℕ) (next : Next) (x : Bool) → closes b ≡ x → after_part closes (b ∷ text) ≡ Ok next
    → Piece (after_part closes) (λ t. (next.0, t)) (b ∷ text) next.1
unfolding beyond_word
after_by closes b text next true is e =
    let f : ◌≡◌ {A = Result Next Stop} (Ok (false, text)) (Ok next) = rw is at e in
    let same : ◌≡◌ {A = Next} (false, text) next = cc in
    record { first = b; more = []; split = ap (λ n. b ∷ n.1) same; passes = λ other. rw is (ap (λ n. Ok (n.0, other)) same) }
after_by closes b text next false is e =
    let w = bind_ok (beyond_word (codes ",") (b ∷ text)) (λ rest. Ok (true, rest)) next (rw is at e) in
    let f : ◌≡◌ {A = Result Next Stop} (Ok (true, w.0)) (Ok next) = w.2 in
    let same : ◌≡◌ {A = Next} (true, w.0) next = cc in
    let split : ◌≡◌ {A = List ℕ} (b ∷ text) (44 ∷ w.0) = word_split (codes ",") (b ∷ text) w.0 w.1 in
    let free : closes 44 ≡ false = ap (begins closes) (sym split) ∙ is in
    record { first = 44; more = []; split = split ∙ ap (λ n. 44 ∷ n.1) same; passes = λ other. rw free (ap (λ n. Ok (n.0, other)) same) }

after_piece : (closes : ℕ → Bool) (text : List ℕ) (next : Next) → after_part closes text ≡ Ok next → Piece (after_part closes) (λ t. (next.0, t)) text next.1
unfolding beyond_word
after_piece closes [] next e = absurd cc
after_piece closes (b ∷ text) next e = after_by closes b text next (closes b) refl e

pub record NextOf (closes : ℕ → Bool) (text : List ℕ) (next : Bool × List ℕ) : Type 0 where
  pub taken : List ℕ
  pub split : text ≡ taken ++ next.1
  pub some : 0 < length taken
  pub begun : (x y : List ℕ) → first_of (taken ++ x) ≡ first_of (taken ++ y)
  pub passes : (other : List ℕ) → beyond_next closes (taken ++ other) ≡ Ok (next.0, other)

begun_beyond : (taken : List ℕ) (first : ℕ) (more x y : List ℕ) → first_of ((taken ++ (first ∷ more)) ++ x) ≡ first_of ((taken ++ (first ∷ more)) ++ y)
begun_beyond [] first more x y = refl
begun_beyond (b ∷ taken) first more x y = refl

some_beyond : (taken : List ℕ) (first : ℕ) (more : List ℕ) → 0 < length (taken ++ (first ∷ more))
some_beyond taken first more = omega (arith, length-append taken (first ∷ more))

pub next_of : (closes : ℕ → Bool) (text : List ℕ) (next : Next) → beyond_next closes text ≡ Ok next → NextOf closes text next
unfolding beyond_next
next_of closes text next e =
    let r = run_of is_white text in
    let p = after_piece closes (beyond_white text) next e in
    let none : is_white p.first ≡ false = ap (begins is_white) (sym p.split) ∙ run_ends is_white text in
    record {
      taken = r.taken ++ (p.first ∷ p.more);
      split = r.split ∙ ap (λ x. r.taken ++ x) p.split ∙ sym (append_assoc r.taken (p.first ∷ p.more) next.1);
      some = some_beyond r.taken p.first p.more;
      begun = λ x y. begun_beyond r.taken p.first p.more x y;
      passes = λ other. rw (append_assoc r.taken (p.first ∷ p.more) other, r.passes (p.first ∷ (p.more ++ other)) none) (p.passes other);
    }

-- ---- parts

-- what parts give with enough steps
abbrev pub Parts : (ℕ → Bool) → (List ℕ → Beyond) → List ℕ → Beyond → Type 0
Parts closes part text answer = (n : ℕ) → length text < n → beyond_parts closes part n text ≡ answer

-- a reader of a part
pub record Reads (part : List ℕ → Beyond) : Type 0 where
  pub errs : (text : List ℕ) (stop : Stop) → part text ≡ Err stop → Decided (Gives part) text stop
  pub oks : (text rest : List ℕ) → part text ≡ Ok rest → Passed (Gives part) (λ x. x) (Fits rest) text rest
  pub white : (text : List ℕ) → part (beyond_white text) ≡ part text

-- the parts that follow one part
abbrev pub parts_after : (ℕ → Bool) → (List ℕ → Beyond) → ℕ → Next → Beyond
parts_after closes part n next = if next.0 then beyond_parts closes part n next.1 else Ok next.1

parts_stop : (closes : ℕ → Bool) (part : List ℕ → Beyond) (text : List ℕ) (stop : Stop) (n : ℕ) → length text < n → part text ≡ Err stop
    → beyond_parts closes part n text ≡ Err stop
unfolding beyond_parts
parts_stop closes part text stop zero lt e = absurd (omega (arith, lt))
parts_stop closes part text stop (suc n) lt e = rw e refl

parts_halt : (closes : ℕ → Bool) (part : List ℕ → Beyond) (text mid : List ℕ) (stop : Stop) (n : ℕ) → length text < n → part text ≡ Ok mid
    → beyond_next closes mid ≡ Err stop → beyond_parts closes part n text ≡ Err stop
unfolding beyond_parts
parts_halt closes part text mid stop zero lt e h = absurd (omega (arith, lt))
parts_halt closes part text mid stop (suc n) lt e h = rw (e, h) refl

pub parts_on : (closes : ℕ → Bool) (part : List ℕ → Beyond) (text mid other : List ℕ) (next : Bool) (answer : Beyond) (n : ℕ) → length text < n
    → length other < length text → part text ≡ Ok mid → beyond_next closes mid ≡ Ok (next, other) → next ≡ true → Parts closes part other answer
    → beyond_parts closes part n text ≡ answer
unfolding beyond_parts
parts_on closes part text mid other next answer zero lt less e h is more = absurd (omega (arith, lt))
parts_on closes part text mid other next answer (suc n) lt less e h is more = rw (e, h, is) (more n (omega (arith, lt, less)))

pub parts_end : (closes : ℕ → Bool) (part : List ℕ → Beyond) (text mid other : List ℕ) (next : Bool) (n : ℕ) → length text < n
    → part text ≡ Ok mid → beyond_next closes mid ≡ Ok (next, other) → next ≡ false → beyond_parts closes part n text ≡ Ok other
unfolding beyond_parts
parts_end closes part text mid other next zero lt e h is = absurd (omega (arith, lt))
parts_end closes part text mid other next (suc n) lt e h is = rw (e, h, is) refl

pub shorter : (first second rest : List ℕ) → 0 < length second → length rest < length (first ++ (second ++ rest))
shorter first second rest some = omega (arith, some, length-append first (second ++ rest), length-append second rest)

parts_next_err : (closes : ℕ → Bool) (part : List ℕ → Beyond) (n : ℕ) (text mid : List ℕ) (stop : Stop) (answer : Result Next Stop) → Reads part
    → length text < suc n → part text ≡ Ok mid → beyond_next closes mid ≡ answer → (answer >>= parts_after closes part n) ≡ Err stop
    → ((rest : List ℕ) → length rest < n → beyond_parts closes part n rest ≡ Err stop → Decided (Parts closes part) rest stop)
    → Decided (Parts closes part) text stop
parts_next_err closes part n text mid stop (Err s) reads lt given is e more =
    let p = reads.oks text mid given in
    let same : s ≡ stop = cc in
    lift (Gives (beyond_next closes)) (Parts closes part) text p.taken mid stop p.split
    (λ other t begins h m lt. parts_halt closes part (p.taken ++ other) other t m lt (p.passes other (inl begins)) h)
    (next_errs closes mid stop (is ∙ ap Err same))
parts_next_err closes part n text mid stop (Ok next) reads lt given is e more = go next.0 refl e
  where
    go : (x : Bool) → next.0 ≡ x → parts_after closes part n next ≡ Err stop → Decided (Parts closes part) text stop
    go false ends e = let f : ◌≡◌ {A = Beyond} (Ok next.1) (Err stop) = rw ends at e in absurd cc
    go true goes e =
        let p = reads.oks text mid given in
        let q = next_of closes mid next is in
        let split : text ≡ p.taken ++ (q.taken ++ next.1) = p.split ∙ ap (λ x. p.taken ++ x) q.split in
        let less : length next.1 < length (p.taken ++ (q.taken ++ next.1)) = shorter p.taken q.taken next.1 q.some in
        let size : length text ≡ length (p.taken ++ (q.taken ++ next.1)) = ap length split in
        lift (Parts closes part) (Parts closes part) text (p.taken ++ q.taken) next.1 stop (split ∙ sym (append_assoc p.taken q.taken next.1))
        (λ other t begins h m lt. rw (append_assoc p.taken q.taken other)
        (parts_on closes part (p.taken ++ (q.taken ++ other)) (q.taken ++ other) other next.0 (Err t) m (rw (append_assoc p.taken q.taken other) at lt)
        (shorter p.taken q.taken other q.some) (p.passes (q.taken ++ other) (inl (q.begun other next.1 ∙ ap first_of (sym q.split))))
        (q.passes other) goes h))
        (more next.1 (omega (arith, lt, less, size)) (rw goes at e))

parts_err_by : (closes : ℕ → Bool) (part : List ℕ → Beyond) (n : ℕ) (text : List ℕ) (stop : Stop) (answer : Beyond) → Reads part
    → length text < suc n → part text ≡ answer → (answer >>= beyond_next closes >>= parts_after closes part n) ≡ Err stop
    → ((rest : List ℕ) → length rest < n → beyond_parts closes part n rest ≡ Err stop → Decided (Parts closes part) rest stop)
    → Decided (Parts closes part) text stop
parts_err_by closes part n text stop (Err s) reads lt is e more =
    let same : s ≡ stop = cc in
    lift (Gives part) (Parts closes part) text [] text stop refl (λ other t begins h m lt. parts_stop closes part other t m lt h)
    (reads.errs text stop (is ∙ ap Err same))
parts_err_by closes part n text stop (Ok mid) reads lt is e more = parts_next_err closes part n text mid stop (beyond_next closes mid) reads lt is refl e more

parts_err : (closes : ℕ → Bool) (part : List ℕ → Beyond) (n : ℕ) (text : List ℕ) (stop : Stop) → Reads part → length text < n
    → beyond_parts closes part n text ≡ Err stop → Decided (Parts closes part) text stop
unfolding beyond_parts
parts_err closes part zero text stop reads lt e = absurd (omega (arith, lt))
parts_err closes part (suc n) text stop reads lt e = parts_err_by closes part n text stop (part text) reads lt refl e
    (λ rest lt e. parts_err closes part n rest stop reads lt e)

-- the bytes of parts with their closing byte
record PartsOf (closes : ℕ → Bool) (part : List ℕ → Beyond) (text rest : List ℕ) : Type 0 where
  taken : List ℕ
  split : text ≡ taken ++ rest
  begun : (x y : List ℕ) → first_of (taken ++ x) ≡ first_of (taken ++ y)
  passes : (other : List ℕ) → Parts closes part (taken ++ other) (Ok other)

parts_ok_by : (closes : ℕ → Bool) (part : List ℕ → Beyond) (n : ℕ) (text mid rest : List ℕ) (next : Next) → Reads part → part text ≡ Ok mid
    → beyond_next closes mid ≡ Ok next → (x : Bool) → next.0 ≡ x → parts_after closes part n next ≡ Ok rest
    → ((more : List ℕ) → beyond_parts closes part n more ≡ Ok rest → PartsOf closes part more rest) → PartsOf closes part text rest
parts_ok_by closes part n text mid rest next reads given is false ends e more =
    let p = reads.oks text mid given in
    let q = next_of closes mid next is in
    let f : ◌≡◌ {A = Beyond} (Ok next.1) (Ok rest) = rw ends at e in
    let same : next.1 ≡ rest = cc in
    record {
      taken = p.taken ++ q.taken;
      split = p.split ∙ ap (λ x. p.taken ++ x) (q.split ∙ ap (λ x. q.taken ++ x) same) ∙ sym (append_assoc p.taken q.taken rest);
      begun = λ x y. rw (append_assoc p.taken q.taken x, append_assoc p.taken q.taken y) (same_taken p.taken (q.taken ++ x) (q.taken ++ y) (q.begun x y));
      passes = λ other m lt. rw (append_assoc p.taken q.taken other)
          (parts_end closes part (p.taken ++ (q.taken ++ other)) (q.taken ++ other) other next.0 m (rw (append_assoc p.taken q.taken other) at lt)
          (p.passes (q.taken ++ other) (inl (q.begun other next.1 ∙ ap first_of (sym q.split)))) (q.passes other) ends);
    }
parts_ok_by closes part n text mid rest next reads given is true goes e more =
    let p = reads.oks text mid given in
    let q = next_of closes mid next is in
    let r = more next.1 (rw goes at e) in
    record {
      taken = (p.taken ++ q.taken) ++ r.taken;
      split = p.split ∙ ap (λ x. p.taken ++ x) (q.split ∙ ap (λ x. q.taken ++ x) r.split) ∙ sym (append_assoc p.taken q.taken (r.taken ++ rest))
          ∙ sym (append_assoc (p.taken ++ q.taken) r.taken rest);
      begun = λ x y. rw (append_assoc (p.taken ++ q.taken) r.taken x, append_assoc (p.taken ++ q.taken) r.taken y)
          (same_taken (p.taken ++ q.taken) (r.taken ++ x) (r.taken ++ y) (r.begun x y));
      passes = λ other m lt. rw (append_assoc (p.taken ++ q.taken) r.taken other, append_assoc p.taken q.taken (r.taken ++ other))
          (parts_on closes part (p.taken ++ (q.taken ++ (r.taken ++ other))) (q.taken ++ (r.taken ++ other)) (r.taken ++ other) next.0 (Ok other) m
          (rw (append_assoc (p.taken ++ q.taken) r.taken other, append_assoc p.taken q.taken (r.taken ++ other)) at lt)
          (shorter p.taken q.taken (r.taken ++ other) q.some)
          (p.passes (q.taken ++ (r.taken ++ other)) (inl (q.begun (r.taken ++ other) next.1 ∙ ap first_of (sym q.split)))) (q.passes (r.taken ++ other)) goes
          (r.passes other));
    }

parts_ok : (closes : ℕ → Bool) (part : List ℕ → Beyond) (n : ℕ) (text rest : List ℕ) → Reads part → beyond_parts closes part n text ≡ Ok rest
    → PartsOf closes part text rest
unfolding beyond_parts
parts_ok closes part zero text rest reads e = absurd cc
parts_ok closes part (suc n) text rest reads e =
    let next = bind_ok (part text >>= beyond_next closes) (parts_after closes part n) rest e in
    let mid = bind_ok (part text) (beyond_next closes) next.0 next.1 in
    parts_ok_by closes part n text mid.0 rest next.0 reads mid.1 mid.2 (next.0).0 refl next.2 (λ more e. parts_ok closes part n more rest reads e)

pub parts_white : (closes : ℕ → Bool) (part : List ℕ → Beyond) (n : ℕ) (text : List ℕ) → Reads part
    → beyond_parts closes part (suc n) (beyond_white text) ≡ beyond_parts closes part (suc n) text
unfolding beyond_parts
parts_white closes part n text reads = rw (reads.white text) refl

-- ---- brackets

-- parts after white space, as a group without a closing byte
pub group_parts : (closes : ℕ → Bool) (part : List ℕ → Beyond) (text other : List ℕ) (answer : Beyond) → Reads part → beyond_white text ≡ other
    → begins closes other ≡ false → length other ≤ length text → Parts closes part other answer → beyond_group closes part text ≡ answer
unfolding beyond_group
group_parts closes part text other answer reads is free le h =
    rw (is, free) (sym (parts_white closes part (length text) text reads) ∙ ap (λ x. beyond_parts closes part (suc (length text)) x) is
    ∙ h (suc (length text)) (omega (arith, le)))

group_err_by : (closes : ℕ → Bool) (part : List ℕ → Beyond) (text : List ℕ) (stop : Stop) (x : Bool) → Reads part → begins closes (beyond_white text) ≡ x
    → beyond_group closes part text ≡ Err stop → Decided (Gives (beyond_group closes part)) text stop
unfolding beyond_group
group_err_by closes part text stop true reads is e = let f : ◌≡◌ {A = Beyond} (Ok (drop 1 (beyond_white text))) (Err stop) = rw is at e in absurd cc
group_err_by closes part text stop false reads is e =
    let r = run_of is_white text in
    let size : length text ≡ length (r.taken ++ beyond_white text) = ap length r.split in
    let le : length (beyond_white text) ≤ length text = omega (arith, size, length-append r.taken (beyond_white text)) in
    lift (Parts closes part) (Gives (beyond_group closes part)) text r.taken (beyond_white text) stop r.split
    (λ other s same h. group_parts closes part (r.taken ++ other) other (Err s) reads
    (r.passes other (begins_same is_white other (beyond_white text) same ∙ run_ends is_white text))
    (begins_same closes other (beyond_white text) same ∙ is) (omega (arith, length-append r.taken other)) h)
    (parts_err closes part (suc (length text)) (beyond_white text) stop reads (omega (arith, le))
    (parts_white closes part (length text) text reads ∙ rw is at e))

group_errs : (closes : ℕ → Bool) (part : List ℕ → Beyond) → Reads part → Errs (beyond_group closes part)
group_errs closes part reads text stop e = group_err_by closes part text stop (begins closes (beyond_white text)) reads refl e

group_close : (closes : ℕ → Bool) (part : List ℕ → Beyond) (text rest here : List ℕ) → beyond_white text ≡ here → begins closes here ≡ true → drop 1 here ≡ rest
    → Run is_white text → Passed (Gives (beyond_group closes part)) (λ x. x) Always text rest
unfolding beyond_group
group_close closes part text rest [] same is e r = absurd cc
group_close closes part text rest (b ∷ here) same is e r =
    let none : is_white b ≡ false = ap (begins is_white) (sym same) ∙ run_ends is_white text in
    record {
      taken = r.taken ++ (b ∷ []);
      split = r.split ∙ ap (λ x. r.taken ++ x) (same ∙ ap (λ x. b ∷ x) e) ∙ sym (append_assoc r.taken (b ∷ []) rest);
      passes = λ other always. rw (append_assoc r.taken (b ∷ []) other, r.passes (b ∷ other) none, is) refl;
    }

group_ok_by : (closes : ℕ → Bool) (part : List ℕ → Beyond) (text rest : List ℕ) (x : Bool) → Reads part → begins closes (beyond_white text) ≡ x
    → beyond_group closes part text ≡ Ok rest → Passed (Gives (beyond_group closes part)) (λ x. x) Always text rest
unfolding beyond_group
group_ok_by closes part text rest true reads is e =
    let f : ◌≡◌ {A = Beyond} (Ok (drop 1 (beyond_white text))) (Ok rest) = rw is at e in
    let same : drop 1 (beyond_white text) ≡ rest = cc in
    group_close closes part text rest (beyond_white text) refl is same (run_of is_white text)
group_ok_by closes part text rest false reads is e =
    let r = run_of is_white text in
    let p = parts_ok closes part (suc (length text)) (beyond_white text) rest reads (parts_white closes part (length text) text reads ∙ rw is at e) in
    record {
      taken = r.taken ++ p.taken;
      split = r.split ∙ ap (λ x. r.taken ++ x) p.split ∙ sym (append_assoc r.taken p.taken rest);
      passes = λ other always.
          let same : first_of (p.taken ++ other) ≡ first_of (beyond_white text) = p.begun other rest ∙ ap first_of (sym p.split) in
          rw (append_assoc r.taken p.taken other) (group_parts closes part (r.taken ++ (p.taken ++ other)) (p.taken ++ other) (Ok other) reads
          (r.passes (p.taken ++ other) (begins_same is_white (p.taken ++ other) (beyond_white text) same ∙ run_ends is_white text))
          (begins_same closes (p.taken ++ other) (beyond_white text) same ∙ is) (omega (arith, length-append r.taken (p.taken ++ other))) (p.passes other));
    }

group_firm : (closes : ℕ → Bool) (part : List ℕ → Beyond) → Reads part → Firms (beyond_group closes part)
group_firm closes part reads text rest e = group_ok_by closes part text rest (begins closes (beyond_white text)) reads refl e

name_white : (text : List ℕ) → beyond_name (beyond_white text) ≡ beyond_name text
unfolding beyond_name
name_white text = rw (white_twice text) refl

pub member_reads : (value : List ℕ → Beyond) → Reads value → Reads (beyond_member value)
member_reads value reads = record {
  errs = then_errs beyond_name value name_errs (loose beyond_name name_firm) reads.errs;
  oks = then_oks beyond_name value (loose beyond_name name_firm) reads.oks;
  white = λ text. rw (name_white text) refl;
}

-- ---- values

abbrev word_after : ℕ → List ℕ → Beyond
word_after b text = if b == 116 then beyond_word (codes "rue") text
    else (if b == 102 then beyond_word (codes "alse") text else (if b == 110 then beyond_word (codes "ull") text else beyond_number (b ∷ text)))

-- an item after its first byte
passing_errs : (item : List ℕ → Beyond) (b : ℕ) (inner : List ℕ → Beyond) → Errs inner → ((text : List ℕ) → item (b ∷ text) ≡ inner text)
    → (text : List ℕ) (stop : Stop) → item (b ∷ text) ≡ Err stop → Decided (Gives item) (b ∷ text) stop
passing_errs item b inner errs is text stop e = lift (Gives inner) (Gives item) (b ∷ text) (b ∷ []) text stop refl (λ other s same h. is other ∙ h)
    (errs text stop (sym (is text) ∙ e))

passing_firm : (item : List ℕ → Beyond) (b : ℕ) (inner : List ℕ → Beyond) → Firms inner → ((text : List ℕ) → item (b ∷ text) ≡ inner text)
    → (text rest : List ℕ) → item (b ∷ text) ≡ Ok rest → Passed (Gives item) (λ x. x) (Fits rest) (b ∷ text) rest
passing_firm item b inner firm is text rest e =
    let p = firm text rest (sym (is text) ∙ e) in
    record { taken = b ∷ p.taken; split = ap (λ x. b ∷ x) p.split; passes = λ other fits. is (p.taken ++ other) ∙ p.passes other tt }

-- the five forms of a value without brackets, by the first byte
abbrev pub is_letter : ℕ → Bool
is_letter b = b == 34 || b == 116 || b == 102 || b == 110

pub scalar_number : (text : List ℕ) → begins is_letter text ≡ false → beyond_scalar text ≡ beyond_number text
unfolding beyond_scalar beyond_number beyond_natural beyond_digits
scalar_number [] none = refl
scalar_number (b ∷ text) none = go (b == 34) refl (b == 116) refl (b == 102) refl (b == 110) refl none
  where
    go : (p : Bool) → (b == 34) ≡ p → (q : Bool) → (b == 116) ≡ q → (r : Bool) → (b == 102) ≡ r → (s : Bool) → (b == 110) ≡ s
        → p || q || r || s ≡ false → beyond_scalar (b ∷ text) ≡ beyond_number (b ∷ text)
    go false a false c false d false e none = rw (a, c, d, e) refl
    go true a q c r d s e none = absurd cc
    go false a true c r d s e none = absurd cc
    go false a false c true d s e none = absurd cc
    go false a false c false d true e none = absurd cc

-- a value that its first byte decides, with an end of its own
record Form (b : ℕ) : Type 0 where
  inner : List ℕ → Beyond
  errs : Errs inner
  firm : Firms inner
  is : (text : List ℕ) → beyond_scalar (b ∷ text) ≡ inner text

form_by : (b : ℕ) (p : Bool) → (b == 34) ≡ p → (q : Bool) → (b == 116) ≡ q → (r : Bool) → (b == 102) ≡ r → (s : Bool) → (b == 110) ≡ s
    → Form b ⊎ (p || q || r || s ≡ false)
unfolding beyond_scalar
form_by b true a q c r d s e = inl (record { inner = beyond_string; errs = string_errs; firm = string_firm; is = λ text. rw a refl })
form_by b false a true c r d s e =
    inl (record { inner = beyond_word (codes "rue"); errs = word_errs (codes "rue"); firm = word_firm (codes "rue"); is = λ text. rw (a, c) refl })
form_by b false a false c true d s e =
    inl (record { inner = beyond_word (codes "alse"); errs = word_errs (codes "alse"); firm = word_firm (codes "alse"); is = λ text. rw (a, c, d) refl })
form_by b false a false c false d true e =
    inl (record { inner = beyond_word (codes "ull"); errs = word_errs (codes "ull"); firm = word_firm (codes "ull"); is = λ text. rw (a, c, d, e) refl })
form_by b false a false c false d false e = inr refl

form_of : (b : ℕ) → Form b ⊎ (is_letter b ≡ false)
form_of b = form_by b (b == 34) refl (b == 116) refl (b == 102) refl (b == 110) refl

scalar_errs : Errs beyond_scalar
unfolding beyond_scalar
scalar_errs [] stop e = at_end (Gives beyond_scalar) Syntax [] stop e
scalar_errs (b ∷ text) stop e = go (form_of b)
  where
    go : Form b ⊎ (is_letter b ≡ false) → Decided (Gives beyond_scalar) (b ∷ text) stop
    go (inl f) = passing_errs beyond_scalar b f.inner f.errs f.is text stop e
    go (inr none) = lift (Gives beyond_number) (Gives beyond_scalar) (b ∷ text) [] (b ∷ text) stop refl
        (λ other s same h. scalar_number other (begins_same is_letter other (b ∷ text) same ∙ none) ∙ h)
        (number_errs (b ∷ text) stop (sym (scalar_number (b ∷ text) none) ∙ e))

scalar_oks : Oks beyond_scalar
unfolding beyond_scalar
scalar_oks [] rest e = absurd cc
scalar_oks (b ∷ text) rest e = go (form_of b)
  where
    go : Form b ⊎ (is_letter b ≡ false) → Passed (Gives beyond_scalar) (λ x. x) (Fits rest) (b ∷ text) rest
    go (inl f) = passing_firm beyond_scalar b f.inner f.firm f.is text rest e
    go (inr none) =
        let p = number_oks (b ∷ text) rest (sym (scalar_number (b ∷ text) none) ∙ e) in
        record {
          taken = p.taken;
          split = p.split;
          passes = λ other fits.
              scalar_number (p.taken ++ other) (begins_fits is_letter (b ∷ text) (p.taken ++ other) refl refl (fits_beyond (b ∷ text) p.taken rest other p.split fits) none)
              ∙ p.passes other fits;
        }

-- ---- nesting

-- whether a byte is an opening bracket
abbrev pub is_bracket : ℕ → Bool
is_bracket b = b == 123 || b == 91

-- the same reader for each text that does not begin with a bracket
flat_errs : (item : List ℕ → Beyond) → ((text : List ℕ) → begins is_bracket text ≡ false → item text ≡ beyond_scalar text) → (text : List ℕ) (stop : Stop)
    → begins is_bracket text ≡ false → item text ≡ Err stop → Decided (Gives item) text stop
flat_errs item is text stop none e = lift (Gives beyond_scalar) (Gives item) text [] text stop refl
    (λ other s same h. is other (begins_same is_bracket other text same ∙ none) ∙ h) (scalar_errs text stop (sym (is text none) ∙ e))

flat_oks : (item : List ℕ → Beyond) → ((text : List ℕ) → begins is_bracket text ≡ false → item text ≡ beyond_scalar text) → (text rest : List ℕ)
    → begins is_bracket text ≡ false → item text ≡ Ok rest → Passed (Gives item) (λ x. x) (Fits rest) text rest
flat_oks item is text rest none e =
    let p = scalar_oks text rest (sym (is text none) ∙ e) in
    record {
      taken = p.taken;
      split = p.split;
      passes = λ other fits. is (p.taken ++ other) (begins_fits is_bracket text (p.taken ++ other) refl refl (fits_beyond text p.taken rest other p.split fits) none)
          ∙ p.passes other fits;
    }

-- a bracket where none is allowed is too deep
pub unnested_deep : (b : ℕ) (text : List ℕ) → is_bracket b ≡ true → beyond_unnested (b ∷ text) ≡ Err (stop_at TooDeep (b ∷ text))
unnested_deep b text is = rw is refl

-- a value without a bracket is a scalar where none is allowed
pub unnested_flat : (text : List ℕ) → begins is_bracket text ≡ false → beyond_unnested text ≡ beyond_scalar text
unnested_flat [] none = refl
unnested_flat (b ∷ text) none = rw none refl

unnested_errs : Errs beyond_unnested
unnested_errs text stop e = go text (begins is_bracket text) refl e
  where
    go : (t : List ℕ) (x : Bool) → begins is_bracket t ≡ x → beyond_unnested t ≡ Err stop → Decided (Gives beyond_unnested) t stop
    go [] true is e = absurd cc
    go (b ∷ t) true is e = here (Gives beyond_unnested) TooDeep b t stop (sym (unnested_deep b t is) ∙ e) (λ other. unnested_deep b other is)
    go t false is e = flat_errs beyond_unnested unnested_flat t stop is e

unnested_oks : Oks beyond_unnested
unnested_oks text rest e = go text (begins is_bracket text) refl e
  where
    go : (t : List ℕ) (x : Bool) → begins is_bracket t ≡ x → beyond_unnested t ≡ Ok rest → Passed (Gives beyond_unnested) (λ x. x) (Fits rest) t rest
    go [] true is e = absurd cc
    go (b ∷ t) true is e = let f : ◌≡◌ {A = Beyond} (Err (stop_at TooDeep (b ∷ t))) (Ok rest) = sym (unnested_deep b t is) ∙ e in absurd cc
    go t false is e = flat_oks beyond_unnested unnested_flat t rest is e

-- a value without a bracket is a scalar where brackets are allowed
pub nested_flat : (value : List ℕ → Beyond) (text : List ℕ) → begins is_bracket text ≡ false → beyond_nested value text ≡ beyond_scalar text
nested_flat value [] none = refl
nested_flat value (b ∷ text) none = go (b == 123) refl (b == 91) refl none
  where
    go : (x : Bool) → (b == 123) ≡ x → (y : Bool) → (b == 91) ≡ y → x || y ≡ false → beyond_nested value (b ∷ text) ≡ beyond_scalar (b ∷ text)
    go true o y a none = absurd cc
    go false o true a none = absurd cc
    go false o false a none = rw (o, a) refl

object_errs : (value : List ℕ → Beyond) → Reads value → Errs (beyond_object value)
object_errs value reads = group_errs (λ b. b == 125) (beyond_member value) (member_reads value reads)

object_firm : (value : List ℕ → Beyond) → Reads value → Firms (beyond_object value)
object_firm value reads = group_firm (λ b. b == 125) (beyond_member value) (member_reads value reads)

array_errs : (value : List ℕ → Beyond) → Reads value → Errs (beyond_array value)
array_errs value reads = group_errs (λ b. b == 93) value reads

array_firm : (value : List ℕ → Beyond) → Reads value → Firms (beyond_array value)
array_firm value reads = group_firm (λ b. b == 93) value reads

-- neither of two brackets
pub either_bracket : (o a : Bool) → o ≡ false → a ≡ false → o || a ≡ false
either_bracket o a p q = rw (p, q) refl

nested_errs : (value : List ℕ → Beyond) → Reads value → Errs (beyond_nested value)
nested_errs value reads [] stop e = flat_errs (beyond_nested value) (nested_flat value) [] stop refl e
nested_errs value reads (b ∷ text) stop e = go (b == 123) refl (b == 91) refl
  where
    go : (x : Bool) → (b == 123) ≡ x → (y : Bool) → (b == 91) ≡ y → Decided (Gives (beyond_nested value)) (b ∷ text) stop
    go true o y a = passing_errs (beyond_nested value) b (beyond_object value) (object_errs value reads) (λ t. rw o refl) text stop e
    go false o true a = passing_errs (beyond_nested value) b (beyond_array value) (array_errs value reads) (λ t. rw (o, a) refl) text stop e
    go false o false a = flat_errs (beyond_nested value) (nested_flat value) (b ∷ text) stop (either_bracket (b == 123) (b == 91) o a) e

nested_oks : (value : List ℕ → Beyond) → Reads value → Oks (beyond_nested value)
nested_oks value reads [] rest e = flat_oks (beyond_nested value) (nested_flat value) [] rest refl e
nested_oks value reads (b ∷ text) rest e = go (b == 123) refl (b == 91) refl
  where
    go : (x : Bool) → (b == 123) ≡ x → (y : Bool) → (b == 91) ≡ y → Passed (Gives (beyond_nested value)) (λ x. x) (Fits rest) (b ∷ text) rest
    go true o y a = passing_firm (beyond_nested value) b (beyond_object value) (object_firm value reads) (λ t. rw o refl) text rest e
    go false o true a = passing_firm (beyond_nested value) b (beyond_array value) (array_firm value reads) (λ t. rw (o, a) refl) text rest e
    go false o false a = flat_oks (beyond_nested value) (nested_flat value) (b ∷ text) rest (either_bracket (b == 123) (b == 91) o a) e

pub value_reads : (level : ℕ) → Reads (beyond_value level)
unfolding beyond_value
value_reads zero = record {
  errs = white_errs beyond_unnested unnested_errs;
  oks = white_oks beyond_unnested unnested_oks;
  white = λ text. rw (white_twice text) refl;
}
value_reads (suc level) =
    let reads = value_reads level in
    record {
      errs = white_errs (beyond_nested (beyond_value level)) (nested_errs (beyond_value level) reads);
      oks = white_oks (beyond_nested (beyond_value level)) (nested_oks (beyond_value level) reads);
      white = λ text. rw (white_twice text) refl;
    }

-- ---- the whole text

-- the end of a text, after white space
abbrev pub last : List ℕ → Beyond
last text = if length text == 0 then Ok [] else Err (stop_at TrailingText text)

some_length : (b : ℕ) (text : List ℕ) → (length (b ∷ text) == 0) ≡ false
some_length b text = grind (arith, nat_tests)

last_errs : Errs last
last_errs [] stop e = absurd cc
last_errs (b ∷ text) stop e = here (Gives last) TrailingText b text stop (rw (some_length b text) at e) (λ other. rw (some_length b other) refl)

pub text_errs : Errs beyond_text
unfolding beyond_text
text_errs = then_errs (beyond_value most_brackets) (λ x. last (beyond_white x)) (value_reads most_brackets).errs (value_reads most_brackets).oks (white_errs last last_errs)

last_empty : (text rest : List ℕ) → last text ≡ Ok rest → rest ≡ []
last_empty text rest e = go (length text == 0) refl e
  where
    go : (x : Bool) → (length text == 0) ≡ x → last text ≡ Ok rest → rest ≡ []
    go true is e = let f : ◌≡◌ {A = Beyond} (Ok []) (Ok rest) = rw is at e in cc
    go false is e = let f : ◌≡◌ {A = Beyond} (Err (stop_at TrailingText text)) (Ok rest) = rw is at e in absurd cc

pub text_ok : (text rest : List ℕ) → beyond_text text ≡ Ok rest → rest ≡ []
unfolding beyond_text
text_ok text rest e =
    let b = bind_ok (beyond_value most_brackets text) (λ x. last (beyond_white x)) rest e in
    last_empty (beyond_white b.0) rest b.2
