-- The pieces of a text.
use Rattle.std.proofs.Common.{◌≡◌, ◌≢◌, ◌<◌, ◌≤◌, ℕ, ◌+◌, ◌-◌, ◌==◌, ◌||◌, Bool, true, false, cond, nat_eq, List, [], ◌∷◌, ◌++◌, length, take, drop, refl, sym, ap, ◌∙◌, subst, inl, inr, arith, Ok, codes, append-nil, append_assoc, length-append, take_at, drop_at, take-append-drop, Result, Err, Option, Some, None, option_map, option_and_then, length-take, rules}
use Rattle.std.proofs.lemmas.{Bool.Decides.nat_tests}
use Rattle.std.specs.{List.list_any}
use Rattle.std.specs.{Cmp.Lexicographic.pointwise, Cmp.Lexicographic.bytes_decides, Option.option_map_or}
use Rattle.bd_wide_number.specs.declared.number.Number.{Number}
use Rattle.bd_wide_number.specs.declared.number.Number.TheVariants.{Double}
use Rattle.bd_wide_read.specs.DoubleText.{number_bits}
use Rattle.bd_wide_read.specs.declared.fault.TextFault.{TextFault}
use Rattle.bd_wide_read.specs.JsonNumber.{is_number}
use Rattle.bd_wide_read.specs.declared.fault.TextFault.TheVariants.{BadText}
use Rattle.bd_wide_substitute.specs.declared.scan.Substituted.{Substituted}
use Rattle.bd_wide_substitute.specs.declared.wrapped.ValueType.{ValueType}
use Rattle.bd_wide_substitute.specs.declared.wrapped.ValueType.TheVariants as types
use Rattle.bd_wide_substitute.specs.declared.wrapped.WideValue.{WideValue}
use Rattle.bd_wide_substitute.specs.declared.wrapped.WideValue.TheVariants as values
use Rattle.bd_wide_substitute.specs.Substitutes.{ArePieces, BeginsValue, IsBare, IsBefore, IsDouble, IsMeant, IsNoDouble, IsRun, Piece, Wrapper, same, value, Filler, all_values, named, number_of, value_text, values_in, after, after_string, after_word, all_numbers, before_brace, is_blank, is_no_quote, is_of_number, last_string, numbers_in, original, filled, quoted, quoted_before, strip, text, whole, with_fillers, wrapper_at, wrapper_inside}
use Rattle.bd_wide_substitute.specs.inside.Taken.{AreTaken, IsFound, IsPiece}
use Rattle.bd_wide_substitute.proofs.MeaningLemmas.{meant_once}

-- ---- what passes a test, and what follows

record Splits (test : ℕ → Bool) (xs : List ℕ) : Type 0 where
  pub prefix : List ℕ
  pub is : xs ≡ prefix ++ after test xs
  pub all : after test prefix ≡ []
  pub stop : after test (after test xs) ≡ after test xs

splits : (test : ℕ → Bool) (xs : List ℕ) → Splits test xs
splits test [] = record { prefix = []; is = refl; all = refl; stop = refl }
splits test (c ∷ cs) =
    let rest = splits test cs in
    elim (test c) as (λ b. test c ≡ b → Splits test (c ∷ cs)) [
      | true ↦ λ e. record {
        prefix = c ∷ rest.prefix;
        is = rw e (ap (λ t. c ∷ t) rest.is);
        all = rw e rest.all;
        stop = rw e rest.stop;
      }
      | false ↦ λ e. record { prefix = []; is = rw e; all = refl; stop = rw e (rw e) }
    ] refl

-- ---- the first bytes

split_here : (bytes p rest : List ℕ) (n : ℕ) → bytes ≡ p ++ rest → n ≡ length bytes - length rest → (take n bytes ≡ p) × (drop n bytes ≡ rest) × (n ≡ length p) × (n ≤ length bytes)
split_here bytes p rest n is count =
    let long : length bytes ≡ length p + length rest = ap length is ∙ length-append p rest in
    let same : length p ≡ n = omega arith in
    (ap (take n) is ∙ take_at p rest n same, ap (drop n) is ∙ drop_at p rest n same, sym same, omega arith)

string_prefix : (xs : List ℕ) → (p : List ℕ) × (xs ≡ p ++ after_string xs)
string_prefix [] = ([], refl)
string_prefix (c ∷ []) =
    elim (c == 34) as (λ b. (p : List ℕ) × (c ∷ [] ≡ p ++ cond b [] (cond (c == 92) [] []))) [
      | true ↦ (c ∷ [], refl)
      | false ↦ elim (c == 92) as (λ b. (p : List ℕ) × (c ∷ [] ≡ p ++ cond b [] [])) [ true ↦ (c ∷ [], refl) | false ↦ (c ∷ [], refl) ]
    ]
string_prefix (c ∷ d ∷ ds) =
    let here = string_prefix (d ∷ ds) in
    let beyond = string_prefix ds in
    elim (c == 34) as (λ b. (p : List ℕ) × (c ∷ d ∷ ds ≡ p ++ cond b (d ∷ ds) (cond (c == 92) (after_string ds) (after_string (d ∷ ds))))) [
      | true ↦ (c ∷ [], refl)
      | false ↦ elim (c == 92) as (λ b. (p : List ℕ) × (c ∷ d ∷ ds ≡ p ++ cond b (after_string ds) (after_string (d ∷ ds)))) [
        | true ↦ (c ∷ d ∷ beyond.0, ap (λ t. c ∷ d ∷ t) beyond.1)
        | false ↦ (c ∷ here.0, ap (λ t. c ∷ t) here.1)
      ]
    ]

-- ---- numbers

-- a number with a fraction or an exponent has two bytes at least
is_number_of : (bytes : List ℕ) (bits : ℕ) → number_bits bytes ≡ Ok bits → is_number bytes ≡ true
is_number_of bytes bits h =
    elim (is_number bytes) as (λ b. is_number bytes ≡ b → b ≡ true) [
      | true ↦ λ e. refl
      | false ↦ λ e. absurd (let c : number_bits bytes ≡ Err BadText = rw e in let d : Err BadText ≡ Ok bits = sym c ∙ h in cc)
    ] refl

-- one byte alone is no such number
alone : (c : ℕ) → list_any (λ d. d == 46 || d == 69 || d == 101) (c ∷ []) ≡ true → is_number (c ∷ []) ≡ true → ⊥
alone c some is = search (rules, nat_tests)

bare_long : (bits : ℕ) (bytes : List ℕ) → IsDouble bits bytes → 2 ≤ length bytes
bare_long bits [] h = absurd (let e = h.0 in cc)
bare_long bits (c ∷ d ∷ cs) h = omega arith
bare_long bits (c ∷ []) h = absurd (alone c h.0 (is_number_of (c ∷ []) bits h.1))

-- ---- pieces at the start

string_before : (bytes cs : List ℕ) (n : ℕ) → bytes ≡ 34 ∷ cs → n ≡ length bytes - length (after_string cs)
    → IsBefore (same (take n bytes)) (drop n bytes) × (1 ≤ n) × (n ≤ length bytes)
string_before bytes cs n is count =
    let f = string_prefix cs in
    let c = split_here bytes (34 ∷ f.0) (after_string cs) n (is ∙ ap (λ t. 34 ∷ t) f.1) count in
    (inl (f.0, c.0, ap (λ t. after_string (f.0 ++ t)) c.1 ∙ ap after_string (sym f.1) ∙ sym c.1), omega (arith, c.2), c.3)

pub string_found : (bytes cs : List ℕ) (n : ℕ) → bytes ≡ 34 ∷ cs → n ≡ length bytes - length (after_string cs) → IsFound bytes n None
string_found bytes cs n is count =
    let b = string_before bytes cs n is count in
    record { piece = same (take n bytes); is = refl; before = b.0; some = b.1; within = b.2 }

run_before : (bytes : List ℕ) (n : ℕ) → length (after is_of_number bytes) < length bytes → n ≡ length bytes - length (after is_of_number bytes)
    → IsRun (take n bytes) (drop n bytes) × (1 ≤ n) × (n ≤ length bytes)
run_before bytes n less count =
    let s = splits is_of_number bytes in
    let c = split_here bytes s.prefix (after is_of_number bytes) n s.is count in
    ((ap (after is_of_number) c.0 ∙ s.all, ap (after is_of_number) c.1 ∙ s.stop ∙ sym c.1), omega arith, c.3)

module _ (bytes run : List ℕ) (n : ℕ) (less : length (after is_of_number bytes) < length bytes) (count : n ≡ length bytes - length (after is_of_number bytes)) (is : run ≡ take n bytes) where
  pub run_found : IsNoDouble run → IsFound bytes n None
  run_found none =
      let b = run_before bytes n less count in
      record { piece = same (take n bytes); is = refl; before = inr (inl (b.0, subst IsNoDouble is none)); some = b.1; within = b.2 }

  pub double_found : (bits : ℕ) → IsDouble bits run → IsFound bytes n (Some (values.Number (Double bits)))
  double_found bits bare =
      let b = run_before bytes n less count in
      let long : 2 ≤ n = omega (arith, bare_long bits run bare, ap length is, length-take n bytes, b.2) in
      record { piece = value (take n bytes) (values.Number (Double bits)); is = (refl, refl, long); before = inr ((bits, refl, subst (IsDouble bits) is bare), b.0); some = b.1; within = b.2 }

pub other_found : (bytes cs : List ℕ) (c : ℕ) → bytes ≡ c ∷ cs → (c ≢ 34) → is_of_number c ≡ false → ((v : WideValue) (more : List ℕ) → BeginsValue bytes v more → ⊥) → IsFound bytes 1 None
other_found bytes cs c is quote apart none =
    let whole : c ∷ drop 1 bytes ≡ bytes = ap (λ t. c ∷ t) (ap (drop 1) is) ∙ sym is in
    record {
      piece = same (take 1 bytes);
      is = refl;
      before = inr (inr (c, ap (take 1) is, quote, apart, λ n more h. none n more (subst (λ b. BeginsValue b n more) whole h)));
      some = omega arith;
      within = omega (arith, ap length is);
    }

pub wrapped_found : (bytes rest : List ℕ) (x : WideValue) (n : ℕ) → (object : List ℕ) × (2 ≤ length object) × (bytes ≡ object ++ rest) → n ≡ length bytes - length rest
    → BeginsValue bytes x rest → IsFound bytes n (Some x)
wrapped_found bytes rest x n object count begins =
    let c = split_here bytes object.0 rest n object.2 count in
    let here : BeginsValue bytes x (drop n bytes) = subst (λ r. BeginsValue bytes x r) (sym c.1) begins in
    let long : 2 ≤ n = omega (arith, c.2, object.1) in
    record {
      piece = value (take n bytes) x;
      is = (refl, refl, long);
      before = inl (subst (λ b. BeginsValue b x (drop n bytes)) (sym (take-append-drop n bytes)) here);
      some = omega (arith, long);
      within = c.3;
    }

after_le : (test : ℕ → Bool) (xs : List ℕ) → length (after test xs) ≤ length xs
after_le test xs = let s = splits test xs in omega (arith, ap length s.is, length-append s.prefix (after test xs))

pub run_begins : (bytes cs : List ℕ) (c : ℕ) → bytes ≡ c ∷ cs → is_of_number c ≡ true → length (after is_of_number bytes) < length bytes
run_begins bytes cs c is begins =
    let one : after is_of_number bytes ≡ after is_of_number cs = ap (after is_of_number) is ∙ rw begins in
    omega (arith, ap length one, ap length is, after_le is_of_number cs)

-- ---- all pieces

filled_more : (s : Filler) (ps : List Piece) (p : Piece) → with_fillers s (ps ++ (p ∷ [])) ≡ with_fillers s ps ++ filled s p
filled_more s [] p = append-nil (filled s p)
filled_more s (q ∷ qs) p = ap (λ t. filled s q ++ t) (filled_more s qs p) ∙ sym (append_assoc (filled s q) (with_fillers s qs) (filled s p))

numbers_more : (ps : List Piece) (p : Piece) → all_numbers (ps ++ (p ∷ [])) ≡ all_numbers ps ++ numbers_in p
numbers_more [] p = append-nil (numbers_in p)
numbers_more (q ∷ qs) p = ap (λ t. numbers_in q ++ t) (numbers_more qs p) ∙ sym (append_assoc (numbers_in q) (all_numbers qs) (numbers_in p))

values_same : (ps : List Piece) (first : List ℕ) → all_values ps ≡ [] → all_values (ps ++ (same first ∷ [])) ≡ []
values_same [] first none = refl
values_same (same bytes ∷ ps) first none = values_same ps first none
values_same (value bytes v ∷ ps) first none = absurd (let e : v ∷ all_values ps ≡ [] = none in cc)

start : (line : List ℕ) (made : Substituted) → made.wholes.items ≡ [] → made.texts.items ≡ [] → made.numbers.items ≡ [] → AreTaken false line line line made
start line made w t n = record {
  pieces = [];
  before = λ more h. h;
  skipped = [];
  split = refl;
  wholes = ap (λ (x : List ℕ). x ++ []) w;
  texts = ap (λ (x : List ℕ). x ++ []) t;
  numbers = n;
  none = λ e. refl;
}

pub taken_none : (line : List ℕ) (made : Substituted) → (made.wholes.items ≡ []) × (made.texts.items ≡ []) × (made.numbers.items ≡ []) → AreTaken false line line line made
taken_none line made e = start line made e.0 e.1 e.2

module _ (has : Bool) (line pending rest : List ℕ) (n : ℕ) (old : Substituted) (all : AreTaken has line pending rest old) where
  more_before : (p : Piece) → original p ≡ take n rest → IsBefore p (drop n rest) → (more : List Piece) → ArePieces (drop n rest) more → ArePieces line ((all.pieces ++ (p ∷ [])) ++ more)
  more_before p is here more h = subst (ArePieces line) (sym (append_assoc all.pieces (p ∷ []) more))
      (all.before (p ∷ more) (drop n rest, sym (take-append-drop n rest) ∙ ap (λ t. t ++ drop n rest) (sym is), here, h))

  filled_on : (s : Filler) (made : List ℕ) (p : Piece) → made ++ all.skipped ≡ with_fillers s all.pieces → (made ++ all.skipped) ++ filled s p ≡ with_fillers s (all.pieces ++ (p ∷ []))
  filled_on s made p e = ap (λ t. t ++ filled s p) e ∙ sym (filled_more s all.pieces p)

  -- one more piece that stays
  same_on : (first : List ℕ) → first ≡ take n rest → IsBefore (same first) (drop n rest) → AreTaken has line pending (drop n rest) old
  same_on first is here = record {
    pieces = all.pieces ++ (same first ∷ []);
    before = more_before (same first) is here;
    skipped = all.skipped ++ first;
    split = all.split ∙ ap (λ t. all.skipped ++ t) (sym (take-append-drop n rest) ∙ ap (λ t. t ++ drop n rest) (sym is)) ∙ sym (append_assoc all.skipped first (drop n rest));
    wholes = sym (append_assoc old.wholes.items all.skipped first) ∙ filled_on whole old.wholes.items (same first) all.wholes;
    texts = sym (append_assoc old.texts.items all.skipped first) ∙ filled_on text old.texts.items (same first) all.texts;
    numbers = all.numbers ∙ sym (append-nil (all_numbers all.pieces)) ∙ sym (numbers_more all.pieces (same first));
    none = λ e. values_same all.pieces first (all.none e);
  }

  taken_same : IsFound rest n None → AreTaken has line pending (drop n rest) old
  taken_same found = go found.piece found.is found.before
    where
      go : (p : Piece) → IsPiece rest n None p → IsBefore p (drop n rest) → AreTaken has line pending (drop n rest) old
      go (same first) is here = same_on first is here
      go (value first x) is here = absurd is

  pub taken_other : (found : Option WideValue) → IsFound rest n found → ((x : WideValue) → found ≡ Some x → ⊥) → AreTaken has line pending (drop n rest) old
  taken_other None h none = taken_same h
  taken_other (Some x) h none = absurd (none x refl)

  -- the bytes before a number
  skipped_is : (before : List ℕ) → before ≡ take (length pending - length rest) pending → before ≡ all.skipped
  skipped_is before is =
      let long : length pending ≡ length all.skipped + length rest = ap length all.split ∙ length-append all.skipped rest in
      is ∙ ap (take (length pending - length rest)) all.split ∙ take_at all.skipped rest (length pending - length rest) (omega arith)

  value_on : (new : Substituted) (x : WideValue) (first : List ℕ) → first ≡ take n rest → n ≤ length rest → IsBefore (value first x) (drop n rest)
      → new.wholes.items ≡ old.wholes.items ++ (all.skipped ++ value_text whole n x) → new.texts.items ≡ old.texts.items ++ (all.skipped ++ value_text text n x) → new.numbers.items ≡ old.numbers.items ++ number_of x
      → AreTaken true line (drop n rest) (drop n rest) new
  value_on new x first is within here w t k =
      let long : n ≡ length first = omega (arith, ap length is, length-take n rest) in
      let p : Piece = value first x in
      let both = λ (s : Filler) (made put : List ℕ) (e : made ++ all.skipped ≡ with_fillers s all.pieces) (f : put ≡ made ++ (all.skipped ++ value_text s n x)).
      append-nil put ∙ f ∙ sym (append_assoc made all.skipped (value_text s n x)) ∙ ap (λ (k : ℕ). (made ++ all.skipped) ++ value_text s k x) long ∙ filled_on s made p e in
      record {
        pieces = all.pieces ++ (p ∷ []);
        before = more_before p is here;
        skipped = [];
        split = refl;
        wholes = both whole old.wholes.items new.wholes.items all.wholes w;
        texts = both text old.texts.items new.texts.items all.texts t;
        numbers = k ∙ ap (λ (y : List Number). y ++ number_of x) all.numbers ∙ sym (numbers_more all.pieces p);
        none = λ e. absurd (let f : true ≡ false = e in cc);
      }

  pub taken_value : (new : Substituted) (x : WideValue) (before : List ℕ) → before ≡ take (length pending - length rest) pending → IsFound rest n (Some x)
      → new.wholes.items ≡ old.wholes.items ++ (before ++ value_text whole n x) → new.texts.items ≡ old.texts.items ++ (before ++ value_text text n x) → new.numbers.items ≡ old.numbers.items ++ number_of x
      → AreTaken true line (drop n rest) (drop n rest) new
  taken_value new x before is found w t k =
      let e = skipped_is before is in
      let w1 = w ∙ ap (λ (y : List ℕ). old.wholes.items ++ (y ++ value_text whole n x)) e in
      let t1 = t ∙ ap (λ (y : List ℕ). old.texts.items ++ (y ++ value_text text n x)) e in
      go found.piece found.is found.before w1 t1
    where
      go : (p : Piece) → IsPiece rest n (Some x) p → IsBefore p (drop n rest) → new.wholes.items ≡ old.wholes.items ++ (all.skipped ++ value_text whole n x)
          → new.texts.items ≡ old.texts.items ++ (all.skipped ++ value_text text n x) → AreTaken true line (drop n rest) (drop n rest) new
      go (same first) h here w1 t1 = absurd h
      go (value first y) h here w1 t1 = value_on new x first h.0 found.within (subst (λ (z : WideValue). IsBefore (value first z) (drop n rest)) (sym h.1) here) w1 t1 k

-- nothing remains
pub taken_all : (line pending rest : List ℕ) (made : Substituted) → AreTaken false line pending rest made → length rest < 1 → (pieces : List Piece) × ArePieces line pieces × (all_values pieces ≡ [])
taken_all line pending [] made all none = (all.pieces, subst (ArePieces line) (append-nil all.pieces) (all.before [] refl), all.none refl)
taken_all line pending (c ∷ cs) made all none = absurd (omega arith)

pub taken_both : (has : Bool) (line pending rest wholes texts : List ℕ) (numbers : List Number) (made : Substituted) → AreTaken has line pending rest made → length rest < 1 → wholes ≡ made.wholes.items ++ pending → texts ≡ made.texts.items ++ pending
    → numbers ≡ made.numbers.items → (pieces : List Piece) × ArePieces line pieces × ((wholes ≡ with_fillers whole pieces) × (texts ≡ with_fillers text pieces) × (numbers ≡ all_numbers pieces))
taken_both has line pending [] wholes texts numbers made all none w t n =
    let e : pending ≡ all.skipped = all.split ∙ append-nil all.skipped in
    (all.pieces, subst (ArePieces line) (append-nil all.pieces) (all.before [] refl), (w ∙ ap (λ (x : List ℕ). made.wholes.items ++ x) e ∙ all.wholes, t ∙ ap (λ (x : List ℕ). made.texts.items ++ x) e ∙ all.texts, n ∙ all.numbers))
taken_both has line pending (c ∷ cs) wholes texts numbers made all none w t n = absurd (omega arith)

-- ---- wrappers

strip_is : (word bytes rest : List ℕ) → strip word bytes ≡ Some rest → bytes ≡ word ++ rest
strip_is word bytes rest e =
    elim (pointwise nat_eq (take (length word) bytes) word) as (λ b. pointwise nat_eq (take (length word) bytes) word ≡ b → cond b (Some (drop (length word) bytes)) None ≡ Some rest → bytes ≡ word ++ rest) [
      | true ↦ λ same h.
          let is : drop (length word) bytes ≡ rest = cc in
          sym (take-append-drop (length word) bytes) ∙ ap (λ t. t ++ drop (length word) bytes) ((bytes_decides (take (length word) bytes) word).0 same) ∙ ap (λ t. word ++ t) is
      | false ↦ λ same h. absurd cc
    ] refl e

some_is : {A : Type 0} (a b : A) → Some a ≡ Some b → a ≡ b
some_is a b e = cc

-- a part before the rest
abbrev IsBeforeRest : List ℕ → List ℕ → Type 0
IsBeforeRest bytes rest = (p : List ℕ) × (bytes ≡ p ++ rest)

both_before : (a b c : List ℕ) → IsBeforeRest a b → IsBeforeRest b c → IsBeforeRest a c
both_before a b c x y = (x.0 ++ y.0, x.1 ∙ ap (λ t. x.0 ++ t) y.1 ∙ sym (append_assoc x.0 y.0 c))

word_before : (word bytes rest : List ℕ) → after_word word bytes ≡ Some rest → IsBeforeRest bytes rest
word_before word bytes rest e =
    let s = splits is_blank bytes in
    both_before bytes (after is_blank bytes) rest (s.prefix, s.is) (word, strip_is word (after is_blank bytes) rest e)

quoted_is : (bytes from contents rest : List ℕ) → IsBeforeRest bytes from → quoted_before bytes from ≡ Some (contents, rest) → IsBeforeRest bytes rest
quoted_is bytes [] contents rest h e = absurd cc
quoted_is bytes (quote ∷ cs) contents rest h e =
    let same : cs ≡ rest = ap (λ (p : List ℕ × List ℕ). p.1) (some_is (take (length bytes - length (quote ∷ cs)) bytes, cs) (contents, rest) e) in
    (h.0 ++ quote ∷ [], h.1 ∙ ap (λ t. h.0 ++ quote ∷ t) same ∙ sym (append_assoc h.0 (quote ∷ []) rest))

string_end : (bytes contents rest : List ℕ) → last_string bytes ≡ Some (contents, rest) → IsBeforeRest bytes rest
string_end bytes contents rest e = colon (after_word (codes ":") bytes) refl e
  where
    closed : (inside end : List ℕ) (r : Option (List ℕ)) → after_word (codes "}") end ≡ r → option_map {U = List ℕ × List ℕ} (λ t. (inside, t)) r ≡ Some (contents, rest) → IsBeforeRest end rest
    closed inside end None is h = absurd cc
    closed inside end (Some t) is h =
        let same : t ≡ rest = ap (λ (p : List ℕ × List ℕ). p.1) (some_is (inside, t) (contents, rest) h) in
        word_before (codes "}") end rest (is ∙ ap (λ (x : List ℕ). Some x) same)

    string : (inside : List ℕ) (q : Option (List ℕ × List ℕ)) → quoted inside ≡ q → option_and_then before_brace q ≡ Some (contents, rest) → IsBeforeRest inside rest
    string inside None is h = absurd cc
    string inside (Some p) is h =
        let s = splits is_no_quote inside in
        both_before inside p.1 rest (quoted_is inside (after is_no_quote inside) p.0 p.1 (s.prefix, s.is) is) (closed p.0 p.1 (after_word (codes "}") p.1) refl h)

    quote : (after_colon : List ℕ) (q : Option (List ℕ)) → after_word (codes "\"") after_colon ≡ q
        → option_and_then before_brace (option_and_then quoted q) ≡ Some (contents, rest) → IsBeforeRest after_colon rest
    quote after_colon None is h = absurd cc
    quote after_colon (Some inside) is h = both_before after_colon inside rest (word_before (codes "\"") after_colon inside is) (string inside (quoted inside) refl h)

    colon : (q : Option (List ℕ)) → after_word (codes ":") bytes ≡ q
        → option_and_then before_brace (option_and_then quoted (option_and_then (after_word (codes "\"")) q)) ≡ Some (contents, rest) → IsBeforeRest bytes rest
    colon None is h = absurd cc
    colon (Some t) is h = both_before bytes t rest (word_before (codes ":") bytes t is) (quote t (after_word (codes "\"") t) refl h)

-- the object of a wrapper is before what follows it
pub object_of : (bytes contents rest : List ℕ) (type : ValueType) → wrapper_at bytes ≡ Some (type, Some (contents, rest)) → (object : List ℕ) × (2 ≤ length object) × (bytes ≡ object ++ rest)
object_of [] contents rest type e = absurd cc
object_of (c ∷ inside) contents rest type e =
    elim (c == 123) as (λ b. cond b (wrapper_inside inside) None ≡ Some (type, Some (contents, rest)) → (object : List ℕ) × (2 ≤ length object) × (c ∷ inside ≡ object ++ rest)) [
      | true ↦ λ h. opened h
      | false ↦ λ h. absurd cc
    ] e
  where
    ended : (name end : List ℕ) (q : Option (List ℕ × List ℕ)) → 1 ≤ length name → after_word name inside ≡ Some end → last_string end ≡ q → q ≡ Some (contents, rest)
        → (object : List ℕ) × (2 ≤ length object) × (c ∷ inside ≡ object ++ rest)
    ended name end q long named is h =
        let s = splits is_blank inside in
        let t = string_end end contents rest (is ∙ h) in
        let all : inside ≡ s.prefix ++ (name ++ end) = s.is ∙ ap (λ x. s.prefix ++ x) (strip_is name (after is_blank inside) end named) in
        let object : List ℕ = c ∷ (s.prefix ++ (name ++ t.0)) in
        let two : 2 ≤ length object = omega (arith, length-append s.prefix (name ++ t.0), length-append name t.0) in
        (object, two, ap (λ x. c ∷ x) (all ∙ ap (λ x. s.prefix ++ (name ++ x)) t.1 ∙ simp append_assoc))

    -- the object of the wrapper of one name, or what is known of another
    either : (t : ValueType) (name : List ℕ) (other : Option Wrapper) (q : Option (List ℕ)) → 1 ≤ length name → after_word name inside ≡ q
        → (other ≡ Some (type, Some (contents, rest)) → (object : List ℕ) × (2 ≤ length object) × (c ∷ inside ≡ object ++ rest))
        → option_map_or {U = Option Wrapper} (λ end. Some (t, last_string end)) q other ≡ Some (type, Some (contents, rest)) → (object : List ℕ) × (2 ≤ length object) × (c ∷ inside ≡ object ++ rest)
    either t name other None long is more h = more h
    either t name other (Some end) long is more h =
        let same : last_string end ≡ Some (contents, rest) = ap (λ (w : Wrapper). w.1) (some_is (t, last_string end) (type, Some (contents, rest)) h) in
        ended name end (last_string end) long is refl same

    uuid : Option Wrapper
    uuid = named types.Uuid (codes "\"$uuid\"") inside None

    date : Option Wrapper
    date = named types.Date (codes "\"$date\"") inside uuid

    decimal : Option Wrapper
    decimal = named types.Decimal128 (codes "\"$numberDecimal\"") inside date

    opened : wrapper_inside inside ≡ Some (type, Some (contents, rest)) → (object : List ℕ) × (2 ≤ length object) × (c ∷ inside ≡ object ++ rest)
    opened h = either types.Double (codes "\"$numberDouble\"") decimal (after_word (codes "\"$numberDouble\"") inside) (omega arith) refl
        (either types.Decimal128 (codes "\"$numberDecimal\"") date (after_word (codes "\"$numberDecimal\"") inside) (omega arith) refl
        (either types.Date (codes "\"$date\"") uuid (after_word (codes "\"$date\"") inside) (omega arith) refl
        (either types.Uuid (codes "\"$uuid\"") None (after_word (codes "\"$uuid\"") inside) (omega arith) refl (λ e. absurd cc)))) h

-- ---- what contents mean

never_both : (n : WideValue) (f : TextFault) (r : Result WideValue TextFault) → Ok n ≡ r → r ≡ Err f → ⊥
never_both n f r e h = let both : Ok n ≡ Err f = e ∙ h in cc

pub never_begins : (bytes contents rest : List ℕ) (type : ValueType) (f : TextFault) → wrapper_at bytes ≡ Some (type, Some (contents, rest)) → IsMeant type contents (Err f)
    → (n : WideValue) (more : List ℕ) → BeginsValue bytes n more → ⊥
never_begins bytes contents rest type f e k n more h =
    let same : (h.0, Some (h.1, more)) ≡ (type, Some (contents, rest)) = some_is (h.0, Some (h.1, more)) (type, Some (contents, rest)) (sym h.2 ∙ e) in
    let one : h.0 ≡ type = ap (λ (w : Wrapper). w.0) same in
    let string : Some (h.1, more) ≡ Some (contents, rest) = ap (λ (w : Wrapper). w.1) same in
    let two : h.1 ≡ contents = ap (λ (p : List ℕ × List ℕ). p.0) (some_is (h.1, more) (contents, rest) string) in
    let meant : IsMeant type contents (Ok n) = subst (λ (t : ValueType). IsMeant t contents (Ok n)) one (subst (λ (x : List ℕ). IsMeant h.0 x (Ok n)) two h.3) in
    never_both n f (Err f) (meant_once type contents (Ok n) (Err f) meant k) refl
