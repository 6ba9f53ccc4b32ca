-- The texts that differ between the formats: numbers and dates.
use Rattle.std.proofs.Common.{◌≡◌, ℕ, ℤ, zero, suc, ◌+◌, ◌/◌, ◌%◌, ◌^◌, Bool, true, false, not, cond, List, Result, Ok, Err, refl, sym, ap, subst, ◌∙◌}
use Rattle.std.specs.Prelude.{IfOk, Some, ◌==◌, unsigned_abs}
use Rattle.std.specs.Float.{binary64, float_is_finite}
use lib.Ieee.{Float, nan, inf, of_bits, of_fields, odd}
use Rattle.bd_value.specs.{View.scalar_kind}
use Rattle.bd_value.specs.declared.node.Kind.TheVariants as kinds
use Rattle.bd_value.specs.Tree as trees
use Rattle.bd_value.specs.Tree.{Scalar, Tree, leaf, leaf_of, scalar_leaf}
use Rattle.bd_extjson_text.specs.Text.{scalar_text, text}
use Rattle.bd_extjson_text.specs.Buffer.{Appends}
use Rattle.bd_wide_dump.specs.declared.format.JsonFormat.TheVariants.{Relaxed}
use Rattle.jiff_core.proofs.DateLemmas.{epoch_day_injective}
use Rattle.jiff_core.specs.declared.civil.date.Date.{Date}
use Rattle.bd_wide_dump.specs.RelaxedDate.{IsDateText, IsDateTextBy, IsDatedText, dated_text, day_length, is_dated}
use Rattle.bd_wide_dump.specs.WideText.{IsKindText}
use Rattle.bd_wide_dump.specs.inside.Begins.{AppendsBy}

-- ---- which doubles are finite

odd_finite : (d : ℕ) (s : Bool) (q k l : ℕ) → float_is_finite (odd d s q k l) ≡ true
unfolding odd float_is_finite
odd_finite d s zero k l = refl
odd_finite d s (suc q) k l = refl

fields_finite : (a b : Bool) (s : Bool) (v : Float) → float_is_finite v ≡ true → float_is_finite (cond a (cond b (inf s) nan) v) ≡ not a
unfolding float_is_finite
fields_finite true true s v h = refl
fields_finite true false s v h = refl
fields_finite false b s v h = h

by_exponent : (s : Bool) (x t : ℕ) → float_is_finite (of_fields binary64 s x t) ≡ not (x == 2047)
unfolding of_fields
by_exponent s zero t = odd_finite 53 s t 0 1074
by_exponent s (suc x) t = fields_finite (suc x == 2047) (t == 0) s _ (odd_finite 53 s (2 ^ 52 + t) x 1074)

pub finite_bits : (bits : ℕ) → not (bits % 9223372036854775808 / 4503599627370496 == 2047) ≡ float_is_finite (of_bits binary64 bits)
unfolding of_bits
finite_bits bits = sym (by_exponent _ (bits % 9223372036854775808 / 4503599627370496) (bits % 4503599627370496))

-- ---- what is written of a value is its text in a format

module _ {E : Type 0} (old : List ℕ) (end : ℕ) (new : List ℕ) where
  -- a property of what was written follows from another
  pub weaker : (P Q : List ℕ → Type 0) (r : Result ℕ E) → ((text : List ℕ) → P text → Q text) → IfOk r (λ e. AppendsBy P old end e new) → IfOk r (λ e. AppendsBy Q old end e new)
  weaker P Q (Ok e) more a = record { text = a.text; is = more a.text a.is; written = a.written; inside = a.inside }
  weaker P Q (Err e) more a = tt

  -- a text that is known
  pub known : (P : List ℕ → Type 0) (x : List ℕ) (r : Result ℕ E) → P x → Appends old end r new x → IfOk r (λ e. AppendsBy P old end e new)
  known P x (Ok e) is put = record { text = x; is = is; written = put.0; inside = put.1 }
  known P x (Err e) is put = tt

-- ---- the scalars of the nineteen kinds

-- the text of a scalar that is neither a whole number nor a date
pub other_text : (s : Scalar) → (scalar_kind s ≡ kinds.Int32 → ⊥) → (scalar_kind s ≡ kinds.Int64 → ⊥) → (scalar_kind s ≡ kinds.Date → ⊥) → IsKindText Relaxed s (scalar_text s)
other_text (trees.int32 z) a b c = absurd (a refl)
other_text (trees.int64 z) a b c = absurd (b refl)
other_text (trees.date z) a b c = absurd (c refl)
other_text trees.min_key a b c = refl
other_text trees.undefined a b c = refl
other_text trees.null a b c = refl
other_text (trees.text s) a b c = refl
other_text (trees.symbol s) a b c = refl
other_text (trees.binary k s) a b c = refl
other_text (trees.object_id s) a b c = refl
other_text (trees.boolean x) a b c = refl
other_text (trees.timestamp s i) a b c = refl
other_text (trees.regex p o) a b c = refl
other_text (trees.db_pointer s i) a b c = refl
other_text (trees.code s) a b c = refl
other_text trees.max_key a b c = refl

-- the scalar that is read of a value is the value
pub scalar_is : (z s : Scalar) (tree : Tree) → Some (scalar_leaf z) ≡ leaf_of tree → tree ≡ leaf s → z ≡ s
scalar_is z s tree read is = let e : Some (scalar_leaf z) ≡ Some (scalar_leaf s) = read ∙ ap leaf_of is in cc

-- ---- dates

-- the text of a date of the years 1970 to 9999
pub dated : (z : ℤ) (ms : ℕ) (s : Scalar) (text : List ℕ) → trees.date z ≡ s → ms ≡ unsigned_abs z → is_dated z ≡ true → IsDatedText ms text → IsKindText Relaxed s text
dated z ms s text is same in_range h =
    let P : ℕ → Type 0 = λ n. IsDatedText n text in
    let Q : Bool → Type 0 = λ b. IsDateTextBy b z text in
    subst (λ (x : Scalar). IsKindText Relaxed x text) is (subst Q (sym in_range) (subst P same h))

-- ---- a date has one text

same_day : (a b : Date) (ms : ℕ) → a.year ≡ b.year → a.month ≡ b.month → a.day ≡ b.day → dated_text a ms ≡ dated_text b ms
same_day a b ms year month day = rw (year, month, day) refl

one_text : (is : Bool) (z : ℤ) (x y : List ℕ) → IsDateTextBy is z x → IsDateTextBy is z y → x ≡ y
one_text false z x y p q = p ∙ sym q
one_text true z x y p q =
    let e = epoch_day_injective p.0 q.0 (p.1 ∙ sym q.1) in
    p.2 ∙ same_day p.0 q.0 (unsigned_abs z % day_length) e.0 e.1 e.2 ∙ sym q.2

-- a date has one text in relaxed form
pub one_date : (z : ℤ) (x y : List ℕ) → IsDateText z x → IsDateText z y → x ≡ y
one_date z x y p q = one_text (is_dated z) z x y p q
