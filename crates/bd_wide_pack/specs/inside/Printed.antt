-- The text of a document of all types, whatever the texts of its numbers and dates are: used only in proofs.
use Rattle.std.specs.Prelude.{◌≡◌, ◌⊎◌, ℕ, zero, suc, ℤ, List, [], ◌∷◌, false, codes, if◌then◌else◌, FitsSigned, IsUtf8}
use Rattle.std.specs.Fmt.{signed_decimal}
use Rattle.std.specs.Int.{w64}
use Rattle.bd_value.specs.Fits.{ScalarFits, has_zero, zero_in_scalar}
use Rattle.bd_value.specs.Tree.{Scalar, int32, int64, date, Tree, leaf, doc, array, code_scope, Items, no_items, item, Fields, no_fields, field}
use Rattle.bd_extjson.specs.Laws.{IsPlainFirst}
use Rattle.bd_extjson_text.specs.Text.{listed, member, object, quoted, scalar_text}
use Rattle.bd_extjson_wrapper.specs.WholeNumber.{fits_bits}
use Rattle.bd_wide_number.specs.declared.number.Number.{Number}
use Rattle.bd_wide_substitute.specs.declared.wrapped.WideValue.{WideValue}
use Rattle.bd_wide_substitute.specs.declared.wrapped.WideValue.TheVariants as values
use Rattle.bd_wide_substitute.specs.Substitutes.{IsBefore, after, is_of_number, value}
use Rattle.bd_wide_pack.specs.Filled.{kept, numeric}

-- A scalar of the nineteen kinds: its text is the canonical one.
pub record IsKindPrinted (s : Scalar) (text : List ℕ) : Type 0 where
  pub scalar : Scalar
  pub is : s ≡ kept scalar
  pub fits : ScalarFits IsUtf8 scalar
  pub no_zero : zero_in_scalar scalar ≡ false
  pub written : text ≡ scalar_text scalar

-- No byte of a number comes next.
abbrev pub IsEnd : List ℕ → Type 0
IsEnd rest = after is_of_number rest ≡ rest

-- Whatever comes after the text, it is a piece with this value.
abbrev pub IsTextOfValue : List ℕ → WideValue → Type 0
IsTextOfValue text v = (rest : List ℕ) → IsEnd rest → IsBefore (value text v) rest

-- The same of a number.
abbrev pub IsTextOfNumber : List ℕ → Number → Type 0
IsTextOfNumber text number = IsTextOfValue text (values.Number number)

-- A number: its text is read as it.
pub record IsNumberPrinted (s : Scalar) (text : List ℕ) : Type 0 where
  pub number : Number
  pub is : s ≡ numeric number
  pub begins : IsTextOfNumber text number

-- a whole number as it is read without a wrapper: an int32 if it fits
abbrev pub bare : ℤ → Scalar
bare z = if fits_bits 31 z then int32 z else int64 z

-- A whole number: its text has no wrapper.
pub record IsWholePrinted (s : Scalar) (text : List ℕ) : Type 0 where
  pub number : ℤ
  pub is : s ≡ kept (bare number)
  pub fits : FitsSigned w64 number
  pub written : text ≡ signed_decimal number

-- A date: its text is read as it.
pub record IsDatePrinted (s : Scalar) (text : List ℕ) : Type 0 where
  pub time : ℤ
  pub is : s ≡ date time
  pub fits : FitsSigned w64 time
  pub begins : IsTextOfValue text (values.Date time)

-- The text of a scalar.
abbrev pub IsScalarPrinted : Scalar → List ℕ → Type 0
IsScalarPrinted s text = IsKindPrinted s text ⊎ (IsNumberPrinted s text ⊎ (IsWholePrinted s text ⊎ IsDatePrinted s text))

-- The text of a value of at most `depth_left` levels.
abbrev mutual
  pub IsPrinted : ℕ → Tree → List ℕ → Type 0
  IsPrinted depth_left (leaf s) text = IsScalarPrinted s text
  IsPrinted zero t text = ⊥
  IsPrinted (suc depth_left) (doc fs) text = IsPlainFirst fs × (members : List (List ℕ)) × AreFieldsPrinted depth_left fs members
      × (text ≡ object members)
  IsPrinted (suc depth_left) (array ts) text = (values : List (List ℕ)) × AreItemsPrinted depth_left ts values × (text ≡ listed values)
  IsPrinted (suc zero) (code_scope s fs) text = ⊥
  IsPrinted (suc (suc depth_left)) (code_scope s fs) text = IsUtf8 s × IsPlainFirst fs × (members : List (List ℕ))
      × AreFieldsPrinted depth_left fs members
      × (text ≡ object (member (codes "$code") (quoted s) ∷ member (codes "$scope") (object members) ∷ []))

  -- the members of the fields of a document
  pub AreFieldsPrinted : ℕ → Fields → List (List ℕ) → Type 0
  AreFieldsPrinted depth_left no_fields members = members ≡ []
  AreFieldsPrinted depth_left (field name t fs) members = (text : List ℕ) × (others : List (List ℕ)) × IsUtf8 name
      × (has_zero name ≡ false) × IsPrinted depth_left t text × AreFieldsPrinted depth_left fs others
      × (members ≡ member name text ∷ others)

  -- the texts of the elements of an array
  pub AreItemsPrinted : ℕ → Items → List (List ℕ) → Type 0
  AreItemsPrinted depth_left no_items values = values ≡ []
  AreItemsPrinted depth_left (item t ts) values = (text : List ℕ) × (others : List (List ℕ)) × IsPrinted depth_left t text
      × AreItemsPrinted depth_left ts others × (values ≡ text ∷ others)
