-- Texts of values on many lines.
use Rattle.std.specs.Prelude.{◌≡◌, ◌+◌, ℕ, List, [], ◌∷◌, ◌++◌, length, Bool, true, false, codes}
use Rattle.bd_value.specs.declared.node.Kind.{Kind}
use Rattle.bd_value.specs.declared.node.Kind.TheVariants as kinds
use Rattle.bd_value.specs.Tree.{Scalar, Tree}
use Rattle.bd_value.specs.View.{scalar_kind}
use Rattle.bd_bson_view.specs.Spelling.{IsScalar}
use Rattle.bd_extjson_text.specs.Text.{member, object, quoted, wrapper_text}
use Rattle.bd_wide_dump.specs.declared.format.JsonFormat.{JsonFormat}
use Rattle.bd_wide_dump.specs.declared.format.JsonFormat.TheVariants.{Canonical}
use Rattle.bd_wide_dump.specs.declared.pretty.Position.TheVariants.{Outside}
use Rattle.bd_wide_dump.specs.{Pretty.laid_out, Pretty.line_end, WideText.IsTextOf}

-- A text with this property is laid out so where that many brackets are open.
abbrev pub IsLaid : ℕ → (List ℕ → Type 0) → List ℕ → Type 0
IsLaid n Is laid = (text : List ℕ) × Is text × (laid ≡ laid_out Outside n 0 text)

-- The text of the value is laid out so where that many brackets are open.
abbrev pub IsLaidText : JsonFormat → ℕ → Tree → List ℕ → Type 0
IsLaidText format n tree = IsLaid n (IsTextOf format tree)

-- The text is a string in a wrapper, and `lead` is all before the contents of the string on many lines, but for the brace.
abbrev pub IsWrapped : List ℕ → List ℕ → Type 0
IsWrapped lead text = (name : List ℕ) × (contents : List ℕ) × (text ≡ wrapper_text name (quoted contents)) × (lead ≡ quoted name ++ codes ": \"")

-- The text is that of binary data with such contents of its two strings, base64 and the digits of the subtype.
abbrev pub IsBinaryText : List ℕ → List ℕ → List ℕ → Type 0
IsBinaryText contents digits text =
    (length (quoted digits) ≡ 4) × (text ≡ wrapper_text (codes "$binary") (object (member (codes "base64") (quoted contents) ∷ member (codes "subType") (quoted digits) ∷ [])))

-- on many lines, what is before the first of these strings
abbrev pub before_contents : ℕ → List ℕ
before_contents n = codes "{" ++ (line_end (n + 1) ++ (codes "\"$binary\": {" ++ (line_end (n + 1 + 1) ++ codes "\"base64\": ")))

-- and what is after it; the second string is given
abbrev pub after_contents : ℕ → List ℕ → List ℕ
after_contents n digits = codes "," ++ (line_end (n + 1 + 1) ++ (codes "\"subType\": " ++ (digits ++ (line_end (n + 1) ++ (codes "}" ++ (line_end n ++ codes "}"))))))

-- The bytes begin with that date; other bytes may follow.
pub record IsDateAt (s : Scalar) (bytes : List ℕ) : Type 0 where
  pub content : List ℕ
  pub after : List ℕ
  pub kinded : scalar_kind s ≡ kinds.Date
  pub spells : IsScalar s content
  pub splits : bytes ≡ content ++ after

-- whether the texts of a kind of value are printed at once in a format
abbrev pub is_direct : JsonFormat → Kind → Bool
is_direct format kinds.Text = true
is_direct format kinds.Null = true
is_direct format kinds.Bool = true
is_direct format kinds.Int32 = true
is_direct format kinds.Int64 = true
is_direct format kinds.ObjectId = true
is_direct format kinds.Binary = true
is_direct Canonical kinds.Date = true
is_direct _ _ = false
