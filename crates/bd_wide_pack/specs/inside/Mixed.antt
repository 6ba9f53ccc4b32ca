-- What the walk over two documents has found and written: used only in proofs.
use Rattle.std.specs.Prelude.{◌≡◌, ◌≤◌, ℕ, List, [], ◌∷◌, ◌++◌, length, decimal, Bool, true, false}
use Rattle.bd_value.specs.Tree.{Tree, leaf, Fields, no_fields, field, Doc}
use Rattle.bd_bson_view.specs.Spelling.{written_typed}
use Rattle.bd_wide_dump.specs.Values.{values_in}
use Rattle.bd_wide_number.specs.declared.number.Number.{Number}
use Rattle.bd_wide_pack.specs.Filled.{IsFilled, numeric}
use Rattle.bd_wide_pack.specs.Written.{AreFieldsWritten, AreItemsWritten, IsWritten}

-- Elements of two documents, or of two arrays, whose names may differ: the elements with the numbers.
abbrev pub AreAlike : Bool → Fields → Doc → Doc → List Number → List Number → Type 0
AreAlike named no_fields wholes texts before after = (wholes ≡ []) × (texts ≡ []) × (before ≡ after)
AreAlike named (field n x fs) wholes texts before after = (w : Tree) × (t : Tree) × (other : List ℕ) × (ws : Doc) × (ts : Doc)
    × (between : List Number) × (wholes ≡ (n, w) ∷ ws) × (texts ≡ (other, t) ∷ ts) × (named ≡ true → n ≡ other)
    × IsFilled x w t before between × AreAlike named fs ws ts between after

-- The bytes are written for the elements, of a document or, from this index on, of an array.
abbrev pub AreWritten : Bool → ℕ → Fields → List ℕ → Type 0
AreWritten true index fs bytes = AreFieldsWritten fs bytes
AreWritten false index fs bytes = AreItemsWritten index (values_in fs) bytes

-- An element is written under its name, or in an array under its index.
abbrev pub HasName : Bool → ℕ → List ℕ → List ℕ → Type 0
HasName true index name under = under ≡ name
HasName false index name under = under ≡ decimal index

-- The elements with the numbers are these bytes; of an array the first has this index.
pub record AreMixed (named : Bool) (index : ℕ) (wholes texts : Doc) (before after : List Number) (bytes : List ℕ) : Type 0 where
  pub fields : Fields
  pub alike : AreAlike named fields wholes texts before after
  pub written : AreWritten named index fields bytes

-- No elements are alike to those of both.
abbrev pub AreUnlike : Bool → Doc → Doc → List Number → Type 0
AreUnlike named wholes texts before = (fs : Fields) (after : List Number) → AreAlike named fs wholes texts before after → ⊥

-- The value with the numbers was appended under this name.
pub record IsMixed (name : List ℕ) (whole text : Tree) (before after : List Number) (old new : List ℕ) : Type 0 where
  pub tree : Tree
  pub value : List ℕ
  pub filled : IsFilled tree whole text before after
  pub is : IsWritten tree value
  pub written : new ≡ old ++ written_typed tree name value

-- An element of this name that is a number was appended.
abbrev pub IsPut : Number → List ℕ → List ℕ → List ℕ → Type 0
IsPut number name old new = (value : List ℕ) × IsWritten (leaf (numeric number)) value
    × (new ≡ old ++ written_typed (leaf (numeric number)) name value)

-- No value is both but for numbers.
abbrev pub IsUnlike : Tree → Tree → List Number → Type 0
IsUnlike whole text before = (x : Tree) (after : List Number) → IsFilled x whole text before after → ⊥

-- What follows the first elements of both lists, when these were appended: `count` of each.
pub record Goes (named : Bool) (wholes texts : Doc) (before : List Number) (count : ℕ) (wholes_rest texts_rest : Doc)
    (between : List Number) (old new : List ℕ) : Type 0 where
  pub bytes : List ℕ
  pub written : new ≡ old ++ bytes
  pub few : count ≤ length bytes
  pub on : (after : List Number) (more : List ℕ) → AreMixed named count wholes_rest texts_rest between after more
      → AreMixed named 0 wholes texts before after (bytes ++ more)
  pub back : (fs : Fields) (after : List Number) → AreAlike named fs wholes texts before after
      → (gs : Fields) × AreAlike named gs wholes_rest texts_rest between after
