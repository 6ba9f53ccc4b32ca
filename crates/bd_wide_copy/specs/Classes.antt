-- Documents by value in which two classes of numbers differ by their types: those of one are int64, those of the other, with
-- int32, are int32.
use Rattle.std.specs.Prelude.{◌≡◌, ℕ, ℤ, Bool, true, false, List, if◌then◌else◌}
use Rattle.bd_value.specs.declared.node.Kind.TheVariants as kinds
use Rattle.bd_value.specs.Tree.{Scalar, int32, int64, Tree, leaf}
use Rattle.bd_bson_view.specs.declared.raw_parts.ElementType.{ElementType}
use Rattle.bd_bson_view.specs.declared.raw_parts.ElementType.TheVariants.{Kept, Double, Decimal128}
use Rattle.bd_bson_view.specs.Spelling.{Grammar, IsNumber, IsScalar, number_type, written_typed}
use Rattle.bd_wide_copy.specs.declared.longs.Longs.{Longs}

-- whether a number of this type is an int64
abbrev pub is_long : Longs → ElementType → Bool
is_long longs Double = longs.double
is_long longs Decimal128 = longs.decimal128
is_long longs (Kept kinds.Int64) = longs.int64
is_long longs type = false

-- no types: every number is an int32
abbrev pub no_longs : Longs
no_longs = record { double = false; int64 = false; decimal128 = false }

-- a number of this type, as an int64 or as an int32
abbrev pub in_class : Longs → ElementType → ℤ → Scalar
in_class longs type z = if is_long longs type then int64 z else int32 z

-- the scalars of all types: each number is a whole number, its worth, in the class of its type; others as ever
abbrev pub IsClassedScalar : Longs → (ElementType → List ℕ → ℤ) → Scalar → List ℕ → Type 0
IsClassedScalar longs worth (int32 z) bytes = (n : IsNumber worth z bytes) × (is_long longs (number_type n.kind) ≡ false)
IsClassedScalar longs worth (int64 z) bytes = (n : IsNumber worth z bytes) × (is_long longs (number_type n.kind) ≡ true)
IsClassedScalar longs worth s bytes = IsScalar s bytes

-- the bytes of an element: the type byte of a number is its own, whatever its class
abbrev pub written_classed : Tree → List ℕ → List ℕ → List ℕ
written_classed (leaf (int32 z)) name bytes = written_typed (leaf (int64 z)) name bytes
written_classed t name bytes = written_typed t name bytes

-- BSON 1.1, all 21 types: int32, int64, double and decimal128 by their worth and class
abbrev pub classed : Longs → (ElementType → List ℕ → ℤ) → Grammar
classed longs worth = record { Spells = IsClassedScalar longs worth; written = written_classed }
