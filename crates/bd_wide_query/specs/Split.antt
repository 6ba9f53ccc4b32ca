-- Where the `$type`s of a query split the four types of numbers, and into which classes.
use Rattle.std.specs.Prelude.{ℕ, ◌+◌, Bool, not, ◌&&◌, List, [], ◌∷◌, Option, Some, None, option_map, codes, decimal, map, string_bytes, if◌then◌else◌}
use Rattle.std.specs.{Bool.beq, Option.option_and_then, Option.option_or, Str.bytes_eq}
use Rattle.bd_value.specs.Tree.{Tree, leaf, doc, array, code_scope, Items, no_items, item, Fields, no_fields, field}
use Rattle.bd_wide_copy.specs.Classes.{no_longs}
use Rattle.bd_wide_copy.specs.declared.longs.Longs.{Longs}
use Rattle.bd_wide_query.specs.Types.{has_longs, names_type}
use Rattle.bd_wide_query.specs.declared.split.Split.{Split as SplitInMemory}
use Rattle.bd_wide_query.specs.declared.types.NumberType.TheVariants as types

-- a `$type` that splits the types of numbers: the path of names and array positions from the top of the query to it, and the two
-- classes
pub record Split : Type 0 where
  pub path : List (List ℕ)
  pub classes : Longs

-- the classes of an operand of `$type`, which names all types of a class or none: those that it names unlike int32 are long
abbrev pub operand_classes : Tree → Longs
operand_classes t = record {
  double = not (beq (names_type types.Double t) (names_type types.Int t));
  int64 = not (beq (names_type types.Long t) (names_type types.Int t));
  decimal128 = not (beq (names_type types.Decimal t) (names_type types.Int t));
}

-- whether these classes are those
abbrev pub are_classes : Longs → Longs → Bool
are_classes these those = (beq these.double those.double && beq these.int64 those.int64) && beq these.decimal128 those.decimal128

-- whether an operand splits the types of numbers, and otherwise than into these classes
abbrev pub splits_beyond : Longs → Tree → Bool
splits_beyond classes t = has_longs (operand_classes t) && not (are_classes (operand_classes t) classes)

-- the value of a name, if that is such a `$type`
abbrev pub split_of : Longs → List ℕ → Tree → Option Split
split_of classes name t = if bytes_eq name (codes "$type") && splits_beyond classes t
    then Some (record { path = []; classes = operand_classes t }) else None

-- the same with a name put before its path
abbrev pub below : List ℕ → Split → Split
below name s = record { path = name ∷ s.path; classes = s.classes }

-- the first such `$type`, in the order of the text
abbrev mutual
  -- in a value, at any level
  pub split_in : Longs → Tree → Option Split
  split_in classes (leaf s) = None
  split_in classes (doc fs) = first_split classes fs
  split_in classes (array ts) = split_in_items classes 0 ts
  split_in classes (code_scope s fs) = option_map (below (codes "$scope")) (first_split classes fs)

  -- in the fields of a query: the first `$type` that splits the types of numbers otherwise than into these classes
  pub first_split : Longs → Fields → Option Split
  first_split classes no_fields = None
  first_split classes (field n t fs) =
      option_or (option_map (below n) (option_or (split_of classes n t) (split_in classes t))) (first_split classes fs)

  -- in the elements of an array, from this position on
  pub split_in_items : Longs → ℕ → Items → Option Split
  split_in_items classes i no_items = None
  split_in_items classes i (item t ts) = option_or (option_map (below (decimal i)) (split_in classes t)) (split_in_items classes (i + 1) ts)

-- the first `$type` that needs a third class: it splits the types of numbers otherwise than the first one that splits them
abbrev pub third_class : Fields → Option Split
third_class fs = option_and_then (λ first. first_split first.classes fs) (first_split no_longs fs)

-- the `$type` that a `Split` in memory represents
abbrev pub split_view : SplitInMemory → Split
split_view s = record { path = map string_bytes s.path.items; classes = s.classes }
