-- The tree that a BSON value means (BSON 1.1, `document`, `e_list` and `element`),
-- in memory or in bytes.
-- A text and a name are their UTF-8 bytes, a number is a whole number.
use Rattle.std.specs.Prelude.{◌≡◌, ℕ, suc, ◌+◌, ℤ, Bool, List, [], ◌∷◌, refl, Option, Some, None, length, map}
use Rattle.std.specs.Prelude.{if◌then◌else◌, max}
use Rattle.std.proofs.Common.{ap}
use Rattle.std.specs.Str.{bytes_eq}

-- A scalar, with no other value inside: a case for each such element type of BSON 1.1.
-- Binary has its subtype first, a timestamp its seconds, a regular expression its pattern.
pub data Scalar : Type 0 where
  min_key : Scalar
  undefined : Scalar
  null : Scalar
  int32 : ℤ → Scalar
  int64 : ℤ → Scalar
  text : List ℕ → Scalar
  symbol : List ℕ → Scalar
  binary : ℕ → List ℕ → Scalar
  object_id : List ℕ → Scalar
  boolean : Bool → Scalar
  date : ℤ → Scalar
  timestamp : ℕ → ℕ → Scalar
  regex : List ℕ → List ℕ → Scalar
  db_pointer : List ℕ → List ℕ → Scalar
  code : List ℕ → Scalar
  max_key : Scalar

-- A list of trees inside a tree has to be a type of its own: `Items` and `Fields` are the lists below.
mutual
  -- a value: a scalar, a document, an array, or code with scope,
  -- which has its code and the fields of its scope
  pub data Tree : Type 0 where
    leaf : Scalar → Tree
    doc : Fields → Tree
    array : Items → Tree
    code_scope : List ℕ → Fields → Tree

  -- the elements of an array, in order
  pub data Items : Type 0 where
    no_items : Items
    item : Tree → Items → Items

  -- the fields of a document, in stored order: a name, its value, and the others
  pub data Fields : Type 0 where
    no_fields : Fields
    field : List ℕ → Tree → Fields → Fields

-- a field of a document: its name, in UTF-8 bytes, and its value
abbrev pub Pair : Type 0
Pair = List ℕ × Tree

-- a document: its fields in stored order; a name may occur more than once
abbrev pub Doc : Type 0
Doc = List Pair

-- the fields of a document in the form that a tree contains, in the same order
abbrev pub fields_of : Doc → Fields
fields_of [] = no_fields
fields_of (p ∷ ps) = field p.0 p.1 (fields_of ps)

-- a list of values in the form that a tree contains for an array, in the same order
abbrev pub items_of : List Tree → Items
items_of [] = no_items
items_of (t ∷ ts) = item t (items_of ts)

-- the fields that a tree contains, as a list, in the same order
abbrev pub pairs_of : Fields → Doc
pairs_of no_fields = []
pairs_of (field n t fs) = (n, t) ∷ pairs_of fs

-- the elements that a tree contains for an array, as a list, in the same order
abbrev pub list_of : Items → List Tree
list_of no_items = []
list_of (item t ts) = t ∷ list_of ts

-- a document put into a tree and taken out again is unchanged
pub pairs_of-fields_of : (d : Doc) → pairs_of (fields_of d) ≡ d
pairs_of-fields_of [] = refl
pairs_of-fields_of (p ∷ ps) = ap (λ (x : Doc). p ∷ x) (pairs_of-fields_of ps)

-- fields taken out of a tree and put back are unchanged
pub fields_of-pairs_of : (fs : Fields) → fields_of (pairs_of fs) ≡ fs
fields_of-pairs_of no_fields = refl
fields_of-pairs_of (field n t fs) = ap (field n t) (fields_of-pairs_of fs)

-- elements taken out of a tree and put back are unchanged
pub items_of-list_of : (ts : Items) → items_of (list_of ts) ≡ ts
items_of-list_of no_items = refl
items_of-list_of (item t ts) = ap (item t) (items_of-list_of ts)

-- the fields of a document, in stored order; any other value has none
abbrev pub pairs_in : Tree → Doc
pairs_in (doc fs) = pairs_of fs
pairs_in _ = []

-- the elements of an array, in order; any other value has none
abbrev pub elements_in : Tree → List Tree
elements_in (array ts) = list_of ts
elements_in _ = []

-- the number of fields of a document, or of elements of an array; 0 for any other value
abbrev pub length_of : Tree → ℕ
length_of (doc fs) = length (pairs_of fs)
length_of (array ts) = length (list_of ts)
length_of _ = 0

-- the scope of code with scope, as a document; None for any other value
abbrev pub scope_of : Tree → Option Tree
scope_of (code_scope s fs) = Some (doc fs)
scope_of _ = None

-- the content of a value besides other values: a scalar, or the code of code with scope
pub data Leaf : Type 0 where
  scalar_leaf : Scalar → Leaf
  code_leaf : List ℕ → Leaf

-- the scalar that a value is, or the code of code with scope; None for a document and an array
abbrev pub leaf_of : Tree → Option Leaf
leaf_of (leaf s) = Some (scalar_leaf s)
leaf_of (code_scope s fs) = Some (code_leaf s)
leaf_of _ = None

-- the values of fields, without their names
abbrev pub values_of : Doc → List Tree
values_of ps = map (λ p. p.1) ps

-- These are the fields of a document, or the elements of an array under any names. No other value has parts.
abbrev pub AreParts : Tree → Doc → Type 0
AreParts (doc fs) ps = ps ≡ pairs_of fs
AreParts (array ts) ps = values_of ps ≡ list_of ts
AreParts _ ps = ⊥

-- The value is a document or an array.
abbrev pub HasParts : Tree → Type 0
HasParts (leaf s) = ⊥
HasParts (code_scope s fs) = ⊥
HasParts _ = Unit {0}

-- The value is a scalar or code with scope, so neither a document nor an array.
abbrev pub HasNoParts : Tree → Type 0
HasNoParts (doc fs) = ⊥
HasNoParts (array ts) = ⊥
HasNoParts _ = Unit {0}

-- the value of the first field of that name; None if there is none
abbrev pub first_of : List ℕ → Doc → Option Tree
first_of name [] = None
first_of name (p ∷ ps) = if bytes_eq p.0 name then Some p.1 else first_of name ps

-- How deep documents and arrays nest: each is one deeper than the deepest value in it, and code with scope is
-- one deeper than its scope.
abbrev mutual
  -- how deep documents and arrays nest in a value: 0 for a scalar, 1 for `{}` and `[]`;
  -- the scope of code counts as a document inside it
  pub depth : Tree → ℕ
  depth (leaf s) = 0
  depth (doc fs) = suc (fields_depth fs)
  depth (array ts) = suc (items_depth ts)
  depth (code_scope s fs) = suc (suc (fields_depth fs))

  -- the depth of the deepest value among the fields; 0 without any
  pub fields_depth : Fields → ℕ
  fields_depth no_fields = 0
  fields_depth (field n t fs) = max (depth t) (fields_depth fs)

  -- the depth of the deepest element; 0 without any
  pub items_depth : Items → ℕ
  items_depth no_items = 0
  items_depth (item t ts) = max (depth t) (items_depth ts)

-- how many values are in it
abbrev mutual
  -- how many values are inside a value, at all levels; the scope of code counts as one
  pub tree_size : Tree → ℕ
  tree_size (leaf s) = 0
  tree_size (doc fs) = suc (fields_size fs)
  tree_size (array ts) = suc (items_size ts)
  tree_size (code_scope s fs) = suc (suc (fields_size fs))

  -- how many values the elements are, with those inside them
  pub items_size : Items → ℕ
  items_size no_items = 0
  items_size (item t ts) = suc (tree_size t) + items_size ts

  -- how many values the fields have, with those inside them
  pub fields_size : Fields → ℕ
  fields_size no_fields = 0
  fields_size (field n t fs) = suc (tree_size t) + fields_size fs
