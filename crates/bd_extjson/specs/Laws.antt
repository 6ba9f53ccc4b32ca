-- Documents that their canonical text determines.
-- An Int32 is printed as a document whose first name is $numberInt,
-- so a document that has that name first can look like one.
use Rattle.std.specs.Prelude.{◌≡◌, None}
use Rattle.bd_value.specs.Tree.{Tree, leaf, doc, array, code_scope, Items, no_items, item, Fields, no_fields, field}
use Rattle.bd_extjson_wrapper.specs.Wrapper.{wrapper_of}

-- The first name of a document is not a wrapper name such as `$oid`; an empty document is plain.
abbrev pub IsPlainFirst : Fields → Type 0
IsPlainFirst no_fields = Unit {0}
IsPlainFirst (field n t fs) = wrapper_of n ≡ None

-- No document in the tree, itself and the scope of code included, has the name of a wrapper first.
abbrev mutual
  -- The canonical text of the value is the text of no other value:
  -- no document in it has the name of a wrapper first.
  pub IsPlain : Tree → Type 0
  IsPlain (leaf s) = Unit {0}
  IsPlain (doc fs) = IsPlainFirst fs × ArePlainFields fs
  IsPlain (array ts) = ArePlainItems ts
  IsPlain (code_scope s fs) = IsPlainFirst fs × ArePlainFields fs

  -- Each element of an array is plain.
  pub ArePlainItems : Items → Type 0
  ArePlainItems no_items = Unit {0}
  ArePlainItems (item t ts) = IsPlain t × ArePlainItems ts

  -- Each value of a document is plain; only its first name matters, by `IsPlainFirst`.
  pub ArePlainFields : Fields → Type 0
  ArePlainFields no_fields = Unit {0}
  ArePlainFields (field n t fs) = IsPlain t × ArePlainFields fs
