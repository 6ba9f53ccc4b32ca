-- What a path reaches (MongoDB manual, "Query on Embedded/Nested Documents" and "Query an Array").
use Rattle.std.specs.Prelude.{ℕ, zero, suc, List, [], ◌∷◌, ◌++◌, Bool, true, false, ◌==◌, min, if◌then◌else◌, Option}
use Rattle.std.specs.Prelude.{Some, None, option_map}
use Rattle.std.specs.{Char.is_ascii_digit, Str.all_ascii_digits, Str.bytes_eq, Str.Parse.digits_value}
use Rattle.bd_value.specs.Tree.{elements_in, Tree, leaf, doc, array, code_scope, Items, no_items, item, items_of}
use Rattle.bd_value.specs.Tree.{Fields, no_fields, field}

-- a path: a name for each of its components
abbrev pub Names : Type 0
Names = List (List ℕ)

-- whether a name can be an array index: `0`, or digits of which the first is not 0
abbrev pub is_index : List ℕ → Bool
is_index [] = false
is_index (c ∷ []) = is_ascii_digit c
is_index (c ∷ d ∷ cs) = if c == 48 then false else all_ascii_digits (c ∷ d ∷ cs)

-- the array index in a name, such as 0 in `a.0`; None if the name is not such a number.
-- It may be beyond the end of every array.
abbrev pub index_of : List ℕ → Option ℕ
index_of name = if is_index name then Some (digits_value 10 name) else None

-- the array index in a name, as the code represents it: an index above 2^64 - 1 counts as that number
abbrev pub bounded_index : List ℕ → Option ℕ
bounded_index name = option_map (λ i. min i 18446744073709551615) (index_of name)

-- whether a value is a document; an array is not
abbrev pub is_document : Tree → Bool
is_document (doc fs) = true
is_document _ = false

-- What is collected down a path: from a value at its end, from a missing field,
-- and of what the elements of an array gave.
pub record Collecting (A : Type 0) : Type 0 where
  pub at_end : Tree → List A
  pub missing : List A
  pub of_array : List A → List A

abbrev mutual
  -- what is collected from a value down a path: a name leads from a document to its first field of that name,
  -- from an array into each document in it, and if it is an index, to that element too
  pub collecting : {A : Type 0} → Collecting A → Tree → Names → List A
  collecting g t [] = g.at_end t
  collecting g (leaf s) (name ∷ rest) = g.missing
  collecting g (doc fs) (name ∷ rest) = first_collecting g fs name rest
  collecting g (array ts) (name ∷ rest) =
      g.of_array (each_collecting g ts (name ∷ rest) ++ collecting_at g ts (index_of name) rest)
  collecting g (code_scope s fs) (name ∷ rest) = g.missing

  -- what is collected from the first field of that name; as from a missing field if there is none
  pub first_collecting : {A : Type 0} → Collecting A → Fields → List ℕ → Names → List A
  first_collecting g no_fields name rest = g.missing
  first_collecting g (field n t fs) name rest = if bytes_eq n name then collecting g t rest
      else first_collecting g fs name rest

  -- what is collected from each element that is a document, with the same path
  pub each_collecting : {A : Type 0} → Collecting A → Items → Names → List A
  each_collecting g no_items path = []
  each_collecting g (item t ts) path = (if is_document t then collecting g t path else []) ++ each_collecting g ts path

  -- what is collected from the element at an index, with the rest of the path; nothing if there is none
  pub collecting_at : {A : Type 0} → Collecting A → Items → Option ℕ → Names → List A
  collecting_at g no_items i rest = []
  collecting_at g (item t ts) None rest = []
  collecting_at g (item t ts) (Some zero) rest = collecting g t rest
  collecting_at g (item t ts) (Some (suc i)) rest = collecting_at g ts (Some i) rest

-- what a path reaches: a value, or None for a missing field
abbrev pub End : Type 0
End = Option Tree

-- collects each value that a path reaches, and None for each field that is missing
abbrev pub ends : Collecting End
ends = record { at_end = λ t. Some t ∷ []; missing = None ∷ []; of_array = λ es. es }

-- what a path reaches from a value, in stored order: values, and None for each missing field;
-- an array with no document in it may give nothing
abbrev pub reach : Tree → Names → List End
reach t path = collecting ends t path

-- what is collected from the documents in an array, with the whole path
abbrev pub document_collecting : {A : Type 0} → Collecting A → Tree → Names → List A
document_collecting g t path = each_collecting g (items_of (elements_in t)) path

-- what is collected from the element whose index the first name of the path is;
-- nothing if there is no such element
abbrev pub index_collecting : {A : Type 0} → Collecting A → Tree → Names → List A
index_collecting g t [] = []
index_collecting g t (name ∷ rest) = collecting_at g (items_of (elements_in t)) (index_of name) rest
