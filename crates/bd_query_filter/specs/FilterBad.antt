-- Which pairs and members of a document break a rule of filters (MongoDB manual, "Query and Projection Operators"), and
-- where. Nothing is read in order: each breaks a rule or not by itself. `FilterOf` says what one operand may be.
use Rattle.std.specs.Prelude.{◌≡◌, ◌⊎◌, ℕ, zero, ◌+◌, ◌-◌, List, [], Err, is_err, decimal, IsTrue, IsFalse}
use Rattle.bd_value.specs.Limits.{most_filter_levels}
use Rattle.bd_value.specs.Tree.{Tree, doc, array, Items, no_items, item, Fields, no_fields, field, Doc, fields_of}
use Rattle.bd_path.specs.Path.{path_of}
use Rattle.bd_query_filter.specs.{Fault.Refusal, Fault.deeper, NameKind.name_kind_of, declared.fault.FilterFaultKind.FilterFaultKind}
use Rattle.bd_query_filter.specs.declared.filter_of.{PlainOperator.PlainOperator, NameKind.NameKind}
use Rattle.bd_query_filter.specs.FilterOf.{first_is_operator, has_value_form, member_value, not_operator, path_operators}
use Rattle.bd_query_filter.specs.FilterOf.{plain_operator}
use Rattle.bd_query_filter.specs.declared.fault.FilterFaultKind.TheVariants as faults
use Rattle.bd_query_filter.specs.declared.filter_of.PlainOperator.TheVariants as plain
use Rattle.bd_query_filter.specs.declared.filter_of.NameKind.TheVariants as name_kinds

-- The refusal is of this rule, at the pair or member itself.
abbrev pub BreaksHere : FilterFaultKind → Refusal → Type 0
BreaksHere kind r = r ≡ record { kind = kind; place = [] }

-- The refusal is inside the part under this name or position.
abbrev pub BreaksUnder : List ℕ → (Refusal → Type 0) → Refusal → Type 0
BreaksUnder name IsBad r = (inner : Refusal) × (r ≡ deeper name inner) × IsBad inner

-- The refusal is inside the part, a level further in;
-- or of the part itself, which is too deep if no level remains.
abbrev pub BreaksInside : ℕ → (Refusal → Type 0) → Refusal → Type 0
BreaksInside zero IsBad r = BreaksHere faults.TooDeep r
BreaksInside depth_left IsBad r = IsBad r

-- Some member of the array of `$in`, `$nin` or `$all`, from this position on, is refused.
abbrev pub HasBadElement : ℕ → Items → Refusal → Type 0
HasBadElement i no_items r = ⊥
HasBadElement i (item t ts) r = BreaksUnder (decimal i) (λ q. member_value t ≡ Err q) r ⊎ HasBadElement (i + 1) ts r

-- The operand of an operator is refused: a list for some member, any other for itself.
abbrev pub IsBadPlain : PlainOperator → Tree → Refusal → Type 0
IsBadPlain plain.In (array ts) r = HasBadElement 0 ts r
IsBadPlain plain.NotIn (array ts) r = HasBadElement 0 ts r
IsBadPlain plain.All (array ts) r = HasBadElement 0 ts r
IsBadPlain p t r = plain_operator p t ≡ Err r

-- A pair of a filter is refused, by the meaning of its name: `$and`, `$or` and `$nor` for their filters,
-- a field for its path or for its value, each whatever the other is. No other operator is allowed there.
abbrev pub IsBadPair : NameKind → List ℕ → (Refusal → Type 0) → (Refusal → Type 0) → Refusal → Type 0
IsBadPair (name_kinds.Logical l) name AreBad IsBad r = AreBad r
IsBadPair name_kinds.Field name AreBad IsBad r = (IsTrue (is_err (path_of name)) × BreaksHere faults.Path r) ⊎ IsBad r
IsBadPair name_kinds.Omitted name AreBad IsBad r = BreaksHere faults.NotInProfile r
IsBadPair w name AreBad IsBad r = BreaksHere faults.UnknownOperator r

-- A pair among operators is refused, by the meaning of its name:
-- `$not` and `$elemMatch` for their bodies, others for their operand.
abbrev pub IsBadOperator : NameKind → Tree → (Refusal → Type 0) → (Refusal → Type 0) → Refusal → Type 0
IsBadOperator (name_kinds.Plain p) t InNot InElemMatch r = IsBadPlain p t r
IsBadOperator name_kinds.Not t InNot InElemMatch r = InNot r
IsBadOperator name_kinds.ElemMatch t InNot InElemMatch r = InElemMatch r
IsBadOperator name_kinds.Omitted t InNot InElemMatch r = BreaksHere faults.NotInProfile r
IsBadOperator name_kinds.Field t InNot InElemMatch r = BreaksHere faults.MixedOperators r
IsBadOperator w t InNot InElemMatch r = BreaksHere faults.UnknownOperator r

abbrev mutual
  -- Some pair of a document is refused; `depth_left` more levels may be inside.
  pub HasBadPair : ℕ → Fields → Refusal → Type 0
  HasBadPair depth_left no_fields r = ⊥
  HasBadPair depth_left (field n t fs) r =
      BreaksUnder n (IsBadPair (name_kind_of n) n (AreBadFilters depth_left t) (IsBadValue depth_left t)) r ⊎ HasBadPair depth_left fs r

  -- The operand of `$and`, `$or` or `$nor` is refused: it is not an array, or empty, or some member is refused.
  pub AreBadFilters : ℕ → Tree → Refusal → Type 0
  AreBadFilters depth_left (array (item t ts)) r = HasBadMember depth_left 0 (item t ts) r
  AreBadFilters depth_left t r = BreaksHere faults.BadOperand r

  -- Some member of the array of `$and`, `$or` or `$nor`, from this position on, is refused.
  pub HasBadMember : ℕ → ℕ → Items → Refusal → Type 0
  HasBadMember depth_left i no_items r = ⊥
  HasBadMember depth_left i (item t ts) r = BreaksUnder (decimal i) (IsBadMember depth_left t) r ⊎ HasBadMember depth_left (i + 1) ts r

  -- a member of `$and`, `$or` or `$nor`: it is not a document, too deep, or a pair in it breaks a rule
  pub IsBadMember : ℕ → Tree → Refusal → Type 0
  IsBadMember depth_left (doc fs) r = BreaksInside depth_left (HasBadPair (depth_left - 1) fs) r
  IsBadMember depth_left t r = BreaksHere faults.BadOperand r

  -- The value of a path is refused: for some operator in it,
  -- or, if it is a value to equal, since it is a regular expression.
  pub IsBadValue : ℕ → Tree → Refusal → Type 0
  IsBadValue depth_left (doc fs) r = IsTrue (first_is_operator fs) × HasBadOperator depth_left fs r
  IsBadValue depth_left t r = path_operators depth_left t ≡ Err r

  -- some pair among the operators of a path breaks a rule; `depth_left` more levels may be inside
  pub HasBadOperator : ℕ → Fields → Refusal → Type 0
  HasBadOperator depth_left no_fields r = ⊥
  HasBadOperator depth_left (field n t fs) r =
      BreaksUnder n (IsBadOperator (name_kind_of n) t (IsBadNot depth_left t) (IsBadElemMatch depth_left t)) r ⊎ HasBadOperator depth_left fs r

  -- The operand of `$not` is refused: it must be a document of operators, which is a level further in.
  pub IsBadNot : ℕ → Tree → Refusal → Type 0
  IsBadNot depth_left (doc fs) r = (IsFalse (first_is_operator fs) × BreaksHere faults.BadOperand r)
      ⊎ (IsTrue (first_is_operator fs) × BreaksInside depth_left (HasBadOperator (depth_left - 1) fs) r)
  IsBadNot depth_left t r = not_operator depth_left t ≡ Err r

  -- The operand of `$elemMatch` is refused: it must be a document,
  -- of operators or of the pairs of a filter, a level further in.
  pub IsBadElemMatch : ℕ → Tree → Refusal → Type 0
  IsBadElemMatch depth_left (doc fs) r = (IsTrue (has_value_form fs) × BreaksInside depth_left (HasBadOperator (depth_left - 1) fs) r)
      ⊎ (IsFalse (has_value_form fs) × BreaksInside depth_left (HasBadPair (depth_left - 1) fs) r)
  IsBadElemMatch depth_left t r = BreaksHere faults.BadOperand r

-- A pair or a member of the document breaks this rule at this path;
-- a filter has 50 levels at most, the top is level 1.
abbrev pub IsBadAt : Doc → Refusal → Type 0
IsBadAt d r = HasBadPair (most_filter_levels - 1) (fields_of d) r
