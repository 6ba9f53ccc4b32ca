-- If a part of a filter is refused, it breaks that rule there; if it is read, it breaks none.
use Rattle.std.proofs.Common.{◌≡◌, ◌⊎◌, inl, inr, ℕ, zero, suc, ◌+◌, ◌-◌, Bool, true, false, if◌then◌else◌}
use Rattle.std.proofs.Common.{List, [], ◌∷◌, Result, Ok, Err, refl, subst}
use Rattle.std.specs.Prelude.{IsTrue, IsFalse, decimal, is_err}
use Rattle.bd_value.specs.Limits.{most_filter_levels}
use Rattle.bd_value.specs.Tree.{Tree, leaf, doc, array, code_scope, Doc, Fields, no_fields, field, Items, no_items, item, fields_of}
use Rattle.bd_path.specs.{Reach.Names, Path.path_of, declared.path.PathFault.PathFault}
use Rattle.bd_query_filter.specs.{Fault.Refusal, Fault.refuse, NameKind.name_kind_of}
use Rattle.bd_query_filter.specs.{declared.filter_of.PlainOperator.PlainOperator, declared.filter_of.NameKind.NameKind}
use Rattle.bd_query_filter.specs.Filter.{Filter, all_of, filters_from, operators_from, Operator, equals, has_all, has_document, has_element}
use Rattle.bd_query_filter.specs.Filter.{is_in, is_not_in, negates}
use Rattle.bd_query_filter.specs.FilterBad.{AreBadFilters, BreaksHere, BreaksInside, BreaksUnder, HasBadElement, HasBadMember, HasBadOperator, HasBadPair, IsBadAt}
use Rattle.bd_query_filter.specs.FilterBad.{IsBadElemMatch, IsBadMember, IsBadNot, IsBadOperator, IsBadPair, IsBadPlain, IsBadValue}
use Rattle.bd_query_filter.specs.FilterOf.{element_operator, filter_of, filters_of, first_is_operator, has_value_form, inner_part, logical_filter}
use Rattle.bd_query_filter.specs.FilterOf.{member_filter, member_filters, member_value, member_values, not_operator, operand_filters, operator_of}
use Rattle.bd_query_filter.specs.FilterOf.{operators_of, pair_filter, path_operators, plain_operator, read_as, read_at}
use Rattle.bd_query_filter.specs.declared.fault.FilterFaultKind.TheVariants as faults
use Rattle.bd_query_filter.specs.declared.filter_of.PlainOperator.TheVariants as plain
use Rattle.bd_query_filter.specs.declared.filter_of.NameKind.TheVariants as name_kinds

-- the refusals that are true of a part
abbrev Refusals : Type 1
Refusals = Refusal → Type 0

-- a part is refused for something bad in it, and is read if nothing in it is bad
abbrev Agrees : {A : Type 0} → Result A Refusal → Refusals → Type 0
Agrees (Ok x) IsBad = (r : Refusal) → IsBad r → ⊥
Agrees (Err r) IsBad = IsBad r

-- ---- parts, and parts of parts

as_agrees : {A B : Type 0} (f : A → B) (part : Result A Refusal) (IsBad : Refusals) → Agrees part IsBad → Agrees (read_as f part) IsBad
as_agrees f (Ok x) IsBad h = h
as_agrees f (Err r) IsBad h = h

-- the parts of a list, each under a name
each_agrees : {A : Type 0} (name : List ℕ) (part : Result A Refusal) (rest : Result (List A) Refusal) (IsBad AreBad : Refusals)
    → Agrees part IsBad → Agrees rest AreBad → Agrees (read_at name part rest) (λ r. BreaksUnder name IsBad r ⊎ AreBad r)
each_agrees name (Ok x) (Ok xs) IsBad AreBad h k = λ r e. elim e [ inl a ↦ h a.0 a.2 | inr b ↦ k r b ]
each_agrees name (Ok x) (Err r) IsBad AreBad h k = inr k
each_agrees name (Err r) rest IsBad AreBad h k = inl (r, refl, h)

inside_agrees : {A : Type 0} (depth_left : ℕ) (part : Result A Refusal) (IsBad : Refusals)
    → Agrees part IsBad → Agrees (inner_part depth_left part) (BreaksInside depth_left IsBad)
inside_agrees zero part IsBad h = refl
inside_agrees (suc depth_left) part IsBad h = h

-- one more level, with a function of what is read
level_agrees : {A B : Type 0} (depth_left : ℕ) (f : A → B) (part : Result A Refusal) (IsBad : Refusals)
    → Agrees part IsBad → Agrees (inner_part depth_left (read_as f part)) (BreaksInside depth_left IsBad)
level_agrees depth_left f part IsBad h = inside_agrees depth_left (read_as f part) IsBad (as_agrees f part IsBad h)

-- ---- one rule

true_is_not : {A : Type 0} → false ≡ true → A
true_is_not e = absurd cc

false_is_not : {A : Type 0} → true ≡ false → A
false_is_not e = absurd cc

-- a part that is bad if reading it fails
itself_agrees : {A : Type 0} (part : Result A Refusal) → Agrees part (λ r. part ≡ Err r)
itself_agrees (Ok x) = λ r e. absurd cc
itself_agrees (Err r) = refl

-- ---- operands that are values

values_agree : (i : ℕ) (ts : Items) → Agrees (member_values i ts) (HasBadElement i ts)
values_agree i no_items = λ r e. e
values_agree i (item t ts) =
    each_agrees (decimal i) (member_value t) (member_values (i + 1) ts) (λ r. member_value t ≡ Err r) (HasBadElement (i + 1) ts)
    (itself_agrees (member_value t)) (values_agree (i + 1) ts)

array_agrees : (f : List Tree → Operator) (ts : Items) → Agrees (read_as f (member_values 0 ts)) (HasBadElement 0 ts)
array_agrees f ts = as_agrees f (member_values 0 ts) (HasBadElement 0 ts) (values_agree 0 ts)

plain_agrees : (p : PlainOperator) (t : Tree) → Agrees (plain_operator p t) (IsBadPlain p t)
plain_agrees plain.In (array ts) = array_agrees is_in ts
plain_agrees plain.NotIn (array ts) = array_agrees is_not_in ts
plain_agrees plain.All (array ts) = array_agrees has_all ts
plain_agrees p t = itself_agrees (plain_operator p t)

-- ---- pairs, by the meaning of their names

path_agrees : (path : Result Names PathFault) (fs : Result (List Filter) Refusal) (os : Result (List Operator) Refusal) (IsBad : Refusals)
    → Agrees os IsBad → Agrees (pair_filter name_kinds.Field path fs os) (λ r. (IsTrue (is_err path) × BreaksHere faults.Path r) ⊎ IsBad r)
path_agrees (Ok names) fs (Ok xs) IsBad h = λ r e. elim e [ inl a ↦ true_is_not a.0 | inr b ↦ h r b ]
path_agrees (Ok names) fs (Err r) IsBad h = inr h
path_agrees (Err fault) fs os IsBad h = inl (refl, refl)

pair_agrees : (w : NameKind) (name : List ℕ) (fs : Result (List Filter) Refusal) (os : Result (List Operator) Refusal) (AreBad IsBad : Refusals)
    → Agrees fs AreBad → Agrees os IsBad → Agrees (pair_filter w (path_of name) fs os) (IsBadPair w name AreBad IsBad)
pair_agrees (name_kinds.Logical l) name fs os AreBad IsBad h k = as_agrees (logical_filter l) fs AreBad h
pair_agrees name_kinds.Field name fs os AreBad IsBad h k = path_agrees (path_of name) fs os IsBad k
pair_agrees w name fs os AreBad IsBad h k = refl

operator_agrees : (w : NameKind) (t : Tree) (inverse element : Result Operator Refusal) (InNot InElemMatch : Refusals)
    → Agrees inverse InNot → Agrees element InElemMatch → Agrees (operator_of w t inverse element) (IsBadOperator w t InNot InElemMatch)
operator_agrees (name_kinds.Plain p) t inverse element InNot InElemMatch h k = plain_agrees p t
operator_agrees name_kinds.Not t inverse element InNot InElemMatch h k = h
operator_agrees name_kinds.ElemMatch t inverse element InNot InElemMatch h k = k
operator_agrees w t inverse element InNot InElemMatch h k = refl

-- ---- documents, by their beginning

value_form : (b : Bool) (os : Result (List Operator) Refusal) (x : List Operator) (AreBad : Refusals) → Agrees os AreBad
    → Agrees (if b then os else Ok x) (λ r. IsTrue b × AreBad r)
value_form true (Ok xs) x AreBad h = λ r e. h r e.1
value_form true (Err r) x AreBad h = (refl, h)
value_form false os x AreBad h = λ r e. true_is_not e.0

not_form : (b : Bool) (part : Result Operator Refusal) (AreBad : Refusals) → Agrees part AreBad
    → Agrees (if b then part else refuse faults.BadOperand) (λ r. (IsFalse b × BreaksHere faults.BadOperand r) ⊎ (IsTrue b × AreBad r))
not_form true (Ok x) AreBad h = λ r e. elim e [ inl a ↦ false_is_not a.0 | inr b ↦ h r b.1 ]
not_form true (Err r) AreBad h = inr (refl, h)
not_form false part AreBad h = inl (refl, refl)

element_form : (b : Bool) (part other : Result Operator Refusal) (AreBad AreOthersBad : Refusals) → Agrees part AreBad → Agrees other AreOthersBad
    → Agrees (if b then part else other) (λ r. (IsTrue b × AreBad r) ⊎ (IsFalse b × AreOthersBad r))
element_form true (Ok x) other AreBad AreOthersBad h k = λ r e. elim e [ inl a ↦ h r a.1 | inr b ↦ false_is_not b.0 ]
element_form true (Err r) other AreBad AreOthersBad h k = inl (refl, h)
element_form false part (Ok x) AreBad AreOthersBad h k = λ r e. elim e [ inl a ↦ true_is_not a.0 | inr b ↦ k r b.1 ]
element_form false part (Err r) AreBad AreOthersBad h k = inr (refl, k)

-- ---- a whole document

mutual
  pairs_agree : (depth_left : ℕ) (fs : Fields) → Agrees (filters_of depth_left fs) (HasBadPair depth_left fs)
  pairs_agree depth_left no_fields = λ r e. e
  pairs_agree depth_left (field n t fs) =
      let w = name_kind_of n in
      let one = pair_agrees w n (operand_filters depth_left t) (path_operators depth_left t) (AreBadFilters depth_left t) (IsBadValue depth_left t) (logical_agrees depth_left t) (value_agrees depth_left t) in
      each_agrees n (pair_filter w (path_of n) (operand_filters depth_left t) (path_operators depth_left t)) (filters_of depth_left fs)
      (IsBadPair w n (AreBadFilters depth_left t) (IsBadValue depth_left t)) (HasBadPair depth_left fs) one (pairs_agree depth_left fs)

  logical_agrees : (depth_left : ℕ) (t : Tree) → Agrees (operand_filters depth_left t) (AreBadFilters depth_left t)
  logical_agrees depth_left (array no_items) = refl
  logical_agrees depth_left (array (item t ts)) = members_agree depth_left 0 (item t ts)
  logical_agrees depth_left (leaf s) = refl
  logical_agrees depth_left (doc fs) = refl
  logical_agrees depth_left (code_scope s fs) = refl

  members_agree : (depth_left i : ℕ) (ts : Items) → Agrees (member_filters depth_left i ts) (HasBadMember depth_left i ts)
  members_agree depth_left i no_items = λ r e. e
  members_agree depth_left i (item t ts) =
      each_agrees (decimal i) (member_filter depth_left t) (member_filters depth_left (i + 1) ts) (IsBadMember depth_left t) (HasBadMember depth_left (i + 1) ts)
      (member_agrees depth_left t) (members_agree depth_left (i + 1) ts)

  member_agrees : (depth_left : ℕ) (t : Tree) → Agrees (member_filter depth_left t) (IsBadMember depth_left t)
  member_agrees depth_left (leaf s) = refl
  member_agrees depth_left (doc fs) =
      level_agrees depth_left (λ xs. all_of (filters_from xs)) (filters_of (depth_left - 1) fs) (HasBadPair (depth_left - 1) fs) (pairs_agree (depth_left - 1) fs)
  member_agrees depth_left (array ts) = refl
  member_agrees depth_left (code_scope s fs) = refl

  value_agrees : (depth_left : ℕ) (t : Tree) → Agrees (path_operators depth_left t) (IsBadValue depth_left t)
  value_agrees depth_left (leaf s) = itself_agrees (path_operators depth_left (leaf s))
  value_agrees depth_left (doc fs) =
      value_form (first_is_operator fs) (operators_of depth_left fs) (equals (doc fs) ∷ []) (HasBadOperator depth_left fs) (operators_agree depth_left fs)
  value_agrees depth_left (array ts) = itself_agrees (path_operators depth_left (array ts))
  value_agrees depth_left (code_scope s fs) = itself_agrees (path_operators depth_left (code_scope s fs))

  operators_agree : (depth_left : ℕ) (fs : Fields) → Agrees (operators_of depth_left fs) (HasBadOperator depth_left fs)
  operators_agree depth_left no_fields = λ r e. e
  operators_agree depth_left (field n t fs) =
      let w = name_kind_of n in
      let one = operator_agrees w t (not_operator depth_left t) (element_operator depth_left t) (IsBadNot depth_left t) (IsBadElemMatch depth_left t) (not_agrees depth_left t) (element_agrees depth_left t) in
      each_agrees n (operator_of w t (not_operator depth_left t) (element_operator depth_left t)) (operators_of depth_left fs)
      (IsBadOperator w t (IsBadNot depth_left t) (IsBadElemMatch depth_left t)) (HasBadOperator depth_left fs) one (operators_agree depth_left fs)

  not_agrees : (depth_left : ℕ) (t : Tree) → Agrees (not_operator depth_left t) (IsBadNot depth_left t)
  not_agrees depth_left (leaf s) = itself_agrees (not_operator depth_left (leaf s))
  not_agrees depth_left (doc fs) =
      let f : List Operator → Operator = λ xs. negates (operators_from xs) in
      not_form (first_is_operator fs) (inner_part depth_left (read_as f (operators_of (depth_left - 1) fs))) (BreaksInside depth_left (HasBadOperator (depth_left - 1) fs))
      (level_agrees depth_left f (operators_of (depth_left - 1) fs) (HasBadOperator (depth_left - 1) fs) (operators_agree (depth_left - 1) fs))
  not_agrees depth_left (array ts) = refl
  not_agrees depth_left (code_scope s fs) = refl

  element_agrees : (depth_left : ℕ) (t : Tree) → Agrees (element_operator depth_left t) (IsBadElemMatch depth_left t)
  element_agrees depth_left (leaf s) = refl
  element_agrees depth_left (doc fs) =
      let f : List Operator → Operator = λ xs. has_element (operators_from xs) in
      let g : List Filter → Operator = λ xs. has_document (filters_from xs) in
      element_form (has_value_form fs) (inner_part depth_left (read_as f (operators_of (depth_left - 1) fs))) (inner_part depth_left (read_as g (filters_of (depth_left - 1) fs)))
      (BreaksInside depth_left (HasBadOperator (depth_left - 1) fs)) (BreaksInside depth_left (HasBadPair (depth_left - 1) fs))
      (level_agrees depth_left f (operators_of (depth_left - 1) fs) (HasBadOperator (depth_left - 1) fs) (operators_agree (depth_left - 1) fs))
      (level_agrees depth_left g (filters_of (depth_left - 1) fs) (HasBadPair (depth_left - 1) fs) (pairs_agree (depth_left - 1) fs))
  element_agrees depth_left (array ts) = refl
  element_agrees depth_left (code_scope s fs) = refl

document_agrees : (d : Doc) → Agrees (filter_of d) (IsBadAt d)
document_agrees d =
    let fs = fields_of d in
    as_agrees (λ xs. all_of (filters_from xs)) (filters_of (most_filter_levels - 1) fs) (HasBadPair (most_filter_levels - 1) fs) (pairs_agree (most_filter_levels - 1) fs)

where_taken : {A : Type 0} (part : Result A Refusal) (IsBad : Refusals) (x : A) → Agrees part IsBad → part ≡ Ok x → (r : Refusal) → IsBad r → ⊥
where_taken (Ok y) IsBad x h is = h
where_taken (Err q) IsBad x h is = absurd cc

where_refused : {A : Type 0} (part : Result A Refusal) (IsBad : Refusals) (r : Refusal) → Agrees part IsBad → part ≡ Err r → IsBad r
where_refused (Ok y) IsBad r h is = absurd cc
where_refused (Err q) IsBad r h is = let same : q ≡ r = cc in subst IsBad same h

pub none_bad_where_taken : (d : Doc) (f : Filter) → filter_of d ≡ Ok f → (r : Refusal) → IsBadAt d r → ⊥
none_bad_where_taken d f is = where_taken (filter_of d) (IsBadAt d) f (document_agrees d) is

-- the refusal of a document is a rule that it breaks at that path
pub bad_where_refused : (d : Doc) (r : Refusal) → filter_of d ≡ Err r → IsBadAt d r
bad_where_refused d r is = where_refused (filter_of d) (IsBadAt d) r (document_agrees d) is
