-- The filter of a renumbered query is the renumbered filter.
use Rattle.std.proofs.Common.{◌≡◌, ℕ, zero, suc, ◌+◌, ◌-◌, List, [], ◌∷◌, ◌++◌, map, refl, sym, ap, ap₂, ◌∙◌, Bool, true, false, cond, ◌||◌, Result, Ok, Err}
use Rattle.std.specs.Prelude.{decimal, length, nat_le, nat_lt, ◌&&◌}
use Rattle.std.specs.{List.list_any, Option.ok_or, Str.bytes_eq}
use Rattle.bd_value.specs.Limits.{greatest_count, most_filter_levels, most_names}
use Rattle.bd_value.specs.Tree as trees
use Rattle.bd_value.specs.Tree.{Tree, leaf, int32, int64, doc, array, code_scope, Items, no_items, item, Fields, no_fields, field, Doc, fields_of, fields_of-pairs_of}
use Rattle.bd_path.specs.{Reach.Names, Path.components_of, Path.path_of, Sort.SortPath, declared.path.PathFault.PathFault}
use Rattle.bd_path.specs.declared.path.PathFault.TheVariants.{EmptyComponent, TooLong}
use Rattle.bd_query_filter.specs.Fault.{Refusal, refuse}
use Rattle.bd_query_filter.specs.Filter.{Filter, all_of, some_of, none_of, at_path, filters_from, filter, Operator, equals, differs, compares, is_in, is_not_in, has_all, has_type, has_size, exists, negates, has_element, has_document}
use Rattle.bd_query_filter.specs.Filter.{operators_from, operator}
use Rattle.bd_query_filter.specs.NameKind.{name_kind_of}
use Rattle.bd_query_filter.specs.FilterOf.{read_as, read_at, is_regex, is_bound, first_is_operator, has_operators, unless_omitted, member_value, member_values, members_of}
use Rattle.bd_query_filter.specs.FilterOf.{size_value, truth_value, operand_kinds, or_bad_operand, plain_operator, logical_filter, inner_part, has_value_form, pair_filter, operator_of}
use Rattle.bd_query_filter.specs.FilterOf.{filters_of, operand_filters, member_filters, member_filter, path_operators, operators_of, not_operator, element_operator, filter_of}
use Rattle.bd_query_filter.specs.declared.filter_of.{LogicalOperator.LogicalOperator, PlainOperator.PlainOperator, NameKind.NameKind}
use Rattle.bd_query_filter.specs.declared.fault.FilterFaultKind.TheVariants as faults
use Rattle.bd_query_filter.specs.declared.filter_of.LogicalOperator.TheVariants as logical
use Rattle.bd_query_filter.specs.declared.filter_of.PlainOperator.TheVariants as plain
use Rattle.bd_query_filter.specs.declared.filter_of.NameKind.TheVariants as name_kinds
use Rattle.bd_cursor_request.specs.Refused.{Reason, bad_filter, plain as plain_reason, then_part, error_as}
use Rattle.bd_cursor_request.specs.Request.{Request, request_of, request_text, request_with, sort_of}
use Rattle.bd_cursor_request.specs.declared.results.Refused.TheVariants as reasons
use Rattle.bd_wide_order.specs.Renumber.{Codes, below, renumber, renumber_items, renumber_fields, renumber_filter, renumber_filters, renumber_operator, renumber_operators}
use Rattle.bd_wide_order.proofs.OrderLemmas.{of_whole}
use Rattle.bd_wide_order.specs.Query.{pair_value, plain_operand, operand, query_fields, query_members, query_items, query_member, query_value, query_operators, query_inverse, query_element, renumber_query, renumber_request, same_types}

-- ---- reading, and functions of what was read

read_twice : {A B C : Type 0} (f : B → C) (h : A → B) (x : Result A Refusal) → read_as f (read_as h x) ≡ read_as (λ a. f (h a)) x
read_twice f h (Ok x) = refl
read_twice f h (Err r) = refl

read_same : {A B : Type 0} (f h : A → B) → ((a : A) → f a ≡ h a) → (x : Result A Refusal) → read_as f x ≡ read_as h x
read_same f h e (Ok x) = ap Ok (e x)
read_same f h e (Err r) = refl

read_in_turn : {A B : Type 0} (h : A → B) (n : List ℕ) (x : Result A Refusal) (xs : Result (List A) Refusal) → read_at n (read_as h x) (read_as (map h) xs) ≡ read_as (map h) (read_at n x xs)
read_in_turn h n (Err r) xs = refl
read_in_turn h n (Ok x) (Err r) = refl
read_in_turn h n (Ok x) (Ok xs) = refl

inner_stays : {A B : Type 0} (h : A → B) (depth_left : ℕ) (x : Result A Refusal) (y : Result B Refusal) → y ≡ read_as h x → inner_part depth_left y ≡ read_as h (inner_part depth_left x)
inner_stays h zero x y e = refl
inner_stays h (suc depth_left) x y e = e

-- if a renumbered part is read as the renumbered result of the part, so are the functions of both
read_on : {A B C D : Type 0} (f : A → B) (k : C → D) (h : A → C) (i : B → D) → ((a : A) → i (f a) ≡ k (h a)) → (x : Result A Refusal) (y : Result B Refusal) → y ≡ read_as f x → read_as i y ≡ read_as k (read_as h x)
read_on f k h i e x y same = ap (read_as i) same ∙ read_twice i f x ∙ read_same (λ a. i (f a)) (λ a. k (h a)) e x ∙ sym (read_twice k h x)

-- the path in a text has the names between its dots
names_are : (text : List ℕ) (path : Names) → path_of text ≡ Ok path → path ≡ components_of text
names_are text path is = go (nat_lt most_names (length (components_of text))) (list_any (bytes_eq []) (components_of text)) is
  where
    go : (a b : Bool) → cond a (Err TooLong) (cond b (Err EmptyComponent) (Ok (components_of text))) ≡ Ok path → path ≡ components_of text
    go true b e = absurd cc
    go false true e = absurd cc
    go false false e = cc

module _ (c : Codes) where
  abbrev r : Tree → Tree
  r = renumber c

  filters_stay : (fs : List Filter) → filters_from (map (renumber_filter c) fs) ≡ renumber_filters c (filters_from fs)
  filters_stay [] = refl
  filters_stay (f ∷ fs) = ap (filter (renumber_filter c f)) (filters_stay fs)

  operators_stay : (os : List Operator) → operators_from (map (renumber_operator c) os) ≡ renumber_operators c (operators_from os)
  operators_stay [] = refl
  operators_stay (o ∷ os) = ap (operator (renumber_operator c o)) (operators_stay os)

  -- ---- operands

  regex_stays : (t : Tree) → is_regex (r t) ≡ is_regex t
  regex_stays (leaf trees.min_key) = refl
  regex_stays (leaf (int32 n)) = of_whole (λ s. is_regex (leaf s) ≡ false) (c []).narrow ((c []).becomes n) refl refl
  regex_stays (leaf _) = refl
  regex_stays (doc fs) = refl
  regex_stays (array ts) = refl
  regex_stays (code_scope s fs) = refl

  bound_stays : (t : Tree) → is_bound (r t) ≡ is_bound t
  bound_stays (leaf trees.min_key) = refl
  bound_stays (leaf (int32 n)) = of_whole (λ s. is_bound (leaf s) ≡ false) (c []).narrow ((c []).becomes n) refl refl
  bound_stays (leaf _) = refl
  bound_stays (doc fs) = refl
  bound_stays (array ts) = refl
  bound_stays (code_scope s fs) = refl

  first_stays : (fs : Fields) → first_is_operator (renumber_fields c fs) ≡ first_is_operator fs
  first_stays no_fields = refl
  first_stays (field n t fs) = refl

  has_operators_stays : (t : Tree) → has_operators (r t) ≡ has_operators t
  has_operators_stays (leaf s) = refl
  has_operators_stays (doc fs) = first_stays fs
  has_operators_stays (array ts) = refl
  has_operators_stays (code_scope s fs) = refl

  unless_stays : (a b : Bool) (t : Tree) → a ≡ b → unless_omitted a (r t) ≡ read_as r (unless_omitted b t)
  unless_stays true true t e = refl
  unless_stays false false t e = refl
  unless_stays true false t e = absurd cc
  unless_stays false true t e = absurd cc

  member_stays : (t : Tree) → member_value (r t) ≡ read_as r (member_value t)
  member_stays t = unless_stays _ _ t (ap₂ ◌||◌ (regex_stays t) (has_operators_stays t))

  members_stay : (i : ℕ) (ts : Items) → member_values i (renumber_items c ts) ≡ read_as (map r) (member_values i ts)
  members_stay i no_items = refl
  members_stay i (item t ts) = ap₂ (read_at (decimal i)) (member_stays t) (members_stay (i + 1) ts) ∙ read_in_turn r (decimal i) (member_value t) (member_values (i + 1) ts)

  list_stays : (t : Tree) → members_of (r t) ≡ read_as (map r) (members_of t)
  list_stays (leaf s) = refl
  list_stays (doc fs) = refl
  list_stays (array ts) = members_stay 0 ts
  list_stays (code_scope s fs) = refl

  plain_stays : (p : PlainOperator) (t : Tree) → plain_operator p (plain_operand same_types p t (r t)) ≡ read_as (renumber_operator c) (plain_operator p t)
  plain_stays plain.Equal t = refl
  plain_stays plain.NotEqual t =
      read_on r (renumber_operator c) differs differs (λ v. refl) (unless_omitted (is_regex t) t) _ (unless_stays _ _ t (regex_stays t))
  plain_stays (plain.Order o) t =
      read_on r (renumber_operator c) (compares o) (compares o) (λ v. refl) (unless_omitted (is_regex t || is_bound t) t) _ (unless_stays _ _ t (ap₂ ◌||◌ (regex_stays t) (bound_stays t)))
  plain_stays plain.In t = read_on (map r) (renumber_operator c) is_in is_in (λ v. refl) (members_of t) _ (list_stays t)
  plain_stays plain.NotIn t = read_on (map r) (renumber_operator c) is_not_in is_not_in (λ v. refl) (members_of t) _ (list_stays t)
  plain_stays plain.All t = read_on (map r) (renumber_operator c) has_all has_all (λ v. refl) (members_of t) _ (list_stays t)
  plain_stays plain.Size t = sym (read_twice (renumber_operator c) has_size (or_bad_operand (size_value t)))
  plain_stays plain.Exists t = sym (read_twice (renumber_operator c) exists (or_bad_operand (truth_value t)))
  plain_stays plain.Type t = sym (read_twice (renumber_operator c) has_type (or_bad_operand (operand_kinds t)))

  -- ---- pairs, by their names

  logical_stays : (l : LogicalOperator) (fs : List Filter) → logical_filter l (map (renumber_filter c) fs) ≡ renumber_filter c (logical_filter l fs)
  logical_stays logical.And fs = ap all_of (filters_stay fs)
  logical_stays logical.Or fs = ap some_of (filters_stay fs)
  logical_stays logical.Nor fs = ap none_of (filters_stay fs)

  operator_stays : (w : NameKind) (depth_left : ℕ) (t : Tree)
      → not_operator depth_left (query_inverse same_types c t) ≡ read_as (renumber_operator c) (not_operator depth_left t)
      → element_operator depth_left (query_element same_types c t) ≡ read_as (renumber_operator c) (element_operator depth_left t)
      → operator_of w (operand same_types w t (r t) (query_inverse same_types c t) (query_element same_types c t)) (not_operator depth_left (operand same_types w t (r t) (query_inverse same_types c t) (query_element same_types c t)))
      (element_operator depth_left (operand same_types w t (r t) (query_inverse same_types c t) (query_element same_types c t)))
      ≡ read_as (renumber_operator c) (operator_of w t (not_operator depth_left t) (element_operator depth_left t))
  operator_stays (name_kinds.Plain p) depth_left t a b = plain_stays p t
  operator_stays name_kinds.Not depth_left t a b = a
  operator_stays name_kinds.ElemMatch depth_left t a b = b
  operator_stays name_kinds.Omitted depth_left t a b = refl
  operator_stays name_kinds.Field depth_left t a b = refl
  operator_stays name_kinds.Unknown depth_left t a b = refl
  operator_stays (name_kinds.Logical l) depth_left t a b = refl

  -- ---- the first name of a renumbered document

  first_operator_stays : (fs : Fields) → first_is_operator (query_operators same_types c fs) ≡ first_is_operator fs
  first_operator_stays no_fields = refl
  first_operator_stays (field n t fs) = refl

  operators_form_stays : (fs : Fields) → has_value_form (query_operators same_types c fs) ≡ has_value_form fs
  operators_form_stays no_fields = refl
  operators_form_stays (field n t fs) = refl

  fields_form_stays : (fs : Fields) → has_value_form (query_fields same_types c fs) ≡ has_value_form fs
  fields_form_stays no_fields = refl
  fields_form_stays (field n t fs) = refl

  -- the value of a path, whose first name is an operator or not
  path_chosen : (b : Bool) (depth_left : ℕ) (fs : Fields) → first_is_operator fs ≡ b
      → operators_of depth_left (query_operators same_types c fs) ≡ read_as (map (renumber_operator c)) (operators_of depth_left fs)
      → path_operators depth_left (cond b (doc (query_operators same_types c fs)) (doc (renumber_fields c fs))) ≡ read_as (map (renumber_operator c)) (cond b (operators_of depth_left fs) (Ok (equals (doc fs) ∷ [])))
  path_chosen true depth_left fs e h = ap (λ x. cond x (operators_of depth_left (query_operators same_types c fs)) (Ok (equals (doc (query_operators same_types c fs)) ∷ []))) (first_operator_stays fs ∙ e) ∙ h
  path_chosen false depth_left fs e h = ap (λ x. cond x (operators_of depth_left (renumber_fields c fs)) (Ok (equals (doc (renumber_fields c fs)) ∷ []))) (first_stays fs ∙ e)

  whole_value : (t : Tree) → read_as (λ v. equals v ∷ []) (unless_omitted (is_regex (r t)) (r t)) ≡ read_as (map (renumber_operator c)) (read_as (λ v. equals v ∷ []) (unless_omitted (is_regex t) t))
  whole_value t = read_on r (map (renumber_operator c)) (λ v. equals v ∷ []) (λ v. equals v ∷ []) (λ v. refl) (unless_omitted (is_regex t) t) _ (unless_stays _ _ t (regex_stays t))

  inverse_chosen : (a b : Bool) (x : Result Operator Refusal) (y : Result Operator Refusal) → a ≡ b → y ≡ read_as (renumber_operator c) x
      → cond a y (refuse faults.BadOperand) ≡ read_as (renumber_operator c) (cond b x (refuse faults.BadOperand))
  inverse_chosen true true x y e h = h
  inverse_chosen false false x y e h = refl
  inverse_chosen true false x y e h = absurd cc
  inverse_chosen false true x y e h = absurd cc

  element_chosen : (b : Bool) (depth_left : ℕ) (fs : Fields) → has_value_form fs ≡ b
      → inner_part depth_left (read_as (λ xs. has_element (operators_from xs)) (operators_of (depth_left - 1) (query_operators same_types c fs)))
      ≡ read_as (renumber_operator c) (inner_part depth_left (read_as (λ xs. has_element (operators_from xs)) (operators_of (depth_left - 1) fs)))
      → inner_part depth_left (read_as (λ xs. has_document (filters_from xs)) (filters_of (depth_left - 1) (query_fields same_types c fs)))
      ≡ read_as (renumber_operator c) (inner_part depth_left (read_as (λ xs. has_document (filters_from xs)) (filters_of (depth_left - 1) fs)))
      → element_operator depth_left (cond b (doc (query_operators same_types c fs)) (doc (query_fields same_types c fs)))
      ≡ read_as (renumber_operator c) (cond b (inner_part depth_left (read_as (λ xs. has_element (operators_from xs)) (operators_of (depth_left - 1) fs)))
      (inner_part depth_left (read_as (λ xs. has_document (filters_from xs)) (filters_of (depth_left - 1) fs))))
  element_chosen true depth_left fs e h k =
      ap (λ x. cond x (inner_part depth_left (read_as (λ xs. has_element (operators_from xs)) (operators_of (depth_left - 1) (query_operators same_types c fs))))
      (inner_part depth_left (read_as (λ xs. has_document (filters_from xs)) (filters_of (depth_left - 1) (query_operators same_types c fs))))) (operators_form_stays fs ∙ e) ∙ h
  element_chosen false depth_left fs e h k =
      ap (λ x. cond x (inner_part depth_left (read_as (λ xs. has_element (operators_from xs)) (operators_of (depth_left - 1) (query_fields same_types c fs))))
      (inner_part depth_left (read_as (λ xs. has_document (filters_from xs)) (filters_of (depth_left - 1) (query_fields same_types c fs))))) (fields_form_stays fs ∙ e) ∙ k

-- a pair: its value has the codes below the names of its path
pair_stays : (c : Codes) (names : Names) (w : NameKind) (path : Result Names PathFault) (depth_left : ℕ) (t : Tree) → ((p : Names) → path ≡ Ok p → p ≡ names)
    → operand_filters depth_left (query_members same_types c t) ≡ read_as (map (renumber_filter c)) (operand_filters depth_left t)
    → path_operators depth_left (query_value same_types (below names c) t) ≡ read_as (map (renumber_operator (below names c))) (path_operators depth_left t)
    → pair_filter w path (operand_filters depth_left (pair_value w (query_members same_types c t) (query_value same_types (below names c) t)))
    (path_operators depth_left (pair_value w (query_members same_types c t) (query_value same_types (below names c) t)))
    ≡ read_as (renumber_filter c) (pair_filter w path (operand_filters depth_left t) (path_operators depth_left t))
pair_stays c names (name_kinds.Logical l) path depth_left t is a b =
    read_on (map (renumber_filter c)) (renumber_filter c) (logical_filter l) (logical_filter l) (logical_stays c l) (operand_filters depth_left t) (operand_filters depth_left (query_members same_types c t)) a
pair_stays c names name_kinds.Field (Err fault) depth_left t is a b = refl
pair_stays c names name_kinds.Field (Ok path) depth_left t is a b =
    read_on (map (renumber_operator (below names c))) (renumber_filter c) (λ os. at_path path (operators_from os)) (λ os. at_path path (operators_from os))
    (λ os. ap (at_path path) (operators_stay (below names c) os ∙ ap (λ p. renumber_operators (below p c) (operators_from os)) (sym (is path refl))))
    (path_operators depth_left t) (path_operators depth_left (query_value same_types (below names c) t)) b
pair_stays c names name_kinds.Omitted path depth_left t is a b = refl
pair_stays c names name_kinds.Unknown path depth_left t is a b = refl
pair_stays c names (name_kinds.Plain p) path depth_left t is a b = refl
pair_stays c names name_kinds.Not path depth_left t is a b = refl
pair_stays c names name_kinds.ElemMatch path depth_left t is a b = refl

-- ---- filters

mutual
  filters_read : (c : Codes) (fs : Fields) (depth_left : ℕ) → filters_of depth_left (query_fields same_types c fs) ≡ read_as (map (renumber_filter c)) (filters_of depth_left fs)
  filters_read c no_fields depth_left = refl
  filters_read c (field n t fs) depth_left =
      ap₂ (read_at n)
      (pair_stays c (components_of n) (name_kind_of n) (path_of n) depth_left t (names_are n) (operand_read c t depth_left) (value_read (λ names. c (components_of n ++ names)) t depth_left))
      (filters_read c fs depth_left)
      ∙ read_in_turn (renumber_filter c) n (pair_filter (name_kind_of n) (path_of n) (operand_filters depth_left t) (path_operators depth_left t)) (filters_of depth_left fs)

  operand_read : (c : Codes) (t : Tree) (depth_left : ℕ) → operand_filters depth_left (query_members same_types c t) ≡ read_as (map (renumber_filter c)) (operand_filters depth_left t)
  operand_read c (leaf s) depth_left = refl
  operand_read c (doc fs) depth_left = refl
  operand_read c (array no_items) depth_left = refl
  operand_read c (array (item t ts)) depth_left = members_read c (item t ts) depth_left 0
  operand_read c (code_scope s fs) depth_left = refl

  members_read : (c : Codes) (ts : Items) (depth_left i : ℕ) → member_filters depth_left i (query_items same_types c ts) ≡ read_as (map (renumber_filter c)) (member_filters depth_left i ts)
  members_read c no_items depth_left i = refl
  members_read c (item t ts) depth_left i =
      ap₂ (read_at (decimal i)) (member_read c t depth_left) (members_read c ts depth_left (i + 1))
      ∙ read_in_turn (renumber_filter c) (decimal i) (member_filter depth_left t) (member_filters depth_left (i + 1) ts)

  member_read : (c : Codes) (t : Tree) (depth_left : ℕ) → member_filter depth_left (query_member same_types c t) ≡ read_as (renumber_filter c) (member_filter depth_left t)
  member_read c (leaf s) depth_left = refl
  member_read c (doc fs) depth_left =
      inner_stays (renumber_filter c) depth_left _ _
      (read_on (map (renumber_filter c)) (renumber_filter c) (λ xs. all_of (filters_from xs)) (λ xs. all_of (filters_from xs)) (λ xs. ap all_of (filters_stay c xs))
      (filters_of (depth_left - 1) fs) (filters_of (depth_left - 1) (query_fields same_types c fs)) (filters_read c fs (depth_left - 1)))
  member_read c (array ts) depth_left = refl
  member_read c (code_scope s fs) depth_left = refl

  value_read : (c : Codes) (t : Tree) (depth_left : ℕ) → path_operators depth_left (query_value same_types c t) ≡ read_as (map (renumber_operator c)) (path_operators depth_left t)
  value_read c (leaf s) depth_left = whole_value c (leaf s)
  value_read c (doc fs) depth_left = path_chosen c (first_is_operator fs) depth_left fs refl (operators_read c fs depth_left)
  value_read c (array ts) depth_left = whole_value c (array ts)
  value_read c (code_scope s fs) depth_left = whole_value c (code_scope s fs)

  operators_read : (c : Codes) (fs : Fields) (depth_left : ℕ) → operators_of depth_left (query_operators same_types c fs) ≡ read_as (map (renumber_operator c)) (operators_of depth_left fs)
  operators_read c no_fields depth_left = refl
  operators_read c (field n t fs) depth_left =
      ap₂ (read_at n) (operator_stays c (name_kind_of n) depth_left t (inverse_read c t depth_left) (element_read c t depth_left)) (operators_read c fs depth_left)
      ∙ read_in_turn (renumber_operator c) n (operator_of (name_kind_of n) t (not_operator depth_left t) (element_operator depth_left t)) (operators_of depth_left fs)

  inverse_read : (c : Codes) (t : Tree) (depth_left : ℕ) → not_operator depth_left (query_inverse same_types c t) ≡ read_as (renumber_operator c) (not_operator depth_left t)
  inverse_read c (leaf s) depth_left = cases (is_regex (leaf s))
    where
      cases : (b : Bool) → cond b (refuse faults.NotInProfile) (refuse faults.BadOperand) ≡ read_as (renumber_operator c) (cond b (refuse faults.NotInProfile) (refuse faults.BadOperand))
      cases true = refl
      cases false = refl
  inverse_read c (doc fs) depth_left =
      inverse_chosen c _ _ (inner_part depth_left (read_as (λ xs. negates (operators_from xs)) (operators_of (depth_left - 1) fs))) _ (first_operator_stays c fs)
      (inner_stays (renumber_operator c) depth_left (read_as (λ xs. negates (operators_from xs)) (operators_of (depth_left - 1) fs)) _
      (read_on (map (renumber_operator c)) (renumber_operator c) (λ xs. negates (operators_from xs)) (λ xs. negates (operators_from xs)) (λ xs. ap negates (operators_stay c xs))
      (operators_of (depth_left - 1) fs) (operators_of (depth_left - 1) (query_operators same_types c fs)) (operators_read c fs (depth_left - 1))))
  inverse_read c (array ts) depth_left = refl
  inverse_read c (code_scope s fs) depth_left = refl

  element_read : (c : Codes) (t : Tree) (depth_left : ℕ) → element_operator depth_left (query_element same_types c t) ≡ read_as (renumber_operator c) (element_operator depth_left t)
  element_read c (leaf s) depth_left = refl
  element_read c (doc fs) depth_left =
      element_chosen c (has_value_form fs) depth_left fs refl
      (inner_stays (renumber_operator c) depth_left (read_as (λ xs. has_element (operators_from xs)) (operators_of (depth_left - 1) fs)) _
      (read_on (map (renumber_operator c)) (renumber_operator c) (λ xs. has_element (operators_from xs)) (λ xs. has_element (operators_from xs)) (λ xs. ap has_element (operators_stay c xs))
      (operators_of (depth_left - 1) fs) (operators_of (depth_left - 1) (query_operators same_types c fs)) (operators_read c fs (depth_left - 1))))
      (inner_stays (renumber_operator c) depth_left (read_as (λ xs. has_document (filters_from xs)) (filters_of (depth_left - 1) fs)) _
      (read_on (map (renumber_filter c)) (renumber_operator c) (λ xs. has_document (filters_from xs)) (λ xs. has_document (filters_from xs)) (λ xs. ap has_document (filters_stay c xs))
      (filters_of (depth_left - 1) fs) (filters_of (depth_left - 1) (query_fields same_types c fs)) (filters_read c fs (depth_left - 1))))
  element_read c (array ts) depth_left = refl
  element_read c (code_scope s fs) depth_left = refl

top_read : (c : Codes) (fs : Fields) → read_as (λ xs. all_of (filters_from xs)) (filters_of (most_filter_levels - 1) (query_fields same_types c fs))
    ≡ read_as (renumber_filter c) (read_as (λ xs. all_of (filters_from xs)) (filters_of (most_filter_levels - 1) fs))
top_read c fs =
    read_on (map (renumber_filter c)) (renumber_filter c) (λ xs. all_of (filters_from xs)) (λ xs. all_of (filters_from xs)) (λ xs. ap all_of (filters_stay c xs))
    (filters_of (most_filter_levels - 1) fs) (filters_of (most_filter_levels - 1) (query_fields same_types c fs)) (filters_read c fs (most_filter_levels - 1))

pub query_read : (c : Codes) (d : Doc) → filter_of (renumber_query c d) ≡ read_as (renumber_filter c) (filter_of d)
query_read c d = ap (λ fs. read_as (λ xs. all_of (filters_from xs)) (filters_of (most_filter_levels - 1) fs)) (fields_of-pairs_of (query_fields same_types c (fields_of d))) ∙ top_read c (fields_of d)

-- ---- requests

module _ (c : Codes) (query sort : Doc) (skip limit : ℕ) where
  abbrev other : List ℕ
  other = request_text (renumber_query c query) sort skip limit

  counted : (b : Bool) (f : Filter) (ss : List SortPath)
      → cond b (Ok (request_with (renumber_query c query) sort skip limit (renumber_filter c f) ss)) (Err (plain_reason reasons.Range))
      ≡ then_part (cond b (Ok (request_with query sort skip limit f ss)) (Err (plain_reason reasons.Range))) (λ r. Ok (renumber_request c other r))
  counted true f ss = refl
  counted false f ss = refl

  sorted : (ss : Result (List SortPath) Reason) (f : Filter)
      → then_part ss (λ s. cond (nat_le skip greatest_count && nat_le limit greatest_count) (Ok (request_with (renumber_query c query) sort skip limit (renumber_filter c f) s)) (Err (plain_reason reasons.Range)))
      ≡ then_part (then_part ss (λ s. cond (nat_le skip greatest_count && nat_le limit greatest_count) (Ok (request_with query sort skip limit f s)) (Err (plain_reason reasons.Range)))) (λ r. Ok (renumber_request c other r))
  sorted (Ok s) f = counted (nat_le skip greatest_count && nat_le limit greatest_count) f s
  sorted (Err why) f = refl

  -- a request whose query has other numbers is the renumbered request, or it is refused alike
  pub request_read : request_of (renumber_query c query) sort skip limit ≡ then_part (request_of query sort skip limit) (λ r. Ok (renumber_request c other r))
  request_read = ap (λ x. requested x) (query_read c query) ∙ go (filter_of query)
    where
      requested : Result Filter Refusal → Result Request Reason
      requested x = then_part (error_as bad_filter x) (λ f. then_part (ok_or (sort_of sort) (plain_reason reasons.BadSort)) (λ s.
          cond (nat_le skip greatest_count && nat_le limit greatest_count) (Ok (request_with (renumber_query c query) sort skip limit f s)) (Err (plain_reason reasons.Range))))

      go : (x : Result Filter Refusal) → then_part (error_as bad_filter (read_as (renumber_filter c) x)) (λ f. then_part (ok_or (sort_of sort) (plain_reason reasons.BadSort)) (λ s.
          cond (nat_le skip greatest_count && nat_le limit greatest_count) (Ok (request_with (renumber_query c query) sort skip limit f s)) (Err (plain_reason reasons.Range))))
          ≡ then_part (then_part (error_as bad_filter x) (λ f. then_part (ok_or (sort_of sort) (plain_reason reasons.BadSort)) (λ s.
          cond (nat_le skip greatest_count && nat_le limit greatest_count) (Ok (request_with query sort skip limit f s)) (Err (plain_reason reasons.Range))))) (λ r. Ok (renumber_request c other r))
      go (Ok f) = sorted (ok_or (sort_of sort) (plain_reason reasons.BadSort)) f
      go (Err why) = refl
