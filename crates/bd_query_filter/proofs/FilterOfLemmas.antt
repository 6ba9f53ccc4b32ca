-- Parts that are read in turn, and look-ups in a table.
use Rattle.std.proofs.Common.{◌≡◌, ◌≢◌, ℕ, zero, suc, ◌-◌, Bool, true, false, ◌||◌, cond, length, Option, Some, None, if◌then◌else◌, List, [], ◌∷◌, ◌++◌, Result, Ok}
use Rattle.std.proofs.Common.{Err, map, refl, sym, ap, ◌∙◌, subst, append_assoc, append-nil, Bor, option_map, rules, Vec}
use Rattle.std.proofs.lemmas.List.{map_push}
use Rattle.std.specs.{List.find, declared.alloc.Global.Global}
use Rattle.bd_value.specs.{Limits.most_filter_levels, View.kind_of, Tree.AreParts, Tree.length_of, Tree.values_of, declared.node.Kind.Kind}
use Rattle.bd_value.specs.Tree.{Tree, leaf, doc, array, code_scope, Doc, Fields, Items, no_items, item, fields_of, items_of, list_of, fields_of-pairs_of, pairs_of}
use Rattle.bd_value.specs.Tree.{items_of-list_of}
use Rattle.bd_value.specs.Tree as trees
use Rattle.bd_value.specs.declared.node.Kind.TheVariants as kinds
use Rattle.bd_query_filter.specs.Fault.{Refusal, refusal_of, deeper}
use Rattle.bd_query_filter.specs.inside.Fault.{StopsAt, ReportsMisfit}
use Rattle.bd_query_filter.specs.{declared.fault.FilterFault.FilterFault, declared.fault.Stop.Stop, declared.filter.Filter.Filter, declared.filter.Filter.TheVariants.And, declared.filter.Operator.Operator}
use Rattle.bd_query_filter.specs.{declared.filter.Operator.TheVariants.Not, declared.filter.Operator.TheVariants.ElemMatch}
use Rattle.bd_query_filter.specs.{declared.filter.Operator.TheVariants.ElemMatchDocument}
use Rattle.bd_query_filter.specs.FilterOf.{all_kinds, element_operator, filter_of, filters_of, has_operators, has_value_form, is_bound, is_regex, member_filter}
use Rattle.bd_query_filter.specs.FilterOf.{member_filters, member_values, members_of, inner_part, not_operator, operand_filters, operand_kinds, operators_of, path_operators}
use Rattle.bd_query_filter.specs.FilterOf.{read_as, read_at, unless_omitted}
use Rattle.bd_query_filter.specs.Filter.{all_of, filters_from, has_document, has_element, negates, operators_from, has_type, filter_tree, operator_tree}
use Rattle.bd_query_filter.specs.declared.fault.FilterFaultKind.TheVariants as faults
use Rattle.bd_query_filter.specs.declared.fault.Stop.TheVariants as stops
use Rattle.bd_query_filter.specs.declared.filter.Filter.TheFolds as folds
use Rattle.bd_query_filter.specs.declared.filter.Operator.TheVariants as operators

-- parts that were read, and those after them
abbrev pub joined : {A : Type 0} → List A → Result (List A) Refusal → Result (List A) Refusal
joined xs (Ok ys) = Ok (xs ++ ys)
joined xs (Err r) = Err r

one_more : {A : Type 0} (xs : List A) (name : List ℕ) (x : A) (rest : Result (List A) Refusal) → joined xs (read_at name (Ok x) rest) ≡ joined (xs ++ x ∷ []) rest
one_more xs name x (Ok ys) = ap (λ l. Ok l) (sym (append_assoc xs (x ∷ []) ys))
one_more xs name x (Err r) = refl

no_more : {A : Type 0} (xs : List A) → joined xs (Ok []) ≡ Ok xs
no_more xs = ap (λ l. Ok l) (append-nil xs)

pub none_yet : {A : Type 0} (rest : Result (List A) Refusal) → joined [] rest ≡ rest
none_yet (Ok ys) = refl
none_yet (Err r) = refl

-- for parts in memory: none was read yet, one more was read, and all were read
pub none_read : {A B : Type 0} (view : A → B) (xs : List A) (whole : Result (List B) Refusal) → xs ≡ [] → joined (map view xs) whole ≡ whole
none_read view xs whole none = ap (λ ys. joined (map view ys) whole) none ∙ none_yet whole

-- one more part was read, before those that remain
pub one_read : {A B : Type 0} (view : A → B) (xs ys : List A) (x : A) (name : List ℕ) (part : Result B Refusal) (remaining rest whole : Result (List B) Refusal)
    → ys ≡ xs ++ x ∷ [] → part ≡ Ok (view x) → remaining ≡ read_at name part rest → joined (map view xs) remaining ≡ whole → joined (map view ys) rest ≡ whole
one_read view xs ys x name part remaining rest whole pushed is next so_far =
    ap (λ zs. joined (map view zs) rest) pushed ∙ ap (λ zs. joined zs rest) (map_push view xs x) ∙ sym (one_more (map view xs) name (view x) rest)
    ∙ sym (ap (joined (map view xs)) (next ∙ ap (λ p. read_at name p rest) is)) ∙ so_far

-- all parts were read, and none remains
pub all_read : {B : Type 0} (xs : List B) (rest whole : Result (List B) Refusal) → joined xs rest ≡ whole → rest ≡ Ok [] → whole ≡ Ok xs
all_read xs rest whole so_far none = sym so_far ∙ ap (joined xs) none ∙ no_more xs

-- the refusal of a part under a name is the refusal of the whole
pub refused : {A : Type 0} (xs : List A) (name : List ℕ) (part : Result A Refusal) (remaining rest whole : Result (List A) Refusal) (stop result : Stop)
    → remaining ≡ read_at name part rest → joined xs remaining ≡ whole → ((r : Refusal) → ReportsMisfit stop r → ReportsMisfit result (deeper name r))
    → StopsAt stop part → StopsAt result whole
refused xs name part remaining rest whole stop stops.NoMemory next is reports at = tt
refused xs name part remaining rest whole stops.NoMemory (stops.Fault f) next is reports at =
    let one = reports (record { kind = faults.Path; place = [] }) tt in
    let other = reports (record { kind = faults.TooDeep; place = [] }) tt in
    let same : faults.Path ≡ faults.TooDeep = ap (λ (r : Refusal). r.kind) one ∙ sym (ap (λ (r : Refusal). r.kind) other) in
    absurd cc
refused xs name part remaining rest whole (stops.Fault k) (stops.Fault f) next is reports at =
    sym is ∙ ap (joined xs) (next ∙ ap (λ p. read_at name p rest) at) ∙ ap (λ r. Err r) (reports (refusal_of k) refl)

-- ---- operands that are values

pub ordered_is : (t : Tree) → kind_of t ≢ kinds.Regex → kind_of t ≢ kinds.MinKey → kind_of t ≢ kinds.MaxKey
    → unless_omitted (is_regex t || is_bound t) t ≡ Ok t
ordered_is (leaf (trees.regex p o)) regex least greatest = absurd (regex refl)
ordered_is (leaf trees.min_key) regex least greatest = absurd (least refl)
ordered_is (leaf trees.max_key) regex least greatest = absurd (greatest refl)
ordered_is t regex least greatest = refl

-- ---- the array of `$in`, `$nin` and `$all`

pub members_start : (t : Tree) (ps : Doc) → kind_of t ≡ kinds.Array → AreParts t ps
    → joined [] (member_values 0 (items_of (values_of ps))) ≡ members_of t
members_start (leaf s) ps is are = absurd are
members_start (doc fs) ps is are = absurd cc
members_start (array ts) ps is are =
    none_yet (member_values 0 (items_of (values_of ps))) ∙ ap (λ vs. member_values 0 (items_of vs)) are ∙ ap (member_values 0) (items_of-list_of ts)
members_start (code_scope s fs) ps is are = absurd are

-- ---- parts that are read as others

pub stops_as : {A B : Type 0} (f : A → B) (part : Result A Refusal) (whole : Result B Refusal) (stop : Stop)
    → whole ≡ read_as f part → StopsAt stop part → StopsAt stop whole
stops_as f part whole stops.NoMemory is at = tt
stops_as f part whole (stops.Fault m) is at = is ∙ ap (read_as f) at

pub refused_for : {A B : Type 0} (f : A → B) (part : Result A Refusal) (whole : Result B Refusal) (stop : Stop) (fault : FilterFault)
    → whole ≡ read_as f part → StopsAt stop part → stop ≡ stops.Fault fault → whole ≡ Err (refusal_of fault)
refused_for f part whole stop fault is at e = subst (λ s. StopsAt s whole) e (stops_as f part whole stop is at)

with_depth_left : {A : Type 0} (depth_left : ℕ) (part : Result A Refusal) → depth_left ≢ 0 → inner_part depth_left part ≡ part
with_depth_left zero part some = absurd (some refl)
with_depth_left (suc depth_left) part some = refl

-- a function of a document's fields, by its parts
fields_are : {A : Type 0} (f : Fields → A) (fs : Fields) (ps : Doc) → AreParts (doc fs) ps → f fs ≡ f (fields_of ps)
fields_are f fs ps are = ap f (sym (fields_of-pairs_of fs) ∙ ap fields_of (sym are))

-- the same for a document one level down
inner_is : {A B : Type 0} (depth_left : ℕ) (f : A → B) (g : Fields → Result A Refusal) (fs : Fields) (ps : Doc) → AreParts (doc fs) ps → depth_left ≢ 0
    → inner_part depth_left (read_as f (g fs)) ≡ read_as f (g (fields_of ps))
inner_is depth_left f g fs ps are some = with_depth_left depth_left (read_as f (g fs)) some ∙ fields_are (λ gs. read_as f (g gs)) fs ps are

pub operators_are : (depth_left : ℕ) (t : Tree) (ps : Doc) → has_operators t ≡ true → AreParts t ps → path_operators depth_left t ≡ operators_of depth_left (fields_of ps)
operators_are depth_left (leaf s) ps has are = absurd are
operators_are depth_left (doc fs) ps has are = rw has (fields_are (operators_of depth_left) fs ps are)
operators_are depth_left (array ts) ps has are = absurd cc
operators_are depth_left (code_scope s fs) ps has are = absurd are

pub negation_is : (depth_left : ℕ) (t : Tree) (ps : Doc) → has_operators t ≡ true → AreParts t ps → depth_left ≢ 0
    → not_operator depth_left t ≡ read_as (λ xs. negates (operators_from xs)) (operators_of (depth_left - 1) (fields_of ps))
negation_is depth_left (leaf s) ps has are some = absurd are
negation_is depth_left (doc fs) ps has are some = rw has (inner_is depth_left (λ xs. negates (operators_from xs)) (operators_of (depth_left - 1)) fs ps are some)
negation_is depth_left (array ts) ps has are some = absurd cc
negation_is depth_left (code_scope s fs) ps has are some = absurd are

pub member_is : (depth_left : ℕ) (t : Tree) (ps : Doc) → kind_of t ≡ kinds.Doc → AreParts t ps → depth_left ≢ 0
    → member_filter depth_left t ≡ read_as (λ xs. all_of (filters_from xs)) (filters_of (depth_left - 1) (fields_of ps))
member_is depth_left (leaf s) ps is are some = absurd are
member_is depth_left (doc fs) ps is are some = inner_is depth_left (λ xs. all_of (filters_from xs)) (filters_of (depth_left - 1)) fs ps are some
member_is depth_left (array ts) ps is are some = absurd cc
member_is depth_left (code_scope s fs) ps is are some = absurd are

element_form : (depth_left : ℕ) (fs : Fields) (ps : Doc) (b : Bool) → AreParts (doc fs) ps → has_value_form fs ≡ b → depth_left ≢ 0
    → element_operator depth_left (doc fs) ≡ (if b then read_as (λ xs. has_element (operators_from xs)) (operators_of (depth_left - 1) (fields_of ps))
    else read_as (λ xs. has_document (filters_from xs)) (filters_of (depth_left - 1) (fields_of ps)))
element_form depth_left fs ps true are form some = rw form (inner_is depth_left (λ xs. has_element (operators_from xs)) (operators_of (depth_left - 1)) fs ps are some)
element_form depth_left fs ps false are form some = rw form (inner_is depth_left (λ xs. has_document (filters_from xs)) (filters_of (depth_left - 1)) fs ps are some)

pub element_is : (depth_left : ℕ) (t : Tree) (ps : Doc) (b : Bool) → kind_of t ≡ kinds.Doc → AreParts t ps → has_value_form (fields_of ps) ≡ b → depth_left ≢ 0
    → element_operator depth_left t ≡ (if b then read_as (λ xs. has_element (operators_from xs)) (operators_of (depth_left - 1) (fields_of ps))
    else read_as (λ xs. has_document (filters_from xs)) (filters_of (depth_left - 1) (fields_of ps)))
element_is depth_left (leaf s) ps b is are form some = absurd are
element_is depth_left (doc fs) ps b is are form some = element_form depth_left fs ps b are (fields_are has_value_form fs ps are ∙ form) some
element_is depth_left (array ts) ps b is are form some = absurd cc
element_is depth_left (code_scope s fs) ps b is are form some = absurd are

some_members : (depth_left : ℕ) (ts : Items) → length (list_of ts) ≢ 0 → operand_filters depth_left (array ts) ≡ member_filters depth_left 0 ts
some_members depth_left no_items some = absurd (some refl)
some_members depth_left (item t ts) some = refl

pub operand_is : (depth_left : ℕ) (t : Tree) (ps : Doc) → kind_of t ≡ kinds.Array → AreParts t ps → length_of t ≢ 0
    → operand_filters depth_left t ≡ member_filters depth_left 0 (items_of (values_of ps))
operand_is depth_left (leaf s) ps is are some = absurd are
operand_is depth_left (doc fs) ps is are some = absurd cc
operand_is depth_left (array ts) ps is are some =
    some_members depth_left ts some ∙ ap (member_filters depth_left 0) (sym (items_of-list_of ts) ∙ ap items_of (sym are))
operand_is depth_left (code_scope s fs) ps is are some = absurd are

-- ---- the operand of `$type`

-- kinds after those so far
abbrev pub more_kinds : List Kind → Option (List Kind) → Option (List Kind)
more_kinds so_far kinds = option_map (λ more. so_far ++ more) kinds

kinds_after_none : (kinds : Option (List Kind)) → more_kinds [] kinds ≡ kinds
kinds_after_none None = refl
kinds_after_none (Some kinds) = refl

some_types_of : (ts : Items) → length (list_of ts) ≢ 0 → operand_kinds (array ts) ≡ all_kinds ts
some_types_of no_items some = absurd (some refl)
some_types_of (item t ts) some = refl

pub some_types : (t : Tree) (ps : Doc) → kind_of t ≡ kinds.Array → AreParts t ps → length_of t ≢ 0
    → operand_kinds t ≡ more_kinds [] (all_kinds (items_of (values_of ps)))
some_types (leaf s) ps is are some = absurd are
some_types (doc fs) ps is are some = absurd cc
some_types (array ts) ps is are some =
    some_types_of ts some ∙ ap all_kinds (sym (items_of-list_of ts) ∙ ap items_of (sym are)) ∙ sym (kinds_after_none (all_kinds (items_of (values_of ps))))
some_types (code_scope s fs) ps is are some = absurd are

-- ---- a whole document

pub whole_is : (d ps : Doc) → ps ≡ pairs_of (fields_of d) → filter_of d ≡ read_as (λ xs. all_of (filters_from xs)) (filters_of (most_filter_levels - 1) (fields_of ps))
whole_is d ps is =
    ap (λ fs. read_as (λ xs. all_of (filters_from xs)) (filters_of (most_filter_levels - 1) fs)) (sym (fields_of-pairs_of (fields_of d)) ∙ ap fields_of (sym is))

-- ---- a look-up in a table of the code

row_step : {R S A : Type 0} (see : R → S) (f : S → A) (b : Bool) (row : R) (x : Option R) (y : Option S) → option_map (λ r. f (see r)) x ≡ option_map f y
    → option_map (λ r. f (see r)) (cond b (Some row) x) ≡ option_map f (cond b (Some (see row)) y)
row_step see f true row x y e = refl
row_step see f false row x y e = e

row_first : {R S A : Type 0} (see : R → S) (test : S → Bool) (f : S → A) (rows : List R)
    → option_map (λ row. f (see row)) (find (λ row. test (see row)) rows) ≡ option_map f (find test (map see rows))
row_first see test f [] = refl
row_first see test f (row ∷ rows) = row_step see f (test (see row)) row (find (λ x. test (see x)) rows) (find test (map see rows)) (row_first see test f rows)

-- f of the row that was found, in the table as definitions have it
pub row_found : {R S A : Type 0} (see : R → S) (test : S → Bool) (f : S → A) (rows : List R) (found : Option (Bor R))
    → option_map (λ row. row.now) found ≡ find (λ row. test (see row)) rows
    → option_map (λ row. f (see row.now)) found ≡ option_map f (find test (map see rows))
row_found see test f rows None is = ap (option_map (λ row. f (see row))) is ∙ row_first see test f rows
row_found see test f rows (Some row) is = ap (option_map (λ row. f (see row))) is ∙ row_first see test f rows

pub else_is : {A : Type 0} (b : Bool) (x y : A) → b ≡ false → y ≡ cond b x y
else_is true x y is = absurd cc
else_is false x y is = refl

-- ---- filters in memory, one level at a time

-- the filter of `$and` in memory is that of its members
pub filter_tree-And : (v : Vec Filter Global) → filter_tree (And v) ≡ all_of (filters_from (map filter_tree v.items))
filter_tree-And v = search (rules, folds.the_lemmas)

pub operator_tree-Not : (v : Vec Operator Global) → operator_tree (Not v) ≡ negates (operators_from (map operator_tree v.items))
operator_tree-Not v = search (rules, folds.the_lemmas)

-- the operator of `$elemMatch` in memory is that of its operators
pub operator_tree-ElemMatch : (v : Vec Operator Global) → operator_tree (ElemMatch v) ≡ has_element (operators_from (map operator_tree v.items))
operator_tree-ElemMatch v = search (rules, folds.the_lemmas)

-- the operator of `$elemMatch` in memory is that of its filters
pub operator_tree-ElemMatchDocument : (v : Vec Filter Global) → operator_tree (ElemMatchDocument v) ≡ has_document (filters_from (map filter_tree v.items))
operator_tree-ElemMatchDocument v = search (rules, folds.the_lemmas)

pub operator_tree-Type : (v : Vec Kind Global) → operator_tree (operators.Type v) ≡ has_type v.items
operator_tree-Type v = search (rules, folds.the_lemmas)
