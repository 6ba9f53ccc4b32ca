-- By classes a `$type` accepts a number exactly if it names the type of the number.
use Rattle.std.proofs.Common.{◌≡◌, ◌≢◌, ◌⊎◌, ◌∙◌, ℕ, ℤ, List, [], ◌∷◌, ◌++◌, Bool, true, false, cond, Option, Some, None, option_map, refl, sym, ap, ap₂, subst, inl, inr}
use Rattle.std.specs.Prelude.{codes, not, ◌||◌, ◌&&◌, if◌then◌else◌}
use Rattle.std.specs.{Bool.beq, List.find, List.list_all, List.list_any, Option.option_and_then, Ordering.int_eq, Str.bytes_eq}
use Rattle.std.proofs.lemmas.Bool.{and_parts, false_from_ne_true, not-false, not-true, or_cases, or_left, or_parts, or_right, true≢false}
use Rattle.std.proofs.lemmas.Bool.Decides.{Decides-int_eq}
use Rattle.std.proofs.lemmas.List.Folds.{list_any-append}
use Rattle.std.proofs.lemmas.Slice.Eq.{bytes_eq-Decides}
use denote.Enum.Bare.{same_true}
use Rattle.bd_value.specs.contracts.node.Kind.{the_type}
use Rattle.bd_value.specs.declared.node.Kind.{Kind}
use Rattle.bd_value.specs.declared.node.Kind.TheVariants as kinds
use Rattle.bd_value.specs.Tree.{int32, int64, text, Tree, leaf, doc, array, code_scope, Items, no_items, item, list_of, Fields, no_fields, field}
use Rattle.bd_value.specs.View.{kind_of}
use Rattle.bd_query_filter.specs.FilterMatch.{is_of_type}
use Rattle.bd_query_filter.specs.FilterOf.{all_kinds, operand_kinds, type_kinds}
use Rattle.bd_query_filter.specs.NameKind.{is_kind, kinds_named, kinds_numbered, query_types}
use Rattle.bd_wide_copy.specs.Classes.{in_class, is_long}
use Rattle.bd_wide_copy.specs.declared.longs.Longs.{Longs}
use Rattle.bd_wide_query.specs.Types.{FieldsHaveOperand, HasOperand, ItemsHaveOperand, class_instead, each_by_class, element_type, fields_are_alike, has_longs, is_alike}
use Rattle.bd_wide_query.specs.Types.{is_alike_at, is_alone, is_number_name, is_type, items_are_alike, longs_of, names_type, type_alone, type_by_class, type_code, type_name, types_by_class}
use Rattle.bd_wide_query.specs.declared.types.NumberType.{NumberType}
use Rattle.bd_wide_query.specs.declared.types.NumberType.TheVariants as types

-- ---- the kinds of types of whole numbers

-- whether a kind is one of some
abbrev has : Kind → List Kind → Bool
has k ks = list_any (λ x. is_kind x k) ks

-- the kind of the numbers of a class, and the type that has only it
abbrev kind_in : Bool → Kind
kind_in b = cond b kinds.Int64 kinds.Int32

abbrev type_in : Bool → NumberType
type_in b = cond b types.Long types.Int

-- whether a row of the types has the kind of a class only if it is the type that has only it
abbrev whole_row : Bool → ℤ × List ℕ × List Kind → Bool
whole_row b row = not (has (kind_in b) row.2) || (int_eq row.0 (type_code (type_in b)) && bytes_eq row.1 (type_name (type_in b)))

rows_are : (b : Bool) → list_all (whole_row b) query_types ≡ true
rows_are true = refl
rows_are false = refl

row_is : (b : Bool) (row : ℤ × List ℕ × List Kind) → whole_row b row ≡ true → has (kind_in b) row.2 ≡ true → (row.0 ≡ type_code (type_in b)) × (row.1 ≡ type_name (type_in b))
row_is b row e h = go (or_cases (not (has (kind_in b) row.2)) _ e)
  where
    go : (not (has (kind_in b) row.2) ≡ true) ⊎ ((int_eq row.0 (type_code (type_in b)) && bytes_eq row.1 (type_name (type_in b))) ≡ true)
        → (row.0 ≡ type_code (type_in b)) × (row.1 ≡ type_name (type_in b))
    go (inl none) = absurd (true≢false (sym h ∙ not-true (has (kind_in b) row.2) none))
    go (inr is) =
        let (number, name) = and_parts (int_eq row.0 (type_code (type_in b))) _ is in
        ((Decides-int_eq row.0 (type_code (type_in b))).0 number, (bytes_eq-Decides row.1 (type_name (type_in b))).0 name)

found_row : (p q : ℤ × List ℕ × List Kind → Bool) (rows : List (ℤ × List ℕ × List Kind)) (row : ℤ × List ℕ × List Kind) → list_all q rows ≡ true → find p rows ≡ Some row
    → (q row ≡ true) × (p row ≡ true)
found_row p q [] row all e = absurd cc
found_row p q (r ∷ rows) row all e = go (found_row p q rows row (and_parts (q r) _ all).1) (p r) refl e
  where
    go : (find p rows ≡ Some row → (q row ≡ true) × (p row ≡ true)) → (b : Bool) → p r ≡ b → cond b (Some r) (find p rows) ≡ Some row → (q row ≡ true) × (p row ≡ true)
    go later true is f = let same : r ≡ row = cc in (ap q (sym same) ∙ (and_parts (q r) _ all).0, ap p (sym same) ∙ is)
    go later false is f = later f

row_of : (o : Option (ℤ × List ℕ × List Kind)) (ks : List Kind) → option_map (λ row. row.2) o ≡ Some ks → (row : ℤ × List ℕ × List Kind) × (o ≡ Some row) × (row.2 ≡ ks)
row_of (Some row) ks e = (row, refl, cc)
row_of None ks e = absurd cc

named_whole : (b : Bool) (s : List ℕ) (ks : List Kind) → kinds_named s ≡ Some ks → has (kind_in b) ks ≡ true → is_type (type_in b) (leaf (text s)) ≡ true
unfolding kinds_named
named_whole b s ks e h = go (bytes_eq s (codes "number")) refl e
  where
    go : (number : Bool) → bytes_eq s (codes "number") ≡ number
        → cond number (Some (kinds.Int32 ∷ kinds.Int64 ∷ [])) (option_map (λ row. row.2) (find (λ row. bytes_eq row.1 s) query_types)) ≡ Some ks
        → is_type (type_in b) (leaf (text s)) ≡ true
    go true is f = or_right (is_alone (type_in b) (leaf (text s))) _ is
    go false is f =
        let (row, found, same) = row_of (find (λ row. bytes_eq row.1 s) query_types) ks f in
        let (whole, passes) = found_row (λ row. bytes_eq row.1 s) (whole_row b) query_types row (rows_are b) found in
        let name = (row_is b row whole (ap (has (kind_in b)) same ∙ h)).1 in
        or_left (is_alone (type_in b) (leaf (text s))) _ ((bytes_eq-Decides s (type_name (type_in b))).1 (sym ((bytes_eq-Decides row.1 s).0 passes) ∙ name))

numbered_whole : (b : Bool) (z : ℤ) (ks : List Kind) → kinds_numbered z ≡ Some ks → has (kind_in b) ks ≡ true → int_eq z (type_code (type_in b)) ≡ true
unfolding kinds_numbered
numbered_whole b z ks e h =
    let (row, found, same) = row_of (find (λ row. int_eq row.0 z) query_types) ks e in
    let (whole, passes) = found_row (λ row. int_eq row.0 z) (whole_row b) query_types row (rows_are b) found in
    let number = (row_is b row whole (ap (has (kind_in b)) same ∙ h)).0 in
    (Decides-int_eq z (type_code (type_in b))).1 (sym ((Decides-int_eq row.0 z).0 passes) ∙ number)

-- a type that has the kind of a class names the type that has only it
type_whole : (b : Bool) (t : Tree) (ks : List Kind) → type_kinds t ≡ Some ks → has (kind_in b) ks ≡ true → is_type (type_in b) t ≡ true
type_whole b (leaf (text s)) ks e h = named_whole b s ks e h
type_whole b (leaf (int32 z)) ks e h = or_left (is_alone (type_in b) (leaf (int32 z))) _ (numbered_whole b z ks e h)
type_whole b (leaf (int64 z)) ks e h = or_left (is_alone (type_in b) (leaf (int64 z))) _ (numbered_whole b z ks e h)
type_whole b (leaf _) ks e h = absurd cc
type_whole b _ ks e h = absurd cc

-- ---- types that are named alone

-- the types that have a name or a number alone
alone_is : (k : NumberType) (t : Tree) → is_alone k t ≡ true → (t ≡ leaf (text (type_name k))) ⊎ ((t ≡ leaf (int32 (type_code k))) ⊎ (t ≡ leaf (int64 (type_code k))))
alone_is k (leaf (text s)) e = inl (ap (λ (x : List ℕ). leaf (text x)) ((bytes_eq-Decides s (type_name k)).0 e))
alone_is k (leaf (int32 z)) e = inr (inl (ap (λ (x : ℤ). leaf (int32 x)) ((Decides-int_eq z (type_code k)).0 e)))
alone_is k (leaf (int64 z)) e = inr (inr (ap (λ (x : ℤ). leaf (int64 x)) ((Decides-int_eq z (type_code k)).0 e)))
alone_is k (leaf _) e = absurd cc
alone_is k _ e = absurd cc

-- what holds of a type by its name and by its number holds of it alone
alone_has : (P : Tree → Type 0) (k : NumberType) (t : Tree) → P (leaf (text (type_name k))) → P (leaf (int32 (type_code k))) → P (leaf (int64 (type_code k))) → is_alone k t ≡ true → P t
alone_has P k t name narrow wide e = go (alone_is k t e)
  where
    go : (t ≡ leaf (text (type_name k))) ⊎ ((t ≡ leaf (int32 (type_code k))) ⊎ (t ≡ leaf (int64 (type_code k)))) → P t
    go (inl is) = subst P (sym is) name
    go (inr (inl is)) = subst P (sym is) narrow
    go (inr (inr is)) = subst P (sym is) wide

found_alone : (k : NumberType) (t : Tree) → is_alone k t ≡ true → type_alone t ≡ Some k
found_alone types.Double t e = alone_has (λ x. type_alone x ≡ Some types.Double) types.Double t refl refl refl e
found_alone types.Int t e = alone_has (λ x. type_alone x ≡ Some types.Int) types.Int t refl refl refl e
found_alone types.Long t e = alone_has (λ x. type_alone x ≡ Some types.Long) types.Long t refl refl refl e
found_alone types.Decimal t e = alone_has (λ x. type_alone x ≡ Some types.Decimal) types.Decimal t refl refl refl e

is_found : (k : NumberType) (t : Tree) → type_alone t ≡ Some k → is_alone k t ≡ true
is_found k t found = go (is_alone types.Double t) (is_alone types.Int t) (is_alone types.Long t) (is_alone types.Decimal t) refl refl refl refl found
  where
    go : (a b c d : Bool) → is_alone types.Double t ≡ a → is_alone types.Int t ≡ b → is_alone types.Long t ≡ c → is_alone types.Decimal t ≡ d
        → cond a (Some types.Double) (cond b (Some types.Int) (cond c (Some types.Long) (cond d (Some types.Decimal) None))) ≡ Some k → is_alone k t ≡ true
    go true b c d e f g h is = let same : types.Double ≡ k = cc in subst (λ (x : NumberType). is_alone x t ≡ true) same e
    go false true c d e f g h is = let same : types.Int ≡ k = cc in subst (λ (x : NumberType). is_alone x t ≡ true) same f
    go false false true d e f g h is = let same : types.Long ≡ k = cc in subst (λ (x : NumberType). is_alone x t ≡ true) same g
    go false false false true e f g h is = let same : types.Decimal ≡ k = cc in subst (λ (x : NumberType). is_alone x t ≡ true) same h
    go false false false false e f g h is = absurd cc

not_found : (k : NumberType) (t : Tree) → type_alone t ≡ None → is_alone k t ≡ false
not_found k t none = false_from_ne_true (is_alone k t) (λ e. let no : None ≡ Some k = sym none ∙ found_alone k t e in absurd cc)

-- `number` is no type alone, and has both kinds
number_is : (t : Tree) → is_number_name t ≡ true → t ≡ leaf (text (codes "number"))
number_is (leaf (text s)) e = ap (λ (x : List ℕ). leaf (text x)) ((bytes_eq-Decides s (codes "number")).0 e)
number_is (leaf _) e = absurd cc
number_is _ e = absurd cc

number_kinds : type_kinds (leaf (text (codes "number"))) ≡ Some (kinds.Int32 ∷ kinds.Int64 ∷ [])
unfolding kinds_named
number_kinds = refl

both_in : (b : Bool) → has (kind_in b) (kinds.Int32 ∷ kinds.Int64 ∷ []) ≡ true
both_in true = refl
both_in false = refl

class_kinds : (b : Bool) → type_kinds (leaf (text (cond b (codes "long") (codes "int")))) ≡ Some (kind_in b ∷ [])
unfolding kinds_named
class_kinds true = refl
class_kinds false = refl

one_in : (b : Bool) → has (kind_in b) (kind_in b ∷ []) ≡ true
one_in true = refl
one_in false = refl

same_in : (a b : Bool) → has (kind_in a) (kind_in b ∷ []) ≡ true → b ≡ a
same_in true true h = refl
same_in false false h = refl
same_in true false h = absurd cc
same_in false true h = absurd cc

int_kinds : (t : Tree) → is_alone types.Int t ≡ true → type_kinds t ≡ Some (kinds.Int32 ∷ [])
unfolding kinds_named kinds_numbered
int_kinds t e = alone_has (λ x. type_kinds x ≡ Some (kinds.Int32 ∷ [])) types.Int t refl refl refl e

-- ---- one type by classes

module _ (longs : Longs) where
  abbrev class : NumberType → Bool
  class k = is_long longs (element_type k)

  -- no type is long
  none_long : has_longs longs ≡ false → (k : NumberType) → class k ≡ false
  none_long e types.Double = (or_parts longs.double _ (or_parts (longs.double || longs.int64) _ e).0).0
  none_long e types.Int = refl
  none_long e types.Long = (or_parts longs.double _ (or_parts (longs.double || longs.int64) _ e).0).1
  none_long e types.Decimal = (or_parts (longs.double || longs.int64) _ e).1

  -- The type by classes has the kind of a class only if the type names one of the class.
  abbrev NamesOne : NumberType → (NumberType → Bool) → Type 0
  NamesOne k names = (j : NumberType) × (class j ≡ class k) × (names j ≡ true)

  named_by : (t : Tree) (k : NumberType) (ks : List Kind) → type_kinds (type_by_class longs t) ≡ Some ks → has (kind_in (class k)) ks ≡ true → NamesOne k (λ j. is_type j t)
  named_by t k ks e h = go (has_longs longs) refl e
    where
      with_longs : (o : Option NumberType) → type_alone t ≡ o → type_kinds (class_instead longs t o) ≡ Some ks → NamesOne k (λ j. is_type j t)
      with_longs (Some j) is f =
          let only : Some (kind_in (class j) ∷ []) ≡ Some ks = sym (class_kinds (class j)) ∙ f in
          let same : kind_in (class j) ∷ [] ≡ ks = cc in
          (j, same_in (class k) (class j) (ap (has (kind_in (class k))) same ∙ h), or_left (is_alone j t) _ (is_found j t is))
      with_longs None is f = of_number (or_cases (is_alone (type_in (class k)) t) _ (type_whole (class k) t ks f h))
        where
          of_number : (is_alone (type_in (class k)) t ≡ true) ⊎ (is_number_name t ≡ true) → NamesOne k (λ j. is_type j t)
          of_number (inl alone) = absurd (true≢false (sym alone ∙ not_found (type_in (class k)) t is))
          of_number (inr number) = (k, refl, or_right (is_alone k t) _ number)

      go : (b : Bool) → has_longs longs ≡ b → type_kinds (cond b (class_instead longs t (type_alone t)) t) ≡ Some ks → NamesOne k (λ j. is_type j t)
      go true is f = with_longs (type_alone t) refl f
      go false is f =
          let short = none_long is k in
          (types.Int, sym short, type_whole false t ks f (ap (λ (b : Bool). has (kind_in b) ks) (sym short) ∙ h))

  -- and if it does
  has_named : (t : Tree) (k : NumberType) (ks : List Kind) → (has_longs longs ≡ true) ⊎ (k ≡ types.Int) → type_kinds (type_by_class longs t) ≡ Some ks → is_type k t ≡ true
      → has (kind_in (class k)) ks ≡ true
  has_named t k ks which e named = go (has_longs longs) refl (or_cases (is_alone k t) _ named) e
    where
      both_there : (x : Tree) → type_kinds x ≡ Some ks → x ≡ leaf (text (codes "number")) → has (kind_in (class k)) ks ≡ true
      both_there x f is =
          let all : Some (kinds.Int32 ∷ kinds.Int64 ∷ []) ≡ Some ks = sym number_kinds ∙ ap type_kinds (sym is) ∙ f in
          let same : kinds.Int32 ∷ kinds.Int64 ∷ [] ≡ ks = cc in
          ap (has (kind_in (class k))) (sym same) ∙ both_in (class k)

      int_only : (has_longs longs ≡ true) ⊎ (k ≡ types.Int) → has_longs longs ≡ false → k ≡ types.Int
      int_only (inl long) is = absurd (true≢false (sym long ∙ is))
      int_only (inr int) is = int

      go : (b : Bool) → has_longs longs ≡ b → (is_alone k t ≡ true) ⊎ (is_number_name t ≡ true) → type_kinds (cond b (class_instead longs t (type_alone t)) t) ≡ Some ks
          → has (kind_in (class k)) ks ≡ true
      go true is (inl alone) f =
          let only : Some (kind_in (class k) ∷ []) ≡ Some ks =
          sym (class_kinds (class k)) ∙ ap (λ (o : Option NumberType). type_kinds (class_instead longs t o)) (sym (found_alone k t alone)) ∙ f in
          let same : kind_in (class k) ∷ [] ≡ ks = cc in
          ap (has (kind_in (class k))) (sym same) ∙ one_in (class k)
      go true is (inr number) f =
          both_there t (ap (λ (o : Option NumberType). type_kinds (class_instead longs t o)) (sym (ap type_alone (number_is t number))) ∙ f) (number_is t number)
      go false is (inl alone) f =
          let int = int_only which is in
          let only : Some (kinds.Int32 ∷ []) ≡ Some ks = sym (int_kinds t (ap (λ (j : NumberType). is_alone j t) (sym int) ∙ alone)) ∙ f in
          let same : kinds.Int32 ∷ [] ≡ ks = cc in
          ap (λ (j : NumberType). has (kind_in (class j)) ks) int ∙ ap (has kinds.Int32) (sym same)
      go false is (inr number) f = both_there t f (number_is t number)

  -- ---- an operand by classes

  -- both parts of the types of an array
  two_parts : (a b : Option (List Kind)) (ks : List Kind) → option_and_then (λ xs. option_map (λ more. xs ++ more) b) a ≡ Some ks
      → (x : List Kind) × (y : List Kind) × (a ≡ Some x) × (b ≡ Some y) × (ks ≡ x ++ y)
  two_parts (Some x) (Some y) ks e = (x, y, refl, refl, cc)
  two_parts (Some x) None ks e = absurd cc
  two_parts None b ks e = absurd cc

  leaf_kinds : (t : Tree) (ks : List Kind) → type_kinds (types_by_class longs t) ≡ Some ks → type_kinds (type_by_class longs t) ≡ Some ks
  leaf_kinds (leaf s) ks e = e
  leaf_kinds (doc fs) ks e = absurd cc
  leaf_kinds (array ts) ks e = absurd cc
  leaf_kinds (code_scope s fs) ks e = absurd cc

  items_named : (ts : Items) (k : NumberType) (ks : List Kind) → all_kinds (each_by_class longs ts) ≡ Some ks → has (kind_in (class k)) ks ≡ true
      → NamesOne k (λ j. list_any (is_type j) (list_of ts))
  items_named no_items k ks e h = let none : [] ≡ ks = cc in absurd (true≢false (sym h ∙ ap (has (kind_in (class k))) (sym none)))
  items_named (item t ts) k ks e h =
      let (x, y, first, rest, same) = two_parts (type_kinds (types_by_class longs t)) (all_kinds (each_by_class longs ts)) ks e in
      go y (items_named ts k y rest) x first (or_cases (has (kind_in (class k)) x) (has (kind_in (class k)) y) (sym (list_any-append _ x y) ∙ ap (has (kind_in (class k))) (sym same) ∙ h))
    where
      go : (y : List Kind) → (has (kind_in (class k)) y ≡ true → NamesOne k (λ j. list_any (is_type j) (list_of ts))) → (x : List Kind) → type_kinds (types_by_class longs t) ≡ Some x
          → (has (kind_in (class k)) x ≡ true) ⊎ (has (kind_in (class k)) y ≡ true) → NamesOne k (λ j. list_any (is_type j) (list_of (item t ts)))
      go y later x first (inl here) =
          let (j, alike, named) = named_by t k x (leaf_kinds t x first) here in
          (j, alike, or_left (is_type j t) _ named)
      go y later x first (inr there) =
          let (j, alike, named) = later there in
          (j, alike, or_right (is_type j t) _ named)

  items_have : (ts : Items) (k : NumberType) (ks : List Kind) → (has_longs longs ≡ true) ⊎ (k ≡ types.Int) → all_kinds (each_by_class longs ts) ≡ Some ks
      → list_any (is_type k) (list_of ts) ≡ true → has (kind_in (class k)) ks ≡ true
  items_have no_items k ks which e named = absurd cc
  items_have (item t ts) k ks which e named =
      let (x, y, first, rest, same) = two_parts (type_kinds (types_by_class longs t)) (all_kinds (each_by_class longs ts)) ks e in
      ap (has (kind_in (class k))) same ∙ list_any-append _ x y ∙ go y (items_have ts k y which rest) x first (or_cases (is_type k t) (list_any (is_type k) (list_of ts)) named)
    where
      go : (y : List Kind) → (list_any (is_type k) (list_of ts) ≡ true → has (kind_in (class k)) y ≡ true) → (x : List Kind) → type_kinds (types_by_class longs t) ≡ Some x
          → (is_type k t ≡ true) ⊎ (list_any (is_type k) (list_of ts) ≡ true) → (has (kind_in (class k)) x || has (kind_in (class k)) y) ≡ true
      go y later x first (inl here) = or_left (has (kind_in (class k)) x) (has (kind_in (class k)) y) (has_named t k x which (leaf_kinds t x first) here)
      go y later x first (inr there) = or_right (has (kind_in (class k)) x) (has (kind_in (class k)) y) (later there)

  -- the kinds of a scalar by classes are those of a type
  scalar_kinds : (t : Tree) (b : Bool) (o : Option NumberType) → operand_kinds t ≡ type_kinds t
      → operand_kinds (cond b (class_instead longs t o) t) ≡ type_kinds (cond b (class_instead longs t o) t)
  scalar_kinds t true (Some k) e = refl
  scalar_kinds t true None e = e
  scalar_kinds t false o e = e

  -- an operand stays one
  type_taken : (t : Tree) (b : Bool) (o : Option NumberType) (ks : List Kind) → type_kinds t ≡ Some ks → (ls : List Kind) × (type_kinds (cond b (class_instead longs t o) t) ≡ Some ls)
  type_taken t true (Some k) ks e = (kind_in (class k) ∷ [], class_kinds (class k))
  type_taken t true None ks e = (ks, e)
  type_taken t false o ks e = (ks, e)

  each_taken : (ts : Items) (ks : List Kind) → all_kinds ts ≡ Some ks → (ls : List Kind) × (all_kinds (each_by_class longs ts) ≡ Some ls)
  each_taken no_items ks e = ([], refl)
  each_taken (item (leaf s) ts) ks e =
      let (x, y, first, rest, same) = two_parts (type_kinds (leaf s)) (all_kinds ts) ks e in
      let (u, head) = type_taken (leaf s) (has_longs longs) (type_alone (leaf s)) x first in
      let (v, tail) = each_taken ts y rest in
      (u ++ v, ap₂ (λ (a b : Option (List Kind)). option_and_then (λ xs. option_map (λ more. xs ++ more) b) a) head tail)
  each_taken (item _ ts) ks e = absurd cc

  pub operand_taken : (t : Tree) (ks : List Kind) → operand_kinds t ≡ Some ks → (ls : List Kind) × (operand_kinds (types_by_class longs t) ≡ Some ls)
  operand_taken (leaf s) ks e =
      let (ls, taken) = type_taken (leaf s) (has_longs longs) (type_alone (leaf s)) ks e in
      (ls, scalar_kinds (leaf s) (has_longs longs) (type_alone (leaf s)) refl ∙ taken)
  operand_taken (array (item t ts)) ks e = each_taken (item t ts) ks e
  operand_taken (array no_items) ks e = absurd cc
  operand_taken (doc fs) ks e = absurd cc
  operand_taken (code_scope s fs) ks e = absurd cc

  operand_named : (t : Tree) (k : NumberType) (ks : List Kind) → operand_kinds (types_by_class longs t) ≡ Some ks → has (kind_in (class k)) ks ≡ true
      → NamesOne k (λ j. names_type j t)
  operand_named (leaf s) k ks e h =
      let (j, alike, named) = named_by (leaf s) k ks (sym (scalar_kinds (leaf s) (has_longs longs) (type_alone (leaf s)) refl) ∙ e) h in
      (j, alike, or_left (is_type j (leaf s)) false named)
  operand_named (array (item t ts)) k ks e h = items_named (item t ts) k ks e h
  operand_named (array no_items) k ks e h = absurd cc
  operand_named (doc fs) k ks e h = absurd cc
  operand_named (code_scope s fs) k ks e h = absurd cc

  operand_has : (t : Tree) (k : NumberType) (ks : List Kind) → (has_longs longs ≡ true) ⊎ (k ≡ types.Int) → operand_kinds (types_by_class longs t) ≡ Some ks
      → names_type k t ≡ true → has (kind_in (class k)) ks ≡ true
  operand_has (leaf s) k ks which e named =
      has_named (leaf s) k ks which (sym (scalar_kinds (leaf s) (has_longs longs) (type_alone (leaf s)) refl) ∙ e) (either (or_cases (is_type k (leaf s)) false named))
    where
      either : (is_type k (leaf s) ≡ true) ⊎ (false ≡ true) → is_type k (leaf s) ≡ true
      either (inl is) = is
      either (inr wrong) = absurd cc
  operand_has (array (item t ts)) k ks which e named = items_have (item t ts) k ks which e named
  operand_has (array no_items) k ks which e named = absurd cc
  operand_has (doc fs) k ks which e named = absurd cc
  operand_has (code_scope s fs) k ks which e named = absurd cc

-- ---- the types of a class are named alike

pub same_bools : (a b : Bool) → beq a b ≡ true → a ≡ b
same_bools true true e = refl
same_bools false false e = refl
same_bools true false e = absurd cc
same_bools false true e = absurd cc

mutual
  alike_in : (j k : NumberType) (u t : Tree) → is_alike j k u ≡ true → HasOperand u t → names_type j t ≡ names_type k t
  alike_in j k (leaf s) t e there = absurd there
  alike_in j k (doc fs) t e there = alike_in_fields j k fs t e there
  alike_in j k (array ts) t e there = alike_in_items j k ts t e there
  alike_in j k (code_scope s fs) t e there = alike_in_fields j k fs t e there

  alike_in_fields : (j k : NumberType) (fs : Fields) (t : Tree) → fields_are_alike j k fs ≡ true → FieldsHaveOperand fs t → names_type j t ≡ names_type k t
  alike_in_fields j k no_fields t e there = absurd there
  alike_in_fields j k (field n u fs) t e (inl here) =
      let first = (and_parts (is_alike_at j k n u) _ (and_parts (is_alike_at j k n u && is_alike j k u) _ e).0).0 in
      same_bools (names_type j t) (names_type k t)
      (ap (λ (x : Tree). beq (names_type j x) (names_type k x)) (sym here.1) ∙ ap (λ (x : List ℕ). is_alike_at j k x u) (sym here.0) ∙ first)
  alike_in_fields j k (field n u fs) t e (inr (inl there)) =
      alike_in j k u t (and_parts (is_alike_at j k n u) _ (and_parts (is_alike_at j k n u && is_alike j k u) _ e).0).1 there
  alike_in_fields j k (field n u fs) t e (inr (inr there)) = alike_in_fields j k fs t (and_parts (is_alike_at j k n u && is_alike j k u) _ e).1 there

  alike_in_items : (j k : NumberType) (ts : Items) (t : Tree) → items_are_alike j k ts ≡ true → ItemsHaveOperand ts t → names_type j t ≡ names_type k t
  alike_in_items j k no_items t e there = absurd there
  alike_in_items j k (item u ts) t e (inl there) = alike_in j k u t (and_parts (is_alike j k u) _ e).0 there
  alike_in_items j k (item u ts) t e (inr there) = alike_in_items j k ts t (and_parts (is_alike j k u) _ e).1 there

-- no `$type` of a query separates the two types, if both are long
abbrev pub is_one_class : Longs → NumberType → NumberType → Fields → Bool
is_one_class longs j k fs = if is_long longs (element_type j) && is_long longs (element_type k) then fields_are_alike j k fs else true

-- two classes of types are enough for a query: no `$type` in it separates two long types, nor two others
abbrev pub has_two_classes : Fields → Bool
has_two_classes fs =
    (is_one_class (longs_of fs) types.Double types.Long fs && is_one_class (longs_of fs) types.Double types.Decimal fs)
    && is_one_class (longs_of fs) types.Long types.Decimal fs

module _ (fs : Fields) (t : Tree) (two : has_two_classes fs ≡ true) (there : FieldsHaveOperand fs t) where
  abbrev longs : Longs
  longs = longs_of fs

  short_alike : (k : NumberType) → class longs k ≡ false → names_type k t ≡ names_type types.Int t
  short_alike types.Double e = sym (alike_in_fields types.Int types.Double fs t (not-false _ e) there)
  short_alike types.Int e = refl
  short_alike types.Long e = sym (alike_in_fields types.Int types.Long fs t (not-false _ e) there)
  short_alike types.Decimal e = sym (alike_in_fields types.Int types.Decimal fs t (not-false _ e) there)

  one_class : (j k : NumberType) → is_one_class longs j k fs ≡ true → class longs j ≡ true → class longs k ≡ true → names_type j t ≡ names_type k t
  one_class j k e a b =
      alike_in_fields j k fs t (sym (ap (λ (x : Bool). cond x (fields_are_alike j k fs) true) (both (class longs j) (class longs k) a b)) ∙ e) there
    where
      both : (x y : Bool) → x ≡ true → y ≡ true → (x && y) ≡ true
      both true y e f = f
      both false y e f = absurd cc

  long_alike : (j k : NumberType) → class longs j ≡ true → class longs k ≡ true → names_type j t ≡ names_type k t
  long_alike j k a b =
      let (pairs_alike, last) = and_parts (is_one_class longs types.Double types.Long fs && is_one_class longs types.Double types.Decimal fs) _ two in
      let (first, second) = and_parts (is_one_class longs types.Double types.Long fs) _ pairs_alike in
      go j k a b first second last
    where
      go : (j k : NumberType) → class longs j ≡ true → class longs k ≡ true → is_one_class longs types.Double types.Long fs ≡ true
          → is_one_class longs types.Double types.Decimal fs ≡ true → is_one_class longs types.Long types.Decimal fs ≡ true → names_type j t ≡ names_type k t
      go types.Int k a b e f g = absurd cc
      go types.Double types.Int a b e f g = absurd cc
      go types.Long types.Int a b e f g = absurd cc
      go types.Decimal types.Int a b e f g = absurd cc
      go types.Double types.Double a b e f g = refl
      go types.Long types.Long a b e f g = refl
      go types.Decimal types.Decimal a b e f g = refl
      go types.Double types.Long a b e f g = one_class types.Double types.Long e a b
      go types.Long types.Double a b e f g = sym (one_class types.Double types.Long e b a)
      go types.Double types.Decimal a b e f g = one_class types.Double types.Decimal f a b
      go types.Decimal types.Double a b e f g = sym (one_class types.Double types.Decimal f b a)
      go types.Long types.Decimal a b e f g = one_class types.Long types.Decimal g a b
      go types.Decimal types.Long a b e f g = sym (one_class types.Long types.Decimal g b a)

  class_alike : (j k : NumberType) (a b : Bool) → class longs j ≡ a → class longs k ≡ b → a ≡ b → names_type j t ≡ names_type k t
  class_alike j k true true e f same = long_alike j k e f
  class_alike j k false false e f same = short_alike j e ∙ sym (short_alike k f)
  class_alike j k true false e f same = absurd cc
  class_alike j k false true e f same = absurd cc

  -- a number of a class has its kind
  kind_there : (b : Bool) (z : ℤ) → kind_of (leaf (cond b (int64 z) (int32 z))) ≡ kind_in b
  kind_there true z = refl
  kind_there false z = refl

  same_when : (a b : Bool) → (a ≡ true → b ≡ true) → (b ≡ true → a ≡ true) → a ≡ b
  same_when true b f g = sym (f refl)
  same_when false true f g = g refl
  same_when false false f g = refl

  -- a type is in the kinds exactly if it is named
  pub named_by_class : (ks : List Kind) → operand_kinds (types_by_class longs t) ≡ Some ks → (k : NumberType) (z : ℤ)
      → is_of_type ks (leaf (in_class longs (element_type k) z)) ≡ names_type k t
  named_by_class ks e k z =
      ap (λ (x : Kind). has x ks) (kind_there (class longs k) z)
      ∙ same_when (has (kind_in (class longs k)) ks) (names_type k t) named (back (has_longs longs) refl)
    where
      named : has (kind_in (class longs k)) ks ≡ true → names_type k t ≡ true
      named h = let (j, alike, is) = operand_named longs t k ks e h in class_alike k j (class longs k) (class longs j) refl refl (sym alike) ∙ is

      back : (b : Bool) → has_longs longs ≡ b → names_type k t ≡ true → has (kind_in (class longs k)) ks ≡ true
      back true is named = operand_has longs t k ks (inl is) e named
      back false is named =
          let short = none_long longs is k in
          ap (λ (b : Bool). has (kind_in b) ks) short ∙ operand_has longs t types.Int ks (inr refl) e (sym (short_alike k short) ∙ named)

-- ---- values that are no numbers

module _ (longs : Longs) (k : Kind) (narrow : k ≢ kinds.Int32) (wide : k ≢ kinds.Int64) where
  not_one : (b : Bool) → has k (kind_in b ∷ []) ≡ false
  not_one true = false_from_ne_true _ (λ h. wide (sym (same_true the_type tt kinds.Int64 k (only (is_kind kinds.Int64 k) h))))
    where
      only : (b : Bool) → (b || false) ≡ true → b ≡ true
      only true e = refl
      only false e = absurd cc
  not_one false = false_from_ne_true _ (λ h. narrow (sym (same_true the_type tt kinds.Int32 k (only (is_kind kinds.Int32 k) h))))
    where
      only : (b : Bool) → (b || false) ≡ true → b ≡ true
      only true e = refl
      only false e = absurd cc

  -- a type of numbers has no other kind
  alone_none : (j : NumberType) (t : Tree) (ks : List Kind) → is_alone j t ≡ true → type_kinds t ≡ Some ks → has k ks ≡ false
  unfolding kinds_named kinds_numbered
  alone_none types.Double t ks alone e =
      let is : type_kinds t ≡ Some [] = alone_has (λ x. type_kinds x ≡ Some []) types.Double t refl refl refl alone in
      let both : Some [] ≡ Some ks = sym is ∙ e in
      let same : [] ≡ ks = cc in
      ap (has k) (sym same)
  alone_none types.Int t ks alone e =
      let is : type_kinds t ≡ Some (kinds.Int32 ∷ []) = alone_has (λ x. type_kinds x ≡ Some (kinds.Int32 ∷ [])) types.Int t refl refl refl alone in
      let both : Some (kinds.Int32 ∷ []) ≡ Some ks = sym is ∙ e in
      let same : kinds.Int32 ∷ [] ≡ ks = cc in
      ap (has k) (sym same) ∙ not_one false
  alone_none types.Long t ks alone e =
      let is : type_kinds t ≡ Some (kinds.Int64 ∷ []) = alone_has (λ x. type_kinds x ≡ Some (kinds.Int64 ∷ [])) types.Long t refl refl refl alone in
      let both : Some (kinds.Int64 ∷ []) ≡ Some ks = sym is ∙ e in
      let same : kinds.Int64 ∷ [] ≡ ks = cc in
      ap (has k) (sym same) ∙ not_one true
  alone_none types.Decimal t ks alone e =
      let is : type_kinds t ≡ Some [] = alone_has (λ x. type_kinds x ≡ Some []) types.Decimal t refl refl refl alone in
      let both : Some [] ≡ Some ks = sym is ∙ e in
      let same : [] ≡ ks = cc in
      ap (has k) (sym same)

  other_type : (t : Tree) (ks ls : List Kind) → type_kinds t ≡ Some ks → type_kinds (type_by_class longs t) ≡ Some ls → has k ls ≡ has k ks
  other_type t ks ls e f = go (has_longs longs) (type_alone t) refl f
    where
      stays : type_kinds t ≡ Some ls → has k ls ≡ has k ks
      stays g = let both : Some ls ≡ Some ks = sym g ∙ e in let same : ls ≡ ks = cc in ap (has k) same

      go : (b : Bool) (o : Option NumberType) → type_alone t ≡ o → type_kinds (cond b (class_instead longs t o) t) ≡ Some ls → has k ls ≡ has k ks
      go true (Some j) is g =
          let only : Some (kind_in (class longs j) ∷ []) ≡ Some ls = sym (class_kinds (class longs j)) ∙ g in
          let same : kind_in (class longs j) ∷ [] ≡ ls = cc in
          ap (has k) (sym same) ∙ not_one (class longs j) ∙ sym (alone_none j t ks (is_found j t is) e)
      go true None is g = stays g
      go false o is g = stays g

  other_items : (ts : Items) (ks ls : List Kind) → all_kinds ts ≡ Some ks → all_kinds (each_by_class longs ts) ≡ Some ls → has k ls ≡ has k ks
  other_items no_items ks ls e f = let both : Some ls ≡ Some ks = sym f ∙ e in let same : ls ≡ ks = cc in ap (has k) same
  other_items (item t ts) ks ls e f =
      let (x, y, first, rest, same) = two_parts longs (type_kinds t) (all_kinds ts) ks e in
      let (u, v, head, tail, also) = two_parts longs (type_kinds (types_by_class longs t)) (all_kinds (each_by_class longs ts)) ls f in
      ap (has k) also ∙ list_any-append _ u v ∙ ap (λ (b : Bool). b || has k v) (other_type t x u first (leaf_kinds longs t u head))
      ∙ ap (λ (b : Bool). has k x || b) (other_items ts y v rest tail) ∙ sym (list_any-append _ x y) ∙ ap (has k) (sym same)

  -- an operand by classes has the same other kinds
  pub other_kinds : (t : Tree) (ks ls : List Kind) → operand_kinds t ≡ Some ks → operand_kinds (types_by_class longs t) ≡ Some ls → has k ls ≡ has k ks
  other_kinds (leaf s) ks ls e f = other_type (leaf s) ks ls e (sym (scalar_kinds longs (leaf s) (has_longs longs) (type_alone (leaf s)) refl) ∙ f)
  other_kinds (array (item t ts)) ks ls e f = other_items (item t ts) ks ls e f
  other_kinds (array no_items) ks ls e f = absurd cc
  other_kinds (doc fs) ks ls e f = absurd cc
  other_kinds (code_scope s fs) ks ls e f = absurd cc
