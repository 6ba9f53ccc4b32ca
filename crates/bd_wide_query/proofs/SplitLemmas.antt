-- Where a `$type` needs a third class, and that two are enough if none does.
use Rattle.std.proofs.Common.{◌≡◌, ◌∙◌, ℕ, ◌+◌, List, [], Bool, true, false, cond, Option, Some, None, option_map, length, refl, sym, ap, subst}
use Rattle.std.specs.Prelude.{codes, decimal, not, ◌||◌, ◌&&◌}
use Rattle.std.specs.{Bool.beq, Option.option_and_then, Option.option_or, Str.bytes_eq}
use Rattle.std.proofs.lemmas.Bool.{and_from, and_parts, or_parts, true≢false}
use Rattle.std.proofs.lemmas.List.{length-map}
use Rattle.bd_value.specs.Tree.{AreParts, Doc, Fields, field, no_fields, Items, item, no_items, Tree, array, code_scope, doc, leaf, fields_of, length_of, scope_of}
use Rattle.bd_value.specs.Tree.{fields_of-pairs_of}
use Rattle.bd_wide_copy.specs.Classes.{is_long, no_longs}
use Rattle.bd_wide_copy.specs.declared.longs.Longs.{Longs}
use Rattle.bd_wide_query.specs.Split.{Split, are_classes, below, first_split, operand_classes, split_in, split_in_items, split_of, splits_beyond, third_class}
use Rattle.bd_wide_query.specs.Types.{element_type, fields_are_alike, has_longs, is_alike, is_alike_at, items_are_alike, names_type}
use Rattle.bd_wide_query.specs.declared.types.NumberType.{NumberType}
use Rattle.bd_wide_query.specs.declared.types.NumberType.TheVariants as types
use Rattle.bd_wide_query.proofs.KindLemmas.{has_two_classes, same_bools}

-- the class of a type
abbrev class : Longs → NumberType → Bool
class longs k = is_long longs (element_type k)

-- ---- parts

-- the parts of a value are as many as it has
pub parts_count : (t : Tree) (ps : Doc) → AreParts t ps → length ps ≡ length_of t
parts_count (doc fs) ps are = ap (λ (x : Doc). length x) are
parts_count (array ts) ps are = sym (length-map ps (λ p. p.1)) ∙ ap (λ (x : List Tree). length x) are
parts_count _ ps are = absurd are

-- the first split in code with scope is that in the fields of its scope
pub scope_split : (classes : Longs) (t u : Tree) (ps : Doc) → Some u ≡ scope_of t → AreParts u ps
    → option_map (below (codes "$scope")) (first_split classes (fields_of ps)) ≡ split_in classes t
scope_split classes (code_scope s fs) u ps scope are =
    let is : u ≡ doc fs = cc in
    ap (λ (gs : Fields). option_map (below (codes "$scope")) (first_split classes gs))
    (ap fields_of (subst (λ (v : Tree). AreParts v ps) is are) ∙ fields_of-pairs_of fs)
scope_split classes (leaf s) u ps scope are = absurd (let no : ⊥ = cc in no)
scope_split classes (doc fs) u ps scope are = absurd (let no : ⊥ = cc in no)
scope_split classes (array ts) u ps scope are = absurd (let no : ⊥ = cc in no)

-- ---- an operand that does not split the types otherwise

same_alike : (a : Bool) → beq a a ≡ true
same_alike true = refl
same_alike false = refl

-- a type is in the class of int32 exactly if both are named, or neither
apart : (t : Tree) (k : NumberType) → class (operand_classes t) k ≡ not (beq (names_type k t) (names_type types.Int t))
apart t types.Double = refl
apart t types.Int = sym (ap not (same_alike (names_type types.Int t)))
apart t types.Long = refl
apart t types.Decimal = refl

cancelled : (a b x : Bool) → not (beq a x) ≡ not (beq b x) → a ≡ b
cancelled true true x e = refl
cancelled false false x e = refl
cancelled true false true e = absurd cc
cancelled true false false e = absurd cc
cancelled false true true e = absurd cc
cancelled false true false e = absurd cc

-- types of one class of an operand are named alike
named_alike : (t : Tree) (j k : NumberType) → class (operand_classes t) j ≡ class (operand_classes t) k → names_type j t ≡ names_type k t
named_alike t j k e = cancelled (names_type j t) (names_type k t) (names_type types.Int t) (sym (apart t j) ∙ e ∙ apart t k)

module _ (longs : Longs) (t : Tree) (no : splits_beyond longs t ≡ false) where
  abbrev split : Longs
  split = operand_classes t

  -- without a split there is one class
  unsplit : has_longs split ≡ false → (k : NumberType) → class split k ≡ false
  unsplit e k =
      let (first, last) = or_parts (split.double || split.int64) split.decimal128 e in
      let (double, long) = or_parts split.double split.int64 first in
      go k double long last
    where
      go : (k : NumberType) → split.double ≡ false → split.int64 ≡ false → split.decimal128 ≡ false → class split k ≡ false
      go types.Double double long decimal = double
      go types.Int double long decimal = refl
      go types.Long double long decimal = long
      go types.Decimal double long decimal = decimal

  -- a split is into these classes
  same_classes : are_classes split longs ≡ true → (k : NumberType) → class split k ≡ class longs k
  same_classes e k =
      let (first, last) = and_parts (beq split.double longs.double && beq split.int64 longs.int64) _ e in
      let (double, long) = and_parts (beq split.double longs.double) _ first in
      go k (same_bools _ _ double) (same_bools _ _ long) (same_bools _ _ last)
    where
      go : (k : NumberType) → split.double ≡ longs.double → split.int64 ≡ longs.int64 → split.decimal128 ≡ longs.decimal128 → class split k ≡ class longs k
      go types.Double double long decimal = double
      go types.Int double long decimal = refl
      go types.Long double long decimal = long
      go types.Decimal double long decimal = decimal

  -- types of one of these classes are named alike
  class_named : (j k : NumberType) → class longs j ≡ class longs k → names_type j t ≡ names_type k t
  class_named j k e = named_alike t j k (go (has_longs split) (are_classes split longs) refl refl no)
    where
      go : (apart same : Bool) → has_longs split ≡ apart → are_classes split longs ≡ same → (apart && not same) ≡ false → class split j ≡ class split k
      go false same a b none = unsplit a j ∙ sym (unsplit a k)
      go true true a b none = same_classes b j ∙ e ∙ sym (same_classes b k)
      go true false a b none = absurd (true≢false none)

-- ---- a query without a split otherwise

-- no one among two
none_of_two : {A : Type 0} (a b : Option A) → option_or a b ≡ None → (a ≡ None) × (b ≡ None)
none_of_two None b e = (refl, e)
none_of_two (Some x) b e = absurd (let no : ⊥ = cc in no)

-- none becomes none
none_before : {A B : Type 0} (f : A → B) (a : Option A) → option_map f a ≡ None → a ≡ None
none_before f None e = refl
none_before f (Some x) e = absurd (let no : ⊥ = cc in no)

module _ (longs : Longs) (j k : NumberType) (one : class longs j ≡ class longs k) where
  alike_at : (name : List ℕ) (t : Tree) → split_of longs name t ≡ None → is_alike_at j k name t ≡ true
  alike_at name t = go (bytes_eq name (codes "$type")) (splits_beyond longs t) refl
    where
      here : Split
      here = record { path = []; classes = operand_classes t }

      go : (is beyond : Bool) → splits_beyond longs t ≡ beyond → cond (is && beyond) (Some here) None ≡ None
          → cond is (beq (names_type j t) (names_type k t)) true ≡ true
      go false beyond same e = refl
      go true true same e = absurd (let no : ⊥ = cc in no)
      go true false same e =
          ap (λ (x : Bool). beq x (names_type k t)) (class_named longs t same j k one) ∙ same_alike (names_type k t)

  mutual
    alike_in : (t : Tree) → split_in longs t ≡ None → is_alike j k t ≡ true
    alike_in (leaf s) e = refl
    alike_in (doc fs) e = fields_alike fs e
    alike_in (array ts) e = items_alike 0 ts e
    alike_in (code_scope s fs) e = fields_alike fs (none_before (below (codes "$scope")) (first_split longs fs) e)

    -- types of one class are alike in the fields
    pub fields_alike : (fs : Fields) → first_split longs fs ≡ None → fields_are_alike j k fs ≡ true
    fields_alike no_fields e = refl
    fields_alike (field n t fs) e =
        let (first, rest) = none_of_two (option_map (below n) (option_or (split_of longs n t) (split_in longs t))) _ e in
        let (here, inside) = none_of_two (split_of longs n t) _ (none_before (below n) _ first) in
        and_from _ _ (and_from _ _ (alike_at n t here) (alike_in t inside)) (fields_alike fs rest)

    items_alike : (i : ℕ) (ts : Items) → split_in_items longs i ts ≡ None → items_are_alike j k ts ≡ true
    items_alike i no_items e = refl
    items_alike i (item t ts) e =
        let (first, rest) = none_of_two (option_map (below (decimal i)) (split_in longs t)) _ e in
        and_from _ _ (alike_in t (none_before (below (decimal i)) _ first)) (items_alike (i + 1) ts rest)

-- ---- two classes are enough

-- two types are one class, if they are alike where both are in the other class of these
one_of_two : (a b f x y : Bool) → (x ≡ false → a ≡ true) → (y ≡ false → b ≡ true) → (x ≡ y → f ≡ true) → cond (not a && not b) f true ≡ true
one_of_two true b f x y first second both = refl
one_of_two false true f x y first second both = refl
one_of_two false false f true true first second both = both refl
one_of_two false false f true false first second both = absurd (true≢false (sym (second refl)))
one_of_two false false f false y first second both = absurd (true≢false (sym (first refl)))

module _ (fs : Fields) (longs : Longs) (none : first_split longs fs ≡ None) where
  alike : (j k : NumberType) → class longs j ≡ class longs k → fields_are_alike j k fs ≡ true
  alike j k one = fields_alike longs j k one fs none

  one_class : (j k : NumberType) → cond (not (fields_are_alike types.Int j fs) && not (fields_are_alike types.Int k fs)) (fields_are_alike j k fs) true ≡ true
  one_class j k =
      one_of_two (fields_are_alike types.Int j fs) (fields_are_alike types.Int k fs) (fields_are_alike j k fs) (class longs j) (class longs k)
      (λ e. alike types.Int j (sym e)) (λ e. alike types.Int k (sym e)) (alike j k)

  enough : has_two_classes fs ≡ true
  enough = and_from _ _ (and_from _ _ (one_class types.Double types.Long) (one_class types.Double types.Decimal)) (one_class types.Long types.Decimal)

-- if no `$type` needs a third class, two are enough
pub two_enough : (fs : Fields) → third_class fs ≡ None → has_two_classes fs ≡ true
two_enough fs = go (first_split no_longs fs) refl
  where
    go : (first : Option Split) → first_split no_longs fs ≡ first → option_and_then (λ s. first_split s.classes fs) first ≡ None → has_two_classes fs ≡ true
    go None is e = enough fs no_longs is
    go (Some s) is e = enough fs s.classes e
