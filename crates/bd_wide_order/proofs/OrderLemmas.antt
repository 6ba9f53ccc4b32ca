-- The order of values depends on numbers only by their order at each path.
use Rattle.std.proofs.Common.{◌≡◌, List, [], ◌∷◌, refl, sym, ap, ap₂, ◌∙◌, arith, ℕ, Ordering, Less, Equal, Greater, nat_cmp}
use Rattle.std.specs.Prelude.{Bool, true, false, IsTrue, ℤ, ◌<ℤ◌, ◌≤ℤ◌}
use Rattle.std.specs.Ordering.{int_cmp, ordering_then, is_eq}
use Rattle.std.proofs.lemmas.{Int.ints, Int.by_lt_z, Map.Lookups.exact_bytes}
use Rattle.bd_value.specs.Tree as trees
use Rattle.bd_value.specs.Tree.{Scalar, int32, int64, Tree, leaf, doc, array, code_scope, Items, no_items, item, Fields, no_fields, field}
use Rattle.bd_value.specs.Order.{class_of, class_rank, bytes_cmp, class_cmp, cmp, equal, fields_cmp, items_cmp, pair_cmp, rank_cmp, same_class_cmp, by_bytes}
use Rattle.bd_wide_order.specs.Renumber.{Code, Codes, whole, under, scope_name, KeepsOrder, KeepOrder, ScalarIsOf, IsOf, ItemsAreOf, FieldsAreOf}
use Rattle.bd_wide_order.specs.Renumber.{renumber, renumber_scalar, renumber_items, renumber_fields}

-- ---- numbers

less : (m n : ℤ) → m <ℤ n → int_cmp m n ≡ Less
less m n h = grind (arith, ints)

greater : (m n : ℤ) → n <ℤ m → int_cmp m n ≡ Greater
greater m n h = grind (arith, ints)

same : (m n : ℤ) → n ≤ℤ m → m ≤ℤ n → m ≡ n
same m n h i = omega (arith, ints)

alike : (n : ℤ) → int_cmp n n ≡ Equal
alike n = grind (arith, ints)

-- the third comparison counts only if the first two decide nothing
within : (o p r s : Ordering) → (p ≡ Equal → ordering_then o r ≡ ordering_then o s) → ordering_then o (ordering_then p r) ≡ ordering_then o (ordering_then p s)
within Less p r s h = refl
within Greater p r s h = refl
within Equal Less r s h = refl
within Equal Greater r s h = refl
within Equal Equal r s h = h refl

-- what is so of an int32 and of an int64 is so of the number, whichever it is
pub of_whole : (So : Scalar → Type 0) (narrow : Bool) (n : ℤ) → So (int32 n) → So (int64 n) → So (whole narrow n)
of_whole So true n p q = p
of_whole So false n p q = q

module _ (c : Code) (up : KeepsOrder c) where
  numbers : (m n : ℤ) → IsTrue (c.occurs m) → int_cmp (c.becomes m) (c.becomes n) ≡ int_cmp m n
  numbers m n p = by_lt_z m n
      (λ (l : m <ℤ n). less (c.becomes m) (c.becomes n) ((up m n p).0 l) ∙ sym (less m n l))
      (λ (h : n ≤ℤ m). by_lt_z n m
      (λ (l : n <ℤ m). greater (c.becomes m) (c.becomes n) ((up m n p).1 l) ∙ sym (greater m n l))
      (λ (i : m ≤ℤ n). ap (λ k. int_cmp (c.becomes m) (c.becomes k)) (sym (same m n h i)) ∙ alike (c.becomes m) ∙ sym (alike m) ∙ ap (int_cmp m) (same m n h i)))

  -- two numbers, of any integer types
  two : (m n : ℤ) → IsTrue (c.occurs m) → cmp (leaf (int64 (c.becomes m))) (leaf (int64 (c.becomes n))) ≡ cmp (leaf (int64 m)) (leaf (int64 n))
  two m n p = ap (λ o. ordering_then o (ordering_then Equal (ordering_then Equal Equal))) (numbers m n p)

  -- the same, if the second was an int32
  second : (m n : ℤ) → IsTrue (c.occurs m) → cmp (leaf (int64 (c.becomes m))) (leaf (whole c.narrow (c.becomes n))) ≡ cmp (leaf (int64 m)) (leaf (int64 n))
  second m n p = of_whole (λ s. cmp (leaf (int64 (c.becomes m))) (leaf s) ≡ cmp (leaf (int64 m)) (leaf (int64 n))) c.narrow (c.becomes n) (two m n p) (two m n p)

  leaves : (s t : Scalar) → ScalarIsOf c s → cmp (leaf (renumber_scalar c s)) (leaf (renumber_scalar c t)) ≡ cmp (leaf s) (leaf t)
  leaves (int32 m) (int32 n) p =
      of_whole (λ s. cmp (leaf s) (leaf (whole c.narrow (c.becomes n))) ≡ cmp (leaf (int64 m)) (leaf (int64 n))) c.narrow (c.becomes m) (second m n p) (second m n p)
  leaves (int32 m) (int64 n) p = of_whole (λ s. cmp (leaf s) (leaf (int64 (c.becomes n))) ≡ cmp (leaf (int64 m)) (leaf (int64 n))) c.narrow (c.becomes m) (two m n p) (two m n p)
  leaves (int64 m) (int32 n) p = second m n p
  leaves (int64 m) (int64 n) p = two m n p
  leaves (int32 m) t p = of_whole (λ s. cmp (leaf s) (leaf t) ≡ cmp (leaf (int32 m)) (leaf t)) c.narrow (c.becomes m) refl refl
  leaves (int64 m) _ p = refl
  leaves s (int32 n) p = of_whole (λ t. cmp (leaf s) (leaf t) ≡ cmp (leaf s) (leaf (int32 n))) c.narrow (c.becomes n) refl refl
  leaves _ (int64 n) p = refl
  leaves _ _ p = refl

module _ (c : Code) where
  leaf_doc : (s : Scalar) (fs gs : Fields) → cmp (leaf (renumber_scalar c s)) (doc fs) ≡ cmp (leaf s) (doc gs)
  leaf_doc trees.min_key fs gs = refl
  leaf_doc (int32 n) fs gs = of_whole (λ s. cmp (leaf s) (doc fs) ≡ cmp (leaf (int32 n)) (doc gs)) c.narrow (c.becomes n) refl refl
  leaf_doc _ fs gs = refl

  leaf_array : (s : Scalar) (ts us : Items) → cmp (leaf (renumber_scalar c s)) (array ts) ≡ cmp (leaf s) (array us)
  leaf_array trees.min_key ts us = refl
  leaf_array (int32 n) ts us = of_whole (λ s. cmp (leaf s) (array ts) ≡ cmp (leaf (int32 n)) (array us)) c.narrow (c.becomes n) refl refl
  leaf_array _ ts us = refl

  leaf_code : (s : Scalar) (b : List ℕ) (fs gs : Fields) → cmp (leaf (renumber_scalar c s)) (code_scope b fs) ≡ cmp (leaf s) (code_scope b gs)
  leaf_code trees.min_key b fs gs = refl
  leaf_code (int32 n) b fs gs = of_whole (λ s. cmp (leaf s) (code_scope b fs) ≡ cmp (leaf (int32 n)) (code_scope b gs)) c.narrow (c.becomes n) refl refl
  leaf_code _ b fs gs = refl

  doc_leaf : (s : Scalar) (fs gs : Fields) → cmp (doc fs) (leaf (renumber_scalar c s)) ≡ cmp (doc gs) (leaf s)
  doc_leaf trees.min_key fs gs = refl
  doc_leaf (int32 n) fs gs = of_whole (λ s. cmp (doc fs) (leaf s) ≡ cmp (doc gs) (leaf (int32 n))) c.narrow (c.becomes n) refl refl
  doc_leaf _ fs gs = refl

  array_leaf : (s : Scalar) (ts us : Items) → cmp (array ts) (leaf (renumber_scalar c s)) ≡ cmp (array us) (leaf s)
  array_leaf trees.min_key ts us = refl
  array_leaf (int32 n) ts us = of_whole (λ s. cmp (array ts) (leaf s) ≡ cmp (array us) (leaf (int32 n))) c.narrow (c.becomes n) refl refl
  array_leaf _ ts us = refl

  code_leaf : (s : Scalar) (b : List ℕ) (fs gs : Fields) → cmp (code_scope b fs) (leaf (renumber_scalar c s)) ≡ cmp (code_scope b gs) (leaf s)
  code_leaf trees.min_key b fs gs = refl
  code_leaf (int32 n) b fs gs = of_whole (λ s. cmp (code_scope b fs) (leaf s) ≡ cmp (code_scope b gs) (leaf (int32 n))) c.narrow (c.becomes n) refl refl
  code_leaf _ b fs gs = refl

-- ---- values

class_stays : (c : Codes) (t : Tree) → class_rank (class_of (renumber c t)) ≡ class_rank (class_of t)
class_stays c (doc fs) = refl
class_stays c (array ts) = refl
class_stays c (code_scope s fs) = refl
class_stays c (leaf trees.min_key) = refl
class_stays c (leaf (int32 n)) = of_whole (λ s. class_rank (class_of (leaf s)) ≡ class_rank (class_of (leaf (int32 n)))) (c []).narrow ((c []).becomes n) refl refl
class_stays c (leaf _) = refl

-- renumbered values compare by class as the values do
pub classes_stay : (c d : Codes) (a b : Tree) → class_cmp (renumber c a) (renumber d b) ≡ class_cmp a b
classes_stay c d a b = ap₂ nat_cmp (class_stays c a) (class_stays d b)

-- the values of two pairs are compared if the names are equal
pairs_stay : (c : Codes) (m n : List ℕ) (a b : Tree) → (m ≡ n → cmp (renumber (under m c) a) (renumber (under n c) b) ≡ cmp a b)
    → pair_cmp m (renumber (under m c) a) n (renumber (under n c) b) ≡ pair_cmp m a n b
pairs_stay c m n a b h =
    ap (λ o. ordering_then o (ordering_then (bytes_cmp m n) (same_class_cmp (renumber (under m c) a) (renumber (under n c) b)))) (classes_stay (under m c) (under n c) a b)
    ∙ within (class_cmp a b) (bytes_cmp m n) (same_class_cmp (renumber (under m c) a) (renumber (under n c) b)) (same_class_cmp a b)
    (λ e. ap (λ o. ordering_then o (same_class_cmp (renumber (under m c) a) (renumber (under n c) b))) (sym (classes_stay (under m c) (under n c) a b)) ∙ h (exact_bytes m n e))

mutual
  -- two values compare the same after renumbering, if the codes keep the order at each path
  pub order_stays : (c : Codes) → KeepOrder c → (a b : Tree) → IsOf c a → cmp (renumber c a) (renumber c b) ≡ cmp a b
  order_stays c up (leaf s) (leaf t) p = leaves (c []) (up []) s t p
  order_stays c up (leaf s) (doc gs) p = leaf_doc (c []) s (renumber_fields c gs) gs
  order_stays c up (leaf s) (array us) p = leaf_array (c []) s (renumber_items c us) us
  order_stays c up (leaf s) (code_scope d gs) p = leaf_code (c []) s d (renumber_fields (under scope_name c) gs) gs
  order_stays c up (doc fs) (leaf t) p = doc_leaf (c []) t (renumber_fields c fs) fs
  order_stays c up (doc fs) (doc gs) p = fields_stay c up fs gs p
  order_stays c up (doc fs) (array us) p = refl
  order_stays c up (doc fs) (code_scope d gs) p = refl
  order_stays c up (array ts) (leaf t) p = array_leaf (c []) t (renumber_items c ts) ts
  order_stays c up (array ts) (doc gs) p = refl
  order_stays c up (array ts) (array us) p = items_stay c up ts us p
  order_stays c up (array ts) (code_scope d gs) p = refl
  order_stays c up (code_scope b fs) (leaf t) p = code_leaf (c []) t b (renumber_fields (under scope_name c) fs) fs
  order_stays c up (code_scope b fs) (doc gs) p = refl
  order_stays c up (code_scope b fs) (array us) p = refl
  order_stays c up (code_scope b fs) (code_scope d gs) p =
      ap (ordering_then (rank_cmp (by_bytes b []) (by_bytes d []))) (fields_stay (under scope_name c) (λ path. up (scope_name ∷ path)) fs gs p)

  items_stay : (c : Codes) → KeepOrder c → (ts us : Items) → ItemsAreOf c ts → items_cmp (renumber_items c ts) (renumber_items c us) ≡ items_cmp ts us
  items_stay c up no_items no_items p = refl
  items_stay c up no_items (item u us) p = refl
  items_stay c up (item t ts) no_items p = refl
  items_stay c up (item t ts) (item u us) p = ap₂ ordering_then (order_stays c up t u p.0) (items_stay c up ts us p.1)

  fields_stay : (c : Codes) → KeepOrder c → (fs gs : Fields) → FieldsAreOf c fs → fields_cmp (renumber_fields c fs) (renumber_fields c gs) ≡ fields_cmp fs gs
  fields_stay c up no_fields no_fields p = refl
  fields_stay c up no_fields (field n b gs) p = refl
  fields_stay c up (field m a fs) no_fields p = refl
  fields_stay c up (field m a fs) (field n b gs) p =
      ap₂ ordering_then
      (pairs_stay c m n a b (λ e. ap (λ x. cmp (renumber (under m c) a) (renumber (under x c) b)) (sym e)
      ∙ order_stays (under m c) (λ path. up (m ∷ path)) a b p.0))
      (fields_stay c up fs gs p.1)

-- two values are equal after renumbering exactly if they were, if the codes keep the order at each path
pub equals_stay : (c : Codes) → KeepOrder c → (a b : Tree) → IsOf c a → equal (renumber c a) (renumber c b) ≡ equal a b
equals_stay c up a b p = ap is_eq (order_stays c up a b p)
