-- The order of two values of one class, by their parts; and the proof that the order of values is total, up to ties.
use Rattle.std.proofs.Common.{◌≡◌, ◌≢◌, ℕ, zero, suc, ◌+◌, ◌<◌, ◌≤◌, List, Some, false, refl, sym, ap, ap₂, ◌∙◌, arith, Ordering, Less, Equal, Greater, nat_cmp}
use Rattle.std.specs.Prelude.{not, ◌==◌}
use Rattle.std.specs.Ordering.{ordering_index, ordering_then, then_cmp, on, ordering_reverse, MatchOrdering}
use Rattle.std.specs.Cmp.{IsTotalOrder}
use Rattle.std.specs.Cmp.Lexicographic.{slice_cmp}
use Rattle.std.proofs.lemmas.Cmp.{nat_cmp_total, int_cmp_total, nat_list_cmp_total, on_total, then_total, lists_total, ranked}
use Rattle.bd_value.specs.Tree.{Scalar, min_key, Leaf, Tree, leaf, doc, array, code_scope, Items, no_items, item, Fields, no_fields, field, Doc, Pair}
use Rattle.bd_value.specs.Tree.{fields_of, items_of, pairs_of, list_of, values_of, scope_of, leaf_of, AreParts}
use Rattle.bd_value.specs.View.{kind_of}
use Rattle.bd_value.specs.Order.{class_of, class_of_kind, class_rank, bytes_cmp, class_cmp, cmp, fields_cmp, fields_in, items_cmp, items_in, Rank, rank_cmp, rank_in, same_class_cmp}
use Rattle.bd_value.specs.inside.Order.{leaf_rank}
use Rattle.bd_value.specs.declared.node.Kind.{Kind}
use Rattle.bd_value.specs.declared.node.Kind.TheVariants as kinds
use Rattle.bd_value.specs.declared.node.Class.TheVariants as classes
use Rattle.bd_value.proofs.PartsLemmas.{doc_is, array_is}

pub rank_of_leaf : (t : Tree) (o : Leaf) → Some o ≡ leaf_of t → leaf_rank o ≡ rank_in t
rank_of_leaf (leaf s) o is = cc
rank_of_leaf (code_scope s fs) o is = cc
rank_of_leaf _ o is = absurd cc

pub equal_then : (o : Ordering) → false ≡ not (ordering_index o == ordering_index Equal) → o ≡ Equal
equal_then Less h = absurd cc
equal_then Equal h = refl
equal_then Greater h = absurd cc

-- ---- the classes of one kind

pub doc_class : (k : Kind) → class_of_kind k ≡ classes.Doc → k ≡ kinds.Doc
doc_class kinds.Doc is = refl
doc_class _ is = absurd cc

pub array_class : (k : Kind) → class_of_kind k ≡ classes.Array → k ≡ kinds.Array
array_class kinds.Array is = refl
array_class _ is = absurd cc

pub documents_cmp : (t u : Tree) (ps qs : Doc) → kind_of t ≡ kinds.Doc → class_of t ≡ class_of u → AreParts t ps → AreParts u qs
    → fields_cmp (fields_of ps) (fields_of qs) ≡ same_class_cmp t u
documents_cmp t u ps qs kind class first second =
    let other : kind_of u ≡ kinds.Doc = doc_class (kind_of u) (sym class ∙ ap class_of_kind kind) in
    sym (ap₂ same_class_cmp (doc_is t ps kind first) (doc_is u qs other second))

pub arrays_cmp : (t u : Tree) (ps qs : Doc) → kind_of t ≡ kinds.Array → class_of t ≡ class_of u → AreParts t ps → AreParts u qs
    → items_cmp (items_of (values_of ps)) (items_of (values_of qs)) ≡ same_class_cmp t u
arrays_cmp t u ps qs kind class first second =
    let other : kind_of u ≡ kinds.Array = array_class (kind_of u) (sym class ∙ ap class_of_kind kind) in
    sym (ap₂ same_class_cmp (array_is t ps kind first) (array_is u qs other second))

-- ---- code with scope

code_leaf_is : (t : Tree) → kind_of t ≡ kinds.CodeScope → (v : Tree) (ps : Doc) → scope_of t ≡ Some v → AreParts v ps → (code : List ℕ) × (t ≡ code_scope code (fields_of ps))
code_leaf_is (code_scope s fs) kind v ps scope are =
    let inside : v ≡ doc fs = cc in
    let same : doc fs ≡ doc (fields_of ps) = sym inside ∙ doc_is v ps (ap kind_of inside) are in
    let fields : fs ≡ fields_of ps = cc in
    (s, ap (code_scope s) fields)
code_leaf_is _ kind v ps scope are = absurd cc

pub scopes_cmp : (t u v w : Tree) (ps qs : Doc) → kind_of t ≡ kinds.CodeScope → kind_of u ≡ kinds.CodeScope → scope_of t ≡ Some v → scope_of u ≡ Some w
    → AreParts v ps → AreParts w qs → rank_cmp (rank_in t) (rank_in u) ≡ Equal → fields_cmp (fields_of ps) (fields_of qs) ≡ same_class_cmp t u
scopes_cmp t u v w ps qs kind other first second a b same =
    let x = code_leaf_is t kind v ps first a in
    let y = code_leaf_is u other w qs second b in
    let codes : rank_cmp (rank_in (code_scope x.0 (fields_of ps))) (rank_in (code_scope y.0 (fields_of qs))) ≡ Equal = sym (ap₂ (λ (p q : Tree). rank_cmp (rank_in p) (rank_in q)) x.1 y.1) ∙ same in
    sym (ap₂ same_class_cmp x.1 y.1 ∙ ap (λ o. ordering_then o (fields_cmp (fields_of ps) (fields_of qs))) codes)

-- ---- the order is total

abbrev class_rank_of : Tree → ℕ
class_rank_of t = class_rank (class_of t)

abbrev pair_cmp : (Tree → Tree → Ordering) → Pair → Pair → Ordering
pair_cmp R = then_cmp (on (λ (p : Pair). class_rank_of p.1) nat_cmp) (then_cmp (on (λ (p : Pair). p.0) bytes_cmp) (on (λ (p : Pair). p.1) R))

-- the order, one level deep: values inside are compared by R
abbrev parts_cmp : (Tree → Tree → Ordering) → Tree → Tree → Ordering
parts_cmp R =
    then_cmp (on class_rank_of nat_cmp) (then_cmp (on rank_in rank_cmp)
    (then_cmp (on (λ t. pairs_of (fields_in t)) (slice_cmp (pair_cmp R))) (on (λ t. list_of (items_in t)) (slice_cmp R))))

abbrev cmp_to : ℕ → Tree → Tree → Ordering
cmp_to zero = λ a b. Equal
cmp_to (suc n) = parts_cmp (cmp_to n)

rank_total : IsTotalOrder rank_cmp
rank_total =
    then_total (on_total (λ (r : Rank). r.number) int_cmp_total)
    (then_total (then_total (on_total (λ (r : Rank). r.size) nat_cmp_total) (on_total (λ (r : Rank). r.lesser) nat_cmp_total))
    (then_total (on_total (λ (r : Rank). r.bytes) nat_list_cmp_total) (on_total (λ (r : Rank). r.more) nat_list_cmp_total)))

pair_total : (R : Tree → Tree → Ordering) → IsTotalOrder R → IsTotalOrder (pair_cmp R)
pair_total R t = then_total (on_total (λ (p : Pair). class_rank_of p.1) nat_cmp_total) (then_total (on_total (λ (p : Pair). p.0) nat_list_cmp_total) (on_total (λ (p : Pair). p.1) t))

total_to : (n : ℕ) → IsTotalOrder (cmp_to n)
total_to zero = record { antisymm = λ x y. refl; trans = λ x y z e f. e; congr = λ x y z e. refl }
total_to (suc n) =
    then_total (on_total class_rank_of nat_cmp_total) (then_total (on_total rank_in rank_total)
    (then_total (on_total (λ t. pairs_of (fields_in t)) (lists_total (pair_total (cmp_to n) (total_to n)))) (on_total (λ t. list_of (items_in t)) (lists_total (total_to n)))))

then_equal : (o : Ordering) → o ≡ ordering_then o Equal
then_equal Less = refl
then_equal Equal = refl
then_equal Greater = refl

-- if the numbers differ, the later comparisons do not matter
apart : (m n : ℕ) (p q : Ordering) → m ≢ n → ordering_then (nat_cmp m n) p ≡ ordering_then (nat_cmp m n) q
apart m n p q ne = go (nat_cmp m n) (ranked m n (nat_cmp m n) refl)
  where
    go : (o : Ordering) → MatchOrdering o (m < n) (m ≡ n) (n < m) → ordering_then o p ≡ ordering_then o q
    go Less h = refl
    go Equal h = absurd (ne h)
    go Greater h = refl

-- a comparison that was equal need not be made again
once : (o p r : Ordering) → ordering_then o (ordering_then p r) ≡ ordering_then o (ordering_then p (ordering_then o r))
once Less p r = refl
once Equal p r = refl
once Greater p r = refl

-- the class of a scalar is not that of documents, of arrays or of code with scope
pub record IsPlain (k : ℕ) : Type 0 where
  pub not5 : k ≢ 5
  pub not6 : k ≢ 6
  pub not15 : k ≢ 15

pub plain : (s : Scalar) → IsPlain (class_rank_of (leaf s))
plain min_key = record { not5 = omega arith; not6 = omega arith; not15 = omega arith }
plain _ = record { not5 = omega arith; not6 = omega arith; not15 = omega arith }

ne_sym : (m n : ℕ) → m ≢ n → n ≢ m
ne_sym m n h e = h (sym e)

-- an upper bound of the depth of a value
abbrev mutual
  height : Tree → ℕ
  height (leaf s) = 1
  height (doc fs) = suc (height_fields fs)
  height (array ts) = suc (height_items ts)
  height (code_scope s fs) = suc (height_fields fs)

  height_items : Items → ℕ
  height_items no_items = 0
  height_items (item t ts) = height t + height_items ts

  height_fields : Fields → ℕ
  height_fields no_fields = 0
  height_fields (field n t fs) = height t + height_fields fs

mutual
  -- compared deep enough, it is the order
  agree : (a : Tree) (n : ℕ) (b : Tree) → height a ≤ n → cmp a b ≡ cmp_to n a b
  agree (leaf s) zero b h = absurd (omega arith)
  agree (leaf s) (suc n) (leaf t) h = ap (ordering_then (class_cmp (leaf s) (leaf t))) (then_equal (rank_cmp (rank_in (leaf s)) (rank_in (leaf t))))
  agree (leaf s) (suc n) (doc fs) h = apart (class_rank_of (leaf s)) 5 _ _ (plain s).not5
  agree (leaf s) (suc n) (array ts) h = apart (class_rank_of (leaf s)) 6 _ _ (plain s).not6
  agree (leaf s) (suc n) (code_scope t fs) h = apart (class_rank_of (leaf s)) 15 _ _ (plain s).not15
  agree (doc fs) zero b h = absurd (omega arith)
  agree (doc fs) (suc n) (leaf t) h = apart 5 (class_rank_of (leaf t)) _ _ (ne_sym (class_rank_of (leaf t)) 5 (plain t).not5)
  agree (doc fs) (suc n) (doc gs) h = agree_fields fs n gs (omega arith) ∙ then_equal (slice_cmp (pair_cmp (cmp_to n)) (pairs_of fs) (pairs_of gs))
  agree (doc fs) (suc n) (array ts) h = refl
  agree (doc fs) (suc n) (code_scope t gs) h = refl
  agree (array ts) zero b h = absurd (omega arith)
  agree (array ts) (suc n) (leaf t) h = apart 6 (class_rank_of (leaf t)) _ _ (ne_sym (class_rank_of (leaf t)) 6 (plain t).not6)
  agree (array ts) (suc n) (doc gs) h = refl
  agree (array ts) (suc n) (array us) h = agree_items ts n us (omega arith)
  agree (array ts) (suc n) (code_scope t gs) h = refl
  agree (code_scope s fs) zero b h = absurd (omega arith)
  agree (code_scope s fs) (suc n) (leaf u) h = apart 15 (class_rank_of (leaf u)) _ _ (ne_sym (class_rank_of (leaf u)) 15 (plain u).not15)
  agree (code_scope s fs) (suc n) (doc gs) h = refl
  agree (code_scope s fs) (suc n) (array us) h = refl
  agree (code_scope s fs) (suc n) (code_scope u gs) h =
      ap (ordering_then (rank_cmp (rank_in (code_scope s fs)) (rank_in (code_scope u gs)))) (agree_fields fs n gs (omega arith)
      ∙ then_equal (slice_cmp (pair_cmp (cmp_to n)) (pairs_of fs) (pairs_of gs)))

  agree_items : (ts : Items) (n : ℕ) (us : Items) → height_items ts ≤ n → items_cmp ts us ≡ slice_cmp (cmp_to n) (list_of ts) (list_of us)
  agree_items no_items n no_items h = refl
  agree_items no_items n (item u us) h = refl
  agree_items (item t ts) n no_items h = refl
  agree_items (item t ts) n (item u us) h = ap₂ ordering_then (agree t n u (omega arith)) (agree_items ts n us (omega arith))

  agree_fields : (fs : Fields) (n : ℕ) (gs : Fields) → height_fields fs ≤ n → fields_cmp fs gs ≡ slice_cmp (pair_cmp (cmp_to n)) (pairs_of fs) (pairs_of gs)
  agree_fields no_fields n no_fields h = refl
  agree_fields no_fields n (field k b gs) h = refl
  agree_fields (field m a fs) n no_fields h = refl
  agree_fields (field m a fs) n (field k b gs) h =
      ap₂ ordering_then
      (once (class_cmp a b) (bytes_cmp m k) (same_class_cmp a b) ∙ ap (λ o. ordering_then (class_cmp a b) (ordering_then (bytes_cmp m k) o)) (agree a n b (omega arith)))
      (agree_fields fs n gs (omega arith))

-- the comparison order of values is total: of any two, one is less or they are equal, and it is transitive
pub cmp_total : IsTotalOrder cmp
cmp_total = record {
  antisymm = λ x y. let n = height x + height y in agree x n y (omega arith) ∙ (total_to n).antisymm x y ∙ ap ordering_reverse (sym (agree y n x (omega arith)));
  trans = λ x y z e f. let n = height x + height y + height z in
      agree x n z (omega arith) ∙ (total_to n).trans x y z (sym (agree x n y (omega arith)) ∙ e) (sym (agree y n z (omega arith)) ∙ f);
  congr = λ x y z e. let n = height x + height y in
      agree x n z (omega arith) ∙ (total_to n).congr x y z (sym (agree x n y (omega arith)) ∙ e) ∙ sym (agree y n z (omega arith));
}
