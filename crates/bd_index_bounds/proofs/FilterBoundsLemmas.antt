-- Bounds of some members, and of the remaining ones.
use Rattle.std.proofs.Common.{◌≡◌, ℕ, ◌<◌, ◌+◌, length, get_or, drop, Bool, true, false, ◌||◌, List, [], ◌∷◌, ◌++◌, map, arith, rules, Vec, Some, None, refl, sym, ap}
use Rattle.std.proofs.Common.{◌∙◌, ◌≤◌, zero, suc, cond, Ordering, nat_cmp}
use Rattle.std.proofs.{Math.Path.fun_ext, lemmas.List.at_drop_more, lemmas.List.map-append, lemmas.List.Folds.list_any-append, lemmas.Cmp.nat_cmp_total}
use Rattle.std.proofs.{lemmas.List.Sorted.searchable_from_sorted}
use Rattle.std.specs.{declared.alloc.Global.Global, Cmp.IsTotalOrder, List.Sorted.IsSortedBy}
use Rattle.std.specs.Ordering.{is_le, is_lt, ordering_index, ordering_then}
use Rattle.bd_value.specs.Tree.{Tree, Scalar, leaf, doc, array, code_scope}
use Rattle.bd_value.specs.{Order.class_cmp, Order.cmp, Order.same_class_cmp, Order.class_of, Order.class_rank, View.tree_of}
use Rattle.bd_query_filter.specs.Filter.{Operators, no_operators, operator}
use Rattle.bd_index_bounds.specs.Bounds.{KeyBounds, KeySet, conjunction, disjunction, no_key, operator_bounds, union, is_of_class, keys_equal_to}
use Rattle.bd_index_bounds.specs.{BoundsView.keys_within, BoundsView.edge_cmp, BoundsView.is_before, declared.bounds.Bounds.Bounds, declared.bounds.Bounds.TheVariants.Or}
use Rattle.bd_index_bounds.specs.{declared.bounds.Cutoff.Cutoff, declared.bounds.Edge.Edge}
use Rattle.bd_index_bounds.specs.declared.bounds.Bounds.TheFolds as folds
use Rattle.bd_value.specs.Tree as trees
use Rattle.bd_value.specs.declared.node.Class.TheVariants as classes
use Rattle.bd_value.proofs.OrderLemmas.{cmp_total}
use Rattle.bd_index_bounds.specs.declared.bounds.Edge.TheVariants as edges

-- ---- the rest of a list

-- the rest of a list from an index on is the member there and the members after it
pub one_off : {A B C : Type 0} (F : List B → C) (f : A → B) (xs : List A) (i : ℕ) (x : A) → i < length xs → x ≡ get_or xs i x
    → F (map f (drop i xs)) ≡ F (f x ∷ map f (drop (i + 1) xs))
one_off F f xs i x lt is = at_drop_more (λ ys. F (map f ys)) xs i x lt ∙ ap (λ y. F (f y ∷ map f (drop (i + 1) xs))) (sym is)

-- ---- conjunctions

in_turn : (m : Bool) (a b c : KeyBounds) → conjunction m (conjunction m a b) c ≡ conjunction m a (conjunction m b c)
in_turn m None b c = refl
in_turn m (Some s) None c = refl
in_turn true (Some s) (Some u) None = refl
in_turn true (Some s) (Some u) (Some v) = refl
in_turn false (Some s) (Some u) None = refl
in_turn false (Some s) (Some u) (Some v) = ap Some (fun_ext (λ k. grind arith))

-- one more member, for bounds F that combine the members of a list from the first on
pub one_narrower : {A B : Type 0} (m : Bool) (F : List B → KeyBounds) (f : A → B) (xs : List A) (i : ℕ) (x : A) (next parts after : KeyBounds)
    → ((ys : List B) → F (f x ∷ ys) ≡ conjunction m next (F ys)) → i < length xs → x ≡ get_or xs i x → after ≡ conjunction m parts next
    → conjunction m parts (F (map f (drop i xs))) ≡ F (map f xs) → conjunction m after (F (map f (drop (i + 1) xs))) ≡ F (map f xs)
one_narrower m F f xs i x next parts after first lt is added so_far =
    let rest = map f (drop (i + 1) xs) in
    ap (λ b. conjunction m b (F rest)) added ∙ in_turn m parts next (F rest) ∙ ap (conjunction m parts) (sym (one_off F f xs i x lt is ∙ first rest)) ∙ so_far

-- ---- disjunctions

union_more : (sets : List KeySet) (set : KeySet) (k : Tree) → union (sets ++ set ∷ []) k ≡ (union sets k || set k)
union_more sets set k = grind (arith, list_any-append)

either_in_turn : (a b c : KeyBounds) → disjunction (disjunction a b) c ≡ disjunction a (disjunction b c)
either_in_turn None b c = refl
either_in_turn (Some s) None c = refl
either_in_turn (Some s) (Some u) None = refl
either_in_turn (Some s) (Some u) (Some v) = ap Some (fun_ext (λ k. grind arith))

-- the union of some parts, as bounds
abbrev pub some_parts : List Bounds → KeyBounds
some_parts parts = Some (union (map keys_within parts))

pub one_wider : {A B : Type 0} (F : List B → KeyBounds) (f : A → B) (xs : List A) (i : ℕ) (x : A) (next : Bounds) (parts after : List Bounds)
    → ((ys : List B) → F (f x ∷ ys) ≡ disjunction (Some (keys_within next)) (F ys)) → i < length xs → x ≡ get_or xs i x → after ≡ parts ++ next ∷ []
    → disjunction (some_parts parts) (F (map f (drop i xs))) ≡ F (map f xs) → disjunction (some_parts after) (F (map f (drop (i + 1) xs))) ≡ F (map f xs)
one_wider F f xs i x next parts after first lt is added so_far =
    let rest = map f (drop (i + 1) xs) in
    let more : some_parts after ≡ disjunction (some_parts parts) (Some (keys_within next)) =
    ap some_parts added ∙ ap (λ (sets : List KeySet). Some (union sets)) (map-append keys_within parts (next ∷ []))
    ∙ ap (λ (set : KeySet). Some set) (fun_ext (union_more (map keys_within parts) (keys_within next))) in
    ap (λ b. disjunction b (F rest)) more ∙ either_in_turn (some_parts parts) (Some (keys_within next)) (F rest)
    ∙ ap (disjunction (some_parts parts)) (sym (one_off F f xs i x lt is ∙ first rest)) ∙ so_far

pub no_part_remaining : (parts : List Bounds) → disjunction (some_parts parts) (Some no_key) ≡ some_parts parts
no_part_remaining parts = ap Some (fun_ext (λ k. grind arith))

-- the keys within a union in memory are those within some part
pub keys_within-Or : (v : Vec Bounds Global) → keys_within (Or v) ≡ union (map keys_within v.items)
keys_within-Or v = search (rules, folds.the_lemmas)

-- ---- another path

pub no_rest : (os : Operators) (m : Bool) → operator_bounds os None m ≡ None
no_rest no_operators m = refl
no_rest (operator o os) m = no_rest os m

undefined_key : (k : Tree) → is_of_class classes.Undefined k ≡ keys_equal_to (leaf trees.undefined) k
undefined_key (leaf trees.undefined) = refl
undefined_key _ = refl

pub undefined_alone : is_of_class classes.Undefined ≡ keys_equal_to (leaf trees.undefined)
undefined_alone = fun_ext undefined_key

null_key : (k : Tree) → is_of_class classes.Null k ≡ keys_equal_to (leaf trees.null) k
null_key (leaf trees.null) = refl
null_key _ = refl

pub null_alone : is_of_class classes.Null ≡ keys_equal_to (leaf trees.null)
null_alone = fun_ext null_key

abbrev precedes : Bool → Ordering → Bool
precedes after o = cond after (is_le o) (is_lt o)

lower : (after : Bool) (o p : Ordering) → ordering_index o ≤ ordering_index p → precedes after p ≡ true → precedes after o ≡ true
lower after o p le h = grind arith

first_not_less : (o p : Ordering) → is_lt (ordering_then o p) ≡ false → is_lt o ≡ false
first_not_less o p h = grind arith

-- if y does not sort below x, x compares to v no higher than y does
in_order : {A : Type 0} (by : A → A → Ordering) → IsTotalOrder by → (x y v : A) → is_lt (by y x) ≡ false → ordering_index (by x v) ≤ ordering_index (by y v)
in_order by total x y v h = searchable_from_sorted total (λ e. e) (x ∷ y ∷ []) v sorted 0 1 x (omega arith) (omega arith)
  where
    sorted : IsSortedBy (λ a b. is_lt (by a b)) (x ∷ y ∷ [])
    sorted zero d low high = h
    sorted (suc k) d low high = absurd (omega arith)

edges_rise : (e : Edge) (j k : Tree) → is_lt (cmp k j) ≡ false → ordering_index (edge_cmp j e) ≤ ordering_index (edge_cmp k e)
edges_rise (edges.Value v) j k h = in_order cmp cmp_total j k (tree_of v.now) h
edges_rise (edges.Class class) j k h =
    in_order nat_cmp nat_cmp_total (class_rank (class_of j)) (class_rank (class_of k)) (class_rank class) (first_not_less (class_cmp k j) (same_class_cmp k j) h)

-- a key that does not compare above a key before a cutoff is before the cutoff too
pub falls_once : (cutoff : Cutoff) (j k : Tree) → is_lt (cmp k j) ≡ false → is_before cutoff k ≡ true → is_before cutoff j ≡ true
falls_once cutoff j k h b = lower cutoff.after (edge_cmp j cutoff.edge) (edge_cmp k cutoff.edge) (edges_rise cutoff.edge j k h) b
