-- The earliest of some keys, by parts.
use Rattle.std.proofs.Common.{◌≡◌, ◌≢◌, ◌⊎◌, inl, inr, ℕ, Bool, true, false, not, cond, filter, List, [], ◌∷◌, ◌++◌, Option, Some, None, Ordering, Equal, refl, sym, ap, ◌∙◌, append-nil, arith}
use Rattle.std.specs.{Prelude.IfSome, Prelude.is_some, Prelude.option_map, Cmp.IsTotalOrder, List.flat_map, List.fold, List.list_any, List.reduce, Ordering.is_eq, Ordering.is_lt, Ordering.ordering_reverse}
use Rattle.std.proofs.lemmas.Bool.{cond_both, not_from_false, or_cases, or_from, or_parts}
use Rattle.std.proofs.{lemmas.Cmp.on_total, lemmas.Cmp.then_total, lemmas.Cmp.tied_back, lemmas.Cmp.tied_itself, lemmas.Grind.flat_map-append}
use Rattle.std.proofs.{lemmas.List.Elements.filter-append, lemmas.List.Sorted.ranks_by, lemmas.Map.Views.any-filter_same, lemmas.Option.IfSome_then}
use Rattle.bd_value.specs.{View.kind_of, Order.cmp, Order.equal, Tree.elements_in, Tree.Scalar, Tree.Tree, Tree.leaf, Tree.array}
use Rattle.bd_value.specs.Tree as trees
use Rattle.bd_value.specs.declared.node.Kind.TheVariants as kinds
use Rattle.bd_value.proofs.OrderLemmas.{cmp_total}
use Rattle.bd_path.specs.Key.{IsKeyAt, IsKeyOf, all_keys, distinct, end_keys, key_tree, keys, or_else, sparse_keys}
use Rattle.bd_path.specs.inside.Key.{stop_keys, with_key, with_keys}
use Rattle.bd_path.specs.{Reach.End, Reach.Names, Reach.reach, declared.key.Key.Key, declared.sort.Dir.Dir, declared.path_walk.Stop.Stop, declared.path_walk.Stop.TheVariants.Value}
use Rattle.bd_path.specs.Sort.{SortPath, dir_cmp, earlier, sort_cmp, sort_key}
use Rattle.bd_path.specs.inside.Sort.{IsEarliestFrom, earlier_key, earliest_key, gives_earlier, is_earlier}
use Rattle.bd_path.specs.PathWalk.{Stops, or_stop, stops}
use Rattle.bd_path.specs.inside.PathWalk.{TakesOrEnds, TakesStops}
use Rattle.bd_path.specs.declared.sort.Dir.TheVariants.{Up, Down}
use Rattle.bd_path.proofs.ReachLemmas.{In, any_still, found_from, in_left, in_right, scalar_is_no_array}
use Rattle.bd_path.proofs.DistinctLemmas.{distinct_is}
use Rattle.bd_path.proofs.PathWalkLemmas as stop
use Rattle.bd_path.proofs.PathWalkLemmas.{ends_are, keys_are, some_stop, stop_ends}

-- the order of keys is total in either direction
pub dir_total : (dir : Dir) → IsTotalOrder (dir_cmp dir)
dir_total Up = cmp_total
dir_total Down = record {
  antisymm = λ x y. ap ordering_reverse (cmp_total.antisymm x y);
  trans = λ x y z e f. sym (cmp_total.antisymm z x) ∙ cmp_total.trans z y x (cmp_total.antisymm z y ∙ f) (cmp_total.antisymm y x ∙ e);
  congr = λ x y z e. ap ordering_reverse (cmp_total.congr x y z (tied_back cmp_total y x (cmp_total.antisymm y x ∙ e)));
}

pub equal_is : (o : Ordering) → is_eq o ≡ true → o ≡ Equal
equal_is o e = grind arith

dir_equal : (dir : Dir) (a b : Tree) → equal a b ≡ true → dir_cmp dir a b ≡ Equal
dir_equal Up a b is = equal_is (cmp a b) is
dir_equal Down a b is = ap ordering_reverse (equal_is (cmp a b) is)

module _ (dir : Dir) where
  all_before : (a b c : Tree) → is_lt (dir_cmp dir b a) ≡ true → is_lt (dir_cmp dir c b) ≡ true → is_lt (dir_cmp dir c a) ≡ true
  all_before a b c ba cb = grind (arith, (dir_total dir).trans c b a)

  none_before : (a b c : Tree) → is_lt (dir_cmp dir b a) ≡ false → is_lt (dir_cmp dir c b) ≡ false → is_lt (dir_cmp dir c a) ≡ false
  none_before a b c ba cb = (ranks_by (dir_total dir) (λ (t : Tree). t)).chain c b a cb ba

  right_none : (a : Option Tree) → earlier_key dir a None ≡ a
  right_none a = grind arith

  three : (a b c : Tree) → earlier_key dir (Some a) (earlier_key dir (Some b) (Some c)) ≡ earlier_key dir (earlier_key dir (Some a) (Some b)) (Some c)
  three a b c = grind (arith, all_before a b c, none_before a b c)

  in_turn : (a b c : Option Tree) → earlier_key dir a (earlier_key dir b c) ≡ earlier_key dir (earlier_key dir a b) c
  in_turn None b c = refl
  in_turn (Some a) None c = refl
  in_turn (Some a) (Some b) None = sym (right_none (earlier_key dir (Some a) (Some b)))
  in_turn (Some a) (Some b) (Some c) = three a b c

  -- a fold from the first key on finds the earliest
  folded : (a : Tree) (ks : List Tree) → Some (fold (earlier dir) a ks) ≡ earlier_key dir (Some a) (earliest_key dir ks)
  folded a [] = refl
  folded a (k ∷ ks) =
      let one : Some (earlier dir a k) ≡ earlier_key dir (Some a) (Some k) = grind arith in
      folded (earlier dir a k) ks ∙ ap (λ e. earlier_key dir e (earliest_key dir ks)) one ∙ sym (in_turn (Some a) (Some k) (earliest_key dir ks))

  reduced : (ks : List Tree) → reduce (earlier dir) ks ≡ earliest_key dir ks
  reduced [] = refl
  reduced (k ∷ ks) = folded k ks

  of_both : (xs ys : List Tree) → earliest_key dir (xs ++ ys) ≡ earlier_key dir (earliest_key dir xs) (earliest_key dir ys)
  of_both [] ys = refl
  of_both (x ∷ xs) ys = ap (earlier_key dir (Some x)) (of_both xs ys) ∙ in_turn (Some x) (earliest_key dir xs) (earliest_key dir ys)

  -- ---- none is earlier

  none_taken : (e : Option Tree) (ks : List Tree) → list_any (is_earlier dir e) ks ≡ false → earlier_key dir e (earliest_key dir ks) ≡ e
  none_taken e [] h = right_none e
  none_taken None (k ∷ ks) h = absurd cc
  none_taken (Some a) (k ∷ ks) h =
      let both = or_parts (is_earlier dir (Some a) k) (list_any (is_earlier dir (Some a)) ks) h in
      in_turn (Some a) (Some k) (earliest_key dir ks) ∙ rw both.0 (none_taken (Some a) ks both.1)

  -- the earlier of two keys has none earlier than itself among those that were not earlier
  one_still : (e y : Option Tree) (k : Tree) → is_earlier dir e k ≡ false → is_earlier dir (earlier_key dir e y) k ≡ false
  one_still None y k h = absurd cc
  one_still (Some a) None k h = h
  one_still (Some a) (Some b) k h = grind (arith, all_before a b k)

  one_taken : (e : Option Tree) (k : Tree) → is_earlier dir (earlier_key dir e (Some k)) k ≡ false
  one_taken None k = ap is_lt (tied_itself (dir_total dir) k)
  one_taken (Some a) k = cond_both (is_lt (dir_cmp dir k a)) (Some k) (Some a) (λ x. is_earlier dir x k ≡ false) (λ e. ap is_lt (tied_itself (dir_total dir) k)) (λ e. e)

  -- once all are processed, none of them is earlier
  all_taken : (e : Option Tree) (ks : List Tree) → list_any (is_earlier dir (earlier_key dir e (earliest_key dir ks))) ks ≡ false
  all_taken e [] = refl
  all_taken e (k ∷ ks) =
      ap (λ (x : Option Tree). list_any (is_earlier dir x) (k ∷ ks)) (in_turn e (Some k) (earliest_key dir ks))
      ∙ or_from _ _ (one_still (earlier_key dir e (Some k)) (earliest_key dir ks) k (one_taken e k)) (all_taken (earlier_key dir e (Some k)) ks)

  -- ---- a key that equals one of them

  same_earlier : (e : Option Tree) (k t : Tree) → equal k t ≡ true → is_earlier dir e k ≡ is_earlier dir e t
  same_earlier None k t same = refl
  same_earlier (Some a) k t same = ap is_lt ((dir_total dir).congr k t a (dir_equal dir k t same))

  not_earlier : (e : Option Tree) (ks : List Tree) (t : Tree) → list_any (λ x. equal x t) ks ≡ true → list_any (is_earlier dir e) ks ≡ false → is_earlier dir e t ≡ false
  not_earlier e [] t is none = absurd cc
  not_earlier e (k ∷ ks) t is none =
      let both = or_parts (is_earlier dir e k) (list_any (is_earlier dir e) ks) none in
      elim (or_cases (equal k t) (list_any (λ x. equal x t) ks) is) [ inl same ↦ sym (same_earlier e k t same) ∙ both.0 | inr r ↦ not_earlier e ks t r both.1 ]

  there : (ks : List Tree) (t : Tree) → list_any (λ x. equal x t) ks ≡ true → earlier_key dir (earliest_key dir ks) (Some t) ≡ earliest_key dir ks
  there ks t is = none_taken (earliest_key dir ks) (t ∷ []) (or_from _ _ (not_earlier (earliest_key dir ks) ks t is (all_taken None ks)) refl)

  one_key : (ks : List Tree) (t : Tree) → earliest_key dir (with_key ks t) ≡ earlier_key dir (earliest_key dir ks) (Some t)
  one_key ks t = cond_both (list_any (λ x. equal x t) ks) ks (ks ++ t ∷ []) (λ l. earliest_key dir l ≡ earlier_key dir (earliest_key dir ks) (Some t))
      (λ is. sym (there ks t is)) (λ is. of_both ks (t ∷ []))

  all_of_keys : (ks ts : List Tree) → earliest_key dir (with_keys ks ts) ≡ earlier_key dir (earliest_key dir ks) (earliest_key dir ts)
  all_of_keys ks [] = sym (right_none (earliest_key dir ks))
  all_of_keys ks (t ∷ ts) =
      all_of_keys (with_key ks t) ts ∙ ap (λ e. earlier_key dir e (earliest_key dir ts)) (one_key ks t) ∙ sym (in_turn (earliest_key dir ks) (Some t) (earliest_key dir ts))

  pub earliest_is : (t : Tree) (p : Names) → reduce (earlier dir) (keys t p) ≡ earliest_key dir (flat_map (stop_keys false) (stops t p))
  earliest_is t p = reduced (keys t p) ∙ ap (earliest_key dir) (sym (distinct_is (all_keys false t p))) ∙ all_of_keys [] (all_keys false t p) ∙ ap (earliest_key dir) (stop.keys_are false t p)

  -- ---- there is always a key

  some_key : (x : Tree) (e : Option Tree) → None ≡ earlier_key dir (Some x) e → ⊥
  some_key x e is = grind arith

  pub no_earliest : (ks : List Tree) → None ≡ earliest_key dir ks → ks ≡ []
  no_earliest [] is = refl
  no_earliest (k ∷ ks) is = absurd (some_key k (earliest_key dir ks) is)

  -- each path has an earliest key
  pub earliest_there : (t : Tree) (p : Names) → None ≡ earliest_key dir (flat_map (stop_keys false) (stops t p)) → ⊥
  earliest_there t p is = let some = rw (no_earliest (flat_map (stop_keys false) (stops t p)) is) at (stop.some_key t p (leaf trees.null ∷ [])) in cc

-- if P holds of both, it holds of either
pub of_either : {A : Type 0} (P : A → Type 0) (r : A) (a : Option A) (b : A) → (Some r ≡ a) ⊎ (r ≡ b) → IfSome a P → P b → P r
of_either P r a b (inl is) first second = rw (← is) at first
of_either P r a b (inr is) first second = rw is second

pub ends_of_array : (t : Tree) → kind_of t ≡ kinds.Array → end_keys t ≡ or_else (elements_in t) (leaf trees.undefined ∷ [])
ends_of_array (array ts) k = refl
ends_of_array (leaf s) k = absurd (scalar_is_no_array s k)
ends_of_array _ k = absurd cc

-- the earliest so far, and the first of those that remain, continue as the earliest of both
pub end_on : (dir : Dir) (e f : Option Tree) (t : Tree) (ts us : List Tree) (all : Option Tree)
    → earlier_key dir e (earliest_key dir ts) ≡ all → ts ≡ t ∷ us → f ≡ earlier_key dir e (Some t) → earlier_key dir f (earliest_key dir us) ≡ all
end_on dir e f t ts us all so_far first is = rw is (sym (in_turn dir e (Some t) (earliest_key dir us)) ∙ rw first at so_far)

-- ---- the keys of one more stop

flat_more : (dir : Dir) (ss : Stops) (s : Stop Tree) → earliest_key dir (flat_map (stop_keys false) (ss ++ s ∷ []))
    ≡ earlier_key dir (earliest_key dir (flat_map (stop_keys false) ss)) (earliest_key dir (stop_keys false s))
flat_more dir ss s = rw (flat_map-append, append-nil) (of_both dir (flat_map (stop_keys false) ss) (stop_keys false s))

no_ends : (ss : Stops) → list_any (λ _. false) ss ≡ false
no_ends [] = refl
no_ends (s ∷ ss) = no_ends ss

module _ {N : Type 0} (tree : N → Tree) (source : N → List ℕ) (dir : Dir) where
  pub known_earliest : (key : Option (Key N)) (bytes : List ℕ) (ss : Stops) (s : Stop Tree) → gives_earlier dir (option_map (key_tree tree) key) s ≡ false → IsEarliestFrom tree source dir key bytes ss
      → IsEarliestFrom tree source dir key bytes (ss ++ s ∷ [])
  known_earliest key bytes ss s none is = record {
    earliest = sym (flat_more dir ss s
        ∙ ap (λ e. earlier_key dir e (earliest_key dir (stop_keys false s))) (sym is.earliest)
        ∙ none_taken dir (option_map (key_tree tree) key) (stop_keys false s) none);
    same_source = is.same_source;
    there = IfSome_then key is.there (stop.at_more false ss (s ∷ []));
  }

  pub takes_earliest : (bytes : List ℕ) (before : Option (Key N)) (r k : Key N) (s : Stop Tree) → Some (key_tree tree k) ≡ earliest_key dir (stop_keys false s)
      → IsKeyOf source bytes k → IsKeyAt false (s ∷ []) k → Some (key_tree tree r) ≡ earlier_key dir (option_map (key_tree tree) before) (Some (key_tree tree k)) → (Some r ≡ before) ⊎ (r ≡ k)
      → TakesStops (IsEarliestFrom tree source dir) (λ f. gives_earlier dir (option_map (key_tree tree) f)) bytes before (Some r) (s ∷ [])
  takes_earliest bytes before r k s is same_source there taken either =
      let more = stop_keys false s in
      let old = option_map (key_tree tree) before in
      let fact : Some (key_tree tree r) ≡ earlier_key dir old (earliest_key dir more) = taken ∙ ap (earlier_key dir old) is in
      record {
        adds = λ ss are. record {
          earliest = fact ∙ ap (λ e. earlier_key dir e (earliest_key dir more)) are.earliest ∙ sym (flat_more dir ss s);
          same_source = of_either (IsKeyOf source bytes) r before k either are.same_source same_source;
          there = of_either (IsKeyAt false (ss ++ s ∷ [])) r before k either (IfSome_then before are.there (stop.at_more false ss (s ∷ []))) (stop.at_last false ss (s ∷ []) k there);
        };
        none_new = or_from _ _ (ap (λ e. list_any (is_earlier dir e) more) fact ∙ all_taken dir old more) refl;
        still = λ z h. ap (λ e. list_any (is_earlier dir e) (stop_keys false z)) fact
            ∙ any_still (is_earlier dir old) (is_earlier dir (earlier_key dir old (earliest_key dir more))) (one_still dir old (earliest_key dir more)) (stop_keys false z) h;
      }

  pub whole : (bytes : List ℕ) (key : Option (Key N)) (t : Tree) (p : Names) (b : Bool)
      → TakesOrEnds (IsEarliestFrom tree source dir)
      (λ f. gives_earlier dir (option_map (key_tree tree) f)) (λ _. false) b bytes None key (stops t p) → IsEarliestFrom tree source dir key bytes (stops t p)
  whole bytes key t p true h = h.adds [] (record { earliest = refl; same_source = tt; there = tt })
  whole bytes key t p false h = let none = no_ends (stops t p) in absurd cc

-- ---- the keys of a path and what it reaches

abbrev null : Tree
null = leaf trees.null

-- each stop without a value gives a null
missing_at : (ss : Stops) → In None (flat_map stop_ends ss) → In null (flat_map (stop_keys false) ss)
missing_at [] h = absurd h
missing_at (Value t ∷ ss) h = elim h [ inl e ↦ cc | inr r ↦ in_right null (end_keys t) (flat_map (stop_keys false) ss) (missing_at ss r) ]
missing_at (_ ∷ ss) h = inl refl

nowhere_at : (ss : Stops) → or_stop ss ≡ ss → flat_map stop_ends ss ≡ [] → In null (flat_map (stop_keys false) ss)
nowhere_at [] o e = absurd cc
nowhere_at (Value t ∷ ss) o e = absurd cc
nowhere_at (_ ∷ ss) o e = inl refl

-- if a field is missing on the path, null is a key
missing : (t : Tree) (p : Names) → In None (reach t p) → In null (all_keys false t p)
missing t p h = rw (keys_are false t p) (missing_at (stops t p) (rw (ends_are t p) at h))

no_values : (es : List End) → list_any is_some es ≡ false → (es ≡ []) ⊎ In None es
no_values [] h = inl refl
no_values (None ∷ es) h = inr (inl refl)
no_values (Some t ∷ es) h = absurd cc

-- also if the path reaches no value at all
pub absent : (t : Tree) (p : Names) → list_any is_some (reach t p) ≡ false → In null (all_keys false t p)
absent t p h = elim (no_values (reach t p) h) [
  | inl none ↦ rw (keys_are false t p) (nowhere_at (stops t p) (some_stop t p) (sym (ends_are t p) ∙ none))
  | inr b ↦ missing t p b
]

-- a document has at least one key on each path
pub has_a_key : (t : Tree) (p : Names) → keys t p ≢ []
has_a_key t p none = earliest_there Up t p (ap (reduce (earlier Up)) (sym none) ∙ earliest_is Up t p)

-- ---- equal values

-- a value compares as equal to itself
pub equal_itself : (x : Tree) → equal x x ≡ true
equal_itself x = ap is_eq (tied_itself cmp_total x)

-- values that compare as equal to a third one compare as equal
pub equal_on : (x y z : Tree) → equal x y ≡ true → equal y z ≡ true → equal x z ≡ true
equal_on x y z e f = ap is_eq (cmp_total.congr x y z (equal_is (cmp x y) e)) ∙ f

pub equal_back : (x y : Tree) → equal x y ≡ true → equal y x ≡ true
equal_back x y e = ap is_eq (tied_back cmp_total x y (equal_is (cmp x y) e))

null_scalar : (s : Scalar) → equal (leaf s) null ≡ true → leaf s ≡ null
null_scalar trees.null e = refl
null_scalar _ e = absurd cc

only_null : (x : Tree) → equal x null ≡ true → x ≡ null
only_null (leaf s) e = null_scalar s e
only_null _ e = absurd cc

-- ---- keys without repeats

pub record HasEqual (x : Tree) (ks : List Tree) : Type 0 where
  pub it : Tree
  pub is_in : In it ks
  pub same : equal it x ≡ true

still : (ts ks : List Tree) (x : Tree) → In x ks → In x (with_keys ks ts)
still [] ks x h = h
still (t ∷ ts) ks x h = still ts (with_key ks t) x (cond_both (list_any (λ y. equal y t) ks) ks (ks ++ t ∷ []) (λ l. In x l) (λ e. h) (λ e. in_left x ks (t ∷ []) h))

its_equal : (b : Bool) (ks : List Tree) (k : Tree) → list_any (λ y. equal y k) ks ≡ b → HasEqual k (cond b ks (ks ++ k ∷ []))
its_equal true ks k e = let f = found_from (λ y. equal y k) ks e in record { it = f.it; is_in = f.is_in; same = f.passes }
its_equal false ks k e = record { it = k; is_in = in_right k ks (k ∷ []) (inl refl); same = equal_itself k }

-- a key that was added is among the keys, or an equal one is
added_has : (ts ks : List Tree) (x : Tree) → In x ts → HasEqual x (with_keys ks ts)
added_has [] ks x h = absurd h
added_has (t ∷ ts) ks x (inl e) =
    let r = its_equal (list_any (λ y. equal y t) ks) ks t refl in
    record { it = r.it; is_in = still ts (with_key ks t) r.it r.is_in; same = rw e r.same }
added_has (t ∷ ts) ks x (inr h) = added_has ts (with_key ks t) x h

-- each of some keys equals one of the distinct ones
pub distinct_has : (ts : List Tree) (x : Tree) → In x ts → HasEqual x (distinct ts)
distinct_has ts x h = rw (distinct_is ts) at (added_has ts [] x h)

null_is_key : (t : Tree) (p : Names) → In null (all_keys false t p) → In null (keys t p)
null_is_key t p h = let r = distinct_has (all_keys false t p) null h in rw (only_null r.it r.same) at r.is_in

-- a missing field on a path gives the key null
pub missing_gives_null : (t : Tree) (p : Names) → In None (reach t p) → In null (keys t p)
missing_gives_null t p h = null_is_key t p (missing t p h)

pub nothing_gives_null : (t : Tree) (p : Names) → list_any is_some (reach t p) ≡ false → In null (keys t p)
nothing_gives_null t p h = null_is_key t p (absent t p h)

-- ---- sparse keys: those that are not null are the same with and without the nulls

abbrev is_other : Tree → Bool
is_other x = not (equal x null)

other_alike : (k y : Tree) → is_other k ≡ true → equal y k ≡ true → is_other y ≡ true
other_alike k y o e = grind (arith, equal_on k y null, equal_back y k)

others_with : (ks : List Tree) (k : Tree) → filter is_other (with_key ks k) ≡ cond (is_other k) (with_key (filter is_other ks) k) (filter is_other ks)
others_with ks k =
    let same : is_other k ≡ true → list_any (λ y. equal y k) (filter is_other ks) ≡ list_any (λ y. equal y k) ks =
    λ (o : is_other k ≡ true). any-filter_same (λ y. equal y k) is_other true (λ y e. other_alike k y o e) ks in
    grind (arith, filter-append is_other ks (k ∷ []), append-nil (filter is_other ks))

others_of : (ks ts : List Tree) → filter is_other (with_keys ks ts) ≡ with_keys (filter is_other ks) (filter is_other ts)
others_of ks [] = refl
others_of ks (t ∷ ts) = grind (arith, others_of (with_key ks t) ts, others_with ks t)

distinct_others : (ks : List Tree) → filter is_other (distinct ks) ≡ distinct (filter is_other ks)
distinct_others ks = ap (filter is_other) (sym (distinct_is ks)) ∙ others_of [] ks ∙ distinct_is (filter is_other ks)

others_at : (ss : Stops) → filter is_other (flat_map (stop_keys true) ss) ≡ filter is_other (flat_map (stop_keys false) ss)
others_at [] = refl
others_at (Value t ∷ ss) = rw (filter-append is_other (end_keys t) (flat_map (stop_keys true) ss), filter-append is_other (end_keys t) (flat_map (stop_keys false) ss), others_at ss)
others_at (_ ∷ ss) = others_at ss

in_others : (x : Tree) (xs : List Tree) → In x xs → is_other x ≡ true → In x (filter is_other xs)
in_others x [] h o = absurd h
in_others x (y ∷ xs) (inl e) o = rw (← e, o) (inl refl)
in_others x (y ∷ xs) (inr h) o = cond_both (is_other y) (y ∷ filter is_other xs) (filter is_other xs) (λ zs. In x zs) (λ e. inr (in_others x xs h o)) (λ e. in_others x xs h o)

-- what passes a test among members is a member
pub from_filter : {A : Type 0} (p : A → Bool) (x : A) (xs : List A) → In x (filter p xs) → In x xs
from_filter p x [] h = h
from_filter p x (y ∷ xs) h = go (p y) h (from_filter p x xs)
  where
    go : (b : Bool) → In x (cond b (y ∷ filter p xs) (filter p xs)) → (In x (filter p xs) → In x xs) → In x (y ∷ xs)
    go true (inl e) more = inl e
    go true (inr r) more = inr (more r)
    go false r more = inr (more r)

-- a key other than null is in a sparse index too
pub sparse_has : (t : Tree) (p : Names) (k : Tree) → In k (keys t p) → equal k null ≡ false → In k (sparse_keys t p)
sparse_has t p k h other =
    let same : filter is_other (all_keys false t p) ≡ filter is_other (all_keys true t p) = rw (keys_are false t p, keys_are true t p) (sym (others_at (stops t p))) in
    let all = distinct_others (all_keys false t p) ∙ ap distinct same ∙ sym (distinct_others (all_keys true t p)) in
    from_filter is_other k (sparse_keys t p) (rw all at (in_others k (keys t p) h (not_from_false _ other)))

-- ---- the order of a sort

-- the order of documents by several paths is total, with ties
pub sort_total : (sort : List SortPath) → IsTotalOrder (sort_cmp sort)
sort_total [] = record { antisymm = λ x y. refl; trans = λ x y z e f. e; congr = λ x y z e. refl }
sort_total (s ∷ ss) = then_total (on_total (λ t. sort_key s.dir t s.path) (dir_total s.dir)) (sort_total ss)
