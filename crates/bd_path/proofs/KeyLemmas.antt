-- Lemmas on appending keys.
use Rattle.std.proofs.Common.{◌≡◌, ◌<◌, ℕ, List, [], ◌∷◌, ◌++◌, ◌+◌, Bool, true, false, length, map, get_or, take, refl, sym, ap, ◌∙◌, append-nil, append_assoc, arith}
use Rattle.std.specs.Prelude.{Result, Ok, Err, OnOk, Some, is_ok, ◌||◌, slice_get}
use Rattle.std.specs.List.{flat_map, list_any}
use Rattle.std.proofs.{lemmas.Grind.flat_map-append, lemmas.List.map_more, lemmas.List.Folds.list_any-append, lemmas.Map.Keys.any_passes_from_place}
use Rattle.std.proofs.lemmas.Bool.{not-false, not_from_true, or_from, or_parts}
use Rattle.std.proofs.lemmas.List.Elements.{All-nil, All-weaker}
use Rattle.bd_value.specs.{View.kind_of, Order.equal, Tree.Tree, Tree.array}
use Rattle.bd_value.specs.declared.node.Kind.TheVariants as kinds
use Rattle.bd_path.specs.Key.{distinct, end_keys, indexed_keys}
use Rattle.bd_path.specs.inside.Key.{AddsKeys, AreKeysFrom, gives_new, is_new, stop_keys, with_key, with_keys}
use Rattle.bd_path.specs.{Key.AreKeysAt, Key.AreKeysOf, Key.IsKeyAt, Key.key_trees, Reach.Names, declared.key.Key.Key, declared.path_walk.Stop.Stop}
use Rattle.bd_path.specs.PathWalk.{Stops, stops}
use Rattle.bd_path.specs.inside.PathWalk.{TakesStops, TakesOrEnds}
use Rattle.bd_path.proofs.{DistinctLemmas.distinct_append, SortLemmas.distinct_has, SortLemmas.equal_itself, SortLemmas.equal_on, PathWalkLemmas.at_more, PathWalkLemmas.keys_are}
use Rattle.bd_path.proofs.ReachLemmas.{any_at, any_still as none_passes, found_from}

-- what holds in any case holds on success
pub on_ok_always : {T E Q : Type 0} (r : Result T E) → Q → OnOk r Q
on_ok_always (Ok x) h = h
on_ok_always (Err e) h = tt

-- ---- the first of equal keys

-- if none is new, they change nothing
none_added : (ks xs : List Tree) → list_any (is_new ks) xs ≡ false → with_keys ks xs ≡ ks
none_added ks [] h = refl
none_added ks (x ∷ xs) h = let both = or_parts (is_new ks x) (list_any (is_new ks) xs) h in rw (not-false _ both.0) (none_added ks xs both.1)

any_more : (t : Tree → Bool) (ks : List Tree) (y : Tree) → list_any t ks ≡ true → list_any t (with_key ks y) ≡ true
any_more t ks y h = grind (arith, list_any-append)

any_still : (t : Tree → Bool) (ks ys : List Tree) → list_any t ks ≡ true → list_any t (with_keys ks ys) ≡ true
any_still t ks [] h = h
any_still t ks (y ∷ ys) h = any_still t (with_key ks y) ys (any_more t ks y h)

none_still : (ks ys xs : List Tree) → list_any (is_new ks) xs ≡ false → list_any (is_new (with_keys ks ys)) xs ≡ false
none_still ks ys xs h = none_passes (is_new ks) (is_new (with_keys ks ys)) (λ x old. not_from_true _ (any_still (λ y. equal y x) ks ys (not-false _ old))) xs h

one_added : (ks : List Tree) (x : Tree) → list_any (λ y. equal y x) (with_key ks x) ≡ true
one_added ks x = grind (arith, list_any-append, equal_itself)

-- once they are added, none of them is new
all_added : (ks xs : List Tree) → list_any (is_new (with_keys ks xs)) xs ≡ false
all_added ks [] = refl
all_added ks (x ∷ xs) = or_from _ _ (not_from_true _ (any_still (λ y. equal y x) (with_key ks x) xs (one_added ks x))) (all_added (with_key ks x) xs)

-- ---- the keys that a loop has so far

pub one_more : {A : Type 0} (f : A → Tree) (xs : List A) (i : ℕ) (x : A) (old new : List Tree) → i < length xs → x ≡ get_or xs i x
    → new ≡ with_key old (f x) → old ≡ distinct (map f (take i xs)) → new ≡ distinct (map f (take (i + 1) xs))
one_more {A} f xs i x old new lt is added so_far =
    added ∙ ap (λ (l : List Tree). with_key l (f x)) so_far ∙ sym (distinct_append (map f (take i xs)) (f x ∷ []))
    ∙ ap distinct (sym (map_more f xs i x lt ∙ ap (λ (y : A). map f (take i xs) ++ f y ∷ []) (sym is)))

any_map : {A : Type 0} (t : Tree → Bool) (f : A → Tree) (xs : List A) → list_any t (map f xs) ≡ list_any (λ x. t (f x)) xs
any_map t f [] = refl
any_map t f (x ∷ xs) = ap (λ (b : Bool). t (f x) || b) (any_map t f xs)

-- whether a key equals one of the keys
pub equal_there : {A : Type 0} (f : A → Tree) (xs ys : List A) (k : A) (r : Bool) → r ≡ list_any (λ x. equal (f x) (f k)) ys → ys ≡ xs → list_any (λ x. equal x (f k)) (map f xs) ≡ r
equal_there f xs ys k r is same = rw (any_map, ← same, is)

-- a key that equals one of the list adds nothing
pub equals_last : {A : Type 0} (f : A → Tree) (xs : List A) (i : ℕ) (x k : A) → slice_get xs i ≡ Some x → equal (f x) (f k) ≡ true → distinct (map f xs) ≡ distinct (map f xs ++ f k ∷ [])
equals_last f xs i x k at e =
    let first = found_from (λ y. equal y (f k)) (map f xs) (any_map (λ y. equal y (f k)) f xs ∙ any_passes_from_place (λ y. equal (f y) (f k)) xs i x at e) in
    let same_source = distinct_has (map f xs) first.it first.is_in in
    let any = any_at (λ y. equal y (f k)) (distinct (map f xs)) same_source.it same_source.is_in (equal_on same_source.it first.it (f k) same_source.same first.passes) in
    rw (distinct_append (map f xs) (f k ∷ []), any)

-- ---- the elements of an array

pub one_passed : (old new : List Tree) (t : Tree) (us vs all : List Tree) → distinct new ≡ distinct (old ++ t ∷ []) → us ≡ t ∷ vs → distinct (old ++ us) ≡ all → distinct (new ++ vs) ≡ all
one_passed old new t us vs all is e so_far = rw (distinct_append new vs, is, ← distinct_append (old ++ t ∷ []) vs, append_assoc, ← e) so_far

-- a value that is not an array gives itself
pub single_key : (t : Tree) → (kind_of t ≡ kinds.Array → ⊥) → end_keys t ≡ t ∷ []
single_key (array ts) n = absurd (n refl)
single_key _ n = refl

-- ---- the keys of one more stop

flat_more : (sparse : Bool) (ss : Stops) (s : Stop Tree) → distinct (flat_map (stop_keys sparse) (ss ++ s ∷ [])) ≡ with_keys (distinct (flat_map (stop_keys sparse) ss)) (stop_keys sparse s)
flat_more sparse ss s = rw (flat_map-append, append-nil) (distinct_append (flat_map (stop_keys sparse) ss) (stop_keys sparse s))

pub indexed : (sparse : Bool) (t : Tree) (p : Names) → distinct (flat_map (stop_keys sparse) (stops t p)) ≡ indexed_keys sparse t p
indexed sparse t p = ap distinct (sym (keys_are sparse t p))

module _ {N : Type 0} (tree : N → Tree) (source : N → List ℕ) (sparse : Bool) where
  all_at_more : (ss more : Stops) (ks : List (Key N)) → AreKeysAt sparse ss ks → AreKeysAt sparse (ss ++ more) ks
  all_at_more ss more ks h = All-weaker (IsKeyAt sparse ss) (IsKeyAt sparse (ss ++ more)) (at_more sparse ss more) ks h

  pub known_keys : (keys : List (Key N)) (bytes : List ℕ) (ss : Stops) (s : Stop Tree) → gives_new sparse (key_trees tree keys) s ≡ false → AreKeysFrom tree source sparse keys bytes ss
      → AreKeysFrom tree source sparse keys bytes (ss ++ s ∷ [])
  known_keys keys bytes ss s none are = record {
    listed = sym (flat_more sparse ss s ∙ ap (λ (ks : List Tree). with_keys ks (stop_keys sparse s)) (sym are.listed) ∙ none_added (distinct (key_trees tree keys)) (stop_keys sparse s) none);
    same_source = are.same_source;
    there = all_at_more ss (s ∷ []) keys are.there;
  }

  module _ {F : Type 0} (items : F → List (Key N)) (bytes : List ℕ) (before after : F) (s : Stop Tree) (same_source : AreKeysOf source bytes (items before) → AreKeysOf source bytes (items after)) where
    takes_keys : AddsKeys tree (items before) (items after) (stop_keys sparse s) → ((ss : Stops) → AreKeysAt sparse (ss ++ s ∷ []) (items before) → AreKeysAt sparse (ss ++ s ∷ []) (items after))
        → TakesStops (λ f. AreKeysFrom tree source sparse (items f)) (λ f. gives_new sparse (key_trees tree (items f))) bytes before after (s ∷ [])
    takes_keys is there =
        let more = stop_keys sparse s in
        let old = distinct (key_trees tree (items before)) in
        let fact : distinct (key_trees tree (items after)) ≡ with_keys old more = is ∙ distinct_append (key_trees tree (items before)) more in
        record {
          adds = λ ss are. record {
            listed = fact ∙ ap (λ (ks : List Tree). with_keys ks more) are.listed ∙ sym (flat_more sparse ss s);
            same_source = same_source are.same_source;
            there = there ss (all_at_more ss (s ∷ []) (items before) are.there);
          };
          none_new = or_from _ _ (ap (λ (ks : List Tree). list_any (is_new ks) more) fact ∙ all_added old more) refl;
          still = λ z h. ap (λ (ks : List Tree). list_any (is_new ks) (stop_keys sparse z)) fact ∙ none_still old more (stop_keys sparse z) h;
        }

    pub took : {E : Type 0} (r : Result (Unit {0}) E) (b : Bool) → b ≡ is_ok r → OnOk r (AddsKeys tree (items before) (items after) (stop_keys sparse s))
        → OnOk r ((ss : Stops) → AreKeysAt sparse (ss ++ s ∷ []) (items before) → AreKeysAt sparse (ss ++ s ∷ []) (items after))
        → TakesOrEnds (λ f. AreKeysFrom tree source sparse (items f)) (λ f. gives_new sparse (key_trees tree (items f))) (λ _. true) b bytes before after (s ∷ [])
    took (Ok x) b is appends there = rw is (takes_keys appends there)
    took (Err e) b is appends there = rw is

  pub whole : {F : Type 0} (items : F → List (Key N)) (bytes : List ℕ) (before after : F) (t : Tree) (p : Names) (b : Bool) → items before ≡ []
      → TakesOrEnds (λ f. AreKeysFrom tree source sparse (items f)) (λ f. gives_new sparse (key_trees tree (items f))) (λ _. true) b bytes before after (stops t p) → b ≡ true
      → AreKeysFrom tree source sparse (items after) bytes (stops t p)
  whole items bytes before after t p true none h e = h.adds [] (rw none (record { listed = refl; same_source = All-nil _; there = All-nil _ }))
  whole items bytes before after t p false none h e = absurd cc
