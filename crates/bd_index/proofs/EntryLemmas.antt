-- Entries: their order, which of them are the same, how an index stores them, and those of one document after the other.
use Rattle.std.proofs.Common.{◌≡◌, ◌≢◌, ◌<◌, ◌≤◌, ◌+◌, ℕ, zero, suc, Bool, true, false, cond, List, [], ◌∷◌, ◌++◌, Some, length, get_or, map, filter, take, drop, refl, sym, ap, ap₂, ◌∙◌, subst, arith}
use Rattle.std.proofs.{Common.length-append, lemmas.Bool.and_parts, lemmas.Bool.not-true, lemmas.Bool.Decides.nat_tests, lemmas.List.get_or-map, lemmas.List.length-map}
use Rattle.std.proofs.{lemmas.List.map_more, lemmas.List.map-append, lemmas.List.Elements.recursion_from_All, lemmas.List.Sorted.ranks_by, lemmas.List.Sorted.sorted_far}
use Rattle.std.proofs.{lemmas.List.Sums.length-filter, lemmas.List.Sums.sum_by-append, lemmas.List.Sums.sum_by-cons, lemmas.Slice.Zip.AllZip-long}
use Rattle.std.specs.Prelude.{◌==◌, ◌&&◌, ◌||◌, nat_lt, not, slice_get}
use Rattle.std.specs.{Cmp.IsEquivalence, Cmp.IsStrictWeakOrder, Cmp.IsTotalOrder, List.All, List.AllByRecursion, List.AllZip, List.count_by, List.list_any}
use Rattle.std.specs.{List.Sorted.IsSortedBy, List.Sorted.ties, declared.cmp.Ordering.Ordering, declared.cmp.Ordering.TheVariants.Equal}
use Rattle.std.specs.Ordering.{is_lt, is_eq, nat_cmp, ordering_then, ordering_reverse}
use Rattle.std.proofs.lemmas.Cmp.{and_equiv, eq_by_cmp_equiv, nat_cmp_total, nat_eq_equiv, on_equiv, on_total, then_total}
use Rattle.bd_value.specs.{Order.cmp, Tree.Tree, Tree.Doc, Tree.doc, Tree.fields_of}
use Rattle.bd_value.proofs.{OrderLemmas.cmp_total, ViewLemmas.next_at}
use Rattle.bd_bson_view.specs.{Sound.IsAt, Sound.meaning, declared.views.At.At}
use Rattle.bd_bson_dump.specs.{Collection.bytes_of, Collection.documents, declared.collection.Dump.Dump}
use Rattle.bd_path.specs.{Key.distinct, Key.indexed_keys, Key.keys, Reach.Names}
use Rattle.bd_path.proofs.SortLemmas.{has_a_key}
use Rattle.bd_index.specs.Entries.{KeyAt, entries_from, entries_of, entry_cmp, is_multikey, keys_at}
use Rattle.bd_index.specs.inside.Entries.{is_same_entry}
use Rattle.bd_index.specs.IndexView.{IsIndexOf, KeepsDump, KeepsEntries, KeepsEntry}
use Rattle.bd_index.specs.inside.IndexView.{IsFoundIn, found_entry}
use Rattle.bd_index.specs.{declared.entry.Entry.Entry, declared.entry.FoundKey.FoundKey, declared.index.Index.Index}

-- by a given order of keys, then by place
abbrev pub entry_by : (Tree → Tree → Ordering) → KeyAt → KeyAt → Ordering
entry_by by a b = ordering_then (by a.0 b.0) (nat_cmp a.1 b.1)

-- no later one is before an earlier one
abbrev pub Ascends : {A : Type 0} → (A → A → Bool) → List A → Type 0
Ascends lt [] = Unit {0}
Ascends lt (x ∷ xs) = AllByRecursion (λ y. lt y x ≡ false) xs × Ascends lt xs

abbrev pub Rises : (Tree → Tree → Ordering) → List KeyAt → Type 0
Rises by es = Ascends (λ a b. is_lt (entry_by by a b)) es

pub by_total : {by : Tree → Tree → Ordering} → IsTotalOrder by → IsTotalOrder (entry_by by)
by_total total = then_total (on_total (λ e. e.0) total) (on_total (λ e. e.1) nat_cmp_total)

-- the order of entries, by key and then by document number, is total
pub entry_total : IsTotalOrder entry_cmp
entry_total = by_total cmp_total

pub neither_less : (o p : Ordering) → o ≡ ordering_reverse p → is_lt o ≡ false → is_lt p ≡ false → o ≡ Equal
neither_less o p e h g = grind arith

pub same_laws : IsEquivalence is_same_entry
same_laws = and_equiv (on_equiv (λ e. e.1) nat_eq_equiv) (on_equiv (λ e. e.0) (eq_by_cmp_equiv cmp_total))

pub first_not_less : (o p : Ordering) → is_lt (ordering_then o p) ≡ false → is_lt o ≡ false
first_not_less o p h = grind arith

tied : (o p : Ordering) (n m : ℕ) → p ≡ ordering_reverse o → (not (is_lt (ordering_then o (nat_cmp n m))) && not (is_lt (ordering_then p (nat_cmp m n)))) ≡ ((n == m) && is_eq o)
tied o p n m e = grind (arith, nat_tests)

pub ties_are_same : (a b : KeyAt) → ties (λ x y. is_lt (entry_cmp x y)) a b ≡ is_same_entry a b
ties_are_same a b = tied _ _ a.1 b.1 (cmp_total.antisymm b.0 a.0)

-- what is between two entries that are the same is the same too
pub same_between : (k x e : KeyAt) → is_same_entry k e ≡ true → is_lt (entry_cmp x k) ≡ false → is_lt (entry_cmp e x) ≡ false → is_same_entry k x ≡ true
same_between k x e h low high =
    let before = not-true _ (and_parts _ _ (ties_are_same k e ∙ h)).0 in
    let first = (ranks_by entry_total (λ y. y)).chain k e x before high in
    sym (ties_are_same k x) ∙ ap₂ (λ (a b : Bool). not a && not b) first low

-- in a sorted list no later member is before an earlier one
pub ascends : {A : Type 0} (lt : A → A → Bool) → IsStrictWeakOrder lt → (xs : List A) → IsSortedBy lt xs → Ascends lt xs
ascends {A} lt weak xs h = go xs (sorted_far lt weak xs h)
  where
    go : (ys : List A) → ((i j : ℕ) (d : A) → i ≤ j → j < length ys → lt (get_or ys j d) (get_or ys i d) ≡ false) → Ascends lt ys
    go [] f = tt
    go (y ∷ ys) f = (recursion_from_All _ ys (λ k d lt. f 0 (suc k) d (omega arith) (omega arith)), go ys (λ i j d le lt. f (suc i) (suc j) d (omega arith) (omega arith)))

-- in sorted entries no later key is less than an earlier one
pub keys_rise : (es : List KeyAt) → IsSortedBy (λ a b. is_lt (entry_cmp a b)) es → (i j : ℕ) (d : KeyAt) → i ≤ j → j < length es
    → is_lt (cmp (get_or es j d).0 (get_or es i d).0) ≡ false
keys_rise es sorted i j d le lt = first_not_less _ _ (sorted_far (λ x y. is_lt (entry_cmp x y)) (ranks_by entry_total (λ x. x)) es sorted i j d le lt)

-- ---- entries viewed through a function

-- some member that passes p passes t exactly if some member passes both
pub any_filter : {A : Type 0} (t p : A → Bool) (xs : List A) → list_any t (filter p xs) ≡ list_any (λ x. p x && t x) xs
any_filter t p [] = refl
any_filter t p (x ∷ xs) = grind (arith, any_filter t p xs)

-- some member whose image passes a test exists exactly if some image passes it
pub any_map : {A B : Type 0} (test : B → Bool) (f : A → B) (xs : List A) → list_any (λ x. test (f x)) xs ≡ list_any test (map f xs)
any_map test f [] = refl
any_map test f (x ∷ xs) = ap (λ (b : Bool). test (f x) || b) (any_map test f xs)

pub sorted_map : {A B : Type 0} (f : A → B) (lt : B → B → Bool) (xs : List A) → IsSortedBy (λ a b. lt (f a) (f b)) xs → IsSortedBy lt (map f xs)
sorted_map f lt [] s k d low high = absurd (omega arith)
sorted_map f lt (x ∷ xs) s k d low high =
    let n : length (map f (x ∷ xs)) ≡ length (x ∷ xs) = length-map (x ∷ xs) f in
    rw (get_or-map f (x ∷ xs) (k + 1) x d (omega arith), get_or-map f (x ∷ xs) k x d (omega arith)) (s k x low (omega arith))

-- ---- whether some member passes, by how many do

pub any_by_count : {A : Type 0} (p : A → Bool) (xs : List A) → list_any p xs ≡ nat_lt 0 (count_by p xs)
any_by_count p [] = refl
any_by_count p (x ∷ xs) = positive (p x) (count_by p xs) (list_any p xs) (any_by_count p xs) ∙ ap (nat_lt 0) (sym (sum_by-cons (λ y. cond (p y) 1 0) x xs))
  where
    positive : (b : Bool) (c : ℕ) (r : Bool) → r ≡ nat_lt 0 c → (b || r) ≡ nat_lt 0 (cond b 1 0 + c)
    positive b c r h = grind (arith, nat_tests)

-- if as many members of two lists pass a test, both lists have one or neither has
pub any_as_counts : {A : Type 0} (p : A → Bool) (xs ys : List A) → count_by p xs ≡ count_by p ys → list_any p xs ≡ list_any p ys
any_as_counts p xs ys h = any_by_count p xs ∙ ap (nat_lt 0) h ∙ sym (any_by_count p ys)

-- ---- what passes a filter

pub none_pass : {A : Type 0} (p : A → Bool) (xs : List A) → All (λ x. p x ≡ false) xs → filter p xs ≡ []
none_pass p [] h = refl
none_pass p (x ∷ xs) h = rw (h 0 x (omega arith)) (none_pass p xs (λ k d lt. h (suc k) d (omega arith)))

-- a list whose members all pass stays whole
pub all_pass : {A : Type 0} (p : A → Bool) (xs : List A) → All (λ x. p x ≡ true) xs → filter p xs ≡ xs
all_pass p [] h = refl
all_pass {A} p (x ∷ xs) h = rw (h 0 x (omega arith)) (ap (λ (l : List A). x ∷ l) (all_pass p xs (λ k d lt. h (suc k) d (omega arith))))

-- ---- entries as an index stores them

pub zip_push : {A B : Type 0} (R : A → B → Type 0) (xs : List A) (ys : List B) (x : A) (y : B) → AllZip R xs ys → R x y → AllZip R (xs ++ x ∷ []) (ys ++ y ∷ [])
zip_push R [] [] x y all one = (one, tt)
zip_push R (a ∷ xs) (b ∷ ys) x y all one = (all.0, zip_push R xs ys x y all.1 one)
zip_push R _ _ x y all one = absurd all

pub zip_at : {A B : Type 0} (R : A → B → Type 0) (xs : List A) (ys : List B) (i : ℕ) (d : A) (e : B) → AllZip R xs ys → i < length xs → R (get_or xs i d) (get_or ys i e)
zip_at R [] ys i d e all lt = absurd (omega arith)
zip_at R (a ∷ xs) [] i d e all lt = absurd all
zip_at R (a ∷ xs) (b ∷ ys) zero d e all lt = all.0
zip_at R (a ∷ xs) (b ∷ ys) (suc i) d e all lt = zip_at R xs ys i d e all.1 (omega arith)

pub as_many_stored : (bytes : List ℕ) (stored : List Entry) (es : List KeyAt) → KeepsEntries bytes stored es → length es ≡ length stored
as_many_stored bytes stored es all = AllZip-long (KeepsEntry bytes) stored es all

-- an index has as many entries in memory as it represents
pub count_stored : (dump : Dump) (index : Index) (h : IsIndexOf dump index) → length h.keeps.entries ≡ length index.entries.items
count_stored dump index h = as_many_stored (bytes_of dump) index.entries.items h.keeps.entries h.keeps.entries_are_at

-- the key of an entry is at its offset
pub key_there : (bytes : List ℕ) (stored : List Entry) (es : List KeyAt) (i : ℕ) (k : Entry) (d : KeyAt) → KeepsEntries bytes stored es → i < length stored
    → k ≡ get_or stored i k → IsAt bytes k.key (get_or es i d).0
key_there bytes stored es i k d all lt is = subst (λ (x : Entry). IsAt bytes x.key (get_or es i d).0) (sym is) (zip_at (KeepsEntry bytes) stored es i k d all lt).0

-- one more entry, for the next of some found keys
pub one_entry : (bytes : List ℕ) (stored new : List Entry) (xs : List FoundKey) (i : ℕ) (x : FoundKey) (at : At) → i < length xs → x ≡ get_or xs i x
    → All (IsFoundIn bytes) xs → IsAt x.key.bytes.now at (meaning x.key.sound)
    → new ≡ stored ++ record { key = at; place = x.place } ∷ [] → KeepsEntries bytes stored (map found_entry (take i xs)) → KeepsEntries bytes new (map found_entry (take (i + 1) xs))
one_entry bytes stored new xs i x at lt is all there pushed so =
    let here : x.key.bytes.now ≡ bytes = subst (λ (f : FoundKey). IsFoundIn bytes f) (sym is) (all i x lt) in
    let more : map found_entry (take (i + 1) xs) ≡ map found_entry (take i xs) ++ found_entry x ∷ [] = map_more found_entry xs i x lt
    ∙ ap (λ (f : FoundKey). map found_entry (take i xs) ++ found_entry f ∷ []) (sym is) in
    rw (pushed, more) (zip_push (KeepsEntry bytes) stored (map found_entry (take i xs)) (record { key = at; place = x.place }) (found_entry x) so
    (subst (λ (b : List ℕ). IsAt b at (meaning x.key.sound)) here there, refl))

-- ---- one document more

-- whether a document from number n on passes: this one, or one after it
pub any_next : (test : Tree → Bool) (n : ℕ) (ds : List Doc) (d : Doc) (t : Tree) (r : Bool) → slice_get ds n ≡ Some d → t ≡ doc (fields_of d) → r ≡ test t
    → list_any (λ x. test (doc (fields_of x))) (drop n ds) ≡ (r || list_any (λ x. test (doc (fields_of x))) (drop (n + 1) ds))
any_next test n ds d t r is tree fact =
    ap (list_any (λ x. test (doc (fields_of x)))) (next_at ds n d is)
    ∙ ap (λ (b : Bool). b || list_any (λ x. test (doc (fields_of x))) (drop (n + 1) ds)) (ap test (sym tree) ∙ sym fact)

pub count-append : (test : KeyAt → Bool) (xs ys : List KeyAt) → count_by test (xs ++ ys) ≡ count_by test xs + count_by test ys
count-append test xs ys = sum_by-append (λ (e : KeyAt). cond (test e) 1 0) xs ys

pub counted_document_keys : (test : KeyAt → Bool) (old new document_keys : List FoundKey) (ks : List KeyAt) → new ≡ old ++ document_keys
    → count_by test (map found_entry document_keys) ≡ count_by test ks → count_by test (map found_entry new) ≡ count_by test (map found_entry old ++ ks)
counted_document_keys test old new document_keys ks is h =
    ap (count_by test) (ap (map found_entry) is ∙ map-append found_entry old document_keys) ∙ count-append test (map found_entry old) (map found_entry document_keys)
    ∙ ap (λ (n : ℕ). count_by test (map found_entry old) + n) h ∙ sym (count-append test (map found_entry old) ks)

-- the entries of one document more
pub one_more : (sparse : Bool) (path : Names) (n : ℕ) (ds : List Doc) (d : Doc) (t : Tree) (ks : List Tree) → slice_get ds n ≡ Some d
    → t ≡ doc (fields_of d) → distinct ks ≡ indexed_keys sparse t path → entries_from sparse path n (drop n ds) ≡ keys_at n (distinct ks) ++ entries_from sparse path (n + 1) (drop (n + 1) ds)
one_more sparse path n ds d t ks is tree listed =
    ap (entries_from sparse path n) (next_at ds n d is)
    ∙ ap (λ (x : List Tree). keys_at n x ++ entries_from sparse path (n + 1) (drop (n + 1) ds)) (sym (listed ∙ ap (λ (x : Tree). indexed_keys sparse x path) tree))

pub counted_more : (test : KeyAt → Bool) (old new document_keys rest from : List KeyAt) (all : ℕ) → count_by test new ≡ count_by test (old ++ document_keys)
    → from ≡ document_keys ++ rest → count_by test (old ++ from) ≡ all → count_by test (new ++ rest) ≡ all
counted_more test old new document_keys rest from all added is so_far =
    let a = count-append test new rest in
    let b = count-append test old document_keys in
    let c = count-append test document_keys rest in
    let d = count-append test old (document_keys ++ rest) in
    let e = ap (λ (l : List KeyAt). count_by test (old ++ l)) (sym is) ∙ so_far in
    omega (arith, a, b, c, d, e, added)

-- ---- how many entries there are

count_all : {A : Type 0} (xs : List A) → count_by (λ _. true) xs ≡ length xs
count_all {A} xs = sym (length-filter (λ _. true) xs) ∙ ap (λ (l : List A). length l) (all_pass (λ _. true) xs (λ k d lt. refl))

-- as many entries are stored as the documents have
pub size_stored : (sparse : Bool) (path : Names) (dump : Dump) (stored : List Entry) → KeepsDump sparse path dump stored → length stored ≡ length (entries_of sparse path (documents dump))
size_stored sparse path dump stored k =
    sym (as_many_stored (bytes_of dump) stored k.entries k.entries_are_at) ∙ sym (count_all k.entries) ∙ k.are.same (λ _. true) ∙ count_all (entries_of sparse path (documents dump))

-- ---- each document has a key, so there are more entries than documents if one has two

some_keys : (t : Tree) (path : Names) → 0 < length (keys t path)
some_keys t path = go (keys t path) (has_a_key t path)
  where
    go : (ks : List Tree) → ks ≢ [] → 0 < length ks
    go [] h = absurd (h refl)
    go (k ∷ ks) h = omega arith

long : (path : Names) (n : ℕ) (d : Doc) (ds : List Doc)
    → length (entries_from false path n (d ∷ ds)) ≡ length (keys (doc (fields_of d)) path) + length (entries_from false path (n + 1) ds)
long path n d ds = length-append (keys_at n (keys (doc (fields_of d)) path)) (entries_from false path (n + 1) ds)
    ∙ ap (λ (m : ℕ). m + length (entries_from false path (n + 1) ds)) (length-map (keys (doc (fields_of d)) path) (λ k. (k, n)))

no_fewer : (path : Names) (n : ℕ) (ds : List Doc) → length ds ≤ length (entries_from false path n ds)
no_fewer path n [] = omega arith
no_fewer path n (d ∷ ds) = let r = no_fewer path (n + 1) ds in let l = long path n d ds in let s = some_keys (doc (fields_of d)) path in omega arith

more : (s l e t : ℕ) (r : Bool) → 0 < l → s ≤ e → nat_lt s e ≡ r → t ≡ l + e → nat_lt (suc s) t ≡ (nat_lt 1 l || r)
more s l e t r some le is total = grind (arith, nat_tests)

pub many_by_count : (path : Names) (n : ℕ) (ds : List Doc) → nat_lt (length ds) (length (entries_from false path n ds)) ≡ is_multikey path ds
many_by_count path n [] = refl
many_by_count path n (d ∷ ds) =
    more (length ds) (length (keys (doc (fields_of d)) path)) (length (entries_from false path (n + 1) ds))
    (length (entries_from false path n (d ∷ ds))) (is_multikey path ds) (some_keys (doc (fields_of d)) path) (no_fewer path (n + 1) ds)
    (many_by_count path (n + 1) ds) (long path n d ds)
