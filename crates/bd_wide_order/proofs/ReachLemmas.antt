-- What a path reaches in renumbered values, its keys, and its sort keys.
use Rattle.std.proofs.Common.{◌≡◌, ℕ, zero, suc, List, [], ◌∷◌, ◌++◌, map, refl, sym, ap, ap₂, ◌∙◌, subst, Bool, true, false, cond, Option, Some, None, ◌||◌}
use Rattle.std.specs.Prelude.{IsTrue, is_some, not, option_map, unwrap_or}
use Rattle.std.specs.{List.AllByRecursion as Each, List.filter, List.fold, List.list_any, List.reduce, Str.bytes_eq, Str.Parse.digits_value}
use Rattle.std.specs.Ordering.{is_lt, ordering_reverse, ordering_then}
use Rattle.std.proofs.lemmas.{List.map-append, List.Elements.recursion_from_All, Slice.Eq.bytes_eq-Decides}
use Rattle.bd_value.specs.{Order.equal}
use Rattle.bd_value.specs.Tree.{Tree, leaf, null, undefined, doc, array, code_scope, Items, no_items, item, Fields, no_fields, field, list_of}
use Rattle.bd_path.specs.Reach.{Names, Collecting, collecting, first_collecting, each_collecting, collecting_at, index_of, is_index, is_document, End, ends, reach}
use Rattle.bd_path.specs.Key.{missing_key, or_else, distinct, end_keys, key_collecting, all_keys, indexed_keys, keys}
use Rattle.bd_path.specs.Sort.{dir_cmp, earlier, sort_key, SortPath, sort_cmp}
use Rattle.bd_path.specs.{declared.sort.Dir.Dir, declared.sort.Dir.TheVariants.Up, declared.sort.Dir.TheVariants.Down}
use Rattle.bd_wide_order.specs.Renumber.{Codes, under, below, KeepOrder, LeadTo, PassOverIndexes, ReadsAlike, SortsReadAlike, IsOf, ItemsAreOf, FieldsAreOf}
use Rattle.bd_wide_order.specs.Renumber.{renumber, renumber_items, renumber_fields}
use Rattle.bd_wide_order.proofs.OrderLemmas.{order_stays, equals_stay}

each_append : {A : Type 0} (Q : A → Type 0) (xs ys : List A) → Each Q xs → Each Q ys → Each Q (xs ++ ys)
each_append Q [] ys p q = q
each_append Q (x ∷ xs) ys p q = (p.0, each_append Q xs ys p.1 q)

each_chosen : {A : Type 0} (Q : A → Type 0) (b : Bool) (xs ys : List A) → (b ≡ true → Each Q xs) → Each Q ys → Each Q (cond b xs ys)
each_chosen Q true xs ys p q = p refl
each_chosen Q false xs ys p q = q

-- a test on the images of a list, and on the list itself
pub any_map : {A B : Type 0} (f : B → Bool) (e : A → Bool) (h : A → B) (Q : A → Type 0) → ((x : A) → Q x → f (h x) ≡ e x) → (xs : List A) → Each Q xs
    → list_any f (map h xs) ≡ list_any e xs
any_map f e h Q same [] p = refl
any_map f e h Q same (x ∷ xs) p = ap₂ ◌||◌ (same x p.0) (any_map f e h Q same xs p.1)

-- ---- paths

-- below a field of that name are the codes that its name leads to
to_field : (c end : Codes) (n name : List ℕ) (rest : Names) → LeadTo (under name c) rest end → bytes_eq n name ≡ true → LeadTo (under n c) rest end
to_field c end n name rest lead e = subst (λ x. LeadTo (under x c) rest end) (sym ((bytes_eq-Decides n name).0 e)) lead

-- each path reads alike if no index leads to other codes
pub passing_over : (c : Codes) → PassOverIndexes c → (path : Names) → ReadsAlike c path
passing_over c over [] = refl
passing_over c over (name ∷ rest) = (
  passing_over (λ names. c (name ∷ names)) (λ before. over (name ∷ before)) rest,
  λ e. subst (LeadTo c rest) (λ i names. sym (over [] name (rest ++ names) e) i) (passing_over c over rest),
)

neither : (a b : Bool) → (a || b) ≡ false → (a ≡ false) × (b ≡ false)
neither true b e = absurd cc
neither false b e = (refl, e)

pub without_indexes : (c : Codes) (path : Names) → list_any is_index path ≡ false → ReadsAlike c path
without_indexes c [] none = refl
without_indexes c (name ∷ rest) none =
    let parts = neither (is_index name) (list_any is_index rest) none in
    (without_indexes (λ names. c (name ∷ names)) rest parts.1, λ (e : is_index name ≡ true). absurd cc)

index_some : (name : List ℕ) → is_some (index_of name) ≡ true → IsTrue (is_index name)
index_some name = go (is_index name)
  where
    go : (b : Bool) → is_some (cond b (Some (digits_value 10 name)) None) ≡ true → IsTrue b
    go true e = refl
    go false e = e

-- ---- what is collected from a renumbered value is what is collected from the value, mapped

pub record Carries {A B : Type 0} (end : Codes) (h : A → B) (from : Collecting A) (to : Collecting B) : Type 0 where
  pub at_end : (t : Tree) → to.at_end (renumber end t) ≡ map h (from.at_end t)
  pub missing : to.missing ≡ map h from.missing
  pub of_array : (xs : List A) → to.of_array (map h xs) ≡ map h (from.of_array xs)

pub document_stays : (c : Codes) (t : Tree) → is_document (renumber c t) ≡ is_document t
document_stays c (leaf s) = refl
document_stays c (doc fs) = refl
document_stays c (array ts) = refl
document_stays c (code_scope s fs) = refl

module _ {A B : Type 0} (end : Codes) (h : A → B) (from : Collecting A) (to : Collecting B) (carries : Carries end h from to) where
  chosen : (b : Bool) (ys zs : List B) (xs ws : List A) → (b ≡ true → ys ≡ map h xs) → zs ≡ map h ws → cond b ys zs ≡ map h (cond b xs ws)
  chosen true ys zs xs ws y z = y refl
  chosen false ys zs xs ws y z = z

  joined : (ys zs : List B) (xs ws : List A) → ys ≡ map h xs → zs ≡ map h ws → ys ++ zs ≡ map h (xs ++ ws)
  joined ys zs xs ws y z = ap₂ ◌++◌ y z ∙ sym (map-append h xs ws)

  ended : (c : Codes) (t : Tree) → c ≡ end → to.at_end (renumber c t) ≡ map h (from.at_end t)
  ended c t is = ap (λ e. to.at_end (renumber e t)) is ∙ carries.at_end t

  mutual
    pub collects : (c : Codes) (t : Tree) (p : Names) → LeadTo c p end → collecting to (renumber c t) p ≡ map h (collecting from t p)
    collects c (leaf s) [] lead = ended c (leaf s) lead
    collects c (doc fs) [] lead = ended c (doc fs) lead
    collects c (array ts) [] lead = ended c (array ts) lead
    collects c (code_scope s fs) [] lead = ended c (code_scope s fs) lead
    collects c (leaf s) (name ∷ rest) lead = carries.missing
    collects c (doc fs) (name ∷ rest) lead = first c fs name rest lead.0
    collects c (array ts) (name ∷ rest) lead =
        ap to.of_array (joined _ _ (each_collecting from ts (name ∷ rest)) (collecting_at from ts (index_of name) rest)
        (each c ts (name ∷ rest) lead) (indexed c ts (index_of name) rest (λ e. lead.1 (index_some name e))))
        ∙ carries.of_array (each_collecting from ts (name ∷ rest) ++ collecting_at from ts (index_of name) rest)
    collects c (code_scope s fs) (name ∷ rest) lead = carries.missing

    first : (c : Codes) (fs : Fields) (name : List ℕ) (rest : Names) → LeadTo (under name c) rest end
        → first_collecting to (renumber_fields c fs) name rest ≡ map h (first_collecting from fs name rest)
    first c no_fields name rest lead = carries.missing
    first c (field n t fs) name rest lead =
        chosen (bytes_eq n name) _ _ (collecting from t rest) (first_collecting from fs name rest)
        (λ e. collects (under n c) t rest (to_field c end n name rest lead e)) (first c fs name rest lead)

    each : (c : Codes) (ts : Items) (p : Names) → LeadTo c p end → each_collecting to (renumber_items c ts) p ≡ map h (each_collecting from ts p)
    each c no_items p lead = refl
    each c (item t ts) p lead =
        joined _ _ (cond (is_document t) (collecting from t p) []) (each_collecting from ts p)
        (ap (λ b. cond b (collecting to (renumber c t) p) []) (document_stays c t)
        ∙ chosen (is_document t) (collecting to (renumber c t) p) [] (collecting from t p) [] (λ e. collects c t p lead) refl)
        (each c ts p lead)

    indexed : (c : Codes) (ts : Items) (i : Option ℕ) (rest : Names) → (is_some i ≡ true → LeadTo c rest end)
        → collecting_at to (renumber_items c ts) i rest ≡ map h (collecting_at from ts i rest)
    indexed c no_items i rest lead = refl
    indexed c (item t ts) None rest lead = refl
    indexed c (item t ts) (Some zero) rest lead = collects c t rest (lead refl)
    indexed c (item t ts) (Some (suc i)) rest lead = indexed c ts (Some i) rest lead

-- ---- what is collected has a property that each value with such numbers has

pub record Gives {A : Type 0} (end : Codes) (Q : A → Type 0) (from : Collecting A) : Type 0 where
  pub at_end : (t : Tree) → IsOf end t → Each Q (from.at_end t)
  pub missing : Each Q from.missing
  pub of_array : (xs : List A) → Each Q xs → Each Q (from.of_array xs)

module _ {A : Type 0} (end : Codes) (Q : A → Type 0) (from : Collecting A) (gives : Gives end Q from) where
  given : (c : Codes) (t : Tree) → IsOf c t → c ≡ end → Each Q (from.at_end t)
  given c t a is = gives.at_end t (subst (λ e. IsOf e t) is a)

  mutual
    pub collected : (c : Codes) (t : Tree) (p : Names) → IsOf c t → LeadTo c p end → Each Q (collecting from t p)
    collected c (leaf s) [] a lead = given c (leaf s) a lead
    collected c (doc fs) [] a lead = given c (doc fs) a lead
    collected c (array ts) [] a lead = given c (array ts) a lead
    collected c (code_scope s fs) [] a lead = given c (code_scope s fs) a lead
    collected c (leaf s) (name ∷ rest) a lead = gives.missing
    collected c (doc fs) (name ∷ rest) a lead = first_collected c fs name rest a lead.0
    collected c (array ts) (name ∷ rest) a lead =
        gives.of_array (each_collecting from ts (name ∷ rest) ++ collecting_at from ts (index_of name) rest)
        (each_append Q (each_collecting from ts (name ∷ rest)) (collecting_at from ts (index_of name) rest) (each_collected c ts (name ∷ rest) a lead)
        (index_collected c ts (index_of name) rest a (λ e. lead.1 (index_some name e))))
    collected c (code_scope s fs) (name ∷ rest) a lead = gives.missing

    first_collected : (c : Codes) (fs : Fields) (name : List ℕ) (rest : Names) → FieldsAreOf c fs → LeadTo (under name c) rest end → Each Q (first_collecting from fs name rest)
    first_collected c no_fields name rest a lead = gives.missing
    first_collected c (field n t fs) name rest a lead =
        each_chosen Q (bytes_eq n name) (collecting from t rest) (first_collecting from fs name rest)
        (λ e. collected (under n c) t rest a.0 (to_field c end n name rest lead e)) (first_collected c fs name rest a.1 lead)

    each_collected : (c : Codes) (ts : Items) (p : Names) → ItemsAreOf c ts → LeadTo c p end → Each Q (each_collecting from ts p)
    each_collected c no_items p a lead = tt
    each_collected c (item t ts) p a lead =
        each_append Q (cond (is_document t) (collecting from t p) []) (each_collecting from ts p)
        (each_chosen Q (is_document t) (collecting from t p) [] (λ e. collected c t p a.0 lead) tt) (each_collected c ts p a.1 lead)

    index_collected : (c : Codes) (ts : Items) (i : Option ℕ) (rest : Names) → ItemsAreOf c ts → (is_some i ≡ true → LeadTo c rest end) → Each Q (collecting_at from ts i rest)
    index_collected c no_items i rest a lead = tt
    index_collected c (item t ts) None rest a lead = tt
    index_collected c (item t ts) (Some zero) rest a lead = collected c t rest a.0 (lead refl)
    index_collected c (item t ts) (Some (suc i)) rest a lead = index_collected c ts (Some i) rest a.1 lead

-- ---- ends

ends_carry : (end : Codes) → Carries end (option_map (renumber end)) ends ends
ends_carry end = record { at_end = λ t. refl; missing = refl; of_array = λ xs. refl }

-- a path reaches in a renumbered value the renumbered values that it reaches in the value
pub reach_stays : (c : Codes) (p : Names) → ReadsAlike c p → (t : Tree) → reach (renumber c t) p ≡ map (option_map (renumber (below p c))) (reach t p)
reach_stays c p lead t = collects (below p c) (option_map (renumber (below p c))) ends ends (ends_carry (below p c)) c t p lead

abbrev pub EndIsOf : Codes → End → Type 0
EndIsOf c None = Unit {0}
EndIsOf c (Some t) = IsOf c t

pub ends_are_of : (c : Codes) (t : Tree) (p : Names) → ReadsAlike c p → IsOf c t → Each (EndIsOf (below p c)) (reach t p)
ends_are_of c t p lead a =
    collected (below p c) (EndIsOf (below p c)) ends (record { at_end = λ u b. (b, tt); missing = (tt, tt); of_array = λ xs b. b }) c t p a lead

-- ---- keys

pub list_stays : (c : Codes) (ts : Items) → list_of (renumber_items c ts) ≡ map (renumber c) (list_of ts)
list_stays c no_items = refl
list_stays c (item t ts) = ap (λ us. renumber c t ∷ us) (list_stays c ts)

or_stays : (c : Codes) (xs ys : List Tree) → or_else (map (renumber c) xs) (map (renumber c) ys) ≡ map (renumber c) (or_else xs ys)
or_stays c [] ys = refl
or_stays c (x ∷ xs) ys = refl

end_stays : (c : Codes) (t : Tree) → end_keys (renumber c t) ≡ map (renumber c) (end_keys t)
end_stays c (leaf s) = refl
end_stays c (doc fs) = refl
end_stays c (array ts) = ap (λ us. or_else us (leaf undefined ∷ [])) (list_stays c ts) ∙ or_stays c (list_of ts) (leaf undefined ∷ [])
end_stays c (code_scope s fs) = refl

missing_stays : (c : Codes) (sparse : Bool) → missing_key sparse ≡ map (renumber c) (missing_key sparse)
missing_stays c true = refl
missing_stays c false = refl

keys_carry : (end : Codes) (sparse : Bool) → Carries end (renumber end) (key_collecting (missing_key sparse)) (key_collecting (missing_key sparse))
keys_carry end sparse = record {
  at_end = end_stays end;
  missing = missing_stays end sparse;
  of_array = λ xs. ap (or_else (map (renumber end) xs)) (missing_stays end sparse) ∙ or_stays end xs (missing_key sparse);
}

all_stay : (c : Codes) (sparse : Bool) (t : Tree) (p : Names) → ReadsAlike c p → all_keys sparse (renumber c t) p ≡ map (renumber (below p c)) (all_keys sparse t p)
all_stay c sparse t p lead =
    collects (below p c) (renumber (below p c)) (key_collecting (missing_key sparse)) (key_collecting (missing_key sparse)) (keys_carry (below p c) sparse) c t p lead

pub list_is_of : (c : Codes) (ts : Items) → ItemsAreOf c ts → Each (IsOf c) (list_of ts)
list_is_of c no_items a = tt
list_is_of c (item t ts) a = (a.0, list_is_of c ts a.1)

or_is_of : (c : Codes) (xs ys : List Tree) → Each (IsOf c) xs → Each (IsOf c) ys → Each (IsOf c) (or_else xs ys)
or_is_of c [] ys a b = b
or_is_of c (x ∷ xs) ys a b = a

end_is_of : (c : Codes) (t : Tree) → IsOf c t → Each (IsOf c) (end_keys t)
end_is_of c (leaf s) a = (a, tt)
end_is_of c (doc fs) a = (a, tt)
end_is_of c (array ts) a = or_is_of c (list_of ts) (leaf undefined ∷ []) (list_is_of c ts a) (tt, tt)
end_is_of c (code_scope s fs) a = (a, tt)

missing_is_of : (c : Codes) (sparse : Bool) → Each (IsOf c) (missing_key sparse)
missing_is_of c true = tt
missing_is_of c false = (tt, tt)

all_are_of : (c : Codes) (sparse : Bool) (t : Tree) (p : Names) → ReadsAlike c p → IsOf c t → Each (IsOf (below p c)) (all_keys sparse t p)
all_are_of c sparse t p lead a =
    collected (below p c) (IsOf (below p c)) (key_collecting (missing_key sparse))
    (record { at_end = end_is_of (below p c); missing = missing_is_of (below p c) sparse; of_array = λ xs b. or_is_of (below p c) xs (missing_key sparse) b (missing_is_of (below p c) sparse) }) c t p a lead

module _ (c : Codes) (up : KeepOrder c) where
  kept : (a b : Bool) (k : Tree) (xs ys : List Tree) → a ≡ b → xs ≡ map (renumber c) ys → cond a (renumber c k ∷ xs) xs ≡ map (renumber c) (cond b (k ∷ ys) ys)
  kept true true k xs ys e same = ap (λ l. renumber c k ∷ l) same
  kept false false k xs ys e same = same
  kept true false k xs ys e same = absurd cc
  kept false true k xs ys e same = absurd cc

  others_stay : (k : Tree) (ks : List Tree) → IsOf c k
      → filter (λ x. not (equal (renumber c k) x)) (map (renumber c) ks) ≡ map (renumber c) (filter (λ x. not (equal k x)) ks)
  others_stay k [] a = refl
  others_stay k (x ∷ xs) a = kept _ _ x _ _ (ap not (equals_stay c up k x a)) (others_stay k xs a)

  others_are_of : (t : Tree → Bool) (ks : List Tree) → Each (IsOf c) ks → Each (IsOf c) (filter t ks)
  others_are_of t [] b = tt
  others_are_of t (x ∷ xs) b = each_chosen (IsOf c) (t x) (x ∷ filter t xs) (filter t xs) (λ e. (b.0, others_are_of t xs b.1)) (others_are_of t xs b.1)

  distinct_are_of : (ks : List Tree) → Each (IsOf c) ks → Each (IsOf c) (distinct ks)
  distinct_are_of [] b = tt
  distinct_are_of (k ∷ ks) b = (b.0, others_are_of (λ x. not (equal k x)) (distinct ks) (distinct_are_of ks b.1))

  distinct_stay : (ks : List Tree) → Each (IsOf c) ks → distinct (map (renumber c) ks) ≡ map (renumber c) (distinct ks)
  distinct_stay [] b = refl
  distinct_stay (k ∷ ks) b =
      ap (λ l. renumber c k ∷ filter (λ x. not (equal (renumber c k) x)) l) (distinct_stay ks b.1)
      ∙ ap (λ l. renumber c k ∷ l) (others_stay k (distinct ks) b.0)

  -- ---- sort keys, of keys at one path

  dir_stays : (dir : Dir) (a b : Tree) → IsOf c a → dir_cmp dir (renumber c a) (renumber c b) ≡ dir_cmp dir a b
  dir_stays Up a b p = order_stays c up a b p
  dir_stays Down a b p = ap ordering_reverse (order_stays c up a b p)

  chosen_key : (m n : Bool) (a b : Tree) → m ≡ n → cond m (renumber c b) (renumber c a) ≡ renumber c (cond n b a)
  chosen_key true true a b e = refl
  chosen_key false false a b e = refl
  chosen_key true false a b e = absurd cc
  chosen_key false true a b e = absurd cc

  chosen_is_of : (m : Bool) (a b : Tree) → IsOf c a → IsOf c b → IsOf c (cond m b a)
  chosen_is_of true a b p q = q
  chosen_is_of false a b p q = p

  earlier_is_of : (dir : Dir) (a b : Tree) → IsOf c a → IsOf c b → IsOf c (earlier dir a b)
  earlier_is_of dir a b p q = chosen_is_of (is_lt (dir_cmp dir b a)) a b p q

  least_is_of : (dir : Dir) (a : Tree) (ks : List Tree) → IsOf c a → Each (IsOf c) ks → IsOf c (fold (earlier dir) a ks)
  least_is_of dir a [] p q = p
  least_is_of dir a (k ∷ ks) p q = least_is_of dir (earlier dir a k) ks (earlier_is_of dir a k p q.0) q.1

  least_stays : (dir : Dir) (a : Tree) (ks : List Tree) → IsOf c a → Each (IsOf c) ks → fold (earlier dir) (renumber c a) (map (renumber c) ks) ≡ renumber c (fold (earlier dir) a ks)
  least_stays dir a [] p q = refl
  least_stays dir a (k ∷ ks) p q =
      ap (λ x. fold (earlier dir) x (map (renumber c) ks)) (chosen_key _ _ a k (ap is_lt (dir_stays dir k a q.0)))
      ∙ least_stays dir (earlier dir a k) ks (earlier_is_of dir a k p q.0) q.1

  earliest_is_of : (dir : Dir) (ks : List Tree) → Each (IsOf c) ks → EndIsOf c (reduce (earlier dir) ks)
  earliest_is_of dir [] p = tt
  earliest_is_of dir (k ∷ ks) p = least_is_of dir k ks p.0 p.1

  earliest_stays : (dir : Dir) (ks : List Tree) → Each (IsOf c) ks → reduce (earlier dir) (map (renumber c) ks) ≡ option_map (renumber c) (reduce (earlier dir) ks)
  earliest_stays dir [] p = refl
  earliest_stays dir (k ∷ ks) p = ap Some (least_stays dir k ks p.0 p.1)

or_null : (c : Codes) (k : Option Tree) → unwrap_or (option_map (renumber c) k) (leaf null) ≡ renumber c (unwrap_or k (leaf null))
or_null c None = refl
or_null c (Some k) = refl

null_is_of : (c : Codes) (k : Option Tree) → EndIsOf c k → IsOf c (unwrap_or k (leaf null))
null_is_of c None p = tt
null_is_of c (Some k) p = p

module _ (c : Codes) (up : KeepOrder c) (p : Names) (lead : ReadsAlike c p) where
  up_below : KeepOrder (below p c)
  up_below = λ names. up (p ++ names)

  -- the keys of a renumbered value are the renumbered keys of the value
  pub keys_stay : (sparse : Bool) (t : Tree) → IsOf c t → indexed_keys sparse (renumber c t) p ≡ map (renumber (below p c)) (indexed_keys sparse t p)
  keys_stay sparse t a = ap distinct (all_stay c sparse t p lead) ∙ distinct_stay (below p c) up_below (all_keys sparse t p) (all_are_of c sparse t p lead a)

  keys_are_of : (sparse : Bool) (t : Tree) → IsOf c t → Each (IsOf (below p c)) (indexed_keys sparse t p)
  keys_are_of sparse t a = distinct_are_of (below p c) up_below (all_keys sparse t p) (all_are_of c sparse t p lead a)

  sort_key_stays : (dir : Dir) (t : Tree) → IsOf c t → sort_key dir (renumber c t) p ≡ renumber (below p c) (sort_key dir t p)
  sort_key_stays dir t a =
      ap (λ ks. unwrap_or (reduce (earlier dir) ks) (leaf null)) (keys_stay false t a)
      ∙ ap (λ k. unwrap_or k (leaf null)) (earliest_stays (below p c) up_below dir (keys t p) (keys_are_of false t a))
      ∙ or_null (below p c) (reduce (earlier dir) (keys t p))

  sort_key_is_of : (dir : Dir) (t : Tree) → IsOf c t → IsOf (below p c) (sort_key dir t p)
  sort_key_is_of dir t a = null_is_of (below p c) (reduce (earlier dir) (keys t p)) (earliest_is_of (below p c) up_below dir (keys t p) (keys_are_of false t a))

  sort_stays : (dir : Dir) (a b : Tree) → IsOf c a → IsOf c b
      → dir_cmp dir (sort_key dir (renumber c a) p) (sort_key dir (renumber c b) p) ≡ dir_cmp dir (sort_key dir a p) (sort_key dir b p)
  sort_stays dir a b q r =
      ap₂ (dir_cmp dir) (sort_key_stays dir a q) (sort_key_stays dir b r)
      ∙ dir_stays (below p c) up_below dir (sort_key dir a p) (sort_key dir b p) (sort_key_is_of dir a q)

all_sorts_stay : (c : Codes) → KeepOrder c → (ss : List SortPath) → Each (λ s. ReadsAlike c s.path) ss → (a b : Tree) → IsOf c a → IsOf c b
    → sort_cmp ss (renumber c a) (renumber c b) ≡ sort_cmp ss a b
all_sorts_stay c up [] leads a b p q = refl
all_sorts_stay c up (s ∷ ss) leads a b p q = ap₂ ordering_then (sort_stays c up s.path leads.0 s.dir a b p q) (all_sorts_stay c up ss leads.1 a b p q)

-- renumbered documents are in the order of a sort in which the documents are
pub sorts_stay : (c : Codes) → KeepOrder c → (ss : List SortPath) → SortsReadAlike c ss → (a b : Tree) → IsOf c a → IsOf c b
    → sort_cmp ss (renumber c a) (renumber c b) ≡ sort_cmp ss a b
sorts_stay c up ss leads a b p q = all_sorts_stay c up ss (recursion_from_All (λ s. ReadsAlike c s.path) ss leads) a b p q
