-- A path walk, by its parts: positions, values visited before, stops, and what they change.
use Rattle.std.proofs.Common.{◌≡◌, ◌+◌, ◌<◌, ◌≤◌, ◌⊎◌, inl, inr, ℕ, zero, suc, Bool, true, false, not, cond, Bor, List, [], ◌∷◌, ◌++◌, Option, Some, None, option_map}
use Rattle.std.proofs.Common.{length, get_or, drop, drop-cons, take, string_bytes, refl, sym, ap, ap₂, ◌∙◌, add-one, append-nil, append_assoc, arith}
use Rattle.std.specs.{Prelude.IfSome, Prelude.slice_get, List.flat_map, List.list_any}
use Rattle.std.proofs.lemmas.Bool.{or_from, or_left, or_parts, or_right, true_from_ne_false}
use Rattle.std.proofs.{lemmas.Grind.common_steps, lemmas.Grind.flat_map-append, lemmas.List.Folds.list_any-append}
use Rattle.std.proofs.lemmas.List.{drop_all, drop_more, length-map, take-append-drop}
use Rattle.std.proofs.lemmas.Option.{get_or_from_slice_get, gets, slice_get-get_or, slice_get-map, slice_get_read, slice_get_within}
use Rattle.bd_value.specs.{View.kind_of, Tree.first_of, Tree.elements_in}
use Rattle.bd_value.specs.Tree as trees
use Rattle.bd_value.specs.Tree.{Tree, leaf, doc, array, Items, no_items, item, Fields, no_fields, field, items_of, list_of, pairs_in}
use Rattle.bd_value.specs.declared.node.Kind.TheVariants as kinds
use Rattle.bd_path.specs.Key.{IsKeyAt, all_keys, is_empty_array, is_no_value, key_collecting, missing_key, or_else}
use Rattle.bd_path.specs.inside.Key.{stop_keys}
use Rattle.bd_path.specs.{Path.component_names, Reach.index_of, Reach.is_document, Reach.reach, declared.component.Component.Component}
use Rattle.bd_path.specs.{declared.key.Key.Key, declared.key.Key.TheVariants.Node, declared.key.Key.TheVariants.Null, declared.key.Key.TheVariants.Undefined}
use Rattle.bd_path.specs.{declared.path_walk.Step.TheVariants.Element, declared.path_walk.Step.TheVariants.Field, declared.path_walk.Stop.Stop, declared.path_walk.Visits.Visits}
use Rattle.bd_path.specs.Reach.{End, Collecting, Names, document_collecting, each_collecting, ends, first_collecting, collecting, collecting_at, bounded_index, index_collecting}
use Rattle.bd_path.specs.PathWalk.{CollectsNone, IsVisited, LedTo, Stops, or_stop, stopping, stops}
use Rattle.bd_path.specs.inside.PathWalk.{KeepsKnown, TakesOrEnds, TakesStops, is_passed, later_stops, stop_tree}
use Rattle.bd_path.specs.declared.path_walk.Stop.TheVariants.{Value, Missing, NoBranch}
use Rattle.bd_path.proofs.ReachLemmas as down
use Rattle.bd_path.proofs.ReachLemmas.{any_still}

abbrev pub some_name : List ℕ → Option (List ℕ)
some_name n = Some n

-- ---- names

abbrev name_of : Component → List ℕ
name_of c = string_bytes c.name

-- the name at a position of a path is that of the component there
pub name_at : (cs : List Component) (k : ℕ) (c : Component) → k < length cs → c ≡ get_or cs k c → slice_get (component_names cs) k ≡ Some (string_bytes c.name)
name_at cs k c l e = slice_get-map name_of cs k ∙ ap (option_map name_of) (slice_get_read cs (length cs) k c refl l e)

pub record Named (path : Names) (k : ℕ) : Type 0 where
  pub name : List ℕ
  pub is_there : slice_get path k ≡ Some name

-- each position of a path before its end has a name
pub named : (path : Names) (k : ℕ) → k < length path → Named path k
named path k l = record { name = get_or path k []; is_there = slice_get-get_or path k [] l }

-- a path has as many names as components
pub as_many : (cs : List Component) → length (component_names cs) ≡ length cs
as_many cs = length-map cs name_of

-- ---- the elements that remain

-- the first of the elements from an index on is the one at this index
pub next_is : (es : List Tree) (i : ℕ) (u : Tree) (us : List Tree) → u ∷ us ≡ drop i es → slice_get es i ≡ Some u
next_is es i u us e = grind (arith, common_steps, gets)

-- the elements after it are those from the next index on
pub remaining_after : (es : List Tree) (i : ℕ) (u : Tree) (us : List Tree) → u ∷ us ≡ drop i es → us ≡ drop (i + 1) es
remaining_after es i u us e = let more = drop_more es i u (slice_get_within es i u (next_is es i u us e)) in cc

-- ---- the rest of a path

pub drop_at : (path : Names) (k : ℕ) (n : List ℕ) → slice_get path k ≡ Some n → drop k path ≡ n ∷ drop (suc k) path
drop_at path k n e = drop-cons path k n (slice_get_within path k n e) ∙ ap (λ (x : List ℕ). x ∷ drop (suc k) path) (get_or_from_slice_get path k n n e)

-- the index of the component at a position
pub index_at : (cs : List Component) (k : ℕ) (c d : Component) (o : Option ℕ) → k < length cs → c ≡ get_or cs k c → (get_or cs k d).index ≡ o → bounded_index (string_bytes c.name) ≡ o
index_at cs k c d o l is e =
    let here = get_or_from_slice_get cs k c d (slice_get_read cs (length cs) k c refl l is) in
    sym c.known ∙ ap (λ (y : Component). y.index) (sym here) ∙ e

-- ---- the element at the index

module _ {A : Type 0} (g : Collecting A) (es : List Tree) (n : List ℕ) (r : Names) where
  pub indexed_is : (i : ℕ) (u : Tree) → bounded_index n ≡ Some i → i < 18446744073709551615 → slice_get es i ≡ Some u → collecting_at g (items_of es) (index_of n) r ≡ collecting g u r
  indexed_is i u e l at = grind (arith, down.at_index g es i u r at)

  pub none_there : (i : ℕ) → bounded_index n ≡ Some i → length es ≤ i → length es ≤ 18446744073709551615 → collecting_at g (items_of es) (index_of n) r ≡ []
  none_there i e l long = grind (arith, down.beyond_index g es)

  pub no_index : bounded_index n ≡ None → collecting_at g (items_of es) (index_of n) r ≡ []
  no_index e = grind (arith, down.no_index g es r)

-- the same on the rest of a path
pub element_at : {A : Type 0} (g : Collecting A) (es : List Tree) (n : List ℕ) (path : Names) (k i : ℕ) (u : Tree) → bounded_index n ≡ Some i → i < 18446744073709551615 → slice_get es i ≡ Some u
    → collecting_at g (items_of es) (index_of n) (drop (suc k) path) ≡ collecting g u (drop (k + 1) path)
element_at g es n path k i u e l at = rw add-one (indexed_is g es n (drop (suc k) path) i u e l at)

-- ---- the rest of a path from a component on

module _ {A : Type 0} (g : Collecting A) (t : Tree) (path : Names) (k : ℕ) where
  -- at the end of the path the value itself is collected
  pub end_is : k ≡ length path → collecting g t (drop k path) ≡ g.at_end t
  end_is e = ap (collecting g t) (drop_all k path (omega arith))

  -- before the end, a value that is neither a document nor an array lacks the field
  pub other_is : (kind_of t ≡ kinds.Doc → ⊥) → (kind_of t ≡ kinds.Array → ⊥) → k < length path → collecting g t (drop k path) ≡ g.missing
  other_is a b l = let n = named path k l in ap (collecting g t) (drop_at path k n.name n.is_there) ∙ down.of_other g t n.name (drop (suc k) path) a b

  -- a document collects from its field of the next name, if it has one
  pub field_is : (n : List ℕ) (u : Tree) → kind_of t ≡ kinds.Doc → slice_get path k ≡ Some n → first_of n (pairs_in t) ≡ Some u → collecting g t (drop k path) ≡ collecting g u (drop (k + 1) path)
  field_is n u d at e = rw add-one (ap (collecting g t) (drop_at path k n at) ∙ down.found g t u n (drop (suc k) path) d e)

  -- a document without a field of the next name lacks it
  pub lost_is : (n : List ℕ) → kind_of t ≡ kinds.Doc → slice_get path k ≡ Some n → first_of n (pairs_in t) ≡ None → collecting g t (drop k path) ≡ g.missing
  lost_is n d at e = ap (collecting g t) (drop_at path k n at) ∙ down.lost g t n (drop (suc k) path) d e

  pub first_is : (n : List ℕ) → slice_get path k ≡ Some n → index_collecting g t (drop k path) ≡ collecting_at g (items_of (elements_in t)) (index_of n) (drop (suc k) path)
  first_is n at = ap (index_collecting g t) (drop_at path k n at)

  pub parts_are : (n : List ℕ) → kind_of t ≡ kinds.Array → slice_get path k ≡ Some n
      → collecting g t (drop k path) ≡ g.of_array (document_collecting g t (drop k path) ++ index_collecting g t (drop k path))
  parts_are n a at = rw (drop_at path k n at) (down.of_elements g t n (drop (suc k) path) a)

-- ---- values visited before

-- what is collected from an array contains what is collected from its parts
abbrev KeepsParts : {A : Type 0} → (A → Bool) → Collecting A → Type 0
KeepsParts {A} f g = (xs : List A) → list_any f (g.of_array xs) ≡ false → list_any f xs ≡ false

module _ {A : Type 0} (f : A → Bool) (g : Collecting A) where
  each_parts : (x : Tree) (es : List Tree) (p : Names) → list_any f (each_collecting g (items_of (x ∷ es)) p) ≡ false
      → (list_any f (cond (is_document x) (collecting g x p) []) ≡ false) × (list_any f (each_collecting g (items_of es) p) ≡ false)
  each_parts x es p h = or_parts _ _ (sym (list_any-append f (cond (is_document x) (collecting g x p) []) (each_collecting g (items_of es) p)) ∙ h)

  pub each_left : (es : List Tree) (i : ℕ) (u : Tree) (p : Names) → slice_get es i ≡ Some u → is_document u ≡ true
      → list_any f (each_collecting g (items_of es) p) ≡ false → list_any f (collecting g u p) ≡ false
  each_left [] i u p e d h = absurd cc
  each_left (x ∷ es) zero u p e d h = let same : x ≡ u = cc in rw (← same) (rw (ap is_document same ∙ d) at (each_parts x es p h).0)
  each_left (x ∷ es) (suc i) u p e d h = each_left es i u p e d (each_parts x es p h).1

  module _ (keeps : KeepsParts f g) (t : Tree) (cs : List Component) (w : Visits) (before : CollectsNone f g t (component_names cs) w) where
    -- nothing that passes the test is collected from a field that is visited from such positions
    pub field_inside : (s : Bor (List ℕ)) (u : Tree) (v : Visits) → kind_of t ≡ kinds.Doc → first_of s.now (pairs_in t) ≡ Some u
        → ((j : ℕ) → IsVisited v j → LedTo (Field s) (component_names cs) w j) → CollectsNone f g u (component_names cs) v
    field_inside s u v d e only j o =
        let by = only j o in
        let is = field_is g t (component_names cs) by.before s.now u d (by.led.is_there ∙ ap some_name by.led.takes) e in
        rw (by.after ∙ sym (add-one by.before)) (ap (list_any f) (sym is) ∙ before by.before by.led.here)

    module _ (a : kind_of t ≡ kinds.Array) where
      -- from a visited position, neither the documents of the array nor the element at the index collect any
      parts_none : (k : ℕ) (n : List ℕ) → slice_get (component_names cs) k ≡ Some n → IsVisited w k
          → (list_any f (document_collecting g t (drop k (component_names cs))) ≡ false) × (list_any f (index_collecting g t (drop k (component_names cs))) ≡ false)
      parts_none k n at o =
          let ds = document_collecting g t (drop k (component_names cs)) in
          let is = index_collecting g t (drop k (component_names cs)) in
          or_parts (list_any f ds) (list_any f is) (sym (list_any-append f ds is) ∙ keeps (ds ++ is) (ap (list_any f) (sym (parts_are g t (component_names cs) k n a at)) ∙ before k o))

      document_none : (k i : ℕ) (u : Tree) → slice_get (elements_in t) i ≡ Some u → is_document u ≡ true → k < length cs → IsVisited w k
          → list_any f (collecting g u (drop k (component_names cs))) ≡ false
      document_none k i u e d l o =
          let n = named (component_names cs) k (omega (arith, as_many cs, l)) in
          each_left (elements_in t) i u (drop k (component_names cs)) e d (parts_none k n.name n.is_there o).0

      -- the element at an index
      element_none : (i : ℕ) (u : Tree) (j : ℕ) → slice_get (elements_in t) i ≡ Some u → i < 18446744073709551615
          → LedTo (Element i) (component_names cs) w j → list_any f (collecting g u (drop j (component_names cs))) ≡ false
      element_none i u j e l by =
          let first = first_is g t (component_names cs) by.before by.led.name by.led.is_there in
          let is = indexed_is g (elements_in t) by.led.name (drop (suc by.before) (component_names cs)) i u by.led.takes l e in
          rw by.after (ap (list_any f) (sym (first ∙ is)) ∙ (parts_none by.before by.led.name by.led.is_there by.led.here).1)

      -- nor is any collected from a document in an array
      pub document_inside : (i : ℕ) (u : Tree) (v : Visits) → slice_get (elements_in t) i ≡ Some u → i < 18446744073709551615 → is_document u ≡ true
          → ((j : ℕ) → IsVisited v j → LedTo (Element i) (component_names cs) w j ⊎ (j < length cs) × IsVisited w j) → CollectsNone f g u (component_names cs) v
      document_inside i u v e l d only j o = elim (only j o) [ inl by ↦ element_none i u j e l by | inr h ↦ document_none j i u e d h.0 h.1 ]

      -- nor from the element at the index that the path names
      pub index_inside : (k i : ℕ) (u : Tree) (v : Visits) → slice_get (elements_in t) i ≡ Some u → i < 18446744073709551615 → (b : Bool) → b ≡ is_document u
          → list_any f (document_collecting g t (drop k (component_names cs))) ≡ false
          → ((j : ℕ) → IsVisited v j → LedTo (Element i) (component_names cs) w j ⊎ (b ≡ true) × ((j ≡ k) ⊎ (j < length cs) × IsVisited w j)) → CollectsNone f g u (component_names cs) v
      index_inside k i u v e l b d documents only j o = elim (only j o) [
        | inl by ↦ element_none i u j e l by
        | inr h ↦ elim h.1 [
          | inl s ↦ rw s (each_left (elements_in t) i u (drop k (component_names cs)) e (sym d ∙ h.0) documents)
          | inr h2 ↦ document_none j i u e (sym d ∙ h.0) h2.0 h2.1
        ]
      ]

-- ---- stops

pub keeps_stops : (f : Stop Tree → Bool) (ss : Stops) → list_any f (or_stop ss) ≡ false → list_any f ss ≡ false
keeps_stops f ss h = grind arith

-- ---- each path has a stop

twice : (ss : Stops) → or_stop (or_stop ss) ≡ or_stop ss
twice ss = grind arith

mutual
  pub some_stop : (t : Tree) (p : Names) → or_stop (stops t p) ≡ stops t p
  some_stop t [] = refl
  some_stop (doc fs) (c ∷ r) = some_first fs c r
  some_stop (array ts) (c ∷ r) = twice (each_collecting stopping ts (c ∷ r) ++ collecting_at stopping ts (index_of c) r)
  some_stop _ (c ∷ r) = refl

  some_first : (fs : Fields) (c : List ℕ) (r : Names) → or_stop (first_collecting stopping fs c r) ≡ first_collecting stopping fs c r
  some_first no_fields c r = refl
  some_first (field n t fs) c r = grind (arith, some_stop t r, some_first fs c r)

more_stops : (ss zs : Stops) → or_stop ss ≡ ss → or_stop (ss ++ zs) ≡ ss ++ zs
more_stops ss zs h = grind arith

-- ---- the documents of an array

no_documents : (es : List Tree) (p : Names) → list_any is_document es ≡ false → each_collecting stopping (items_of es) p ≡ []
no_documents [] p h = refl
no_documents (x ∷ es) p h = grind (arith, no_documents es p)

some_documents : (es : List Tree) (p : Names) → list_any is_document es ≡ true → or_stop (each_collecting stopping (items_of es) p) ≡ each_collecting stopping (items_of es) p
some_documents [] p h = absurd cc
some_documents (x ∷ es) p h = grind (arith, some_documents es p, more_stops (stops x p) (each_collecting stopping (items_of es) p) (some_stop x p))

one_more : {A : Type 0} (xs : List A) (i : ℕ) (x : A) → slice_get xs i ≡ Some x → take (i + 1) xs ≡ take i xs ++ x ∷ []
one_more xs i x e = grind (arith, common_steps, gets)

each_append : (xs ys : List Tree) (p : Names) → each_collecting stopping (items_of (xs ++ ys)) p ≡ each_collecting stopping (items_of xs) p ++ each_collecting stopping (items_of ys) p
each_append [] ys p = refl
each_append (x ∷ xs) ys p = rw (each_append xs ys p, append_assoc)

-- one more element
pub each_more : (es : List Tree) (i : ℕ) (u : Tree) (p : Names) → slice_get es i ≡ Some u
    → each_collecting stopping (items_of (take (i + 1) es)) p ≡ each_collecting stopping (items_of (take i es)) p ++ cond (is_document u) (stops u p) []
each_more es i u p e = rw (one_more es i u e, each_append (take i es) (u ∷ []) p, append-nil)

pub has_more : (es : List Tree) (i : ℕ) (u : Tree) (b has : Bool) → slice_get es i ≡ Some u → is_document u ≡ b → has ≡ list_any is_document (take i es)
    → cond b true has ≡ list_any is_document (take (i + 1) es)
has_more es i u b has e d h = grind (arith, common_steps, gets)

pub all_of : {A : Type 0} (xs : List A) (i : ℕ) → drop i xs ≡ [] → take i xs ≡ xs
all_of xs i e = sym (append-nil (take i xs)) ∙ (rw e at (take-append-drop i xs))

-- ---- an array, by its documents and its element at the index

none_at : (es : List Tree) (o : Option ℕ) (r : Names) → IfSome o (λ i. length es ≤ i) → collecting_at stopping (items_of es) o r ≡ []
none_at es None r h = down.no_index stopping es r
none_at es (Some i) r h = down.beyond_index stopping es i r h

module _ (t : Tree) (path : Names) (k : ℕ) (n : List ℕ) (at : slice_get path k ≡ Some n) where
  pub array_is : (b : Bool) → kind_of t ≡ kinds.Array → b ≡ list_any is_document (elements_in t) → stops t (drop k path) ≡ document_collecting stopping t (drop k path) ++ later_stops b t (drop k path)
  array_is true a e = parts_are stopping t path k n a at
      ∙ more_stops (document_collecting stopping t (drop k path)) (index_collecting stopping t (drop k path)) (some_documents (elements_in t) (drop k path) (sym e))
  array_is false a e = parts_are stopping t path k n a at ∙ rw (no_documents (elements_in t) (drop k path) (sym e))

  pub element_is : (b : Bool) (i : ℕ) (u : Tree) → index_of n ≡ Some i → slice_get (elements_in t) i ≡ Some u → later_stops b t (drop k path) ≡ stops u (drop (k + 1) path)
  element_is true i u o e = rw (add-one, first_is stopping t path k n at, o) (down.at_index stopping (elements_in t) i u (drop (suc k) path) e)
  element_is false i u o e = rw (add-one, first_is stopping t path k n at, o, down.at_index stopping (elements_in t) i u (drop (suc k) path) e) (some_stop u (drop (suc k) path))

  pub no_element : IfSome (index_of n) (λ i. length (elements_in t) ≤ i) → index_collecting stopping t (drop k path) ≡ []
  no_element h = first_is stopping t path k n at ∙ none_at (elements_in t) (index_of n) (drop (suc k) path) h

-- ---- what is collected is collected at the stops

module _ {A : Type 0} (g : Collecting A) (of : Stop Tree → List A) (at_end : (t : Tree) → g.at_end t ≡ of (Value t)) (lost : g.missing ≡ of Missing)
    (parts : (ss : Stops) → g.of_array (flat_map of ss) ≡ flat_map of (or_stop ss)) where
  one : (xs : List A) (s : Stop Tree) → xs ≡ of s → xs ≡ flat_map of (s ∷ [])
  one xs s e = e ∙ sym (append-nil (of s))

  mutual
    pub collected : (t : Tree) (p : Names) → collecting g t p ≡ flat_map of (stops t p)
    collected t [] = one _ (Value t) (at_end t)
    collected (doc fs) (c ∷ r) = collected_first fs c r
    collected (array ts) (c ∷ r) =
        ap₂ (λ (xs ys : List A). g.of_array (xs ++ ys)) (collected_each ts (c ∷ r)) (collected_at ts (index_of c) r)
        ∙ ap g.of_array (sym (flat_map-append of (each_collecting stopping ts (c ∷ r)) (collecting_at stopping ts (index_of c) r)))
        ∙ parts (each_collecting stopping ts (c ∷ r) ++ collecting_at stopping ts (index_of c) r)
    collected _ (c ∷ r) = one _ Missing lost

    collected_first : (fs : Fields) (c : List ℕ) (r : Names) → first_collecting g fs c r ≡ flat_map of (first_collecting stopping fs c r)
    collected_first no_fields c r = one _ Missing lost
    collected_first (field n t fs) c r = grind (arith, collected t r, collected_first fs c r)

    collected_each : (ts : Items) (p : Names) → each_collecting g ts p ≡ flat_map of (each_collecting stopping ts p)
    collected_each no_items p = refl
    collected_each (item t ts) p = grind (arith, collected t p, collected_each ts p, flat_map-append of (cond (is_document t) (stops t p) []) (each_collecting stopping ts p))

    collected_at : (ts : Items) (i : Option ℕ) (r : Names) → collecting_at g ts i r ≡ flat_map of (collecting_at stopping ts i r)
    collected_at no_items i r = refl
    collected_at (item t ts) None r = refl
    collected_at (item t ts) (Some zero) r = collected t r
    collected_at (item t ts) (Some (suc n)) r = collected_at ts (Some n) r

-- the keys are collected
or_else_more : (ks : List Tree) (k : Tree) (ls ms : List Tree) → or_else (or_else ks (k ∷ []) ++ ls) ms ≡ or_else ks (k ∷ []) ++ ls
or_else_more ks k ls ms = grind arith

some_keys : (s : Stop Tree) (ls ms : List Tree) → or_else (stop_keys false s ++ ls) ms ≡ stop_keys false s ++ ls
some_keys (Value (array ts)) ls ms = or_else_more (list_of ts) (leaf trees.undefined) ls ms
some_keys (Value _) ls ms = refl
some_keys _ ls ms = refl

key_parts : (sparse : Bool) (ss : Stops) → or_else (flat_map (stop_keys sparse) ss) (missing_key sparse) ≡ flat_map (stop_keys sparse) (or_stop ss)
key_parts sparse [] = sym (append-nil (missing_key sparse))
key_parts true (s ∷ ss) = grind arith
key_parts false (s ∷ ss) = some_keys s (flat_map (stop_keys false) ss) (missing_key false)

-- the keys of a document are those of the stops of a path walk, in order
pub keys_are : (sparse : Bool) (t : Tree) (p : Names) → all_keys sparse t p ≡ flat_map (stop_keys sparse) (stops t p)
keys_are sparse t p = collected (key_collecting (missing_key sparse)) (stop_keys sparse) (λ t. refl) refl (key_parts sparse) t p

-- there is at least one key
pub some_key : (t : Tree) (p : Names) (ms : List Tree) → or_else (flat_map (stop_keys false) (stops t p)) ms ≡ flat_map (stop_keys false) (stops t p)
some_key t p ms = go (stops t p) (some_stop t p)
  where
    go : (ss : Stops) → or_stop ss ≡ ss → or_else (flat_map (stop_keys false) ss) ms ≡ flat_map (stop_keys false) ss
    go [] o = absurd cc
    go (s ∷ ss) o = some_keys s (flat_map (stop_keys false) ss) ms

-- the ends of a path that a stop has
abbrev pub stop_ends : Stop Tree → List End
stop_ends (Value t) = Some t ∷ []
stop_ends Missing = None ∷ []
stop_ends NoBranch = []

end_parts : (ss : Stops) → flat_map stop_ends ss ≡ flat_map stop_ends (or_stop ss)
end_parts ss = grind arith

pub ends_are : (t : Tree) (p : Names) → reach t p ≡ flat_map stop_ends (stops t p)
ends_are t p = collected ends stop_ends (λ t. refl) refl end_parts t p

any_passed : (test : End → Bool) (ss : Stops) → list_any (is_passed test) ss ≡ list_any test (flat_map stop_ends ss)
any_passed test [] = refl
any_passed test (s ∷ ss) = grind (arith, any_passed test ss)

-- a path walk ended early if an end passed
pub decided : (test : End → Bool) {F : Type 0} (amounts : F → List ℕ → Stops → Type 0) (bytes : List ℕ) (before after : F) (t : Tree) (p : Names) (b : Bool)
    → TakesOrEnds amounts (λ _. is_passed test) (is_passed test) b bytes before after (stops t p) → not b ≡ list_any test (reach t p)
decided test amounts bytes before after t p true h = rw (ends_are t p, ← any_passed test (stops t p)) (sym h.none_new)
decided test amounts bytes before after t p false h = rw (ends_are t p, ← any_passed test (stops t p)) (sym h)

-- ---- a key at the stops of a path walk

-- a key at some stops is a key at these and more
pub at_more : {N : Type 0} (sparse : Bool) (ss more : Stops) (k : Key N) → IsKeyAt sparse ss k → IsKeyAt sparse (ss ++ more) k
at_more sparse ss more (Node n) h = tt
at_more sparse ss more Null h = (h.0, list_any-append is_no_value ss more ∙ or_left _ _ h.1)
at_more sparse ss more Undefined h = list_any-append is_empty_array ss more ∙ or_left _ _ h

pub at_last : {N : Type 0} (sparse : Bool) (ss more : Stops) (k : Key N) → IsKeyAt sparse more k → IsKeyAt sparse (ss ++ more) k
at_last sparse ss more (Node n) h = tt
at_last sparse ss more Null h = (h.0, list_any-append is_no_value ss more ∙ or_right _ _ h.1)
at_last sparse ss more Undefined h = list_any-append is_empty_array ss more ∙ or_right _ _ h

pub among : (f : Stop Tree → Bool) (ss : Stops) (s : Stop Tree) → f s ≡ true → list_any f (ss ++ s ∷ []) ≡ true
among f ss s h = list_any-append f ss (s ∷ []) ∙ or_right (list_any f ss) (list_any f (s ∷ [])) (or_left (f s) false h)

-- an array without elements is an empty array
pub empty_array : (t : Tree) → kind_of t ≡ kinds.Array → elements_in t ≡ [] → is_empty_array (Value t) ≡ true
empty_array (leaf s) k e = absurd (down.scalar_is_no_array s k)
empty_array (array no_items) k e = refl
empty_array _ k e = absurd cc

-- a stop that is at no node is at no value
pub no_value : {N : Type 0} (tree : N → Tree) (s : Stop N) → ((n : N) → s ≡ Value n → ⊥) → is_no_value (stop_tree tree s) ≡ true
no_value tree (Value n) h = absurd (h n refl)
no_value tree _ h = refl

-- a stop at no value has the key of a missing field
pub no_value_keys : (sparse : Bool) (s : Stop Tree) → is_no_value s ≡ true → stop_keys sparse s ≡ missing_key sparse
no_value_keys sparse (Value t) h = absurd cc
no_value_keys sparse _ h = refl

-- ---- stops that were processed

-- one of the documents of an array has a stop at which the path walk ended
pub ended_in : (f : Stop Tree → Bool) (es : List Tree) (i : ℕ) (u : Tree) (p : Names) → slice_get es i ≡ Some u → is_document u ≡ true → list_any f (stops u p) ≡ true
    → list_any f (each_collecting stopping (items_of es) p) ≡ true
ended_in f es i u p e d h = true_from_ne_false _ (λ is. let none = each_left f stopping es i u p e d is in cc)

-- a visited value adds nothing for a weaker test either
pub still_vain : (f g : Stop Tree → Bool) (t : Tree) (path : Names) (w : Visits) → ((s : Stop Tree) → f s ≡ false → g s ≡ false) → CollectsNone f stopping t path w → CollectsNone g stopping t path w
still_vain f g t path w still visited k o = any_still f g still _ (visited k o)

module _ {F : Type 0} (amounts : F → List ℕ → Stops → Type 0) (is_new : F → Stop Tree → Bool) where
  -- no stop was processed
  pub none_taken : (found : F) (bytes : List ℕ) → TakesStops amounts is_new bytes found found []
  none_taken found bytes = record { adds = λ ss h. rw append-nil h; none_new = refl; still = λ s h. h }

  -- one part after another was processed
  pub both_taken : (bytes : List ℕ) (before between after : F) (xs ys : Stops) → TakesStops amounts is_new bytes before between xs → TakesStops amounts is_new bytes between after ys
      → TakesStops amounts is_new bytes before after (xs ++ ys)
  both_taken bytes before between after xs ys first second = record {
    adds = λ ss h. rw append_assoc at (second.adds (ss ++ xs) (first.adds ss h));
    none_new = rw list_any-append (or_from _ _ (any_still (is_new between) (is_new after) second.still xs first.none_new) second.none_new);
    still = λ s h. second.still s (first.still s h);
  }

  pub then_taken : (ends : Stop Tree → Bool) (b : Bool) (bytes : List ℕ) (before between after : F) (xs ys : Stops) → TakesStops amounts is_new bytes before between xs
      → TakesOrEnds amounts is_new ends b bytes between after ys → TakesOrEnds amounts is_new ends b bytes before after (xs ++ ys)
  then_taken ends true bytes before between after xs ys first second = both_taken bytes before between after xs ys first second
  then_taken ends false bytes before between after xs ys first second = rw list_any-append (or_right _ _ second)

  -- one more element of an array was processed
  pub element_taken : (bytes : List ℕ) (before between after : F) (es : List Tree) (i : ℕ) (u : Tree) (p : Names) → slice_get es i ≡ Some u
      → TakesStops amounts is_new bytes before between (each_collecting stopping (items_of (take i es)) p) → TakesStops amounts is_new bytes between after (cond (is_document u) (stops u p) [])
      → TakesStops amounts is_new bytes before after (each_collecting stopping (items_of (take (i + 1) es)) p)
  element_taken bytes before between after es i u p e first second = rw (each_more es i u p e) (both_taken bytes before between after _ _ first second)

  module _ (known : KeepsKnown amounts is_new) where
    all_known : (found : F) (bytes : List ℕ) (ss more : Stops) → list_any (is_new found) more ≡ false → amounts found bytes ss → amounts found bytes (ss ++ more)
    all_known found bytes ss [] none h = rw append-nil h
    all_known found bytes ss (s ∷ more) none h =
        let both = or_parts (is_new found s) (list_any (is_new found) more) none in
        rw append_assoc at (all_known found bytes (ss ++ s ∷ []) more both.1 (known found bytes ss s both.0 h))

    -- nothing is new
    pub vain_taken : (found : F) (bytes : List ℕ) (more : Stops) → list_any (is_new found) more ≡ false → TakesStops amounts is_new bytes found found more
    vain_taken found bytes more none = record { adds = λ ss h. all_known found bytes ss more none h; none_new = none; still = λ s h. h }
