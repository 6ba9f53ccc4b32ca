-- The pairs of a document, at each index, and how a value in memory is read as a tree.
use Rattle.std.proofs.Common.{◌≡◌, ℕ, zero, suc, ◌+◌, ◌<◌, List, [], ◌∷◌, length, map, drop, get_or, Option, Some, true, false, Vec, refl, sym, ap, subst, ◌∙◌, add-one, rules, arith}
use Rattle.std.specs.Prelude.{String, string_bytes, slice_get}
use Rattle.std.specs.Str.{bytes_eq}
use Rattle.std.specs.Borrow.{Bor}
use Rattle.std.specs.declared.alloc.Global.{Global}
use Rattle.std.proofs.lemmas.Option.{slice_get-map, slice_get-get_or}
use Rattle.std.proofs.lemmas.List.{length-map}
use Rattle.bd_value.specs.Tree.{Tree, doc, array, code_scope, Doc, Pair, fields_of, items_of, list_of, pairs_of-fields_of, pairs_in, elements_in, length_of, scope_of, values_of, AreParts, first_of}
use Rattle.bd_value.specs.View.{tree_of, pair_of, pairs, pairs_step, tree_step, node_tree}
use Rattle.bd_value.specs.declared.document.Value.{Value}
use Rattle.bd_value.specs.declared.document.Value.TheVariants as values
use Rattle.bd_value.specs.declared.document.Value.TheFolds as folds
use Rattle.bd_value.specs.declared.document.Document.{Document}
use Rattle.bd_value.specs.declared.node.Tree as node
use Rattle.bd_value.specs.declared.node.Tree.TheVariants as nodes

two_maps : (ps : List (String Global × Value)) → map (λ (p : String Global × Tree). (string_bytes p.0, p.1)) (map (λ (p : String Global × Value). (p.0, tree_of p.1)) ps) ≡ map pair_of ps
two_maps [] = refl
two_maps (p ∷ ps) = ap (λ (x : Doc). pair_of p ∷ x) (two_maps ps)

pub pairs_fold : (d : Document) → folds.fold-Document Tree Doc tree_step pairs_step d ≡ pairs d
pairs_fold d = folds.fold_out-Document Tree Doc tree_step pairs_step d ∙ two_maps d.pairs.items

-- the tree of a document in memory is the document of its pairs
pub tree_of-Doc : (d : Document) → tree_of (values.Doc d) ≡ doc (fields_of (pairs d))
tree_of-Doc d =
    let e : tree_of (values.Doc d) ≡ doc (fields_of (folds.fold-Document Tree Doc tree_step pairs_step d)) = search (rules, folds.the_lemmas) in
    e ∙ ap (λ (x : Doc). doc (fields_of x)) (pairs_fold d)

-- the tree of an array in memory is the array of its elements' trees
pub tree_of-Array : (v : Vec Value Global) → tree_of (values.Array v) ≡ array (items_of (map tree_of v.items))
tree_of-Array v = search (rules, folds.the_lemmas)

pub pairs_length : (d : Document) → length (pairs d) ≡ length d.pairs.items
pairs_length d = length-map d.pairs.items pair_of

-- the tree of code with scope in memory is its code and the pairs of its scope
pub tree_of-CodeScope : (s : String Global) (d : Document) → tree_of (values.CodeScope s d) ≡ code_scope (string_bytes s) (fields_of (pairs d))
tree_of-CodeScope s d =
    let e : tree_of (values.CodeScope s d) ≡ code_scope (string_bytes s) (fields_of (folds.fold-Document Tree Doc tree_step pairs_step d)) = search (rules, folds.the_lemmas) in
    e ∙ ap (λ (x : Doc). code_scope (string_bytes s) (fields_of x)) (pairs_fold d)

pub pair_at : (d : Document) (i : ℕ) (p : String Global × Value) → i < length (pairs d) → p ≡ get_or d.pairs.items i p → slice_get (pairs d) i ≡ Some (pair_of p)
pair_at d i p lt is =
    let len = pairs_length d in
    let inside : i < length d.pairs.items = omega arith in
    slice_get-map pair_of d.pairs.items i ∙ rw (slice_get-get_or d.pairs.items i p inside, ← is) refl

-- ---- descending into a document and an array

-- from the index of a member on, a list is that member and those after it
pub next_at : {A : Type 0} (xs : List A) (i : ℕ) (x : A) → slice_get xs i ≡ Some x → drop i xs ≡ x ∷ drop (i + 1) xs
next_at [] i x is = absurd cc
next_at (y ∷ xs) zero x is = cc
next_at (y ∷ xs) (suc i) x is = rw add-one (next_at xs i x is ∙ rw add-one refl)

-- a value in a list, as a tree
pub tree_at : (vs : List Value) (i : ℕ) (v : Value) → i < length vs → v ≡ get_or vs i v → slice_get (map tree_of vs) i ≡ Some (tree_of v)
tree_at vs i v lt is = slice_get-map tree_of vs i ∙ rw (slice_get-get_or vs i v lt, ← is) refl

-- ---- the first pair of a name

module _ (name : List ℕ) (ps : Doc) (i : ℕ) (p : Pair) (total : Option Tree) (at : slice_get ps i ≡ Some p) (so_far : first_of name (drop i ps) ≡ total) where
  -- a pair of another name does not change which value is the first of the name
  pub skipped : false ≡ bytes_eq p.0 name → first_of name (drop (i + 1) ps) ≡ total
  skipped other = sym (ap (first_of name) (next_at ps i p at) ∙ rw (← other) refl) ∙ so_far

  -- the first pair of the name has the first value of the name
  pub found : true ≡ bytes_eq p.0 name → total ≡ Some p.1
  found same = sym so_far ∙ ap (first_of name) (next_at ps i p at) ∙ rw (← same) refl

-- ---- nodes

-- a list of values put into a tree and taken out again is unchanged
pub list_of-items_of : (ts : List Tree) → list_of (items_of ts) ≡ ts
list_of-items_of [] = refl
list_of-items_of (t ∷ ts) = ap (λ (x : List Tree). t ∷ x) (list_of-items_of ts)

-- a node over a document in memory has the tree of its pairs
pub is_doc : (s : node.Tree) (v : Bor Value) (d : Document) → s ≡ nodes.Value v → v.now ≡ values.Doc d → node_tree s ≡ doc (fields_of (pairs d))
is_doc s v d is e = ap node_tree is ∙ ap tree_of e ∙ tree_of-Doc d

-- a node over an array in memory has the tree of its values
pub is_array : (s : node.Tree) (v : Bor Value) (xs : Vec Value Global) → s ≡ nodes.Value v → v.now ≡ values.Array xs → node_tree s ≡ array (items_of (map tree_of xs.items))
is_array s v xs is e = ap node_tree is ∙ ap tree_of e ∙ tree_of-Array xs

pub scope_is : (s : node.Tree) (v : Bor Value) (code : String Global) (d : Document) → s ≡ nodes.Value v → v.now ≡ values.CodeScope code d → Some (doc (fields_of (pairs d))) ≡ scope_of (node_tree s)
scope_is s v code d is e = sym (ap (λ t. scope_of (node_tree t)) is ∙ ap (λ x. scope_of (tree_of x)) e ∙ ap scope_of (tree_of-CodeScope code d))

-- ---- a document

module _ (t : Tree) (ps : Doc) (is : t ≡ doc (fields_of ps)) where
  pub doc_pairs : pairs_in t ≡ ps
  doc_pairs = ap pairs_in is ∙ pairs_of-fields_of ps

  pub doc_length : length_of t ≡ length ps
  doc_length = ap length_of is ∙ ap (λ (x : Doc). length x) (pairs_of-fields_of ps)

  pub doc_parts : AreParts t ps
  doc_parts = subst (λ (u : Tree). AreParts u ps) (sym is) (sym (pairs_of-fields_of ps))

  pub inside : (i : ℕ) → i < length (pairs_in t) → i < length ps
  inside i lt = let e = ap (λ (x : Doc). length x) doc_pairs in omega arith

  pub pair_is : (i : ℕ) (p : Pair) → slice_get ps i ≡ Some p → slice_get (pairs_in t) i ≡ Some p
  pair_is i p h = ap (λ (x : Doc). slice_get x i) doc_pairs ∙ h

  pub first_is : (name : List ℕ) (o : Option Tree) → o ≡ first_of name ps → o ≡ first_of name (pairs_in t)
  first_is name o h = h ∙ ap (first_of name) (sym doc_pairs)

-- ---- an array

values_named : (vs : List Value) → values_of (map (λ (v : Value). ([], tree_of v)) vs) ≡ map tree_of vs
values_named [] = refl
values_named (v ∷ vs) = ap (λ (x : List Tree). tree_of v ∷ x) (values_named vs)

module _ (t : Tree) (vs : List Value) (is : t ≡ array (items_of (map tree_of vs))) where
  array_elements : elements_in t ≡ map tree_of vs
  array_elements = ap elements_in is ∙ list_of-items_of (map tree_of vs)

  pub array_length : length_of t ≡ length vs
  array_length = ap length_of is ∙ ap (λ (x : List Tree). length x) (list_of-items_of (map tree_of vs)) ∙ length-map vs tree_of

  pub array_parts : AreParts t (map (λ (v : Value). ([], tree_of v)) vs)
  array_parts = subst (λ (u : Tree). AreParts u (map (λ (v : Value). ([], tree_of v)) vs)) (sym is) (values_named vs ∙ sym (list_of-items_of (map tree_of vs)))

  pub inside_array : (i : ℕ) → i < length (elements_in t) → i < length vs
  inside_array i lt = let e = ap (λ (x : List Tree). length x) array_elements in let m = length-map vs tree_of in omega arith

  pub element_is : (i : ℕ) (v : Value) → i < length vs → v ≡ get_or vs i v → slice_get (elements_in t) i ≡ Some (tree_of v)
  element_is i v lt h = ap (λ (x : List Tree). slice_get x i) array_elements ∙ tree_at vs i v lt h
