-- The parts of a value: they are smaller and less deep than it.
use Rattle.std.proofs.Common.{◌≡◌, ℕ, ◌+◌, ◌<◌, suc, List, [], ◌∷◌, Some, max, refl, sym, ap, ap₂, ◌∙◌, arith}
use Rattle.bd_value.specs.Tree.{Tree, doc, array, code_scope, Doc, fields_of, items_of, fields_of-pairs_of, items_of-list_of, tree_size, fields_size, items_size}
use Rattle.bd_value.specs.Tree.{code_leaf, leaf_of, values_of, scope_of, AreParts, depth, fields_depth, items_depth}
use Rattle.bd_value.specs.View.{kind_of}
use Rattle.bd_value.specs.declared.node.Kind.TheVariants as kinds

-- a document is the fields of its parts
pub doc_is : (t : Tree) (ps : Doc) → kind_of t ≡ kinds.Doc → AreParts t ps → t ≡ doc (fields_of ps)
doc_is (doc fs) ps is are = ap doc (sym (ap fields_of are ∙ fields_of-pairs_of fs))
doc_is (array ts) ps is are = absurd cc
doc_is _ ps is are = absurd are

-- an array is the values of its parts
pub array_is : (t : Tree) (ps : Doc) → kind_of t ≡ kinds.Array → AreParts t ps → t ≡ array (items_of (values_of ps))
array_is (array ts) ps is are = ap array (sym (ap items_of are ∙ items_of-list_of ts))
array_is (doc fs) ps is are = absurd cc
array_is _ ps is are = absurd are

-- code with scope whose scope has these parts is its code with the fields of the parts
pub code_is : (t u : Tree) (c : List ℕ) (ps : Doc) → leaf_of t ≡ Some (code_leaf c) → scope_of t ≡ Some u → AreParts u ps → t ≡ code_scope c (fields_of ps)
code_is (code_scope s fs) u c ps scalar_leaf scope are =
    let code : s ≡ c = cc in
    let inside : u ≡ doc fs = cc in
    let kind : kind_of u ≡ kinds.Doc = ap kind_of inside in
    let same : doc fs ≡ doc (fields_of ps) = sym inside ∙ doc_is u ps kind are in
    let fields : fs ≡ fields_of ps = cc in
    ap₂ code_scope code fields
code_is _ u c ps scalar_leaf scope are = absurd cc

-- ---- the parts are smaller

values_size : (ps : Doc) → items_size (items_of (values_of ps)) ≡ fields_size (fields_of ps)
values_size [] = refl
values_size (p ∷ ps) = ap (λ n. suc (tree_size p.1) + n) (values_size ps)

-- the parts of a tree are smaller than it
pub parts_smaller : (t : Tree) (ps : Doc) → AreParts t ps → fields_size (fields_of ps) < tree_size t
parts_smaller (doc fs) ps are =
    let e = ap (λ (x : Doc). fields_size (fields_of x)) are ∙ ap fields_size (fields_of-pairs_of fs) in
    omega (arith, e)
parts_smaller (array ts) ps are =
    let e = sym (values_size ps) ∙ ap (λ (x : List Tree). items_size (items_of x)) are ∙ ap items_size (items_of-list_of ts) in
    omega (arith, e)
parts_smaller _ ps are = absurd are

-- the scope of a tree is smaller than it
pub scope_smaller : (t u : Tree) → scope_of t ≡ Some u → tree_size u < tree_size t
scope_smaller (code_scope s fs) u scope = let inside : doc fs ≡ u = cc in let e = ap tree_size inside in omega arith
scope_smaller _ u scope = absurd cc

-- ---- the parts are less deep

values_depth : (ps : Doc) → items_depth (items_of (values_of ps)) ≡ fields_depth (fields_of ps)
values_depth [] = refl
values_depth (p ∷ ps) = ap (λ n. max (depth p.1) n) (values_depth ps)

pub parts_depth : (t : Tree) (ps : Doc) → AreParts t ps → depth t ≡ suc (fields_depth (fields_of ps))
parts_depth (doc fs) ps are = ap (λ n. suc n) (sym (ap (λ (x : Doc). fields_depth (fields_of x)) are ∙ ap fields_depth (fields_of-pairs_of fs)))
parts_depth (array ts) ps are =
    ap (λ n. suc n) (sym (sym (values_depth ps) ∙ ap (λ (x : List Tree). items_depth (items_of x)) are ∙ ap items_depth (items_of-list_of ts)))
parts_depth _ ps are = absurd are
