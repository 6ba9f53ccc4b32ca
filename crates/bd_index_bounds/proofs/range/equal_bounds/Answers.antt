use Rattle.std.proofs.Common.{◌≡◌, Bool, true, false, ◌&&◌, ◌||◌, List, [], ◌∷◌, get_or, map, Vec, arith, ap, ◌∙◌, sym, rules}
use Rattle.std.proofs.Math.Path.{fun_ext}
use Rattle.std.specs.declared.alloc.Global.{Global}
use Rattle.bd_value.specs.{Order.equal, Tree.elements_in, Tree.Tree, Tree.leaf, Tree.undefined, View.tree_of, declared.document.Value.Value}
use Rattle.bd_value.specs.declared.document.Value.TheVariants as values
use Rattle.bd_value.proofs.{ViewLemmas.list_of-items_of, ViewLemmas.tree_of-Array}
use Rattle.bd_query_filter.specs.FilterMatch.{is_array}
use Rattle.bd_index_bounds.specs.Bounds.{KeySet, keys_equal_to, keys_of_equal, union}
use Rattle.bd_index_bounds.specs.BoundsView.{keys_within}
use Rattle.bd_index_bounds.proofs.FilterBoundsLemmas.{keys_within-Or}
use Rattle.bd_index_bounds.proofs.range.equal_bounds.Goals as goal

abbrev first_or_undefined : List Tree → Tree
first_or_undefined ts = get_or ts 0 (leaf undefined)

-- an array, or its first element
array_keys : (elements : Vec Value Global) (sets : List KeySet)
    → sets ≡ keys_equal_to (tree_of (values.Array elements)) ∷ keys_equal_to (first_or_undefined (map tree_of elements.items)) ∷ []
    → union sets ≡ keys_of_equal (tree_of (values.Array elements))
array_keys elements sets is =
    let whole : is_array (tree_of (values.Array elements)) ≡ true = ap is_array (tree_of-Array elements) in
    let first = ap (λ (t : Tree). first_or_undefined (elements_in t)) (tree_of-Array elements) ∙ ap first_or_undefined (list_of-items_of (map tree_of elements.items)) in
    ap union is
    ∙ fun_ext (λ k. either (equal k (tree_of (values.Array elements))) (equal k (first_or_undefined (map tree_of elements.items))) _ _ whole (ap (equal k) first))
  where
    either : (a b c d : Bool) → c ≡ true → d ≡ b → (a || (b || false)) ≡ (a || (c && d))
    either a b c d e f = grind arith

pub returns : goal.returns
returns c =
    let both : map keys_within c.push-2.new.self.items ≡ keys_equal_to (tree_of c.args.value.now) ∷ keys_equal_to (first_or_undefined (map tree_of c.in-Array.elements.items)) ∷ [] = search rules in
    keys_within-Or c.push-2.new.self
    ∙ array_keys c.in-Array.elements (map keys_within c.push-2.new.self.items) (rw c.in-Array.is at both)
    ∙ ap (λ v. keys_of_equal (tree_of v)) (sym c.in-Array.is)
