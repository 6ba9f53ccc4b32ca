-- Candidates of an end.
use Rattle.std.proofs.Common.{◌≡◌, ◌≤◌, length, arith, Bool, true, false, ◌||◌, List, [], ◌∷◌, map, Some, refl, sym, ap, ◌∙◌}
use Rattle.std.specs.List.{list_any}
use Rattle.bd_value.specs.{Tree.elements_in, Tree.Tree}
use Rattle.bd_path.specs.Reach.{End}
use Rattle.bd_query_filter.specs.FilterMatch.{candidates, is_nonempty}
use Rattle.bd_query_filter.proofs.MembersLemmas.{any_alike, any_mapped}

-- the candidates of a value are it and its elements
pub of_value : (f : End → Bool) (t : Tree) → (f (Some t) || list_any (λ x. f (Some x)) (elements_in t)) ≡ list_any f (candidates (Some t))
of_value f t = ap (λ b. f (Some t) || b) (sym (any_mapped f Some (elements_in t)))

-- a list that is not empty stays so if each member is replaced
pub some_mapped : {A B : Type 0} (h : A → B) (xs : List A) → 1 ≤ length xs → is_nonempty (map h xs) ≡ true
some_mapped h [] le = absurd (omega arith)
some_mapped h (x ∷ xs) le = refl

-- ---- some value of one list with some of another, in either order

or_of_four : (a b c d : Bool) → ((a || b) || (c || d)) ≡ ((a || c) || (b || d))
or_of_four true b c d = refl
or_of_four false true true d = refl
or_of_four false true false d = refl
or_of_four false false c d = refl

any_of_either : {A : Type 0} (f g : A → Bool) (xs : List A) → (list_any f xs || list_any g xs) ≡ list_any (λ x. f x || g x) xs
any_of_either f g [] = refl
any_of_either f g (x ∷ xs) = or_of_four (f x) (list_any f xs) (g x) (list_any g xs) ∙ ap (λ b. (f x || g x) || b) (any_of_either f g xs)

none_of_all : {A : Type 0} (xs : List A) → false ≡ list_any (λ x. false) xs
none_of_all [] = refl
none_of_all (x ∷ xs) = none_of_all xs

any_swapped : {A B : Type 0} (f : A → B → Bool) (xs : List A) (ys : List B) → list_any (λ x. list_any (f x) ys) xs ≡ list_any (λ y. list_any (λ x. f x y) xs) ys
any_swapped f [] ys = none_of_all ys
any_swapped f (x ∷ xs) ys = ap (λ b. list_any (f x) ys || b) (any_swapped f xs ys) ∙ any_of_either (f x) (λ y. list_any (λ x. f x y) xs) ys

-- a candidate with some member is a member with some candidate
pub members_first : {A : Type 0} (f : End → A → Bool) (es : List End) (xs : List A)
    → list_any (λ e. list_any (λ c. list_any (f c) xs) (candidates e)) es ≡ list_any (λ x. list_any (λ e. list_any (λ c. f c x) (candidates e)) es) xs
members_first f es xs =
    any_alike (λ e. list_any (λ c. list_any (f c) xs) (candidates e)) (λ e. list_any (λ x. list_any (λ c. f c x) (candidates e)) xs) (λ e. any_swapped f (candidates e) xs) es
    ∙ any_swapped (λ e x. list_any (λ c. f c x) (candidates e)) es xs
