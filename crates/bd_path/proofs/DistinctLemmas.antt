-- The distinct keys of a list, found one at a time.
use Rattle.std.proofs.Common.{◌≡◌, Bool, true, false, cond, filter, List, [], ◌∷◌, ◌++◌, append_assoc, append-nil, refl, sym, ap, ◌∙◌, arith}
use Rattle.std.proofs.{Math.Path.fun_ext, lemmas.Cmp.eq_by_cmp_equiv, lemmas.List.Elements.filter_agree, lemmas.List.Folds.list_any-append}
use Rattle.std.specs.Prelude.{◌&&◌, ◌||◌, not}
use Rattle.std.specs.{Cmp.IsEquivalence, List.list_any}
use Rattle.bd_value.specs.{Order.equal, Tree.Tree}
use Rattle.bd_value.proofs.OrderLemmas.{cmp_total}
use Rattle.bd_path.specs.{Key.distinct, inside.Key.is_new, inside.Key.with_key, inside.Key.with_keys}

pub equal_laws : IsEquivalence equal
equal_laws = eq_by_cmp_equiv cmp_total

-- of two tests in turn, what passes both
pub filter_both : {A : Type 0} (p q : A → Bool) (xs : List A) → filter p (filter q xs) ≡ filter (λ x. q x && p x) xs
filter_both p q [] = refl
filter_both p q (x ∷ xs) = grind (arith, filter_both p q xs)

all_new : (ks : List Tree) → filter (is_new []) ks ≡ ks
all_new [] = refl
all_new (k ∷ ks) = ap (λ (l : List Tree). k ∷ l) (all_new ks)

-- keys that are added one at a time are the distinct ones that equal no earlier key
distinct_after : (ks ts : List Tree) → with_keys ks ts ≡ ks ++ filter (is_new ks) (distinct ts)
distinct_after ks [] = sym (append-nil ks)
distinct_after ks (t ∷ ts) = go (list_any (λ k. equal k t) ks) refl (distinct_after ks ts) (distinct_after (ks ++ t ∷ []) ts)
  where
    rest : List Tree
    rest = filter (λ e. not (equal t e)) (distinct ts)

    -- a key that equals t is not new if t is not
    passed : (e : Tree) (b : Bool) → equal t e ≡ b → list_any (λ k. equal k t) ks ≡ true → (not b && is_new ks e) ≡ is_new ks e
    passed e true h old = ap not (sym old ∙ ap (λ (f : Tree → Bool). list_any f ks) (fun_ext (λ k. equal_laws.symm k t ∙ equal_laws.congr t e k h ∙ equal_laws.symm e k)))
    passed e false h old = refl

    neither : (a b : Bool) → not (a || (b || false)) ≡ (not b && not a)
    neither a b = grind arith

    go : (b : Bool) → list_any (λ k. equal k t) ks ≡ b → with_keys ks ts ≡ ks ++ filter (is_new ks) (distinct ts)
        → with_keys (ks ++ t ∷ []) ts ≡ (ks ++ t ∷ []) ++ filter (is_new (ks ++ t ∷ [])) (distinct ts)
        → with_keys (cond b ks (ks ++ t ∷ [])) ts ≡ ks ++ cond (not b) (t ∷ filter (is_new ks) rest) (filter (is_new ks) rest)
    go true old on after =
        on ∙ ap (λ (l : List Tree). ks ++ l) (sym (filter_both (is_new ks) (λ e. not (equal t e)) (distinct ts)
        ∙ filter_agree _ (is_new ks) (λ e. passed e (equal t e) refl old) (distinct ts)))
    go false old on after =
        after ∙ append_assoc ks (t ∷ []) (filter (is_new (ks ++ t ∷ [])) (distinct ts))
        ∙ ap (λ (l : List Tree). ks ++ t ∷ l) (filter_agree (is_new (ks ++ t ∷ [])) (λ e. not (equal t e) && is_new ks e)
        (λ e. ap not (list_any-append (λ k. equal k e) ks (t ∷ [])) ∙ neither (list_any (λ k. equal k e) ks) (equal t e)) (distinct ts)
        ∙ sym (filter_both (is_new ks) (λ e. not (equal t e)) (distinct ts)))

-- the distinct keys are those that are added one at a time
pub distinct_is : (ks : List Tree) → with_keys [] ks ≡ distinct ks
distinct_is ks = distinct_after [] ks ∙ all_new (distinct ks)

with_append : (ks xs ys : List Tree) → with_keys ks (xs ++ ys) ≡ with_keys (with_keys ks xs) ys
with_append ks [] ys = refl
with_append ks (x ∷ xs) ys = with_append (with_key ks x) xs ys

-- of two lists, the second is added to the distinct ones of the first
pub distinct_append : (xs ys : List Tree) → distinct (xs ++ ys) ≡ with_keys (distinct xs) ys
distinct_append xs ys = sym (distinct_is (xs ++ ys)) ∙ with_append [] xs ys ∙ ap (λ (ks : List Tree). with_keys ks ys) (distinct_is xs)
