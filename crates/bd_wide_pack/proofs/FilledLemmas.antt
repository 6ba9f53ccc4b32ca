-- At most one document is filled from two documents and numbers; fields and elements as lists of pairs.
use Rattle.std.proofs.Common.{◌≡◌, ◌⊎◌, inl, inr, ℕ, List, [], ◌∷◌, true, false, refl, sym, ap, ap₂, ◌∙◌, subst, pos, arith}
use Rattle.bd_value.specs.Tree as trees
use Rattle.bd_value.specs.Tree.{Scalar, Tree, leaf, doc, array, code_scope, Items, no_items, item, Fields, no_fields, field, Doc, fields_of, items_of, values_of}
use Rattle.bd_wide_dump.specs.Values.{values_in}
use Rattle.bd_wide_number.specs.declared.number.Number.{Number}
use Rattle.bd_wide_pack.specs.Filled.{kept, numeric, Stays, IsNext, IsFilled, AreFilled, AreItemsFilled}
use Rattle.bd_wide_pack.specs.inside.Mixed.{AreAlike}

-- ---- one tree

-- which of the four forms a value has
abbrev pub form : Tree → ℕ
form (leaf s) = 0
form (doc fs) = 1
form (array is) = 2
form (code_scope s fs) = 3

leaf_forms : (s : Scalar) (w t : Tree) (before after : List Number) → Stays s w t before after ⊎ IsNext s w t before after → (form w ≡ 0) × (form t ≡ 0)
leaf_forms s w t before after (inl p) = (ap form p.in_whole, ap form p.in_text)
leaf_forms s w t before after (inr p) = (ap form p.in_whole, ap form p.in_text)

-- all three values have one form
pub forms : (x w t : Tree) (before after : List Number) → IsFilled x w t before after → (form w ≡ form x) × (form t ≡ form x)
forms (leaf s) w t before after h = leaf_forms s w t before after h
forms (doc fs) w t before after h = (ap form h.2, ap form h.3)
forms (array is) w t before after h = (ap form h.2, ap form h.3)
forms (code_scope s fs) w t before after h = (ap form h.2, ap form h.3)

not_both : (a : Scalar) (w t : Tree) → w ≡ leaf a → t ≡ leaf a → w ≡ leaf (trees.int32 (pos 0)) → t ≡ leaf (trees.text []) → ⊥
not_both a w t p q r s = let e : leaf (trees.int32 (pos 0)) ≡ leaf (trees.text []) = sym r ∙ p ∙ sym q ∙ s in cc

one_leaf : (s r : Scalar) (w t : Tree) (before a b : List Number) → Stays s w t before a ⊎ IsNext s w t before a → Stays r w t before b ⊎ IsNext r w t before b → (s ≡ r) × (a ≡ b)
one_leaf s r w t before a b (inl p) (inl q) =
    let e : leaf p.scalar ≡ leaf q.scalar = sym p.in_whole ∙ q.in_whole in
    let same : p.scalar ≡ q.scalar = cc in
    (p.is ∙ ap kept same ∙ sym q.is, sym p.none ∙ q.none)
one_leaf s r w t before a b (inl p) (inr q) = absurd (not_both p.scalar w t p.in_whole p.in_text q.in_whole q.in_text)
one_leaf s r w t before a b (inr p) (inl q) = absurd (not_both q.scalar w t q.in_whole q.in_text p.in_whole p.in_text)
one_leaf s r w t before a b (inr p) (inr q) =
    let e : p.number ∷ a ≡ q.number ∷ b = sym p.taken ∙ q.taken in
    let same : p.number ≡ q.number = cc in
    let rest : a ≡ b = cc in
    (p.is ∙ ap numeric same ∙ sym q.is, rest)

pub filled_as : (x w v t u : Tree) (before after : List Number) → w ≡ v → t ≡ u → IsFilled x w t before after → IsFilled x v u before after
filled_as x w v t u before after e f h = let P : Tree → Type 0 = λ a. IsFilled x a u before after in let Q : Tree → Type 0 = λ a. IsFilled x w a before after in subst P e (subst Q f h)

pub fields_as : (fs ws vs ts us : Fields) (before between after : List Number) → ws ≡ vs → ts ≡ us → before ≡ between → AreFilled fs ws ts before after → AreFilled fs vs us between after
fields_as fs ws vs ts us before between after e f g h =
    let P : Fields → Type 0 = λ a. AreFilled fs a us between after in let Q : Fields → Type 0 = λ a. AreFilled fs ws a between after in let R : List Number → Type 0 = λ a. AreFilled fs ws ts a after in
    subst P e (subst Q f (subst R g h))

pub items_as : (fs ws vs ts us : Items) (before between after : List Number) → ws ≡ vs → ts ≡ us → before ≡ between → AreItemsFilled fs ws ts before after → AreItemsFilled fs vs us between after
items_as fs ws vs ts us before between after e f g h =
    let P : Items → Type 0 = λ a. AreItemsFilled fs a us between after in let Q : Items → Type 0 = λ a. AreItemsFilled fs ws a between after in let R : List Number → Type 0 = λ a. AreItemsFilled fs ws ts a after in
    subst P e (subst Q f (subst R g h))

mutual
  -- two values with the numbers are one
  pub one_tree : (x y w t : Tree) (before a b : List Number) → IsFilled x w t before a → IsFilled y w t before b → (x ≡ y) × (a ≡ b)
  one_tree (leaf s) (leaf r) w t before a b p q = let e = one_leaf s r w t before a b p q in (ap leaf e.0, e.1)
  one_tree (doc fs) (doc gs) w t before a b p q =
      let d : doc q.0 ≡ doc p.0 = sym q.2 ∙ p.2 in
      let c : doc q.1 ≡ doc p.1 = sym q.3 ∙ p.3 in
      let e = one_fields fs gs p.0 p.1 before a b p.4 (fields_as gs q.0 p.0 q.1 p.1 before before b (cc) (cc) refl q.4) in
      (ap doc e.0, e.1)
  one_tree (array is) (array js) w t before a b p q =
      let d : array q.0 ≡ array p.0 = sym q.2 ∙ p.2 in
      let c : array q.1 ≡ array p.1 = sym q.3 ∙ p.3 in
      let e = one_items is js p.0 p.1 before a b p.4 (items_as js q.0 p.0 q.1 p.1 before before b (cc) (cc) refl q.4) in
      (ap array e.0, e.1)
  one_tree (code_scope s fs) (code_scope r gs) w t before a b p q =
      let d : code_scope r q.0 ≡ code_scope s p.0 = sym q.2 ∙ p.2 in
      let c : code_scope r q.1 ≡ code_scope s p.1 = sym q.3 ∙ p.3 in
      let same : s ≡ r = cc in
      let e = one_fields fs gs p.0 p.1 before a b p.4 (fields_as gs q.0 p.0 q.1 p.1 before before b (cc) (cc) refl q.4) in
      (ap₂ code_scope same e.0, e.1)
  one_tree x y w t before a b p q =
      let h : form x ≡ form y = sym (forms x w t before a p).0 ∙ (forms y w t before b q).0 in
      absurd (omega (arith, h))

  -- fields with the numbers, and the numbers after them, are given by those of the two documents
  pub one_fields : (fs gs ws ts : Fields) (before a b : List Number) → AreFilled fs ws ts before a → AreFilled gs ws ts before b → (fs ≡ gs) × (a ≡ b)
  one_fields no_fields no_fields ws ts before a b p q = (refl, sym p.2 ∙ q.2)
  one_fields no_fields (field m y gs) ws ts before a b p q = let e : no_fields ≡ field m q.0 q.2 = sym p.0 ∙ q.5 in absurd cc
  one_fields (field n x fs) no_fields ws ts before a b p q = let e : field n p.0 p.2 ≡ no_fields = sym p.5 ∙ q.0 in absurd cc
  one_fields (field n x fs) (field m y gs) ws ts before a b p q =
      let d : field m q.0 q.2 ≡ field n p.0 p.2 = sym q.5 ∙ p.5 in
      let c : field m q.1 q.3 ≡ field n p.1 p.3 = sym q.6 ∙ p.6 in
      let name : n ≡ m = cc in
      let one = one_tree x y p.0 p.1 before p.4 q.4 p.7 (filled_as y q.0 p.0 q.1 p.1 before q.4 (cc) (cc) q.7) in
      let more = one_fields fs gs p.2 p.3 p.4 a b p.8 (fields_as gs q.2 p.2 q.3 p.3 q.4 p.4 b (cc) (cc) (sym one.1) q.8) in
      (cc (name, one.0, more.0), more.1)

  pub one_items : (fs gs ws ts : Items) (before a b : List Number) → AreItemsFilled fs ws ts before a → AreItemsFilled gs ws ts before b → (fs ≡ gs) × (a ≡ b)
  one_items no_items no_items ws ts before a b p q = (refl, sym p.2 ∙ q.2)
  one_items no_items (item y gs) ws ts before a b p q = let e : no_items ≡ item q.0 q.2 = sym p.0 ∙ q.5 in absurd cc
  one_items (item x fs) no_items ws ts before a b p q = let e : item p.0 p.2 ≡ no_items = sym p.5 ∙ q.0 in absurd cc
  one_items (item x fs) (item y gs) ws ts before a b p q =
      let d : item q.0 q.2 ≡ item p.0 p.2 = sym q.5 ∙ p.5 in
      let c : item q.1 q.3 ≡ item p.1 p.3 = sym q.6 ∙ p.6 in
      let one = one_tree x y p.0 p.1 before p.4 q.4 p.7 (filled_as y q.0 p.0 q.1 p.1 before q.4 (cc) (cc) q.7) in
      let more = one_items fs gs p.2 p.3 p.4 a b p.8 (items_as gs q.2 p.2 q.3 p.3 q.4 p.4 b (cc) (cc) (sym one.1) q.8) in
      (cc (one.0, more.0), more.1)

-- ---- fields as pairs

pub alike_fields : (fs : Fields) (ws ts : Doc) (before after : List Number) → AreAlike true fs ws ts before after → AreFilled fs (fields_of ws) (fields_of ts) before after
alike_fields no_fields ws ts before after h = (ap fields_of h.0, ap fields_of h.1, h.2)
alike_fields (field n x fs) ws ts before after h =
    (h.0, h.1, fields_of h.3, fields_of h.4, h.5, ap fields_of h.6, ap fields_of h.7 ∙ ap (λ (m : List ℕ). field m h.1 (fields_of h.4)) (sym (h.8 refl)), h.9, alike_fields fs h.3 h.4 h.5 after h.10)

no_pairs : (ws : Doc) → fields_of ws ≡ no_fields → ws ≡ []
no_pairs [] e = refl
no_pairs (p ∷ ps) e = absurd cc

pub fields_alike : (fs : Fields) (ws ts : Doc) (before after : List Number) → AreFilled fs (fields_of ws) (fields_of ts) before after → AreAlike true fs ws ts before after
fields_alike no_fields ws ts before after h = (no_pairs ws h.0, no_pairs ts h.1, h.2)
fields_alike (field n x fs) [] ts before after h = absurd (let e = h.5 in cc)
fields_alike (field n x fs) (p ∷ ps) [] before after h = absurd (let e = h.6 in cc)
fields_alike (field n x fs) (p ∷ ps) (q ∷ qs) before after h =
    let e : field p.0 p.1 (fields_of ps) ≡ field n h.0 h.2 = h.5 in
    let f : field q.0 q.1 (fields_of qs) ≡ field n h.1 h.3 = h.6 in
    let name : p.0 ≡ n = cc in
    let other : n ≡ q.0 = cc in
    let pair : p ≡ (n, p.1) = ap (λ (m : List ℕ). (m, p.1)) name in (
      p.1,
      q.1,
      q.0,
      ps,
      qs,
      h.4,
      ap (λ (a : List ℕ × Tree). a ∷ ps) pair,
      refl,
      λ _. other,
      filled_as x h.0 p.1 h.1 q.1 before h.4 (cc) (cc) h.7,
      fields_alike fs ps qs h.4 after (fields_as fs h.2 (fields_of ps) h.3 (fields_of qs) h.4 h.4 after (cc) (cc) refl h.8),
    )

-- ---- elements as pairs

pub alike_items : (fs : Fields) (ws ts : Doc) (before after : List Number) → AreAlike false fs ws ts before after
    → AreItemsFilled (values_in fs) (items_of (values_of ws)) (items_of (values_of ts)) before after
alike_items no_fields ws ts before after h = (ap (λ (d : Doc). items_of (values_of d)) h.0, ap (λ (d : Doc). items_of (values_of d)) h.1, h.2)
alike_items (field n x fs) ws ts before after h =
    (h.0, h.1, items_of (values_of h.3), items_of (values_of h.4), h.5, ap (λ (d : Doc). items_of (values_of d)) h.6, ap (λ (d : Doc). items_of (values_of d)) h.7, h.9, alike_items fs h.3 h.4 h.5 after h.10)

no_values : (ws : Doc) → items_of (values_of ws) ≡ no_items → ws ≡ []
no_values [] e = refl
no_values (p ∷ ps) e = absurd cc

pub items_alike : (is : Items) (ws ts : Doc) (before after : List Number) → AreItemsFilled is (items_of (values_of ws)) (items_of (values_of ts)) before after
    → (fs : Fields) × AreAlike false fs ws ts before after
items_alike no_items ws ts before after h = (no_fields, (no_values ws h.0, no_values ts h.1, h.2))
items_alike (item x is) [] ts before after h = absurd (let e = h.5 in cc)
items_alike (item x is) (p ∷ ps) [] before after h = absurd (let e = h.6 in cc)
items_alike (item x is) (p ∷ ps) (q ∷ qs) before after h =
    let e : item p.1 (items_of (values_of ps)) ≡ item h.0 h.2 = h.5 in
    let f : item q.1 (items_of (values_of qs)) ≡ item h.1 h.3 = h.6 in
    let more = items_alike is ps qs h.4 after (items_as is h.2 (items_of (values_of ps)) h.3 (items_of (values_of qs)) h.4 h.4 after (cc) (cc) refl h.8) in
    (field p.0 x more.0, (p.1, q.1, q.0, ps, qs, h.4, refl, refl, λ no. absurd cc, filled_as x h.0 p.1 h.1 q.1 before h.4 (cc) (cc) h.7, more.1))
