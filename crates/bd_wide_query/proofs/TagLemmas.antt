-- Tags: where a value of the second document is missing, none is there.
use Rattle.std.proofs.Common.{◌≡◌, ◌≢◌, ℕ, zero, suc, ◌+◌, List, drop, true, false, inl, inr, pos, negsuc, refl, sym, ap, ap₂, ◌∙◌}
use Rattle.bd_value.specs.Tree.{Scalar, min_key, int32, Tree, leaf, doc, array, code_scope, Items, no_items, item, items_of}
use Rattle.bd_value.specs.Tree.{Fields, no_fields, field, Doc, fields_of, values_of}
use Rattle.bd_value.specs.View.{kind_of}
use Rattle.bd_bson_view.specs.Spelling.{is_holder}
use Rattle.bd_wide_number.specs.declared.number.Number.{Number}
use Rattle.bd_wide_query.specs.Tagged.{count, fields_count, is_number, items_count, tagged, tagged_fields, tagged_items}
use Rattle.bd_wide_query.specs.inside.Coding.{HasSameTags, IsBeside}

not_itself : (s : Scalar) → is_number s (leaf s) ≡ false
not_itself (int32 (pos zero)) = refl
not_itself (int32 (pos (suc n))) = refl
not_itself (int32 (negsuc n)) = refl
not_itself _ = refl

-- beside itself a value has no tags
mutual
  pub itself : (ns : List Number) (w : Tree) → tagged ns w w ≡ w
  itself ns (leaf s) = rw (not_itself s) refl
  itself ns (doc ws) = ap doc (fields_itself ns ws)
  itself ns (array ws) = ap array (items_itself ns ws)
  itself ns (code_scope s ws) = ap (code_scope s) (fields_itself ns ws)

  fields_itself : (ns : List Number) (ws : Fields) → tagged_fields ns ws ws ≡ ws
  fields_itself ns no_fields = refl
  fields_itself ns (field n w ws) = ap₂ (field n) (itself ns w) (fields_itself (drop (count w w) ns) ws)

  items_itself : (ns : List Number) (ws : Items) → tagged_items ns ws ws ≡ ws
  items_itself ns no_items = refl
  items_itself ns (item w ws) = ap₂ item (itself ns w) (items_itself (drop (count w w) ns) ws)

mutual
  pub none : (w : Tree) → count w w ≡ 0
  none (leaf s) = rw (not_itself s) refl
  none (doc ws) = no_pairs ws
  none (array ws) = no_elements ws
  none (code_scope s ws) = no_pairs ws

  no_pairs : (ws : Fields) → fields_count ws ws ≡ 0
  no_pairs no_fields = refl
  no_pairs (field n w ws) = ap₂ ◌+◌ (none w) (no_pairs ws)

  no_elements : (ws : Items) → items_count ws ws ≡ 0
  no_elements no_items = refl
  no_elements (item w ws) = ap₂ ◌+◌ (none w) (no_elements ws)

leaf_is_plain : (s : Scalar) → is_holder (kind_of (leaf s)) ≡ true → ⊥
leaf_is_plain min_key e = absurd cc
leaf_is_plain _ e = absurd cc

-- beside a value of another kind a document, an array and code with scope have no tags
pub unlike : (w t : Tree) → is_holder (kind_of w) ≡ true → kind_of t ≢ kind_of w → HasSameTags w t w
unlike (leaf s) t holder differ = absurd (leaf_is_plain s holder)
unlike (doc ws) (doc ts) holder differ = absurd (differ refl)
unlike (doc ws) _ holder differ = (λ ns. ap doc (fields_itself ns ws), no_pairs ws)
unlike (array ws) (array ts) holder differ = absurd (differ refl)
unlike (array ws) _ holder differ = (λ ns. ap array (items_itself ns ws), no_elements ws)
unlike (code_scope s ws) (code_scope _ ts) holder differ = absurd (differ refl)
unlike (code_scope s ws) _ holder differ = (λ ns. ap (code_scope s) (fields_itself ns ws), no_pairs ws)

-- ---- the first of the parts

nothing_beside : (ns : List Number) (ws : Fields) → tagged_fields ns ws no_fields ≡ ws
nothing_beside ns no_fields = refl
nothing_beside ns (field n w ws) = refl

nothing_counted : (ws : Fields) → fields_count ws no_fields ≡ 0
nothing_counted no_fields = refl
nothing_counted (field n w ws) = refl

no_item_beside : (ns : List Number) (ws : Items) → tagged_items ns ws no_items ≡ ws
no_item_beside ns no_items = refl
no_item_beside ns (item w ws) = refl

no_item_counted : (ws : Items) → items_count ws no_items ≡ 0
no_item_counted no_items = refl
no_item_counted (item w ws) = refl

module _ (w t : Tree) (ts after : Doc) (n : List ℕ) where
  pub first_pair : (ns : List Number) (ws : Fields) → IsBeside w ts t after
      → tagged_fields ns (field n w ws) (fields_of ts) ≡ field n (tagged ns w t) (tagged_fields (drop (count w t) ns) ws (fields_of after))
  first_pair ns ws (inl is) = ap (λ (x : Doc). tagged_fields ns (field n w ws) (fields_of x)) is.1
  first_pair ns ws (inr is) =
      ap (λ (x : Doc). tagged_fields ns (field n w ws) (fields_of x)) is.0
      ∙ ap₂ (field n) (sym (itself ns w) ∙ ap (tagged ns w) (sym is.1))
      (sym (nothing_beside (drop (count w t) ns) ws) ∙ ap (λ (x : Doc). tagged_fields (drop (count w t) ns) ws (fields_of x)) (sym is.2))

  pub pair_counted : (ws : Fields) → IsBeside w ts t after → fields_count (field n w ws) (fields_of ts) ≡ count w t + fields_count ws (fields_of after)
  pair_counted ws (inl is) = ap (λ (x : Doc). fields_count (field n w ws) (fields_of x)) is.1
  pair_counted ws (inr is) =
      ap (λ (x : Doc). fields_count (field n w ws) (fields_of x)) is.0
      ∙ ap₂ ◌+◌ (sym (none w) ∙ ap (count w) (sym is.1)) (sym (nothing_counted ws) ∙ ap (λ (x : Doc). fields_count ws (fields_of x)) (sym is.2))

  pub first_item : (ns : List Number) (ws : Items) → IsBeside w ts t after
      → tagged_items ns (item w ws) (items_of (values_of ts)) ≡ item (tagged ns w t) (tagged_items (drop (count w t) ns) ws (items_of (values_of after)))
  first_item ns ws (inl is) = ap (λ (x : Doc). tagged_items ns (item w ws) (items_of (values_of x))) is.1
  first_item ns ws (inr is) =
      ap (λ (x : Doc). tagged_items ns (item w ws) (items_of (values_of x))) is.0
      ∙ ap₂ item (sym (itself ns w) ∙ ap (tagged ns w) (sym is.1))
      (sym (no_item_beside (drop (count w t) ns) ws) ∙ ap (λ (x : Doc). tagged_items (drop (count w t) ns) ws (items_of (values_of x))) (sym is.2))

  pub item_counted : (ws : Items) → IsBeside w ts t after → items_count (item w ws) (items_of (values_of ts)) ≡ count w t + items_count ws (items_of (values_of after))
  item_counted ws (inl is) = ap (λ (x : Doc). items_count (item w ws) (items_of (values_of x))) is.1
  item_counted ws (inr is) =
      ap (λ (x : Doc). items_count (item w ws) (items_of (values_of x))) is.0
      ∙ ap₂ ◌+◌ (sym (none w) ∙ ap (count w) (sym is.1)) (sym (no_item_counted ws) ∙ ap (λ (x : Doc). items_count ws (items_of (values_of x))) (sym is.2))
