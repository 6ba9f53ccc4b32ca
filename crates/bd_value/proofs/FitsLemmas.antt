-- A tree fits if its parts fit.
use Rattle.std.proofs.Common.{◌≡◌, ◌⊎◌, ℕ, List, inl, inr, [], ◌∷◌, Some, None, refl, ap, subst, ◌∙◌}
use Rattle.bd_value.specs.Tree.{Scalar, Leaf, scalar_leaf, leaf_of, Tree, leaf, doc, array, code_scope, Items, no_items, item, Fields, no_fields, field, Doc, fields_of, items_of, fields_of-pairs_of, items_of-list_of}
use Rattle.bd_value.specs.Tree.{text, symbol, regex, db_pointer, code, values_of, scope_of, AreParts}
use Rattle.bd_value.specs.Fits.{FieldsFit, Fits, FitsTypes, ItemsFit, LeafFits, ScalarFits, TreeFits}
use Rattle.bd_value.specs.View.{kind_of}
use Rattle.bd_value.specs.declared.node.Kind.TheVariants as kinds

module _ (IsSuch : List ℕ → Type 0) where
  values_fit : (ps : Doc) → FieldsFit IsSuch (fields_of ps) → ItemsFit IsSuch (items_of (values_of ps))
  values_fit [] fits = tt
  values_fit (p ∷ ps) fits = (fits.1.0, values_fit ps fits.1.1)

  pub parts_fit : (t : Tree) (ps : Doc) → AreParts t ps → FieldsFit IsSuch (fields_of ps) → TreeFits IsSuch t
  parts_fit (doc fs) ps are fits = subst (FieldsFit IsSuch) (ap fields_of are ∙ fields_of-pairs_of fs) fits
  parts_fit (array ts) ps are fits = subst (ItemsFit IsSuch) (ap items_of are ∙ items_of-list_of ts) (values_fit ps fits)
  parts_fit _ ps are fits = absurd are

  pub leaf_fits : (t : Tree) (o : Leaf) → leaf_of t ≡ Some o → scope_of t ≡ None → LeafFits IsSuch o → TreeFits IsSuch t
  leaf_fits (leaf s) o leaf_is scope_is fits = let is : o ≡ scalar_leaf s = cc in subst (LeafFits IsSuch) is fits
  leaf_fits _ o leaf_is scope_is fits = absurd cc

-- a tree that fits with texts of P fits with texts of Q, if P implies Q
module _ (P Q : List ℕ → Type 0) (so : (s : List ℕ) → P s → Q s) where
  scalar_fits_with : (s : Scalar) → ScalarFits P s → ScalarFits Q s
  scalar_fits_with (text s) fits = so s fits
  scalar_fits_with (symbol s) fits = so s fits
  scalar_fits_with (code s) fits = so s fits
  scalar_fits_with (regex p o) fits = (so p fits.0, so o fits.1)
  scalar_fits_with (db_pointer s id) fits = (so s fits.0, fits.1)
  scalar_fits_with _ fits = fits

  mutual
    pub fits_with : (t : Tree) → TreeFits P t → TreeFits Q t
    fits_with (leaf s) fits = scalar_fits_with s fits
    fits_with (doc fs) fits = fields_fit_with fs fits
    fits_with (array ts) fits = items_fit_with ts fits
    fits_with (code_scope s fs) fits = (so s fits.0, fields_fit_with fs fits.1)

    items_fit_with : (ts : Items) → ItemsFit P ts → ItemsFit Q ts
    items_fit_with no_items fits = tt
    items_fit_with (item t ts) fits = (fits_with t fits.0, items_fit_with ts fits.1)

    fields_fit_with : (fs : Fields) → FieldsFit P fs → FieldsFit Q fs
    fields_fit_with no_fields fits = tt
    fields_fit_with (field n t fs) fits = (so n fits.0, (fits_with t fits.1.0, fields_fit_with fs fits.1.1))

-- a tree whose texts are UTF-8 also fits if its texts may be any bytes
pub fits_types : (t : Tree) → Fits t → FitsTypes t
fits_types = fits_with _ _ (λ s utf8. tt)

pub no_leaf : (t : Tree) → leaf_of t ≡ None → (kind_of t ≡ kinds.Doc) ⊎ (kind_of t ≡ kinds.Array)
no_leaf (doc fs) e = inl refl
no_leaf (array ts) e = inr refl
no_leaf _ e = absurd cc
