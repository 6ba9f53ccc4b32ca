-- A document of the nineteen kinds is one by value: that in which each int32 and int64 is its worth.
use Rattle.std.proofs.Common.{◌≡◌, ℕ, ℤ, ◌≤◌, List, ◌∷◌, ◌++◌, length, refl, sym, ap, ◌∙◌, subst}
use Rattle.std.specs.Int.{w32, w64, cast_unsigned}
use Rattle.bd_value.specs.declared.node.Kind.TheVariants as kinds
use Rattle.bd_value.specs.{Limits.most_levels}
use Rattle.bd_value.specs.Tree as trees
use Rattle.bd_value.specs.Tree.{Scalar, Tree, leaf, doc, array, code_scope, Items, no_items, item, Fields, no_fields, field, Doc, fields_of, depth}
use Rattle.bd_bson_view.specs.declared.raw_parts.ElementType.{ElementType}
use Rattle.bd_bson_view.specs.declared.raw_parts.ElementType.TheVariants.{Kept}
use Rattle.bd_bson_view.specs.Unique.{number_length}
use Rattle.bd_bson_view.specs.Spelling.{long, element, IsScalar, IsValue, AreFields, AreItems, IsDocument, IsValueBy, AreFieldsBy, AreItemsBy, IsDocumentBy, as_int32, as_int64, written_typed, valued}
use Rattle.bd_wide_copy.specs.Copy.{coded, coded_fields, coded_items, coded_document, int64_of, number_as, WholesAreWorth}
use Rattle.bd_wide_copy.proofs.CopyLemmas.{same_depth, same_fields}

module _ (worth : ElementType → List ℕ → ℤ) (f : ℤ → ℤ) (wholes : WholesAreWorth worth f) where
  abbrev c : Scalar → Scalar
  c = number_as (int64_of f)

  -- the bytes that spell a value by value, in the same element
  abbrev By : Tree → List ℕ → Type 0
  By t value = (w : List ℕ) × IsValueBy (valued worth) (coded c t) w × ((name : List ℕ) → element t name value ≡ written_typed (coded c t) name w)

  long_size : (n : ℕ) → length (long n) ≡ 8
  unfolding long
  long_size n = refl

  leaf_by : (a : Scalar) (value : List ℕ) → IsScalar a value → By (leaf a) value
  leaf_by (trees.int32 z) value h = (
    16 ∷ value,
    record {
      kind = as_int32;
      value = value;
      typed = refl;
      sized = ap (λ (x : List ℕ). length x) h.1 ∙ number_length (cast_unsigned w32 z);
      is_worth = ap (worth (Kept kinds.Int32)) h.1 ∙ wholes.0 z h.0;
    },
    (λ name. refl),
  )
  leaf_by (trees.int64 z) value h = (
    18 ∷ value,
    record {
      kind = as_int64;
      value = value;
      typed = refl;
      sized = ap (λ (x : List ℕ). length x) h.1 ∙ long_size (cast_unsigned w64 z);
      is_worth = ap (worth (Kept kinds.Int64)) h.1 ∙ wholes.1 z h.0;
    },
    (λ name. refl),
  )
  leaf_by trees.min_key value h = (value, h, (λ name. refl))
  leaf_by trees.undefined value h = (value, h, (λ name. refl))
  leaf_by trees.null value h = (value, h, (λ name. refl))
  leaf_by (trees.text s) value h = (value, h, (λ name. refl))
  leaf_by (trees.symbol s) value h = (value, h, (λ name. refl))
  leaf_by (trees.binary k s) value h = (value, h, (λ name. refl))
  leaf_by (trees.object_id s) value h = (value, h, (λ name. refl))
  leaf_by (trees.boolean b) value h = (value, h, (λ name. refl))
  leaf_by (trees.date z) value h = (value, h, (λ name. refl))
  leaf_by (trees.timestamp s i) value h = (value, h, (λ name. refl))
  leaf_by (trees.regex p o) value h = (value, h, (λ name. refl))
  leaf_by (trees.db_pointer s i) value h = (value, h, (λ name. refl))
  leaf_by (trees.code s) value h = (value, h, (λ name. refl))
  leaf_by trees.max_key value h = (value, h, (λ name. refl))

  mutual
    value_by : (t : Tree) (value : List ℕ) → IsValue t value → By t value
    value_by (leaf a) value h = leaf_by a value h
    value_by (doc fs) value h = (value, (h.0, fields_by fs h.0 h.1, h.2), (λ name. refl))
    value_by (array ts) value h = (value, (h.0, items_by ts h.0 h.1, h.2), (λ name. refl))
    value_by (code_scope s fs) value h = (value, (h.0, fields_by fs h.0 h.1, h.2, h.3), (λ name. refl))

    fields_by : (fs : Fields) (bytes : List ℕ) → AreFields fs bytes → AreFieldsBy (valued worth) (coded_fields c fs) bytes
    fields_by no_fields bytes h = h
    fields_by (field name t fs) bytes h = let v = value_by t h.0 h.3 in
        (v.0, h.1, h.2, v.1, fields_by fs h.1 h.4, h.5 ∙ ap (λ (x : List ℕ). x ++ h.1) (v.2 name))

    items_by : (ts : Items) (bytes : List ℕ) → AreItems ts bytes → AreItemsBy (valued worth) (coded_items c ts) bytes
    items_by no_items bytes h = h
    items_by (item t ts) bytes h = let v = value_by t h.1 h.4 in
        (h.0, v.0, h.2, h.3, v.1, items_by ts h.2 h.5, h.6 ∙ ap (λ (x : List ℕ). x ++ h.2) (v.2 h.0))

  -- a document of the nineteen kinds is the document of its worths, by value
  pub plain_by : (d : Doc) (bytes : List ℕ) → IsDocument d bytes → IsDocumentBy (valued worth) (coded_document c d) bytes
  plain_by d bytes is = record {
    spells = subst (λ (fs : Fields). IsValueBy (valued worth) (doc fs) bytes) (same_fields c d) (is.spells.0, fields_by (fields_of d) is.spells.0 is.spells.1, is.spells.2);
    short = is.short;
    shallow = subst (λ (n : ℕ). n ≤ most_levels) (sym (same_depth c (doc (fields_of d))) ∙ ap (λ (fs : Fields). depth (doc fs)) (same_fields c d)) is.shallow;
  }
