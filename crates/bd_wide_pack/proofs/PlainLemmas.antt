-- A document of nineteen types as one of all types: each int32 and int64 keeps its type and its bits.
use Rattle.std.proofs.Common.{◌≡◌, inl, List, [], ◌++◌, ℕ, suc, decimal, refl, sym, ap}
use Rattle.bd_value.specs.Tree.{Tree, leaf, doc, array, code_scope, Items, no_items, item, Fields, no_fields, field, Doc, fields_of}
use Rattle.bd_bson_view.specs.Spelling.{element, scalar_bytes, IsValue, AreFields, AreItems, IsDocument, written_typed}
use Rattle.bd_bson_write.specs.TreeBytes.{bytes_of, fields_bytes, items_bytes}
use Rattle.bd_extjson_pack.specs.Packable.{plain}
use Rattle.bd_wide_pack.specs.Filled.{kept, IsFilled, AreFilled, AreItemsFilled}
use Rattle.bd_wide_pack.specs.WideLine.{IsMixed}
use Rattle.bd_wide_pack.specs.Written.{AreFieldsWritten, AreItemsWritten, IsWritten}
use Rattle.bd_wide_pack.proofs.MixLemmas.{kept_value}

abbrev mutual
  kept_tree : Tree → Tree
  kept_tree (leaf s) = leaf (kept s)
  kept_tree (doc fs) = doc (kept_fields fs)
  kept_tree (array is) = array (kept_items is)
  kept_tree (code_scope s fs) = code_scope s (kept_fields fs)

  kept_fields : Fields → Fields
  kept_fields no_fields = no_fields
  kept_fields (field n t fs) = field n (kept_tree t) (kept_fields fs)

  kept_items : Items → Items
  kept_items no_items = no_items
  kept_items (item t is) = item (kept_tree t) (kept_items is)

-- the bytes of a value of nineteen types are written for it as one of all types, in the same element
abbrev By : Tree → Type 0
By t = (w : List ℕ) × IsWritten (kept_tree t) w × ((name : List ℕ) → element t name (bytes_of t) ≡ written_typed (kept_tree t) name w)

mutual
  value_by : (t : Tree) (value : List ℕ) → IsValue t value → By t
  value_by (leaf s) value h = let k = kept_value s (scalar_bytes s) (h.0, refl) in (k.value, k.spells, λ name. sym (k.whole name))
  value_by (doc fs) value h = (bytes_of (doc fs), (fields_bytes fs, fields_by fs h.0 h.1, refl), (λ name. refl))
  value_by (array is) value h = (bytes_of (array is), (items_bytes 0 is, items_by 0 is h.0 h.1, refl), (λ name. refl))
  value_by (code_scope s fs) value h = (bytes_of (code_scope s fs), (fields_bytes fs, fields_by fs h.0 h.1, refl, h.3), (λ name. refl))

  fields_by : (fs : Fields) (bytes : List ℕ) → AreFields fs bytes → AreFieldsWritten (kept_fields fs) (fields_bytes fs)
  fields_by no_fields bytes h = refl
  fields_by (field name t fs) bytes h = let v = value_by t h.0 h.3 in
      (v.0, fields_bytes fs, h.2, v.1, fields_by fs h.1 h.4, ap (λ (x : List ℕ). x ++ fields_bytes fs) (v.2 name))

  items_by : (index : ℕ) (is : Items) (bytes : List ℕ) → AreItems is bytes → AreItemsWritten index (kept_items is) (items_bytes index is)
  items_by index no_items bytes h = refl
  items_by index (item t is) bytes h = let v = value_by t h.1 h.4 in
      (v.0, items_bytes (suc index) is, v.1, items_by (suc index) is h.2 h.5, ap (λ (x : List ℕ). x ++ items_bytes (suc index) is) (v.2 (decimal index)))

mutual
  value_filled : (t : Tree) → IsFilled (kept_tree t) t t [] []
  value_filled (leaf s) = inl (record { scalar = s; is = refl; in_whole = refl; in_text = refl; none = refl })
  value_filled (doc fs) = (fs, fs, refl, refl, fields_filled fs)
  value_filled (array is) = (is, is, refl, refl, items_filled is)
  value_filled (code_scope s fs) = (fs, fs, refl, refl, fields_filled fs)

  fields_filled : (fs : Fields) → AreFilled (kept_fields fs) fs fs [] []
  fields_filled no_fields = (refl, refl, refl)
  fields_filled (field n t fs) = (t, t, fs, fs, [], refl, refl, value_filled t, fields_filled fs)

  items_filled : (is : Items) → AreItemsFilled (kept_items is) is is [] []
  items_filled no_items = (refl, refl, refl)
  items_filled (item t is) = (t, t, is, is, [], refl, refl, value_filled t, items_filled is)

-- a document without such numbers is one of all types
pub plain_mixed : (d : Doc) → IsDocument d (plain d) → IsMixed d d [] (plain d)
plain_mixed d is = record {
  fields = kept_fields (fields_of d);
  filled = fields_filled (fields_of d);
  written = (fields_bytes (fields_of d), fields_by (fields_of d) is.spells.0 is.spells.1, refl);
}
