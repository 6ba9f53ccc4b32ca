-- Bytes that are skipped without a fault under all types spell a tree by value, and the other way round.
use Rattle.std.proofs.Common.{◌≡◌, ℕ, zero, suc, ◌+◌, ◌-◌, ◌<◌, ◌≤◌, ℤ, Bool, true, false, cond, ltb, List, [], ◌∷◌, ◌++◌, length}
use Rattle.std.proofs.Common.{Option, Some, None, Ok, refl, sym, ap, subst, ◌∙◌, append_assoc, arith, codes, option_map}
use Rattle.std.specs.{Option.ok_or}
use Rattle.std.proofs.lemmas.Bool.{ltb-false}
use Rattle.std.proofs.lemmas.List.{length-append, append-nil, nil_from_length}
use Rattle.bd_value.specs.Tree as trees
use Rattle.bd_value.specs.Tree.{Scalar, Tree, leaf, doc, array, code_scope, Fields, no_fields, field, Items, Doc, fields_of, pairs_of, fields_of-pairs_of}
use Rattle.bd_value.specs.{View.kind_of, View.scalar_kind, declared.node.Kind.Kind}
use Rattle.bd_value.specs.declared.node.Kind.TheVariants as kinds
use Rattle.bd_bson_view.specs.{declared.raw_parts.Holder.Holder, declared.raw_parts.ElementType.ElementType}
use Rattle.bd_bson_view.specs.declared.raw_parts.ElementType.TheVariants as types
use Rattle.bd_bson_view.specs.declared.raw_parts.Holder.TheVariants as holders
use Rattle.bd_bson_view.specs.Spelling.{number, string, scoped, framed, element, type_byte, type_at, is_holder, IsName, IsText, IsValue, depth, fields_depth}
use Rattle.bd_bson_view.specs.Spelling.{IsScalar, IsValuedScalar, IsValueBy, AreFieldsBy, IsDocumentBy, valued, written_typed, IsNumber, NumberKind, as_double, as_int32, as_int64, as_decimal128, number_type, number_byte, number_size}
use Rattle.bd_bson_check.specs.Fault.{Fault}
use Rattle.bd_bson_check.specs.declared.profile.Profile.TheVariants.{All}
use Rattle.bd_bson_check.specs.declared.fault.FaultKind.TheVariants.{UnknownType, NameUnended}
use Rattle.bd_bson_check.specs.FirstFault.{within, label, skip_name, skip_string, skip_frame, skip_fixed, skip_code_frame, skip_value, skip_typed, skip_element, skip_elements, skip_body, skip_code_scope, skip_nested, skip_document, Nested}
use Rattle.bd_bson_check.proofs.FirstFaultLemmas.{IsBytes, TakesValue, byte_stated, document_skipped, document_spelled, element_again, fixed_again, fixed_takes, refused, scalar_again, typed_again, value_takes}

module _ (worth : ElementType → List ℕ → ℤ) where
  abbrev is_number : Kind → Bool
  is_number kinds.Int32 = true
  is_number kinds.Int64 = true
  is_number _ = false

  -- a scalar that is no number is spelled by value as ever
  stays : (s : Scalar) (value : List ℕ) → is_number (scalar_kind s) ≡ false → IsScalar s value
      → IsValuedScalar worth s value × ((name : List ℕ) → written_typed (leaf s) name value ≡ element (leaf s) name value)
  stays (trees.int32 z) value n v = absurd cc
  stays (trees.int64 z) value n v = absurd cc
  stays s value n v = (v, (λ name. refl))

  plain : (kind : Kind) (q e : ℕ) (bytes rest : List ℕ) → IsBytes bytes → is_number kind ≡ false
      → skip_value refused kind q e bytes ≡ Ok rest → TakesValue (valued worth) 0 (types.Kept kind) bytes rest
  plain kind q e bytes rest fits counts is =
      let v = value_takes kind q e bytes rest fits is in
      let s = stays v.scalar v.value (ap is_number v.kinded ∙ counts) v.spells in
      record {
        tree = leaf v.scalar;
        value = v.value;
        after_name = v.value;
        spells = s.0;
        written = λ name. s.1 name ∙ ap (λ (k : Kind). type_byte k ∷ (name ++ 0 ∷ v.value)) v.kinded;
        takes = v.takes;
        shallow = omega arith;
      }

  counted : (k : NumberKind) (e : ℕ) (bytes rest : List ℕ) → IsBytes bytes → byte_stated (number_type k) ≡ number_byte k
      → skip_fixed (number_size k) e bytes ≡ Ok rest → TakesValue (valued worth) 0 (number_type k) bytes rest
  counted k e bytes rest fits byte is =
      let f = fixed_takes (number_size k) e bytes rest fits is in
      let z : ℤ = worth (number_type k) f.prefix in
      let n : IsNumber worth z (number_byte k ∷ f.prefix) = record { kind = k; value = f.prefix; typed = refl; sized = f.size; is_worth = refl } in
      record {
        tree = leaf (trees.int64 z);
        value = number_byte k ∷ f.prefix;
        after_name = f.prefix;
        spells = n;
        written = λ name. ap (λ (b : ℕ). b ∷ (name ++ 0 ∷ f.prefix)) (sym byte);
        takes = f.takes;
        shallow = omega arith;
      }

  scalar : (type : ElementType) (q e : ℕ) (bytes rest : List ℕ) → IsBytes bytes → skip_typed All refused type q e bytes ≡ Ok rest → TakesValue (valued worth) 0 type bytes rest
  scalar types.Double q e bytes rest fits is = counted as_double e bytes rest fits refl is
  scalar types.Decimal128 q e bytes rest fits is = counted as_decimal128 e bytes rest fits refl is
  scalar (types.Kept kinds.Int32) q e bytes rest fits is = counted as_int32 e bytes rest fits refl is
  scalar (types.Kept kinds.Int64) q e bytes rest fits is = counted as_int64 e bytes rest fits refl is
  scalar (types.Kept kind) q e bytes rest fits is = plain kind q e bytes rest fits refl is

  holder_written : (t : Tree) (name value : List ℕ) → is_holder (kind_of t) ≡ true → written_typed t name value ≡ element t name value
  holder_written (leaf (trees.int64 z)) name value is_one = absurd cc
  holder_written t name value is_one = refl

  -- a document without a fault under all types is spelled by the bytes, by value
  pub document_by_value : (e : ℕ) (bytes : List ℕ) → IsBytes bytes → skip_document All e bytes ≡ Ok tt → (d : Doc) × IsDocumentBy (valued worth) d bytes
  document_by_value = document_spelled All (valued worth) (record { scalar = scalar; holder = holder_written })

  -- ---- and those that spell a tree by value are skipped

  number_skipped : (k : NumberKind) (nested : Nested) (index : Option ℕ) (e : ℕ) (name value rest : List ℕ) → IsName name → length value ≡ number_size k
      → skip_element All nested index e ((number_byte k ∷ (name ++ 0 ∷ value)) ++ rest) ≡ Ok rest
  number_skipped as_double nested index e name value rest named size = typed_again All nested index e types.Double 1 name value rest refl named (λ q. fixed_again 8 e value rest size)
  number_skipped as_int32 nested index e name value rest named size = typed_again All nested index e (types.Kept kinds.Int32) 16 name value rest refl named (λ q. fixed_again 4 e value rest size)
  number_skipped as_int64 nested index e name value rest named size = typed_again All nested index e (types.Kept kinds.Int64) 18 name value rest refl named (λ q. fixed_again 8 e value rest size)
  number_skipped as_decimal128 nested index e name value rest named size = typed_again All nested index e types.Decimal128 19 name value rest refl named (λ q. fixed_again 16 e value rest size)

  counted_skipped : (z : ℤ) (nested : Nested) (index : Option ℕ) (e : ℕ) (name value rest : List ℕ) → IsName name → IsNumber worth z value
      → skip_element All nested index e (written_typed (leaf (trees.int64 z)) name value ++ rest) ≡ Ok rest
  counted_skipped z nested index e name value rest named h = rw h.typed (number_skipped h.kind nested index e name h.value rest named h.sized)

  -- a scalar that is no number is skipped as ever
  module _ (nested : Nested) (index : Option ℕ) (e : ℕ) (name value rest : List ℕ) (named : IsName name) where
    same_skipped : (s : Scalar) → IsScalar s value → skip_element All nested index e (element (leaf s) name value ++ rest) ≡ Ok rest
    same_skipped s h = element_again All nested index e (leaf s) name value rest named (λ q. scalar_again nested s q e value rest h)

    scalar_skipped : (s : Scalar) → IsValuedScalar worth s value → skip_element All nested index e (written_typed (leaf s) name value ++ rest) ≡ Ok rest
    scalar_skipped (trees.int32 z) h = absurd h
    scalar_skipped (trees.int64 z) h = counted_skipped z nested index e name value rest named h
    scalar_skipped s h = same_skipped s h

  scalar_written : (s : Scalar) (name value : List ℕ) → IsValuedScalar worth s value → 1 ≤ length (written_typed (leaf s) name value)
  scalar_written (trees.int32 z) name value h = absurd h
  scalar_written (trees.int64 z) name value h = rw h.typed (omega arith)
  scalar_written s name value h = omega arith

  -- the bytes of a document by value have no fault under all types
  pub document_by_value_again : (e : ℕ) (bytes : List ℕ) (d : Doc) → IsDocumentBy (valued worth) d bytes → skip_document All e bytes ≡ Ok tt
  document_by_value_again e bytes d h = document_skipped All (valued worth) (record {
    scalar = λ nested index e s name value rest named h. scalar_skipped nested index e name value rest named s h;
    some = scalar_written;
    holder = holder_written;
  }) e bytes d h
