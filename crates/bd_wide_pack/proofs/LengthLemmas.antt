-- What is written of a document with the same values is no longer.
use Rattle.std.proofs.Common.{◌≡◌, ◌≤◌, ℕ, suc, ◌+◌, ℤ, List, [], ◌∷◌, ◌++◌, length, refl, sym, ap, ◌∙◌, subst, arith, length-append, decimal}
use Rattle.std.specs.Prelude.{unsigned_abs}
use Rattle.bd_value.specs.Tree as trees
use Rattle.bd_value.specs.Tree.{Doc, Fields, Items, Scalar, Tree, code_scope, depth, doc, field, fields_depth, fields_of, fields_of-pairs_of, item, items_depth, leaf, no_fields, no_items, pairs_of}
use Rattle.bd_bson_view.specs.Unique.{number_length}
use Rattle.bd_bson_view.specs.Spelling.{IsNumber, IsValuedScalar, NumberKind, as_decimal128, as_double, as_int32, as_int64, framed, number, number_byte, number_size, number_type, scoped, string, written_typed}
use Rattle.bd_wide_dump.specs.declared.format.JsonFormat.{JsonFormat}
use Rattle.bd_wide_dump.specs.declared.format.JsonFormat.TheVariants.{Canonical, Relaxed}
use Rattle.bd_wide_dump.specs.Raw.{raw}
use Rattle.bd_wide_pack.specs.SameValues.{HasSameValues, HaveSameValues, IsSameScalar, ItemsHaveSameValues, MayBecome}
use Rattle.bd_wide_pack.specs.Written.{AreFieldsWritten, AreItemsWritten, IsWritten}
use Rattle.bd_wide_pack.proofs.NumberByteLemmas.{}

-- ---- how many bytes are written

same_size : (k j : NumberKind) (v w : List ℕ) → raw (number_type k) v ≡ raw (number_type j) w → number_size k ≡ number_size j
unfolding raw
same_size as_double as_double v w e = refl
same_size as_int32 as_int32 v w e = refl
same_size as_int64 as_int64 v w e = refl
same_size as_decimal128 as_decimal128 v w e = refl
same_size k j v w e = absurd (omega (arith, ap unsigned_abs e))

smaller_type : (format : JsonFormat) (k j : NumberKind) → MayBecome format k j → number_size j ≤ number_size k
smaller_type Relaxed as_int64 as_int32 h = omega arith
smaller_type Relaxed k j h = omega (arith, ap number_size h)
smaller_type Canonical k j h = omega (arith, ap number_size h)

number_length_is : (z : ℤ) (bytes : List ℕ) (kind : NumberKind) (value : List ℕ) → IsNumber raw z bytes → z ≡ raw (number_type kind) value → length bytes ≡ number_size kind + 1
number_length_is z bytes kind value n is =
    omega (arith, ap length n.typed, n.sized, same_size n.kind kind n.value value (n.is_worth ∙ is))

-- a scalar after its type and name
scalar_shorter : (format : JsonFormat) (s r : Scalar) (a b : List ℕ) → IsSameScalar format s r → IsValuedScalar raw s a → IsValuedScalar raw r b → length b ≤ length a
scalar_shorter format (trees.int32 z) r a b h f g = absurd f
scalar_shorter format (trees.int64 z) r a b h f g =
    let e : trees.int64 z ≡ trees.int64 (raw (number_type h.kind) h.value) = h.before.is in
    let is : z ≡ raw (number_type h.kind) h.value = cc in
    let there : IsNumber raw (raw (number_type h.other) h.given) b = subst (λ (x : Scalar). IsValuedScalar raw x b) h.after.is g in
    omega (arith, number_length_is z a h.kind h.value f is, number_length_is _ b h.other h.given there refl, smaller_type format h.kind h.other h.typed)
scalar_shorter format s r a b h f g = let there = subst (λ (x : Scalar). IsValuedScalar raw x b) (sym h) g in omega (arith, ap length f.1, ap length there.1)

-- how many bytes an element has before its value and without its name
abbrev before_value : Tree → ℕ
before_value (leaf (trees.int64 z)) = 1
before_value t = 2

before_value_same : (format : JsonFormat) (t u : Tree) → HasSameValues format t u → before_value t ≡ before_value u
before_value_same format (leaf (trees.int64 z)) (leaf r) h = ap (λ (x : Scalar). before_value (leaf x)) (sym h.after.is)
before_value_same format (leaf s) (leaf r) h = ap (λ (x : Scalar). before_value (leaf x)) h
before_value_same format (doc fs) (doc gs) h = refl
before_value_same format (trees.array ts) (trees.array us) h = refl
before_value_same format (code_scope s fs) (code_scope r gs) h = refl
before_value_same format t u h = absurd h

element_size : (t : Tree) (name v : List ℕ) → IsWritten t v → length (written_typed t name v) ≡ length name + before_value t + length v
element_size (leaf (trees.int64 z)) name [] n = absurd (let e : [] ≡ number_byte n.kind ∷ n.value = n.typed in cc)
element_size (leaf (trees.int64 z)) name (type ∷ v) n = omega (arith, length-append name (0 ∷ v))
element_size t name v n = omega (arith, length-append name (0 ∷ v))

framed_size : (body : List ℕ) → length (framed body) ≡ length body + 5
framed_size body = omega (arith, length-append (number (length body + 5)) (body ++ 0 ∷ []), length-append body (0 ∷ []), number_length (length body + 5))

scoped_size : (code scope : List ℕ) → length (scoped code scope) ≡ length (string code) + length scope + 4
scoped_size code scope =
    omega (arith, length-append (number (length (string code ++ scope) + 4)) (string code ++ scope), length-append (string code) scope, number_length (length (string code ++ scope) + 4))

mutual
  -- what is written of the other value is no longer
  pub shorter : (format : JsonFormat) (t u : Tree) (a b : List ℕ) → HasSameValues format t u → IsWritten t a → IsWritten u b → length b ≤ length a
  shorter format (leaf s) (leaf r) a b h f g = scalar_shorter format s r a b h f g
  shorter format (doc fs) (doc gs) a b h f g =
      omega (arith, ap length f.2, ap length g.2, framed_size f.0, framed_size g.0, fields_shorter format fs gs f.0 g.0 h f.1 g.1)
  shorter format (trees.array ts) (trees.array us) a b h f g =
      omega (arith, ap length f.2, ap length g.2, framed_size f.0, framed_size g.0, items_shorter format 0 ts us f.0 g.0 h f.1 g.1)
  shorter format (code_scope s fs) (code_scope r gs) a b h f g =
      omega (
        arith,
        ap length f.2,
        ap length g.2,
        scoped_size s (framed f.0),
        scoped_size r (framed g.0),
        ap (λ (x : List ℕ). length (string x)) h.0,
        framed_size f.0,
        framed_size g.0,
        fields_shorter format fs gs f.0 g.0 h.1 f.1 g.1,
      )
  shorter format t u a b h f g = absurd h

  fields_shorter : (format : JsonFormat) (fs gs : Fields) (a b : List ℕ) → HaveSameValues format fs gs → AreFieldsWritten fs a → AreFieldsWritten gs b → length b ≤ length a
  fields_shorter format no_fields no_fields a b h f g = omega (arith, ap length f, ap length g)
  fields_shorter format (field n t fs) (field m u gs) a b h f g =
      omega (
        arith,
        ap length f.5,
        ap length g.5,
        length-append (written_typed t n f.0) f.1,
        length-append (written_typed u m g.0) g.1,
        element_size t n f.0 f.3,
        element_size u m g.0 g.3,
        before_value_same format t u h.1,
        ap length h.0,
        shorter format t u f.0 g.0 h.1 f.3 g.3,
        fields_shorter format fs gs f.1 g.1 h.2 f.4 g.4,
      )
  fields_shorter format fs gs a b h f g = absurd h

  items_shorter : (format : JsonFormat) (index : ℕ) (ts us : Items) (a b : List ℕ) → ItemsHaveSameValues format ts us → AreItemsWritten index ts a → AreItemsWritten index us b → length b ≤ length a
  items_shorter format index no_items no_items a b h f g = omega (arith, ap length f, ap length g)
  items_shorter format index (item t ts) (item u us) a b h f g =
      omega (
        arith,
        ap length f.4,
        ap length g.4,
        length-append (written_typed t (decimal index) f.0) f.1,
        length-append (written_typed u (decimal index) g.0) g.1,
        element_size t (decimal index) f.0 f.2,
        element_size u (decimal index) g.0 g.2,
        before_value_same format t u h.0,
        shorter format t u f.0 g.0 h.0 f.2 g.2,
        items_shorter format (suc index) ts us f.1 g.1 h.1 f.3 g.3,
      )
  items_shorter format index ts us a b h f g = absurd h
