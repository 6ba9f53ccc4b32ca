-- Bytes that begin with a value, or with the elements of a document; and a value at an offset of bytes.
use Rattle.std.specs.Prelude.{◌≡◌, ◌≤◌, ℕ, List, ◌∷◌, ◌++◌, length, drop}
use Rattle.std.proofs.Common.{sym, ap, ◌∙◌}
use Rattle.std.specs.Coded.{Coded-set, coded_ℕ, le_prop}
use mathlib.Core.HLevel.{is_prop→PathP}
use Rattle.bd_value.specs.{Limits.longest_document, View.kind_of, declared.node.Kind.Kind}
use Rattle.bd_value.specs.Tree.{Tree, Fields, Doc, pairs_of}
use Rattle.bd_bson_view.specs.{declared.views.At.At, Spelling.type_byte, Spelling.IsValue, Spelling.AreFields}
use Rattle.bd_bson_view.specs.Unique.{same_kind, values, fields, value_prop, fields_prop, same_bytes, cancel, over_path}

-- The bytes begin with this value, which has this type byte, and is no longer than a document may be;
-- other bytes may follow.
pub record Begins (type : ℕ) (bytes : List ℕ) (tree : Tree) : Type 0 where
  pub value : List ℕ
  pub after : List ℕ
  pub spells : IsValue tree value
  pub typed : type_byte (kind_of tree) ≡ type
  pub splits : bytes ≡ value ++ after
  pub short : length value ≤ longest_document

-- bytes begin with one tree at most, and in one way at most
one : {type : ℕ} {bytes : List ℕ} {t u : Tree} (p : Begins type bytes t) (q : Begins type bytes u)
    → (t ≡ u) × (p.value ≡ q.value) × (p.after ≡ q.after)
one {t = t} {u = u} p q = let h = sym p.splits ∙ q.splits in
    let k = same_kind (kind_of t) (kind_of u) (p.typed ∙ sym q.typed) in
    let e = values t u p.value q.value p.after q.after p.spells q.spells k h in
    (e.0, e.1, cancel p.value q.value p.after q.after e.1 h)

pub Begins-prop : (type : ℕ) (bytes : List ℕ) (t : Tree) → IsProp (Begins type bytes t)
Begins-prop type bytes t p q = let e = one p q in
    λ i. record {
      value = e.1 i;
      after = e.2 i;
      spells = over_path (IsValue t) (value_prop t) e.1 p.spells q.spells i;
      typed = Coded-set coded_ℕ (type_byte (kind_of t)) type p.typed q.typed i;
      splits = is_prop→PathP (λ k. bytes ≡ e.1 k ++ e.2 k) (λ k. same_bytes bytes (e.1 k ++ e.2 k)) p.splits q.splits i;
      short = over_path (λ (v : List ℕ). length v ≤ longest_document) (λ v. le_prop) e.1 p.short q.short i;
    }

-- The bytes begin with a well-formed value of this kind, whatever follows it: what a checked view guarantees.
pub record Sound (kind : Kind) (bytes : List ℕ) : Type 0 where
  pub tree : Tree
  pub begins : Begins (type_byte kind) bytes tree

pub Sound-prop : (kind : Kind) (bytes : List ℕ) → IsProp (Sound kind bytes)
Sound-prop kind bytes p q = let type = type_byte kind in let e = (one p.begins q.begins).0 in
    λ i. record { tree = e i; begins = over_path (Begins type bytes) (Begins-prop type bytes) e p.begins q.begins i }

-- The bytes begin with elements of a document and the zero after them; other bytes may follow.
pub record Remaining (bytes : List ℕ) : Type 0 where
  pub fields : Fields
  pub body : List ℕ
  pub after : List ℕ
  pub spell : AreFields fields body
  pub splits : bytes ≡ body ++ 0 ∷ after
  pub short : length body ≤ longest_document

pub Remaining-prop : (bytes : List ℕ) → IsProp (Remaining bytes)
Remaining-prop bytes p q = let h : p.body ++ 0 ∷ p.after ≡ q.body ++ 0 ∷ q.after = sym p.splits ∙ q.splits in
    let e = fields p.fields q.fields p.body q.body p.after q.after p.spell q.spell h in
    let zero_after : 0 ∷ p.after ≡ 0 ∷ q.after = cancel p.body q.body (0 ∷ p.after) (0 ∷ q.after) e.1 h in
    let a : p.after ≡ q.after = cc in
    λ i. record {
      fields = e.0 i;
      body = e.1 i;
      after = a i;
      spell = is_prop→PathP (λ k. AreFields (e.0 k) (e.1 k)) (λ k. fields_prop (e.0 k) (e.1 k)) p.spell q.spell i;
      splits = is_prop→PathP (λ k. bytes ≡ e.1 k ++ 0 ∷ a k) (λ k. same_bytes bytes (e.1 k ++ 0 ∷ a k)) p.splits q.splits i;
      short = over_path (λ (b : List ℕ). length b ≤ longest_document) (λ b. le_prop) e.1 p.short q.short i;
    }

-- the value at the start of the bytes; it does not unfold, so that a proof may leave the value to be found
unfoldable pub meaning : {kind : Kind} {bytes : List ℕ} → Sound kind bytes → Tree
meaning s = s.tree

-- how many bytes the value at the start takes
unfoldable pub extent : {kind : Kind} {bytes : List ℕ} → Sound kind bytes → ℕ
extent s = length s.begins.value

-- the elements at the start of the bytes, as fields
unfoldable pub elements_remaining : {bytes : List ℕ} → Remaining bytes → Doc
elements_remaining s = pairs_of s.fields

-- any two proofs that bytes begin with a value of a kind name the same value
pub meaning_is : {kind : Kind} {bytes : List ℕ} (s t : Sound kind bytes) → meaning s ≡ t.tree
unfolding meaning
meaning_is {kind} {bytes} s t = ap (λ (x : Sound kind bytes). x.tree) (Sound-prop kind bytes s t)

-- any two proofs that bytes begin with a value of a kind give that value the same number of bytes
pub extent_is : {kind : Kind} {bytes : List ℕ} (s t : Sound kind bytes) → extent s ≡ length t.begins.value
unfolding extent
extent_is {kind} {bytes} s t = ap (λ (x : Sound kind bytes). length x.begins.value) (Sound-prop kind bytes s t)

-- any two proofs that bytes begin with the elements of a document name the same elements
pub remaining_is : {bytes : List ℕ} (s t : Remaining bytes) → elements_remaining s ≡ pairs_of t.fields
unfolding elements_remaining
remaining_is {bytes} s t = ap (λ (x : Remaining bytes). pairs_of x.fields) (Remaining-prop bytes s t)

-- ---- values at offsets

-- From the offset of `at` on, the bytes begin with this value, which has its type.
abbrev pub IsAt : List ℕ → At → Tree → Type 0
IsAt bytes at tree = (at.start ≤ length bytes) × Begins at.kind (drop at.start bytes) tree

-- From the offset of `at` on, the bytes begin with some value of its type.
abbrev pub IsPlace : List ℕ → At → Type 0
IsPlace bytes at = (tree : Tree) × IsAt bytes at tree

-- at one offset there is at most one value of a type
pub one_is_at : (bytes : List ℕ) (at : At) (t u : Tree) → IsAt bytes at t → IsAt bytes at u → t ≡ u
one_is_at bytes at t u p q = (one p.1 q.1).0

pub IsAt-prop : (bytes : List ℕ) (at : At) (t : Tree) → IsProp (IsAt bytes at t)
IsAt-prop bytes at t = Prim.hlevel (le_prop, Begins-prop)
