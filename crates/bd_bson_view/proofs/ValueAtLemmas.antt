-- A value that is spelled at the start of bytes can be read there without a check, and no text in it is longer than its bytes.
use Rattle.std.proofs.Common.{◌≡◌, ℕ, ◌+◌, ◌≤◌, ◌<◌, ◌^◌, true, List, [], ◌∷◌, ◌++◌, length, sym, ap, ◌∙◌, subst, append_assoc, arith, Bool, false, Some, refl}
use Rattle.std.specs.Prelude.{IsUtf8, ◌==◌}
use Rattle.std.proofs.lemmas.List.{length-append}
use Rattle.std.proofs.lemmas.Bool.Decides.{nat_tests}
use Rattle.bd_value.specs.Limits.{longest_document}
use Rattle.bd_value.specs.Tree as trees
use Rattle.bd_value.specs.Tree.{Scalar, Tree, leaf, doc, array, code_scope, Leaf, scalar_leaf, code_leaf, leaf_of}
use Rattle.bd_value.specs.View.{scalar_kind, kind_of}
use Rattle.bd_value.specs.declared.node.Kind.{Kind}
use Rattle.bd_bson_view.specs.Spelling.{number, string, data_of, scoped, framed, IsName, IsText, IsScalar, IsValue, LeafIsShort}
use Rattle.bd_bson_view.specs.Sizes.{number_of, after_name, size_of, TextAt, NameAt, BinaryAt, HasBytesOf}
use Rattle.bd_bson_view.specs.Unique.{number_length, number_prefix, zero_offset, name_prefix, name_after, string_length, string_number, string_text, binary_count}
use Rattle.bd_bson_view.specs.Unique.{binary_subtype, regex_whole, scalar_size, same_kind, framed_after}
use Rattle.bd_bson_view.specs.Sound.{Sound, extent, extent_is, meaning, meaning_is}

-- a `string` can be read where it is spelled
pub text_reads : (s rest : List ℕ) → IsText s → TextAt (string s ++ rest)
text_reads s rest h = record {
  some = omega (arith, string_number s rest h.1);
  inside = omega (arith, string_number s rest h.1, length-append (string s) rest, string_length s);
  utf8 = subst IsUtf8 (sym (string_text s rest h.1)) h.0;
}

-- a `cstring` can be read where it is spelled
pub name_reads : (name rest : List ℕ) → IsName name → NameAt (name ++ 0 ∷ rest)
name_reads name rest h = record {
  inside = omega (arith, zero_offset name rest h.1, length-append name (0 ∷ rest));
  utf8 = subst IsUtf8 (sym (name_prefix name rest h)) h.0;
}

data_length : (k : ℕ) (s : List ℕ) → (k == 2) ≡ true → length (data_of k s) ≡ 4 + length s
data_length k s two = rw two (omega (arith, length-append (number (length s)) s, number_length (length s)))

binary_reads : (k : ℕ) (s r : List ℕ) → length (data_of k s) < 2 ^ 31 → BinaryAt ((number (length (data_of k s)) ++ k ∷ data_of k s) ++ r)
binary_reads k s r lt =
    let count = binary_count k (data_of k s) r lt in
    let head = number (length (data_of k s)) in
    record {
      inside = omega (arith, count, length-append (head ++ k ∷ data_of k s) r, length-append head (k ∷ data_of k s), number_length (length (data_of k s)));
      inner = λ is. let two : (k == 2) ≡ true = let e = sym (binary_subtype k (data_of k s) r) ∙ is in grind (arith, nat_tests) in omega (arith, count, data_length k s two);
    }

-- there are as many bytes as its size says
sized : (a : Scalar) (v r : List ℕ) → IsScalar a v → size_of (scalar_kind a) (v ++ r) ≤ length (v ++ r)
sized a v r h = omega (arith, scalar_size a v r h, length-append v r)

-- a scalar can be read where it is spelled
pub scalar_reads : (a : Scalar) (v r : List ℕ) → IsScalar a v → HasBytesOf (scalar_kind a) (v ++ r)
scalar_reads (trees.text s) v r h = subst (λ (x : List ℕ). TextAt (x ++ r)) (sym h.1) (text_reads s r h.0)
scalar_reads (trees.symbol s) v r h = subst (λ (x : List ℕ). TextAt (x ++ r)) (sym h.1) (text_reads s r h.0)
scalar_reads (trees.code s) v r h = subst (λ (x : List ℕ). TextAt (x ++ r)) (sym h.1) (text_reads s r h.0)
scalar_reads (trees.db_pointer s id) v r h =
    let whole : v ++ r ≡ string s ++ (id ++ r) = ap (λ (x : List ℕ). x ++ r) h.1 ∙ append_assoc (string s) id r in
    (subst TextAt (sym whole) (text_reads s (id ++ r) h.0.0), omega (arith, sized (trees.db_pointer s id) v r h))
scalar_reads (trees.binary k s) v r h = subst (λ (x : List ℕ). BinaryAt (x ++ r)) (sym h.1) (binary_reads k s r h.0.1)
scalar_reads (trees.regex p o) v r h =
    let whole : v ++ r ≡ p ++ 0 ∷ (o ++ 0 ∷ r) = ap (λ (x : List ℕ). x ++ r) h.1 ∙ regex_whole p o r in
    let after : after_name (v ++ r) ≡ o ++ 0 ∷ r = ap after_name whole ∙ name_after p (o ++ 0 ∷ r) h.0.0 in
    (subst NameAt (sym whole) (name_reads p (o ++ 0 ∷ r) h.0.0), subst NameAt (sym after) (name_reads o r h.0.1))
scalar_reads a v r h = sized a v r h

-- ---- sizes

-- a document takes five bytes more than its elements
pub framed_length : (body : List ℕ) → length (framed body) ≡ length body + 5
framed_length body = omega (arith, length-append (number (length body + 5)) (body ++ 0 ∷ []), number_length (length body + 5), length-append body (0 ∷ []))

-- code with scope takes four bytes more than its code and its scope
pub scoped_length : (s d : List ℕ) → length (scoped s d) ≡ length (string s ++ d) + 4
scoped_length s d = omega (arith, length-append (number (length (string s ++ d) + 4)) (string s ++ d), number_length (length (string s ++ d) + 4))

-- the length that a document states counts all of its bytes
pub framed_size : (body v r : List ℕ) → v ≡ framed body → length v ≤ longest_document → number_of (v ++ r) ≡ length v
framed_size body v r e short =
    let len : length v ≡ length body + 5 = ap length e ∙ framed_length body in
    ap (λ (x : List ℕ). number_of (x ++ r)) e ∙ ap number_of (framed_after body r) ∙ number_prefix (length body + 5) (body ++ 0 ∷ r) (omega arith) ∙ sym len

-- the length that code with scope states counts all of its bytes
pub scoped_size : (s d v r : List ℕ) → v ≡ scoped s d → length v ≤ longest_document → number_of (v ++ r) ≡ length v
scoped_size s d v r e short =
    let n = length (string s ++ d) + 4 in
    let len : length v ≡ length (string s ++ d) + 4 = ap (λ (x : List ℕ). length x) e ∙ scoped_length s d in
    ap (λ (x : List ℕ). number_of (x ++ r)) e ∙ ap number_of (append_assoc (number (length (string s ++ d) + 4)) (string s ++ d) r)
    ∙ number_prefix (length (string s ++ d) + 4) ((string s ++ d) ++ r) (omega arith) ∙ sym len

size_is : (t : Tree) (v r : List ℕ) → IsValue t v → length v ≤ longest_document → size_of (kind_of t) (v ++ r) ≡ length v
size_is (leaf a) v r h short = scalar_size a v r h
size_is (doc fs) v r h short = framed_size h.0 v r h.2 short
size_is (array ts) v r h short = framed_size h.0 v r h.2 short
size_is (code_scope s fs) v r h short = scoped_size s (framed h.0) v r h.2 short

value_reads : (t : Tree) (v r : List ℕ) → IsValue t v → HasBytesOf (kind_of t) (v ++ r)
value_reads (leaf a) v r h = scalar_reads a v r h
value_reads (code_scope s fs) v r h = omega (arith, length-append v r, ap (λ (x : List ℕ). length x) h.2, scoped_length s (framed h.0))
value_reads (doc fs) v r h = omega (arith, length-append v r, ap (λ (x : List ℕ). length x) h.2, framed_length h.0)
value_reads (array ts) v r h = omega (arith, length-append v r, ap (λ (x : List ℕ). length x) h.2, framed_length h.0)

-- the value at the start of bytes is of the stated kind
pub kind_is : (kind : Kind) (bytes : List ℕ) (s : Sound kind bytes) → kind_of s.tree ≡ kind
kind_is kind bytes s = same_kind (kind_of s.tree) kind s.begins.typed

-- if a value is there, all bytes that a read of it needs are there
pub reads_at : (kind : Kind) (bytes : List ℕ) (s : Sound kind bytes) → HasBytesOf kind bytes
reads_at kind bytes s = subst (HasBytesOf kind) (sym s.begins.splits)
    (subst (λ (k : Kind). HasBytesOf k (s.begins.value ++ s.begins.after)) (kind_is kind bytes s) (value_reads s.tree s.begins.value s.begins.after s.begins.spells))

-- the size that bytes state is that of the value there
pub size_at : (kind : Kind) (bytes : List ℕ) (s : Sound kind bytes) → size_of kind bytes ≡ extent s
size_at kind bytes s = ap (size_of kind) s.begins.splits
    ∙ ap (λ (k : Kind). size_of k (s.begins.value ++ s.begins.after)) (sym (kind_is kind bytes s))
    ∙ size_is s.tree s.begins.value s.begins.after s.begins.spells s.begins.short ∙ sym (extent_is s s)

-- ---- texts and the bytes that they take

payload_short : (k : ℕ) (s : List ℕ) (b : Bool) → (k == 2) ≡ b → length s ≤ length (data_of k s)
payload_short k s true is = rw is (omega (arith, length-append (number (length s)) s))
payload_short k s false is = rw is (omega arith)

scalar_short : (a : Scalar) (v : List ℕ) → IsScalar a v → length v ≤ longest_document → LeafIsShort (scalar_leaf a)
scalar_short (trees.text s) v h short = omega (arith, ap length h.1, string_length s)
scalar_short (trees.symbol s) v h short = omega (arith, ap length h.1, string_length s)
scalar_short (trees.code s) v h short = omega (arith, ap length h.1, string_length s)
scalar_short (trees.db_pointer s id) v h short = omega (arith, ap length h.1, length-append (string s) id, string_length s)
scalar_short (trees.regex p o) v h short =
    let size : length v ≡ length p + (1 + (length o + 1)) = omega (arith, ap length h.1, length-append p (0 ∷ (o ++ 0 ∷ [])), length-append o (0 ∷ [])) in
    (omega (arith, size), omega (arith, size))
scalar_short (trees.binary k s) v h short =
    omega (arith, payload_short k s (k == 2) refl, ap length h.1, length-append (number (length (data_of k s))) (k ∷ data_of k s))
scalar_short _ v h short = tt

value_short : (t : Tree) (v : List ℕ) → IsValue t v → length v ≤ longest_document → (o : Leaf) → leaf_of t ≡ Some o → LeafIsShort o
value_short (leaf a) v h short o is = let same : scalar_leaf a ≡ o = cc in subst LeafIsShort same (scalar_short a v h short)
value_short (code_scope s fs) v h short o is =
    let same : code_leaf s ≡ o = cc in
    subst LeafIsShort same (omega (arith, ap length h.2, scoped_length s (framed h.0), length-append (string s) (framed h.0), string_length s))
value_short _ v h short o is = absurd cc

pub leaf_short : (kind : Kind) (bytes : List ℕ) (s : Sound kind bytes) (o : Leaf) → leaf_of (meaning s) ≡ Some o → LeafIsShort o
leaf_short kind bytes s o is = value_short s.tree s.begins.value s.begins.spells s.begins.short o (sym (ap leaf_of (meaning_is s s)) ∙ is)
