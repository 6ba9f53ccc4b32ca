-- The elements of a document, one after another.
use Rattle.std.proofs.Common.{◌≡◌, ◌≢◌, ℕ, zero, suc, ◌+◌, ◌<◌, ◌≤◌, List, [], ◌∷◌, ◌++◌, length, drop, get_or, Some, refl, sym, ap, ap₂, subst, ◌∙◌, append_assoc, arith}
use Rattle.std.specs.Prelude.{slice_index_or, slice_get}
use Rattle.std.proofs.lemmas.List.{drop_at, length-append, length-drop, get_or-drop, drop-drop}
use Rattle.bd_value.specs.Limits.{longest_document}
use Rattle.bd_value.specs.Tree.{Tree, Fields, no_fields, field, Pair, Doc, pairs_of}
use Rattle.bd_value.specs.View.{kind_of}
use Rattle.bd_value.specs.declared.node.Kind.{Kind}
use Rattle.bd_bson_view.specs.declared.raw_parts.ElementType.TheVariants.{Kept}
use Rattle.bd_bson_view.specs.Spelling.{type_byte, type_at, IsName, IsValue, AreFields, element, IsShort}
use Rattle.bd_bson_view.specs.Sizes.{zero_at, name_of, NameAt}
use Rattle.bd_bson_view.specs.Unique.{zero_offset, name_prefix, byte_is_not_zero, type_is, element_after}
use Rattle.bd_bson_view.specs.Sound.{Sound, Remaining, meaning, extent, elements_remaining, meaning_is, extent_is, remaining_is}
use Rattle.bd_bson_view.proofs.ValueAtLemmas.{name_reads}

-- the first byte
pub head_at : (bytes : List ℕ) (at b : ℕ) (x : List ℕ) → drop at bytes ≡ b ∷ x → slice_index_or bytes at 0 ≡ b
head_at bytes at b x h =
    let e : at ≡ at + 0 = omega arith in
    ap (λ (k : ℕ). get_or bytes k 0) e ∙ sym (get_or-drop at bytes 0 0) ∙ ap (λ (y : List ℕ). get_or y 0 0) h

pub prefix_of_remaining : (bytes : List ℕ) (at : ℕ) (l : Remaining (drop at bytes)) → at < length bytes
prefix_of_remaining bytes at l =
    omega (arith, ap (λ (y : List ℕ). length y) l.splits, length-append l.body (0 ∷ l.after), length-drop at bytes)

-- the parts of the next element, if any
pub record Next (bytes : List ℕ) (at : ℕ) (remaining : Fields) : Type 0 where
  pub name : List ℕ
  pub tree : Tree
  pub others : Fields
  pub value : List ℕ
  pub rest : List ℕ
  pub after : List ℕ
  pub is : remaining ≡ field name tree others
  pub named : IsName name
  pub spells : IsValue tree value
  pub more : AreFields others rest
  pub splits : drop at bytes ≡ type_byte (kind_of tree) ∷ (name ++ 0 ∷ (value ++ (rest ++ 0 ∷ after)))
  pub name_short : IsShort name
  pub value_short : length value ≤ longest_document
  pub rest_short : length rest ≤ longest_document

split : (bytes : List ℕ) (at : ℕ) (fs : Fields) (body after : List ℕ) → AreFields fs body → drop at bytes ≡ body ++ 0 ∷ after
    → length body ≤ longest_document → slice_index_or bytes at 0 ≢ 0 → Next bytes at fs
split bytes at no_fields body after h splits short not_zero =
    absurd (not_zero (head_at bytes at 0 after (splits ∙ ap (λ (y : List ℕ). y ++ 0 ∷ after) h)))
split bytes at (field n t fs) body after h splits short not_zero =
    let size : length body ≡ 2 + length n + length h.0 + length h.1 = ap length h.5 ∙ omega (arith, length-append (element t n h.0) h.1, length-append n (0 ∷ h.0)) in
    record {
      name = n;
      tree = t;
      others = fs;
      value = h.0;
      rest = h.1;
      after = after;
      is = refl;
      named = h.2;
      spells = h.3;
      more = h.4;
      splits = splits ∙ element_after t n h.0 h.1 (0 ∷ after) body h.5;
      name_short = omega (arith, size);
      value_short = omega (arith, size);
      rest_short = omega (arith, size);
    }

pub next_of : (bytes : List ℕ) (at : ℕ) (l : Remaining (drop at bytes)) → slice_index_or bytes at 0 ≢ 0 → Next bytes at l.fields
next_of bytes at l not_zero = split bytes at l.fields l.body l.after l.spell l.splits l.short not_zero

ended : (bytes : List ℕ) (at : ℕ) (fs : Fields) (body after : List ℕ) → AreFields fs body → drop at bytes ≡ body ++ 0 ∷ after → slice_index_or bytes at 0 ≡ 0 → pairs_of fs ≡ []
ended bytes at no_fields body after h splits is_zero = refl
ended bytes at (field n t fs) body after h splits is_zero =
    absurd (byte_is_not_zero (kind_of t) (sym (head_at bytes at (type_byte (kind_of t)) _ (splits ∙ element_after t n h.0 h.1 (0 ∷ after) body h.5)) ∙ is_zero))

pub at_end : (bytes : List ℕ) (at : ℕ) (l : Remaining (drop at bytes)) → slice_index_or bytes at 0 ≡ 0 → elements_remaining l ≡ []
at_end bytes at l is_zero = remaining_is l l ∙ ended bytes at l.fields l.body l.after l.spell l.splits is_zero

module _ {bytes : List ℕ} {at : ℕ} {remaining : Fields} (s : Next bytes at remaining) where
  pub type_here : type_at (slice_index_or bytes at 0) ≡ Some (Kept (kind_of s.tree))
  type_here = ap type_at (head_at bytes at (type_byte (kind_of s.tree)) _ s.splits) ∙ type_is (kind_of s.tree)

  pub kind_here : (k : Kind) → type_at (slice_index_or bytes at 0) ≡ Some (Kept k) → kind_of s.tree ≡ k
  kind_here k is = let both = sym type_here ∙ is in cc

  tail_splits : drop (at + 1) bytes ≡ s.name ++ 0 ∷ (s.value ++ (s.rest ++ 0 ∷ s.after))
  tail_splits = sym (drop-drop 1 at bytes) ∙ ap (drop 1) s.splits

  pub name_at : (tail : List ℕ) → tail ≡ drop (at + 1) bytes → NameAt tail
  name_at tail t = subst NameAt (sym (t ∙ tail_splits)) (name_reads s.name (s.value ++ (s.rest ++ 0 ∷ s.after)) s.named)

  pub name_is : (tail : List ℕ) → tail ≡ drop (at + 1) bytes → name_of tail ≡ s.name
  name_is tail t = ap name_of (t ∙ tail_splits) ∙ name_prefix s.name (s.value ++ (s.rest ++ 0 ∷ s.after)) s.named

  pub name_ends : (tail : List ℕ) → tail ≡ drop (at + 1) bytes → zero_at tail ≡ length s.name
  name_ends tail t = ap zero_at (t ∙ tail_splits) ∙ zero_offset s.name (s.value ++ (s.rest ++ 0 ∷ s.after)) s.named.1

  pub value_splits : (k : ℕ) → k ≡ length s.name → drop (at + k + 2) bytes ≡ s.value ++ (s.rest ++ 0 ∷ s.after)
  value_splits k p =
      let others = s.value ++ (s.rest ++ 0 ∷ s.after) in
      let e : at + k + 2 ≡ (at + 1) + (k + 1) = omega arith in
      let len : length (s.name ++ 0 ∷ []) ≡ k + 1 = omega (arith, length-append s.name (0 ∷ [])) in
      rw (e, ← drop-drop (k + 1) (at + 1) bytes, tail_splits, ← append_assoc s.name (0 ∷ []) others) (drop_at (s.name ++ 0 ∷ []) others (k + 1) len)

  pub value_inside : (k : ℕ) → k ≡ length s.name → at + k + 2 ≤ length bytes
  value_inside k p =
      omega (arith, ap (λ (x : List ℕ). length x) (value_splits k p), length-drop (at + k + 2) bytes, length-append s.value (s.rest ++ 0 ∷ s.after), length-append s.rest (0 ∷ s.after))

  module _ (kind : Kind) (kinded : kind_of s.tree ≡ kind) where
    abbrev pub value_sound : (k : ℕ) → k ≡ length s.name → Sound kind (drop (at + k + 2) bytes)
    value_sound k p = record {
      tree = s.tree;
      begins = record {
        value = s.value;
        after = s.rest ++ 0 ∷ s.after;
        spells = s.spells;
        typed = ap type_byte kinded;
        splits = value_splits k p;
        short = s.value_short;
      };
    }

    pub after_splits : (k e : ℕ) (g : Sound kind (drop (at + k + 2) bytes)) → k ≡ length s.name → e ≡ (at + k + 2) + extent g → drop e bytes ≡ s.rest ++ 0 ∷ s.after
    after_splits k e g p q =
        let len : extent g ≡ length s.value = extent_is g (value_sound k p) in
        ap (λ (n : ℕ). drop n bytes) q ∙ sym (drop-drop (extent g) (at + k + 2) bytes) ∙ ap (drop (extent g)) (value_splits k p) ∙ drop_at s.value (s.rest ++ 0 ∷ s.after) (extent g) (sym len)

    abbrev pub after_sound : (k e : ℕ) (g : Sound kind (drop (at + k + 2) bytes)) → k ≡ length s.name → e ≡ (at + k + 2) + extent g → Remaining (drop e bytes)
    after_sound k e g p q = record { fields = s.others; body = s.rest; after = s.after; spell = s.more; splits = after_splits k e g p q; short = s.rest_short }

    pub output : (k e : ℕ) (n : List ℕ) (l : Remaining (drop at bytes)) (g f : Sound kind (drop (at + k + 2) bytes)) (h : Remaining (drop e bytes))
        → remaining ≡ l.fields → k ≡ length s.name → n ≡ s.name → e ≡ (at + k + 2) + extent f → elements_remaining l ≡ (n, meaning g) ∷ elements_remaining h
    output k e n l g f h same p named q =
        let value = meaning_is g (value_sound k p) in
        let others = remaining_is h (after_sound k e f p q) in
        let whole : elements_remaining l ≡ (s.name, s.tree) ∷ pairs_of s.others = remaining_is l l ∙ ap pairs_of (sym same ∙ s.is) in
        let pair : (s.name, s.tree) ≡ (n, meaning g) = ap₂ (λ (x : List ℕ) (y : Tree). (x, y)) (sym named) (sym value) in
        whole ∙ ap₂ (λ (x : Pair) (y : Doc). x ∷ y) pair (sym others)

pub value_fits : (bytes : List ℕ) (start : ℕ) (kind : Kind) (s : Sound kind (drop start bytes)) → start ≤ length bytes → start + extent s ≤ length bytes
value_fits bytes start kind s lt =
    omega (arith, ap (λ (x : List ℕ). length x) s.begins.splits, length-append s.begins.value s.begins.after, length-drop start bytes, extent_is s s)

-- ---- scanning the elements

few_fields : (fs : Fields) (b : List ℕ) → AreFields fs b → length (pairs_of fs) ≤ length b
few_fields no_fields b h = omega arith
few_fields (field n t fs) b h = omega (arith, few_fields fs h.1 h.4, ap length h.5, length-append (element t n h.0) h.1)

pub few : (bytes : List ℕ) (l : Remaining bytes) → length (elements_remaining l) ≤ longest_document
few bytes l =
    omega (arith, ap (λ (ps : Doc). length ps) (remaining_is l l), few_fields l.fields l.body l.spell, l.short)

pub tail_is : {A : Type 0} (xs l : List A) (k : ℕ) (x : A) (ys : List A) → xs ≡ drop k l → xs ≡ x ∷ ys → ys ≡ drop (k + 1) l
tail_is xs l k x ys a b = sym (ap (drop 1) b) ∙ ap (drop 1) a ∙ drop-drop 1 k l

prefix_is : {A : Type 0} (l : List A) (k : ℕ) (x : A) (ys : List A) → drop k l ≡ x ∷ ys → slice_get l k ≡ Some x
prefix_is [] zero x ys h = absurd cc
prefix_is [] (suc k) x ys h = absurd cc
prefix_is (y ∷ l) zero x ys h = cc
prefix_is (y ∷ l) (suc k) x ys h = prefix_is l k x ys h

pub get_is : {A : Type 0} (xs l : List A) (k i : ℕ) (x : A) (ys : List A) → xs ≡ drop k l → xs ≡ x ∷ ys → k ≡ i → slice_get l i ≡ Some x
get_is xs l k i x ys a b e = ap (slice_get l) (sym e) ∙ prefix_is l k x ys (sym a ∙ b)

pub not_beyond : {A : Type 0} (xs l : List A) (k : ℕ) → xs ≡ drop k l → xs ≡ [] → length l ≤ k
not_beyond xs l k a b = let e = ap (λ (x : List _). length x) (sym a ∙ b) in let d = length-drop k l in omega arith
