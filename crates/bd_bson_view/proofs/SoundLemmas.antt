-- A document that is all of some bytes, and values at offsets.
use Rattle.std.proofs.Common.{◌≡◌, ◌≤◌, ℕ, ◌+◌, List, [], length, drop, Some, refl, sym, ap, ◌∙◌, subst, arith}
use Rattle.std.proofs.lemmas.List.{append-nil}
use Rattle.bd_value.specs.Tree.{Tree, leaf, doc, null, undefined, Doc, fields_of, pairs_in, pairs_of-fields_of, fields_of-pairs_of}
use Rattle.bd_value.specs.View.{kind_of}
use Rattle.bd_value.specs.declared.node.Kind.{Kind}
use Rattle.bd_value.specs.declared.node.Kind.TheVariants as kinds
use Rattle.bd_bson_view.specs.Spelling.{IsDocument, type_byte, type_at}
use Rattle.bd_bson_view.specs.Unique.{type_is, no_holder, values}
use Rattle.bd_bson_view.specs.Sound.{Begins, Sound, Remaining, meaning, meaning_is, elements_remaining, IsAt, IsPlace}
use Rattle.bd_bson_view.specs.declared.views.At.{At}
use Rattle.bd_bson_view.specs.declared.raw_parts.ElementType.TheVariants.{Kept}
use Rattle.bd_bson_view.proofs.ValueAtLemmas.{kind_is}
use Rattle.bd_bson_view.proofs.ContentsLemmas.{document_has_elements}

abbrev pub whole_sound : (bytes : List ℕ) (d : Doc) → IsDocument d bytes → Sound kinds.Doc bytes
whole_sound bytes d h = record { tree = doc (fields_of d); begins = record { value = bytes; after = []; spells = h.spells; typed = refl; splits = sym (append-nil bytes); short = h.short } }

pub whole_is : (bytes : List ℕ) (d : Doc) (h : IsDocument d bytes) (s : Sound kinds.Doc bytes) → IsDocument (pairs_in (meaning s)) bytes
whole_is bytes d h s =
    let e : d ≡ pairs_in (meaning s) = sym (ap pairs_in (meaning_is s (whole_sound bytes d h)) ∙ pairs_of-fields_of d) in
    subst (λ (c : Doc). IsDocument c bytes) e h

pub document_elements : (bytes : List ℕ) (start : ℕ) (s : Sound kinds.Doc (drop start bytes)) (g : Remaining (drop (start + 4) bytes)) → elements_remaining g ≡ pairs_in (meaning s)
document_elements bytes start s g = sym (ap pairs_in ((document_has_elements bytes start kinds.Doc s refl).1 g) ∙ pairs_of-fields_of (elements_remaining g))

-- a document is the pairs in it
pub pairs_make_document : (bytes : List ℕ) (s : Sound kinds.Doc bytes) → meaning s ≡ doc (fields_of (pairs_in (meaning s)))
pairs_make_document bytes s = as_pairs (meaning s) (ap kind_of (meaning_is s s) ∙ kind_is kinds.Doc bytes s)
  where
    as_pairs : (t : Tree) → kind_of t ≡ kinds.Doc → t ≡ doc (fields_of (pairs_in t))
    as_pairs (leaf a) k = absurd (no_holder a kinds.Doc k refl)
    as_pairs (doc fs) k = ap doc (sym (fields_of-pairs_of fs))
    as_pairs _ k = absurd cc

-- the bytes spell one document at most
pub document_unique : (bytes : List ℕ) (c d : Doc) → IsDocument c bytes → IsDocument d bytes → c ≡ d
document_unique bytes c d p q =
    let e = (values (doc (fields_of c)) (doc (fields_of d)) bytes bytes [] [] p.spells q.spells refl refl).0 in
    sym (pairs_of-fields_of c) ∙ ap pairs_in e ∙ pairs_of-fields_of d

-- at most one tree is at one offset
pub same_tree : {kind : Kind} {bytes : List ℕ} (s t : Sound kind bytes) → meaning s ≡ meaning t
same_tree s t = meaning_is s t ∙ sym (meaning_is t t)

-- ---- offsets

-- the value of a view is at its offset
pub located : (bytes : List ℕ) (start byte : ℕ) (kind : Kind) (s : Sound kind (drop start bytes)) → start ≤ length bytes → byte ≡ type_byte kind
    → IsAt bytes (record { kind = byte; start = start }) (meaning s)
unfolding meaning
located bytes start byte kind s inside is = (inside, subst (λ (n : ℕ). Begins n (drop start bytes) s.tree) (sym is) s.begins)

-- a view of the value at an offset
pub sound_there : (bytes : List ℕ) (at : At) (kind : Kind) → IsPlace bytes at → type_at at.kind ≡ Some (Kept kind) → Sound kind (drop at.start bytes)
sound_there bytes at kind p is =
    let k : kind_of p.0 ≡ kind = cc (sym (type_is (kind_of p.0)) ∙ ap type_at p.1.1.typed ∙ is) in
    record { tree = p.0; begins = subst (λ (n : ℕ). Begins n (drop at.start bytes) p.0) (sym p.1.1.typed ∙ ap type_byte k) p.1.1 }

pub tree_there : (bytes : List ℕ) (at : At) (kind : Kind) (s : Sound kind (drop at.start bytes)) (t : Tree) → IsAt bytes at t → type_at at.kind ≡ Some (Kept kind) → meaning s ≡ t
unfolding sound_there
tree_there bytes at kind s t h is = meaning_is s (sound_there bytes at kind (t, h) is)

-- a value of no bytes is at the start of any bytes
pub null_there : (bytes : List ℕ) → IsAt bytes (record { kind = 10; start = 0 }) (leaf null)
null_there bytes = (omega arith, record { value = []; after = bytes; spells = (tt, refl); typed = refl; splits = refl; short = omega arith })

pub undefined_there : (bytes : List ℕ) → IsAt bytes (record { kind = 6; start = 0 }) (leaf undefined)
undefined_there bytes = (omega arith, record { value = []; after = bytes; spells = (tt, refl); typed = refl; splits = refl; short = omega arith })
