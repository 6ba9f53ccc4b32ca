-- The documents of a dump, one by one.
use Rattle.std.proofs.Common.{◌≡◌, ◌≤◌, ◌<◌, ℕ, zero, suc, ◌+◌, ◌*◌, List, [], ◌∷◌, ◌++◌, length, take, drop, get_or, Option, Some, None, refl, sym, ap, ◌∙◌, subst}
use Rattle.std.proofs.Common.{append_assoc, append-nil, arith, inl, inr, slice_get}
use Rattle.std.proofs.lemmas.{List.take-append-drop, List.drop-drop, List.drop_at, List.length-drop, List.length-take, List.length-append, List.take_at, Option.slice_get-get_or}
use Rattle.bd_value.specs.{Limits.longest_input, Tree.Tree, Tree.Doc, Tree.doc, Tree.fields_of, Tree.pairs_in, Tree.pairs_of-fields_of}
use Rattle.bd_bson_check.specs.{Fault.Fault, Fault.ReportsFault, Dump.AreJoined, Dump.IsDump, Dump.frame_fault, Dump.IsNext}
use Rattle.bd_bson_view.specs.{Sizes.number_of, Spelling.IsDocument, Sound.Sound, Sound.meaning, Sound.meaning_is, declared.raw.RawDoc.RawDoc}
use Rattle.bd_bson_dump.specs.{Starts.AreAt, Starts.AreAt-prop, Starts.documents_starting_at, Collection.documents, Collection.IsUnread, declared.collection.Dump.Dump}
use Rattle.bd_bson_view.proofs.ValueAtLemmas.{framed_size, reads_at}
use Rattle.bd_bson_check.proofs.DumpLemmas.{joined_append, joined_one, document_frame, frame_inside}
use Rattle.bd_value.specs.declared.node.Kind.TheVariants as kinds
use Rattle.bd_bson_check.specs.declared.fault.Fault as reported

-- ---- the documents at some starts

abbrev document_sound : (bytes : List ℕ) (at : ℕ) (d : Doc) (prefix rest : List ℕ) → IsDocument d prefix → drop at bytes ≡ prefix ++ rest → Sound kinds.Doc (drop at bytes)
document_sound bytes at d prefix rest is splits = record { tree = doc (fields_of d); begins = record { value = prefix; after = rest; spells = is.spells; typed = refl; splits = splits; short = is.short } }

document_there : (bytes : List ℕ) (at : ℕ) (d : Doc) (prefix rest : List ℕ) (is : IsDocument d prefix) (splits : drop at bytes ≡ prefix ++ rest)
    (s : Sound kinds.Doc (drop at bytes)) → pairs_in (meaning s) ≡ d
document_there bytes at d prefix rest is splits s = ap pairs_in (meaning_is s (document_sound bytes at d prefix rest is splits)) ∙ pairs_of-fields_of d

-- one more start
are_at_more : (bytes starts : List ℕ) (at : ℕ) → AreAt bytes starts → Sound kinds.Doc (drop at bytes) → AreAt bytes (starts ++ at ∷ [])
are_at_more bytes [] at all s = (s, tt)
are_at_more bytes (t ∷ ts) at all s = (all.0, are_at_more bytes ts at all.1 s)

documents_more : (bytes starts : List ℕ) (at : ℕ) (all : AreAt bytes starts) (s : Sound kinds.Doc (drop at bytes))
    → documents_starting_at bytes (starts ++ at ∷ []) (are_at_more bytes starts at all s) ≡ documents_starting_at bytes starts all ++ pairs_in (meaning s) ∷ []
unfolding are_at_more
documents_more bytes [] at all s = refl
documents_more bytes (t ∷ ts) at all s = ap (λ (ds : List Doc). pairs_in (meaning all.0) ∷ ds) (documents_more bytes ts at all.1 s)

pub documents_count : (bytes starts : List ℕ) (all : AreAt bytes starts) → length (documents_starting_at bytes starts all) ≡ length starts
documents_count bytes [] all = refl
documents_count bytes (s ∷ ss) all = ap suc (documents_count bytes ss all.1)

abbrev some : Doc → Option Doc
some d = Some d

-- a dump has as many documents as starts
pub documents_length : (dump : Dump) → length (documents dump) ≡ length dump.starts.items
unfolding documents
documents_length dump = documents_count dump.bytes.items dump.starts.items dump.are_at

-- the document with a number
pub means_there : (bytes starts : List ℕ) (all : AreAt bytes starts) (i start : ℕ) → slice_get starts i ≡ Some start → Sound kinds.Doc (drop start bytes)
means_there bytes [] all i start is = absurd cc
means_there bytes (s ∷ ss) all zero start is = let e : s ≡ start = cc in subst (λ (n : ℕ). Sound kinds.Doc (drop n bytes)) e all.0
means_there bytes (s ∷ ss) all (suc i) start is = means_there bytes ss all.1 i start is

document_in : (bytes starts : List ℕ) (all : AreAt bytes starts) (i start : ℕ) (g : Sound kinds.Doc (drop start bytes))
    → slice_get starts i ≡ Some start → slice_get (documents_starting_at bytes starts all) i ≡ Some (pairs_in (meaning g))
document_in bytes [] all i start g is = absurd cc
document_in bytes (s ∷ ss) all zero start g is =
    let e : s ≡ start = cc in
    subst (λ (n : ℕ). (y : Sound kinds.Doc (drop n bytes)) → some (pairs_in (meaning all.0)) ≡ some (pairs_in (meaning y))) e
    (λ y. ap (λ (t : Tree). some (pairs_in t)) (meaning_is all.0 y ∙ sym (meaning_is y y))) g
document_in bytes (s ∷ ss) all (suc i) start g is = document_in bytes ss all.1 i start g is

pub document_of : (bytes starts : List ℕ) (all : AreAt bytes starts) (i start : ℕ) (here : List ℕ) (g : Sound kinds.Doc (drop start here))
    → slice_get starts i ≡ Some start → bytes ≡ here → slice_get (documents_starting_at bytes starts all) i ≡ Some (pairs_in (meaning g))
document_of bytes starts all i start here g is same =
    subst (λ (x : List ℕ). (y : Sound kinds.Doc (drop start x)) → slice_get (documents_starting_at bytes starts all) i ≡ Some (pairs_in (meaning y)))
    same (λ y. document_in bytes starts all i start y is) g

pub start_at : (starts : List ℕ) (n start : ℕ) → n < length starts → start ≡ get_or starts n start → slice_get starts n ≡ Some start
start_at starts n start lt is = slice_get-get_or starts n start lt ∙ ap (λ (s : ℕ). Some s) (sym is)

pub start_inside : (bytes : List ℕ) (start : ℕ) → Sound kinds.Doc (drop start bytes) → start ≤ length bytes
start_inside bytes start s =
    let l = ap (λ (x : List ℕ). length x) s.begins.splits in
    let a = length-append s.begins.value s.begins.after in
    let d = length-drop start bytes in
    let r = reads_at kinds.Doc (drop start bytes) s in
    omega arith

-- the loop invariant: the documents at the starts are those of the bytes up to the offset
abbrev Collected : (bytes starts : List ℕ) → ℕ → Type 0
Collected bytes starts at = (all : AreAt bytes starts) × AreJoined (documents_starting_at bytes starts all) (take at bytes)

-- the documents that were found so far begin at these places, and the next at `at`
pub record SoFar (bytes starts : List ℕ) (at : ℕ) : Type 0 where
  pub collected : Collected bytes starts at
  pub inside : at ≤ length bytes
  pub few : 5 * length starts ≤ at

module _ (bytes : List ℕ) where
  pub begins : (starts : List ℕ) → starts ≡ [] → SoFar bytes starts 0
  begins starts is = record {
    collected = subst (λ (ss : List ℕ). Collected bytes ss 0) (sym is) (tt, refl);
    inside = omega arith;
    few = rw is (omega arith);
  }

  taken_more : (prefix : List ℕ) (at after : ℕ) → at ≤ length bytes → after ≤ length bytes → drop at bytes ≡ prefix ++ drop after bytes
      → at + length prefix ≡ after → take after bytes ≡ take at bytes ++ prefix
  taken_more prefix at after le in_bytes splits size =
      let whole : bytes ≡ (take at bytes ++ prefix) ++ drop after bytes = sym (take-append-drop at bytes) ∙ ap (λ x. take at bytes ++ x) splits
      ∙ sym (append_assoc (take at bytes) prefix (drop after bytes)) in
      ap (take after) whole ∙ take_at (take at bytes ++ prefix) (drop after bytes) after (omega (arith, length-append (take at bytes) prefix, length-take at bytes))

  prefix_size : (d : Doc) (prefix : List ℕ) → IsDocument d prefix → 5 ≤ length prefix
  prefix_size d prefix is = (frame_inside (prefix ++ []) (length prefix) (document_frame d prefix [] is)).0

  -- one more document
  grows : (starts more : List ℕ) (at after : ℕ) (d : Doc) (prefix : List ℕ) → SoFar bytes starts at → IsDocument d prefix → drop at bytes ≡ prefix ++ drop after bytes
      → at + length prefix ≡ after → after ≤ length bytes → more ≡ starts ++ at ∷ [] → SoFar bytes more after
  grows starts more at after d prefix s is_document splits size inside is =
      let here = document_sound bytes at d prefix (drop after bytes) is_document splits in
      let same : documents_starting_at bytes (starts ++ at ∷ []) (are_at_more bytes starts at s.collected.0 here)
      ≡ documents_starting_at bytes starts s.collected.0 ++ d ∷ [] =
      documents_more bytes starts at s.collected.0 here ∙ ap (λ (x : Doc). documents_starting_at bytes starts s.collected.0 ++ x ∷ [])
      (document_there bytes at d prefix (drop after bytes) is_document splits here) in
      let joined : AreJoined (documents_starting_at bytes starts s.collected.0 ++ d ∷ []) (take after bytes) =
      subst (AreJoined (documents_starting_at bytes starts s.collected.0 ++ d ∷ []))
      (sym (taken_more prefix at after s.inside inside splits size))
      (joined_append (documents_starting_at bytes starts s.collected.0) (d ∷ []) (take at bytes) prefix s.collected.1
      (joined_one d prefix is_document)) in
      record {
        collected = subst (λ (ss : List ℕ). Collected bytes ss after) (sym is)
            (are_at_more bytes starts at s.collected.0 here, subst (λ (ds : List Doc). AreJoined ds (take after bytes)) (sym same) joined);
        inside = inside;
        few = let f = s.few in let n = prefix_size d prefix is_document in
            omega (arith, size, length-append starts (at ∷ []), ap (λ (ss : List ℕ). length ss) is);
      }

  pub goes_on : (starts more : List ℕ) (at after : ℕ) (raw : RawDoc) → SoFar bytes starts at → IsNext bytes at (Some (raw, after)) → more ≡ starts ++ at ∷ [] → SoFar bytes more after
  goes_on starts more at after raw s next is =
      grows starts more at after (pairs_in (meaning raw.sound)) next.0 s next.1 next.2 next.3 next.4 is

  -- ---- the documents from an offset on, by the lengths that they state

  -- From this offset on there are documents.
  pub record Rest (at : ℕ) : Type 0 where
    pub documents : List Doc
    pub joined : AreJoined documents (drop at bytes)

  -- The first of them, and those after it.
  pub record First (at : ℕ) : Type 0 where
    pub document : Doc
    pub prefix : List ℕ
    pub is : IsDocument document prefix
    pub splits : drop at bytes ≡ prefix ++ drop (at + length prefix) bytes
    pub states : number_of (drop at bytes) ≡ length prefix
    pub five : 5 ≤ length prefix
    pub inside : at + length prefix ≤ length bytes
    pub rest : Rest (at + length prefix)

  first_of : (at : ℕ) → at < length bytes → (ds : List Doc) → AreJoined ds (drop at bytes) → First at
  first_of at lt [] joined = absurd (omega (arith, length-drop at bytes, ap (λ (x : List ℕ). length x) joined))
  first_of at lt (d ∷ ds) joined =
      let after : drop (at + length joined.0) bytes ≡ joined.1 =
      sym (drop-drop (length joined.0) at bytes) ∙ ap (drop (length joined.0)) joined.4 ∙ drop_at joined.0 joined.1 (length joined.0) refl in
      let five = prefix_size d joined.0 joined.2 in
      record {
        document = d;
        prefix = joined.0;
        is = joined.2;
        splits = joined.4 ∙ ap (λ x. joined.0 ++ x) (sym after);
        states = ap number_of joined.4 ∙ framed_size joined.2.spells.0 joined.0 joined.1 joined.2.spells.2 joined.2.short;
        five = five;
        inside = omega (arith, lt, ap (λ (x : List ℕ). length x) joined.4, length-append joined.0 joined.1, length-drop at bytes);
        rest = record { documents = ds; joined = subst (AreJoined ds) (sym after) joined.3 };
      }

  pub first : (at : ℕ) → at < length bytes → Rest at → First at
  first at lt rest = first_of at lt rest.documents rest.joined

  pub takes_first : (starts more : List ℕ) (at after : ℕ) → SoFar bytes starts at → (f : First at) → after ≡ at + length f.prefix → more ≡ starts ++ at ∷ []
      → SoFar bytes more after × Rest after
  takes_first starts more at after s f is pushed =
      rw is (grows starts more at (at + length f.prefix) f.document f.prefix s f.is f.splits refl f.inside pushed, f.rest)

  pub later : (at after : ℕ) (raw : RawDoc) → IsNext bytes at (Some (raw, after)) → at + 5 ≤ after
  later at after raw next = let size = prefix_size (pairs_in (meaning raw.sound)) next.0 next.1 in let n = next.3 in omega arith

  pub ended : (starts : List ℕ) (at : ℕ) → SoFar bytes starts at → drop at bytes ≡ [] → length bytes ≤ longest_input → (all : AreAt bytes starts)
      × IsDump (documents_starting_at bytes starts all) bytes
  ended starts at s is short =
      let e : take at bytes ≡ bytes = sym (append-nil (take at bytes)) ∙ ap (λ x. take at bytes ++ x) (sym is) ∙ take-append-drop at bytes in
      (s.collected.0, (subst (AreJoined (documents_starting_at bytes starts s.collected.0)) e s.collected.1, short))

  pub failed : (starts : List ℕ) (at number : ℕ) (e : reported.Fault) → SoFar bytes starts at → number ≡ length starts → length bytes ≤ longest_input
      → ReportsFault number (frame_fault at (drop at bytes)) e → IsUnread bytes e
  failed starts at number e s count short reports = fails_as (frame_fault at (drop at bytes)) refl reports
    where
      size : length (take at bytes) ≡ at
      size = let i = s.inside in omega (arith, length-take at bytes)

      fails_as : (o : Option Fault) → frame_fault at (drop at bytes) ≡ o → ReportsFault number o e → IsUnread bytes e
      fails_as None is reported = absurd reported
      fails_as (Some f) is (inl want) = inr (short, inl want.1)
      fails_as (Some f) is (inr h) = inr (
        short,
        inr (record {
          before = documents_starting_at bytes starts s.collected.0;
          fails = (take at bytes, drop at bytes, s.collected.1, sym (take-append-drop at bytes), ap (λ n. frame_fault n (drop at bytes)) size ∙ is ∙ ap (λ (x : Fault). Some x) h.same);
          document = h.document ∙ count ∙ sym (documents_count bytes starts s.collected.0);
        }),
      )

-- the documents are the same for any proof that they are there
pub same_documents : (bytes starts : List ℕ) (all other : AreAt bytes starts) → documents_starting_at bytes starts all ≡ documents_starting_at bytes starts other
same_documents bytes starts all other = ap (documents_starting_at bytes starts) (AreAt-prop bytes starts all other)

-- bytes with documents at all these places are the dump of these documents
pub dump_is : (bytes here starts : List ℕ) (all : AreAt bytes starts) → here ≡ bytes → (h : AreAt here starts)
    × IsDump (documents_starting_at here starts h) here → IsDump (documents_starting_at bytes starts all) bytes
dump_is bytes here starts all same found =
    let f = subst (λ (x : List ℕ). (h : AreAt x starts) × IsDump (documents_starting_at x starts h) x) same found in
    subst (λ (ds : List Doc). IsDump ds bytes) (same_documents bytes starts f.0 all) f.1
