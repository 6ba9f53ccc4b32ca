-- Documents of the nineteen kinds in a dump, as documents of all types.
use Rattle.std.proofs.Common.{◌≡◌, ◌≤◌, ℕ, ℤ, pos, zero, suc, ◌+◌, List, [], ◌∷◌, ◌++◌, length, take, drop, get_or, slice_get, Option, Some, None, Result, Ok, Err, refl, sym, ap, ap₂, ◌∙◌, subst, arith, append_assoc, append-nil, length-append, take_at, drop_at}
use Rattle.std.specs.Result.{result_err}
use Rattle.bd_value.specs.Tree.{Doc}
use Rattle.bd_bson_view.specs.Spelling.{IsDocument, IsDocumentBy, valued}
use Rattle.bd_bson_view.specs.declared.raw_parts.ElementType.{ElementType}
use Rattle.bd_bson_check.specs.declared.fault.Fault.{Fault as FaultInMemory}
use Rattle.bd_bson_check.specs.declared.fault.FaultKind.{FaultKind}
use Rattle.bd_bson_check.specs.declared.profile.Profile.TheVariants.{All, Named}
use Rattle.bd_bson_check.specs.{Fault.Fault, Fault.fault_view, Dump.AreJoined, Dump.FailsAfter, Dump.IsDumpScan, Dump.frame_fault, Dump.frame_fault_under, Dump.frame_length, Dump.framed_under, Dump.stated_length, FirstFault.ReportsNoNumber, FirstFault.fault_under}
use Rattle.bd_bson_check.proofs.{DumpLemmas.frame_good, ProfileLemmas.others_are_first, WideLemmas.document_by_value_again}
use Rattle.bd_wide_copy.specs.Dump.{AreJoinedBy, IsDocumentAt, IsFirstFault}
use Rattle.bd_wide_copy.specs.Copy.{coded_document, int64_of, number_as}
use Rattle.bd_wide_copy.proofs.{DumpLemmas.five_bytes, DumpLemmas.stated_there, PlainLemmas.plain_by}

abbrev pub no_worth : ElementType → List ℕ → ℤ
no_worth type value = pos 0

abbrev no_code : ℤ → ℤ
no_code z = pos 0

-- documents of the nineteen kinds are as many of all types
pub joined_by : (ds : List Doc) (bytes : List ℕ) → AreJoined ds bytes → (es : List Doc) × AreJoinedBy (valued no_worth) es bytes × (length es ≡ length ds)
joined_by [] bytes j = ([], j, refl)
joined_by (d ∷ ds) bytes j =
    let by = plain_by no_worth no_code ((λ z f. refl), (λ z f. refl)) d j.0 j.2 in
    let more = joined_by ds j.1 j.3 in
    (coded_document (number_as (int64_of no_code)) d ∷ more.0, (j.0, j.1, by, more.1, j.4), ap suc more.2)

-- ---- where one document ends

abbrev Worth : Type 0
Worth = ElementType → List ℕ → ℤ

-- two documents that begin the same bytes have the same bytes
pub same_start : (u v : Worth) (d e : Doc) (a b x y : List ℕ) → IsDocumentBy (valued u) d a → IsDocumentBy (valued v) e b → a ++ x ≡ b ++ y → (a ≡ b) × (x ≡ y)
same_start u v d e a b x y is was same =
    let size : length a ≡ length b = sym (stated_there (valued u) d a x is) ∙ ap stated_length same ∙ stated_there (valued v) e b y was in (
      sym (take_at a x (length a) refl) ∙ ap (take (length a)) same ∙ take_at b y (length a) (sym size),
      sym (drop_at a x (length a) refl) ∙ ap (drop (length a)) same ∙ drop_at b y (length a) (sym size),
    )

-- No document begins the bytes.
abbrev pub NoneBegins : List ℕ → Type 0
NoneBegins bytes = (worth : Worth) (d : Doc) (prefix rest : List ℕ) → IsDocumentBy (valued worth) d prefix → bytes ≡ prefix ++ rest → ⊥

pub none_in_nothing : NoneBegins []
none_in_nothing worth d prefix rest is same =
    let five = five_bytes (valued worth) d prefix rest is in
    let size = ap (λ (x : List ℕ). length x) same ∙ length-append prefix rest in
    omega (arith, five, size)

-- a document that begins bytes has no fault
pub none_at_fault : (at : ℕ) (bytes : List ℕ) (f : Fault) → frame_fault_under All at bytes ≡ Some f → NoneBegins bytes
none_at_fault at bytes f fails worth d prefix rest is same =
    let five = five_bytes (valued worth) d prefix rest is in
    let inside : length prefix ≤ length (prefix ++ rest) = omega (arith, length-append prefix rest) in
    let frame = frame_good (prefix ++ rest) (length prefix) (stated_there (valued worth) d prefix rest is) five is.short inside in
    let sound : fault_under All at prefix ≡ None = ap result_err (document_by_value_again worth (at + length prefix) prefix d is) in
    let none : frame_fault_under All at (prefix ++ rest) ≡ None = ap (framed_under All at (prefix ++ rest)) frame ∙ ap (fault_under All at) (take_at prefix rest (length prefix) refl) ∙ sound in
    let both : Some f ≡ None = sym fails ∙ ap (frame_fault_under All at) same ∙ none in
    cc

-- documents with nothing between, and what is after the last of them
module _ (u v : Worth) where
  pub joined_once : (ds es : List Doc) (a b x y : List ℕ) → AreJoinedBy (valued u) ds a → AreJoinedBy (valued v) es b → NoneBegins x → NoneBegins y → a ++ x ≡ b ++ y → (a ≡ b) × (x ≡ y)
  joined_once [] [] a b x y j k p q same = (j ∙ sym k, ap (λ (z : List ℕ). z ++ x) (sym j) ∙ same ∙ ap (λ (z : List ℕ). z ++ y) k)
  joined_once [] (e ∷ es) a b x y j k p q same =
      absurd (p v e k.0 (k.1 ++ y) k.2 (ap (λ (z : List ℕ). z ++ x) (sym j) ∙ same ∙ ap (λ (z : List ℕ). z ++ y) k.4 ∙ append_assoc k.0 k.1 y))
  joined_once (d ∷ ds) [] a b x y j k p q same =
      absurd (q u d j.0 (j.1 ++ x) j.2 (ap (λ (z : List ℕ). z ++ y) (sym k) ∙ sym same ∙ ap (λ (z : List ℕ). z ++ x) j.4 ∙ append_assoc j.0 j.1 x))
  joined_once (d ∷ ds) (e ∷ es) a b x y j k p q same =
      let first = same_start u v d e j.0 k.0 (j.1 ++ x) (k.1 ++ y) j.2 k.2
      (sym (append_assoc j.0 j.1 x) ∙ ap (λ (z : List ℕ). z ++ x) (sym j.4) ∙ same ∙ ap (λ (z : List ℕ). z ++ y) k.4 ∙ append_assoc k.0 k.1 y) in
      let more = joined_once ds es j.1 k.1 x y j.3 k.3 p q first.1 in
      (j.4 ∙ ap₂ (λ (z w : List ℕ). z ++ w) first.0 more.0 ∙ sym k.4, more.1)

-- ---- the document at a place

-- In these documents, joined, this is the one at a place, by its bytes.
abbrev At : List Doc → List ℕ → ℕ → List ℕ → Type 0
At es bytes place document = (e : Doc) × (slice_get es place ≡ Some e) × IsDocumentBy (valued no_worth) e document
    × (before : List ℕ) × (after : List ℕ) × AreJoinedBy (valued no_worth) (take place es) before × (bytes ≡ before ++ (document ++ after))

-- A document is at that place of the list, and these are its bytes.
abbrev pub IsPlaced : List Doc → ℕ → List ℕ → Type 0
IsPlaced ds place document = (slice_get ds place ≡ Some (get_or ds place [])) × IsDocument (get_or ds place []) document

place_in : (ds : List Doc) (bytes : List ℕ) (j : AreJoined ds bytes) (place : ℕ) (document : List ℕ) → At (joined_by ds bytes j).0 bytes place document → IsPlaced ds place document
unfolding joined_by
place_in [] bytes j place document (e, there, is, before, after, none, splits) = absurd (nothing_there place e there)
  where
    nothing_there : (n : ℕ) (e : Doc) → slice_get [] n ≡ Some e → ⊥
    nothing_there n e there = cc
place_in (d ∷ ds) bytes j zero document (e, there, is, before, after, none, splits) =
    let by = plain_by no_worth no_code ((λ z f. refl), (λ z f. refl)) d j.0 j.2 in
    let same = same_start no_worth no_worth (coded_document (number_as (int64_of no_code)) d) e j.0 document j.1 after by is (sym j.4 ∙ splits ∙ ap (λ (x : List ℕ). x ++ (document ++ after)) none) in
    (refl, subst (IsDocument d) same.0 j.2)
place_in (d ∷ ds) bytes j (suc place) document (e, there, is, before, after, (first, rest, one, others, joined), splits) =
    let w = coded_document (number_as (int64_of no_code)) d in
    let by = plain_by no_worth no_code ((λ z f. refl), (λ z f. refl)) d j.0 j.2 in
    let same = same_start no_worth no_worth w w j.0 first j.1 (rest ++ (document ++ after)) by one
    (sym j.4 ∙ splits ∙ ap (λ (x : List ℕ). x ++ (document ++ after)) joined ∙ append_assoc first rest (document ++ after)) in
    place_in ds j.1 j.3 place document (e, there, is, rest, after, others, same.1)

-- the document at a place of a dump of the nineteen kinds
pub document_is : (ds : List Doc) (bytes : List ℕ) → AreJoined ds bytes → (place : ℕ) (document : List ℕ) → IsDocumentAt bytes place document → IsPlaced ds place document
document_is ds bytes j place document at =
    let es = joined_by ds bytes j in
    place_in ds bytes j place document (at no_worth es.0 es.1)

-- ---- the first fault

framed_alike : (at : ℕ) (bytes : List ℕ) (f : Fault) → ReportsNoNumber (Some f) → (frame : Result (Option ℕ) FaultKind) → framed_under Named at bytes frame ≡ Some f
    → framed_under All at bytes frame ≡ Some f
framed_alike at bytes f none (Ok None) is = is
framed_alike at bytes f none (Ok (Some n)) is = others_are_first at (take n bytes) (subst ReportsNoNumber (sym is) none) ∙ is
framed_alike at bytes f none (Err kind) is = is

-- a first fault by the nineteen types that is no number is one by all types
pub fault_alike : (at : ℕ) (bytes : List ℕ) (f : Fault) → ReportsNoNumber (Some f) → frame_fault at bytes ≡ Some f → frame_fault_under All at bytes ≡ Some f
fault_alike at bytes f none is = framed_alike at bytes f none (frame_length bytes) is

-- the first fault by all types is the first by the nineteen, if that is no number
pub fault_is : (bytes : List ℕ) (ds : List Doc) (end : Option Fault) (e : FaultInMemory) → IsDumpScan ds end bytes → ReportsNoNumber end → IsFirstFault bytes e
    → (end ≡ Some (fault_view e)) × (length ds ≡ e.document)
fault_is bytes ds None e scan none first =
    let all = joined_by ds bytes scan in
    let before = first.documents no_worth in
    let same = joined_once no_worth no_worth all.0 before.0 bytes first.before [] first.rest all.1 before.1 none_in_nothing (none_at_fault (length first.before) first.rest (fault_view e) first.fails)
    (append-nil bytes ∙ first.splits) in
    let both : None ≡ Some (fault_view e) = ap (frame_fault_under All (length first.before)) same.1 ∙ first.fails in
    absurd cc
fault_is bytes ds (Some f) e (prefix, rest, joined, splits, fails) none first =
    let all = joined_by ds prefix joined in
    let before = first.documents no_worth in
    let failed = fault_alike (length prefix) rest f none fails in
    let same = joined_once no_worth no_worth all.0 before.0 prefix first.before rest first.rest all.1 before.1 (none_at_fault (length prefix) rest f failed)
    (none_at_fault (length first.before) first.rest (fault_view e) first.fails) (sym splits ∙ first.splits) in (
      sym failed ∙ (λ i. frame_fault_under All (length (same.0 i)) (same.1 i)) ∙ first.fails,
      sym all.2 ∙ sym (first.counted no_worth all.0 (subst (λ (x : List ℕ). AreJoinedBy (valued no_worth) all.0 x) same.0 all.1)),
    )

-- bytes that are documents of all types have no fault that is no number
pub none_sound : (w : ElementType → List ℕ → ℤ) (bytes : List ℕ) (ds ws : List Doc) (f : Fault) → FailsAfter ds f bytes → ReportsNoNumber (Some f) → AreJoinedBy (valued w) ws bytes → ⊥
none_sound w bytes ds ws f (prefix, rest, joined, splits, fails) none are =
    let all = joined_by ds prefix joined in
    let failed = fault_alike (length prefix) rest f none fails in
    let same = joined_once no_worth w all.0 ws prefix bytes rest [] all.1 are (none_at_fault (length prefix) rest f failed) none_in_nothing (sym splits ∙ sym (append-nil bytes)) in
    let both : Some f ≡ None = sym failed ∙ ap (frame_fault_under All (length prefix)) same.1 in
    cc
