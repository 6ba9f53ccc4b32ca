-- Where the documents of a dump begin.
use Rattle.std.proofs.Common.{◌≡◌, ℕ, ℤ, pos, zero, suc, ◌+◌, ◌≤◌, ◌<◌, ltb, ◌||◌, List, [], ◌∷◌, ◌++◌, length, take, drop, get_or, slice_get, Option, Some, None, Result, Ok, Err, refl, sym, ap, ap₂, ◌∙◌, subst, arith, length-append, length-drop, take_at, drop_at, Bool, true, false, ◌&&◌, append_assoc}
use Rattle.std.specs.{List.list_all, Option.is_none, Result.result_err}
use Rattle.std.proofs.lemmas.{List.take-append-drop, List.drop-drop}
use Rattle.std.specs.Prelude.{IsTrue, ◌↔◌}
use Rattle.bd_value.specs.{Limits.longest_document, Limits.longest_input, Tree.Doc}
use Rattle.bd_bson_view.specs.Spelling.{IsDocument, IsDocumentBy, valued}
use Rattle.bd_bson_view.specs.declared.raw_parts.ElementType.{ElementType}
use Rattle.bd_bson_check.specs.declared.fault.FaultKind.{FaultKind}
use Rattle.bd_bson_check.specs.declared.profile.Profile.{Profile}
use Rattle.bd_bson_check.specs.declared.profile.Profile.TheVariants.{All, Named}
use Rattle.bd_bson_check.specs.{Fault.Fault, Dump.AreJoined, Dump.IsDump, Dump.stated_length, Dump.frame_length, Dump.framed_under, Dump.frame_fault_under, FirstFault.fault_under, FirstFault.skip_document}
use Rattle.bd_bson_check.proofs.DumpLemmas.{frame_inside, found_document, document_frame, document_faultless}
use Rattle.bd_bson_check.proofs.FirstFaultLemmas.{guard_ok, IsBytes, IsBytes-take, IsBytes-drop}
use Rattle.bd_bson_check.proofs.WideLemmas.{document_by_value}
use Rattle.bd_wide_copy.specs.Dump.{AreJoinedBy, AreDocuments, IsCount, IsDocumentAt}
use Rattle.bd_wide_copy.specs.Starts.{starts_from, starts_of, have_no_fault}
use Rattle.bd_wide_copy.specs.Copy.{coded_document, int64_of, number_as}
use Rattle.bd_wide_copy.proofs.DumpLemmas.{five_bytes, stated_there}
use Rattle.bd_wide_copy.proofs.PlainLemmas.{plain_by}

-- ---- documents begin at the starts

module _ (worth : ElementType → List ℕ → ℤ) where
  -- the first start, and those after the first document
  starts_step : (d : Doc) (prefix rest bytes : List ℕ) (n at : ℕ) → IsDocumentBy (valued worth) d prefix → bytes ≡ prefix ++ rest
      → starts_from (suc n) at bytes ≡ at ∷ starts_from n (at + length prefix) rest
  unfolding starts_from
  starts_step d prefix rest [] n at is splits =
      absurd (let a = ap (λ (x : List ℕ). length x) splits in omega (arith, a, five_bytes (valued worth) d prefix rest is, length-append prefix rest))
  starts_step d prefix rest (b ∷ bytes) n at is splits =
      let size : stated_length (b ∷ bytes) ≡ length prefix = ap stated_length splits ∙ stated_there (valued worth) d prefix rest is in
      let after : drop (length prefix) (b ∷ bytes) ≡ rest = ap (drop (length prefix)) splits ∙ drop_at prefix rest (length prefix) refl in
      ap (λ (m : ℕ). at ∷ starts_from n (at + m) (drop m (b ∷ bytes))) size ∙ ap (λ (x : List ℕ). at ∷ starts_from n (at + length prefix) x) after

  starts_end : (n at : ℕ) → starts_from n at [] ≡ []
  unfolding starts_from
  starts_end zero at = refl
  starts_end (suc n) at = refl

  -- as many starts as documents
  pub starts_count : (ds : List Doc) (bytes : List ℕ) (n at : ℕ) → AreJoinedBy (valued worth) ds bytes → length bytes ≤ n → length (starts_from n at bytes) ≡ length ds
  starts_count [] bytes n at j le = ap (λ (x : List ℕ). length (starts_from n at x)) j ∙ ap (λ (x : List ℕ). length x) (starts_end n at)
  starts_count (d ∷ ds) bytes n at j le =
      let size = ap (λ (x : List ℕ). length x) j.4 ∙ length-append j.0 j.1 in
      let five = five_bytes (valued worth) d j.0 j.1 j.2 in
      elim n as (λ (m : ℕ). length bytes ≤ m → length (starts_from m at bytes) ≡ suc (length ds)) [
        | zero ↦ λ e. absurd (omega (arith, e, size, five))
        | suc m ↦ λ e. ap (λ (x : List ℕ). length x) (starts_step d j.0 j.1 bytes m at j.2 j.4) ∙ ap suc (starts_count ds j.1 m (at + length j.0) j.3 (omega (arith, e, size, five)))
      ] le

  -- A document begins at each start.
  abbrev Begins : List Doc → List ℕ → List ℕ → List ℕ → ℕ → Type 0
  Begins ds whole bytes starts i = (d : Doc) × (prefix : List ℕ) × (more : List ℕ) × (slice_get ds i ≡ Some d) × IsDocumentBy (valued worth) d prefix
      × (drop (get_or starts i 0) whole ≡ prefix ++ more)
      × (before : List ℕ) × AreJoinedBy (valued worth) (take i ds) before × (bytes ≡ before ++ (prefix ++ more))

  pub starts_begin : (ds : List Doc) (whole bytes : List ℕ) (n at : ℕ) → AreJoinedBy (valued worth) ds bytes → length bytes ≤ n → drop at whole ≡ bytes
      → (i : ℕ) → i < length ds → Begins ds whole bytes (starts_from n at bytes) i
  starts_begin [] whole bytes n at j le here i lt = absurd (omega (arith, lt))
  starts_begin (d ∷ ds) whole bytes n at j le here i lt =
      let size = ap (λ (x : List ℕ). length x) j.4 ∙ length-append j.0 j.1 in
      let five = five_bytes (valued worth) d j.0 j.1 j.2 in
      let after : drop (at + length j.0) whole ≡ j.1 = sym (drop-drop (length j.0) at whole) ∙ ap (drop (length j.0)) (here ∙ j.4) ∙ drop_at j.0 j.1 (length j.0) refl in
      elim n as (λ (m : ℕ). length bytes ≤ m → Begins (d ∷ ds) whole bytes (starts_from m at bytes) i) [
        | zero ↦ λ e. absurd (omega (arith, e, size, five))
        | suc m ↦ λ e. subst (λ (ss : List ℕ). Begins (d ∷ ds) whole bytes ss i) (sym (starts_step d j.0 j.1 bytes m at j.2 j.4))
            (elim i as (λ (k : ℕ). k < suc (length ds) → Begins (d ∷ ds) whole bytes (at ∷ starts_from m (at + length j.0) j.1) k) [
              | zero ↦ λ l. (d, j.0, j.1, refl, j.2, here ∙ j.4, [], refl, j.4)
              | suc k ↦ λ l.
                  let b = starts_begin ds whole j.1 m (at + length j.0) j.3 (omega (arith, e, size, five)) after k (omega (arith, l)) in (
                    b.0,
                    b.1,
                    b.2,
                    b.3,
                    b.4,
                    b.5,
                    j.0 ++ b.6,
                    (j.0, b.6, j.2, b.7, refl),
                    j.4 ∙ ap (λ (x : List ℕ). j.0 ++ x) b.8 ∙ sym (append_assoc j.0 b.6 (b.1 ++ b.2)),
                  )
            ] lt)
      ] le

-- ---- no fault at the starts

is_none_none : {A : Type 0} (o : Option A) → is_none o ≡ true → o ≡ None
is_none_none None is = refl
is_none_none (Some x) is = absurd cc

both : (a b : Bool) → (a && b) ≡ true → (a ≡ true) × (b ≡ true)
both true b is = (refl, is)
both false b is = absurd cc

no_err : (r : Result (Unit {0}) Fault) → result_err r ≡ None → r ≡ Ok tt
no_err (Ok tt) is = refl
no_err (Err f) is = absurd cc

-- the length of a frame is the one that is stated
pub frame_states : (bytes : List ℕ) (n : ℕ) → frame_length bytes ≡ Ok (Some n) → n ≡ stated_length bytes
frame_states [] n is = absurd cc
frame_states (b ∷ bytes) n is =
    let size = length (b ∷ bytes) in
    let stated = stated_length (b ∷ bytes) in
    let g = guard_ok (ltb size 4) _ _ (Some n) is in
    let h = guard_ok (ltb stated 5 || ltb longest_document stated || ltb size stated) _ _ (Some n) g.1 in
    sym (cc (h.1))

no_frame : (bytes : List ℕ) → frame_length bytes ≡ Ok None → bytes ≡ []
no_frame [] is = refl
no_frame (b ∷ bytes) is =
    let size = length (b ∷ bytes) in
    let stated = stated_length (b ∷ bytes) in
    let g = guard_ok (ltb size 4) _ _ None is in
    absurd (cc ((guard_ok (ltb stated 5 || ltb longest_document stated || ltb size stated) _ _ None g.1).1))

-- without a fault the bytes begin with a frame, and what is in it has no fault
abbrev pub Framed : Profile → ℕ → List ℕ → Type 0
Framed profile at bytes = (5 ≤ stated_length bytes) × (stated_length bytes ≤ length bytes) × (fault_under profile at (take (stated_length bytes) bytes) ≡ None)

framed_cases : (profile : Profile) (at b : ℕ) (bytes : List ℕ) (frame : Result (Option ℕ) FaultKind) → frame_length (b ∷ bytes) ≡ frame
    → framed_under profile at (b ∷ bytes) frame ≡ None → Framed profile at (b ∷ bytes)
framed_cases profile at b bytes (Err kind) is none = absurd cc
framed_cases profile at b bytes (Ok None) is none = absurd (let e = no_frame (b ∷ bytes) is in cc)
framed_cases profile at b bytes (Ok (Some n)) is none =
    let f = frame_inside (b ∷ bytes) n is in
    subst (λ (m : ℕ). (5 ≤ m) × (m ≤ length (b ∷ bytes)) × (fault_under profile at (take m (b ∷ bytes)) ≡ None)) (frame_states (b ∷ bytes) n is) (f.0, f.1, none)

pub framed_there : (profile : Profile) (at b : ℕ) (bytes : List ℕ) → is_none (frame_fault_under profile at (b ∷ bytes)) ≡ true → Framed profile at (b ∷ bytes)
framed_there profile at b bytes is = framed_cases profile at b bytes (frame_length (b ∷ bytes)) refl (is_none_none (frame_fault_under profile at (b ∷ bytes)) is)

-- documents whose bytes have no fault are joined, for any way of joining them
module _ (profile : Profile) (Is : Doc → List ℕ → Type 0) (Joined : List Doc → List ℕ → Type 0)
    (found : (at : ℕ) (bytes : List ℕ) → IsBytes bytes → fault_under profile at bytes ≡ None → (d : Doc) × Is d bytes)
    (nil : Joined [] []) (cons : (d : Doc) (ds : List Doc) (prefix rest bytes : List ℕ) → Is d prefix → Joined ds rest → prefix ++ rest ≡ bytes → Joined (d ∷ ds) bytes) where
  sound_joined : (n at : ℕ) (whole bytes : List ℕ) → IsBytes bytes → length bytes ≤ n → drop at whole ≡ bytes
      → have_no_fault profile whole (starts_from n at bytes) ≡ true → (ds : List Doc) × Joined ds bytes
  unfolding starts_from
  sound_joined n at whole [] fits le here is = ([], nil)
  sound_joined zero at whole (b ∷ bytes) fits le here is = absurd (omega (arith, le))
  sound_joined (suc n) at whole (b ∷ bytes) fits le here is =
      let size : ℕ = stated_length (b ∷ bytes) in
      let parts = both (is_none (frame_fault_under profile at (drop at whole))) (have_no_fault profile whole (starts_from n (at + size) (drop size (b ∷ bytes)))) is in
      let f = framed_there profile at b bytes (ap (λ (x : List ℕ). is_none (frame_fault_under profile at x)) (sym here) ∙ parts.0) in
      let d = found at (take size (b ∷ bytes)) (IsBytes-take size (b ∷ bytes) fits) f.2 in
      let later = sound_joined n (at + size) whole (drop size (b ∷ bytes)) (IsBytes-drop size (b ∷ bytes) fits) (omega (arith, le, f.0, length-drop size (b ∷ bytes)))
      (sym (drop-drop size at whole) ∙ ap (drop size) here) parts.1 in
      (d.0 ∷ later.0, cons d.0 later.0 (take size (b ∷ bytes)) (drop size (b ∷ bytes)) (b ∷ bytes) d.1 later.1 (take-append-drop size (b ∷ bytes)))

-- bytes without a fault under all types are a document by value
pub sound_document : (worth : ElementType → List ℕ → ℤ) (at : ℕ) (bytes : List ℕ) → IsBytes bytes → fault_under All at bytes ≡ None
    → (d : Doc) × IsDocumentBy (valued worth) d bytes
sound_document worth at bytes fits none = document_by_value worth (at + length bytes) bytes fits (no_err (skip_document All (at + length bytes) bytes) none)

-- a dump of which no document has a fault under all types is one of documents by value
pub sound_documents : (bytes : List ℕ) → IsBytes bytes → have_no_fault All bytes (starts_of bytes) ≡ true → AreDocuments bytes
unfolding starts_of
sound_documents bytes fits is worth =
    sound_joined All (IsDocumentBy (valued worth)) (AreJoinedBy (valued worth))
    (λ at b f none. sound_document worth at b f none)
    refl (λ d ds prefix rest b d_is j splits. (prefix, rest, d_is, j, sym splits))
    (length bytes) 0 bytes bytes fits (omega arith) refl is

-- a dump of which no document has a fault under the nineteen kinds is a dump of these
pub plain_documents : (bytes : List ℕ) → IsBytes bytes → have_no_fault Named bytes (starts_of bytes) ≡ true → (ds : List Doc) × AreJoined ds bytes
unfolding starts_of
plain_documents bytes fits is =
    sound_joined Named IsDocument AreJoined
    (λ at b f none. found_document at b f none)
    refl (λ d ds prefix rest b d_is j splits. (prefix, rest, d_is, j, sym splits))
    (length bytes) 0 bytes bytes fits (omega arith) refl is

-- ---- the document at a start

abbrev no_worth : ElementType → List ℕ → ℤ
no_worth type value = pos 0

all_at : (p : ℕ → Bool) (xs : List ℕ) (i : ℕ) → i < length xs → list_all p xs ≡ true → p (get_or xs i 0) ≡ true
all_at p [] i lt is = absurd (omega (arith, lt))
all_at p (x ∷ xs) zero lt is = (both (p x) (list_all p xs) is).0
all_at p (x ∷ xs) (suc i) lt is = all_at p xs i (omega (arith, lt)) (both (p x) (list_all p xs) is).1

get_same : (xs : List ℕ) (n d e : ℕ) → n < length xs → get_or xs n d ≡ get_or xs n e
get_same [] n d e lt = absurd (omega (arith, lt))
get_same (x ∷ xs) zero d e lt = refl
get_same (x ∷ xs) (suc n) d e lt = get_same xs n d e (omega (arith, lt))

-- The document with a number begins there, and has no fault.
pub record There (bytes : List ℕ) (start : ℕ) : Type 0 where
  pub inside : start ≤ length bytes
  pub framed : Framed All start (drop start bytes)

module _ (bytes starts : List ℕ) (fits : IsBytes bytes) (are : starts ≡ starts_of bytes) (sound : have_no_fault All bytes starts ≡ true) where
  sound_all : AreDocuments bytes
  sound_all = sound_documents bytes fits (subst (λ (ss : List ℕ). have_no_fault All bytes ss ≡ true) are sound)

  -- the starts are as many as the documents, by whatever worth
  pub counted : IsCount bytes (length starts)
  unfolding starts_of
  counted worth ds j = ap (λ (ss : List ℕ). length ss) are ∙ starts_count worth ds bytes (length bytes) 0 j (omega arith)

  begins_at : (worth : ElementType → List ℕ → ℤ) (ds : List Doc) → AreJoinedBy (valued worth) ds bytes → (n : ℕ) → n < length starts → Begins worth ds bytes bytes starts n
  unfolding starts_of
  begins_at worth ds j n lt = subst (λ (ss : List ℕ). Begins worth ds bytes bytes ss n) (sym are)
      (starts_begin worth ds bytes bytes (length bytes) 0 j (omega arith) refl n (omega (arith, lt, counted worth ds j)))

  -- the number of a document is that of a start
  pub number_inside : (n : ℕ) → (count : ℕ) × IsCount bytes count × (n < count) → n < length starts
  number_inside n h = let d = sound_all no_worth in omega (arith, h.2, h.1 no_worth d.0 d.1, counted no_worth d.0 d.1)

  pub there : (n : ℕ) → n < length starts → There bytes (get_or starts n 0)
  there n lt =
      let d = sound_all no_worth in
      let b = begins_at no_worth d.0 d.1 n lt in
      let start : ℕ = get_or starts n 0 in
      let long : 5 ≤ length (drop start bytes) =
      omega (arith, ap (λ (x : List ℕ). length x) b.5, length-append b.1 b.2, five_bytes (valued no_worth) b.0 b.1 b.2 b.4) in
      record {
        inside = omega (arith, long, length-drop start bytes);
        framed = framed_some start (drop start bytes) long (all_at (λ s. is_none (frame_fault_under All s (drop s bytes))) starts n lt sound);
      }
    where
      framed_some : (at : ℕ) (rest : List ℕ) → 5 ≤ length rest → is_none (frame_fault_under All at rest) ≡ true → Framed All at rest
      framed_some at [] long is = absurd (omega (arith, long))
      framed_some at (b ∷ rest) long is = framed_there All at b rest is

  pub document_at : (n size : ℕ) (document : List ℕ) → n < length starts → size ≡ stated_length (drop (get_or starts n 0) bytes)
      → document ≡ take size (drop (get_or starts n 0) bytes) → IsDocumentAt bytes n document
  document_at n size document lt stated is worth ds j =
      let b = begins_at worth ds j n lt in
      let same : size ≡ length b.1 = stated ∙ ap stated_length b.5 ∙ stated_there (valued worth) b.0 b.1 b.2 b.4 in
      let all : document ≡ b.1 = is ∙ ap (take size) b.5 ∙ take_at b.1 b.2 size (sym same) in
      (b.0, b.3, subst (IsDocumentBy (valued worth) b.0) (sym all) b.4, b.6, b.2, b.7, b.8 ∙ ap (λ (x : List ℕ). b.6 ++ (x ++ b.2)) (sym all))

  -- ---- by the offset, the bytes from there on, and the bytes of the document

  start_same : (n start : ℕ) → n < length starts → start ≡ get_or starts n start → start ≡ get_or starts n 0
  start_same n start lt is = is ∙ get_same starts n start 0 lt

  -- a document begins inside the bytes
  pub start_inside : (n start : ℕ) → n < length starts → start ≡ get_or starts n start → start ≤ length bytes
  start_inside n start lt is = subst (λ (s : ℕ). s ≤ length bytes) (sym (start_same n start lt is)) (there n lt).inside

  -- where a document begins, bytes have no fault up to the length that is stated there
  pub framed_here : (n start : ℕ) (rest : List ℕ) → n < length starts → start ≡ get_or starts n start → rest ≡ drop start bytes → Framed All start rest
  framed_here n start rest lt is rest_is =
      subst (Framed All start) (sym rest_is) (subst (λ (s : ℕ). Framed All s (drop s bytes)) (sym (start_same n start lt is)) (there n lt).framed)

  -- the bytes from a start on, as many as they state, are the document with that number
  pub document_here : (n start size : ℕ) (rest document : List ℕ) → n < length starts → start ≡ get_or starts n start → rest ≡ drop start bytes
      → size ≡ stated_length rest → document ≡ take size rest → IsDocumentAt bytes n document
  document_here n start size rest document lt is rest_is stated document_is =
      let same : rest ≡ drop (get_or starts n 0) bytes = rest_is ∙ ap (λ (s : ℕ). drop s bytes) (start_same n start lt is) in
      document_at n size document lt (stated ∙ ap stated_length same) (document_is ∙ ap (take size) same)

  -- the document at a place has no fault
  pub sound_here : (n start size : ℕ) (rest document : List ℕ) → n < length starts → start ≡ get_or starts n start → rest ≡ drop start bytes
      → size ≡ stated_length rest → document ≡ take size rest → (base : ℕ) × (fault_under All base document ≡ None)
  sound_here n start size rest document lt is rest_is stated document_is =
      (start, ap (fault_under All start) (document_is ∙ ap (λ (k : ℕ). take k rest) stated) ∙ (framed_here n start rest lt is rest_is).2)

-- ---- plain dumps

abbrev no_code : ℤ → ℤ
no_code z = pos 0

plain_step : (whole rest : List ℕ) (at : ℕ) (d : Doc) (prefix more : List ℕ) → IsDocument d prefix → rest ≡ prefix ++ more → frame_fault_under Named at rest ≡ None
plain_step whole rest at d prefix more is splits =
    ap (frame_fault_under Named at) splits ∙ ap (framed_under Named at (prefix ++ more)) (document_frame d prefix more is)
    ∙ ap (fault_under Named at) (take_at prefix more (length prefix) refl) ∙ document_faultless at prefix d is

plain_clean : (ds : List Doc) (whole bytes : List ℕ) (n at : ℕ) → AreJoined ds bytes → length bytes ≤ n → drop at whole ≡ bytes
    → have_no_fault Named whole (starts_from n at bytes) ≡ true
plain_clean [] whole bytes n at j le here =
    ap (λ (x : List ℕ). have_no_fault Named whole (starts_from n at x)) j ∙ ap (have_no_fault Named whole) (starts_end no_worth n at)
plain_clean (d ∷ ds) whole bytes n at j le here =
    let by = plain_by no_worth no_code ((λ z f. refl), (λ z f. refl)) d j.0 j.2 in
    let e = coded_document (number_as (int64_of no_code)) d in
    let size = ap (λ (x : List ℕ). length x) j.4 ∙ length-append j.0 j.1 in
    let five = five_bytes (valued no_worth) e j.0 j.1 by in
    let after : drop (at + length j.0) whole ≡ j.1 = sym (drop-drop (length j.0) at whole) ∙ ap (drop (length j.0)) (here ∙ j.4) ∙ drop_at j.0 j.1 (length j.0) refl in
    let first : is_none (frame_fault_under Named at (drop at whole)) ≡ true = ap is_none (plain_step whole (drop at whole) at d j.0 j.1 j.2 (here ∙ j.4)) in
    elim n as (λ (m : ℕ). length bytes ≤ m → have_no_fault Named whole (starts_from m at bytes) ≡ true) [
      | zero ↦ λ l. absurd (omega (arith, l, size, five))
      | suc m ↦ λ l. ap (have_no_fault Named whole) (starts_step no_worth e j.0 j.1 bytes m at by j.4)
          ∙ ap₂ (λ (a b : Bool). a && b) first (plain_clean ds whole j.1 m (at + length j.0) j.3 (omega (arith, l, size, five)) after)
    ] le

pub plain_starts : (ds : List Doc) (bytes : List ℕ) → AreJoined ds bytes → have_no_fault Named bytes (starts_of bytes) ≡ true
unfolding starts_of
plain_starts ds bytes j = plain_clean ds bytes bytes (length bytes) 0 j (omega arith) refl

-- a dump is one of the nineteen kinds exactly if no document has a fault under these
pub plain_exactly : (bytes starts : List ℕ) → IsBytes bytes → starts ≡ starts_of bytes → (plain : Bool) → plain ≡ have_no_fault Named bytes starts
    → length bytes ≤ longest_input → IsTrue plain ↔ ((ds : List Doc) × IsDump ds bytes)
plain_exactly bytes starts fits are plain is short =
    let same : plain ≡ have_no_fault Named bytes (starts_of bytes) = is ∙ ap (have_no_fault Named bytes) are in (
      (λ p. let d = plain_documents bytes fits (sym same ∙ p) in (d.0, (d.1, short))),
      (λ d. same ∙ plain_starts d.0 bytes d.1.0),
    )

-- documents have five bytes or more, so there are fewer than bytes
few_documents : (worth : ElementType → List ℕ → ℤ) (ds : List Doc) (bytes : List ℕ) → AreJoinedBy (valued worth) ds bytes → length ds ≤ length bytes
few_documents worth [] bytes j = omega arith
few_documents worth (d ∷ ds) bytes j =
    omega (arith, few_documents worth ds j.1 j.3, five_bytes (valued worth) d j.0 j.1 j.2, ap (λ (x : List ℕ). length x) j.4 ∙ length-append j.0 j.1)

pub few_starts : (bytes starts : List ℕ) → IsBytes bytes → starts ≡ starts_of bytes → have_no_fault All bytes starts ≡ true → length starts ≤ length bytes
few_starts bytes starts fits are sound =
    let d = sound_documents bytes fits (subst (λ (ss : List ℕ). have_no_fault All bytes ss ≡ true) are sound) no_worth in
    omega (arith, counted bytes starts fits are sound no_worth d.0 d.1, few_documents no_worth d.0 bytes d.1)

-- documents of the nineteen kinds are as many by value
joined_by : (es : List Doc) (bytes : List ℕ) → AreJoined es bytes → (ws : List Doc) × AreJoinedBy (valued no_worth) ws bytes × (length es ≡ length ws)
joined_by [] bytes j = ([], j, refl)
joined_by (d ∷ ds) bytes j =
    let by = plain_by no_worth no_code ((λ z f. refl), (λ z f. refl)) d j.0 j.2 in
    let more = joined_by ds j.1 j.3 in
    (coded_document (number_as (int64_of no_code)) d ∷ more.0, (j.0, j.1, by, more.1, j.4), ap suc more.2)

pub plain_count : (es : List Doc) (bytes : List ℕ) → AreJoined es bytes → IsCount bytes (length es)
plain_count es bytes j worth ds are =
    let by = joined_by es bytes j in
    let le : length bytes ≤ length bytes = omega arith in
    by.2 ∙ sym (starts_count no_worth by.0 bytes (length bytes) 0 by.1 le) ∙ starts_count worth ds bytes (length bytes) 0 are le
