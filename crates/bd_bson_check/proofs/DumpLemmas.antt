-- Documents one after the other.
use Rattle.std.proofs.Common.{◌≡◌, ℕ, zero, suc, ◌+◌, ◌≤◌, false, ltb, List, [], ◌∷◌, ◌++◌, length, take, drop, Option, Some, None, Result, Ok, Err, refl, sym, ap, ap₂}
use Rattle.std.proofs.Common.{◌∙◌, subst, append_assoc, arith, ◌||◌}
use Rattle.std.specs.Result.{result_err}
use Rattle.std.proofs.lemmas.Bool.{ltb-false, le-ltb, or_from, or_parts}
use Rattle.std.proofs.lemmas.List.{take_at, length-append, length-drop, take-append-drop, append-nil, nil_from_length}
use Rattle.bd_value.specs.{Limits.longest_document, Tree.Doc}
use Rattle.bd_bson_check.specs.Dump.{stated_length, frame_length, framed_fault, frame_fault, AreJoined, IsDumpScan}
use Rattle.bd_bson_check.specs.{declared.fault.FaultKind.FaultKind, Fault.Fault, FirstFault.first_fault, FirstFault.skip_document}
use Rattle.bd_bson_check.specs.declared.profile.Profile.TheVariants.{Named}
use Rattle.bd_bson_view.specs.{Spelling.IsDocument, Spelling.framed, Unique.number_prefix, Sizes.number_of, Unique.framed_after, Unique.cancel}
use Rattle.bd_bson_view.proofs.{ValueAtLemmas.framed_length, SoundLemmas.document_unique}
use Rattle.bd_bson_check.proofs.FirstFaultLemmas.{guard_ok, IsBytes, IsBytes-take, IsBytes-drop, document_found, document_again}

-- ---- the length at the start of a document

stated : (body rest : List ℕ) → length (framed body) ≤ longest_document → stated_length (framed body ++ rest) ≡ length (framed body)
stated body rest short =
    let size = framed_length body in
    ap number_of (framed_after body rest) ∙ number_prefix (length body + 5) (body ++ 0 ∷ rest) (omega arith) ∙ sym size

-- a length from 5 to 16,793,600 and within the bytes is the length of a document
pub frame_good : (bytes : List ℕ) (n : ℕ) → stated_length bytes ≡ n → 5 ≤ n → n ≤ longest_document → n ≤ length bytes → frame_length bytes ≡ Ok (Some n)
frame_good [] n is low high le = absurd (omega arith)
frame_good (b ∷ bytes) n is low high le =
    let long : ltb (length (b ∷ bytes)) 4 ≡ false = le-ltb _ _ (omega arith) in
    let tests = or_from (ltb n 5 || ltb longest_document n) (ltb (length (b ∷ bytes)) n) (or_from (ltb n 5) (ltb longest_document n) (le-ltb _ _ low) (le-ltb _ _ high)) (le-ltb _ _ le) in
    rw (long, is, tests) refl

-- the length at the start of a document's bytes counts exactly these, whatever follows
pub document_frame : (d : Doc) (prefix rest : List ℕ) → IsDocument d prefix → frame_length (prefix ++ rest) ≡ Ok (Some (length prefix))
document_frame d prefix rest h =
    let s = h.spells in
    let short : length (framed s.0) ≤ longest_document = let m = h.short in omega (arith, ap length s.2) in
    let t : stated_length (prefix ++ rest) ≡ length prefix = ap (λ (x : List ℕ). stated_length (x ++ rest)) s.2 ∙ stated s.0 rest short ∙ sym (ap length s.2) in
    frame_good (prefix ++ rest) (length prefix) t (omega (arith, ap length s.2, framed_length s.0)) h.short (omega (arith, length-append prefix rest))

-- ---- the scan of a dump has one result

-- the bytes of a document have no fault
pub document_faultless : (base : ℕ) (bytes : List ℕ) (d : Doc) → IsDocument d bytes → first_fault base bytes ≡ None
document_faultless base bytes d h = ap result_err (document_again Named (base + length bytes) bytes d h)

frame_faultless : (base : ℕ) (d : Doc) (prefix rest : List ℕ) → IsDocument d prefix → frame_fault base (prefix ++ rest) ≡ None
frame_faultless base d prefix rest h =
    ap (framed_fault base (prefix ++ rest)) (document_frame d prefix rest h) ∙ ap (first_fault base) (take_at prefix rest (length prefix) refl) ∙ document_faultless base prefix d h

prefixes : (c d : Doc) (a b x y : List ℕ) → IsDocument c a → IsDocument d b → a ++ x ≡ b ++ y → (c ≡ d) × (a ≡ b) × (x ≡ y)
prefixes c d a b x y p q h =
    let m : length a ≡ length b = let e = sym (document_frame c a x p) ∙ ap frame_length h ∙ document_frame d b y q in cc in
    let same : a ≡ b = sym (take_at a x (length a) refl) ∙ ap (take (length a)) h ∙ take_at b y (length a) (sym m) in
    (document_unique b c d (rw same at p) q, same, cancel a b x y same h)

-- no document is at the start
unfoldable pub Stuck : List ℕ → Type 0
Stuck x = (d : Doc) (prefix rest : List ℕ) → IsDocument d prefix → x ≡ prefix ++ rest → ⊥

nothing_stuck : Stuck []
unfolding Stuck
nothing_stuck d prefix rest h e = let f = ap frame_length e ∙ document_frame d prefix rest h in absurd cc

fault_stuck : (base : ℕ) (x : List ℕ) (f : Fault) → frame_fault base x ≡ Some f → Stuck x
unfolding Stuck
fault_stuck base x f is d prefix rest h e = let g = sym is ∙ ap (frame_fault base) e ∙ frame_faultless base d prefix rest h in absurd cc

not_joined : (e : Doc) (es : List Doc) (b x y : List ℕ) → AreJoined (e ∷ es) b → Stuck x → x ≡ b ++ y → ⊥
unfolding Stuck
not_joined e es b x y q s h = s e q.0 (q.1 ++ y) q.2 (h ∙ ap (λ (v : List ℕ). v ++ y) q.4 ∙ append_assoc q.0 q.1 y)

pub joined_once : (ds es : List Doc) (a b x y : List ℕ) → AreJoined ds a → AreJoined es b → Stuck x → Stuck y → a ++ x ≡ b ++ y → (ds ≡ es) × (a ≡ b) × (x ≡ y)
joined_once [] [] a b x y p q s t h =
    let e : x ≡ y = sym (ap (λ (v : List ℕ). v ++ x) p) ∙ h ∙ ap (λ (v : List ℕ). v ++ y) q in
    (refl, p ∙ sym q, e)
joined_once [] (e ∷ es) a b x y p q s t h = absurd (not_joined e es b x y q s (sym (ap (λ (v : List ℕ). v ++ x) p) ∙ h))
joined_once (d ∷ ds) [] a b x y p q s t h = absurd (not_joined d ds a y x p t (sym (ap (λ (v : List ℕ). v ++ y) q) ∙ sym h))
joined_once (d ∷ ds) (e ∷ es) a b x y p q s t h =
    let whole : p.0 ++ (p.1 ++ x) ≡ q.0 ++ (q.1 ++ y) = sym (append_assoc p.0 p.1 x) ∙ sym (ap (λ (v : List ℕ). v ++ x) p.4) ∙ h ∙ ap (λ (v : List ℕ). v ++ y) q.4 ∙ append_assoc q.0 q.1 y in
    let first = prefixes d e p.0 q.0 (p.1 ++ x) (q.1 ++ y) p.2 q.2 whole in
    let others = joined_once ds es p.1 q.1 x y p.3 q.3 s t first.2 in
    (ap₂ (λ (u : Doc) (us : List Doc). u ∷ us) first.0 others.0, p.4 ∙ ap₂ (λ (u v : List ℕ). u ++ v) first.1 others.1 ∙ sym q.4, others.2)

-- the end of a scan: no document is there, and its fault or None
scan_ends : (ds : List Doc) (o : Option Fault) (bytes : List ℕ) → IsDumpScan ds o bytes
    → (prefix : List ℕ) × (rest : List ℕ) × AreJoined ds prefix × (bytes ≡ prefix ++ rest) × Stuck rest × (frame_fault (length prefix) rest ≡ o)
scan_ends ds None bytes v = (bytes, [], v, sym (append-nil bytes), nothing_stuck, refl)
scan_ends ds (Some f) bytes v = (v.0, v.1, v.2, v.3, fault_stuck (length v.0) v.1 f v.4, v.4)

-- bytes have one scan: one list of documents, and one fault after them or None
pub scan_once : (ds es : List Doc) (o p : Option Fault) (bytes : List ℕ) → IsDumpScan ds o bytes → IsDumpScan es p bytes → (ds ≡ es) × (o ≡ p)
scan_once ds es o p bytes v w =
    let a = scan_ends ds o bytes v in
    let b = scan_ends es p bytes w in
    let e = joined_once ds es a.0 b.0 a.1 b.1 a.2 b.2 a.4 b.4 (sym a.3 ∙ b.3) in
    (e.0, sym a.5 ∙ ap₂ (λ (x y : List ℕ). frame_fault (length x) y) e.1 e.2 ∙ b.5)

-- ---- and it ends

-- two dumps joined are the dump of the documents of both
pub joined_append : (ds es : List Doc) (a b : List ℕ) → AreJoined ds a → AreJoined es b → AreJoined (ds ++ es) (a ++ b)
joined_append [] es a b p q = subst (AreJoined es) (sym (ap (λ (v : List ℕ). v ++ b) p)) q
joined_append (d ∷ ds) es a b p q = (p.0, p.1 ++ b, p.2, joined_append ds es p.1 b p.3 q, ap (λ (v : List ℕ). v ++ b) p.4 ∙ append_assoc p.0 p.1 b)

-- the bytes of a document are a dump of that document alone
pub joined_one : (d : Doc) (bytes : List ℕ) → IsDocument d bytes → AreJoined (d ∷ []) bytes
joined_one d bytes h = (bytes, [], h, refl, sym (append-nil bytes))

-- what a scan finds after some documents
pub record Scanned (done : List Doc) (prefix rest : List ℕ) : Type 0 where
  pub more : List Doc
  pub end : Option Fault
  pub scan : IsDumpScan (done ++ more) end (prefix ++ rest)

stops_at : (done : List Doc) (prefix rest : List ℕ) (f : Fault) → AreJoined done prefix → frame_fault (length prefix) rest ≡ Some f → Scanned done prefix rest
stops_at done prefix rest f j is = record { more = []; end = Some f; scan = (prefix, rest, subst (λ (ds : List Doc). AreJoined ds prefix) (sym (append-nil done)) j, refl, is) }

ends_at : (done : List Doc) (prefix rest : List ℕ) → AreJoined done prefix → rest ≡ [] → Scanned done prefix rest
ends_at done prefix rest j is = record { more = []; end = None; scan = subst (λ (v : List ℕ). AreJoined (done ++ []) (prefix ++ v)) (sym is) (joined_append done [] prefix [] j refl) }

goes_on : (done : List Doc) (d : Doc) (prefix first rest bytes : List ℕ) → first ++ rest ≡ bytes → Scanned (done ++ d ∷ []) (prefix ++ first) rest → Scanned done prefix bytes
goes_on done d prefix first rest bytes splits w =
    let scan : IsDumpScan (done ++ d ∷ w.more) w.end (prefix ++ bytes) = rw (← splits, ← append_assoc prefix first rest, ← append_assoc done (d ∷ []) w.more) w.scan in
    record { more = d ∷ w.more; end = w.end; scan = scan }

-- a frame takes at least five bytes, and no more than there are
pub frame_inside : (bytes : List ℕ) (n : ℕ) → frame_length bytes ≡ Ok (Some n) → (5 ≤ n) × (n ≤ length bytes) × (n ≤ longest_document)
frame_inside [] n is = absurd cc
frame_inside (b ∷ bytes) n is =
    let size = length (b ∷ bytes) in
    let stated = stated_length (b ∷ bytes) in
    let g = guard_ok (ltb size 4) _ _ (Some n) is in
    let h = guard_ok (ltb stated 5 || ltb longest_document stated || ltb size stated) _ _ (Some n) g.1 in
    let i = or_parts (ltb stated 5 || ltb longest_document stated) (ltb size stated) h.0 in
    let j = or_parts (ltb stated 5) (ltb longest_document stated) i.0 in
    let same : stated ≡ n = cc (h.1) in
    rw (← same) (ltb-false _ _ j.0, ltb-false _ _ i.1, ltb-false _ _ j.1)

no_frame : (bytes : List ℕ) → frame_length bytes ≡ Ok None → bytes ≡ []
no_frame [] is = refl
no_frame (b ∷ bytes) is =
    let size = length (b ∷ bytes) in
    let stated = stated_length (b ∷ bytes) in
    let g = guard_ok (ltb size 4) _ _ None is in
    absurd (cc ((guard_ok (ltb stated 5 || ltb longest_document stated || ltb size stated) _ _ None g.1).1))

no_fault : (r : Result (Unit {0}) Fault) → result_err r ≡ None → r ≡ Ok tt
no_fault (Ok u) is = refl
no_fault (Err f) is = absurd cc

-- bytes without a fault are a document
pub found_document : (base : ℕ) (bytes : List ℕ) → IsBytes bytes → first_fault base bytes ≡ None → (d : Doc) × IsDocument d bytes
found_document base bytes fits is = document_found (base + length bytes) bytes fits (no_fault (skip_document Named (base + length bytes) bytes) is)

abbrev Scanner : ℕ → Type 0
Scanner turns = (done : List Doc) (prefix rest : List ℕ) → length rest ≤ turns → IsBytes rest → AreJoined done prefix → Scanned done prefix rest

module _ (turns : ℕ) (scan : Scanner turns) (done : List Doc) (prefix rest : List ℕ) (le : length rest ≤ suc turns) (fits : IsBytes rest) (j : AreJoined done prefix) where
  scan_document : (n : ℕ) (first : Option Fault) → frame_length rest ≡ Ok (Some n) → first_fault (length prefix) (take n rest) ≡ first → Scanned done prefix rest
  scan_document n (Some f) is first_is = stops_at done prefix rest f j (ap (framed_fault (length prefix) rest) is ∙ first_is)
  scan_document n None is first_is =
      let d = found_document (length prefix) (take n rest) (IsBytes-take n rest fits) first_is in
      let size = frame_inside rest n is in
      goes_on done d.0 prefix (take n rest) (drop n rest) rest (take-append-drop n rest)
      (scan (done ++ d.0 ∷ []) (prefix ++ take n rest) (drop n rest) (omega (arith, length-drop n rest, size.0, size.1)) (IsBytes-drop n rest fits)
      (joined_append done (d.0 ∷ []) prefix (take n rest) j (joined_one d.0 (take n rest) d.1)))

  scan_frame : (frame : Result (Option ℕ) FaultKind) → frame_length rest ≡ frame → Scanned done prefix rest
  scan_frame (Err kind) is = stops_at done prefix rest (record { kind = kind; offset = length prefix; path = [] }) j (ap (framed_fault (length prefix) rest) is)
  scan_frame (Ok None) is = ends_at done prefix rest j (no_frame rest is)
  scan_frame (Ok (Some n)) is = scan_document n (first_fault (length prefix) (take n rest)) is refl

scan : (turns : ℕ) → Scanner turns
scan zero done prefix rest le fits j = ends_at done prefix rest j (nil_from_length rest (omega arith))
scan (suc turns) done prefix rest le fits j = scan_frame turns (scan turns) done prefix rest le fits j (frame_length rest) refl

-- a scan continues after any documents
pub scan_on : (done : List Doc) (prefix rest : List ℕ) → IsBytes rest → AreJoined done prefix → Scanned done prefix rest
scan_on done prefix rest fits j = scan (length rest) done prefix rest (omega arith) fits j
