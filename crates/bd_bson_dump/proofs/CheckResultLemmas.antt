-- The check results of the documents of a dump.
use Rattle.std.proofs.Common.{◌≡◌, ◌≤◌, ℕ, zero, suc, ◌+◌, List, [], ◌∷◌, ◌++◌, length, take, drop, map, Option, Some, None, Result, Ok, Err, refl, sym, ap, ◌∙◌, subst}
use Rattle.std.proofs.Common.{arith, append-nil, append_assoc, length-drop, length-append}
use Rattle.std.proofs.lemmas.List.{nil_from_length, take_at, drop_at}
use Rattle.std.specs.List.{AllByRecursion}
use Rattle.bd_value.specs.Tree.{Doc}
use Rattle.bd_bson_check.specs.Dump.{AreJoined, IsDumpScan, frame_length, framed_fault, framed_under, frame_fault_under}
use Rattle.bd_bson_check.specs.{declared.fault.FaultKind.FaultKind, Fault.Fault, FirstFault.fault_under}
use Rattle.bd_bson_check.specs.declared.profile.{Profile.Profile, Profile.TheVariants.Named}
use Rattle.bd_bson_view.specs.Spelling.{IsDocument}
use Rattle.bd_bson_dump.specs.CheckResults.{check_results_by, check_results_from, check_results_at, check_results, BeginAs}
use Rattle.bd_bson_check.proofs.{FirstFaultLemmas.IsBytes, DumpLemmas.document_faultless, DumpLemmas.document_frame, DumpLemmas.frame_inside, DumpLemmas.scan_on}

abbrev CheckResults : Type 0
CheckResults = List (Option Fault)

-- ---- a bound of as many steps as there are bytes is enough

nothing_from : (p : Profile) (turns base : ℕ) → check_results_from p turns base [] ≡ []
unfolding check_results_from
nothing_from p zero base = refl
nothing_from p (suc turns) base = refl

same_after : (first : Option Fault) (f g : ℕ → CheckResults) (frame : Result (Option ℕ) FaultKind) → ((n : ℕ) → frame ≡ Ok (Some n) → f n ≡ g n)
    → check_results_by first f frame ≡ check_results_by first g frame
same_after first f g (Ok None) same = refl
same_after first f g (Ok (Some n)) same = ap (λ (vs : CheckResults). first ∷ vs) (same n refl)
same_after first f g (Err kind) same = refl

turns_enough : (p : Profile) (m n base : ℕ) (bytes : List ℕ) → length bytes ≤ m → length bytes ≤ n → check_results_from p m base bytes ≡ check_results_from p n base bytes
unfolding check_results_from
turns_enough p zero n base bytes a b = rw (nil_from_length bytes (omega arith)) (sym (nothing_from p n base))
turns_enough p (suc m) zero base bytes a b = rw (nil_from_length bytes (omega arith)) refl
turns_enough p (suc m) (suc n) base bytes a b =
    same_after (frame_fault_under p base bytes) (λ k. check_results_from p m (base + k) (drop k bytes)) (λ k. check_results_from p n (base + k) (drop k bytes)) (frame_length bytes)
    (λ k is. let i = frame_inside bytes k is in turns_enough p m n (base + k) (drop k bytes) (omega (arith, i.0, i.1, length-drop k bytes)) (omega (arith, i.0, i.1, length-drop k bytes)))

-- ---- the documents in turn

-- the end of a dump has no results
pub none_at : (p : Profile) (base : ℕ) → check_results_at p base [] ≡ []
unfolding check_results_at
none_at p base = nothing_from p 0 base

by_frame : (p : Profile) (base : ℕ) (b : ℕ) (bytes : List ℕ) (frame : Result (Option ℕ) FaultKind) → frame_length (b ∷ bytes) ≡ frame
    → check_results_at p base (b ∷ bytes) ≡ check_results_by (framed_under p base (b ∷ bytes) frame) (λ k. check_results_from p (length bytes) (base + k) (drop k (b ∷ bytes))) frame
unfolding check_results_at check_results_from
by_frame p base b bytes frame is = ap (λ (f : Result (Option ℕ) FaultKind). check_results_by (framed_under p base (b ∷ bytes) f) (λ k. check_results_from p (length bytes) (base + k) (drop k (b ∷ bytes))) f) is

after_enough : (p : Profile) (turns base : ℕ) (bytes : List ℕ) → length bytes ≤ turns → check_results_from p turns base bytes ≡ check_results_at p base bytes
unfolding check_results_at
after_enough p turns base bytes le = turns_enough p turns (length bytes) base bytes le (omega arith)

-- the results begin with that of the first document, and continue after the bytes that its length counts
pub turn_at : (p : Profile) (base n : ℕ) (bytes : List ℕ) → frame_length bytes ≡ Ok (Some n) → check_results_at p base bytes ≡ fault_under p base (take n bytes) ∷ check_results_at p (base + n) (drop n bytes)
turn_at p base n [] is = absurd cc
turn_at p base n (b ∷ bytes) is =
    let i = frame_inside (b ∷ bytes) n is in
    by_frame p base b bytes (Ok (Some n)) is
    ∙ ap (λ (vs : CheckResults). fault_under p base (take n (b ∷ bytes)) ∷ vs) (after_enough p (length bytes) (base + n) (drop n (b ∷ bytes)) (omega (arith, i.0, i.1, length-drop n (b ∷ bytes))))

-- a bad length has the last result
pub last_at : (p : Profile) (base : ℕ) (bytes : List ℕ) (kind : FaultKind) → frame_length bytes ≡ Err kind → check_results_at p base bytes ≡ Some (record { kind = kind; offset = base; path = [] }) ∷ []
last_at p base [] kind is = absurd cc
last_at p base (b ∷ bytes) kind is = by_frame p base b bytes (Err kind) is

-- ---- the same as the scan

document_at : (base : ℕ) (d : Doc) (prefix rest : List ℕ) → IsDocument d prefix → check_results_at Named base (prefix ++ rest) ≡ None ∷ check_results_at Named (base + length prefix) rest
document_at base d prefix rest is =
    turn_at Named base (length prefix) (prefix ++ rest) (document_frame d prefix rest is)
    ∙ rw (take_at prefix rest (length prefix) refl, drop_at prefix rest (length prefix) refl, document_faultless base prefix d is) refl

joined_at : (base : ℕ) (ds : List Doc) (prefix rest : List ℕ) → AreJoined ds prefix → check_results_at Named base (prefix ++ rest) ≡ map (λ d. None) ds ++ check_results_at Named (base + length prefix) rest
joined_at base [] prefix rest j = rw j (ap (λ n. check_results_at Named n rest) (omega arith))
joined_at base (d ∷ ds) prefix rest j =
    let whole : prefix ++ rest ≡ j.0 ++ (j.1 ++ rest) = ap (λ (x : List ℕ). x ++ rest) j.4 ∙ append_assoc j.0 j.1 rest in
    let size : base + length j.0 + length j.1 ≡ base + length prefix = omega (arith, ap length j.4, length-append j.0 j.1) in
    ap (check_results_at Named base) whole
    ∙ document_at base d j.0 (j.1 ++ rest) j.2
    ∙ ap (λ (vs : CheckResults). None ∷ vs) (joined_at (base + length j.0) ds j.1 rest j.3 ∙ ap (λ (n : ℕ). map (λ d. None) ds ++ check_results_at Named n rest) size)

fault_at : (base : ℕ) (bytes : List ℕ) (f : Fault) (frame : Result (Option ℕ) FaultKind) → frame_length bytes ≡ frame → framed_fault base bytes frame ≡ Some f
    → (others : CheckResults) × (check_results_at Named base bytes ≡ Some f ∷ others)
fault_at base bytes f (Ok None) is has = absurd cc
fault_at base bytes f (Ok (Some n)) is has =
    let others = check_results_at Named (base + n) (drop n bytes) in
    (others, turn_at Named base n bytes is ∙ ap (λ (v : Option Fault). v ∷ others) has)
fault_at base bytes f (Err kind) is has = ([], last_at Named base bytes kind is ∙ ap (λ (v : Option Fault). v ∷ []) has)

-- the results begin as the scan does: none has a fault before the first fault
pub as_scan : (ds : List Doc) (end : Option Fault) (bytes : List ℕ) → IsDumpScan ds end bytes → BeginAs ds end (check_results bytes)
as_scan ds None bytes w =
    ap check_results (sym (append-nil bytes)) ∙ joined_at 0 ds bytes [] w
    ∙ ap (λ (vs : CheckResults). map (λ d. None) ds ++ vs) (none_at Named (0 + length bytes)) ∙ append-nil (map (λ d. None) ds)
as_scan ds (Some f) bytes w =
    let found = fault_at (length w.0) w.1 f (frame_length w.1) refl w.4 in
    let place : 0 + length w.0 ≡ length w.0 = omega arith in
    (found.0, ap check_results w.3 ∙ joined_at 0 ds w.0 w.1 w.2 ∙ ap (λ (vs : CheckResults). map (λ d. None) ds ++ vs) (ap (λ n. check_results_at Named n w.1) place ∙ found.1))

no_fault_among : (ds : List Doc) (f : Fault) (others : CheckResults) → AllByRecursion (λ v. v ≡ None) (map (λ d. None) ds ++ Some f ∷ others) → ⊥
no_fault_among [] f others all = let e = all.0 in absurd cc
no_fault_among (d ∷ ds) f others all = no_fault_among ds f others all.1

joined_where : (ds : List Doc) (end : Option Fault) (bytes : List ℕ) → IsDumpScan ds end bytes → AllByRecursion (λ v. v ≡ None) (check_results bytes) → (ds : List Doc) × AreJoined ds bytes
joined_where ds None bytes w all = (ds, w)
joined_where ds (Some f) bytes w all =
    let begins = as_scan ds (Some f) bytes w in
    absurd (no_fault_among ds f begins.0 (subst (AllByRecursion (λ v. v ≡ None)) begins.1 all))

pub joined_where_whole : (bytes : List ℕ) → IsBytes bytes → AllByRecursion (λ v. v ≡ None) (check_results bytes) → (ds : List Doc) × AreJoined ds bytes
joined_where_whole bytes fits all = let w = scan_on [] [] bytes fits refl in joined_where w.more w.end bytes w.scan all
