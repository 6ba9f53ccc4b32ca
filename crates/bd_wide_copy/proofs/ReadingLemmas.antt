-- The documents of a dump, as they are read one after the other.
use Rattle.std.proofs.Common.{◌≡◌, ℕ, ℤ, zero, suc, ◌+◌, ◌-◌, ◌*◌, ◌≤◌, List, [], ◌∷◌, ◌++◌, length, take, drop, Option, Some, None, Ok, refl, sym, ap, ap₂, ◌∙◌, subst, arith, append_assoc, append-nil, length-append, length-drop, Bool, true, false, ◌&&◌, inl, inr}
use Rattle.std.specs.{Option.is_none}
use Rattle.std.proofs.Math.Seq.{take-add}
use Rattle.std.proofs.lemmas.{List.take-append-drop, List.drop-drop, List.length-take, List.Folds.list_all-append}
use Rattle.bd_value.specs.{Limits.longest_input, Tree.Doc}
use Rattle.bd_bson_view.specs.Spelling.{valued}
use Rattle.bd_bson_view.specs.declared.raw_parts.ElementType.{ElementType}
use Rattle.bd_bson_check.specs.declared.fault.Fault as reported
use Rattle.bd_bson_check.specs.declared.profile.Profile.{Profile}
use Rattle.bd_bson_check.specs.declared.profile.Profile.TheVariants.{All, Named}
use Rattle.bd_bson_check.specs.{Fault.Fault, Fault.ReportsFault, Dump.stated_length, Dump.frame_length, Dump.framed_under, Dump.frame_fault_under, FirstFault.ReportsNoNumber, FirstFault.fault_under}
use Rattle.bd_bson_check.proofs.ProfileLemmas.{others_are_first}
use Rattle.bd_bson_check.proofs.FirstFaultLemmas.{IsBytes, IsBytes-take, IsBytes-drop}
use Rattle.bd_wide_copy.specs.declared.reading.Next.{Next}
use Rattle.bd_wide_copy.specs.Dump.{AreJoinedBy, IsUnread}
use Rattle.bd_wide_copy.specs.Starts.{starts_from, starts_of, have_no_fault}
use Rattle.bd_wide_copy.specs.inside.Starts.{IsNextDocument}
use Rattle.bd_wide_copy.proofs.StartsLemmas.{frame_states, starts_count, sound_document}

joined_append : (worth : ElementType → List ℕ → ℤ) (ds es : List Doc) (a b : List ℕ) → AreJoinedBy (valued worth) ds a → AreJoinedBy (valued worth) es b
    → AreJoinedBy (valued worth) (ds ++ es) (a ++ b)
joined_append worth [] es a b p q = subst (AreJoinedBy (valued worth) es) (sym (ap (λ (v : List ℕ). v ++ b) p)) q
joined_append worth (d ∷ ds) es a b p q =
    (p.0, p.1 ++ b, p.2, joined_append worth ds es p.1 b p.3 q, ap (λ (v : List ℕ). v ++ b) p.4 ∙ append_assoc p.0 p.1 b)

-- what was read up to an offset
pub record SoFar (bytes starts : List ℕ) (plain : Bool) (at : ℕ) : Type 0 where
  pub steps : ℕ
  pub enough : length (drop at bytes) ≤ steps
  pub begin : starts_of bytes ≡ starts ++ starts_from steps at (drop at bytes)
  pub sound : have_no_fault All bytes starts ≡ true
  pub plain_is : plain ≡ have_no_fault Named bytes starts
  pub documents : (worth : ElementType → List ℕ → ℤ) → (ds : List Doc) × AreJoinedBy (valued worth) ds (take at bytes) × (length starts ≡ length ds)
  pub inside : at ≤ length bytes
  pub few : 5 * length starts ≤ at

module _ (bytes : List ℕ) where
  pub begins : (starts : List ℕ) → starts ≡ [] → SoFar bytes starts true 0
  unfolding starts_of
  begins starts is = subst (λ (ss : List ℕ). SoFar bytes ss true 0) (sym is) (record {
    steps = length bytes;
    enough = omega arith;
    begin = refl;
    sound = refl;
    plain_is = refl;
    documents = λ worth. ([], refl, refl);
    inside = omega arith;
    few = omega arith;
  })

  start_cases : (at n : ℕ) → 5 ≤ n → (rest : List ℕ) (steps : ℕ) → drop at bytes ≡ rest → length rest ≤ steps → 5 ≤ length rest → frame_length rest ≡ Ok (Some n)
      → (m : ℕ) × (length (drop (at + n) bytes) ≤ m) × (starts_from steps at rest ≡ at ∷ starts_from m (at + n) (drop (at + n) bytes))
  unfolding starts_from
  start_cases at n five [] steps is l s f = absurd (omega (arith, s))
  start_cases at n five (b ∷ rest) zero is l s f = absurd (omega (arith, l))
  start_cases at n five (b ∷ rest) (suc m) is l s f =
      let stated : stated_length (b ∷ rest) ≡ n = sym (frame_states (b ∷ rest) n f) in
      let after : drop n (b ∷ rest) ≡ drop (at + n) bytes = ap (drop n) (sym is) ∙ drop-drop n at bytes in (
        m,
        omega (arith, l, five, ap (λ (x : List ℕ). length x) after, length-drop n (b ∷ rest)),
        ap (λ (k : ℕ). at ∷ starts_from m (at + k) (drop k (b ∷ rest))) stated ∙ ap (λ (x : List ℕ). at ∷ starts_from m (at + n) x) after,
      )

  fault_at_start : (profile : Profile) (at n : ℕ) → frame_length (drop at bytes) ≡ Ok (Some n)
      → frame_fault_under profile at (drop at bytes) ≡ fault_under profile at (take n (drop at bytes))
  fault_at_start profile at n frame = ap (framed_under profile at (drop at bytes)) frame

  pub goes_on : (fits : IsBytes bytes) (starts more : List ℕ) (plain : Bool) (at : ℕ) (next : Next) → SoFar bytes starts plain at
      → IsNextDocument plain bytes at next → more ≡ starts ++ at ∷ [] → SoFar bytes more next.plain next.end
  goes_on fits starts more plain at next s d is =
      let n : ℕ = next.end - at in
      let size : at + n ≡ next.end = omega (arith, d.after) in
      let five : 5 ≤ n = omega (arith, d.after) in
      let step = start_cases at n five (drop at bytes) s.steps refl s.enough (omega (arith, five, d.inside, size, length-drop at bytes)) d.frame in
      let none : is_none (frame_fault_under All at (drop at bytes)) ≡ true = ap is_none (fault_at_start All at n d.frame ∙ d.sound) in
      let document : List ℕ = take n (drop at bytes) in
      let taken : take (at + n) bytes ≡ take at bytes ++ document = take-add at n bytes in
      let all : SoFar bytes (starts ++ at ∷ []) next.plain (at + n) = record {
        steps = step.0;
        enough = step.1;
        begin = s.begin ∙ ap (λ (x : List ℕ). starts ++ x) step.2 ∙ sym (append_assoc starts (at ∷ []) (starts_from step.0 (at + n) (drop (at + n) bytes)));
        sound = list_all-append (λ s. is_none (frame_fault_under All s (drop s bytes))) starts (at ∷ [])
            ∙ ap₂ (λ (a b : Bool). a && (b && true)) s.sound none;
        plain_is = d.plain_is ∙ ap₂ (λ (a b : Bool). a && b) s.plain_is (ap is_none (sym (fault_at_start Named at n d.frame)) ∙ and_true (is_none (frame_fault_under Named at (drop at bytes))))
            ∙ sym (list_all-append (λ s. is_none (frame_fault_under Named s (drop s bytes))) starts (at ∷ []));
        documents = λ worth.
            let before = s.documents worth in
            let one = sound_document worth at document (IsBytes-take n (drop at bytes) (IsBytes-drop at bytes fits)) d.sound in (
              before.0 ++ one.0 ∷ [],
              subst (AreJoinedBy (valued worth) (before.0 ++ one.0 ∷ [])) (sym taken)
                  (joined_append worth before.0 (one.0 ∷ []) (take at bytes) document before.1 (document, [], one.1, refl, sym (append-nil document))),
              length-append starts (at ∷ []) ∙ ap (λ (k : ℕ). k + 1) before.2 ∙ sym (length-append before.0 (one.0 ∷ [])),
            );
        inside = omega (arith, size, d.inside);
        few = omega (arith, s.few, five, length-append starts (at ∷ []));
      } in
      subst (λ (ss : List ℕ). SoFar bytes ss next.plain next.end) (sym is) (subst (SoFar bytes (starts ++ at ∷ []) next.plain) size all)
    where
      and_true : (b : Bool) → b ≡ (b && true)
      and_true true = refl
      and_true false = refl

  no_starts : (n at : ℕ) → starts_from n at [] ≡ []
  unfolding starts_from
  no_starts zero at = refl
  no_starts (suc n) at = refl

  pub ended : (starts : List ℕ) (plain : Bool) (at : ℕ) → SoFar bytes starts plain at → drop at bytes ≡ [] → starts ≡ starts_of bytes
  ended starts plain at s is =
      sym (s.begin ∙ ap (λ (x : List ℕ). starts ++ starts_from s.steps at x) is ∙ ap (λ (x : List ℕ). starts ++ x) (no_starts s.steps at) ∙ append-nil starts)

  pub failed : (starts : List ℕ) (plain : Bool) (at number : ℕ) (e : reported.Fault) → SoFar bytes starts plain at → number ≡ length starts → length bytes ≤ longest_input
      → ReportsFault number (frame_fault_under All at (drop at bytes)) e → IsUnread bytes e
  failed starts plain at number e s count short reports = fails_as (frame_fault_under All at (drop at bytes)) refl reports
    where
      size : length (take at bytes) ≡ at
      size = let i = s.inside in omega (arith, length-take at bytes)

      counted : (worth : ElementType → List ℕ → ℤ) (ds : List Doc) → AreJoinedBy (valued worth) ds (take at bytes) → length starts ≡ length ds
      counted worth ds j = let one = s.documents worth in
          one.2 ∙ sym (starts_count worth one.0 (take at bytes) (length (take at bytes)) 0 one.1 (omega arith))
          ∙ starts_count worth ds (take at bytes) (length (take at bytes)) 0 j (omega arith)

      fails_as : (o : Option Fault) → frame_fault_under All at (drop at bytes) ≡ o → ReportsFault number o e → IsUnread bytes e
      fails_as None is reported = absurd reported
      fails_as (Some f) is (inl want) = inr (short, inl want.1)
      fails_as (Some f) is (inr h) = inr (
        short,
        inr (record {
          before = take at bytes;
          rest = drop at bytes;
          splits = sym (take-append-drop at bytes);
          documents = λ worth. ((s.documents worth).0, (s.documents worth).1);
          counted = λ worth ds j. h.document ∙ count ∙ counted worth ds j;
          fails = ap (λ n. frame_fault_under All n (drop at bytes)) size ∙ is ∙ ap (λ (x : Fault). Some x) h.same;
        }),
      )

-- a document without a fault under the nineteen kinds has none under all types
pub plain_sound : (base : ℕ) (bytes : List ℕ) → fault_under Named base bytes ≡ None → fault_under All base bytes ≡ None
plain_sound base bytes is = others_are_first base bytes (subst ReportsNoNumber (sym is) tt) ∙ is
