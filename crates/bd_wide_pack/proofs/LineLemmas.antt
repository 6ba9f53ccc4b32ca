-- A line by its two texts.
use Rattle.std.proofs.Common.{◌≡◌, ◌≤◌, ◌<◌, ◌⊎◌, inl, inr, ℕ, List, [], ◌++◌, length, refl, sym, ap, ◌∙◌, subst, Option, Some, None, Result, Ok, Err, IfOk}
use Rattle.std.specs.Prelude.{IfSome}
use Rattle.bd_value.specs.{Limits.longest_document, Tree.Doc}
use Rattle.bd_bson_view.specs.Spelling.{IsDocument}
use Rattle.bd_extjson_fault.specs.declared.json_fault.JsonFault.{JsonFault}
use Rattle.bd_extjson_pack.specs.Packable as plainly
use Rattle.bd_extjson_pack.specs.Packable.{IsPackable, plain}
use Rattle.bd_extjson_pack.specs.declared.line.LineFault.{LineFault}
use Rattle.bd_extjson_pack.specs.declared.line.LineFault.TheVariants as faults
use Rattle.bd_wide_number.specs.declared.number.Number.{Number}
use Rattle.bd_wide_pack.specs.WideLine.{IsBad, IsMixed, IsPacked}
use Rattle.bd_wide_pack.specs.inside.Outcome.{AreOutcome, HasTexts, IsNotMixed, IsOutcome, IsReportedAs, first_of}
use Rattle.bd_wide_pack.proofs.PlainLemmas.{plain_mixed}
use Rattle.bd_wide_substitute.specs.Both.{IsRead, both_documents, document_of}
use Rattle.bd_wide_substitute.specs.Substitutes.{ArePieces, Piece, all_numbers, all_values, text, whole, with_fillers}
use Rattle.bd_wide_substitute.specs.declared.scan.Substituted.{Substituted}
use Rattle.bd_wide_substitute.proofs.BothLemmas.{both_is, earlier_same, empty_numbers, no_values, read_ok, unread}

-- ---- one text

bad_outcome : (source bytes : List ℕ) (f : LineFault) → plainly.IsBad source f → IsOutcome source bytes (Some f)
bad_outcome source bytes (faults.Unread f) bad = unread source f bad.0 bad.1
bad_outcome source bytes faults.TooLong bad = (bad.0, read_ok source bad.0 bad.1, bad.2)

-- ---- both texts

pub outcomes : (ps : List Piece) (wholes texts : List ℕ) (one other : Option LineFault) → IsOutcome (with_fillers whole ps) wholes one → IsOutcome (with_fillers text ps) texts other
    → AreOutcome ps wholes texts (first_of one other)
outcomes ps wholes texts None None h k = (h.0, k.0, both_is ps (Ok h.0) (Ok k.0) h.1 k.1, h.2, k.2)
outcomes ps wholes texts None (Some (faults.Unread g)) h k = both_is ps (Ok h.0) (Err g) h.1 k
outcomes ps wholes texts None (Some faults.TooLong) h k = (h.0, k.0, both_is ps (Ok h.0) (Ok k.0) h.1 k.1, inr k.2)
outcomes ps wholes texts (Some (faults.Unread f)) None h k = both_is ps (Err f) (Ok k.0) h k.1
outcomes ps wholes texts (Some (faults.Unread f)) (Some (faults.Unread g)) h k = both_is ps (Err f) (Err g) h k
outcomes ps wholes texts (Some (faults.Unread f)) (Some faults.TooLong) h k = both_is ps (Err f) (Ok k.0) h k.1
outcomes ps wholes texts (Some faults.TooLong) None h k = (h.0, k.0, both_is ps (Ok h.0) (Ok k.0) h.1 k.1, inl h.2)
outcomes ps wholes texts (Some faults.TooLong) (Some (faults.Unread g)) h k = both_is ps (Ok h.0) (Err g) h.1 k
outcomes ps wholes texts (Some faults.TooLong) (Some faults.TooLong) h k = (h.0, k.0, both_is ps (Ok h.0) (Ok k.0) h.1 k.1, inl h.2)

-- what both texts came to, by their bytes
pub made_outcome : (line one_text other_text wholes texts : List ℕ) (made : Substituted) (m : HasTexts line made) (one other first : Option LineFault) → one_text ≡ made.wholes.items → other_text ≡ made.texts.items
    → IsOutcome one_text wholes one → IsOutcome other_text texts other → first ≡ first_of one other → AreOutcome m.pieces wholes texts first
made_outcome line one_text other_text wholes texts made m one other first e f h k is =
    let h1 = subst (λ (x : List ℕ). IsOutcome x wholes one) (e ∙ m.is.0) h in
    let k1 = subst (λ (x : List ℕ). IsOutcome x texts other) (f ∙ m.is.1) k in
    subst (λ (f : Option LineFault). AreOutcome m.pieces wholes texts f) (sym is) (outcomes m.pieces wholes texts one other h1 k1)

module _ (line : List ℕ) (pieces : List Piece) (numbers : List Number) (are : ArePieces line pieces) (all : numbers ≡ all_numbers pieces) where
  module _ (w t : Doc) (e : both_documents pieces ≡ Ok (w, t)) where
    is_read : IsRead line w t numbers
    is_read = record { pieces = pieces; are = are; documents = e; all = all }

    pub is_packed : (bytes : List ℕ) → IsMixed w t numbers bytes → length bytes ≤ longest_document → IsPacked line bytes
    is_packed bytes mixed short = record { wholes = w; texts = t; numbers = numbers; read = is_read; mixed = mixed; short = short }

    is_bad : (f : LineFault) → IsNotMixed w t numbers f → IsBad line f
    is_bad (faults.Unread f) h = inr (record { wholes = w; texts = t; numbers = numbers; read = is_read; none = h.0; is = h.1 })
    is_bad faults.TooLong h = record { wholes = w; texts = t; numbers = numbers; read = is_read; long = inr (inr h) }

    pub mixed_bad : {E : Type 0} (X : Type 0) (r : Result (Option LineFault) E) → IfOk r (λ o. IfSome o (λ f. IsNotMixed w t numbers f × X)) → IfOk r (λ o. IfSome o (λ f. IsBad line f × X))
    mixed_bad X (Err e) h = tt
    mixed_bad X (Ok None) h = tt
    mixed_bad X (Ok (Some f)) h = (is_bad f h.0, h.1)

    is_long : (longest_document < length (plain w)) ⊎ (longest_document < length (plain t)) → IsBad line faults.TooLong
    is_long (inl a) = record { wholes = w; texts = t; numbers = numbers; read = is_read; long = inl a }
    is_long (inr b) = record { wholes = w; texts = t; numbers = numbers; read = is_read; long = inr (inl b) }

  -- the fault of the texts is that of the line, as it is reported
  pub fault_reported : (wholes texts : List ℕ) (f g : LineFault) → AreOutcome pieces wholes texts (Some f) → IsReportedAs line f g → IsBad line g
  fault_reported wholes texts (faults.Unread f) (faults.Unread g) h reports = inl (record { pieces = pieces; are = are; first = f; documents = h; at = reports.0 pieces are; kind = reports.1 })
  fault_reported wholes texts (faults.Unread f) faults.TooLong h reports = absurd reports
  fault_reported wholes texts faults.TooLong g h reports = subst (IsBad line) (sym reports) (is_long h.0 h.1 h.2 h.3)

-- ---- a line without values

-- both texts are the line
pub plain_outcome : (line bytes : List ℕ) (ps : List Piece) → ArePieces line ps → all_values ps ≡ [] → (o : Option LineFault) → IsOutcome line bytes o → AreOutcome ps bytes bytes o
plain_outcome line bytes ps are none o h =
    let one = subst (λ (x : List ℕ). IsOutcome x bytes o) (sym (no_values whole line ps are none)) h in
    let other = subst (λ (x : List ℕ). IsOutcome x bytes o) (sym (no_values text line ps are none)) h in
    subst (λ (f : Option LineFault). AreOutcome ps bytes bytes f) (first_same o) (outcomes ps bytes bytes o o one other)
  where
    first_same : (o : Option LineFault) → first_of o o ≡ o
    first_same None = refl
    first_same (Some (faults.Unread f)) = ap (λ (g : JsonFault). Some (faults.Unread g)) (earlier_same f)
    first_same (Some faults.TooLong) = refl

module _ {E : Type 0} (line : List ℕ) (ps : List Piece) (are : ArePieces line ps) (none : all_values ps ≡ []) (r : Result (Option LineFault) E) where
  pub plain_bad : {X : Type 0} (f g : LineFault) → r ≡ Ok (Some f) → IfOk r (λ o. IfSome o (λ f. plainly.IsBad line f × X)) → IsReportedAs line f g → IsBad line g × X
  plain_bad {X} f g is bad reports =
      let h : plainly.IsBad line f × X = subst (λ (r : Result (Option LineFault) E). IfOk r (λ o. IfSome o (λ f. plainly.IsBad line f × X))) is bad in
      (fault_reported line ps [] are (sym (empty_numbers ps none)) [] [] f g (plain_outcome line [] ps are none (Some f) (bad_outcome line [] f h.0)) reports, h.1)

  pub plain_packed : (old new : List ℕ) → ((line : List ℕ) (d : Doc) → IsPackable line d → IsDocument d (plain d)) → r ≡ Ok None
      → (r ≡ Ok None → (d : Doc) × IsPackable line d × (new ≡ old ++ plain d)) → (bytes : List ℕ) × IsPacked line bytes × (new ≡ old ++ bytes)
  plain_packed old new law is packed =
      let h = packed is in
      let reads : document_of line ≡ Ok h.0 = read_ok line h.0 h.1.0 in
      let wholes : document_of (with_fillers whole ps) ≡ Ok h.0 = ap (λ (x : List ℕ). document_of x) (no_values whole line ps are none) ∙ reads in
      let texts : document_of (with_fillers text ps) ≡ Ok h.0 = ap (λ (x : List ℕ). document_of x) (no_values text line ps are none) ∙ reads in
      (plain h.0, is_packed line ps [] are (sym (empty_numbers ps none)) h.0 h.0 (both_is ps (Ok h.0) (Ok h.0) wholes texts) (plain h.0) (plain_mixed h.0 (law line h.0 h.1)) h.1.1, h.2)
