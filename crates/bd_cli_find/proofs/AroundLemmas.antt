-- What was written of documents and of what is around them.
use Rattle.std.proofs.Common.{◌≡◌, ◌<◌, ◌+◌, ℕ, zero, suc, List, [], ◌∷◌, ◌++◌, length, get_or, take, drop, refl, sym, ap, ◌∙◌, subst, arith, append_assoc, append-nil, inl, inr, true, false, Bool, map}
use Rattle.std.proofs.{lemmas.List.take-append-drop, lemmas.List.take_more, lemmas.List.map-append}
use Rattle.bd_io_device.specs.Devices.{TakesText, WriteFailsWithin, Writer, after_more, between}
use Rattle.bd_io_device.proofs.DevicesLemmas.{takes_both, write_fails_after}
use Rattle.std.specs.Io.KnownBytes.{Appends}
use Rattle.std.proofs.{KnownBytes.Appends-trans}
use Rattle.bd_cli_scan.specs.declared.output.OutputFault.{OutputFault}
use Rattle.bd_cli_scan.specs.declared.output.OutputFault.TheVariants.{NoMemory, Unwritten}
use Rattle.bd_cli_find.specs.Find.{ArePieces, Part, closes, document, document_parts}
use Rattle.bd_cli_find.specs.inside.Find.{StopsAmong, WritesPieces}
use Rattle.bd_cli_find.proofs.FindLemmas.{one_piece, pieces_join}

module _ {I : Type 0} (IsPiece : I → List ℕ → Type 0) where
  -- what was written in two steps
  pub writes_both : (xs ys : List I) (old mid new : Writer) → WritesPieces IsPiece xs (between old mid) → WritesPieces IsPiece ys (between mid new)
      → WritesPieces IsPiece (xs ++ ys) (between old new)
  writes_both xs ys old mid new (a, are, took) (b, be, takes) = (a ++ b, pieces_join IsPiece xs ys a b are be, takes_both old mid new a b took takes)

  -- what stopped among the first of the pieces
  pub stops_first : (xs ys : List I) (old new : Writer) (stopped : OutputFault) → StopsAmong IsPiece xs (between old new) stopped
      → StopsAmong IsPiece (xs ++ ys) (between old new) stopped
  stops_first xs ys old new NoMemory (text, inl none, took) = (text, inl none, took)
  stops_first xs ys old new NoMemory (text, inr (printed, n, others, splits, are), took) =
      (text, inr (printed, n, others ++ ys, ap (λ (z : List I). z ++ ys) splits ∙ append_assoc printed (n ∷ others) ys, are), took)
  stops_first xs ys old new Unwritten (text, next, (printed, n, others, splits, are, is), failed) =
      (text, next, (printed, n, others ++ ys, ap (λ (z : List I). z ++ ys) splits ∙ append_assoc printed (n ∷ others) ys, are, is), failed)

  -- what stopped among the pieces after those that were written, of which there is one at least
  pub stops_second : (xs ys : List I) → (y : I) × (rest : List I) × (ys ≡ y ∷ rest) → (old mid new : Writer) (stopped : OutputFault)
      → WritesPieces IsPiece xs (between old mid) → StopsAmong IsPiece ys (between mid new) stopped → StopsAmong IsPiece (xs ++ ys) (between old new) stopped
  stops_second xs ys (y, rest, first) old mid new NoMemory (a, are, took) (text, inl none, takes) = (
    a ++ text,
    inr (xs, y, rest, ap (λ (z : List I). xs ++ z) first, subst (λ (x : List ℕ). ArePieces IsPiece xs x) (sym (ap (λ (x : List ℕ). a ++ x) none ∙ append-nil a)) are),
    takes_both old mid new a text took takes,
  )
  stops_second xs ys some old mid new NoMemory (a, are, took) (text, inr (printed, n, others, splits, be), takes) = (
    a ++ text,
    inr (xs ++ printed, n, others, ap (λ (z : List I). xs ++ z) splits ∙ sym (append_assoc xs printed (n ∷ others)), pieces_join IsPiece xs printed a text are be),
    takes_both old mid new a text took takes,
  )
  stops_second xs ys some_first old mid new Unwritten (a, are, took) (text, next, (printed, n, others, splits, be, is), (prefix, rest, split, some, contents, failed)) = (
    a ++ text,
    next,
    (xs ++ printed, n, others, ap (λ (z : List I). xs ++ z) splits ∙ sym (append_assoc xs printed (n ∷ others)), pieces_join IsPiece xs printed a text are be, is),
    (
      prefix,
      rest,
      split,
      some,
      subst (λ (x : List ℕ). Appends old.contents new.contents x) (sym (append_assoc a text prefix))
          (Appends-trans old.contents mid.contents new.contents a (text ++ prefix) took.0 contents),
      failed ∙ ap (λ n. after_more n 1) took.1,
    ),
  )

-- whether the piece of that number is the first
abbrev pub is_first : ℕ → Bool
is_first zero = true
is_first (suc i) = false

pub not_first : (i : ℕ) → is_first (i + 1) ≡ false
not_first i = let e : i + 1 ≡ suc i = omega arith in ap is_first e

-- one document more
pub parts_more : (ps : List ℕ) (i d : ℕ) → i < length ps
    → document_parts (take (i + 1) ps) ≡ document_parts (take i ps) ++ document (is_first i) (get_or ps i d) ∷ []
parts_more [] i d lt = absurd (let no : ⊥ = omega (arith, lt) in no)
parts_more (p ∷ ps) zero d lt = refl
parts_more (p ∷ ps) (suc i) d lt =
    let e : suc i + 1 ≡ suc (i + 1) = omega arith in
    let inside : i < length ps = omega (arith, lt) in
    ap (λ n. document_parts (take n (p ∷ ps))) e
    ∙ ap (λ (xs : List ℕ). document true p ∷ map (document false) xs) (take_more ps i d inside)
    ∙ ap (λ (ys : List Part). document true p ∷ ys) (map-append (document false) (take i ps) (get_or ps i d ∷ []))

-- the documents after the first of them
later_parts : (xs ys : List ℕ) → (others : List Part) × (document_parts (xs ++ ys) ≡ document_parts xs ++ others)
later_parts [] ys = (document_parts ys, refl)
later_parts (x ∷ xs) ys = (map (document false) ys, ap (λ (z : List Part). document true x ∷ z) (map-append (document false) xs ys))

-- some part follows that opens
pub closes_at_last : (ps : List ℕ) → (y : Part) × (rest : List Part) × (document_parts ps ++ closes ∷ [] ≡ y ∷ rest)
closes_at_last [] = (closes, [], refl)
closes_at_last (p ∷ ps) = (document true p, map (document false) ps ++ closes ∷ [], refl)

-- the document at a place, those before it, and those after it
at_document : (ps : List ℕ) (i : ℕ) → i < length ps
    → (others : List Part) × (document_parts ps ≡ document_parts (take i ps) ++ document (is_first i) (get_or ps i 0) ∷ others)
at_document ps i lt =
    let later = later_parts (take (i + 1) ps) (drop (i + 1) ps) in (
      later.0,
      ap document_parts (sym (take-append-drop (i + 1) ps)) ∙ later.1 ∙ ap (λ (x : List Part). x ++ later.0) (parts_more ps i 0 lt)
          ∙ append_assoc (document_parts (take i ps)) (document (is_first i) (get_or ps i 0) ∷ []) later.0,
    )

module _ (IsPiece : Part → List ℕ → Type 0) (ps : List ℕ) (i : ℕ) (old mid : Writer) (wrote : WritesPieces IsPiece (document_parts (take i ps)) (between old mid)) where
  -- memory ran out before all documents were written
  pub runs_out_between : i < length ps → StopsAmong IsPiece (document_parts ps) (between old mid) NoMemory
  runs_out_between lt =
      let at = at_document ps i lt in
      (wrote.0, inr (document_parts (take i ps), document (is_first i) (get_or ps i 0), at.0, at.1, wrote.1), wrote.2)

  module _ (new : Writer) (piece : List ℕ) (lt : i < length ps) (is : IsPiece (document (is_first i) (get_or ps i 0)) piece) where
    -- one more document was written
    pub writes_more_between : TakesText (between mid new) piece → WritesPieces IsPiece (document_parts (take (i + 1) ps)) (between old new)
    writes_more_between took = (
      wrote.0 ++ piece,
      subst (λ (x : List Part). ArePieces IsPiece x (wrote.0 ++ piece)) (sym (parts_more ps i 0 lt))
          (pieces_join IsPiece (document_parts (take i ps)) (document (is_first i) (get_or ps i 0) ∷ []) wrote.0 piece wrote.1
          (one_piece IsPiece (document (is_first i) (get_or ps i 0)) piece is)),
      takes_both old mid new wrote.0 piece wrote.2 took,
    )

    -- the next document was not written
    pub fails_between : WriteFailsWithin (between mid new) piece → StopsAmong IsPiece (document_parts ps) (between old new) Unwritten
    fails_between failed =
        let at = at_document ps i lt in
        (wrote.0, piece, (document_parts (take i ps), document (is_first i) (get_or ps i 0), at.0, at.1, wrote.1, is), write_fails_after old mid new wrote.0 piece wrote.2 failed)
