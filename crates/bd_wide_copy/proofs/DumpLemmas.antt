-- The documents of a dump in turn.
use Rattle.std.proofs.Common.{◌≡◌, ℕ, ℤ, ◌≤◌, Result, Ok, Err, OnOk, List, [], ◌∷◌, ◌++◌, length, take, drop, Some, None, refl, sym, ap, ◌∙◌, subst, arith, append_assoc, append-nil, length-append, take_at, drop_at, Bool, true, false, nat_lt, ◌||◌, if◌then◌else◌}
use Rattle.std.proofs.lemmas.{Bool.Decides.nat_tests, List.take-append-drop}
use Rattle.bd_value.specs.{Limits.longest_document, Limits.longest_input, Tree.Doc}
use Rattle.bd_bson_view.specs.Spelling.{Grammar, IsDocumentBy}
use Rattle.bd_bson_view.specs.declared.raw_parts.ElementType.{ElementType}
use Rattle.bd_bson_view.proofs.ValueAtLemmas as values
use Rattle.bd_bson_check.specs.Dump.{AreJoined, stated_length}
use Rattle.bd_wide.specs.Rewritten.{Adds}
use Rattle.bd_wide_copy.proofs.PlaceLemmas.{framed_number}
use Rattle.bd_wide_copy.specs.Copy.{IsCopy, number_coded}
use Rattle.bd_wide_copy.specs.Classes.{classed}
use Rattle.bd_wide_copy.specs.declared.longs.Longs.{Longs}
use Rattle.bd_wide_copy.specs.Dump.{coded_documents, AreJoinedBy, IsCopyOfDump}
use Rattle.bd_wide_copy.specs.inside.Copies.{AreCopies}
use Rattle.bd_wide_copy.specs.inside.Starts.{frame_size}

-- ---- the length at the start

module _ (g : Grammar) (d : Doc) (prefix rest : List ℕ) (is : IsDocumentBy g d prefix) where
  -- a document has five bytes or more
  pub five_bytes : 5 ≤ length prefix
  five_bytes = let v = is.spells in omega (arith, ap (λ (x : List ℕ). length x) v.2, values.framed_length v.0)

  -- its length is stated at its start
  pub stated_there : stated_length (prefix ++ rest) ≡ length prefix
  stated_there = let v = is.spells in
      ap (λ (x : List ℕ). stated_length (x ++ rest)) v.2 ∙ framed_number v.0 rest (subst (λ (x : List ℕ). length x ≤ longest_document) v.2 is.short)
      ∙ ap (λ (x : List ℕ). length x) (sym v.2)

  pub size_there : frame_size (prefix ++ rest) ≡ Some (length prefix)
  unfolding frame_size
  size_there =
      let tests : (nat_lt (length (prefix ++ rest)) 5 || nat_lt (length prefix) 5 || nat_lt (length (prefix ++ rest)) (length prefix)) ≡ false =
      grind (arith, nat_tests, five_bytes, length-append prefix rest) in
      ap (λ (n : ℕ). if (nat_lt (length (prefix ++ rest)) 5 || nat_lt n 5 || nat_lt (length (prefix ++ rest)) n) then None else Some n) stated_there
      ∙ ap (λ (b : Bool). if b then None else Some (length prefix)) tests

frame_tests : (b : Bool) (n l m : ℕ) → (nat_lt l 5 || nat_lt n 5 || nat_lt l n) ≡ b → (if b then None else Some n) ≡ Some m → 5 ≤ l
frame_tests true n l m at is = absurd cc
frame_tests false n l m at is = grind (arith, nat_tests, at)

pub frame_fits : (bytes : List ℕ) (n : ℕ) → frame_size bytes ≡ Some n → 5 ≤ length bytes
unfolding frame_size
frame_fits bytes n is =
    frame_tests (nat_lt (length bytes) 5 || nat_lt (stated_length bytes) 5 || nat_lt (length bytes) (stated_length bytes)) (stated_length bytes) (length bytes) n refl is

-- If no document is at the start, there are no documents, and no bytes.
pub ended : (g : Grammar) (ds : List Doc) (bytes : List ℕ) → AreJoinedBy g ds bytes → frame_size bytes ≡ None → (ds ≡ []) × (bytes ≡ [])
ended g [] bytes j is = (refl, j)
ended g (d ∷ ds) bytes j is = let e = sym is ∙ ap frame_size j.4 ∙ size_there g d j.0 j.1 j.2 in absurd cc

-- the document at the start, and those after it
abbrev pub First : Grammar → List Doc → List ℕ → ℕ → Type 0
First g ds bytes n = (d : Doc) × (others : List Doc) × (ds ≡ d ∷ others) × IsDocumentBy g d (take n bytes) × AreJoinedBy g others (drop n bytes)

pub first_of : (g : Grammar) (ds : List Doc) (bytes : List ℕ) (n : ℕ) → AreJoinedBy g ds bytes → frame_size bytes ≡ Some n → First g ds bytes n
first_of g [] bytes n j is = absurd (omega (arith, frame_fits bytes n is, ap (λ (x : List ℕ). length x) j))
first_of g (d ∷ ds) bytes n j is =
    let same : n ≡ length j.0 = let e = sym is ∙ ap frame_size j.4 ∙ size_there g d j.0 j.1 j.2 in cc in
    let prefix_bytes : take n bytes ≡ j.0 = ap (take n) j.4 ∙ take_at j.0 j.1 n (sym same) in
    let back : drop n bytes ≡ j.1 = ap (drop n) j.4 ∙ drop_at j.0 j.1 n (sym same) in
    (d, ds, refl, subst (IsDocumentBy g d) (sym prefix_bytes) j.2, subst (AreJoinedBy g ds) (sym back) j.3)

-- ---- copies

module _ (longs : Longs) (worth : ElementType → List ℕ → ℤ) (code : ℤ → ℤ) where
  -- what is written so far, with the copies of the rest, is the copies of all
  abbrev pub Comes : List ℕ → List ℕ → List ℕ → List ℕ → Type 0
  Comes bytes rest old out = (more : List ℕ) → AreCopies longs worth code rest more → Adds (AreCopies longs worth code bytes) old (out ++ more)

  pub begins : (bytes old : List ℕ) → Comes bytes bytes old old
  begins bytes old = λ more h. (more, h, refl)

  nothing_copied : (rest : List ℕ) → frame_size rest ≡ None → AreCopies longs worth code rest []
  nothing_copied rest is ds j =
      let e = ended (classed longs worth) ds rest j is in
      (subst (λ (xs : List Doc). AreJoined (coded_documents (number_coded code) xs) []) (sym e.0) refl, omega arith)

  pub all_copied : (bytes rest old out : List ℕ) → Comes bytes rest old out → None ≡ frame_size rest → Adds (AreCopies longs worth code bytes) old out
  all_copied bytes rest old out comes is = subst (Adds (AreCopies longs worth code bytes) old) (append-nil out) (comes [] (nothing_copied rest (sym is)))

  one_copied : (rest one more : List ℕ) (n : ℕ) → frame_size rest ≡ Some n → IsCopy longs worth code (take n rest) one → AreCopies longs worth code (drop n rest) more
      → AreCopies longs worth code rest (one ++ more)
  one_copied rest one more n is copy later ds j =
      let f = first_of (classed longs worth) ds rest n j is in
      let c = copy f.0 f.3 in
      let l = later f.1 f.4 in
      let size = ap (λ (x : List ℕ). length x) (sym (take-append-drop n rest)) ∙ length-append (take n rest) (drop n rest) in (
        subst (λ (xs : List Doc). AreJoined (coded_documents (number_coded code) xs) (one ++ more)) (sym f.2) (one, more, c.0, l.0, refl),
        omega (arith, c.1, l.1, size, length-append one more),
      )

  pub copied_on : (bytes rest old out now document after : List ℕ) (n : ℕ) → Comes bytes rest old out → Some n ≡ frame_size rest
      → document ≡ take n rest → after ≡ drop n rest → Adds (IsCopy longs worth code document) out now → Comes bytes after old now
  copied_on bytes rest old out now document after n comes is p q e = λ more h.
      let one = subst (λ (x : List ℕ). IsCopy longs worth code x e.0) p e.1 in
      let two = subst (λ (x : List ℕ). AreCopies longs worth code x more) q h in
      let whole = comes (e.0 ++ more) (one_copied rest e.0 more n (sym is) one two) in
      (whole.0, whole.1, ap (λ (x : List ℕ). x ++ more) e.2 ∙ append_assoc out e.0 more ∙ whole.2)

-- the copies of a dump within the limit are a dump
pub ok_dump : {E : Type 0} (r : Result (Unit {0}) E) (longs : Longs) (worth : ElementType → List ℕ → ℤ) (code : ℤ → ℤ) (bytes here old out : List ℕ) → here ≡ bytes
    → length bytes ≤ longest_input → OnOk r (Adds (AreCopies longs worth code here) old out) → OnOk r (Adds (IsCopyOfDump longs worth code bytes) old out)
ok_dump (Ok u) longs worth code bytes here old out same short h =
    let c = subst (λ (x : List ℕ). AreCopies longs worth code x h.0) same h.1 in
    (h.0, (λ ds j. let d = c ds j in ((d.0, omega (arith, d.1, short)), d.1)), h.2)
ok_dump (Err e) longs worth code bytes here old out same short h = h
