-- Rows of CSV, field by field.
use Rattle.std.proofs.Common.{◌≡◌, ℕ, zero, suc, ◌+◌, ◌≤◌, ◌==◌, Bool, true, false, List, [], ◌∷◌, ◌++◌, length, take, get_or, map, Option, Some, None, Result, Ok, Err, refl, sym, ap, ap₂, subst, ◌∙◌, append_assoc, arith}
use Rattle.std.specs.Prelude.{IfOk, OnErr, if◌then◌else◌}
use Rattle.std.proofs.lemmas.List.{append-nil, length-append, length-take-le}
use Rattle.std.proofs.lemmas.Bool.{eq-eqb, ne_eqb}
use Rattle.csv.specs.Writing.{default_writer, field_text, fields_text, is_blank, row_body, row_text}
use Rattle.bd_value.specs.Tree.{Tree, doc, Doc, fields_of}
use Rattle.bd_value.specs.declared.node.Kind.TheVariants as kinds
use Rattle.bd_bson_view.specs.declared.raw_parts.ElementType.TheVariants.{Kept}
use Rattle.bd_bson_view.specs.Spelling.{IsDocumentBy, valued}
use Rattle.bd_extjson_text.specs.Buffer.{Appends}
use Rattle.bd_extjson_text.proofs.BufferLemmas.{splits, rises, prefix}
use Rattle.bd_path.specs.{PathNames.names_of, PathNames.path_text, Reach.Names}
use Rattle.bd_path.specs.declared.path.Path.{Path}
use Rattle.bd_wide_dump.specs.declared.follow.Found.{Found}
use Rattle.bd_wide_dump.specs.Csv.{follow, AreCells, IsCell, IsRowOf}
use Rattle.bd_wide_dump.specs.{Fields.requested, Plain.IsPlainText, Raw.raw}
use Rattle.bd_wide_dump.specs.inside.Begins.{a_document, AppendsBy}
use Rattle.bd_wide_dump.specs.inside.{Finds.Finds, Finds.IsAt}
use Rattle.bd_wide_dump.proofs.GoingLemmas.{Going, finished, first_and_rest, rest_of}

-- what is before a field
abbrev pub separator : Bool → List ℕ
separator later = if later then 44 ∷ [] else []

-- the fields that are to come, by whether one is before them
abbrev pub to_come : Bool → List (List ℕ) → List ℕ
to_come true cells = fields_text default_writer cells
to_come false cells = row_body default_writer cells

pub none_to_come : (later : Bool) → to_come later [] ≡ []
unfolding fields_text
none_to_come true = refl
none_to_come false = refl

pub one_to_come : (later : Bool) (cell : List ℕ) (cells : List (List ℕ)) → to_come later (cell ∷ cells) ≡ separator later ++ (field_text default_writer cell ++ to_come true cells)
unfolding fields_text
one_to_come true cell cells = refl
one_to_come false cell cells = refl

some_bytes : (x y : List ℕ) (b : ℕ) → length (x ++ b ∷ y) ≡ 0 → ⊥
some_bytes x y b h = omega (arith, h, length-append x (b ∷ y))

-- a row is blank if nothing was written
blank_is : (cells : List (List ℕ)) → is_blank default_writer cells ≡ (length (row_body default_writer cells) == 0)
unfolding is_blank fields_text
blank_is [] = refl
blank_is (x ∷ []) = ap (λ (y : List ℕ). length y == 0) (sym (append-nil (field_text default_writer x)))
blank_is (x ∷ y ∷ ys) = sym (ne_eqb _ 0 (some_bytes (field_text default_writer x) (field_text default_writer y ++ fields_text default_writer ys) 44))

-- the end of a row
abbrev row_end : Bool → List ℕ
row_end blank = if blank then 34 ∷ 34 ∷ 10 ∷ [] else 10 ∷ []

ends_by : (blank : Bool) (body : List ℕ) → body ++ ((if blank then 34 ∷ 34 ∷ [] else []) ++ 10 ∷ []) ≡ body ++ row_end blank
ends_by true body = refl
ends_by false body = refl

same_test : (at end n : ℕ) → at ≡ end + n → (at == end) ≡ (n == 0)
same_test at end zero is = eq-eqb at end (omega (arith, is))
same_test at end (suc n) is = ne_eqb at end (λ e. omega (arith, is, e)) ∙ sym (ne_eqb (suc n) 0 (λ e. omega (arith, e)))

-- the body of a row is written, and its end
pub row_whole : (cells : List (List ℕ)) (old out : List ℕ) (end at : ℕ) → end ≤ length old → at ≤ length out → take at out ≡ take end old ++ row_body default_writer cells
    → take at out ++ row_end (at == end) ≡ take end old ++ row_text default_writer cells
row_whole cells old out end at inside within body =
    let size : at ≡ end + length (row_body default_writer cells) =
    omega (arith, ap (λ (x : List ℕ). length x) body, length-take-le at out within, length-take-le end old inside, length-append (take end old) (row_body default_writer cells)) in
    let blank : (at == end) ≡ is_blank default_writer cells = same_test at end (length (row_body default_writer cells)) size ∙ sym (blank_is cells) in
    ap₂ (λ (x : List ℕ) (b : Bool). x ++ row_end b) body blank ∙ append_assoc (take end old) (row_body default_writer cells) (row_end (is_blank default_writer cells))
    ∙ ap (λ (x : List ℕ). take end old ++ x) (sym (ends_by (is_blank default_writer cells) (row_body default_writer cells)))

-- a row whose fields are known
pub row_ended : {E : Type 0} (cells : List (List ℕ)) (later : Bool) (old out new : List ℕ) (end at : ℕ) (r : Result ℕ E) → end ≤ length old
    → Going old end (row_body default_writer cells) out at (to_come later []) → Appends out at r new (row_end (at == end)) → Appends old end r new (row_text default_writer cells)
row_ended cells later old out new end at (Ok to) inside so_far put =
    let body = finished old end (row_body default_writer cells) out at (subst (Going old end (row_body default_writer cells) out at) (none_to_come later) so_far) in
    (put.0 ∙ row_whole cells old out end at inside body.1 body.0, put.1)
row_ended cells later old out new end at (Err e) inside so_far put = splits end at new out so_far.behind put ∙ so_far.unchanged

-- ---- a row of the fields of a document

-- With the fields that are to come, what is written is the row of a document.
pub record RowGoes (bytes : List ℕ) (paths : List Names) (old : List ℕ) (end : ℕ) (out : List ℕ) (at : ℕ) (later : Bool) (rest : List Names) : Type 0 where
  pub goes : (d : Doc) → IsDocumentBy (valued raw) d bytes → (cells : List (List ℕ)) → AreCells (doc (fields_of d)) rest cells
      → (whole : List (List ℕ)) × AreCells (doc (fields_of d)) paths whole × (take at out ++ to_come later cells ≡ take end old ++ row_body default_writer whole)
  pub unchanged : take end out ≡ take end old
  pub inside : at ≤ length out
  pub behind : end ≤ at

module _ (bytes : List ℕ) (paths : List Names) (old : List ℕ) (end : ℕ) where
  pub row_begins : end ≤ length old → RowGoes bytes paths old end old end false paths
  row_begins inside = record { goes = λ d is cells are. (cells, are, refl); unchanged = refl; inside = inside; behind = omega arith }

  regroup : (a b c d : List ℕ) → ((a ++ b) ++ c) ++ d ≡ a ++ (b ++ (c ++ d))
  regroup a b c d = simp append_assoc

  module _ (out m new : List ℕ) (at begun to : ℕ) (later : Bool) (rest : List Path) (path : Path) (cell : List ℕ) (some : 1 ≤ length rest) (is : path ≡ get_or rest 0 path) where
    parts : requested rest ≡ names_of path ∷ requested (rest_of rest)
    parts = ap requested (first_and_rest rest path some ∙ ap (λ (p : Path). p ∷ rest_of rest) (sym is))

    pub row_goes_on : RowGoes bytes paths old end out at later (requested rest)
        → ((d : Doc) → IsDocumentBy (valued raw) d bytes → IsCell (follow (Some (doc (fields_of d))) (names_of path)) cell)
        → take begun m ≡ take at out ++ separator later → begun ≤ length m → take to new ≡ take begun m ++ field_text default_writer cell → to ≤ length new
        → RowGoes bytes paths old end new to true (requested (rest_of rest))
    row_goes_on so_far text led led_in put put_in =
        let kept : take begun new ≡ take begun m = prefix begun to m (field_text default_writer cell) new led_in put in
        let first : take at m ≡ take at out = prefix at begun out (separator later) m so_far.inside led in
        let after : at ≤ begun = rises at begun out (separator later) m so_far.inside led in
        let last : begun ≤ to = rises begun to m (field_text default_writer cell) new led_in put in
        record {
          goes = λ d doc_is cells are.
              let t = doc (fields_of d) in
              let all : AreCells t (requested rest) (cell ∷ cells) = subst (λ (ps : List Names). AreCells t ps (cell ∷ cells)) (sym parts) (cell, cells, text d doc_is, are, refl) in
              let g = so_far.goes d doc_is (cell ∷ cells) all in (
                g.0,
                g.1,
                ap (λ (x : List ℕ). x ++ to_come true cells) (put ∙ ap (λ (x : List ℕ). x ++ field_text default_writer cell) led)
                    ∙ regroup (take at out) (separator later) (field_text default_writer cell) (to_come true cells)
                    ∙ ap (λ (x : List ℕ). take at out ++ x) (sym (one_to_come later cell cells)) ∙ g.2,
              );
          unchanged = splits end begun new m (omega (arith, so_far.behind, after)) kept ∙ splits end at m out so_far.behind first ∙ so_far.unchanged;
          inside = put_in;
          behind = omega (arith, so_far.behind, after, last);
        }

  -- what is before the next field is written
  pub row_led : (out m : List ℕ) (at begun : ℕ) (later : Bool) (rest : List Names) → RowGoes bytes paths old end out at later rest → take begun m ≡ take at out ++ separator later
      → (end ≤ begun) × (take end m ≡ take end old)
  row_led out m at begun later rest so_far led = (
    omega (arith, so_far.behind, rises at begun out (separator later) m so_far.inside led),
    splits end at m out so_far.behind (prefix at begun out (separator later) m so_far.inside led) ∙ so_far.unchanged,
  )

  pub row_stopped : (out new : List ℕ) (at : ℕ) (later : Bool) (rest : List Names) → RowGoes bytes paths old end out at later rest → take at new ≡ take at out → take end new ≡ take end old
  row_stopped out new at later rest so_far same = splits end at new out so_far.behind same ∙ so_far.unchanged

  module _ {E : Type 0} (out new : List ℕ) (at : ℕ) (later : Bool) (rest : List Names) (inside : end ≤ length old) where
    pub row_done : (r : Result ℕ E) (d : Doc) → IsDocumentBy (valued raw) d bytes → rest ≡ [] → RowGoes bytes paths old end out at later rest → Appends out at r new (row_end (at == end))
        → IfOk r (λ to. (row : List ℕ) × IsRowOf paths bytes row × (take to new ≡ take end old ++ row))
    row_done (Ok to) d doc_is none so_far put =
        let g = so_far.goes d doc_is [] (subst (λ (ps : List Names). AreCells (doc (fields_of d)) ps []) (sym none) refl) in
        let body : take at out ≡ take end old ++ row_body default_writer g.0 =
        sym (ap (λ (x : List ℕ). take at out ++ x) (none_to_come later) ∙ append-nil (take at out)) ∙ g.2 in
        (row_text default_writer g.0, (d, doc_is, g.0, g.1, refl), put.0 ∙ row_whole g.0 old out end at inside so_far.inside body)
    row_done (Err e) d doc_is none so_far put = tt

    pub row_within : (r : Result ℕ E) → Appends out at r new (row_end (at == end)) → IfOk r (λ to. to ≤ length new)
    row_within (Ok to) put = put.1
    row_within (Err e) put = tt

    pub row_err : (r : Result ℕ E) → RowGoes bytes paths old end out at later rest → Appends out at r new (row_end (at == end)) → OnErr r (take end new ≡ take end old)
    row_err (Ok to) so_far put = tt
    row_err (Err e) so_far put = row_stopped out new at later rest so_far put

-- ---- a field

-- all of the bytes as a value
abbrev pub whole_found : Found
whole_found = record { typed = Kept kinds.Doc; start = 0 }

pub whole_at : (bytes : List ℕ) (d : Doc) → IsDocumentBy (valued raw) d bytes → IsAt bytes (doc (fields_of d)) whole_found
whole_at bytes d is = record {
  here = record {
    content = bytes;
    after = [];
    spells = a_document (record { fields = fields_of d; body = is.spells.0; is = refl; typed = refl; spell = is.spells.1; frame = is.spells.2 });
    splits = sym (append-nil bytes);
    short = is.short;
  };
  inside = omega arith;
}

pub missing_cell : (bytes : List ℕ) (o : Option Tree) (text : List ℕ) → Finds bytes o None → text ≡ [] → IsCell o text
missing_cell bytes None text found none = none
missing_cell bytes (Some t) text found none = absurd found

pub found_value : (bytes : List ℕ) (o : Option Tree) (found : Found) → Finds bytes o (Some found) → (t : Tree) × IsAt bytes t found
found_value bytes (Some t) found here = (t, here)
found_value bytes None found here = absurd here

pub found_cell : {E : Type 0} (bytes : List ℕ) (o : Option Tree) (found : Found) (mid new : List ℕ) (at : ℕ) (r : Result ℕ E) → Finds bytes o (Some found) → take at mid ≡ []
    → ((t : Tree) → IsAt bytes t found → IfOk r (λ to. AppendsBy (IsPlainText t) mid at to new)) → IfOk r (λ to. IsCell o (take to new))
found_cell bytes (Some t) found mid new at (Ok to) here none put =
    let w = put t here in
    subst (IsPlainText t) (sym (w.written ∙ ap (λ (x : List ℕ). x ++ w.text) none)) w.is
found_cell bytes (Some t) found mid new at (Err e) here none put = tt
found_cell bytes None found mid new at r here none put = absurd here

pub cell_within : {E : Type 0} (bytes : List ℕ) (o : Option Tree) (found : Found) (mid new : List ℕ) (at : ℕ) (r : Result ℕ E) → Finds bytes o (Some found)
    → ((t : Tree) → IsAt bytes t found → IfOk r (λ to. AppendsBy (IsPlainText t) mid at to new)) → IfOk r (λ to. to ≤ length new)
cell_within bytes (Some t) found mid new at (Ok to) here put = (put t here).inside
cell_within bytes (Some t) found mid new at (Err e) here put = tt
cell_within bytes None found mid new at r here put = absurd here

-- ---- the header row

pub path_to_come : (later : Bool) (rest : List Path) (path : Path) → 1 ≤ length rest → path ≡ get_or rest 0 path
    → to_come later (map path_text rest) ≡ separator later ++ (field_text default_writer (path_text path) ++ to_come true (map path_text (rest_of rest)))
path_to_come later rest path some is =
    ap (λ (x : List Path). to_come later (map path_text x)) (first_and_rest rest path some ∙ ap (λ (p : Path). p ∷ rest_of rest) (sym is))
    ∙ one_to_come later (path_text path) (map path_text (rest_of rest))
