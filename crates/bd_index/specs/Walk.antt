-- The order of a walk: that of a sort by the path of the index.
use Rattle.std.proofs.Common.{◌<◌, false, get_or, refl, sym, ◌∙◌, arith, subst, eq-eqb}
use Rattle.std.proofs.{lemmas.Bool.eqb-true, lemmas.Bool.lt-ltb, lemmas.Bool.ltb-true, lemmas.Cmp.on_total}
use Rattle.std.proofs.lemmas.List.Folds.{Any-from_list_any, list_any_at}
use Rattle.std.specs.Prelude.{◌≡◌, ◌==◌, ℕ, Bool, true, List, [], ◌∷◌, ◌++◌, map, take, length, nat_lt, slice_index_or}
use Rattle.std.specs.Prelude.{slice_range, slice_set, if◌then◌else◌, Contains}
use Rattle.std.specs.{List.list_any, declared.cmp.Ordering.Ordering}
use Rattle.bd_value.specs.Tree.{Doc}
use Rattle.bd_bson_dump.specs.Collection.{document_at}
use Rattle.bd_cursor_model.specs.{Answer.before, Laws.IsAscending, Source.IsSource}
use Rattle.bd_cursor_model.proofs.AnswerLemmas.{before_strict}
use Rattle.bd_path.specs.{Reach.Names, Sort.sort_cmp, declared.sort.Dir.Dir}
use Rattle.bd_path.proofs.SortLemmas.{sort_total}
use Rattle.bd_index.specs.{Entries.KeyAt, Entries.downward, declared.entry_order.EntryOrder.EntryOrder}

-- the order of two documents, by their numbers, in a sort by this path
abbrev pub walk_order : Dir → Names → List Doc → ℕ → ℕ → Ordering
walk_order dir path ds p q = sort_cmp (record { path = path; dir = dir } ∷ []) (document_at ds p) (document_at ds q)

-- The numbers of all documents, each once, in the order of the sort;
-- documents with equal sort keys are in file order.
pub record WalksAll (dir : Dir) (path : Names) (ds : List Doc) (places : List ℕ) : Type 0 where
  pub order : IsAscending (before (walk_order dir path ds)) places
  pub all : (p : ℕ) → list_any (λ q. q == p) places ≡ nat_lt p (length ds)

-- These numbers are the walk of some n documents.
pub record WalksEach (n : ℕ) (places : List ℕ) : Type 0 where
  pub dir : Dir
  pub path : Names
  pub documents : List Doc
  pub count : n ≡ length documents
  pub walks : WalksAll dir path documents places

-- a list in which some number equals q contains q
contained : (ps : List ℕ) (q : ℕ) → list_any (λ m. m == q) ps ≡ true → Contains ps q
contained ps q h = let a = Any-from_list_any (λ m. m == q) ps h in
    (a.0, a.2, subst (λ (m : ℕ). get_or ps a.0 m ≡ m) (eqb-true a.1 q a.4) a.3)

-- the document numbers of an index walk are a source: no match is missing, and none comes twice
pub walk_law : (n : ℕ) (matches_at : ℕ → Bool) (ps : List ℕ) → WalksEach n ps → IsSource n matches_at ps
walk_law n matches_at ps w = record {
  below = λ k d lt. let p = get_or ps k d in
      let low : p < length w.documents =
      ltb-true p (length w.documents) (sym (w.walks.all p)
      ∙ list_any_at (λ m. m == p) ps k d lt (eq-eqb p p refl)) in
      let c = w.count in omega arith;
  distinct = λ i j d a b same. let by = walk_order w.dir w.path w.documents in
      let up : before by (get_or ps i d) (get_or ps j d) ≡ true = w.walks.order i j d a b in
      let strict = before_strict by
      (on_total (document_at w.documents) (sort_total (record { path = w.path; dir = w.dir } ∷ []))) in
      let none : before by (get_or ps i d) (get_or ps j d) ≡ false =
      subst (λ (p : ℕ). before by (get_or ps i d) p ≡ false) same (strict.irreflexive (get_or ps i d)) in
      let f : true ≡ false = sym up ∙ none in cc;
  complete = λ p lt hit. contained ps p (w.walks.all p
      ∙ lt-ltb p (length w.documents) (let c = w.count in omega arith));
}

-- the entries that a walk has not reached yet, in its order:
-- the rest of the current run, then downward those below
abbrev pub entries_ahead : EntryOrder → List KeyAt
entries_ahead o = slice_range o.indexed.keeps.entries o.next o.end ++ downward (take o.below o.indexed.keeps.entries)

-- the document numbers of the entries that a walk has not reached yet;
-- a document comes once for each of its entries
abbrev pub places_ahead : EntryOrder → List ℕ
places_ahead o = map (λ e. e.1) (entries_ahead o)

-- those of these document numbers that were not visited before, each once
abbrev pub fresh_places : List Bool → List ℕ → List ℕ
fresh_places visited [] = []
fresh_places visited (p ∷ ps) =
    if slice_index_or visited p true then fresh_places visited ps else p ∷ fresh_places (slice_set visited p true) ps
