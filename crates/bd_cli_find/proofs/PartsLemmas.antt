-- Parts of a collection that are searched separately.
use Rattle.std.proofs.Common.{◌≡◌, ℕ, suc, List, [], ◌∷◌, ◌++◌, slice_get, Some, None, refl, sym, ap, ap₂, ◌∙◌, subst, inl, inr}
use Rattle.std.proofs.{lemmas.Cmp.on_total, lemmas.List.Elements.All-head, lemmas.List.Elements.All-tail, lemmas.List.Splits.slice_split_none, lemmas.Option.get_or_from_slice_get}
use Rattle.std.specs.{List.All, List.flat_map, Cmp.IsTotalOrder}
use Rattle.bd_value.specs.Tree.{Doc, doc, fields_of}
use Rattle.bd_value.proofs.FitsLemmas.{fits_types}
use Rattle.bd_extjson_text.specs.Text.{text}
use Rattle.bd_extjson.proofs.{FitLemmas.reads_sound, TextLemmas.text_line}
use Rattle.bd_bson_check.specs.Dump.{AreJoined}
use Rattle.bd_bson_view.specs.Spelling.{IsDocument}
use Rattle.bd_bson_write.proofs.WritingLemmas.{plainly_spells}
use Rattle.bd_bson_dump.specs.Collection.{document_at}
use Rattle.bd_path.specs.Sort.{SortPath, sort_cmp}
use Rattle.bd_path.proofs.SortLemmas.{sort_total}
use Rattle.bd_query_filter.specs.{Filter.Filter, FilterMatch.matches}
use Rattle.bd_cursor_model.specs.Laws.{IsEnough, IsSelectionOf, found_in}
use Rattle.bd_cursor_model.proofs.{PartsLemmas.parts_give, PartsLemmas.answer_gives}
use Rattle.bd_cursor_sort.specs.Selection.{selection_for}
use Rattle.bd_io_lines.specs.Lines.{is_newline, text_lines}
use Rattle.bd_io_lines.proofs.LinesLemmas.{lines_apart}
use Rattle.bd_extjson_pack.specs.Packable.{plain}
use Rattle.bd_extjson_pack.proofs.PlainLemmas.{reads_plain}
use Rattle.bd_cli_scan.specs.{Output.lines}
use Rattle.bd_cli_files.specs.{Pack.PacksLines}
use Rattle.bd_cli_scan.proofs.OutputLemmas.{lines-append}
use Rattle.bd_cli_find.specs.Find.{IsReadBack, document_request, documents_output}

-- ---- the printed documents are those that answer the request

at_place : (ds : List Doc) (i : ℕ) (d : Doc) → slice_get ds i ≡ Some d → document_at ds i ≡ doc (fields_of d)
at_place ds i d is = ap (λ (x : Doc). doc (fields_of x)) (get_or_from_slice_get ds i d [] is)

is_selection : (f : Filter) (ss : List SortPath) (skip limit : ℕ) (ds : List Doc)
    → IsSelectionOf (document_request f ss skip limit) ds (selection_for ds f ss skip limit)
is_selection f ss skip limit ds = record {
  count = refl;
  matches_at = λ i d is. ap (matches f) (at_place ds i d is);
  by = λ i j d e is was. ap₂ (sort_cmp ss) (at_place ds i d is) (at_place ds j e was);
  skip = refl;
  limit = refl;
}

output_is : (f : Filter) (ss : List SortPath) (skip limit : ℕ) (ds : List Doc)
    → documents_output f ss skip limit ds ≡ found_in (document_request f ss skip limit) ds
output_is f ss skip limit ds =
    answer_gives (document_request f ss skip limit) ds (selection_for ds f ss skip limit) (is_selection f ss skip limit ds)

parts_are : (f : Filter) (ss : List SortPath) (most : ℕ) (parts : List (List Doc))
    → flat_map (documents_output f ss 0 most) parts ≡ flat_map (found_in (document_request f ss 0 most)) parts
parts_are f ss most [] = refl
parts_are f ss most (ds ∷ parts) = ap₂ (λ (x y : List Doc). x ++ y) (output_is f ss 0 most ds) (parts_are f ss most parts)

keys_total : (ss : List SortPath) → IsTotalOrder (λ c d. sort_cmp ss (doc (fields_of c)) (doc (fields_of d)))
keys_total ss = on_total (λ (d : Doc). doc (fields_of d)) (sort_total ss)

pub parts_print : (f : Filter) (ss : List SortPath) (skip limit most : ℕ) (parts : List (List Doc)) → IsEnough (document_request f ss skip limit) most
    → lines (documents_output f ss skip limit (flat_map (documents_output f ss 0 most) parts)) ≡ lines (documents_output f ss skip limit (flat_map (λ ds. ds) parts))
parts_print f ss skip limit most parts enough =
    let r = document_request f ss skip limit in
    ap lines (
    output_is f ss skip limit (flat_map (documents_output f ss 0 most) parts)
    ∙ ap (found_in r) (parts_are f ss most parts)
    ∙ sym (parts_give r (keys_total ss) most enough parts)
    ∙ sym (output_is f ss skip limit (flat_map (λ ds. ds) parts))
    )

pub parts_joined : (f : Filter) (ss : List SortPath) (most : ℕ) (parts : List (List Doc))
    → flat_map (λ ds. lines (documents_output f ss 0 most ds)) parts ≡ lines (flat_map (documents_output f ss 0 most) parts)
parts_joined f ss most [] = refl
parts_joined f ss most (ds ∷ parts) =
    ap (λ x. lines (documents_output f ss 0 most ds) ++ x) (parts_joined f ss most parts)
    ∙ sym (lines-append (documents_output f ss 0 most ds) (flat_map (documents_output f ss 0 most) parts))

-- ---- their lines, packed

lines_of : (d : Doc) (ds : List Doc) → IsReadBack d → text_lines (lines (d ∷ ds)) ≡ text (doc (fields_of d)) ∷ text_lines (lines ds)
lines_of d ds back =
    let line = text_line (doc (fields_of d)) (fits_types (doc (fields_of d)) (reads_sound (text (doc (fields_of d))) d back.0)) in
    lines_apart (text (doc (fields_of d))) (lines ds) ∙ ap (λ xs. xs ++ text_lines (lines ds)) (slice_split_none is_newline (text (doc (fields_of d))) line)

pub pack_from : (ds : List Doc) (number : ℕ) → All IsReadBack ds → PacksLines number (text_lines (lines ds)) ds None
pack_from [] number back = inl (refl, (refl, refl))
pack_from (d ∷ ds) number back =
    subst (λ xs. PacksLines number xs (d ∷ ds) None) (sym (lines_of d ds (All-head IsReadBack d ds back)))
    (inr (inl (refl, (d, ds, All-head IsReadBack d ds back, refl, pack_from ds (suc number) (All-tail IsReadBack d ds back)))))

packable_spells : (d : Doc) → IsReadBack d → IsDocument d (plain d)
packable_spells d back =
    let sound = reads_sound (text (doc (fields_of d))) d back.0 in
    let limits = reads_plain (text (doc (fields_of d))) d back.0 in
    plainly_spells d (plain d) sound (record { spelled = refl; no_zero = limits.1; short = back.1; shallow = limits.0 })

pub joined_of : (ds : List Doc) → All IsReadBack ds → AreJoined ds (flat_map plain ds)
joined_of [] back = refl
joined_of (d ∷ ds) back =
    (plain d, flat_map plain ds, packable_spells d (All-head IsReadBack d ds back), joined_of ds (All-tail IsReadBack d ds back), refl)
