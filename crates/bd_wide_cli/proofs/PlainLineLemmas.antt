-- The lines that are printed of documents of the nineteen kinds.
use Rattle.std.proofs.Common.{◌≡◌, ◌↔◌, ℕ, zero, suc, List, [], ◌∷◌, ◌++◌, map, get_or, slice_get, Bool, true, false, Option, Some, None, Result, Ok, Err, refl, sym, ap, ap₂, ◌∙◌, append_assoc}
use Rattle.std.specs.{Result.result_map_both}
use Rattle.bd_value.specs.Tree.{Doc, doc, fields_of}
use Rattle.bd_bson_check.specs.Dump.{AreJoined}
use Rattle.bd_bson_dump.specs.Collection.{documents_at}
use Rattle.bd_extjson_text.specs.Text.{text as text_of}
use Rattle.bd_cursor_model.specs.{Answer.at_most}
use Rattle.bd_cursor_request.specs.{Request.Request, Refused.Reason, declared.token.Token.Token}
use Rattle.bd_cursor_sort.specs.Selection.{query_to}
use Rattle.bd_cli_args.specs.declared.wide_line.Form.{Form}
use Rattle.bd_cli_scan.specs.Output.{Transcript, lines}
use Rattle.bd_cli_find.specs.Find as parts
use Rattle.bd_cli_find.specs.Find.{ArePieces, IsPart, Part, batch_output, batch_run, cursor_for, cursor_over, document_parts, found_run, output_of_text, places_from}
use Rattle.bd_cli_find.specs.Options.{refused_text}
use Rattle.bd_wide_dump.specs.WideText.{IsLineOf}
use Rattle.bd_wide_dump.specs.declared.format.JsonFormat.TheVariants.{Canonical}
use Rattle.bd_wide_dump.proofs.PlainLemmas.{plain_line}
use Rattle.bd_wide_find.specs.{Find.around_in, Find.printing_of, Printer.IsLaidOutText}
use Rattle.bd_wide_layout.specs.Layout.{IsPieceOfBytes, LayoutView, before, json}
use Rattle.bd_wide_cli.proofs.JoinedLemmas.{document_is}

-- the layout without words
abbrev pub one_a_line : LayoutView
one_a_line = json (record { format = Canonical; paths = None; is_array = false; is_pretty = false })

-- ---- one document

nothing_before : (number : ℕ) → before one_a_line number ≡ []
nothing_before zero = refl
nothing_before (suc n) = refl

-- the piece of a document is its canonical line
pub piece_is_line : (number : ℕ) (bytes piece : List ℕ) → IsPieceOfBytes one_a_line number bytes piece ↔ IsLineOf Canonical bytes piece
piece_is_line number bytes piece = (there, back)
  where
    there : IsPieceOfBytes one_a_line number bytes piece → IsLineOf Canonical bytes piece
    there (d, is, (text, (line, on, same), joined)) =
        (line, (d, is, on), joined ∙ ap (λ (x : List ℕ). x ++ (text ++ 10 ∷ [])) (nothing_before number) ∙ ap (λ (x : List ℕ). x ++ 10 ∷ []) same)

    back : IsLineOf Canonical bytes piece → IsPieceOfBytes one_a_line number bytes piece
    back (line, (d, is, on), same) =
        (d, is, (line, (line, on, refl), same ∙ ap (λ (x : List ℕ). x ++ (line ++ 10 ∷ [])) (sym (nothing_before number))))

-- ---- the documents of a dump

module _ (ds : List Doc) (bytes : List ℕ) (j : AreJoined ds bytes) where
  abbrev Words : ℕ → List ℕ
  Words place = text_of (doc (fields_of (get_or ds place [])))

  line_is : (place : ℕ) (text : List ℕ) → IsLaidOutText one_a_line bytes place text
      → (slice_get ds place ≡ Some (get_or ds place [])) × (text ++ 10 ∷ [] ≡ Words place ++ 10 ∷ [])
  line_is place text (document, at, (d, is, (line, on, same))) =
      let placed = document_is ds bytes j place document at in
      (placed.0, ap (λ (x : List ℕ). x ++ 10 ∷ []) same ∙ plain_line (get_or ds place []) document (line ++ 10 ∷ []) placed.1 (line, (d, is, on), refl))

  abbrev IsPrinted : Part → List ℕ → Type 0
  IsPrinted = IsPart (IsLaidOutText one_a_line bytes) (around_in one_a_line)

  first_line : (p : ℕ) (ps : List ℕ) → slice_get ds p ≡ Some (get_or ds p []) → lines (documents_at ds (p ∷ ps)) ≡ Words p ++ 10 ∷ lines (documents_at ds ps)
  first_line p ps there = (rw there refl)

  -- a document, and the lines after it
  one_line : (first : Bool) (p : ℕ) (ps piece rest : List ℕ) → IsPrinted (parts.document first p) piece → rest ≡ lines (documents_at ds ps)
      → piece ++ rest ≡ lines (documents_at ds (p ∷ ps))
  one_line true p ps piece rest (text, is, same) others =
      let line = line_is p text is in
      ap₂ (λ (x y : List ℕ). x ++ y) (same ∙ line.1) others ∙ append_assoc (Words p) (10 ∷ []) (lines (documents_at ds ps)) ∙ sym (first_line p ps line.0)
  one_line false p ps piece rest (text, is, same) others =
      let line = line_is p text is in
      ap₂ (λ (x y : List ℕ). x ++ y) (same ∙ line.1) others ∙ append_assoc (Words p) (10 ∷ []) (lines (documents_at ds ps)) ∙ sym (first_line p ps line.0)

  later_lines : (ps text : List ℕ) → ArePieces IsPrinted (map (parts.document false) ps ++ parts.closes ∷ []) text → text ≡ lines (documents_at ds ps)
  later_lines [] text (piece, rest, is, none, splits) = splits ∙ ap₂ (λ (x y : List ℕ). x ++ y) is none
  later_lines (p ∷ ps) text (piece, rest, is, others, splits) = splits ∙ one_line false p ps piece rest is (later_lines ps rest others)

  document_lines : (ps text : List ℕ) → ArePieces IsPrinted (document_parts ps ++ parts.closes ∷ []) text → text ≡ lines (documents_at ds ps)
  document_lines [] text (piece, rest, is, none, splits) = splits ∙ ap₂ (λ (x y : List ℕ). x ++ y) is none
  document_lines (p ∷ ps) text (piece, rest, is, others, splits) = splits ∙ one_line true p ps piece rest is (later_lines ps rest others)

  -- what is printed of documents at places
  all_lines : (ps text : List ℕ) → ArePieces IsPrinted (parts.parts ps) text → text ≡ lines (documents_at ds ps)
  all_lines ps text (piece, rest, is, others, splits) = splits ∙ ap (λ (x : List ℕ). x ++ rest) is ∙ document_lines ps rest others

  -- the output of a search over the dump
  pub found_alike : (size : Option ℕ) (w : Request × Option Token) (output : Transcript) → (found_run (printing_of one_a_line Form.Lines bytes) size w bytes ds).IsOutput output
      → output ≡ batch_output size ds (cursor_over w bytes ds None)
  found_alike size w output = go (places_from (query_to bytes ds w.0) w.1)
    where
      go : (places : Result (List ℕ) Reason)
          → (batch_run (printing_of one_a_line Form.Lines bytes) size (result_map_both (cursor_for 1 (query_to bytes ds w.0) w.1) refused_text places)).IsOutput output
          → output ≡ batch_output size ds (result_map_both (cursor_for 1 (query_to bytes ds w.0) w.1) refused_text places)
      go (Err why) is = is
      go (Ok ps) (text, are, same) = same ∙ ap (output_of_text size (cursor_for 1 (query_to bytes ds w.0) w.1 ps)) (all_lines (at_most size ps) text are)
