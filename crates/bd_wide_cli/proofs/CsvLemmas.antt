-- Rows of CSV of documents, one after the other.
use Rattle.std.proofs.Common.{◌≡◌, ℕ, zero, suc, ◌+◌, List, [], ◌∷◌, ◌++◌, map, refl, ap₂, subst, sym, ◌∙◌}
use Rattle.std.specs.List.{flat_map}
use Rattle.std.proofs.lemmas.List.{append-nil}
use Rattle.csv.specs.Reading.{AreRecords, default_config}
use Rattle.csv.specs.Writing.{default_writer, read_back, row_text}
use Rattle.csv.specs.declared.parser.State.TheVariants.{StartRecord}
use Rattle.bd_value.specs.Tree.{Doc}
use Rattle.bd_path.specs.Reach.{Names}
use Rattle.bd_cli_scan.specs.Dump.{ArePieces}
use Rattle.bd_wide_dump.proofs.ReadBackLemmas.{rows_read}
use Rattle.bd_wide_layout.specs.Layout.{before, csv}
use Rattle.bd_wide_cli.specs.Dump.{AreRows, laid_out}

module _ (columns : List Names) (header : List ℕ) where
  nothing_before : (number : ℕ) (text : List ℕ) → before (csv columns header) number ++ (text ++ []) ≡ text
  nothing_before zero text = append-nil text
  nothing_before (suc n) text = append-nil text

  rows_of : (number : ℕ) (ds : List Doc) (pieces : List ℕ) → ArePieces (laid_out (csv columns header)) number ds pieces
      → (rows : List (List (List ℕ))) × AreRows columns ds rows × (pieces ≡ flat_map (row_text default_writer) rows)
  rows_of number [] pieces none = ([], refl, none)
  rows_of number (d ∷ ds) pieces (piece, rest, (text, (cells, are, row), is), others, joined) =
      let (rows, all, same) = rows_of (number + 1) ds rest others in (
        cells ∷ rows,
        (cells, rows, are, all, refl),
        joined ∙ ap₂ (λ (x y : List ℕ). x ++ y) (is ∙ nothing_before number text ∙ row) same,
      )

pub header_and_rows : (names : List (List ℕ)) (columns : List Names) (number : ℕ) (ds : List Doc) (pieces : List ℕ)
    → ArePieces (laid_out (csv columns (row_text default_writer names))) number ds pieces
    → (rows : List (List (List ℕ))) × AreRows columns ds rows
    × AreRecords default_config StartRecord (row_text default_writer names ++ pieces) (map read_back (names ∷ rows))
header_and_rows names columns number ds pieces are =
    let header = row_text default_writer names in
    let (rows, all, same) = rows_of columns header number ds pieces are in
    (rows, all, subst (λ (x : List ℕ). AreRecords default_config StartRecord (header ++ x) (map read_back (names ∷ rows))) (sym same) (rows_read (names ∷ rows)))
