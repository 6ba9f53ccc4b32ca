-- What the packing of a text came to: used only in proofs.
use Rattle.std.specs.Prelude.{◌≡◌, ◌<◌, ◌⊎◌, ℕ, true, List, [], length, drop, Option, Some, None, Ok, Err}
use Rattle.bd_value.specs.{Limits.longest_document, Tree.Doc}
use Rattle.bd_value.specs.Tree.{Fields, fields_of}
use Rattle.bd_bson_view.specs.Spelling.{IsDocument}
use Rattle.bd_extjson_pack.specs.Packable.{plain}
use Rattle.bd_extjson_pack.specs.declared.line.LineFault.{LineFault}
use Rattle.bd_extjson_pack.specs.declared.line.LineFault.TheVariants as faults
use Rattle.bd_extjson_fault.specs.declared.json_fault.JsonFaultKind.TheVariants as kinds
use Rattle.bd_wide_number.specs.declared.number.Number.{Number}
use Rattle.bd_wide_pack.specs.Filled.{AreFilled}
use Rattle.bd_wide_substitute.specs.Both.{both_documents, document_of, earlier}
use Rattle.bd_wide_substitute.specs.Substitutes.{ArePieces, Piece, origin}
use Rattle.bd_wide_substitute.specs.Made.{IsMade}
use Rattle.bd_wide_substitute.specs.Reported.{IsReported}
use Rattle.bd_wide_substitute.specs.declared.scan.Substituted.{Substituted}
use Rattle.bd_wide_pack.specs.WideLine.{IsMixed}

-- The text is a document, and these are its bytes; or this is why it is not packed.
abbrev pub IsOutcome : List ℕ → List ℕ → Option LineFault → Type 0
IsOutcome line bytes None = (d : Doc) × (document_of line ≡ Ok d) × IsDocument d bytes
IsOutcome line bytes (Some (faults.Unread fault)) = document_of line ≡ Err fault
IsOutcome line bytes (Some faults.TooLong) = (d : Doc) × (document_of line ≡ Ok d) × (longest_document < length (plain d))

-- Both texts of the pieces are documents, and these are their bytes; or this is the first of their faults.
abbrev pub AreOutcome : List Piece → List ℕ → List ℕ → Option LineFault → Type 0
AreOutcome pieces wholes texts None = (w : Doc) × (t : Doc) × (both_documents pieces ≡ Ok (w, t))
    × IsDocument w wholes × IsDocument t texts
AreOutcome pieces wholes texts (Some (faults.Unread fault)) = both_documents pieces ≡ Err fault
AreOutcome pieces wholes texts (Some faults.TooLong) = (w : Doc) × (t : Doc) × (both_documents pieces ≡ Ok (w, t))
    × ((longest_document < length (plain w)) ⊎ (longest_document < length (plain t)))

-- the first of the faults of two texts: one that was not read is before one that is too long
abbrev pub first_of : Option LineFault → Option LineFault → Option LineFault
first_of (Some (faults.Unread f)) (Some (faults.Unread g)) = Some (faults.Unread (earlier f g))
first_of (Some (faults.Unread f)) other = Some (faults.Unread f)
first_of other (Some (faults.Unread g)) = Some (faults.Unread g)
first_of None None = None
first_of one other = Some faults.TooLong

-- Why two documents have no document with the numbers: they differ in another way, or it is too long.
abbrev pub IsNotMixed : Doc → Doc → List Number → LineFault → Type 0
IsNotMixed wholes texts numbers (faults.Unread fault) =
    ((fs : Fields) → AreFilled fs (fields_of wholes) (fields_of texts) numbers [] → ⊥)
    × (fault ≡ record { kind = kinds.NotADocument; at = 0 })
IsNotMixed wholes texts numbers faults.TooLong =
    (bytes : List ℕ) × IsMixed wholes texts numbers bytes × (longest_document < length bytes)

-- These are the two texts of a line, and its numbers.
pub record HasTexts (line : List ℕ) (made : Substituted) : Type 0 where
  pub pieces : List Piece
  pub are : ArePieces line pieces
  pub is : IsMade true pieces made

-- This fault of a text is reported as that one of the line.
abbrev pub IsReportedAs : List ℕ → LineFault → LineFault → Type 0
IsReportedAs line (faults.Unread f) (faults.Unread g) =
    ((pieces : List Piece) → ArePieces line pieces → g.at ≡ origin pieces f.at) × IsReported (drop g.at line) f.kind g.kind
IsReportedAs line (faults.Unread f) faults.TooLong = ⊥
IsReportedAs line faults.TooLong g = g ≡ faults.TooLong
