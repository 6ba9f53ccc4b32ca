-- The text of the documents of a dump of all types, each by its place.
use Rattle.std.specs.Prelude.{ℕ, List}
use Rattle.bd_wide_copy.specs.Dump.{IsDocumentAt}
use Rattle.bd_wide_dump.specs.{WideText.IsTextOfBytes as IsWideTextOf, declared.format.JsonFormat.TheVariants.Canonical}
use Rattle.bd_wide_layout.specs.Layout.{IsTextOfBytes, LayoutView}

-- The text is that of the document at this place of the dump that was read from these bytes.
abbrev pub IsWideText : List ℕ → ℕ → List ℕ → Type 0
IsWideText bytes place text = (document : List ℕ) × IsDocumentAt bytes place document × IsWideTextOf Canonical document text

-- The text is that, in this layout, of the document at this place of the dump that was read from these bytes.
abbrev pub IsLaidOutText : LayoutView → List ℕ → ℕ → List ℕ → Type 0
IsLaidOutText layout bytes place text =
    (document : List ℕ) × IsDocumentAt bytes place document × IsTextOfBytes layout document text
