-- What `pack` holds of a text while it reads it.
use Rattle.std.specs.Prelude.{◌≡◌, ◌<◌, ℕ, suc, ◌-◌, List, [], ◌++◌, length, slice_index_or}
use Rattle.std.specs.Prelude.{Option, Some, None, option_map}
use Rattle.std.specs.List.{flat_map}
use Rattle.bd_io_lines.specs.Lines.{IsLine, text_lines}
use Rattle.bd_cli_scan.specs.Output.{reported_bytes}
use Rattle.bd_cli_files.specs.{declared.pack.BadLine.BadLine, declared.pack.Packing.Packing}
use Rattle.bd_cli_files.specs.Pack.{Form, PacksBy, advised, bad_line_text}

-- Whatever lines follow these, these are the documents before the first bad line;
-- if no line is bad yet, they are the first of them.
abbrev pub PacksFirst : (form : Form) → List (List ℕ) → List form.Document → Option BadLine → Type 0
PacksFirst form lines ds None =
    (rest : List (List ℕ)) (es : List form.Document) (bad : Option BadLine) → PacksBy form (suc (length lines)) rest es bad
    → PacksBy form 1 (lines ++ rest) (ds ++ es) bad
PacksFirst form lines ds (Some bad) = (rest : List (List ℕ)) → PacksBy form 1 (lines ++ rest) ds (Some bad)

-- If a line is bad, it is one of these lines, and this is what to write instead in it.
abbrev pub IsAdvised : Form → List (List ℕ) → Option BadLine → Option (List ℕ) → Type 0
IsAdvised form lines None advice = Unit {0}
IsAdvised form lines (Some bad) advice =
    (bad.number - 1 < length lines) × (advice ≡ form.advice (slice_index_or lines (bad.number - 1) []) bad.fault)

-- These lines were packed: the BSON of the documents before the first bad line is there, their count, and what to write instead in
-- that line.
abbrev pub ArePacked : (form : Form) → {P : Type 0} → List (List ℕ) → Packing P → Type 0
ArePacked form lines packing =
    (ds : List form.Document) × PacksFirst form lines ds packing.bad × (packing.bytes.items ≡ flat_map form.bson ds)
    × (packing.count ≡ length ds) × (packing.lines ≡ length lines)
    × IsAdvised form lines packing.bad (reported_bytes packing.advice)

-- the message of the bad line, if there is one, and what to write instead
abbrev pub packing_text : {P : Type 0} → Packing P → Option (List ℕ)
packing_text packing = option_map (λ bad. advised (bad_line_text bad) (reported_bytes packing.advice)) packing.bad

-- The lines of the text that have ended were packed, and after them is this part of a line.
abbrev pub IsTaken : (form : Form) → {P : Type 0} → List ℕ → Packing P → List ℕ → Type 0
IsTaken form text packing partial =
    (lines : List (List ℕ)) × ArePacked form lines packing × IsLine partial
    × ((rest : List ℕ) → text_lines (text ++ rest) ≡ lines ++ text_lines (partial ++ rest))
