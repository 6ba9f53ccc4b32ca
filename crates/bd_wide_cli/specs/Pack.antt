-- How `bsonwide` packs lines.
use Rattle.std.specs.Prelude.{ℕ, List, drop, Option, None}
use Rattle.bd_extjson_pack.specs.declared.line.LineFault.{LineFault}
use Rattle.bd_extjson_pack.specs.declared.line.LineFault.TheVariants as faults
use Rattle.bd_cli_files.specs.Pack.{Form}
use Rattle.bd_wide_advice.specs.Advice.{advice_of}
use Rattle.bd_wide_pack.specs.WideLine.{IsBad, IsPacked}

-- what to write instead in a line that is not packed, if that is known: by the bytes at its fault
abbrev pub line_advice : List ℕ → LineFault → Option (List ℕ)
line_advice line (faults.Unread fault) = advice_of fault.kind (drop fault.at line)
line_advice line faults.TooLong = None

-- the form of `bsonwide`: documents of all types of BSON 1.1, each by its BSON
abbrev pub all_types : Form
all_types = record {
  Document = List ℕ;
  IsPackable = IsPacked;
  bson = λ bytes. bytes;
  IsBad = IsBad;
  advice = line_advice;
}
