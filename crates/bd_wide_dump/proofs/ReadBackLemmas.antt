-- Rows of CSV are read back.
use Rattle.std.proofs.Common.{◌≡◌, ℕ, List, [], ◌∷◌, None, refl, map}
use Rattle.std.specs.List.{flat_map}
use Rattle.csv.specs.Machine.{next_record}
use Rattle.csv.specs.Reading.{AreRecords, Reached, default_config}
use Rattle.csv.specs.Writing.{default_writer, read_back, row_text}
use Rattle.csv.specs.declared.parser.State.TheVariants as st
use Rattle.csv.proofs.RoundTrip.{read-write}

all_reached : (rows : List (List (List ℕ))) → Reached default_config st.StartRecord (flat_map (row_text default_writer) rows) (map read_back rows) st.StartRecord []
unfolding Reached
all_reached [] = (refl, refl)
all_reached (row ∷ rows) =
    let rest = flat_map (row_text default_writer) rows in
    ((read_back row, st.StartRecord, rest), read-write row rest, refl, all_reached rows)

at_the_end : next_record default_config st.StartRecord [] [] [] ≡ None
unfolding next_record
at_the_end = refl

-- any rows, one after the other
pub rows_read : (rows : List (List (List ℕ))) → AreRecords default_config st.StartRecord (flat_map (row_text default_writer) rows) (map read_back rows)
rows_read rows = (st.StartRecord, [], all_reached rows, at_the_end)
