-- What `bsonwide serve` prints for its file and its commands.
use Rattle.std.specs.Prelude.{◌≡◌, ◌⊎◌, ℕ, Bool, false, List, [], Option, Ok, Err}
use Rattle.bd_value.specs.{Tree.Doc}
use Rattle.bd_io_device.specs.Devices.{Over, Reader, read_words}
use Rattle.bd_io_device.specs.declared.reading.ReadFault.{ReadFault}
use Rattle.bd_bson_check.specs.{Dump.IsDump, Fault.fault_view, declared.fault.Fault.Fault}
use Rattle.bd_cli_service.specs.Talk.{RepliesInText}
use Rattle.bd_cli_scan.specs.{Input.ReadsInput, Run.Run, Output.fault_text, Output.refusal_output}
use Rattle.bd_cli.specs.Serve.{talk_run_by}
use Rattle.bd_wide_copy.specs.Dump.{IsFirstFault}
use Rattle.bd_wide_service.specs.{Call.ByValue, Places.RepliesWithPlaces, Reply.RepliesByValue}

-- A dump is served by value: that is requested, or it has a double or a decimal128.
abbrev pub IsServedByValue : Bool → List ℕ → Type 0
IsServedByValue requested bytes = requested ≡ false → (ds : List Doc) → IsDump ds bytes → ⊥

-- what a run of `serve` comes to, by whether values are requested, and by its file
pub data ServeCase (requested : Bool) (file : Over Reader) : Type 0 where
  -- the file was not read to its end
  unread : (fault : ReadFault) → ReadsInput file (Err fault) → ServeCase requested file
  -- a document has a fault
  faulty : (bytes : List ℕ) (fault : Fault) → ReadsInput file (Ok bytes) → IsFirstFault bytes fault → ServeCase requested file
  -- the dump has no double and no decimal128, and values are not requested
  plain : (bytes : List ℕ) (ds : List Doc) → ReadsInput file (Ok bytes) → requested ≡ false → IsDump ds bytes → ServeCase requested file
  -- the dump is served by value
  by_value : (bytes : List ℕ) → ReadsInput file (Ok bytes) → IsServedByValue requested bytes → ByValue bytes → ServeCase requested file

-- For the reader of the commands: what its reads may give, and its state before and after.
module _ {C : Type 0} (state : C → Reader) (gives : C → Option (List ℕ) → C → Type 0) (old new : C) where
  -- a message alone, which takes no memory; no command is read
  abbrev pub refused_run : List ℕ → Run
  refused_run message = record {
    IsOutput = λ output. (output ≡ refusal_output message) × (new ≡ old);
    IsNext = λ text piece. ⊥;
    IsBegun = λ text. ⊥;
  }

  -- the run of a case: its message alone, or a reply to each command
  abbrev pub case_run : {requested : Bool} {file : Over Reader} → ServeCase requested file → Run
  case_run (unread fault _) = refused_run (read_words fault)
  case_run (faulty bytes fault _ _) = refused_run (fault_text fault.document (fault_view fault))
  case_run (plain bytes ds _ _ _) = talk_run_by state gives old new (RepliesWithPlaces (RepliesInText bytes ds))
  case_run (by_value bytes _ _ v) = talk_run_by state gives old new (RepliesWithPlaces (RepliesByValue v))

  -- A run of `serve` is that of its case; or memory ran out before a command was read.
  abbrev pub wide_serve_run : Bool → Over Reader → Run
  wide_serve_run requested file = record {
    IsOutput = λ output. (c : ServeCase requested file) × (case_run c).IsOutput output;
    IsNext = λ text piece. (c : ServeCase requested file) × (case_run c).IsNext text piece;
    IsBegun = λ text. ((c : ServeCase requested file) × (case_run c).IsBegun text)
        ⊎ ((bytes : List ℕ) × ReadsInput file (Ok bytes) × (text ≡ []) × (new ≡ old));
  }
