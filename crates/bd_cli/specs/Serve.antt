-- What `serve` prints for its file and its commands, and where a run of it may stop.
use Rattle.std.specs.Prelude.{◌≡◌, ◌≢◌, ◌⊎◌, ℕ, List, [], length, Option, Some, None, Result, Ok, Err, option_map}
use Rattle.bd_value.specs.{Limits.longest_input, Limits.most_reads, Tree.Doc}
use Rattle.bd_cursor_model.specs.{Session.State, Laws.new_state}
use Rattle.bd_bson_check.specs.{Dump.IsDumpScan, Fault.Fault}
use Rattle.bd_io_device.specs.{declared.reading.Limits.Limits, declared.reading.ReadFault.ReadFault}
use Rattle.bd_io_device.specs.Devices.{Over, Reader, read_words}
use Rattle.bd_io_lines.specs.Serving.{IsNextReply, LacksReply, ServesAll, StopsUnread}
use Rattle.bd_cli_service.specs.Talk.{IsUnchanged, RepliesInText}
use Rattle.bd_cli_scan.specs.{Input.ReadsInput, Run.Run}
use Rattle.bd_cli_files.specs.{Load.LoadsDump}
use Rattle.bd_cli_scan.specs.Output.{Transcript, fault_text, output_before, refusal_output}
use Rattle.bd_io_device.specs.declared.reading.ReadFault.TheVariants as reads

-- the limits of the commands of `serve`: those of an input
abbrev pub command_limits : Limits
command_limits = record { bytes = longest_input; turns = most_reads }

-- the output for a file that was not read completely, or that is no dump
abbrev pub IsOutputOfBadFile : Result (List ℕ) ReadFault → Transcript → Type 0
IsOutputOfBadFile (Err fault) output = output ≡ refusal_output (read_words fault)
IsOutputOfBadFile (Ok bytes) output = (ds : List Doc) × (fault : Fault) × IsDumpScan ds (Some fault) bytes
    × (output ≡ refusal_output (fault_text (length ds) fault))

-- For the reader of the commands: what its reads may give, and its state before and after.
module _ {C : Type 0} (state : C → Reader) (gives : C → Option (List ℕ) → C → Type 0) (old new : C) where
  -- For a session that begins in state s, and the replies that a command may have in a state:
  module _ {S : Type 0} (replies : S → List ℕ → List ℕ → S → Type 0) (s : S) where
    -- The text is the replies to all commands, or to those before a line that was not read, for this reason.
    -- There are never too many reads.
    abbrev pub RepliesUpTo : List ℕ → Option ReadFault → Type 0
    RepliesUpTo text None = (t : S) × ServesAll state gives replies command_limits old new s text t
    RepliesUpTo text (Some fault) = (fault ≢ reads.TooManyTurns)
        × ((t : S) × StopsUnread state gives replies command_limits old new s text t fault)

    -- A run of the session: a piece is a reply, and is written before a later line is read. `stays` says what is
    -- unchanged if memory runs out.
    abbrev pub session_run : (S → S → Type 0) → Run
    session_run stays = record {
      IsOutput = λ output. (text : List ℕ) × (unread : Option ReadFault) × RepliesUpTo text unread
          × (output ≡ output_before text (option_map read_words unread) []);
      IsNext = λ text piece. (t : S) × IsNextReply state gives replies command_limits old new s text piece t;
      IsBegun = λ text. (t : S) × LacksReply state gives replies command_limits old new stays s text t;
    }

  -- a run of a new session with these replies
  abbrev pub talk_run_by : (State → List ℕ → List ℕ → State → Type 0) → Run
  talk_run_by Replies = session_run Replies new_state IsUnchanged

  -- a run over a dump of these bytes and documents
  abbrev pub talk_run : List ℕ → List Doc → Run
  talk_run bytes ds = talk_run_by (RepliesInText bytes ds)

  -- A run of `serve`: it reads its whole file first, and reads no command if that is no dump, or if memory runs out.
  abbrev pub serve_run : Over Reader → Run
  serve_run file = let OverDump : (Run → Type 0) → Type 0 = λ Is. (bytes : List ℕ) × (ds : List Doc)
      × LoadsDump file bytes ds × Is (talk_run bytes ds) in record {
        IsOutput = λ output. ((input : Result (List ℕ) ReadFault) × ReadsInput file input
            × IsOutputOfBadFile input output × (new ≡ old)) ⊎ OverDump (λ run. run.IsOutput output);
        IsNext = λ text piece. OverDump (λ run. run.IsNext text piece);
        IsBegun = λ text. ((bytes : List ℕ) × ReadsInput file (Ok bytes) × (text ≡ []) × (new ≡ old))
            ⊎ OverDump (λ run. run.IsBegun text);
      }
