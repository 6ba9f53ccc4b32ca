-- What a run of a command prints, for all commands.
-- A command says which outputs its input may have, and where a run may stop before the end of one: that is its `Run`.
use Rattle.std.specs.Prelude.{◌≡◌, ◌⊎◌, ℕ, List, []}
use Rattle.bd_io_device.specs.Devices.{WriteFailsAfter, WriteFailsWithin, Over, TakesText, Writer}
use Rattle.bd_cli_scan.specs.{declared.output.Status.Status, declared.output.Status.TheVariants.Failed}
use Rattle.bd_cli_scan.specs.Output.{Transcript, cannot_write, error_line, no_memory, refusal_output}

-- what a run of a command may print
pub record Run : Type 1 where
  -- This is the output: the input was read to its end, or up to a fault or a failed read.
  pub IsOutput : Transcript → Type 0
  -- After this text, this is the next piece of the output, and no more was read than both need.
  pub IsNext : List ℕ → List ℕ → Type 0
  -- The output begins with this text, and no more was read than it and one more piece need.
  pub IsBegun : List ℕ → Type 0

-- The writer took the message, and the status is the expected one; or a write failed, and the status is 1.
abbrev pub ReportsMessage : Over Writer → List ℕ → Status → Status → Type 0
ReportsMessage err message wanted status =
    (TakesText err message × (status ≡ wanted)) ⊎ (WriteFailsWithin err message × (status ≡ Failed))

-- A run of the program of that name printed its output; or a write to standard output failed within a piece of it, or memory ran out before
-- a piece, and standard error says so.
abbrev pub Prints : List ℕ → Run → Over Writer → Over Writer → Status → Type 0
Prints program run out err status =
    ((output : Transcript) × run.IsOutput output × TakesText out output.out
    × ReportsMessage err (output.err program) output.status status)
    ⊎ ((text : List ℕ) × (piece : List ℕ) × run.IsNext text piece × WriteFailsAfter out text piece
    × ReportsMessage err (error_line program cannot_write) Failed status)
    ⊎ ((text : List ℕ) × run.IsBegun text × TakesText out text × ReportsMessage err (error_line program no_memory) Failed status)

-- ---- an output that is known before any of it is written

-- a run that prints this output; if memory runs out, that is after a text of which this is true
abbrev pub run_until : (List ℕ → Type 0) → Transcript → Run
run_until IsBegun output = record {
  IsOutput = λ o. o ≡ output;
  IsNext = λ text piece. (text ≡ []) × (piece ≡ output.out);
  IsBegun = IsBegun;
}

-- a run that prints this output, and takes no memory for it
abbrev pub run_of : Transcript → Run
run_of = run_until (λ text. ⊥)

-- a run that prints only an error, with this message, if memory does not run out before
abbrev pub refusal_run : List ℕ → Run
refusal_run message = run_until (λ text. text ≡ []) (refusal_output message)
