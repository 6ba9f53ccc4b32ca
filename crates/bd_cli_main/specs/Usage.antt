-- What a program prints for arguments that are not a command, and for a text that it knows.
use Rattle.std.specs.Prelude.{◌⊎◌, ◌<◌, [], ℕ, List}
use Rattle.bd_io_device.specs.Devices.{Over, Writer}
use Rattle.bd_cli_args.specs.declared.order.WordsFault.{WordsFault}
use Rattle.bd_cli_args.specs.declared.order.WordsFault.TheVariants as words
use Rattle.bd_cli_scan.specs.Output.{Transcript, no_memory, refusal_output}
use Rattle.bd_cli_scan.specs.declared.output.Status.TheVariants.{Done, Usage}

-- the output of a run that prints a text, and no more
abbrev pub text_output : List ℕ → Transcript
text_output text = record { out = text; err = λ program. []; status = Done }

-- the output for arguments that are not a command: the usage, for `--help` on standard output
abbrev pub report_output : List ℕ → WordsFault → Transcript
report_output usage words.Help = text_output usage
report_output usage words.Usage = record { out = []; err = λ program. usage; status = Usage }
report_output usage words.NoMemory = refusal_output no_memory

-- A write failed: a count of failures rose.
abbrev pub WriterFails : Over Writer → Over Writer → Type 0
WriterFails out err = (out.before.failures < out.after.failures) ⊎ (err.before.failures < err.after.failures)
