-- A failed device sets the status of `find`.
use Rattle.std.proofs.Common.{◌≡◌, ◌<◌, ◌∙◌, ap, arith, List, ℕ, Option, Result, Ok, Err, inl, inr}
use Rattle.bd_io_device.specs.Devices.{Over, Reader, Writer}
use Rattle.bd_io_device.specs.declared.reading.ReadFault.{ReadFault}
use Rattle.bd_cli_args.specs.FindOptions.{FindOptions}
use Rattle.bd_cli_scan.specs.{declared.output.Status.Status, declared.output.Status.TheVariants.Failed, Output.Transcript, Run.Prints, Run.ReportsMessage}
use Rattle.bd_cli_find.specs.{Options.requested_by, Find.IsOutputOf, Find.ReadsIfRequested, Find.find_run}
use Rattle.bd_cli.specs.Runs.{DeviceFails}

-- a failed read is reported, and nothing else is printed
unread_failed : (file : Over Reader) (size : Option ℕ) (requested : Result _ (List ℕ)) (input : Result (List ℕ) ReadFault) (output : Transcript) → ReadsIfRequested requested file input
    → IsOutputOf size requested input output → file.before.failures < file.after.failures → output.status ≡ Failed
unread_failed file size (Err message) input output same is fails = ap (λ (t : Transcript). t.status) is
unread_failed file size (Ok w) (Err fault) output read is fails = ap (λ (t : Transcript). t.status) is
unread_failed file size (Ok w) (Ok bytes) output read is fails = let same = read.3 in absurd (omega arith)

stop_failed : (err : Over Writer) (message : List ℕ) (status : Status) → ReportsMessage err message Failed status → status ≡ Failed
stop_failed err message status (inl (took, is)) = is
stop_failed err message status (inr (fails, is)) = is

pub found_failed : {program : List ℕ} (options : FindOptions) (file commands : Over Reader) (out err : Over Writer) (status : Status) → commands.after ≡ commands.before
    → Prints program (find_run options file) out err status → DeviceFails file commands out err → status ≡ Failed
found_failed {program} options file commands out err status same (inl (output, (input, read, is), wrote, inr (unwritten, failed))) fails = failed
found_failed {program} options file commands out err status same (inl (output, (input, read, is), wrote, inl (took, done))) (inl unread) =
    done ∙ unread_failed file options.batch (requested_by options) input output read is unread
found_failed {program} options file commands out err status same (inl (output, whole, wrote, inl (took, done))) (inr (inl unread)) =
    let e = ap (λ (r : Reader). r.failures) same in absurd (omega arith)
found_failed {program} options file commands out err status same (inl (output, whole, wrote, inl (took, done))) (inr (inr (inl unwritten))) = let e = wrote.1 in absurd (omega arith)
found_failed {program} options file commands out err status same (inl (output, whole, wrote, inl (took, done))) (inr (inr (inr unwritten))) = let e = took.1 in absurd (omega arith)
found_failed {program} options file commands out err status same (inr (inl (text, piece, next, failed_write, reported))) fails = stop_failed err _ status reported
found_failed {program} options file commands out err status same (inr (inr (text, begun, wrote, reported))) fails = stop_failed err _ status reported
