use Rattle.std.proofs.Common.{Err, inl, refl}
use Rattle.bd_io_device.proofs.DevicesLemmas.{takes_none}
use Rattle.bd_io_device.specs.Devices.{over, read_words}
use Rattle.bd_cli_scan.specs.Output.{refusal_output}
use Rattle.bd_cli_files.proofs.PackLemmas.{after_text}
use Rattle.bd_cli_files.proofs.pack.pack_by.Goals as goal

pub returns-in-Ok-clause-packs : goal.returns-in-Ok-clause-packs
returns-in-Ok-clause-packs g c =
    let p = c.in-Ok.ensures.packs in
    after_text g.P.LinePacker.form (over g.R.Input.state c.args.input.now c.pack_input.new.input) p.0 p.1 (c.write_packing.ensures p.0 p.2)

pub returns-clause-packs : goal.returns-clause-packs
returns-clause-packs g c = inl (
  refusal_output (read_words c.in-Err.fault),
  (Err c.in-Err.fault, c.in-Err.ensures.fault, refl),
  takes_none (g.O.Output.state c.args.out.now),
  c.report_read_fault.ensures,
)
