use Rattle.std.proofs.Common.{[], refl, inl, vec_len}
use Rattle.bd_io_device.specs.Devices.{zero_reads}
use Rattle.bd_cli_scan.proofs.InputLemmas.{no_further, was_read}
use Rattle.bd_cli_scan.proofs.input.read_input.Goals as goal

pub returns-clause-input : goal.returns-clause-input
returns-clause-input g c =
    let e = c.read_all.ensures in
    was_read (λ v. v.items) (λ v. vec_len v) (λ v. v.ok.0) g.R.Input.read_gives c.args.input.now c.read_all.new.reader (g.R.Input.state c.args.input.now)
    (g.R.Input.state c.read_all.new.reader) c.read_all.result e.bytes e.end e.short e.no_failure e.failed e.too_long_known
    (λ is. let m = e.too_many is in (m.0, m.1, m.2)) (λ is. let m = e.memory is in (m.1, m.6, m.4))

pub returns-clause-stops_reading : goal.returns-clause-stops_reading
returns-clause-stops_reading g c =
    let e = c.read_all.ensures in
    no_further (λ v. v.items) (λ v. vec_len v) (λ v. v.ok.0) g.R.Input.read_gives c.args.input.now c.read_all.new.reader _ _ c.read_all.result e.whole e.device e.too_long
    (λ is. let m = e.too_many is in (m.0, m.1, m.2)) (λ is. let m = e.memory is in (m.0, m.1, m.3, m.4, m.5))

pub returns-then-matches-clause-stops_reading : goal.returns-then-matches-clause-stops_reading
returns-then-matches-clause-stops_reading g c = (0, [], c.args.input.now, zero_reads c.args.input.now, inl refl)
