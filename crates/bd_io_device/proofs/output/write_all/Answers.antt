use Rattle.std.proofs.Common.{rules, arith, ap, sym, ◌∙◌, [], ◌++◌, ◌<◌, ◌≡◌, take, refl, length, length-append}
use Rattle.std.proofs.KnownBytes.{Appends-nil, Appends-trans}
use Rattle.bd_io_device.specs.Devices.{no_write}
use Rattle.bd_io_device.proofs.DevicesLemmas.{writes_more, append-moves}
use Rattle.bd_io_device.proofs.output.write_all.Goals as goal

pub loop-rest-init : goal.loop-rest-init
loop-rest-init g c = record {
  appended = ([], refl, Appends-nil _);
  writes = no_write _;
  silent = λ e. refl;
  no_failure = refl;
}

pub loop-rest-preserved : goal.loop-rest-preserved
loop-rest-preserved g c =
    let (done, split, appended) = c.loop-rest.invariant.appended in
    let rest = c.loop-rest.rest.now in
    let n = c.in_ok-n.n in
    let some : 0 < n = search rules in
    record {
      appended = (done ++ take n rest, append-moves _ done rest n split, Appends-trans _ _ _ _ _ appended c.in_ok-n.ensures.bytes);
      writes = writes_more _ _ _ rest n c.loop-rest.invariant.writes c.in_ok-n.ensures.takes some;
      silent = λ e.
          let none : 0 ≡ length (done ++ rest) = ap length (sym e ∙ split) in
          let within = c.in_ok-n.ensures.within in absurd (omega (arith, none, some, within, length-append done rest));
      no_failure = search rules;
    }
