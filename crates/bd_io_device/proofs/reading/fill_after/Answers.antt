use Rattle.std.proofs.Common.{rules, drop, ◌++◌, ◌≡◌, ◌-◌, ◌≤◌, length, take, length-take-le, arith}
use Rattle.bd_io_device.proofs.DevicesLemmas.{after_head, both_of}
use Rattle.bd_io_device.proofs.reading.fill_after.Goals as goal

pub returns-clause-gives : goal.returns-clause-gives
returns-clause-gives g c =
    let buffer : length c.fill.new.buffer ≡ c.args.size - 4 = search rules in
    let requested : length (take (c.args.size - 4) (drop 4 (c.copy_from_slice.new.self ++ drop 4 c.args.buffer.now))) ≡ c.args.size - 4 = search rules in
    let head : length c.args.head ≡ 4 = search rules in
    both_of c.fill.result _ _ _ _ c.fill.ensures.fits c.fill.ensures.bytes c.fill.ensures.reads (λ f fits bytes reads.
    let within : f.bytes ≤ length c.fill.new.buffer = omega (arith, fits, buffer) in (
      take f.bytes c.fill.new.buffer,
      bytes,
      length-take-le f.bytes c.fill.new.buffer within,
      rw c.copy_from_slice.ensures.after (after_head (c.args.size - 4) f.bytes c.args.head _ c.fill.new.buffer head within),
      rw requested at reads,
    ))

pub returns-clause-unfilled : goal.returns-clause-unfilled
returns-clause-unfilled g c =
    let requested : length (take (c.args.size - 4) (drop 4 (c.copy_from_slice.new.self ++ drop 4 c.args.buffer.now))) ≡ c.args.size - 4 = search rules in
    rw requested at c.fill.ensures.unfilled
