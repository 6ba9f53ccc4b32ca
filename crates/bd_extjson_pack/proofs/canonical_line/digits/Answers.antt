use Rattle.std.proofs.Common.{rules, arith}
use Rattle.bd_extjson_pack.proofs.CanonicalLemmas.{digits_read}
use Rattle.bd_extjson_pack.proofs.canonical_line.digits.Goals as goal

pub returns : goal.returns
returns c =
    let read = c.read_digits-count.ensures in
    let led = c.is_led_well.ensures (search rules) in
    digits_read c.args.text.now c.in_ok-rest.rest.now c.as_bytes-bytes.result.now c.read_digits-count.result.1 c.read_digits-count.result.0 c.as_bytes-bytes.ensures.value read.within
    read.end (omega arith) read.value led.0 led.1 c.in_ok-rest.ensures.back
