use Rattle.bd_wide_dump.specs.RelaxedDate.{fraction_text, seconds_text}
use Rattle.std.specs.Prelude.{◌%◌}
use Rattle.bd_extjson_text.proofs.BufferLemmas.{then}
use Rattle.bd_wide_dump.proofs.relaxed.append_time.Goals as goal

pub returns : goal.returns
returns c =
    let ms = c.args.milliseconds in
    let inside = c.requires.1 in
    then c.args.end c.in_ok-at.at c.args.out.now.items c.append_seconds.new.out.items c.append_fraction.new.out.items (seconds_text ms) (fraction_text (ms % 1000)) c.append_fraction.result
    inside c.in_ok-at.ensures.0 c.append_fraction.ensures
