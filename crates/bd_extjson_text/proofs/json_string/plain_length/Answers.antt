use Rattle.std.proofs.Common.{sym, ap, arith}
use lib.Count.{count_trailing_zeros}
use Rattle.bd_extjson_text.proofs.JsonStringLemmas.{all_quiet, stops_within}
use Rattle.bd_extjson_text.proofs.json_string.plain_length.Goals as goal

pub returns-then-found-ne0 : goal.returns-then-found-ne0
returns-then-found-ne0 c =
    let found = c.stops-found.ensures in
    let l = c.loop-passed in
    let stop = stops_within c.args.text.now l.passed (omega arith) l.invariant.1 _ (omega (arith, found)) (ap (count_trailing_zeros 64) found) in
    record { within = omega (arith, stop.0); plain = stop.1 }

pub loop-passed-preserved : goal.loop-passed-preserved
loop-passed-preserved c =
    let l = c.loop-passed in
    (omega arith, all_quiet c.args.text.now l.passed (omega arith) l.invariant.1 (omega (arith, sym c.stops-found.ensures)))
