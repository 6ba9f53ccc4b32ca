use Rattle.std.proofs.Common.{arith}
use Rattle.bd_extjson_text.proofs.JsonStringLemmas.{stops_mask}
use Rattle.bd_extjson_text.proofs.json_string.stops.Goals as goal

pub returns : goal.returns
returns g c = stops_mask g.row.N c.args.bytes (omega arith) c.fits-bytes.0
