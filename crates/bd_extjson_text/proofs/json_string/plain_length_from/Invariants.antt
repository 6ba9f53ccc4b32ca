use Rattle.std.proofs.Common.{◌-◌, ◌≤◌, length}
use Rattle.bd_extjson_text.proofs.JsonStringLemmas.{IsQuiet}
use Rattle.bd_extjson_text.proofs.json_string.plain_length_from.Given as goal

abbrev pub invariant-loop-passed : goal.invariant-loop-passed
invariant-loop-passed l = (l.passed ≤ length l.text) × IsQuiet l.text l.passed

abbrev pub decreases-loop-passed : goal.decreases-loop-passed
decreases-loop-passed l = length l.text - l.passed
