use Rattle.bd_cli_files.proofs.PackLemmas.{SoFar}
use Rattle.bd_cli_files.proofs.pack.pack_input.Given as goal

abbrev pub invariant-loop-n : goal.invariant-loop-n
invariant-loop-n g l = SoFar g.P.LinePacker.form g.R.Input.state g.R.Input.read_gives l.initial.input l.input l.remaining l.packing l.partial.items

abbrev pub decreases-loop-n : goal.decreases-loop-n
decreases-loop-n g l = l.remaining
