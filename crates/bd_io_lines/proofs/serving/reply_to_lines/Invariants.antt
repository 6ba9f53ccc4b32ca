use Rattle.std.proofs.Common.{◌≡◌, None, length, ◌+◌}
use Rattle.bd_io_lines.proofs.ServingLemmas.{Serving}
use Rattle.bd_io_lines.proofs.serving.reply_to_lines.Given as goal

abbrev pub invariant-loop-text : goal.invariant-loop-text
invariant-loop-text g l = record {
  so_far : Serving g.R.Input.state g.R.Input.read_gives g.S.Replier.replies l.fn.limits l.lines l.initial.reader l.reader
      (g.O.Output.state l.initial.out) (g.O.Output.state l.out) l.initial.session l.session;
  not_failed : l.lines.failed ≡ None;
}

abbrev pub decreases-loop-text : goal.decreases-loop-text
decreases-loop-text g l = l.lines.remaining.bytes + length l.lines.rest
