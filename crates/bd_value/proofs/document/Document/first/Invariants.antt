use Rattle.std.proofs.Common.{◌≡◌, drop}
use Rattle.bd_value.specs.Tree.{first_of}
use Rattle.bd_value.specs.View.{pairs}
use Rattle.bd_value.proofs.document.Document.first.Given as goal

abbrev pub invariant-loop-i : goal.invariant-loop-i
invariant-loop-i l = first_of l.name (drop l.i (pairs l.self)) ≡ first_of l.name (pairs l.self)
