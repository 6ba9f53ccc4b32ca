use Rattle.std.proofs.Common.{◌≡◌, ◌++◌}
use Rattle.std.specs.Io.{StartsWith}
use Rattle.bd_wide_text.specs.Layout.{zeros}
use Rattle.bd_wide_text.proofs.layout.write_zeros.Given as goal

abbrev pub invariant-loop : goal.invariant-loop
invariant-loop l = record {
  written : l.out.items ≡ l.fn.out.items ++ zeros l.counter;
  begun : StartsWith l.out.items l.fn.out.items;
}
