use Rattle.std.proofs.Common.{rules, ◌≡◌, ◌<◌, ◌+◌, ◌≤◌, ◌-◌, [], true, false, length, take, nat_eq, length-take-le}
use Rattle.std.specs.Io.KnownBytes.{IsAtEnd}
use Rattle.bd_value.specs.Limits.{longest_command}
use Rattle.bd_io_device.specs.declared.reading.Limits.{Limits}
use Rattle.bd_io_lines.proofs.LineBufferLemmas.{fails_limit, fails_capacity, gives_one}
use Rattle.bd_io_lines.proofs.line_buffer.LineBuffer.fetch.Goals as goal

pub returns-then-self-n-clause-fails : goal.returns-then-self-n-clause-fails
returns-then-self-n-clause-fails g c =
    let e = c.in-Ok.ensures in
    let size : length (take c.in-Ok.n c.read.new.buffer) ≡ c.in-Ok.n = length-take-le c.in-Ok.n c.read.new.buffer e.within in
    let more : c.args.self.now.remaining.bytes < length (take c.in-Ok.n c.read.new.buffer) = let m = c.if-self-n.true in search (rules, m, size) in
    let short : length c.args.self.now.line ≤ longest_command = let i = c.self.invariant.1 in search (rules, i) in
    fails_limit c.args.self.now.remaining c.args.reader.now c.read.new.self c.args.self.now.line (take c.in-Ok.n c.read.new.buffer)
    (search rules) (c.requires.part, short) e.bytes.0 e.gives e.called e.no_failure more

pub returns-then-is_err-clause-fails : goal.returns-then-is_err-clause-fails
returns-then-is_err-clause-fails g c =
    let short : length c.args.self.now.line ≤ longest_command = let i = c.self.invariant.1 in search (rules, i) in
    fails_capacity c.args.self.now.remaining c.args.reader.now c.args.self.now.line c.requires.allowed (search rules) (c.requires.part, short)

pub returns-clause-gives : goal.returns-clause-gives
returns-clause-gives g c =
    let e = c.in-Ok.ensures in
    let size : length (take c.in-Ok.n c.read.new.buffer) ≡ c.in-Ok.n = length-take-le c.in-Ok.n c.read.new.buffer e.within in
    let is : c.extend_from_slice.new.self.items ≡ take c.in-Ok.n c.read.new.buffer = search rules in
    let remaining : Limits = record { bytes = c.self.inside.remaining.bytes - c.in-Ok.n; turns = c.self.inside.remaining.turns - 1 } in
    let capacity : remaining.bytes + length (take c.in-Ok.n c.read.new.buffer) ≡ c.args.self.now.remaining.bytes = search rules in
    let turned : remaining.turns + 1 ≡ c.args.self.now.remaining.turns = search rules in
    let end : nat_eq c.in-Ok.n 0 ≡ true → IsAtEnd (g.R.Input.state c.read.new.self).remaining = search rules in
    let none : nat_eq c.in-Ok.n 0 ≡ true → take c.in-Ok.n c.read.new.buffer ≡ [] = search rules in
    let some : nat_eq c.in-Ok.n 0 ≡ false → 0 < length (take c.in-Ok.n c.read.new.buffer) = search rules in
    rw is (gives_one c.args.self.now.remaining remaining (nat_eq c.in-Ok.n 0) c.args.reader.now c.read.new.self (take c.in-Ok.n c.read.new.buffer)
    e.bytes.0 e.gives e.called e.no_failure capacity turned end none some)
