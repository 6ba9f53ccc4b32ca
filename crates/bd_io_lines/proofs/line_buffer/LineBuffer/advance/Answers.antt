use Rattle.std.proofs.Common.{rules, ◌≡◌, ◌++◌, ℕ, List, Ok, true, false, [], length, sym, subst}
use Rattle.std.proofs.{lemmas.Result.err_from_is_err_and, lemmas.List.nil_from_length}
use Rattle.bd_io_lines.specs.Lines.{IsLine}
use Rattle.bd_io_lines.proofs.LinesLemmas.{line_grows}
use Rattle.bd_io_lines.proofs.LineBufferLemmas as next
use Rattle.bd_io_lines.proofs.line_buffer.LineBuffer.advance.Goals as goal

pub loop-self-init : goal.loop-self-init
loop-self-init g c = record {
  so_far = λ is. next.starts c.args.self.now c.args.reader.now (search rules) is c.requires.empty;
  line = search rules;
  still = search rules;
  no_read = search rules;
  failed = search rules;
}

pub returns-in_err-take_part-clause-fails : goal.returns-in_err-take_part-clause-fails
returns-in_err-take_part-clause-fails g c =
    let l = c.loop-self in
    let e = c.in_err-take_part.ensures in
    let going : l.self.ended ≡ false = search rules in
    let so = l.invariant.so_far (l.invariant.still going) in
    let p = err_from_is_err_and c.from_residual.result c.from_residual.ensures.1 in
    rw (p.1, p.2) (next.line_stops so going l.invariant.line c.in_err-take_part.field-0.0 e.stops)

pub returns-then-branch-clause-reads : goal.returns-then-branch-clause-reads
returns-then-branch-clause-reads g c _ =
    let l = c.loop-self in
    let going : l.self.ended ≡ false = search rules in
    let so = l.invariant.so_far (l.invariant.still going) in
    let is : c.take_part.result ≡ Ok true = search rules in
    let f = c.take_part.ensures.found is in
    next.reads_line so going l.invariant.line c.take_part.new.self f.0 f.1 f.2 f.3 c.take_part.ensures.unchanged.0 (search rules) c.take_part.ensures.short

pub fetch-requires-clause-part : goal.fetch-requires-clause-part
fetch-requires-clause-part g c =
    let l = c.loop-self in
    let is : c.take_part.result ≡ Ok false = search rules in
    let n = c.take_part.ensures.none is in
    subst IsLine (sym {A = List ℕ} n.1) (line_grows l.self.line l.self.rest l.invariant.line n.0)

pub loop-self-preserved : goal.loop-self-preserved
loop-self-preserved g c =
    let l = c.loop-self in
    let going : l.self.ended ≡ false = search rules in
    let was = l.invariant.still going in
    let so = l.invariant.so_far was in
    let is : c.take_part.result ≡ Ok false = search rules in
    let n = c.take_part.ensures.none is in
    let gave = c.in_ok-fetch.ensures.gives in
    let new = c.fetch.new.self in
    let line : new.line ≡ l.self.line ++ l.self.rest = search rules in
    let remaining : c.take_part.new.self.remaining ≡ l.self.remaining = c.take_part.ensures.unchanged.0 in
    record {
      so_far = λ _. next.line_goes_on so going l.invariant.line n.0 new line c.fetch.new.reader (rw remaining at gave) c.in_ok-fetch.ensures.one;
      line = next.line_grown so going l.invariant.line n.0 new.line line;
      still = λ _. was;
      no_read = λ is_ended. absurd (search (rules, was, is_ended));
      failed = search rules;
    }

pub returns-in_err-fetch-clause-fails : goal.returns-in_err-fetch-clause-fails
returns-in_err-fetch-clause-fails g c =
    let l = c.loop-self in
    let going : l.self.ended ≡ false = search rules in
    let so = l.invariant.so_far (l.invariant.still going) in
    let is : c.take_part.result ≡ Ok false = search rules in
    let n = c.take_part.ensures.none is in
    let remaining : c.take_part.new.self.remaining ≡ l.self.remaining = c.take_part.ensures.unchanged.0 in
    let p = err_from_is_err_and c.from_residual-in_err-fetch.result c.from_residual-in_err-fetch.ensures.1 in
    rw (p.1, p.2) (next.line_fails so going l.invariant.line n.0 c.take_part.new.self.line n.1 c.fetch.new.reader c.in_err-fetch.field-0.0 (rw remaining at c.in_err-fetch.ensures.fails))

pub returns-clause-end : goal.returns-clause-end
returns-clause-end g c is =
    let l = c.loop-self in
    let none : length l.self.line ≡ 0 = search (rules, is) in
    let empty : l.self.line ≡ [] = nil_from_length l.self.line none in
    let ended : l.self.ended ≡ true = search rules in
    let drained : l.self.rest ≡ [] = let i = c.self.invariant.3 in search (rules, i, ended) in
    next.finds_no_line c.args.self.now l.self c.args.reader.now l.reader ended empty drained (λ was. (l.invariant.no_read was).3) l.invariant.so_far
