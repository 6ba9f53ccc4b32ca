use Rattle.std.proofs.Common.{rules, ◌≡◌, Ok, Err, true, false, ap}
use Rattle.std.proofs.{lemmas.Result.err_from_is_err_and, lemmas.Bool.cases_Bool, lemmas.Bool.false_from_ne_true}
use Rattle.bd_io_lines.proofs.ServingLemmas as serving
use Rattle.bd_io_lines.proofs.serving.reply_to_lines.Goals as goal

pub loop-text-init : goal.loop-text-init
loop-text-init g c = record {
  so_far = serving.begins g.R.Input.state g.R.Input.read_gives g.S.Replier.replies c.args.limits c.new-lines.result c.args.reader.now
      (g.O.Output.state c.args.out.now) c.args.session.now c.new-lines.ensures.empty.0 (search rules) c.new-lines.ensures.starts.0 (search rules);
  not_failed = c.new-lines.ensures.starts.1;
}

pub returns-in_err-read_next-clause-stops : goal.returns-in_err-read_next-clause-stops
returns-in_err-read_next-clause-stops g c =
    let l = c.loop-text in
    let e = c.in_err-read_next.ensures in
    let going : l.lines.ended ≡ false = false_from_ne_true l.lines.ended (λ over. let x = e.ends over l.invariant.not_failed in search (rules, x)) in
    let p = err_from_is_err_and c.from_residual.result c.from_residual.ensures.1 in
    rw (p.1, p.2) (serving.stops_unread l.invariant.so_far c.read_next.new.reader c.in_err-read_next.field-0.0 going (e.fails l.invariant.not_failed))

pub loop-text-smaller : goal.loop-text-smaller
loop-text-smaller g c =
    let l = c.loop-text in
    let was : c.read_next.result ≡ Ok true = search rules in
    let r = c.read_next.ensures.reads was in
    let next = c.read_next.new.self in
    serving.shrinks l.lines.remaining.bytes next.remaining.bytes l.lines.rest r.given next.line next.rest next.ended r.reads.capacity r.line

pub loop-text-preserved : goal.loop-text-preserved
loop-text-preserved g c =
    let l = c.loop-text in
    let was : c.read_next.result ≡ Ok true = search rules in
    let going : l.lines.ended ≡ false = false_from_ne_true l.lines.ended (λ over. let x = c.read_next.ensures.ends over l.invariant.not_failed in search (rules, was, x)) in
    let r = c.read_next.ensures.reads was in
    let fact = rw c.line.ensures.0 at c.in_ok-reply_to_line.ensures.replied in
    record {
      so_far = serving.goes_on l.invariant.so_far going r (g.O.Output.state c.reply_to_line.new.out) c.reply_to_line.new.session fact.0 fact.1 fact.2;
      not_failed = search rules;
    }

pub returns-in_err-reply_to_line-clause-stops : goal.returns-in_err-reply_to_line-clause-stops
returns-in_err-reply_to_line-clause-stops g c =
    let l = c.loop-text in
    let was : c.read_next.result ≡ Ok true = search rules in
    let going : l.lines.ended ≡ false = false_from_ne_true l.lines.ended (λ over. let x = c.read_next.ensures.ends over l.invariant.not_failed in search (rules, was, x)) in
    let r = c.read_next.ensures.reads was in
    let e = c.in_err-reply_to_line.ensures in
    let out_of_memory = rw c.line.ensures.0 at e.out_of_memory in
    let failed_write = rw c.line.ensures.0 at e.failed_write in
    let p = err_from_is_err_and c.from_residual-in_err-reply_to_line.result c.from_residual-in_err-reply_to_line.ensures.1 in
    rw (p.1, p.2) (serving.stops_answer l.invariant.so_far going r g.S.Replier.stays (g.O.Output.state c.reply_to_line.new.out) c.reply_to_line.new.session
    c.in_err-reply_to_line.field-0.0 e.read (λ h. let x = out_of_memory (ap Err h) in (x.0, ap g.O.Output.state x.1, x.2)) (λ h. failed_write (ap Err h)))

pub returns-clause-serves : goal.returns-clause-serves
returns-clause-serves g c =
    let l = c.loop-text in
    let was : c.read_next.result ≡ Ok false = search rules in
    serving.serves_end l.invariant.so_far c.read_next.new.self c.read_next.new.reader (cases_Bool l.lines.ended) (λ over. (c.read_next.ensures.no_read over).0) (c.read_next.ensures.end was)
