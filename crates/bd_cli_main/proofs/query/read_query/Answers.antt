use Rattle.std.proofs.Common.{subst, vec_len}
use Rattle.std.specs.Prelude.{IfErr, IfOk}
use Rattle.bd_cli_main.specs.Query.{FailsToReadQuery, ReadsQuery}
use Rattle.bd_cli_main.proofs.QueryLemmas.{text_read, text_unread}
use Rattle.bd_cli_main.proofs.query.read_query.Goals as goal

pub returns-in-Ok-clause-text : goal.returns-in-Ok-clause-text
returns-in-Ok-clause-text g c =
    let e = c.read_all.ensures in
    let read = text_read (λ v. v.items) (λ v. vec_len v) (λ v. v.ok.0) g.R.Input.state g.R.Input.read_gives c.args.file.now c.read_all.new.reader c.read_all.result
    e.bytes e.whole e.short e.no_failure in
    subst (λ r. IfOk r (λ v. ReadsQuery g.R.Input.state g.R.Input.read_gives c.args.file.now c.read_all.new.reader v.items)) c.in-Ok.is read

pub returns-in-Err-clause-fault : goal.returns-in-Err-clause-fault
returns-in-Err-clause-fault g c =
    let e = c.read_all.ensures in
    let unread = text_unread (λ v. v.items) (λ v. vec_len v) (λ v. v.ok.0) g.R.Input.state g.R.Input.read_gives c.args.file.now c.read_all.new.reader c.read_all.result
    e.no_failure e.failed e.device e.too_long (λ is. let m = e.too_many is in (m.0, m.1, m.2)) (λ is. let m = e.memory is in (m.0, m.1, m.2, m.4, m.5)) in
    (c.in-Err.fault, subst (λ r. IfErr r (FailsToReadQuery g.R.Input.state g.R.Input.read_gives c.args.file.now c.read_all.new.reader)) c.in-Err.is unread, c.report_read_fault.ensures)
