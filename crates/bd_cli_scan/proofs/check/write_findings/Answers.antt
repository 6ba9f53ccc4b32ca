use Rattle.std.proofs.Common.{◌≡◌, ◌∙◌, ℕ, List, ◌++◌, Option, ap, append_assoc, codes, decimal, subst, [], ◌∷◌}
use Rattle.std.specs.Prelude.{OnErr, OnOk}
use Rattle.bd_io_device.specs.Devices.{TakesText, WriteFailsWithin, between}
use Rattle.bd_cli_scan.specs.{Check.check_counts, Output.reported_bytes, Output.wrong_line}
use Rattle.bd_io_device.proofs.DevicesLemmas.{write_fails_first}
use Rattle.bd_cli_scan.proofs.OutputLemmas.{on_err, second_err, second_ok}
use Rattle.bd_cli_scan.proofs.check.write_findings.Goals as goal

abbrev first : List ℕ → Option (List ℕ) → ℕ → List ℕ
first program message documents = wrong_line program message ++ (decimal documents ++ codes " documents, ")

abbrev second : ℕ → List ℕ
second faulty = decimal faulty ++ (codes " faulty" ++ 10 ∷ [])

joined : (program : List ℕ) (message : Option (List ℕ)) (documents faulty : ℕ)
    → first program message documents ++ second faulty ≡ wrong_line program message ++ check_counts documents faulty
joined program message documents faulty =
    append_assoc (wrong_line program message) (decimal documents ++ codes " documents, ") (second faulty)
    ∙ ap (λ (x : List ℕ). wrong_line program message ++ x) (append_assoc (decimal documents) (codes " documents, ") (second faulty))

pub returns-in_err-write_end-clause-err : goal.returns-in_err-write_end-clause-err
returns-in_err-write_end-clause-err g c =
    let e = g.E.Output.state in
    let message = reported_bytes c.args.message in
    let failed = write_fails_first (e c.args.err.now) (e c.write_end.new.err) (first c.args.program.now message c.args.documents) (second c.args.faulty)
    (rw c.from.ensures at c.in_err-write_end.ensures.err) in
    on_err c.from_residual.result _ (subst (λ (x : List ℕ). WriteFailsWithin (between (e c.args.err.now) (e c.write_end.new.err)) x) (joined c.args.program.now message c.args.documents c.args.faulty) failed)

pub returns-clause-ok : goal.returns-clause-ok
returns-clause-ok g c =
    let e = g.E.Output.state in
    let message = reported_bytes c.args.message in
    let took = second_ok c.write_count.result (e c.args.err.now) (e c.write_end.new.err) (e c.write_count.new.err) (first c.args.program.now message c.args.documents) (second c.args.faulty)
    (rw c.from.ensures at c.in_ok-write_end.ensures.ok) (rw c.from-2.ensures at c.write_count.ensures.ok) in
    subst (λ (x : List ℕ). OnOk c.write_count.result (TakesText (between (e c.args.err.now) (e c.write_count.new.err)) x)) (joined c.args.program.now message c.args.documents c.args.faulty) took

pub returns-clause-err : goal.returns-clause-err
returns-clause-err g c =
    let e = g.E.Output.state in
    let message = reported_bytes c.args.message in
    let failed = second_err c.write_count.result (e c.args.err.now) (e c.write_end.new.err) (e c.write_count.new.err) (first c.args.program.now message c.args.documents) (second c.args.faulty)
    (rw c.from.ensures at c.in_ok-write_end.ensures.ok) (rw c.from-2.ensures at c.write_count.ensures.err) in
    subst (λ (x : List ℕ). OnErr c.write_count.result (WriteFailsWithin (between (e c.args.err.now) (e c.write_count.new.err)) x)) (joined c.args.program.now message c.args.documents c.args.faulty) failed
