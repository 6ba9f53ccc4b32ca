use Rattle.std.proofs.Common.{Ok, inl, option_map, refl}
use Rattle.bd_path.specs.PathNames.{path_text}
use Rattle.std.proofs.lemmas.Result.{err_from_is_err_and}
use Rattle.bd_cursor_sort.specs.Selection.{query_of}
use Rattle.bd_cursor.specs.SessionView.{dump_of, given_batch, state_of}
use Rattle.bd_cli_find.specs.Find.{cursor_for}
use Rattle.bd_cli_find.specs.inside.Find.{IsOpenedOn}
use Rattle.bd_cli_find.proofs.BatchLemmas.{batch_given, opened_ready}
use Rattle.bd_cli_find.proofs.batch.first_batch.Goals as goal

pub returns-in_err-id-clause-batch : goal.returns-in_err-id-clause-batch
returns-in_err-id-clause-batch c =
    let r = c.from_residual in
    let p = err_from_is_err_and r.result r.ensures.1 in
    rw (p.1, p.2) c.in_err-id.ensures.opened

pub returns-in-Ok-clause-batch : goal.returns-in-Ok-clause-batch
returns-in-Ok-clause-batch c =
    let q = query_of (dump_of c.args.session.now) c.args.search.request in
    let index = option_map path_text c.args.search.index in
    let o : IsOpenedOn q c.args.search.token index (state_of c.open_first.new.session) (Ok c.in_ok-id.id) = c.in_ok-id.ensures.opened in
    let ready = opened_ready q c.args.search.token index (state_of c.open_first.new.session) c.in_ok-id.id c.requires.within_limit o in
    let b = batch_given (state_of c.open_first.new.session) c.in_ok-id.id c.most_of.result q.selection.count c.args.size (given_batch c.in-Ok.batch) ready c.most_of.ensures
    c.requires.fits c.in-Ok.ensures.steps.replies (cursor_for c.in_ok-id.id q c.args.search.token o.0) o.2 in
    (o.0, o.1, record { places = b.places; ends = b.ends; token = b.token })

pub returns-clause-batch : goal.returns-clause-batch
returns-clause-batch c = inl refl
