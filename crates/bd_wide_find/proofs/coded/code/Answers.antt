use Rattle.std.proofs.{Common.sym, lemmas.Result.err_from_is_err_and}
use Rattle.bd_value.specs.View.{pairs}
use Rattle.bd_wide_rank.specs.Table.{worths}
use Rattle.bd_wide_copy.specs.Dump.{bytes_of}
use Rattle.bd_wide_find.proofs.QuestionLemmas.{refused_over, searches_copy}
use Rattle.bd_wide_find.proofs.coded.code.Goals as goal

pub returns-in_err-search-clause-fault : goal.returns-in_err-search-clause-fault
returns-in_err-search-clause-fault c =
    let p = err_from_is_err_and c.from_residual-in_err-search.result c.from_residual-in_err-search.ensures.1 in
    let q = c.args.query.now in
    rw (p.1, p.2) (refused_over c.args.options.now q.numbers.items (pairs q.wholes) (pairs q.texts) (bytes_of c.args.dump.now) c.requires c.classes_of-longs.result c.classes_of-longs.ensures
    (sym (rw c.in_default.is at c.in_ok-split.ensures)) (worths c.in_ok-table.table) c.in_ok-table.ensures c.in_err-search.field-0.0 c.in_err-search.ensures.fault)

pub returns-clause-coded : goal.returns-clause-coded
returns-clause-coded c =
    let q = c.args.query.now in
    searches_copy c.args.options.now q.numbers.items (pairs q.wholes) (pairs q.texts) (bytes_of c.args.dump.now) c.requires c.classes_of-longs.result c.classes_of-longs.ensures
    (sym (rw c.in_default.is at c.in_ok-split.ensures)) (worths c.in_ok-table.table) c.in_ok-table.ensures _ c.in_ok-search.ensures.search c.in_ok-copy.ensures
