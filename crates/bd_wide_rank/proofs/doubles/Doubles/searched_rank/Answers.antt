use Rattle.std.proofs.Common.{sym}
use Rattle.std.proofs.lemmas.List.Sorted.{searched}
use Rattle.bd_wide_rank.proofs.RowLemmas.{double_found, double_not_found, keys_up}
use Rattle.std.specs.declared.result.Result.TheVariants.{Ok, Err}
use Rattle.bd_wide_rank.proofs.doubles.Doubles.searched_rank.Goals as goal

pub returns-in-Ok : goal.returns-in-Ok
returns-in-Ok c =
    let row = c.args.self.now in
    let keys = row.keys.items in
    let i = c.in-Ok.i in
    let found = searched keys c.args.key (Ok i) (rw c.deref.ensures.value at c.in-Ok.ensures.position) (keys_up keys c.requires.rising) in
    sym (double_found keys row.are_keys c.requires.rising c.args.key i found.0 found.1)

pub returns-in-Err : goal.returns-in-Err
returns-in-Err c =
    let row = c.args.self.now in
    let keys = row.keys.items in
    let i = c.in-Err.i in
    let found = searched keys c.args.key (Err i) (rw c.deref.ensures.value at c.in-Err.ensures.position) (keys_up keys c.requires.rising) in
    sym (double_not_found keys row.are_keys c.requires.rising c.args.key i c.requires.key found.0 found.1 found.2)
