use Rattle.std.proofs.Common.{sym}
use Rattle.std.proofs.lemmas.List.Sorted.{searched}
use Rattle.bd_wide_rank.specs.Worth.{worth_of}
use Rattle.bd_wide_rank.proofs.RowLemmas.{between_found, between_not_found, keys_up}
use Rattle.std.specs.declared.result.Result.TheVariants.{Ok, Err}
use Rattle.bd_wide_rank.proofs.doubles.Doubles.rank_between.Goals as goal

pub returns-in-Ok : goal.returns-in-Ok
returns-in-Ok c =
    let row = c.args.self.now in
    let keys = row.keys.items in
    let i = c.in-Ok.i in
    let b = c.args.number in
    let found = searched keys b.key (Ok i) (rw c.deref.ensures.value at c.in-Ok.ensures.position) (keys_up keys c.requires) in
    sym (between_found keys row.are_keys c.requires b.key (worth_of b.number) b.between i found.0 found.1)

pub returns-in-Err : goal.returns-in-Err
returns-in-Err c =
    let row = c.args.self.now in
    let keys = row.keys.items in
    let i = c.in-Err.i in
    let b = c.args.number in
    let found = searched keys b.key (Err i) (rw c.deref.ensures.value at c.in-Err.ensures.position) (keys_up keys c.requires) in
    sym (between_not_found keys row.are_keys c.requires b.key (worth_of b.number) b.between i found.0 found.1 found.2)
