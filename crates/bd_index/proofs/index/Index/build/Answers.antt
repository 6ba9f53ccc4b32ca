use Rattle.std.proofs.Common.{◌≡◌, false, length, arith, ap₂, ◌∙◌}
use Rattle.std.specs.Prelude.{nat_lt}
use Rattle.bd_bson_dump.specs.Collection.{documents}
use Rattle.bd_path.specs.PathNames.{names_of}
use Rattle.bd_index.specs.Entries.{entries_of}
use Rattle.bd_index.proofs.EntryLemmas.{many_by_count, size_stored}
use Rattle.bd_index.proofs.index.Index.build.Goals as goal

pub returns-clause-index : goal.returns-clause-index
returns-clause-index c =
    let path = names_of c.args.path in
    let ds = documents c.args.dump.now in
    let size = size_stored false path c.args.dump.now c.in_ok-entries.entries.items c.in_ok-entries.ensures in
    let long : c.len.result ≡ length (entries_of false path ds) = omega (arith, c.len.ensures, size) in
    record { keeps = c.in_ok-entries.ensures; many = ap₂ nat_lt c.len-2.ensures long ∙ many_by_count path 0 ds }
