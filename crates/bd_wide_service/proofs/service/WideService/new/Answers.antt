use Rattle.std.proofs.Common.{length, refl, subst, sym}
use Rattle.bd_bson_dump.specs.Collection.{documents}
use Rattle.bd_bson_dump.specs.declared.collection.Dump.{Dump}
use Rattle.bd_wide_rank.specs.Table.{worths}
use Rattle.bd_wide_copy.specs.Dump.{IsCount, bytes_of}
use Rattle.bd_wide_copy.specs.declared.longs.Longs.{Longs}
use Rattle.bd_wide_find.specs.Coded.{CopiesDump}
use Rattle.bd_wide_service.specs.inside.Call.{IsOver}
use Rattle.bd_wide_service.proofs.ServiceLemmas.{by_value, counted, service_over}
use Rattle.bd_wide_service.proofs.service.WideService.new.Goals as goal

pub invariant_of-result : goal.invariant_of-result
invariant_of-result c = record {
  counted =
      subst (λ (d : Dump). IsCount (bytes_of c.args.dump) (length (documents d))) (sym c.new.ensures.dump)
      (counted (bytes_of c.args.dump) (worths c.in_ok-table.table) c.in_ok-copy.copy c.requires.documents
      (subst (λ (l : Longs). CopiesDump l (bytes_of c.args.dump) (worths c.in_ok-table.table) c.in_ok-copy.copy) c.none.ensures c.in_ok-copy.ensures));
}

pub returns-clause-over : goal.returns-clause-over
returns-clause-over c =
    let (v, over) = by_value (bytes_of c.args.dump) (worths c.in_ok-table.table) c.in_ok-copy.copy c.requires.documents
    (subst (λ (l : Longs). CopiesDump l (bytes_of c.args.dump) (worths c.in_ok-table.table) c.in_ok-copy.copy) c.none.ensures c.in_ok-copy.ensures) c.in_ok-table.ensures in
    (v, service_over v _ refl (subst (λ (d : Dump). IsOver v (worths c.in_ok-table.table) d) (sym c.new.ensures.dump) over))
