use Rattle.std.proofs.Common.{subst}
use Rattle.bd_cursor.specs.Access.{IsAccessOf}
use Rattle.bd_cursor.proofs.AccessLemmas.{index_source, lent_within, range_increases}
use Rattle.bd_cursor.proofs.access.Access.places.Goals as goal

pub ascending_places-requires-clause-ascends : goal.ascending_places-requires-clause-ascends
ascending_places-requires-clause-ascends c = range_increases c.new-scan.result.next _

pub ascending_places-requires-in-Bounded-clause-serves : goal.ascending_places-requires-in-Bounded-clause-serves
ascending_places-requires-in-Bounded-clause-serves c =
    let lead = subst (IsAccessOf c.args.dump.now c.args.request.now) c.in-Bounded.is c.requires.leads in
    index_source lead (lent_within c.as_ref.result c.as_ref.ensures.value c.in_ok-found-in-Bounded.ensures)
