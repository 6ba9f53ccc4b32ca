use Rattle.bd_value.proofs.ViewLemmas.{scope_is}
use Rattle.bd_value.proofs.node.TreeReading.scope.Goals as goal

pub returns-in-Value-CodeScope-clause-scope : goal.returns-in-Value-CodeScope-clause-scope
returns-in-Value-CodeScope-clause-scope c =
    scope_is c.args.self c.in-Value-CodeScope.field-0 c.in-Value-CodeScope.field-0-0 c.in-Value-CodeScope.scope c.in-Value-CodeScope.is
    (rw c.in-Value-CodeScope.is at c.in-Value-CodeScope.field-0-is)
