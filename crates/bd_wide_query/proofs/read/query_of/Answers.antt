use Rattle.std.proofs.Common.{Result, subst}
use Rattle.bd_value.specs.declared.document.Document.{Document}
use Rattle.bd_extjson_fault.specs.declared.json_fault.JsonFault.{JsonFault}
use Rattle.bd_wide_query.specs.inside.Read.{ReadsBoth}
use Rattle.bd_wide_query.proofs.ReadLemmas.{query_unread}
use Rattle.bd_wide_substitute.specs.Both.{both_documents}
use Rattle.bd_wide_query.proofs.read.query_of.Goals as goal

pub returns-in-Err-clause-fault : goal.returns-in-Err-clause-fault
returns-in-Err-clause-fault c some =
    let first = subst (λ (r : Result (Document × Document) JsonFault). ReadsBoth (both_documents c.requires.0) r) c.in-Err.is c.requires.3 in
    query_unread c.args.text.now c.requires.0 c.requires.1 c.in-Err.fault c.fault_of_line.result first (c.fault_of_line.ensures.at c.requires.0 c.requires.1) c.fault_of_line.ensures.kind some
