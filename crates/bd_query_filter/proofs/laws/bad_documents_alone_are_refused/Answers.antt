use Rattle.bd_query_filter.proofs.FilterBadLemmas.{bad_where_refused, none_bad_where_taken}
use Rattle.bd_query_filter.proofs.laws.bad_documents_alone_are_refused.Goals as goal

pub returns-clause-taken : goal.returns-clause-taken
returns-clause-taken c = none_bad_where_taken

pub returns-clause-refused : goal.returns-clause-refused
returns-clause-refused c = bad_where_refused
