use Rattle.std.proofs.Common.{◌∙◌}
use Rattle.bd_query_filter.specs.FilterMatch.{value_or_null}
use Rattle.bd_query.proofs.EndTestLemmas.{of_value}
use Rattle.bd_query.proofs.end_test.CandidateTestEndTest.test.Goals as goal

pub returns-in-Some : goal.returns-in-Some
returns-in-Some g c =
    rw c.in-Some.is (c.any_inside.ensures ∙ of_value (λ e. g.T.ValueTest.accepts c.args.self.now.0 (value_or_null e)) (g.N.Reading.tree c.in-Some.node))
