use Rattle.std.proofs.Common.{◌≡◌, length}
use Rattle.std.specs.List.{list_any}
use Rattle.bd_value.specs.Tree.{elements_in, values_of}
use Rattle.bd_query.proofs.value_test.any_element.Given as goal

-- the rest of the array decides
abbrev pub invariant-loop-next : goal.invariant-loop-next
invariant-loop-next g l =
    list_any (g.T.ValueTest.accepts l.test) (values_of (g.N.Reading.remaining l.remaining))
    ≡ list_any (g.T.ValueTest.accepts l.test) (elements_in (g.N.Reading.tree l.fn.node))

abbrev pub decreases-loop-next : goal.decreases-loop-next
decreases-loop-next g l = length (g.N.Reading.remaining l.remaining)
