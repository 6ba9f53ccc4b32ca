use Rattle.bd_value.specs.View.{kind_of}
use Rattle.bd_wide_query.proofs.KindLemmas.{named_by_class, operand_taken, other_kinds}
use Rattle.bd_wide_query.proofs.SplitLemmas.{two_enough}
use Rattle.bd_wide_query.proofs.laws.types_match_by_class.Goals as goal

pub returns-clause-numbers : goal.returns-clause-numbers
returns-clause-numbers c = λ query operand none there kinds is type z. named_by_class query operand (two_enough query none) there kinds is type z

pub returns-clause-others : goal.returns-clause-others
returns-clause-others c = λ longs operand kinds classed is by t narrow wide. other_kinds longs (kind_of t) narrow wide operand kinds classed is by

pub returns-clause-taken : goal.returns-clause-taken
returns-clause-taken c = λ longs operand kinds is. operand_taken longs operand kinds is
