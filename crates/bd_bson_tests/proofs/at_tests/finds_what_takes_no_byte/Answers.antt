use Rattle.bd_value.specs.Tree.{leaf, null, undefined}
use Rattle.bd_bson_dump.specs.Collection.{bytes_of}
use Rattle.bd_bson_tests.proofs.at_tests.finds_what_takes_no_byte.Goals as goal

pub value_at-requires : goal.value_at-requires
value_at-requires g c = (leaf null, c.null.ensures (bytes_of c.in_ok-dump.dump))

pub value_at-requires-2 : goal.value_at-requires-2
value_at-requires-2 g c = (leaf undefined, c.undefined.ensures (bytes_of c.in_ok-dump.dump))
